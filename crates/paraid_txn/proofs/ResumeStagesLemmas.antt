-- The end of an interrupted commit, from stage to stage.
use Rattle.std.specs.Prelude.{◌≡◌, ◌≢◌, ◌⊎◌, ℕ, ◌+◌, ◌<◌, ◌≤◌, Bool, true, false, [], ◌∷◌, length, get_or, Option, Some}
use Rattle.std.proofs.Common.{refl, sym, ◌∙◌, ap, subst, inl, inr, arith, zero, suc}
use Rattle.std.proofs.lemmas.Bool.{cases_Bool, cases_eq, false≢true}
use Rattle.paraid_base.specs.declared.block.Block.{Block}
use Rattle.paraid_base.specs.Log.{body_place, log_least}
use Rattle.paraid_base.specs.Xor.{zero_block}
use Rattle.paraid_base.proofs.XorLemmas.{same_block}
use Rattle.paraid_rack.specs.declared.call.Call.TheVariants.{Read}
use Rattle.paraid_rack.specs.declared.call.Power.TheVariants.{Absent}
use Rattle.paraid_rack.specs.Atoms.{IsLeftByStop, IsSure}
use Rattle.paraid_rack.specs.Disks.{Disks, IsPresent, is_present, step}
use Rattle.paraid_rack.specs.Slots.{Agrees, Slot}
use Rattle.paraid_rack.specs.Told.{Ran, CrashTriple}
use Rattle.paraid_rack.specs.Trail.{Trail, now}
use Rattle.paraid_rack.proofs.AtomsLemmas.{left_sure, seen_sure, sync_power, sync_present, sync_size}
use Rattle.paraid_rack.proofs.EffectsLemmas.{Keeps}
use Rattle.paraid_rack.proofs.TrailsLemmas.{called, now-extend, stays}
use Rattle.paraid_txn.specs.Losses.{MayDo}
use Rattle.paraid_txn.specs.Losses.MayDo.{skipped, absent, called as made}
use Rattle.paraid_txn.specs.Resume.{AreOthersSame, LeadsResume, HoldsThroughResume, AreDisksSame, ShutSynced, ShutIn, ShutMetaSynced, ShutMeta, IsShutImage, HoldsThroughShut, job_on_other_log}
use Rattle.paraid_image.specs.Sides.{AreBlocksLogged, Batch, Says, is_open, stored_block}
use Rattle.paraid_image.specs.Batches.{batch_blocks}
use Rattle.paraid_txn.specs.CommitStages.{AllSynced, HoldsEarly, IsBlock, KeepsSlotsAndLogs, IsLiveLog, IsSpelled, Job, LayIn, HoldsLate, LogStage, IsBatchLogged, OpenStage, IsGateOpen, target_block, job_named, open_with, job_log}
use Rattle.paraid_image.specs.Standing.{other_log}
use Rattle.paraid_image.proofs.NeutralLemmas.{length-targets}
use Rattle.paraid_txn.proofs.PutsLemmas.{Puts, Settles}
use Rattle.paraid_txn.proofs.SpokenLemmas.{aside_says}
use Rattle.paraid_txn.proofs.StagesLemmas.{synced_but, place_synced, kept_on}
use Rattle.paraid_txn.proofs.WholeLemmas.{left_kept, stored_here}

-- A read leaves all that is known.

pub record Reads (s s' : Disks) : Type 1 where
  pub keeps : Keeps s s'
  pub sure : (d p : ℕ) (Q : Block → Type 0) → IsSure s d p Q → IsSure s' d p Q

pub read_step : (s : Disks) (d0 p0 : ℕ) (done : Bool) → Reads s (step (Read d0 p0 done) s)
unfolding step
read_step s d0 p0 done = record {
  keeps = record { present = sync_present s d0 done; power = sync_power s d0 done; size = sync_size s d0 done };
  sure = λ d p Q h. record { holds = λ here. h.holds (sync_present s d0 done d here) };
}

pub take_ran : {P A : Disks → Type 0} {old new : Option Trail} {slot : ℕ → Slot} {skip : Option ℕ} {d p : ℕ}
    → MayDo old new slot skip d (λ done. Read d p done)
    → ((s : Disks) → A s → P s) → ((s s' : Disks) → Reads s s' → A s → A s') → Ran old new (CrashTriple P A A)
take_ran {P} {A} {old} (skipped is same) is_a go = subst (λ (o : Option Trail). Ran old o (CrashTriple P A A)) (sym same) (stays P A A old is_a (λ t tells a. a))
take_ran {P} {A} {old} (absent gone same) is_a go = subst (λ (o : Option Trail). Ran old o (CrashTriple P A A)) (sym same) (stays P A A old is_a (λ t tells a. a))
take_ran {P} {A} {old} {new} {d} {p} (made not done grows) is_a go =
    called P A A old new (Read d p done) grows is_a is_a (λ s a. go s (step (Read d p done) s) (read_step s d p done) a)

-- What follows at the end from what is told of both ends.
pub upto_told : {P A B B' : Disks → Type 0} {old new : Option Trail} → ((s t : Trail) → old ≡ Some s → new ≡ Some t → A (now s) → B (now t) → B' (now t))
    → Ran old new (CrashTriple P A B) → Ran old new (CrashTriple P A B')
upto_told {P} {A} {B} {B'} {old} {new} promise ran t tells =
    let r = ran t tells in
    let here = ap now r.is ∙ now-extend r.from r.calls in
    record {
      from = r.from;
      was = r.was;
      calls = r.calls;
      is = r.is;
      holds = record { goes = λ a. let b = r.holds.goes a in (b.0, subst B' here (promise r.from t r.was tells a (subst B (sym here) b.1))) };
    }

-- from where nothing can be
pub never : {P Q A B C : Disks → Type 0} {old new : Option Trail} → Ran old new (CrashTriple P A B) → Ran old new (CrashTriple Q (λ s. ⊥) C)
never {P} {Q} {A} {B} {C} {old} {new} ran t tells =
    let r = ran t tells in
    record { from = r.from; was = r.was; calls = r.calls; is = r.is; holds = record { goes = λ a. absurd a } }

-- a batch that is logged from a place on stands there block by block
logged_each : (log : ℕ → Block) (p : ℕ) (batch : Batch) → AreBlocksLogged log p batch → (k : ℕ) → k < length batch → log (p + k) ≡ get_or (batch_blocks batch) k zero_block
logged_each log p [] each k lt = absurd (omega arith)
logged_each log p (w ∷ batch) each zero lt = let e : p + 0 ≡ p = omega arith in ap log e ∙ each.0
logged_each log p (w ∷ batch) each (suc k) lt = let e : p + suc k ≡ suc p + k = omega arith in ap log e ∙ logged_each log (suc p) batch each.1 k (omega arith)

pub same_read : (j : Job) (s s' : Disks) → Reads s s' → AreDisksSame j s → AreDisksSame j s'
same_read j s s' w c = record { kept = kept_on j s s' w.keeps c.kept; same = λ d p. w.sure d p _ (c.same d p) }

same_synced : (j : Job) (s : Disks) → AreDisksSame j s → AllSynced s
same_synced j s c = record { synced = λ d p. record { holds = λ here. (((c.same d p).holds here).0, tt) } }

module _ (j : Job) (good : IsSpelled j) where
  -- a log disk that says the batch by its open gate has it in its log, as long as its log is as it was
  module _ (s : Disks) (x : ℕ) (present : IsPresent s x → IsPresent j.start x) (large : IsPresent j.start x → log_least ≤ j.start.size x)
      (same : (p : ℕ) → p < log_least → IsSure s x p (IsBlock (j.start.block x p))) (says : IsPresent j.start x → Says j.start x (open_with j)) where
    sure_at : (p : ℕ) (Q : Block → Type 0) → p < log_least → (IsPresent j.start x → Q (stored_block j.start x p)) → IsSure s x p Q
    sure_at p Q lt holds = record {
      holds = λ here.
          let was = (same p lt).holds here in
          let there = present here in
          let size = large there in
          (was.0, subst Q (stored_here j.start x p there (omega arith) ∙ sym was.1) (holds there));
    }

    pub logged_same : IsBatchLogged j s x
    logged_same = record {
      meta = sure_at 2 (IsBlock j.spelled) (omega arith) (λ there. same_block _ _ ((says there).log.meta.bytes ∙ sym good.meta.bytes));
      list = sure_at 3 (IsBlock j.list) (omega arith) (λ there. same_block _ _ ((says there).log.list ∙ sym good.list));
      blocks = λ k lt.
          let few = good.in_range.few in
          let long = length-targets j.batch in
          sure_at (body_place k) (IsBlock (target_block j k)) (omega arith) (λ there. logged_each (stored_block j.start x) 4 j.batch (says there).log.blocks k lt);
    }

    pub opened_same : IsGateOpen s x
    opened_same = sure_at 0 (λ b. is_open b ≡ true) (omega arith) (λ there. (says there).gate)

  module _ (x : ℕ) (leads : LeadsResume j x) where
    abbrev y : ℕ
    y = other_log x

    abbrev jx : Job
    jx = job_on_other_log j x

    pub good_beside : IsSpelled jx
    good_beside = record { meta = good.meta; in_range = good.in_range; list = good.list; first = omega arith }

    or_other : (z : ℕ) → z < 2 → z ≢ x → z ≡ y
    or_other z low apart = let l = leads.live.0 in omega arith

    -- where the other log disk is open too, or is not there, or is left alone, the targets can be laid
    pub same_lay : (s : Disks) → AreDisksSame j s → (IsLiveLog j y → IsPresent j.start y → IsPresent s y → Says j.start y (open_with j)) → LayIn j 0 s
    same_lay s c says = record {
      core = record {
        beside = record { kept = c.kept; aside = record { log = λ z p low is lt. c.same z p } };
        logged = λ z live. (each z live).0;
        opened = λ z live. (each z live).1;
        others = λ d p far. inr (c.same d p);
        synced = λ d p. inr ((same_synced j s c).synced d p);
      };
      held = λ d p isin far. seen_sure (c.same d p);
    }
      where
        absent_all : (z : ℕ) → (IsPresent s z → ⊥) → IsBatchLogged j s z × IsGateOpen s z
        absent_all z gone = (
          record {
            meta = record { holds = λ here. absurd (gone here) };
            list = record { holds = λ here. absurd (gone here) };
            blocks = λ k lt. record { holds = λ here. absurd (gone here) };
          },
          record { holds = λ here. absurd (gone here) },
        )

        by : (z : ℕ) → IsLiveLog j z → (IsPresent s z → Says j.start z (open_with j)) → IsBatchLogged j s z × IsGateOpen s z
        by z live says_too = elim (is_here z) [
          | inr gone ↦ absent_all z gone
          | inl here ↦ (
            logged_same s z (c.kept.present z) (leads.large z live) (λ p lt. c.same z p) (λ there. says_too here),
            opened_same s z (c.kept.present z) (leads.large z live) (λ p lt. c.same z p) (λ there. says_too here),
          )
        ]
          where
            is_here : (z : ℕ) → IsPresent s z ⊎ (IsPresent s z → ⊥)
            is_here z = elim (cases_Bool (is_present (s.power z))) [ inl is ↦ inl is | inr off ↦ inr (λ is. false≢true (sym off ∙ is)) ]

        each : (z : ℕ) → IsLiveLog j z → IsBatchLogged j s z × IsGateOpen s z
        each z live = elim (cases_eq z x) [
          | inl is ↦ by z live (λ here. subst (λ (w : ℕ). Says j.start w (open_with j)) (sym is) (leads.says (c.kept.present x (subst (IsPresent s) is here))))
          | inr apart ↦
              let at = or_other z live.0 apart in
              by z live (λ here. subst (λ (w : ℕ). Says j.start w (open_with j)) (sym at)
              (says (subst (IsLiveLog j) at live) (c.kept.present y (subst (IsPresent s) at here)) (subst (IsPresent s) at here)))
        ]

    only_other : (z : ℕ) → IsLiveLog jx z → z ≡ y
    only_other z l = or_other z l.0 (λ is. l.1 (ap (λ (w : ℕ). Some w) (sym is)))

    pub log_open : (s : Disks) → LogStage jx (y + 1) s → OpenStage jx 0 s
    log_open s c = record {
      core = record {
        beside = c.core.beside;
        meta = c.core.meta;
        logged = λ z l. let is = only_other z l in c.core.logged z (omega arith) l;
        opened = λ n lt l. absurd (omega arith);
        waiting = λ n above below l. c.core.shut (job_log jx n) l;
        held = c.core.held;
      };
      synced = c.synced;
    }

    module _ (live : IsLiveLog j y) (closed : IsPresent j.start y → is_open (j.start.block y 0) ≡ false) where
      only : (z : ℕ) → IsLiveLog jx z → z ≡ y
      only z l = or_other z l.0 (λ is. l.1 (ap (λ (w : ℕ). Some w) (sym is)))

      -- the batch can be logged on the other log disk
      pub same_log : (s : Disks) → AreDisksSame j s → LogStage jx y s
      same_log s c = record {
        core = record {
          beside = record {
            kept = record {
              present = c.kept.present;
              power = c.kept.power;
              size = c.kept.size;
              large = λ z l here. c.kept.large z (subst (IsLiveLog j) (sym (only z l)) live) here;
            };
            aside = record { log = λ z p low is lt. c.same z p };
          };
          meta = λ z l. c.same z 1;
          shut = λ z l. record {
            holds = λ here.
                let was = (c.same z 0).holds here in
                let is = only z l in
                (was.0, ap is_open (was.1 ∙ ap (λ (w : ℕ). j.start.block w 0) is) ∙ closed (subst (IsPresent j.start) is (c.kept.present z here)));
          };
          logged = λ z lt l. let is = only z l in absurd (omega arith);
          held = λ d p far. c.same d p;
        };
        synced = same_synced j s c;
      }

      live_beside : IsLiveLog jx y
      live_beside = (live.0, λ is. let at : x ≡ y = cc in let l = leads.live.0 in absurd (omega arith))

      -- with it open too the targets can be laid
      pub open_lay : (s : Disks) → OpenStage jx 1 s → LayIn j 0 s
      open_lay s c = record {
        core = record {
          beside = record {
            kept = record {
              present = c.core.beside.kept.present;
              power = c.core.beside.kept.power;
              size = c.core.beside.kept.size;
              large = λ z l here. subst (λ (n : ℕ). log_least ≤ n) (sym (c.core.beside.kept.size z here)) (leads.large z l (c.core.beside.kept.present z here));
            };
            aside = record { log = λ z p low is lt. absurd (no_aside z low is) };
          };
          logged = λ z l. (each z l).0;
          opened = λ z l. (each z l).1;
          others = λ d p far. inr (c.core.held d p far);
          synced = λ d p. inr (c.synced.synced d p);
        };
        held = λ d p isin far. seen_sure (c.core.held d p far);
      }
        where
          no_aside : (z : ℕ) → z < 2 → job_named j ≡ Some z → ⊥
          no_aside z low is = elim (cases_eq z x) [
            | inl at ↦ leads.live.1 (is ∙ ap (λ (w : ℕ). Some w) at)
            | inr apart ↦ live.1 (is ∙ ap (λ (w : ℕ). Some w) (or_other z low apart))
          ]

          there : IsBatchLogged jx s y
          there = c.core.logged y live_beside

          each : (z : ℕ) → IsLiveLog j z → IsBatchLogged j s z × IsGateOpen s z
          each z l = elim (cases_eq z x) [
            | inl is ↦
                let same : (p : ℕ) → p < log_least → IsSure s z p (IsBlock (j.start.block z p)) = λ p lt. c.core.beside.aside.log z p l.0 (ap (λ (w : ℕ). Some w) (sym is)) lt in
                let says : IsPresent j.start z → Says j.start z (open_with j) = λ here. subst (λ (w : ℕ). Says j.start w (open_with j)) (sym is) (leads.says (subst (IsPresent j.start) is here)) in
                (logged_same s z (c.core.beside.kept.present z) (leads.large z l) same says, opened_same s z (c.core.beside.kept.present z) (leads.large z l) same says)
            | inr apart ↦
                let at = or_other z l.0 apart in
                subst (λ (w : ℕ). IsBatchLogged j s w × IsGateOpen s w) (sym at)
                (record { meta = there.meta; list = there.list; blocks = there.blocks }, c.core.opened 0 (omega arith) live_beside)
          ]

      -- while the batch is brought to it, what may be left is so
      pub resuming_early : (s : Disks) → HoldsEarly jx s → HoldsThroughResume j x s
      resuming_early s e = record {
        either = inl (λ i left.
            let early = e.early i left in
            let kept : KeepsSlotsAndLogs j i = record {
              present = early.kept.present;
              power = early.kept.power;
              size = early.kept.size;
              large = λ z l here. subst (λ (n : ℕ). log_least ≤ n) (sym (early.kept.size z here)) (leads.large z l (early.kept.present z here));
            } in
            record {
              kept = kept;
              first = λ here. aside_says j i kept x here (λ p lt. e.aside i left x p leads.live.0 refl lt here) (open_with j) (leads.says (kept.present x here));
              other = λ l here. elim (early.sides y live_beside here) [
                | inl shut ↦ inl (shut.0, closed (early.kept.present y here), shut.1)
                | inr opened ↦ inr opened
              ];
              held = early.held;
            });
        aside = λ i left z p low is lt here. absurd (elim (cases_eq z x) [
          | inl at ↦ leads.live.1 (is ∙ ap (λ (w : ℕ). Some w) at)
          | inr apart ↦ live.1 (is ∙ ap (λ (w : ℕ). Some w) (or_other z low apart))
        ]);
      }

    pub resuming_same : (s : Disks) → AreDisksSame j s → HoldsThroughResume j x s
    resuming_same s c = record {
      either = inl (λ i left.
          let kept = left_kept j s i c.kept left in
          record {
            kept = kept;
            first = λ here. aside_says j i kept x here (λ p lt. left_sure (c.same x p) left here) (open_with j) (leads.says (kept.present x here));
            other = λ l here. elim (leads.other l (kept.present y here)) [
              | inl closed ↦ inl (ap is_open (left_sure (c.same y 0) left here) ∙ closed, closed, left_sure (c.same y 1) left here)
              | inr opened ↦ inr (aside_says j i kept y here (λ p lt. left_sure (c.same y p) left here) (open_with j) opened)
            ];
            held = λ d p here far. left_sure (c.same d p) left here;
          });
      aside = λ i left z p low is lt here. left_sure (c.same z p) left here;
    }

    pub resuming_late : (s : Disks) → HoldsLate j s → HoldsThroughResume j x s
    resuming_late s l = record { either = inr l.late; aside = l.aside }

-- The other log disk is closed over the meta.
module _ (j : Job) (y : ℕ) (live : job_named j ≢ Some y) where
  rest_wrote : (p0 : ℕ) (b : Block) (s s' : Disks) → Puts (job_named j) s s' y p0 b → p0 < 2 → AreOthersSame j y s → AreOthersSame j y s'
  rest_wrote p0 b s s' w low c = record {
    kept = kept_on j s s' w.keeps c.kept;
    rest = λ d p far. w.sure d p _ (λ not at there. let f = far at in omega arith) (c.rest d p far);
  }

  rest_synced : (s s' : Disks) → Settles (job_named j) s s' y → AreOthersSame j y s → AreOthersSame j y s'
  rest_synced s s' w c = record { kept = kept_on j s s' w.keeps c.kept; rest = λ d p far. w.sure d p _ (c.rest d p far) }

  pub shut_meta : (s s' : Disks) → Puts (job_named j) s s' y 1 j.spelled → AreDisksSame j s → ShutMeta j y s'
  shut_meta s s' w c = record {
    core = rest_wrote 1 j.spelled s s' w (omega arith) (record { kept = c.kept; rest = λ d p far. c.same d p });
    gate = w.sure y 0 _ (λ not at there. omega arith) (c.same y 0);
    meta = λ not. w.here _ not refl;
    synced = synced_but (job_named j) s s' y 1 j.spelled w (same_synced j s c);
  }

  pub shut_mark : (s s' : Disks) → Settles (job_named j) s s' y → ShutMeta j y s → ShutMetaSynced j y s'
  shut_mark s s' w c = record {
    core = rest_synced s s' w c.core;
    gate = w.sure y 0 _ c.gate;
    meta = λ not. w.here 1 _ not (c.meta not);
    synced = place_synced (job_named j) s s' y w c.synced;
  }

  pub shut_write : (b : Block) (s s' : Disks) → is_open b ≡ false → Puts (job_named j) s s' y 0 b → ShutMetaSynced j y s → ShutIn j y s'
  shut_write b s s' shuts w c = record {
    core = rest_wrote 0 b s s' w (omega arith) c.core;
    meta = λ not. w.sure y 1 _ (λ _ at there. omega arith) (c.meta not);
    gate = λ not. w.here _ not shuts;
    synced = synced_but (job_named j) s s' y 0 b w c.synced;
  }

  pub shut_sync : (s s' : Disks) → Settles (job_named j) s s' y → ShutIn j y s → ShutSynced j y s'
  shut_sync s s' w c = record {
    core = rest_synced s s' w c.core;
    meta = λ not. w.sure y 1 _ (c.meta not);
    gate = λ not. w.here 0 _ not (c.gate not);
    synced = place_synced (job_named j) s s' y w c.synced;
  }

  shuts_rest : (s i : Disks) → AreOthersSame j y s → IsLeftByStop s i
      → (IsPresent i y → ((is_open (i.block y 0) ≡ is_open (j.start.block y 0)) × (is_open (i.block y 0) ≡ false → i.block y 1 ≡ j.start.block y 1))
      ⊎ ((job_named j ≢ Some y) × (is_open (i.block y 0) ≡ false) × (i.block y 1 ≡ j.spelled))) → IsShutImage j y i
  shuts_rest s i c left log = record { kept = left_kept j s i c.kept left; rest = λ d p here far. left_sure (c.rest d p far) left here; still = λ p is here. absurd (live is); log = log }

  module _ (opened : is_open (j.start.block y 0) ≡ true) where
    still_open : (s i : Disks) → IsSure s y 0 (IsBlock (j.start.block y 0)) → IsLeftByStop s i → IsPresent i y
        → ((is_open (i.block y 0) ≡ is_open (j.start.block y 0)) × (is_open (i.block y 0) ≡ false → i.block y 1 ≡ j.start.block y 1))
    still_open s i gate left here =
        let same = ap is_open (left_sure gate left here) in
        (same, λ shut. absurd (false≢true (sym shut ∙ same ∙ opened)))

    pub shutting_meta : (s : Disks) → ShutMeta j y s → HoldsThroughShut j y s
    shutting_meta s c = record { each = λ i left. shuts_rest s i c.core left (λ here. inl (still_open s i c.gate left here)) }

    pub shutting_marked : (s : Disks) → ShutMetaSynced j y s → HoldsThroughShut j y s
    shutting_marked s c = record { each = λ i left. shuts_rest s i c.core left (λ here. inl (still_open s i c.gate left here)) }

    pub shutting_in : (s : Disks) → ShutIn j y s → HoldsThroughShut j y s
    shutting_in s c = record {
      each = λ i left. shuts_rest s i c.core left (λ here. elim (cases_Bool (is_open (i.block y 0))) [
        | inl on ↦ inl (on ∙ sym opened, λ shut. absurd (false≢true (sym shut ∙ on)))
        | inr off ↦ inr (live, off, left_sure (c.meta live) left here)
      ]);
    }

    pub shutting_done : (s : Disks) → ShutSynced j y s → HoldsThroughShut j y s
    shutting_done s c = record { each = λ i left. shuts_rest s i c.core left (λ here. inr (live, left_sure (c.gate live) left here, left_sure (c.meta live) left here)) }

pub shutting_same : (j : Job) (y : ℕ) (s : Disks) → AreDisksSame j s → HoldsThroughShut j y s
shutting_same j y s c = record {
  each = λ i left. record {
    kept = left_kept j s i c.kept left;
    rest = λ d p here far. left_sure (c.same d p) left here;
    still = λ p is here. left_sure (c.same y p) left here;
    log = λ here. inl (ap is_open (left_sure (c.same y 0) left here), λ shut. left_sure (c.same y 1) left here);
  };
}

-- What a read of a gate tells

present_by : {s : Disks} {slot : ℕ → Slot} (d : ℕ) → Agrees s slot → is_present (slot d).power ≡ true → IsPresent s d
present_by {s} {slot} d agrees here = ap is_present (agrees.power d) ∙ here

pub absent_by : {s : Disks} {slot : ℕ → Slot} (d : ℕ) → Agrees s slot → (slot d).power ≡ Absent → IsPresent s d → ⊥
absent_by {s} {slot} d agrees gone here = false≢true (sym (ap is_present (agrees.power d ∙ gone)) ∙ here)

-- the block that was read is the one at the start
pub read_start : (j : Job) (y : ℕ) {told : Option Trail} {slot : ℕ → Slot} {b : Block} → ((t : Trail) → told ≡ Some t → Agrees (now t) slot)
    → is_present (slot y).power ≡ true → ((t : Trail) → told ≡ Some t → b ≡ (now t).block y 0)
    → (t : Trail) → told ≡ Some t → AreDisksSame j (now t) → b ≡ j.start.block y 0
read_start j y agrees here bytes t tells same = bytes t tells ∙ ((same.same y 0).holds (present_by y (agrees t tells) here)).1

-- the same job, from disks that are full of this block
abbrev pub filled : Job → Block → Job
filled j b = record j { start = record j.start { block = λ d p. b } }

pub good_filled : (j : Job) (b : Block) → IsSpelled j → IsSpelled (filled j b)
good_filled j b good = record { meta = good.meta; in_range = good.in_range; list = good.list; first = good.first }
