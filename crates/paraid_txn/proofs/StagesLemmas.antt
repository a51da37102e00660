-- From stage to stage of a commit.
use Rattle.std.specs.Prelude.{◌≡◌, ◌≢◌, ◌⊎◌, ℕ, ◌+◌, ◌<◌, ◌≤◌, true, false, length, Option, Some}
use Rattle.std.proofs.Common.{refl, sym, ap, subst, ◌∙◌, inl, inr, ⊎_elim, arith, below_more, zero, suc}
use Rattle.std.proofs.lemmas.Bool.{cases_eq, cases_lt, false≢true}
use Rattle.std.proofs.lemmas.List.{take_all}
use Rattle.paraid_base.specs.declared.block.Block.{Block}
use Rattle.paraid_base.specs.Log.{batch_room, body_place, log_least}
use Rattle.paraid_rack.specs.Atoms.{IsSeen, IsSure}
use Rattle.paraid_rack.specs.Disks.{Disks}
use Rattle.paraid_rack.proofs.AtomsLemmas.{seen_sure}
use Rattle.paraid_rack.proofs.EffectsLemmas.{Keeps, synced_sure}
use Rattle.paraid_image.specs.Neutral.{names_place}
use Rattle.paraid_image.specs.Sides.{Batch, is_open}
use Rattle.paraid_txn.specs.CommitStages.{AllSynced, CloseStage, CloseIn, IsSyncedPlace, SyncedBut, IsBlock, HoldsThroughout, GetsTargets, KeepsSlotsAndLogs, IsLiveLog, IsSpelled, Job, ContentsAreNew, LayIn, LayCore, LogStage, LogIn, LogMeta, IsBatchLogged, LogCore, MarkStage, MarkIn, OpenStage, OpenIn, IsGateOpen, SyncIn, IsGateClosed, ContentsAreOld, target_block, job_gone, job_named, job_log, block_before}
use Rattle.paraid_image.specs.Standing.{overlaid_block}
use Rattle.paraid_txn.proofs.PutsLemmas.{Puts, Settles, skips}
use Rattle.paraid_image.proofs.NeutralLemmas.{length-targets}
use Rattle.paraid_image.proofs.BatchesLemmas.{names_place-at}
use Rattle.paraid_txn.proofs.TargetsLemmas.{overlaid_block-next_else, overlaid_block-next_here, target_at}

-- this place, or another
same_or_apart : (d p d0 p0 : ℕ) → ((d ≡ d0) × (p ≡ p0)) ⊎ (d ≡ d0 → p ≢ p0)
same_or_apart d p d0 p0 = elim (cases_eq d d0) [
  | inl is ↦ elim (cases_eq p p0) [ inl there ↦ inl (is, there) | inr not ↦ inr (λ _. not) ]
  | inr not ↦ inr (λ is. absurd (not is))
]

-- a place of the batch in the log is apart from the gate, the meta and what is past the log
elsewhere : (p q : ℕ) → (p < 2) ⊎ (log_least ≤ p) → 2 ≤ q → q < log_least → q ≢ p
elsewhere p q (inl low) from to = λ is. omega arith
elsewhere p q (inr far) from to = λ is. omega arith

-- What every step keeps

module _ (j : Job) where
  pub kept_on : (s s' : Disks) → Keeps s s' → KeepsSlotsAndLogs j s → KeepsSlotsAndLogs j s'
  kept_on s s' w k = record {
    present = λ d here. k.present d (w.present d here);
    power = λ d here. w.power d here ∙ k.power d (w.present d here);
    size = λ d here. w.size d here ∙ k.size d (w.present d here);
    large = λ x live here. subst (λ (n : ℕ). log_least ≤ n) (sym (w.size x here)) (k.large x live (w.present x here));
  }

  -- a write of a log place leaves the disk that is named out alone
  beside_logged : (s s' : Disks) (d0 p0 : ℕ) (b : Block) → Puts (job_named j) s s' d0 p0 b → HoldsThroughout j s → HoldsThroughout j s'
  beside_logged s s' d0 p0 b w c = record {
    kept = kept_on s s' w.keeps c.kept;
    aside = record {
      log = λ y p log_disk is low. w.sure y p _ (λ not at. absurd (not (is ∙ ap (λ (x : ℕ). Some x) at))) (c.aside.log y p log_disk is low);
    };
  }

  -- and so does a write past the log
  beside_past : (skip : Option ℕ) (s s' : Disks) (d0 p0 : ℕ) (b : Block) → log_least ≤ p0 → Puts skip s s' d0 p0 b → HoldsThroughout j s → HoldsThroughout j s'
  beside_past skip s s' d0 p0 b far w c = record {
    kept = kept_on s s' w.keeps c.kept;
    aside = record { log = λ y p log_disk is low. w.sure y p _ (λ not at there. omega arith) (c.aside.log y p log_disk is low) };
  }

  beside_synced : (skip : Option ℕ) (s s' : Disks) (d0 : ℕ) → Settles skip s s' d0 → HoldsThroughout j s → HoldsThroughout j s'
  beside_synced skip s s' d0 w c = record {
    kept = kept_on s s' w.keeps c.kept;
    aside = record { log = λ y p log_disk is low. w.sure y p _ (c.aside.log y p log_disk is low) };
  }

  untouched_logged : (skip : Option ℕ) (s s' : Disks) (d0 p0 : ℕ) (b : Block) → p0 < log_least → Puts skip s s' d0 p0 b → ContentsAreOld j s → ContentsAreOld j s'
  untouched_logged skip s s' d0 p0 b low w held d p far = w.sure d p _ (λ not at there. omega arith) (held d p far)

  untouched_synced : (skip : Option ℕ) (s s' : Disks) (d0 : ℕ) → Settles skip s s' d0 → ContentsAreOld j s → ContentsAreOld j s'
  untouched_synced skip s s' d0 w held d p far = w.sure d p _ (held d p far)

  laid_logged : (skip : Option ℕ) (s s' : Disks) (d0 p0 : ℕ) (b : Block) → p0 < log_least → Puts skip s s' d0 p0 b → ContentsAreNew j s → ContentsAreNew j s'
  laid_logged skip s s' d0 p0 b low w held d p is far = w.sure d p _ (λ not at there. omega arith) (held d p is far)

  laid_synced : (skip : Option ℕ) (s s' : Disks) (d0 : ℕ) → Settles skip s s' d0 → ContentsAreNew j s → ContentsAreNew j s'
  laid_synced skip s s' d0 w held d p is far = w.sure d p _ (held d p is far)

-- Which disks are synced

module _ (skip : Option ℕ) (s s' : Disks) (k : ℕ) where
  pub synced_wrote : (p0 : ℕ) (b : Block) → Puts skip s s' k p0 b → SyncedBut skip k s → SyncedBut skip k s'
  synced_wrote p0 b w synced = record { synced = λ d p apart. w.sure d p _ (λ not at. absurd (apart not at)) (synced.synced d p apart) }

  pub synced_but : (p0 : ℕ) (b : Block) → Puts skip s s' k p0 b → AllSynced s → SyncedBut skip k s'
  synced_but p0 b w synced = record { synced = λ d p apart. w.sure d p _ (λ not at. absurd (apart not at)) (synced.synced d p) }

  pub place_synced : Settles skip s s' k → SyncedBut skip k s → AllSynced s'
  place_synced w synced = record {
    synced = λ d p. elim (skips skip k) [
      | inl is ↦ w.sure d p _ (synced.synced d p (λ not. absurd (not is)))
      | inr not ↦ elim (cases_eq d k) [
        | inl at ↦ subst (λ (e : ℕ). IsSyncedPlace s' e p) (sym at) (w.here p _ not (record { holds = λ here. tt }))
        | inr away ↦ w.sure d p _ (synced.synced d p (λ _. away))
      ]
    ];
  }

module _ (j : Job) (good : IsSpelled j) where
  fits : length j.batch ≤ batch_room
  fits = let few = good.in_range.few in let same = length-targets j.batch in omega arith

  logged_wrote : (skip : Option ℕ) (s s' : Disks) (d0 p0 : ℕ) (b : Block) (x : ℕ) → Puts skip s s' d0 p0 b
      → (skip ≢ Some d0 → x ≡ d0 → (p0 < 2) ⊎ (log_least ≤ p0)) → IsBatchLogged j s x → IsBatchLogged j s' x
  logged_wrote skip s s' d0 p0 b x w apart l =
      let few = fits in
      record {
        meta = w.sure x 2 _ (λ not at. elsewhere p0 2 (apart not at) (omega arith) (omega arith)) l.meta;
        list = w.sure x 3 _ (λ not at. elsewhere p0 3 (apart not at) (omega arith) (omega arith)) l.list;
        blocks = λ k lt. w.sure x (body_place k) _ (λ not at. elsewhere p0 (body_place k) (apart not at) (omega arith) (omega arith)) (l.blocks k lt);
      }

  logged_synced : (skip : Option ℕ) (s s' : Disks) (d0 x : ℕ) → Settles skip s s' d0 → IsBatchLogged j s x → IsBatchLogged j s' x
  logged_synced skip s s' d0 x w l = record { meta = w.sure x 2 _ l.meta; list = w.sure x 3 _ l.list; blocks = λ k lt. w.sure x (body_place k) _ (l.blocks k lt) }

  -- Step 1

  logging_wrote : (k p0 : ℕ) (b : Block) (s s' : Disks) → Puts (job_named j) s s' k p0 b → 2 ≤ p0 → p0 < log_least → LogCore j k s → LogCore j k s'
  logging_wrote k p0 b s s' w from to c = record {
    beside = beside_logged j s s' k p0 b w c.beside;
    meta = λ x live. w.sure x 1 _ (λ not at there. omega arith) (c.meta x live);
    shut = λ x live. w.sure x 0 _ (λ not at there. omega arith) (c.shut x live);
    logged = λ x below live. logged_wrote (job_named j) s s' k p0 b x w (λ not at. absurd (omega arith)) (c.logged x below live);
    held = untouched_logged j (job_named j) s s' k p0 b to w c.held;
  }

  pub log_meta : (k : ℕ) (s s' : Disks) → Puts (job_named j) s s' k 2 j.spelled → LogStage j k s → LogMeta j k s'
  log_meta k s s' w c = record {
    core = logging_wrote k 2 j.spelled s s' w (omega arith) (omega arith) c.core;
    synced = synced_but (job_named j) s s' k 2 j.spelled w c.synced;
    meta = λ not. w.here _ not refl;
  }

  pub log_list : (k : ℕ) (s s' : Disks) → Puts (job_named j) s s' k 3 j.list → LogMeta j k s → LogIn j k 0 s'
  log_list k s s' w c = record {
    core = logging_wrote k 3 j.list s s' w (omega arith) (omega arith) c.core;
    synced = synced_wrote (job_named j) s s' k 3 j.list w c.synced;
    meta = λ not. w.seen k 2 _ (λ _ at there. omega arith) (c.meta not);
    list = λ not. w.here _ not refl;
    blocks = λ m lt not. absurd (omega arith);
  }

  pub log_block : (k n : ℕ) (s s' : Disks) → n < length j.batch → Puts (job_named j) s s' k (body_place n) (target_block j n) → LogIn j k n s → LogIn j k (n + 1) s'
  log_block k n s s' lt w c =
      let few = fits in
      record {
        core = logging_wrote k (body_place n) (target_block j n) s s' w (omega arith) (omega arith) c.core;
        synced = synced_wrote (job_named j) s s' k (body_place n) (target_block j n) w c.synced;
        meta = λ not. w.seen k 2 _ (λ _ at there. omega arith) (c.meta not);
        list = λ not. w.seen k 3 _ (λ _ at there. omega arith) (c.list not);
        blocks = below_more (λ m. job_named j ≢ Some k → IsSeen s' k (body_place m) (IsBlock (target_block j m))) n
            (λ m below not. w.seen k (body_place m) _ (λ _ at there. omega arith) (c.blocks m below not)) (λ not. w.here _ not refl);
      }

  pub log_sync : (k : ℕ) (s s' : Disks) → Settles (job_named j) s s' k → LogIn j k (length j.batch) s → LogStage j (k + 1) s'
  log_sync k s s' w c = record {
    core = record {
      beside = beside_synced j (job_named j) s s' k w c.core.beside;
      meta = λ x live. w.sure x 1 _ (c.core.meta x live);
      shut = λ x live. w.sure x 0 _ (c.core.shut x live);
      logged = below_more (λ x. IsLiveLog j x → IsBatchLogged j s' x) k
          (λ x below live. logged_synced (job_named j) s s' k x w (c.core.logged x below live))
          (λ live. record {
            meta = w.here 2 _ live.1 (c.meta live.1);
            list = w.here 3 _ live.1 (c.list live.1);
            blocks = λ m lt. w.here (body_place m) _ live.1 (c.blocks m lt live.1);
          });
      held = untouched_synced j (job_named j) s s' k w c.core.held;
    };
    synced = place_synced (job_named j) s s' k w c.synced;
  }

  turn_below : (n : ℕ) → job_log j n < 2
  turn_below zero = good.first
  turn_below (suc n) = let low = good.first in omega arith

  turns_apart : (n k : ℕ) → n < 2 → k < 2 → n ≢ k → job_log j n ≢ job_log j k
  turns_apart zero zero ln lk apart = absurd (apart refl)
  turns_apart zero (suc k) ln lk apart = let low = good.first in λ is. omega arith
  turns_apart (suc n) zero ln lk apart = let low = good.first in λ is. omega arith
  turns_apart (suc n) (suc k) ln lk apart = absurd (apart (omega arith))

  power_call_of : (x : ℕ) → x < 2 → (n : ℕ) × (n < 2) × (job_log j n ≡ x)
  power_call_of x low = elim (cases_eq j.first x) [
    | inl is ↦ (0, omega arith, is)
    | inr apart ↦ (1, omega arith, let l = good.first in omega arith)
  ]

  pub log_end : (s : Disks) → LogStage j 2 s → OpenStage j 0 s
  log_end s c = record {
    core = record {
      beside = c.core.beside;
      meta = c.core.meta;
      logged = λ x live. c.core.logged x live.0 live;
      opened = λ n lt live. absurd (omega arith);
      waiting = λ n lt low live. c.core.shut (job_log j n) live;
      held = c.core.held;
    };
    synced = c.synced;
  }

  -- Step 2

  pub open_write : (k : ℕ) (b : Block) (s s' : Disks) → k < 2 → is_open b ≡ true → Puts (job_named j) s s' (job_log j k) 0 b → OpenStage j k s → OpenIn j k s'
  open_write k b s s' low opens w c = record {
    core = record {
      beside = beside_logged j s s' (job_log j k) 0 b w c.core.beside;
      meta = λ x live. w.sure x 1 _ (λ not at there. omega arith) (c.core.meta x live);
      logged = λ x live. logged_wrote (job_named j) s s' (job_log j k) 0 b x w (λ not at. inl (omega arith)) (c.core.logged x live);
      opened = λ n below live. w.sure (job_log j n) 0 _
          (λ not at. absurd (turns_apart n k (omega arith) low (λ is. omega arith) at)) (c.core.opened n below live);
      waiting = λ n above low_too live. w.sure (job_log j n) 0 _
          (λ not at. absurd (turns_apart n k low_too low (λ is. omega arith) at)) (c.core.waiting n above low_too live);
      held = untouched_logged j (job_named j) s s' (job_log j k) 0 b (omega arith) w c.core.held;
    };
    synced = synced_but (job_named j) s s' (job_log j k) 0 b w c.synced;
    gate = λ not. w.here _ not opens;
  }

  pub open_sync : (k : ℕ) (s s' : Disks) → Settles (job_named j) s s' (job_log j k) → OpenIn j k s → OpenStage j (k + 1) s'
  open_sync k s s' w c = record {
    core = record {
      beside = beside_synced j (job_named j) s s' (job_log j k) w c.core.beside;
      meta = λ x live. w.sure x 1 _ (c.core.meta x live);
      logged = λ x live. logged_synced (job_named j) s s' (job_log j k) x w (c.core.logged x live);
      opened = below_more (λ n. IsLiveLog j (job_log j n) → IsGateOpen s' (job_log j n)) k
          (λ n below live. w.sure (job_log j n) 0 _ (c.core.opened n below live)) (λ live. w.here 0 _ live.1 (c.gate live.1));
      waiting = λ n above low_too live. w.sure (job_log j n) 0 _ (c.core.waiting n (omega arith) low_too live);
      held = untouched_synced j (job_named j) s s' (job_log j k) w c.core.held;
    };
    synced = place_synced (job_named j) s s' (job_log j k) w c.synced;
  }

  pub open_end : (s : Disks) → OpenStage j 2 s → LayIn j 0 s
  open_end s c = record {
    core = record {
      beside = c.core.beside;
      logged = c.core.logged;
      opened = λ x live.
          let n = power_call_of x live.0 in
          subst (λ (y : ℕ). IsGateOpen s y) n.2 (c.core.opened n.0 n.1 (subst (IsLiveLog j) (sym n.2) live));
      others = λ d p far. inr (c.core.held d p far);
      synced = λ d p. inr (c.synced.synced d p);
    };
    held = λ d p isin far. seen_sure (c.core.held d p far);
  }

  -- Step 3

  laying_wrote : (d0 p0 : ℕ) (b : Block) (s s' : Disks) → names_place j.batch d0 p0 ≡ true → log_least ≤ p0
      → Puts (job_gone j) s s' d0 p0 b → LayCore j s → LayCore j s'
  laying_wrote d0 p0 b s s' on far w c = record {
    beside = beside_past j (job_gone j) s s' d0 p0 b far w c.beside;
    logged = λ x live. logged_wrote (job_gone j) s s' d0 p0 b x w (λ not at. inr far) (c.logged x live);
    opened = λ x live. w.sure x 0 _ (λ not at there. omega arith) (c.opened x live);
    others = λ d p high. elim (same_or_apart d p d0 p0) [
      | inl at ↦ inl (target d p at.0 at.1)
      | inr apart ↦ ⊎_elim (λ on. inl on) (λ sure. inr (w.sure d p _ (λ not. apart) sure)) (c.others d p high)
    ];
    synced = λ d p. elim (same_or_apart d p d0 p0) [
      | inl at ↦ elim (skips (job_gone j) d0) [
        | inl is ↦ ⊎_elim (λ on. inl on) (λ sure. inr (w.sure d p _ (λ not. absurd (not is)) sure)) (c.synced d p)
        | inr not ↦ inl (target d p at.0 at.1, subst (GetsTargets j) (sym at.0) not)
      ]
      | inr apart ↦ ⊎_elim (λ on. inl on) (λ sure. inr (w.sure d p _ (λ not. apart) sure)) (c.synced d p)
    ];
  }
    where
      target : (d p : ℕ) → d ≡ d0 → p ≡ p0 → names_place j.batch d p ≡ true
      target d p at there = rw (at, there) on

  pub lay_one : (n : ℕ) (s s' : Disks) → n < length j.batch → log_least ≤ (target_at j.batch n).place
      → Puts (job_gone j) s s' (target_at j.batch n).disk (target_at j.batch n).place (target_block j n) → LayIn j n s → LayIn j (n + 1) s'
  lay_one n s s' lt far w c =
      let t = target_at j.batch n in
      record {
        core = laying_wrote t.disk t.place (target_block j n) s s' (names_place-at j.batch n t lt refl) far w c.core;
        held = λ d p isin high. elim (same_or_apart d p t.disk t.place) [
          | inl at ↦
              let here : IsSeen s' t.disk t.place (IsBlock (target_block j n)) = w.here _ (subst (GetsTargets j) at.0 isin) refl in
              rw (overlaid_block-next_here j.batch n d p (block_before j d p) lt at.0 at.1) (rw (at.0, at.1) here)
          | inr apart ↦ rw (overlaid_block-next_else j.batch n d p (block_before j d p) lt apart) (w.seen d p _ (λ not. apart) (c.held d p isin high))
        ];
      }

  pub lay_end : (n : ℕ) → length j.batch ≡ n → (s : Disks) → LayIn j n s → SyncIn j 0 s
  lay_end n all s c = record {
    core = c.core;
    held = λ d p isin far. subst (λ (l : Batch). IsSeen s d p (IsBlock (overlaid_block l d p (block_before j d p)))) (take_all n j.batch (omega arith)) (c.held d p isin far);
    synced = λ d p lt. absurd (omega arith);
  }

  laying_synced : (s s' : Disks) (d0 : ℕ) → Settles (job_gone j) s s' d0 → LayCore j s → LayCore j s'
  laying_synced s s' d0 w c = record {
    beside = beside_synced j (job_gone j) s s' d0 w c.beside;
    logged = λ x live. logged_synced (job_gone j) s s' d0 x w (c.logged x live);
    opened = λ x live. w.sure x 0 _ (c.opened x live);
    others = λ d p high. ⊎_elim (λ on. inl on) (λ sure. inr (w.sure d p _ sure)) (c.others d p high);
    synced = λ d p. ⊎_elim (λ on. inl on) (λ sure. inr (w.sure d p _ sure)) (c.synced d p);
  }

  pub sync_target_slot : (n : ℕ) (s s' : Disks) → Settles (job_gone j) s s' n → SyncIn j n s → SyncIn j (n + 1) s'
  sync_target_slot n s s' w c = record {
    core = laying_synced s s' n w c.core;
    held = λ d p isin far. w.seen d p _ (c.held d p isin far);
    synced = λ d p lt. below_more (λ e. (q : ℕ) → IsSyncedPlace s' e q) n (λ e below q. w.sure e q _ (c.synced e q below)) here d lt p;
  }
    where
      here : (q : ℕ) → IsSyncedPlace s' n q
      here q = elim (skips (job_gone j) n) [
        | inl is ↦ w.sure n q _ (⊎_elim (λ on. absurd (on.1 is)) (λ synced. synced) (c.core.synced n q))
        | inr not ↦ w.here q _ not (record { holds = λ there. tt })
      ]

  -- a disk that has no targets needs no sync
  pub sync_in_none : (n : ℕ) (s : Disks) → ((p : ℕ) → names_place j.batch n p ≡ false) → SyncIn j n s → SyncIn j (n + 1) s
  sync_in_none n s off c = record {
    core = c.core;
    held = c.held;
    synced = λ d p lt. below_more (λ e. (q : ℕ) → IsSyncedPlace s e q) n (λ e below q. c.synced e q below)
        (λ q. ⊎_elim (λ on. absurd (false≢true (sym (off q) ∙ on.0))) (λ synced. synced) (c.core.synced n q)) d lt p;
  }

  pub sync_in_end : (n : ℕ) (s : Disks) → ((d p : ℕ) → n ≤ d → names_place j.batch d p ≡ false) → SyncIn j n s → MarkStage j 0 s
  sync_in_end n s below c = record {
    core = record {
      beside = c.core.beside;
      logged = c.core.logged;
      opened = c.core.opened;
      meta = λ x lt live. absurd (omega arith);
      held = λ d p isin far. synced_sure (c.held d p isin far) (synced d p);
    };
    synced = record { synced = synced };
  }
    where
      synced : (d p : ℕ) → IsSyncedPlace s d p
      synced d p = elim (cases_lt d n) [
        | inl lt ↦ c.synced d p lt
        | inr le ↦ ⊎_elim (λ on. absurd (false≢true (sym (below d p le) ∙ on.0))) (λ h. h) (c.core.synced d p)
      ]

  -- Step 4

  pub mark_write : (k : ℕ) (s s' : Disks) → Puts (job_named j) s s' k 1 j.spelled → MarkStage j k s → MarkIn j k s'
  mark_write k s s' w c = record {
    core = record {
      beside = beside_logged j s s' k 1 j.spelled w c.core.beside;
      logged = λ x live. logged_wrote (job_named j) s s' k 1 j.spelled x w (λ not at. inl (omega arith)) (c.core.logged x live);
      opened = λ x live. w.sure x 0 _ (λ not at there. omega arith) (c.core.opened x live);
      meta = λ x below live. w.sure x 1 _ (λ not at. absurd (omega arith)) (c.core.meta x below live);
      held = laid_logged j (job_named j) s s' k 1 j.spelled (omega arith) w c.core.held;
    };
    synced = synced_but (job_named j) s s' k 1 j.spelled w c.synced;
    meta = λ not. w.here _ not refl;
  }

  pub mark_sync : (k : ℕ) (s s' : Disks) → Settles (job_named j) s s' k → MarkIn j k s → MarkStage j (k + 1) s'
  mark_sync k s s' w c = record {
    core = record {
      beside = beside_synced j (job_named j) s s' k w c.core.beside;
      logged = λ x live. logged_synced (job_named j) s s' k x w (c.core.logged x live);
      opened = λ x live. w.sure x 0 _ (c.core.opened x live);
      meta = below_more (λ x. IsLiveLog j x → IsSure s' x 1 (IsBlock j.spelled)) k
          (λ x below live. w.sure x 1 _ (c.core.meta x below live)) (λ live. w.here 1 _ live.1 (c.meta live.1));
      held = laid_synced j (job_named j) s s' k w c.core.held;
    };
    synced = place_synced (job_named j) s s' k w c.synced;
  }

  pub mark_end : (s : Disks) → MarkStage j 2 s → CloseStage j 0 s
  mark_end s c = record {
    core = record {
      beside = c.core.beside;
      logged = c.core.logged;
      meta = λ x live. c.core.meta x live.0 live;
      shut = λ x lt live. absurd (omega arith);
      held = c.core.held;
    };
    synced = c.synced;
  }

  -- Step 5

  pub close_write : (k : ℕ) (b : Block) (s s' : Disks) → is_open b ≡ false → Puts (job_named j) s s' k 0 b → CloseStage j k s → CloseIn j k s'
  close_write k b s s' shuts w c = record {
    core = record {
      beside = beside_logged j s s' k 0 b w c.core.beside;
      logged = λ x live. logged_wrote (job_named j) s s' k 0 b x w (λ not at. inl (omega arith)) (c.core.logged x live);
      meta = λ x live. w.sure x 1 _ (λ not at there. omega arith) (c.core.meta x live);
      shut = λ x below live. w.sure x 0 _ (λ not at. absurd (omega arith)) (c.core.shut x below live);
      held = laid_logged j (job_named j) s s' k 0 b (omega arith) w c.core.held;
    };
    synced = synced_but (job_named j) s s' k 0 b w c.synced;
    gate = λ not. w.here _ not shuts;
  }

  pub close_sync : (k : ℕ) (s s' : Disks) → Settles (job_named j) s s' k → CloseIn j k s → CloseStage j (k + 1) s'
  close_sync k s s' w c = record {
    core = record {
      beside = beside_synced j (job_named j) s s' k w c.core.beside;
      logged = λ x live. logged_synced (job_named j) s s' k x w (c.core.logged x live);
      meta = λ x live. w.sure x 1 _ (c.core.meta x live);
      shut = below_more (λ x. IsLiveLog j x → IsGateClosed s' x) k
          (λ x below live. w.sure x 0 _ (c.core.shut x below live)) (λ live. w.here 0 _ live.1 (c.gate live.1));
      held = laid_synced j (job_named j) s s' k w c.core.held;
    };
    synced = place_synced (job_named j) s s' k w c.synced;
  }
