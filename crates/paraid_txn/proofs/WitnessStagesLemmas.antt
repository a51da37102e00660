-- The witnesses from stage to stage of a commit: before its five steps, in them, and after them.
use Rattle.std.specs.Prelude.{◌≡◌, ◌≢◌, ◌⊎◌, ℕ, ◌<◌, ◌≤◌, nat_lt, Bool, true, false, List, [], ◌∷◌, Option, Some, None, Result}
use Rattle.std.proofs.Common.{refl, sym, ◌∙◌, ap, subst, arith, inl, inr}
use Rattle.std.proofs.lemmas.Bool.{and_parts, cases_eq, false≢true, ltb-true}
use Rattle.paraid_base.specs.declared.block.Block.{Block}
use Rattle.paraid_base.specs.declared.state.Out.{Out}
use Rattle.paraid_base.specs.declared.state.Out.TheVariants.{No, Gone, Fresh}
use Rattle.paraid_base.specs.Log.{body_place, list_place}
use Rattle.paraid_rack.specs.Atoms.{IsLeftByStop, IsSure}
use Rattle.paraid_rack.specs.declared.call.Call.{Call}
use Rattle.paraid_rack.specs.declared.call.Call.TheVariants.{Read, Write, Sync, Park, SpinUp, Attach}
use Rattle.paraid_rack.specs.declared.call.Power.TheVariants.{Absent}
use Rattle.paraid_rack.specs.Disks.{Disks, IsPresent, is_present, step}
use Rattle.paraid_rack.specs.Told.{CrashTriple, Ran, Through}
use Rattle.paraid_rack.specs.Trail.{Trail, now, run}
use Rattle.paraid_rack.proofs.AtomsLemmas.{absent_sure, left_sure, read_present, sync_present, with_at_same, write_present}
use Rattle.paraid_rack.proofs.EffectsLemmas.{Keeps, Synced, Wrote, synced_step, wrote_step}
use Rattle.paraid_record.specs.declared.meta.Meta.{Meta}
use Rattle.paraid_image.specs.Out.{IsMissing, named_out}
use Rattle.paraid_image.specs.Sides.{is_open, stored_block}
use Rattle.paraid_txn.specs.Commit.{gone_out}
use Rattle.paraid_txn.specs.CommitStages.{AllSynced, AreWitnessesSettled, BeganTrue, CloseCore, CloseStage, FirstStage, HoldsThroughout, HoldsWhole, HoldsWitnessed, HoldsWitnesses, IsBatchLogged, IsSpelled, IsTrueWitness, IsWitnessClosed, Job, KeepsSlotsAndLogs, LaidStage, LastStage, LogCore, LogStage, SettledStage}
use Rattle.paraid_txn.specs.CommitStages.IsTrueWitness.{by_both, by_new, by_old}
use Rattle.paraid_txn.specs.CrashSpecification.{CrashSpecification}
use Rattle.paraid_txn.specs.Uses.{EachCall, Uses}
use Rattle.paraid_txn.specs.Witness.{NoneJoins, SetsAfter, SetsBefore, SetsWitness}
use Rattle.paraid_txn.specs.Witness.SetsWitness.{ended, refused}
use Rattle.paraid_txn.specs.Witness.SetsBefore.{bears as bears_before, cannot_close, closes, none as none_before}
use Rattle.paraid_txn.specs.Witness.SetsAfter.{bears as bears_after, none as none_after}
use Rattle.paraid_txn.proofs.CommitLemmas.{missing_left}
use Rattle.paraid_txn.proofs.CrashSpecificationLemmas.{on_ok_then}
use Rattle.paraid_txn.proofs.RanLemmas.{Through-end}
use Rattle.paraid_txn.proofs.StageCallsLemmas.{upto}
use Rattle.paraid_txn.proofs.StagesLemmas.{kept_on}
use Rattle.paraid_txn.proofs.WholeLemmas.{closing_late, closing_whole, earlier_whole, later_whole, logging_whole, stored_here}
use Rattle.paraid_txn.proofs.WitnessLemmas.{both_milder, missing_still, open_place, same_calls, step_keeps}

-- what follows at each moment where something is so
through_given : (G : Type 0) (Q : Disks → Type 0) (s : Disks) (cs : List Call) → (G → Through Q s cs) → Through (λ u. G → Q u) s cs
through_given G Q s [] f = f
through_given G Q s (c ∷ cs) f = (λ g. (f g).0, through_given G Q (step c s) cs (λ g. (f g).1))

pub gone_named : (o : Out) (d : ℕ) → gone_out o ≡ Some d → named_out o ≡ Some d
gone_named No d is = is
gone_named (Gone e) d is = is
gone_named (Fresh e u) d is = let z : None ≡ Some d = is in cc

-- What a write of the place of a witness keeps, and a sync of disk 2.
record Bears (s s' : Disks) : Type 1 where
  keeps : Keeps s s'
  sure : (d p : ℕ) (Q : Block → Type 0) → (d ≡ 2 → 2 ≤ p) → IsSure s d p Q → IsSure s' d p Q

bears_wrote : (s s' : Disks) (x : ℕ) (b : Block) → x < 2 → Wrote s s' 2 x b → Bears s s'
bears_wrote s s' x b low w = record {
  keeps = w.keeps;
  sure = λ d p Q far h. w.sure d p Q (λ at there. let f = far at in omega arith) h;
}

bears_synced : (s s' : Disks) → Synced s s' 2 → Bears s s'
bears_synced s s' w = record { keeps = w.keeps; sure = λ d p Q far h. w.sure d p Q h }

module _ (j : Job) (s s' : Disks) (w : Bears s s') where
  beside_bears : HoldsThroughout j s → HoldsThroughout j s'
  beside_bears c = record {
    kept = kept_on j s s' w.keeps c.kept;
    aside = record { log = λ y p low is lt. w.sure y p _ (λ at. absurd (omega arith)) (c.aside.log y p low is lt) };
  }

  log_bears : LogCore j 0 s → LogCore j 0 s'
  log_bears c = record {
    beside = beside_bears c.beside;
    meta = λ x live. let low = live.0 in w.sure x 1 _ (λ at. absurd (omega arith)) (c.meta x live);
    shut = λ x live. let low = live.0 in w.sure x 0 _ (λ at. absurd (omega arith)) (c.shut x live);
    logged = λ x lt live. absurd (omega arith);
    held = λ d p far. w.sure d p _ (λ at. omega arith) (c.held d p far);
  }

  logged_bears : (x : ℕ) → x < 2 → IsBatchLogged j s x → IsBatchLogged j s' x
  logged_bears x low l = record {
    meta = w.sure x 2 _ (λ at. absurd (omega arith)) l.meta;
    list = w.sure x (list_place 0) _ (λ at. absurd (omega arith)) l.list;
    blocks = λ k lt. w.sure x (body_place k) _ (λ at. absurd (omega arith)) (l.blocks k lt);
  }

  close_bears : CloseCore j 2 s → CloseCore j 2 s'
  close_bears c = record {
    beside = beside_bears c.beside;
    logged = λ x live. logged_bears x live.0 (c.logged x live);
    meta = λ x live. let low = live.0 in w.sure x 1 _ (λ at. absurd (omega arith)) (c.meta x live);
    shut = λ x below live. let low = live.0 in w.sure x 0 _ (λ at. absurd (omega arith)) (c.shut x below live);
    held = λ d p gets far. w.sure d p _ (λ at. omega arith) (c.held d p gets far);
  }

-- a disk that fails in a write is absent
pub failed_gone : (s : Disks) (x : ℕ) (b : Block) → (step (Write 2 x b false) s).power 2 ≡ Absent
unfolding step
failed_gone s x b = with_at_same s.power 2 Absent 2 refl

-- no call of a commit brings a disk
uses_present : (m : Meta) (batch : _) (s : Disks) (c : Call) → Uses m batch c → (d : ℕ) → IsPresent (step c s) d → IsPresent s d
uses_present m batch s (Read d0 p done) uses d here = read_present s d0 p done d here
uses_present m batch s (Write d0 p b done) uses d here = write_present s d0 p b done d here
uses_present m batch s (Sync d0 done) uses d here = sync_present s d0 done d here
uses_present m batch s (Park d0 done) uses d here = absurd (elim uses.1 [ inl never ↦ never | inr never ↦ never ])
uses_present m batch s (SpinUp d0 done) uses d here = absurd (elim uses.1 [ inl never ↦ never | inr never ↦ never ])
uses_present m batch s (Attach d0 size done) uses d here = absurd (elim uses.1 [ inl never ↦ never | inr never ↦ never ])

module _ (j : Job) (good : IsSpelled j) (before : Meta) where
  abbrev IsSettled : Disks → ℕ → Type 0
  IsSettled s p = IsWitnessClosed j s p ⊎ (IsMissing s.power before p × IsMissing s.power j.meta p)

  abbrev Began : Type 0
  Began = BeganTrue j before

  abbrev Moment : Disks → Type 0
  Moment = HoldsWitnessed j before

  log_whole : (s : Disks) → LogCore j 0 s → HoldsWhole j s
  log_whole s c = earlier_whole j s (logging_whole j good 0 s c)

  close_whole : (s : Disks) → CloseCore j 2 s → HoldsWhole j s
  close_whole s c = later_whole j s (closing_whole j good 2 s c)

  whole_kept : (s i : Disks) → HoldsWhole j s → IsLeftByStop s i → KeepsSlotsAndLogs j i
  whole_kept s i whole left = elim whole.either [ inl early ↦ (early i left).kept | inr late ↦ (late i left).kept ]

  -- Witnesses in what a stop leaves

  -- one that is surely closed is not open there
  not_open : (s i : Disks) (p : ℕ) → HoldsWhole j s → IsLeftByStop s i → IsWitnessClosed j s p → is_open (stored_block i 2 p) ≡ true → ⊥
  not_open s i p whole left closed opened =
      let place = and_parts (is_present (i.power 2)) (nat_lt p (i.size 2)) (open_place i p opened) in
      let within : p < i.size 2 = ltb-true p (i.size 2) place.1 in
      let size = (whole_kept s i whole left).size 2 place.0 in
      let shut = left_sure closed left place.0 (omega (arith, within, size)) in
      false≢true (sym shut ∙ ap is_open (sym (stored_here i 2 p place.0 within)) ∙ opened)

  both_left : (s i : Disks) (p : ℕ) → IsLeftByStop s i → IsMissing s.power before p × IsMissing s.power j.meta p → IsTrueWitness j before i p
  both_left s i p left both = by_both (missing_left s i before p left both.0) (missing_left s i j.meta p left both.1)

  settled_true : (s i : Disks) (p : ℕ) → HoldsWhole j s → IsLeftByStop s i → IsSettled s p → is_open (stored_block i 2 p) ≡ true → IsTrueWitness j before i p
  settled_true s i p whole left (inl closed) opened = absurd (not_open s i p whole left closed opened)
  settled_true s i p whole left (inr both) opened = both_left s i p left both

  pub settled_witnesses : (s : Disks) → HoldsWhole j s → AreWitnessesSettled j before s → HoldsWitnesses j before s
  settled_witnesses s whole settled i left p low opened = settled_true s i p whole left (settled p low) opened

  -- In the five steps

  settled_step : (s : Disks) (c : Call) → Uses j.meta j.batch c → AreWitnessesSettled j before s → AreWitnessesSettled j before (step c s)
  settled_step s c uses settled p low = elim (settled p low) [
    | inl closed ↦ inl (step_keeps j.meta j.batch good.in_range.each p low _ s c uses closed)
    | inr both ↦ inr (missing_still s.power (step c s).power before p present both.0, missing_still s.power (step c s).power j.meta p present both.1)
  ]
    where
      present : (d : ℕ) → IsPresent (step c s) d → IsPresent s d
      present d here = uses_present j.meta j.batch s c uses d here

  settled_through : (s : Disks) (cs : List Call) → EachCall (Uses j.meta j.batch) s cs → AreWitnessesSettled j before s → Through (AreWitnessesSettled j before) s cs
  settled_through s [] each settled = settled
  settled_through s (c ∷ cs) each settled = (settled, settled_through (step c s) cs each.2 (settled_step s c each.1 settled))

  module _ (B : Disks → Type 0) where
    abbrev Ends : Disks → Type 0
    Ends s = B s × (Began → AreWitnessesSettled j before s)

    steps_ran : {old new : Option Trail} → Ran old new (EachCall (Uses j.meta j.batch)) → Ran old new (CrashTriple (HoldsWhole j) (LogStage j 0) B)
        → Ran old new (CrashTriple Moment (SettledStage j before) Ends)
    steps_ran {old} {new} each ran t tells =
        let r = ran t tells in
        let calls = same_calls (Uses j.meta j.batch) old new each t tells r.from r.calls r.was r.is in
        record {
          from = r.from;
          was = r.was;
          calls = r.calls;
          is = r.is;
          holds = record {
            goes = λ a.
                let b = r.holds.goes a.stage in
                let settled = through_given Began (AreWitnessesSettled j before) (now r.from) r.calls
                (λ began. settled_through (now r.from) r.calls calls (a.settled began)) in (
                  both_milder (HoldsWhole j) (λ u. Began → AreWitnessesSettled j before u) Moment
                      (λ u whole is. record { whole = whole; witnesses = λ began. settled_witnesses u whole (is began) })
                      (now r.from) r.calls b.0 settled,
                  (b.1, Through-end (λ u. Began → AreWitnessesSettled j before u) (now r.from) r.calls settled),
                );
          };
        }

  pub steps_witnessed : {T E : Type 0} {old new : Option Trail} {result : Result T E} → Ran old new (EachCall (Uses j.meta j.batch))
      → CrashSpecification (HoldsWhole j) (LogStage j 0) (CloseStage j 2) old new result
      → CrashSpecification Moment (SettledStage j before) (LaidStage j before) old new result
  steps_witnessed {result = result} each part = record {
    moments = upto (λ s e. record { whole = e.0; witnesses = λ began. settled_witnesses s e.0 (e.1 began) }) (steps_ran (HoldsWhole j) each part.moments);
    done = on_ok_then result (λ ran. upto (λ s e. record { stage = e.0; settled = e.1 }) (steps_ran (CloseStage j 2) each ran)) part.done;
  }

  -- One witness is set, against a log disk that is out by each meta that may stand

  module _ (x : ℕ) (low : x < 2) (opened : Bool) (K : Disks → Type 0) (holds : (s : Disks) → K s → HoldsWhole j s)
      (stays : (s s' : Disks) → Bears s s' → K s → K s') (is_true : (s i : Disks) → K s → IsLeftByStop s i → IsTrueWitness j before i x) where
    abbrev Others : Disks → Type 0
    Others s = Began → (p : ℕ) → p < 2 → p ≢ x → IsSettled s p

    -- once it is set
    record IsSet (s : Disks) : Type 0 where
      core : K s
      synced : AllSynced s
      others : Others s
      place : IsSure s 2 x (λ b. is_open b ≡ opened)

    moment : (s : Disks) → K s → Others s → Moment s
    moment s core others = record {
      whole = holds s core;
      witnesses = λ began i left p below open_there. elim (cases_eq p x) [
        | inl is ↦ subst (IsTrueWitness j before i) (sym is) (is_true s i core left)
        | inr apart ↦ settled_true s i p (holds s core) left (others began p below apart) open_there
      ];
    }

    others_stay : (s s' : Disks) → Keeps s s' → ((p : ℕ) → p ≢ x → IsWitnessClosed j s p → IsWitnessClosed j s' p) → Others s → Others s'
    others_stay s s' keeps closed others began p below apart = elim (others began p below apart) [
      | inl shut ↦ inl (closed p apart shut)
      | inr both ↦ inr (missing_still s.power s'.power before p keeps.present both.0, missing_still s.power s'.power j.meta p keeps.present both.1)
    ]

    module _ (s : Disks) (core : K s) (synced : AllSynced s) (others : Others s) (b : Block) (is : is_open b ≡ opened) where
      abbrev wrote : Bool → Disks
      wrote done = step (Write 2 x b done) s

      how : (done : Bool) → Wrote s (wrote done) 2 x b
      how done = wrote_step s 2 x b done

      core_wrote : (done : Bool) → K (wrote done)
      core_wrote done = stays s (wrote done) (bears_wrote s (wrote done) x b low (how done)) core

      others_wrote : (done : Bool) → Others (wrote done)
      others_wrote done = others_stay s (wrote done) (how done).keeps (λ p apart shut. (how done).sure 2 p _ (λ at. apart) shut) others

      set_refused : IsSet (wrote false)
      set_refused = record {
        core = core_wrote false;
        synced = record {
          synced = λ d p. elim (cases_eq d 2) [
            | inl at ↦ subst (λ (e : ℕ). IsSure (wrote false) e p (λ c. Unit {0})) (sym at) (absent_sure (wrote false) 2 p _ (failed_gone s x b))
            | inr apart ↦ (how false).sure d p _ (λ at. absurd (apart at)) (synced.synced d p)
          ];
        };
        others = others_wrote false;
        place = absent_sure (wrote false) 2 x _ (failed_gone s x b);
      }

      module _ (done : Bool) where
        abbrev kept : Disks
        kept = step (Sync 2 done) (wrote true)

        how_synced : Synced (wrote true) kept 2
        how_synced = synced_step (wrote true) 2 done

        set_ended : IsSet kept
        set_ended = record {
          core = stays (wrote true) kept (bears_synced (wrote true) kept how_synced) (core_wrote true);
          synced = record {
            synced = λ d p. elim (cases_eq d 2) [
              | inl at ↦ subst (λ (e : ℕ). IsSure kept e p (λ c. Unit {0})) (sym at) (how_synced.here p _ (record { holds = λ here. tt }))
              | inr apart ↦ how_synced.sure d p _ ((how true).sure d p _ (λ at. absurd (apart at)) (synced.synced d p))
            ];
          };
          others = others_stay (wrote true) kept how_synced.keeps (λ p apart shut. how_synced.sure 2 p _ shut) (others_wrote true);
          place = how_synced.here x _ ((how true).here _ is);
        }

    set_moment : (s : Disks) → IsSet s → Moment s
    set_moment s set = moment s set.core set.others

    sets : (s : Disks) (cs : List Call) → SetsWitness x opened cs → K s → AllSynced s → Others s → Through Moment s cs × IsSet (run s cs)
    sets s cs (refused b is same) core synced others =
        let set = set_refused s core synced others b is in
        subst (λ (l : List Call). Through Moment s l × IsSet (run s l)) (sym same)
        ((moment s core others, set_moment _ set), set)
    sets s cs (ended b done is same) core synced others =
        let set = set_ended s core synced others b is done in
        subst (λ (l : List Call). Through Moment s l × IsSet (run s l)) (sym same)
        ((moment s core others, (moment _ (core_wrote s core synced others b is true) (others_wrote s core synced others b is true), set_moment _ set)), set)

  -- Before the five steps

  pub first_holds : (s : Disks) → FirstStage j before s → Moment s
  first_holds s a = record {
    whole = log_whole s a.stage.core;
    witnesses = λ began i left p low opened. elim (a.old began p low) [
      | inl closed ↦ absurd (not_open s i p (log_whole s a.stage.core) left closed opened)
      | inr missing ↦ old_true s i p a.stage.core left missing
    ];
  }
    where
      old_true : (s i : Disks) (p : ℕ) → LogCore j 0 s → IsLeftByStop s i → IsMissing s.power before p → IsTrueWitness j before i p
      old_true s i p core left missing = by_old (missing_left s i before p left missing)
          (λ x live here. (left_sure (core.shut x live) left here, left_sure (core.meta x live) left here))

  pub settled_holds : (s : Disks) → SettledStage j before s → Moment s
  settled_holds s a = let whole = log_whole s a.stage.core in record { whole = whole; witnesses = λ began. settled_witnesses s whole (a.settled began) }

  pub laid_holds : (s : Disks) → LaidStage j before s → Moment s
  laid_holds s a = let whole = close_whole s a.stage.core in record { whole = whole; witnesses = λ began. settled_witnesses s whole (a.settled began) }

  pub last_holds : (s : Disks) → LastStage j before s → Moment s
  last_holds s a = record { whole = close_whole s a.stage.core; witnesses = a.witnesses }

  module _ (was : Option ℕ) (named : was ≡ named_out before.out) (s : Disks) (a : FirstStage j before s) where
    named_missing : (p : ℕ) → p < 2 → was ≡ Some p → IsMissing s.power before p
    named_missing p low is = record { disk = (let n = before.setup.geometry.disks_low in omega arith); is = inr (sym named ∙ is) }

    -- where none comes in again, a log disk that is out by the meta before is out by both
    both_missing : NoneJoins was (named_out j.meta.out) → (p : ℕ) → p < 2 → IsMissing s.power before p → IsMissing s.power before p × IsMissing s.power j.meta p
    both_missing none p low missing = (
      missing,
      record {
        disk = subst (λ n. p < n) (sym (ap (λ u. u.geometry.disks) a.setup)) missing.disk;
        is = elim missing.is [ inl gone ↦ inl gone | inr name ↦ inr (none p low (named ∙ name)) ];
      },
    )

    settled_first : NoneJoins was (named_out j.meta.out) → Began → AreWitnessesSettled j before s
    settled_first none began p low = elim (a.old began p low) [ inl closed ↦ inl closed | inr missing ↦ inr (both_missing none p low missing) ]

    -- it is taken back
    module _ (x : ℕ) (low : x < 2) (is : was ≡ Some x) where
      abbrev JoinCore : Disks → Type 0
      JoinCore u = LogCore j 0 u × IsMissing u.power before x

      join_true : (u i : Disks) → JoinCore u → IsLeftByStop u i → IsTrueWitness j before i x
      join_true u i core left = by_old (missing_left u i before x left core.1)
          (λ y live here. (left_sure (core.0.shut y live) left here, left_sure (core.0.meta y live) left here))

      join_stays : (u v : Disks) → Bears u v → JoinCore u → JoinCore v
      join_stays u v w core = (log_bears j u v w core.0, missing_still u.power v.power before x w.keeps.present core.1)

      closes_first : (cs : List Call) → SetsWitness x false cs → Through Moment s cs × SettledStage j before (run s cs)
      closes_first cs set =
          let missing = named_missing x low is in
          let r = sets x low false JoinCore (λ u core. log_whole u core.0) join_stays join_true s cs set (a.stage.core, missing) a.stage.synced
          (λ began p below apart. elim (a.old began p below) [ inl closed ↦ inl closed | inr gone ↦ absurd (apart (a.single p x gone missing)) ]) in (
            r.0,
            record {
              stage = record { core = r.1.core.0; synced = r.1.synced };
              settled = λ began p below. elim (cases_eq p x) [
                | inl at ↦ inl (subst (λ (q : ℕ). IsWitnessClosed j (run s cs) q) (sym at) (record { holds = λ here. let h = r.1.place.holds here in (h.0, λ lt. h.1) }))
                | inr apart ↦ r.1.others began p below apart
              ];
            },
          )

    -- it is borne
    module _ (none : NoneJoins was (named_out j.meta.out)) (x : ℕ) (low : x < 2) (missing : IsMissing s.power before x) where
      abbrev OutCore : Disks → Type 0
      OutCore u = LogCore j 0 u × (IsMissing u.power before x × IsMissing u.power j.meta x)

      bears_first : (cs : List Call) → SetsWitness x true cs → Through Moment s cs × SettledStage j before (run s cs)
      bears_first cs set =
          let r = sets x low true OutCore (λ u core. log_whole u core.0)
          (λ u v w core. (log_bears j u v w core.0, (missing_still u.power v.power before x w.keeps.present core.1.0, missing_still u.power v.power j.meta x w.keeps.present core.1.1)))
          (λ u i core left. both_left u i x left core.1) s cs set (a.stage.core, both_missing none x low missing) a.stage.synced
          (λ began p below apart. settled_first none began p below) in (
            r.0,
            record {
              stage = record { core = r.1.core.0; synced = r.1.synced };
              settled = λ began p below. elim (cases_eq p x) [
                | inl at ↦ inr (subst (λ (q : ℕ). IsMissing (run s cs).power before q × IsMissing (run s cs).power j.meta q) (sym at) r.1.core.1)
                | inr apart ↦ r.1.others began p below apart
              ];
            },
          )

    no_call : (cs : List Call) → cs ≡ [] → (Began → AreWitnessesSettled j before s) → Through Moment s cs × SettledStage j before (run s cs)
    no_call cs same settled = subst (λ (l : List Call). Through Moment s l × SettledStage j before (run s l)) (sym same) (first_holds s a, record { stage = a.stage; settled = settled })

    sets_first : (borne : Option ℕ) (cs : List Call) → SetsBefore j.meta was borne s cs → Through Moment s cs × SettledStage j before (run s cs)
    sets_first borne cs (closes x low is not set) = closes_first x low is cs set
    sets_first borne cs (cannot_close x low is not (inl gone) same) =
        no_call cs same (λ began p below. inl (record { holds = λ here. absurd (false≢true (sym gone ∙ here)) }))
    sets_first borne cs (cannot_close x low is not (inr gone) same) =
        let at : ◌≡◌ {A = ℕ} 2 x = a.out 2 x (gone_named j.meta.out 2 gone) (sym named ∙ is) in
        absurd (omega (arith, at, low))
    sets_first borne cs (bears_before x low unknown gone none set) =
        bears_first none x low (record { disk = (let n = before.setup.geometry.disks_low in omega arith); is = inl gone }) cs set
    sets_first borne cs (none_before none same) = no_call cs same (settled_first none)

  pub sets_before : {was borne : Option ℕ} {old new : Option Trail} → was ≡ named_out before.out → Ran old new (SetsBefore j.meta was borne)
      → Ran old new (CrashTriple Moment (FirstStage j before) (SettledStage j before))
  sets_before {was} {borne} named ran t tells =
      let r = ran t tells in
      record { from = r.from; was = r.was; calls = r.calls; is = r.is; holds = record { goes = λ a. sets_first was named (now r.from) a borne r.calls r.holds } }

  -- After them

  module _ (s : Disks) (a : LaidStage j before s) where
    abbrev LaidCore : ℕ → Disks → Type 0
    LaidCore x u = CloseCore j 2 u × IsMissing u.power j.meta x

    laid_true : (x : ℕ) (u i : Disks) → LaidCore x u → IsLeftByStop u i → IsTrueWitness j before i x
    laid_true x u i core left = by_new (missing_left u i j.meta x left core.1) (closing_late j good 2 u core.0 i left)

    laid_stays : (x : ℕ) (u v : Disks) → Bears u v → LaidCore x u → LaidCore x v
    laid_stays x u v w core = (close_bears j u v w core.0, missing_still u.power v.power j.meta x w.keeps.present core.1)

    sets_last : (borne : Option ℕ) (cs : List Call) → SetsAfter j.meta borne s cs → Through Moment s cs × LastStage j before (run s cs)
    sets_last borne cs (bears_after x low unknown missing set) =
        let r = sets x low true (LaidCore x) (λ u core. close_whole u core.0) (laid_stays x) (laid_true x) s cs set (a.stage.core, missing) a.stage.synced
        (λ began p below apart. a.settled began p below) in (
          r.0,
          record {
            stage = record { core = r.1.core.0; synced = r.1.synced };
            witnesses = (set_moment x low true (LaidCore x) (λ u core. close_whole u core.0) (laid_stays x) (laid_true x) (run s cs) r.1).witnesses;
          },
        )
    sets_last borne cs (none_after same) = subst (λ (l : List Call). Through Moment s l × LastStage j before (run s l)) (sym same)
        (laid_holds s a, record { stage = a.stage; witnesses = (laid_holds s a).witnesses })

  pub sets_after : {borne : Option ℕ} {old new : Option Trail} → Ran old new (SetsAfter j.meta borne) → Ran old new (CrashTriple Moment (LaidStage j before) (LastStage j before))
  sets_after {borne} ran t tells =
      let r = ran t tells in
      record { from = r.from; was = r.was; calls = r.calls; is = r.is; holds = record { goes = λ a. sets_last (now r.from) a borne r.calls r.holds } }
