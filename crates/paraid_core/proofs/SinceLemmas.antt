-- While the disk that is out is absent, what holds beside it holds since the last commit.
use Rattle.std.specs.Prelude.{◌≡◌, ℕ, ◌<◌, ◌⊎◌, Bool, true, false, List, [], ◌∷◌, Option, Some, None}
use Rattle.std.proofs.Common.{refl, sym, ◌∙◌, ap, inl, inr}
use Rattle.std.proofs.lemmas.Bool.{cases_eq}
use Rattle.paraid_base.specs.History.{History}
use Rattle.paraid_rack.specs.declared.call.Call.{Call}
use Rattle.paraid_rack.specs.declared.call.Call.TheVariants.{Read, Write, Sync, Park, SpinUp, Attach}
use Rattle.paraid_rack.specs.declared.call.Power.{Power}
use Rattle.paraid_rack.specs.Disks.{Disks, is_present, power_after, step, with_at}
use Rattle.paraid_rack.specs.Slots.{Agrees, Slot}
use Rattle.paraid_rack.specs.Told.{Ran, CrashTriple, Through}
use Rattle.paraid_rack.specs.Trail.{Trail, now}
use Rattle.paraid_rack.proofs.AtomsLemmas.{with_at_other, with_at_same}
use Rattle.paraid_record.specs.declared.meta.Meta.{Meta}
use Rattle.paraid_image.specs.Out.{named_out, or_else}
use Rattle.paraid_image.specs.Sides.{Batch}
use Rattle.paraid_image.proofs.OutLemmas.{named_below}
use Rattle.paraid_txn.specs.Stores.{named_of, store_rack}
use Rattle.paraid_txn.specs.Uses.{EachCall, UsesInCommit}
use Rattle.paraid_core.specs.declared.staged.Core.{Core}
use Rattle.paraid_core.specs.Cores.{IsCoreHeld, IsCoreHeldSinceCommit, IsCoreReady}
use Rattle.paraid_core.specs.CoreInvariant.{IsHeldWithOneMissing}
use Rattle.paraid_core.specs.Steps.{IsNamedOrAbsent}
use Rattle.paraid_core.proofs.CommitLemmas.{both_of}
use Rattle.paraid_core.proofs.StepLemmas.{runs_end}

power_away : (power : ℕ → Power) (e : ℕ) (done : Bool) (d : ℕ) → is_present (power d) ≡ false → is_present (with_at power e (power_after done (power e)) d) ≡ false
power_away power e done d gone = elim (cases_eq d e) [
  | inr apart ↦ ap is_present (with_at_other power e (power_after done (power e)) d apart) ∙ gone
  | inl is ↦ ap is_present (with_at_same power e (power_after done (power e)) d is) ∙ by done is
]
  where
    by : (b : Bool) → d ≡ e → is_present (power_after b (power e)) ≡ false
    by true is = ap (λ (x : ℕ). is_present (power x)) (sym is) ∙ gone
    by false is = refl

-- no call of a commit brings a disk back
uses_away : (m : Meta) (batch : Batch) (c : Call) (s : Disks) (d : ℕ) → UsesInCommit m batch c → is_present (s.power d) ≡ false → is_present ((step c s).power d) ≡ false
unfolding step
uses_away m batch (Read e p done) s d uses gone = power_away s.power e done d gone
uses_away m batch (Write e p b done) s d uses gone = power_away s.power e done d gone
uses_away m batch (Sync e done) s d uses gone = power_away s.power e done d gone
uses_away m batch (Park e done) s d uses gone = elim uses [ inl of ↦ elim of.1 [ inl never ↦ absurd never | inr never ↦ absurd never ] | inr never ↦ absurd never ]
uses_away m batch (SpinUp e done) s d uses gone = elim uses [ inl of ↦ elim of.1 [ inl never ↦ absurd never | inr never ↦ absurd never ] | inr never ↦ absurd never ]
uses_away m batch (Attach e size done) s d uses gone = elim uses [ inl of ↦ elim of.1 [ inl never ↦ absurd never | inr never ↦ absurd never ] | inr never ↦ absurd never ]

module _ (slots n : ℕ) (named out : Option ℕ) (h : History) (lo : ℕ) (below : (d : ℕ) → out ≡ Some d → d < n) where
  abbrev Beside : Disks → Type 0
  Beside = IsHeldWithOneMissing slots n (or_else named out) h lo

  abbrev Since : Disks → Type 0
  Since = IsHeldWithOneMissing slots n named h lo

  -- the disk that is out is named, or it is absent
  abbrev IsAway : Disks → Type 0
  IsAway s = (d : ℕ) → out ≡ Some d → (named ≡ Some d) ⊎ (is_present (s.power d) ≡ false)

  pub since_at : (s : Disks) → IsAway s → Beside s → Since s
  since_at s away p = record { held = λ down absent known. p.held down absent (λ d is. by down absent known d named refl is) }
    where
      by : (down : Option ℕ) → ((d : ℕ) → d < n → is_present (s.power d) ≡ false → down ≡ Some d) → ((d : ℕ) → named ≡ Some d → down ≡ Some d)
          → (d : ℕ) (o : Option ℕ) → named ≡ o → or_else o out ≡ Some d → down ≡ Some d
      by down absent known d (Some e) names is = known d (names ∙ is)
      by down absent known d None names is = elim (away d is) [ inl same ↦ known d same | inr gone ↦ absent d (below d is) gone ]

  module _ (m : Meta) (batch : Batch) where
    through_since : (s : Disks) (cs : List Call) → IsAway s → EachCall (UsesInCommit m batch) s cs → Through Beside s cs → Through Since s cs
    through_since s [] away each p = since_at s away p
    through_since s (c ∷ cs) away each p = (
      since_at s away p.0,
      through_since (step c s) cs (λ d is. elim (away d is) [ inl same ↦ inl same | inr gone ↦ inr (uses_away m batch c s d each.1 gone) ]) each.2 p.1,
    )

    pub runs_since : (old new : Option Trail) (A B : Disks → Type 0) → ((t : Trail) → old ≡ Some t → IsAway (now t)) → Ran old new (EachCall (UsesInCommit m batch)) → Ran old new (CrashTriple Beside A B) → Ran old new (CrashTriple Since A B)
    runs_since old new A B away calls ran t tells =
        let r = both_of (CrashTriple Beside A B) (EachCall (UsesInCommit m batch)) old new ran calls t tells in
        record {
          from = r.from;
          was = r.was;
          calls = r.calls;
          is = r.is;
          holds = record { goes = λ a. let b = r.holds.0.goes a in (through_since (now r.from) r.calls (away r.from r.was) r.holds.1 b.0, b.1) };
        }

-- of a core
module _ {R : Type 0} {g : _} (count : R → ℕ) (slot : R → ℕ → Slot) (told : R → Option Trail) (old : Core R g) (ready : IsCoreReady count slot old) (absent : IsNamedOrAbsent slot old)
    (agrees : (t : Trail) → told (store_rack old.store) ≡ Some t → Agrees (now t) (slot (store_rack old.store))) (told_then : Option Trail) (calls : Ran (told (store_rack old.store)) told_then (EachCall (UsesInCommit old.meta old.batch)))
    (h : History) (lo : ℕ) where
  pub core_since : (A B : Disks → Type 0) → Ran (told (store_rack old.store)) told_then (CrashTriple (IsCoreHeld count old h lo) A B)
      → Ran (told (store_rack old.store)) told_then (CrashTriple (IsCoreHeldSinceCommit count old h lo) A B)
  core_since A B ran =
      runs_since (count (store_rack old.store)) old.meta.setup.geometry.disks (named_of old.store) (named_out old.meta.out) h lo (λ d is. named_below old.meta.setup.geometry old.meta.gear old.meta.out d ready.in_range.out is)
      old.meta old.batch (told (store_rack old.store)) told_then A B
      (λ t tells d is. elim (absent d is) [ inl same ↦ inl same | inr gone ↦ inr (ap is_present ((agrees t tells).power d) ∙ gone) ]) calls ran

  pub core_since_end : (A : Disks → Type 0) → Ran (told (store_rack old.store)) told_then (CrashTriple (IsCoreHeld count old h lo) A (IsCoreHeld count old h lo))
      → Ran (told (store_rack old.store)) told_then (CrashTriple (IsCoreHeldSinceCommit count old h lo) A (IsCoreHeldSinceCommit count old h lo))
  core_since_end A ran = runs_end count slot told old told_then A (IsCoreHeld count old h lo) h lo (core_since A (IsCoreHeld count old h lo) ran)
