-- A witness that is known to be borne is not written again.
use Rattle.std.specs.Prelude.{◌≡◌, ◌≢◌, ℕ, ◌<◌, Bool, true, All, List, [], ◌∷◌, ◌++◌, Option, Some}
use Rattle.std.proofs.Common.{sym, ◌∙◌, ap, subst, inl, inr}
use Rattle.paraid_rack.specs.declared.call.Call.{Call}
use Rattle.paraid_rack.specs.declared.call.Call.TheVariants.{Read, Write, Sync, Park, SpinUp, Attach}
use Rattle.paraid_rack.specs.Disks.{Disks, step}
use Rattle.paraid_rack.specs.Told.{Ran}
use Rattle.paraid_rack.specs.Trail.{Trail}
use Rattle.paraid_rack.proofs.TrailsLemmas.{Ran-then}
use Rattle.paraid_record.specs.declared.meta.Meta.{Meta}
use Rattle.paraid_record.specs.Targets.{IsTargetInRange}
use Rattle.paraid_image.specs.Out.{named_out}
use Rattle.paraid_image.specs.Sides.{Batch, targets}
use Rattle.paraid_txn.specs.Uses.{EachCall, Uses}
use Rattle.paraid_txn.specs.Witness.{EachLeavesPlace, NoneJoins, SetsAfter, SetsBefore, SetsWitness}
use Rattle.paraid_txn.specs.Witness.SetsAfter.{bears as bears_after, none as none_after}
use Rattle.paraid_txn.specs.Witness.SetsBefore.{bears, cannot_close, closes, none as none_before}
use Rattle.paraid_txn.specs.Witness.SetsWitness.{ended, refused}
use Rattle.paraid_txn.proofs.BorneLemmas.{no_disk}
use Rattle.paraid_txn.proofs.CommitPartLemmas.{ran_milder}
use Rattle.paraid_txn.proofs.WitnessLemmas.{apart as uses_apart}

pub leave_both : (d p : ℕ) (cs ds : List Call) → EachLeavesPlace d p cs → EachLeavesPlace d p ds → EachLeavesPlace d p (cs ++ ds)
leave_both d p [] ds first second = second
leave_both d p (c ∷ cs) ds first second = (first.0, leave_both d p cs ds first.1 second)

-- one part after the other
pub leave_then : {x : ℕ} {old mid new : Option Trail} → Ran old mid (λ s cs. EachLeavesPlace 2 x cs) → Ran mid new (λ s cs. EachLeavesPlace 2 x cs) → Ran old new (λ s cs. EachLeavesPlace 2 x cs)
leave_then {x} {old} {mid} {new} = Ran-then (λ s cs. EachLeavesPlace 2 x cs) (λ s cs ds first second. leave_both 2 x cs ds first second) old mid new

leave_none : (x : ℕ) (cs : List Call) → cs ≡ [] → EachLeavesPlace 2 x cs
leave_none x cs same = subst (EachLeavesPlace 2 x) (sym same) tt

-- before the steps
before_leaves : (m : Meta) (was borne : Option ℕ) (x : ℕ) → NoneJoins was (named_out m.out) → borne ≡ Some x → (s : Disks) (cs : List Call) → SetsBefore m was borne s cs → EachLeavesPlace 2 x cs
before_leaves m was borne x joins known s cs (closes y low is not set) = absurd (not (joins y low is))
before_leaves m was borne x joins known s cs (cannot_close y low is not why same) = absurd (not (joins y low is))
before_leaves m was borne x joins known s cs (bears p low unknown gone none set) = absurd (no_disk (sym unknown ∙ known))
before_leaves m was borne x joins known s cs (none_before none same) = leave_none x cs same

pub once_before : (m : Meta) (was borne : Option ℕ) (x : ℕ) → NoneJoins was (named_out m.out) → borne ≡ Some x
    → {old new : Option Trail} → Ran old new (SetsBefore m was borne) → Ran old new (λ s cs. EachLeavesPlace 2 x cs)
once_before m was borne x joins known ran = ran_milder _ _ (before_leaves m was borne x joins known) ran

-- in them
pub steps_leave : (m : Meta) (batch : Batch) → All (IsTargetInRange m.setup.geometry) (targets batch) → (x : ℕ) → x < 2 → (s : Disks) (cs : List Call)
    → EachCall (Uses m batch) s cs → EachLeavesPlace 2 x cs
steps_leave m batch past x low s [] each = tt
steps_leave m batch past x low s (Read d p done ∷ cs) each = (tt, steps_leave m batch past x low (step (Read d p done) s) cs each.2)
steps_leave m batch past x low s (Write d p b done ∷ cs) each = (uses_apart m batch past x low (λ c. Unit {0}) d p b done each.1, steps_leave m batch past x low (step (Write d p b done) s) cs each.2)
steps_leave m batch past x low s (Sync d done ∷ cs) each = (tt, steps_leave m batch past x low (step (Sync d done) s) cs each.2)
steps_leave m batch past x low s (Park d done ∷ cs) each = (tt, steps_leave m batch past x low (step (Park d done) s) cs each.2)
steps_leave m batch past x low s (SpinUp d done ∷ cs) each = (tt, steps_leave m batch past x low (step (SpinUp d done) s) cs each.2)
steps_leave m batch past x low s (Attach d size done ∷ cs) each = absurd (elim each.1.1 [ inl never ↦ never | inr never ↦ never ])

pub once_steps : (m : Meta) (batch : Batch) → All (IsTargetInRange m.setup.geometry) (targets batch) → (x : ℕ) → x < 2
    → {old new : Option Trail} → Ran old new (EachCall (Uses m batch)) → Ran old new (λ s cs. EachLeavesPlace 2 x cs)
once_steps m batch past x low ran = ran_milder _ _ (steps_leave m batch past x low) ran

-- after them
set_leaves : (p x : ℕ) (opened : Bool) (cs : List Call) → x ≢ p → SetsWitness p opened cs → EachLeavesPlace 2 x cs
set_leaves p x opened cs apart (refused b is same) = subst (EachLeavesPlace 2 x) (sym same) (λ at. apart, tt)
set_leaves p x opened cs apart (ended b done is same) = subst (EachLeavesPlace 2 x) (sym same) (λ at. apart, (tt, tt))

after_leaves : (m : Meta) (borne : Option ℕ) (x : ℕ) → borne ≡ Some x → (s : Disks) (cs : List Call) → SetsAfter m borne s cs → EachLeavesPlace 2 x cs
after_leaves m borne x known s cs (bears_after p low not missing set) = set_leaves p x true cs (λ is. not (known ∙ ap Some is)) set
after_leaves m borne x known s cs (none_after same) = leave_none x cs same

pub once_after : (m : Meta) (borne : Option ℕ) (x : ℕ) → borne ≡ Some x → {old new : Option Trail} → Ran old new (SetsAfter m borne) → Ran old new (λ s cs. EachLeavesPlace 2 x cs)
once_after m borne x known ran = ran_milder _ _ (after_leaves m borne x known) ran
