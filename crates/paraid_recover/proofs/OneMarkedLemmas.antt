-- Once an absent disk is marked, it alone is out; and the mark writes nothing but the log.
use Rattle.std.specs.Prelude.{◌≡◌, ◌≢◌, ℕ, ◌<◌, [], Option, Some, None, Result, Ok, Err, IfOk, OnOk}
use Rattle.std.proofs.Common.{arith, sym, ◌∙◌, inl, inr}
use Rattle.std.proofs.lemmas.Bool.{false≢true}
use Rattle.paraid_base.specs.declared.fault.Two.{Two}
use Rattle.paraid_rack.specs.declared.call.Call.{Call}
use Rattle.paraid_rack.specs.declared.call.Call.TheVariants.{Read, Write, Sync, Park, SpinUp, Attach}
use Rattle.paraid_rack.specs.declared.call.Power.TheVariants.{Absent}
use Rattle.paraid_rack.specs.Slots.{Slot}
use Rattle.paraid_record.specs.declared.meta.Meta.{Meta}
use Rattle.paraid_image.proofs.CallLemmas.{decide_some}
use Rattle.paraid_txn.specs.Losses.{IsAlone, IsOneOut, IsOutOfCommit, IsWell}
use Rattle.paraid_txn.specs.Losses.IsOutOfCommit.{is_absent, was_named, is_named}
use Rattle.paraid_txn.specs.Uses.{Uses, UsesInCommit, UsesWitness}
use Rattle.paraid_recover.specs.Quiet.{IsInLog}

module _ (n : ℕ) (named : Option ℕ) (disk : ℕ) (old new : ℕ → Slot) (low : disk < n) (gone : (old disk).power ≡ Absent) where
  one_by : (lost : Option ℕ) → ((d : ℕ) → lost ≢ Some d → IsWell (old d) (new d))
      → ((d : ℕ) → lost ≡ Some d → IsAlone n (IsOutOfCommit (λ e. (old e).power) n named (Some disk)) d)
      → IsOneOut n named old → IsOneOut n (Some disk) new
  one_by lost well alone one d e p q = is d p ∙ sym (is e q)
    where
      is : (d : ℕ) → IsOutOfCommit (λ x. (new x).power) n (Some disk) None d → d ≡ disk
      is d (was_named name) = let z : Some disk ≡ Some d = name in cc
      is d (is_named name) = absurd (let z : None ≡ Some d = name in cc)
      is d (is_absent below off) = elim (decide_some lost d) [
        | inl lost_is ↦ sym ((alone d lost_is).alone disk (is_absent low gone))
        | inr not ↦ one d disk (is_absent below (sym (well d not).power ∙ off)) (is_absent low gone)
      ]

  pub one_marked : (result : Result (Option ℕ) Two) → IfOk result (λ lost. (d : ℕ) → lost ≢ Some d → IsWell (old d) (new d))
      → IfOk result (λ lost. (d : ℕ) → lost ≡ Some d → IsAlone n (IsOutOfCommit (λ e. (old e).power) n named (Some disk)) d)
      → OnOk result (IsOneOut n named old → IsOneOut n (Some disk) new)
  one_marked (Ok lost) well alone = one_by lost well alone
  one_marked (Err two) well alone = tt

-- a commit that brings nothing writes nothing but the log
uses_log : (m : Meta) (c : Call) → Uses m [] c → IsInLog m.setup.geometry.disks c
uses_log m (Read d p done) uses = uses.0
uses_log m (Write d p b done) uses = (uses.0, elim uses.1 [ inl log ↦ log.1 | inr target ↦ absurd (false≢true target.1) ])
uses_log m (Sync d done) uses = uses.0
uses_log m (Park d done) uses = elim uses.1 [ inl log ↦ log | inr target ↦ target ]
uses_log m (SpinUp d done) uses = elim uses.1 [ inl log ↦ log | inr target ↦ target ]
uses_log m (Attach d size done) uses = elim uses.1 [ inl log ↦ log | inr target ↦ target ]

-- nor does the witness that it sets
witness_log : (m : Meta) (c : Call) → UsesWitness m c → IsInLog m.setup.geometry.disks c
witness_log m (Read d p done) uses = absurd uses
witness_log m (Write d p b done) uses = let at = uses.0 in let low = uses.1 in let first = uses.3 in (omega arith, omega arith)
witness_log m (Sync d done) uses = let at = uses.0 in let low = uses.1 in omega arith
witness_log m (Park d done) uses = uses
witness_log m (SpinUp d done) uses = uses
witness_log m (Attach d size done) uses = uses

pub in_log : (m : Meta) (c : Call) → UsesInCommit m [] c → IsInLog m.setup.geometry.disks c
in_log m c uses = elim uses [ inl log ↦ uses_log m c log | inr witness ↦ witness_log m c witness ]
