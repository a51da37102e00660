-- What can be written before some calls of a commit can be written after them.
use Rattle.std.specs.Prelude.{◌≡◌, ◌≢◌, ℕ, ◌<◌, true, List, Option, Some}
use Rattle.std.proofs.Common.{arith}
use Rattle.paraid_base.specs.Log.{log_least}
use Rattle.paraid_rack.specs.Slots.{Slot}
use Rattle.paraid_record.specs.declared.targets.Target.{Target}
use Rattle.paraid_txn.specs.declared.losses.Losses.{Losses}
use Rattle.paraid_txn.specs.Losses.{CanWrite, AreCommitCalls}
use Rattle.paraid_txn.specs.Ready.{AreTargetsReady, IsLogReady}
use Rattle.paraid_image.specs.Sides.{Batch, targets}
use Rattle.paraid_image.specs.Batches.{names_disk}
use Rattle.paraid_txn.proofs.DownLemmas.{CanWrite-later, CanWrite-lower}
use Rattle.paraid_txn.proofs.TargetsLemmas.{target_on}

pub log_stays_ready : {from to : Losses} {old new : ℕ → Slot} {skip : Option ℕ} → AreCommitCalls from to old new → IsLogReady skip old → IsLogReady skip new
log_stays_ready lasts ready = record { can = λ x low not. CanWrite-later _ _ _ _ _ _ lasts (ready.can x low not) }

pub targets_stay_ready : {from to : Losses} {old new : ℕ → Slot} (skip : Option ℕ) (count now : ℕ) (ts : List Target)
    → AreCommitCalls from to old new → now ≡ count → AreTargetsReady skip count old ts → AreTargetsReady skip now new ts
targets_stay_ready skip count now ts lasts same ready k t lt =
    let was = ready k t lt in
    (omega arith, λ not. CanWrite-later _ _ _ _ _ _ lasts (was.1 not))

-- each place of the log can be written
pub log_can : {slot : ℕ → Slot} {skip : Option ℕ} {d : ℕ} (p : ℕ) → IsLogReady skip slot → d < 2 → p < log_least → skip ≢ Some d → CanWrite slot d p
log_can p ready log_disk low not = CanWrite-lower _ _ p 99 (omega arith) (ready.can _ log_disk not)

-- a disk that has targets can be synced
pub disk_can : {slot : ℕ → Slot} {skip : Option ℕ} {count : ℕ} (batch : Batch) (d : ℕ) → AreTargetsReady skip count slot (targets batch)
    → names_disk batch d ≡ true → skip ≢ Some d → CanWrite slot d 0
disk_can {slot} {skip} {count} batch d ready on not =
    let t = target_on (λ (t : Target). (t.disk < count) × (skip ≢ Some t.disk → CanWrite slot t.disk t.place)) batch d ready on in
    rw (← (t.1)) (CanWrite-lower slot t.0.disk 0 t.0.place (omega arith) (t.2.1 (λ is. not (rw (← (t.1)) is))))
