-- How a mount powers the disks by the gear, and what its spin-ups and parks leave.
use Rattle.std.specs.Prelude.{◌≡◌, ◌≢◌, ℕ, ◌<◌, ◌≤◌, Bool, true, false, Some, None, Result, OnOk, IfErr, is_ok, if◌then◌else◌}
use Rattle.paraid_base.specs.declared.fault.Two.{Two}
use Rattle.paraid_base.specs.Told.{HasRisen}
use Rattle.paraid_rack.specs.declared.call.Call.{Call}
use Rattle.paraid_rack.specs.declared.call.Call.TheVariants.{Read, Write, Sync, Park, SpinUp, Attach}
use Rattle.paraid_rack.specs.declared.rack.Rack.{Ghosts}
use Rattle.paraid_rack.specs.Disks.{is_present}
use Rattle.paraid_rack.specs.Slots.{Slot}
use Rattle.paraid_rack.specs.Told.{Ran}
use Rattle.paraid_record.specs.declared.meta.Meta.{Meta}
use Rattle.paraid_image.specs.Lost.{AnswersLosses, EndsByLoss}
use Rattle.paraid_image.specs.Out.{named_out}
use Rattle.paraid_image.specs.Power.{power_by_gear, spins_by_gear}
use Rattle.paraid_image.specs.Spot.{rising_to}
use Rattle.paraid_txn.specs.declared.store.Lost.{Lost}
use Rattle.paraid_txn.specs.declared.store.Store.{Store}
use Rattle.paraid_txn.specs.Losses.{AreGoneSince, IsGoneSince, IsLostBy, IsOneOut, IsOutOfCommit, AreTwoDownBeside}
use Rattle.paraid_txn.specs.Stores.{IsSameStore, store_out, store_rack}
use Rattle.paraid_txn.specs.Uses.{EachCall}

-- whether a disk that is not out is to spin
abbrev pub is_to_spin : Meta → ℕ → Bool
is_to_spin m d = spins_by_gear m.gear m.phase d

-- a park of a disk that is not to spin, or a spin-up of one that a shift up has recorded; the disk
-- is not named out
abbrev pub IsPowerCall : Meta → Call → Type 0
IsPowerCall m (Read d p done) = ⊥
IsPowerCall m (Write d p b done) = ⊥
IsPowerCall m (Sync d done) = ⊥
IsPowerCall m (Park d done) = (d < m.setup.geometry.disks)
    × (m.gear ≤ d) × (rising_to m.phase ≤ d) × (named_out m.out ≢ Some d)
IsPowerCall m (SpinUp d done) = (d < m.setup.geometry.disks)
    × (m.gear ≤ d) × (d < rising_to m.phase) × (named_out m.out ≢ Some d)
IsPowerCall m (Attach d size done) = ⊥

-- What a spin-up or a park of a disk, or none, leaves of its slot. One that is named out gets none.
pub record IsPowerChanged (m : Meta) (d : ℕ) (old new : Slot) : Type 0 where
  pub later : old.faults ≤ new.faults
  pub there : is_present new.power ≡ true → is_present old.power ≡ true
  pub size : is_present new.power ≡ true → new.size ≡ old.size
  pub unsynced : is_present new.power ≡ true → new.unsynced ≡ old.unsynced
  pub risen : is_present old.power ≡ true
      → is_present new.power ≡ false → HasRisen old.faults new.faults
  pub still : named_out m.out ≡ Some d → new ≡ old

-- a disk that is there and not named out has the power that the gear asks for
abbrev pub IsPowered : Meta → (ℕ → Slot) → ℕ → Type 0
IsPowered m slot d = named_out m.out ≢ Some d
    → is_present (slot d).power ≡ true → (slot d).power ≡ power_by_gear m.gear m.phase d

-- One disk is powered as the gear asks, or has failed and no call follows.
pub record HasChangedPower {R : Type 0} {l : _} (g : Ghosts R)
    (m : Meta) (disk : ℕ) (old new : Store R l) (result : Result (Unit {0}) Lost) : Type 0 where
  pub slots : g.slot_count (store_rack new) ≡ g.slot_count (store_rack old)
  pub same : IsSameStore old new
  pub others : (d : ℕ) → d ≢ disk → g.slot (store_rack new) d ≡ g.slot (store_rack old) d
  pub here : IsPowerChanged m disk (g.slot (store_rack old) disk) (g.slot (store_rack new) disk)
  pub powered : IsPowered m (g.slot (store_rack new)) disk
  pub calls : Ran (g.told (store_rack old)) (g.told (store_rack new)) (EachCall (IsPowerCall m))
  pub kept : OnOk result (is_present (g.slot (store_rack old) disk).power ≡ true
      → is_present (g.slot (store_rack new) disk).power ≡ true)
  pub lost : IfErr result
      (IsLostBy (store_out g.slot old) disk (g.slot (store_rack old)) (g.slot (store_rack new)))
  pub gone : IfErr result (λ lost.
      IsGoneSince (g.slot (store_rack old)) (g.slot (store_rack new)) disk)
  pub ends : Ran (g.told (store_rack old)) (g.told (store_rack new)) (λ s cs.
      EndsByLoss (if is_ok result then None else Some disk) cs)

-- The same, where a failure beside which none was out is borne; or two are down. Which disk failed
-- first is told.
pub record HasPowered {R : Type 0} {l : _} (g : Ghosts R)
    (m : Meta) (disk : ℕ) (old new : Store R l) (result : Result (Unit {0}) Two) : Type 0 where
  pub slots : g.slot_count (store_rack new) ≡ g.slot_count (store_rack old)
  pub same : IsSameStore old new
  pub others : (d : ℕ) → d ≢ disk → g.slot (store_rack new) d ≡ g.slot (store_rack old) d
  pub here : IsPowerChanged m disk (g.slot (store_rack old) disk) (g.slot (store_rack new) disk)
  pub powered : IsPowered m (g.slot (store_rack new)) disk
  pub calls : Ran (g.told (store_rack old)) (g.told (store_rack new)) (EachCall (IsPowerCall m))
  pub one : OnOk result (IsOneOut m.setup.geometry.disks (named_out m.out) (g.slot (store_rack old))
      → IsOneOut m.setup.geometry.disks (named_out m.out) (g.slot (store_rack new)))
  pub two : IfErr result (AreTwoDownBeside (IsOutOfCommit (λ d.
      (g.slot (store_rack old) d).power) m.setup.geometry.disks (named_out m.out) None)
      (g.slot (store_rack old)) (g.slot (store_rack new)))
  pub gone : IfErr result
      (AreGoneSince (IsOutOfCommit (λ d. (g.slot (store_rack old) d).power) m.setup.geometry.disks
      (named_out m.out) None) (g.slot (store_rack old)) (g.slot (store_rack new)))
  pub order : Ran (g.told (store_rack old)) (g.told (store_rack new)) (λ s cs.
      AnswersLosses (store_out g.slot old) (store_out g.slot new) result cs)

-- The first `k` disks are powered so, but for one that has failed and beside which none was out; or
-- two are down.
pub record ArePowered {R : Type 0} {l : _} (g : Ghosts R)
    (m : Meta) (k : ℕ) (old new : Store R l) (result : Result (Unit {0}) Two) : Type 0 where
  pub slots : g.slot_count (store_rack new) ≡ g.slot_count (store_rack old)
  pub same : IsSameStore old new
  pub turned : (d : ℕ) → IsPowerChanged m d (g.slot (store_rack old) d) (g.slot (store_rack new) d)
  pub rest : (d : ℕ) → k ≤ d → g.slot (store_rack new) d ≡ g.slot (store_rack old) d
  pub powered : OnOk result ((d : ℕ) → d < k → IsPowered m (g.slot (store_rack new)) d)
  pub calls : Ran (g.told (store_rack old)) (g.told (store_rack new)) (EachCall (IsPowerCall m))
  pub one : OnOk result (IsOneOut m.setup.geometry.disks (named_out m.out) (g.slot (store_rack old))
      → IsOneOut m.setup.geometry.disks (named_out m.out) (g.slot (store_rack new)))
  pub two : IfErr result (AreTwoDownBeside (IsOutOfCommit (λ d.
      (g.slot (store_rack old) d).power) m.setup.geometry.disks (named_out m.out) None)
      (g.slot (store_rack old)) (g.slot (store_rack new)))
  pub gone : IfErr result
      (AreGoneSince (IsOutOfCommit (λ d. (g.slot (store_rack old) d).power) m.setup.geometry.disks
      (named_out m.out) None) (g.slot (store_rack old)) (g.slot (store_rack new)))
  pub order : Ran (g.told (store_rack old)) (g.told (store_rack new)) (λ s cs.
      AnswersLosses (store_out g.slot old) (store_out g.slot new) result cs)
