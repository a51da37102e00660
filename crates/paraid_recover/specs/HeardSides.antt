-- What was read of a log disk, and what its reads leave.
use Rattle.std.specs.Prelude.{Bool, true, false, ◌≡◌, ◌≢◌, ◌⊎◌, ◌<◌, ◌≤◌, ℕ, List, [], length, Option, Some, None}
use Rattle.paraid_base.specs.declared.fault.Two.{Two}
use Rattle.paraid_base.specs.Log.{log_most}
use Rattle.paraid_base.specs.Told.{HasRisen}
use Rattle.paraid_rack.specs.declared.call.Call.{Call}
use Rattle.paraid_rack.specs.declared.call.Call.TheVariants.{Read, Write, Sync, Park, SpinUp, Attach}
use Rattle.paraid_rack.specs.declared.call.Power.{Power}
use Rattle.paraid_rack.specs.declared.call.Power.TheVariants.{Absent, Parked, Spinning}
use Rattle.paraid_rack.specs.declared.rack.Rack.{Ghosts}
use Rattle.paraid_rack.specs.Disks.{Disks, is_present, lose}
use Rattle.paraid_rack.specs.Slots.{AreSameSlots, Slot}
use Rattle.paraid_rack.specs.Told.{Ran, CrashTriple}
use Rattle.paraid_rack.specs.Trail.{Trail}
use Rattle.paraid_record.specs.Range.{IsInRange}
use Rattle.paraid_record.specs.Targets.{AreTargets}
use Rattle.paraid_recover.specs.declared.hearing.Heard.{Heard}
use Rattle.paraid_recover.specs.declared.hearing.Heard.TheVariants.{Blank, Bad, Formed}
use Rattle.paraid_image.specs.Sides.{Batch, IsBad, IsSide, Says, is_open, stored_block, targets, Side}
use Rattle.paraid_image.specs.Sides.Side.{absent, blank, bad, formed}
use Rattle.paraid_image.specs.Standing.{other_log}
use Rattle.paraid_txn.specs.Uses.{EachCall}

-- the side of log disk `x` is this, with this batch
abbrev pub IsHeard : Disks → ℕ → Heard → Batch → Type 0
IsHeard i x Blank batch = IsSide i x blank
IsHeard i x (Bad gate_open) batch = IsBad i x × (is_open (stored_block i x 0) ≡ gate_open)
IsHeard i x (Formed gate_open meta) batch =
    Says i x (record { opened = gate_open; meta = meta; batch = batch })

-- the side of log disk `x` is this, with this batch; or that log disk is absent, and there is none
abbrev pub IsHeardAt : Disks → ℕ → Option Heard → Batch → Type 0
IsHeardAt i x None batch = is_present (i.power x) ≡ false
IsHeardAt i x (Some heard) batch = IsHeard i x heard batch

-- the side in short of a log disk of which this was read, with this batch; an absent one has none
abbrev pub side_by : Option Heard → Batch → Side
side_by None batch = absent
side_by (Some Blank) batch = blank
side_by (Some (Bad gate_open)) batch = bad
side_by (Some (Formed gate_open meta)) batch =
    formed (record { opened = gate_open; meta = meta; batch = batch })

-- The calls from the one record to the other leave the disks as they are at each moment.
abbrev pub IsUnchanged : Option Trail → Option Trail → Type 0
IsUnchanged old new = (start : Disks)
    → Ran old new (CrashTriple (λ s. s ≡ start) (λ s. s ≡ start) (λ s. s ≡ start))

-- The calls from the one record to the other leave the disks as they are, until this disk is lost
-- in the last one.
abbrev pub IsLosing : ℕ → Option Trail → Option Trail → Type 0
IsLosing d old new =
    (start : Disks) → Ran old new
    (CrashTriple (λ s. (s ≡ start) ⊎ (s ≡ lose d start)) (λ s. s ≡ start) (λ s. s ≡ lose d start))

-- these disks, or with one log disk lost; or with both
abbrev pub AmongOne : Disks → Disks → Type 0
AmongOne start s = (s ≡ start) ⊎ (s ≡ lose 0 start) ⊎ (s ≡ lose 1 start)

-- the disks as they were, or with one or both log disks lost
abbrev pub AmongTwo : Disks → Disks → Type 0
AmongTwo start s = AmongOne start s ⊎ (s ≡ lose 1 (lose 0 start))

-- The calls leave the disks as they are at each moment, but for one log disk that may be lost.
abbrev pub IsReadOnly : Option Trail → Option Trail → Type 0
IsReadOnly old new = (start : Disks)
    → Ran old new (CrashTriple (AmongOne start) (λ s. s ≡ start) (AmongOne start))

-- the same, where both may be lost
abbrev pub IsReadLosing : Option Trail → Option Trail → Type 0
IsReadLosing old new = (start : Disks)
    → Ran old new (CrashTriple (AmongTwo start) (λ s. s ≡ start) (AmongTwo start))

-- Which two log disks are gone, by the power that disk 1 had before any failed: that which was
-- absent comes first, or else disk 0.
abbrev pub gone_pair : Power → Two
gone_pair Absent = record { first = 1; second = 0 }
gone_pair Parked = record { first = 0; second = 1 }
gone_pair Spinning = record { first = 0; second = 1 }

-- a read of the log of log disk `x`
abbrev pub ReadsLog : ℕ → Call → Type 0
ReadsLog x (Read d p done) = (d ≡ x) × (p < log_most)
ReadsLog x (Write d p b done) = ⊥
ReadsLog x (Sync d done) = ⊥
ReadsLog x (Park d done) = ⊥
ReadsLog x (SpinUp d done) = ⊥
ReadsLog x (Attach d size done) = ⊥

-- disk `d` has failed: its count has risen, and it is absent
pub record IsFailed (old new : ℕ → Slot) (d : ℕ) : Type 0 where
  pub risen : HasRisen (old d).faults (new d).faults
  pub later : (old d).faults ≤ (new d).faults
  pub gone : (new d).power ≡ Absent

-- The meta and the targets of what was heard are in range, and under a closed gate there are none.
abbrev pub IsInForm : Option Heard → Batch → Type 0
IsInForm None batch = Unit {0}
IsInForm (Some Blank) batch = Unit {0}
IsInForm (Some (Bad gate_open)) batch = Unit {0}
IsInForm (Some (Formed gate_open meta)) batch =
    IsInRange meta
    × AreTargets meta.setup.geometry (targets batch) × (gate_open ≡ false → batch ≡ [])

-- None is heard of a log disk that is absent, and all else of one that spins
abbrev pub IsHeardBy : Option Heard → Power → Type 0
IsHeardBy None power = power ≡ Absent
IsHeardBy (Some heard) power = power ≡ Spinning

-- a read of the log of a log disk, or of a witness
abbrev pub ReadsLogs : Call → Type 0
ReadsLogs (Read d p done) = (d < 3) × (p < log_most)
ReadsLogs (Write d p b done) = ⊥
ReadsLogs (Sync d done) = ⊥
ReadsLogs (Park d done) = ⊥
ReadsLogs (SpinUp d done) = ⊥
ReadsLogs (Attach d size done) = ⊥

-- at most so many calls
abbrev pub AtMost : ℕ → Disks → List Call → Type 0
AtMost n s calls = length calls ≤ n

-- At most `n` reads of the log of log disk `x` were made. All is as it was; or the last one failed,
-- and the disk is lost by it.
pub record HasReadLog {R : Type 0} (g : Ghosts R) (x n : ℕ) (old new : R) (ok : Bool) : Type 0 where
  pub slots : g.slot_count new ≡ g.slot_count old
  pub others : (d : ℕ) → d ≢ x → g.slot new d ≡ g.slot old d
  pub same : ok ≡ true → AreSameSlots (g.slot old) (g.slot new)
  pub unchanged : ok ≡ true → IsUnchanged (g.told old) (g.told new)
  pub failed : ok ≡ false → IsFailed (g.slot old) (g.slot new) x
  pub lost : ok ≡ false → IsLosing x (g.told old) (g.told new)
  pub calls : Ran (g.told old) (g.told new) (EachCall (ReadsLog x))
  pub few : Ran (g.told old) (g.told new) (AtMost n)

-- No slot has changed; or one log disk that spun has failed, and the other one spins.
pub data IsOneLost (old new : ℕ → Slot) : Type 0 where
  none : AreSameSlots old new → IsOneLost old new
  one : (x : ℕ) → x < 2 → (old x).power ≡ Spinning → IsFailed old new x
      → ((d : ℕ) → d ≢ x → new d ≡ old d) → (new (other_log x)).power ≡ Spinning → IsOneLost old new

-- Both log disks are absent. The second of these two spun and has failed; the first was absent, or
-- has failed too. No other slot has changed.
pub record AreBothLost (old new : ℕ → Slot) (two : Two) : Type 0 where
  pub pair : two ≡ gone_pair (old 1).power
  pub first : ((old two.first).power ≡ Absent)
      ⊎ (((old two.first).power ≡ Spinning) × IsFailed old new two.first)
  pub spun : (old two.second).power ≡ Spinning
  pub failed : IsFailed old new two.second
  pub gone : (x : ℕ) → x < 2 → (new x).power ≡ Absent
  pub others : (d : ℕ) → 2 ≤ d → new d ≡ old d
