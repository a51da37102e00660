-- What a write of blocks that follow one another does to the disks.
use Rattle.std.specs.Prelude.{◌≡◌, ◌⊎◌, ℕ, Bool, true, false, List, [], Some, None}
use Rattle.paraid_rack.specs.declared.call.Call.{Call}
use Rattle.paraid_rack.specs.Disks.{Disks, lose}
use Rattle.paraid_rack.specs.Trail.{run}
use Rattle.paraid_rack.specs.Told.{Through}
use Rattle.paraid_gather.specs.PowerCalls.{power_calls}
use Rattle.paraid_gather.specs.Waiting.{Waiting, waiting}

-- the same powers and sizes
pub record HasPowersOf (s t : Disks) : Type 0 where
  pub power : (d : ℕ) → t.power d ≡ s.power d
  pub size : (d : ℕ) → t.size d ≡ s.size d

-- the disks as a call on disk d leaves them that is done or has failed, but for blocks
abbrev pub left_by : Bool → ℕ → Disks → Disks
left_by true d s = s
left_by false d s = lose d s

-- Disks while blocks are written on disk d: only at their places anything has changed, and the disk
-- is absent only where the write fails.
pub record IsBetween (s : Disks) (d : ℕ) (w : Waiting) (ok : Bool) (t : Disks) : Type 0 where
  pub block : (e p : ℕ) → (e ≡ d → waiting w p ≡ None) → t.block e p ≡ s.block e p
  pub loose : (e p : ℕ) → (e ≡ d → waiting w p ≡ None) → t.loose e p ≡ s.loose e p
  pub powers : HasPowersOf s t ⊎ HasPowersOf (left_by ok d s) t

-- the calls of such a write, each moment of which may be the last; no disk is turned on or off
pub record WritesBlocks
    (d : ℕ) (w : Waiting) (ok : Bool) (s : Disks) (cs : List Call) : Type 0 where
  pub moments : Through (IsBetween s d w ok) s cs
  pub powers : HasPowersOf (left_by ok d s) (run s cs)
  pub turned : power_calls cs ≡ []
  pub bytes : ok ≡ true
      → (p : ℕ) (b : List ℕ) → waiting w p ≡ Some b → ((run s cs).block d p).bytes ≡ b
