-- What a rack in memory tells.
use Rattle.std.specs.Prelude.{◌≡◌, ℕ, Bool, true, false, List, [], ◌∷◌, length, map, get_or, Option, Some, None}
use Rattle.paraid_base.specs.Xor.{zero_block}
use Rattle.paraid_rack.specs.declared.call.Power.TheVariants.{Absent}
use Rattle.paraid_rack.specs.declared.call.Call.{Call}
use Rattle.paraid_rack.specs.Disks.{Disks, is_present}
use Rattle.paraid_rack.specs.Trail.{Trail, Beginning, now, extend}
use Rattle.paraid_memrack.specs.declared.log.Start.{Start}
use Rattle.paraid_memrack.specs.Slots.{FullSlot}

-- a start as a beginning of the record
abbrev pub beginning_of : Start → Beginning
beginning_of s = record { power = s.power; blocks = s.blocks.items }

-- a slot with no disk at the start
abbrev pub no_beginning : Beginning
no_beginning = record { power = Absent; blocks = [] }

-- the start and the calls, where it tells
unfoldable pub told_by : Bool → List Start → List Call → Option Trail
told_by true start calls = Some (record { start = map beginning_of start; calls = calls })
told_by false start calls = None

-- what is told after one more call, which may be listed or not
unfoldable pub told_after : Bool → Option Trail → Call → Option Trail
told_after true (Some t) c = Some (extend t (c ∷ []))
told_after true None c = None
told_after false told c = None

-- disk d is in this state exactly as the slot has it; of an absent disk the blocks do not count
pub record IsSlotOf (s : Disks) (d : ℕ) (v : FullSlot) : Type 0 where
  pub power : s.power d ≡ v.power
  pub size : s.size d ≡ length v.blocks
  pub loose : (p : ℕ) → s.loose d p ≡ true → v.unsynced ≡ true
  pub block : is_present v.power ≡ true → (p : ℕ) → s.block d p ≡ get_or v.blocks p zero_block

-- the slots hold what is told
abbrev pub AreSlotsOf : Option Trail → (ℕ → FullSlot) → Type 0
AreSlotsOf told views = (t : Trail) → told ≡ Some t → (d : ℕ) → IsSlotOf (now t) d (views d)
