-- Why an array has halted, over every rack: which two disks are down, or how worn it is.
use Rattle.std.specs.Prelude.{◌≡◌, ◌≢◌, ℕ, ◌≤◌, List, ◌++◌, Option, Some}
use Rattle.paraid_base.specs.declared.event.Event.{Event}
use Rattle.paraid_base.specs.declared.event.Event.TheVariants.{Fail}
use Rattle.paraid_base.specs.declared.fault.Halt.{Halt}
use Rattle.paraid_base.specs.declared.fault.Halt.TheVariants.{Two as HaltTwo, Worn}
use Rattle.paraid_base.specs.declared.fault.Two.{Two}
use Rattle.paraid_base.specs.Log.{worn_at}
use Rattle.paraid_base.specs.Told.{GrowsByBytes, HasRisen}
use Rattle.paraid_serve.specs.Ending.{halt_line}
use Rattle.paraid_rack.specs.Slots.{Slot}
use Rattle.paraid_session.specs.Faults.{HaveNotFallen}

-- Disk `d` is down as an event ends: it was the one that was out before, or has failed in the
-- event, or is the one that the event takes out.
pub data IsDownBy (down : Option ℕ) (event : Event) (old new : ℕ → Slot) (d : ℕ) : Type 0 where
  was_out : down ≡ Some d → IsDownBy down event old new d
  has_failed : HasRisen (old d).faults (new d).faults → IsDownBy down event old new d
  is_taken_out : event ≡ Fail d → IsDownBy down event old new d

-- Two different disks were lost: the first is down as the event ends, and the second has failed in
-- it. In which order is not said here (`EndsServing` says it of the calls).
pub record AreTwoLost
    (down : Option ℕ) (event : Event) (old new : ℕ → Slot) (two : Two) : Type 0 where
  pub first : IsDownBy down event old new two.first
  pub apart : two.first ≢ two.second
  pub second : HasRisen (old two.second).faults (new two.second).faults

-- an event ends in a halt that names two disks only where they were lost in it
abbrev pub HaltsByTwoLost : Option ℕ → Event → (ℕ → Slot) → (ℕ → Slot) → Option Halt → Type 0
HaltsByTwoLost down event old new halt = (two : Two)
    → halt ≡ Some (HaltTwo two) → AreTwoLost down event old new two

-- of two different disks the second has failed between these slots
pub record IsSecondLost (old new : ℕ → Slot) (two : Two) : Type 0 where
  pub apart : two.first ≢ two.second
  pub second : HasRisen (old two.second).faults (new two.second).faults

-- a halt that names two disks has come of the failure of the second one between these slots
abbrev pub HaltsBySecondLoss : (ℕ → Slot) → (ℕ → Slot) → Option Halt → Type 0
HaltsBySecondLoss old new halt = (two : Two) → halt ≡ Some (HaltTwo two) → IsSecondLost old new two

-- Events of a session led from these slots to others: no count has fallen, and a halt that names
-- two disks has come of the failure of the second one since.
pub record HasServedSince (start slot : ℕ → Slot) (halt : Option Halt) : Type 0 where
  pub later : HaveNotFallen start slot
  pub lost : HaltsBySecondLoss start slot halt

-- The last line of what was written names two different disks, of which the second has failed
-- between these slots.
pub record NamesTwoLost
    (old new : ℕ → Slot) (written_before written : Option (List ℕ)) : Type 0 where
  pub two : Two
  pub lost : IsSecondLost old new two
  pub text : List ℕ
  pub line : GrowsByBytes written_before written (text ++ halt_line (HaltTwo two))

-- a halt that tells wear tells 2^62 commits or writes, or more
abbrev pub HaltsByWear : Option Halt → Type 0
HaltsByWear halt = (count : ℕ) → halt ≡ Some (Worn count) → worn_at ≤ count

-- The last line of what was written tells 2^62 commits or writes, or more.
pub record TellsWear (written_before written : Option (List ℕ)) : Type 0 where
  pub count : ℕ
  pub many : worn_at ≤ count
  pub text : List ℕ
  pub line : GrowsByBytes written_before written (text ++ halt_line (Worn count))
