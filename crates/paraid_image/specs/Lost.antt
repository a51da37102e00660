-- Which disk failed first in some calls, and what is told of two that are lost.
use Rattle.std.specs.Prelude.{◌≡◌, ◌≢◌, ◌⊎◌, ℕ, ◌==◌, Bool, true, false, List, [], ◌∷◌, ◌++◌, Option, Some, None, Result, Ok, Err, if◌then◌else◌}
use Rattle.paraid_base.specs.declared.fault.Two.{Two}
use Rattle.paraid_rack.specs.declared.call.Call.{Call}
use Rattle.paraid_image.specs.Calls.{disk_of, is_done}

-- the disk of the first failed call
abbrev pub first_lost : List Call → Option ℕ
first_lost [] = None
first_lost (call ∷ calls) = if is_done call then first_lost calls else Some (disk_of call)

-- disk `d` failed in one of these calls
abbrev pub fails_on : ℕ → List Call → Bool
fails_on d [] = false
fails_on d (call ∷ calls) = if is_done call
    then fails_on d calls else (if disk_of call == d then true else fails_on d calls)

-- After those calls before it the last of these failed, on this disk.
pub record EndsFailing (disk : ℕ) (before cs : List Call) : Type 0 where
  pub last : Call
  pub is : cs ≡ before ++ last ∷ []
  pub failed : is_done last ≡ false
  pub on : disk_of last ≡ disk

-- The last of these calls failed on this disk, and no call before it failed.
pub record EndsByFailure (disk : ℕ) (cs : List Call) : Type 0 where
  pub before : List Call
  pub ends : EndsFailing disk before cs
  pub none : first_lost before ≡ None

-- no call failed; or only the last one did, on this disk
abbrev pub EndsByLoss : Option ℕ → List Call → Type 0
EndsByLoss None cs = first_lost cs ≡ None
EndsByLoss (Some disk) cs = EndsByFailure disk cs

-- The last of these calls is the one that failed on the second disk, and before it no disk failed
-- but the first.
pub record EndsBySecond (two : Two) (cs : List Call) : Type 0 where
  pub before : List Call
  pub ends : EndsFailing two.second before cs
  pub alone : (d : ℕ) → fails_on d before ≡ true → d ≡ two.first

-- Two disks are lost: these calls ended by the one that failed on the second; the first was out, or
-- none was, and it failed first.
pub record TellsLosses (out : Option ℕ) (two : Two) (cs : List Call) : Type 0 where
  pub apart : two.first ≢ two.second
  pub first : (out ≡ Some two.first) ⊎ ((out ≡ None) × (first_lost cs ≡ Some two.first))
  pub ends : EndsBySecond two cs

-- One disk is lost at most: where none was out, the one that is out now is the first that failed in
-- these calls, and where one was out, it is so still. No other disk failed.
pub record BearsLoss (was now : Option ℕ) (cs : List Call) : Type 0 where
  pub first : was ≡ None → first_lost cs ≡ now
  pub stays : (d : ℕ) → was ≡ Some d → now ≡ Some d
  pub only : (d : ℕ) → fails_on d cs ≡ true → now ≡ Some d

-- what is told of a part by its answer
abbrev pub AnswersLosses : {A : Type 0} → Option ℕ → Option ℕ → Result A Two → List Call → Type 0
AnswersLosses was now (Ok it) cs = BearsLoss was now cs
AnswersLosses was now (Err two) cs = TellsLosses was two cs
