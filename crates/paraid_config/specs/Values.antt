-- What stands at a key of a document, and why it is refused
use Rattle.std.specs.Prelude.{◌≡◌, ◌⊎◌, ℕ, ◌&&◌, ◌||◌, ℤ, pos, negsuc, nat_le, List, [], ◌∷◌, Bool, false, Option, Some, None, if◌then◌else◌, length, codes, option_map, map}
use Rattle.std.specs.Str.{bytes_eq}
use Rattle.toml.specs.Data.{Data, string, integer, array, Items, no_items, item, Members, get_member}
use Rattle.paraid_record.specs.declared.meta.Mode.{Mode}
use Rattle.paraid_record.specs.declared.meta.Mode.TheVariants.{Whole, Access}
use Rattle.paraid_config.specs.declared.key.Key.{Key}
use Rattle.paraid_config.specs.declared.key.Key.TheVariants as key
use Rattle.paraid_config.specs.declared.fault.ConfigFault.{ConfigFault}
use Rattle.paraid_config.specs.declared.fault.ConfigFault.TheVariants.{Missing, Kind, Range, NoMemory}
use Rattle.paraid_config.specs.Keys.{key_name, low_of, high_of}

-- the value at a key
abbrev pub value_at : Members → Key → Option Data
value_at document k = get_member (key_name k) document

-- a number of a document is in a range
abbrev pub is_between : ℕ → ℕ → ℤ → Bool
is_between low high (pos n) = nat_le low n && nat_le n high
is_between low high (negsuc n) = false

-- a number out of range is named by its value
abbrev pub bounds_fault : Key → ℕ → ℕ → ℤ → Option ConfigFault
bounds_fault k low high z = if is_between low high z then None else Some (Range k z)

-- why a number out of its range is refused, if it is
abbrev pub range_fault : Key → ℤ → Option ConfigFault
range_fault k z = bounds_fault k (low_of k) (high_of k) z

-- one number is asked for
abbrev pub number_fault_in : Key → Option Data → Option ConfigFault
number_fault_in k None = Some (Missing k)
number_fault_in k (Some (integer z)) = range_fault k z
number_fault_in k (Some _) = Some (Kind k)

-- why the number at a key is refused, if it is
abbrev pub number_fault : Members → Key → Option ConfigFault
number_fault document k = number_fault_in k (value_at document k)

-- one number, at most `high`, is asked for where there is something at the key
abbrev pub optional_fault_in : Key → ℕ → Option Data → Option ConfigFault
optional_fault_in k high None = None
optional_fault_in k high (Some (integer z)) = bounds_fault k (low_of k) high z
optional_fault_in k high (Some _) = Some (Kind k)

-- the number at a key, 0 where none is
abbrev pub number_in : Option Data → ℕ
number_in (Some (integer (pos n))) = n
number_in _ = 0

-- a burst is at most the ration
abbrev pub burst_fault : Members → Option ConfigFault
burst_fault document = optional_fault_in key.Burst
    (number_in (value_at document key.Ration)) (value_at document key.Burst)

-- why the period is refused, if it is
abbrev pub period_fault : Members → Option ConfigFault
period_fault document =
    optional_fault_in key.Period (high_of key.Period) (value_at document key.Period)

-- the integers of a list that has nothing else
abbrev pub integers_of : Items → Option (List ℤ)
integers_of no_items = Some []
integers_of (item (integer z) ds) = option_map (λ zs. z ∷ zs) (integers_of ds)
integers_of (item _ ds) = None

-- the first fault of a list of tests
abbrev pub first_fault : List (Option ConfigFault) → Option ConfigFault
first_fault [] = None
first_fault (None ∷ faults) = first_fault faults
first_fault (Some fault ∷ faults) = Some fault

-- the first member that is out of the range of the key
abbrev pub member_fault : Key → List ℤ → Option ConfigFault
member_fault k zs = first_fault (map (range_fault k) zs)

-- too few or too many members are named by their number
abbrev pub members_fault : Key → ℕ → ℕ → Option (List ℤ) → Option ConfigFault
members_fault k few many None = Some (Kind k)
members_fault k few many (Some zs) =
    if nat_le few (length zs) && nat_le (length zs) many
    then member_fault k zs else Some (Range k (pos (length zs)))

-- a list of `few` to `many` integers is asked for
abbrev pub list_fault_in : Key → ℕ → ℕ → Option Data → Option ConfigFault
list_fault_in k few many None = Some (Missing k)
list_fault_in k few many (Some (array ds)) = members_fault k few many (integers_of ds)
list_fault_in k few many (Some _) = Some (Kind k)

-- why the list at a key is refused, if it is: the number of its members, then the first member out
-- of range
abbrev pub list_fault : Members → Key → ℕ → ℕ → Option ConfigFault
list_fault document k few many = list_fault_in k few many (value_at document k)

-- the text of a mode
abbrev pub mode_name : Mode → List ℕ
mode_name Whole = codes "whole"
mode_name Access = codes "access"

-- the name of a mode is asked for
abbrev pub mode_fault_in : Option Data → Option ConfigFault
mode_fault_in None = Some (Missing key.Mode)
mode_fault_in (Some (string s)) =
    if bytes_eq s (mode_name Whole) || bytes_eq s (mode_name Access)
    then None else Some (Kind key.Mode)
mode_fault_in (Some _) = Some (Kind key.Mode)

-- why the mode is refused, if it is
abbrev pub mode_fault : Members → Option ConfigFault
mode_fault document = mode_fault_in (value_at document key.Mode)

-- integers as they stand in a list of a document
abbrev pub integer_items : List ℤ → Items
integer_items [] = no_items
integer_items (z ∷ zs) = item (integer z) (integer_items zs)

-- the number at a key
abbrev pub IsNumberAt : Members → Key → ℕ → Type 0
IsNumberAt document k n = value_at document k ≡ Some (integer (pos n))

-- the number at a key, or this one where nothing is there
abbrev pub IsNumberOr : Members → Key → ℕ → ℕ → Type 0
IsNumberOr document k absent n =
    IsNumberAt document k n ⊎ ((value_at document k ≡ None) × (n ≡ absent))

-- the list of numbers at a key
abbrev pub IsListAt : Members → Key → List ℕ → Type 0
IsListAt document k ns = value_at document k ≡ Some (array (integer_items (map pos ns)))

-- the fault is this one, or memory is wanted
abbrev pub IsFaultOf : Option ConfigFault → ConfigFault → Type 0
IsFaultOf cause NoMemory = Unit {0}
IsFaultOf cause fault = cause ≡ Some fault
