-- What is known of the listed calls.
use Rattle.std.specs.Prelude.{◌≡◌, ℕ, ◌<◌, List, slice_index}
use Rattle.std.specs.List.{All}
use Rattle.paraid_rack.specs.declared.call.Call.{Call}
use Rattle.paraid_memrack.specs.CallPlan.{count_on}
use Rattle.paraid_rack.specs.Calls.{disk_of}

-- the counts of the listed calls, one for each disk
abbrev pub IsCounted : List ℕ → List Call → Type 0
IsCounted counts calls = (d : ℕ) → d < 8 → slice_index counts d ≡ count_on d calls

-- each call is on one of so many slots
abbrev pub AreOnSlots : ℕ → List Call → Type 0
AreOnSlots count calls = All (λ c. disk_of c < count) calls
