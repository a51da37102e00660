-- What the text of a sidecar says.
use Rattle.std.specs.Prelude.{ℕ, ◌-◌, List, length, take, codes}
use Rattle.std.specs.List.{suffix_len}
use Rattle.std.specs.Char.{is_ascii_whitespace}
use Rattle.paraid_rack.specs.declared.call.Power.{Power}
use Rattle.paraid_rack.specs.declared.call.Power.TheVariants.{Spinning, Parked, Absent}

-- the word for a power; a disk that has failed is absent
abbrev pub power_word : Power → List ℕ
power_word Spinning = codes "spinning"
power_word Parked = codes "parked"
power_word Absent = codes "failed"

-- a text without the white space at its end
abbrev pub trim_end : List ℕ → List ℕ
trim_end text = take (length text - suffix_len is_ascii_whitespace text) text
