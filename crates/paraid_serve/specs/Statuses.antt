-- The statuses that a command ends with.
use Rattle.std.specs.Prelude.{◌≡◌, ℕ, ◌⊎◌, List, [], ◌∷◌}

-- all was done
abbrev pub status_done : ℕ
status_done = 0

-- the words are not those of a command
abbrev pub status_words : ℕ
status_words = 2

-- the source has failed
abbrev pub status_source : ℕ
status_source = 3

-- the sink has failed
abbrev pub status_sink : ℕ
status_sink = 4

-- two disks are down
abbrev pub status_two : ℕ
status_two = 5

-- the disks in the slots make no array
abbrev pub status_not_an_array : ℕ
status_not_an_array = 6

-- there was no memory
abbrev pub status_no_memory : ℕ
status_no_memory = 7

-- the configuration is refused
abbrev pub status_config : ℕ
status_config = 8

-- the disks belong to an array already
abbrev pub status_already_formatted : ℕ
status_already_formatted = 9

-- all that may be taken of a source was taken, and no whole line is left
abbrev pub status_too_long : ℕ
status_too_long = 10

-- a disk has failed while an array was made, or there is no slot for it
abbrev pub status_disk : ℕ
status_disk = 11

-- 2^62 commits or writes were made
abbrev pub status_worn : ℕ
status_worn = 12

-- a count of `check` is not 0
abbrev pub status_found : ℕ
status_found = 13

-- a client of the network block service has broken the protocol
abbrev pub status_protocol : ℕ
status_protocol = 14

-- a line of the source is none of a demand
abbrev pub status_demand : ℕ
status_demand = 15

-- another command works in the folder, an image is in use, or the folder cannot be opened
abbrev pub status_busy : ℕ
status_busy = 16

-- the status is one of these
abbrev pub IsOneOf : List ℕ → ℕ → Type 0
IsOneOf [] status = ⊥
IsOneOf (first ∷ []) status = status ≡ first
IsOneOf (first ∷ next ∷ rest) status = (status ≡ first) ⊎ IsOneOf (next ∷ rest) status
