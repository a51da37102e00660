-- The command of some words, as a function.
use Rattle.std.specs.Prelude.{ℕ, ◌+◌, ◌==◌, ◌&&◌, nat_le, if◌then◌else◌, Bool, true, false, List, [], ◌∷◌, take, drop, Option, Some, None, codes}
use Rattle.std.specs.List.{position}
use Rattle.std.specs.Str.{bytes_eq}
use Rattle.paraid_trace.specs.LineEvents.{number_of}
use Rattle.paraid_words.specs.declared.command.Command.{Command}
use Rattle.paraid_words.specs.declared.command.Command.TheVariants.{Format, Run, Spare, Status, Check, Gen, Nbd, Vol, Plan}
use Rattle.paraid_words.specs.declared.command.Choice.{Choice}
use Rattle.paraid_words.specs.declared.command.Choice.TheVariants.{Number, Lines, Ups, Spares, Wait}

-- whether a byte is `=`
abbrev pub is_equals : ℕ → Bool
is_equals c = c == 61

-- an option `--number`
abbrev pub number_choice : Option ℕ → Option Choice
number_choice (Some n) = Some (Number n)
number_choice None = None

-- an option `--lines`, from 1 to 1,000,000
abbrev pub lines_choice : Option ℕ → Option Choice
lines_choice (Some n) = if nat_le 1 n && nat_le n 1000000 then Some (Lines n) else None
lines_choice None = None

-- the option `--ups` with this number, 0 to 256
abbrev pub ups_choice : Option ℕ → Option Choice
ups_choice (Some n) = if nat_le n 256 then Some (Ups n) else None
ups_choice None = None

-- the option `--spares` with this number, 1 to 255
abbrev pub spares_choice : Option ℕ → Option Choice
spares_choice (Some n) = if nat_le 1 n && nat_le n 255 then Some (Spares n) else None
spares_choice None = None

-- the option `--wait` with this number, 0 to 1,000,000
abbrev pub wait_choice : Option ℕ → Option Choice
wait_choice (Some n) = if nat_le n 1000000 then Some (Wait n) else None
wait_choice None = None

-- the option of this name with this value
abbrev pub choice_of : List ℕ → List ℕ → Option Choice
choice_of name value =
    if bytes_eq name (codes "--number") then number_choice (number_of value)
    else if bytes_eq name (codes "--lines") then lines_choice (number_of value)
    else if bytes_eq name (codes "--ups") then ups_choice (number_of value)
    else if bytes_eq name (codes "--spares") then spares_choice (number_of value)
    else if bytes_eq name (codes "--wait") then wait_choice (number_of value)
    else None

-- an option whose `=` is here
abbrev pub joined_at : Option ℕ → List ℕ → Option Choice
joined_at (Some at) word = choice_of (take at word) (drop (at + 1) word)
joined_at None word = None

-- the option of a word, which is cut at its first `=`
abbrev pub joined_of : List ℕ → Option Choice
joined_of word = joined_at (position is_equals word) word

-- a command of a number and this option
abbrev pub lines_with : ℕ → Choice → Option Command
lines_with n (Lines l) = Some (Gen n l)
lines_with n choice = None

-- a command of lines and this option
abbrev pub number_with : ℕ → Choice → Option Command
number_with l (Number n) = Some (Gen n l)
number_with l choice = None

-- a command of two options
abbrev pub with_choice : Choice → Choice → Option Command
with_choice (Number n) second = lines_with n second
with_choice (Lines l) second = number_with l second
with_choice first second = None

-- `gen` with two options
abbrev pub both : Option Choice → Option Choice → Option Command
both (Some first) (Some second) = with_choice first second
both (Some first) None = None
both None second = None

-- two options in three words, of which the first is this option or none
abbrev pub three_options : Option Choice → List ℕ → List ℕ → List ℕ → Option Command
three_options (Some first) a b c = both (Some first) (choice_of b c)
three_options None a b c = both (choice_of a b) (joined_of c)

-- `plan` with its option
abbrev pub plan_with : Option Choice → Option Command
plan_with (Some (Ups u)) = Some (Plan u)
plan_with option = None

-- `run` with the option of its spares, or with both
abbrev pub spares_with : Option Choice → Option Command
spares_with (Some (Spares n)) = Some (Spare n 0)
spares_with option = None

-- so many spares with this option, where it says how long to wait
abbrev pub wait_for : ℕ → Choice → Option Command
wait_for n (Wait w) = Some (Spare n w)
wait_for n choice = None

-- so long a wait with this option, where it says how many spares
abbrev pub spares_for : ℕ → Choice → Option Command
spares_for w (Spares n) = Some (Spare n w)
spares_for w choice = None

-- `run` with two options: spares and wait, in either order
abbrev pub spare_choice : Choice → Choice → Option Command
spare_choice (Spares n) second = wait_for n second
spare_choice (Wait w) second = spares_for w second
spare_choice first second = None

-- the same of two options that may be missing
abbrev pub both_spares : Option Choice → Option Choice → Option Command
both_spares (Some first) (Some second) = spare_choice first second
both_spares (Some first) None = None
both_spares None second = None

-- the options of `run` in two words or three, of which the first is this option or none
abbrev pub two_spares : Option Choice → List ℕ → List ℕ → Option Command
two_spares (Some first) a b = both_spares (Some first) (joined_of b)
two_spares None a b = spares_with (choice_of a b)

-- the options of `run` in three words, of which the first is this option or none
abbrev pub three_spares : Option Choice → List ℕ → List ℕ → List ℕ → Option Command
three_spares (Some first) a b c = both_spares (Some first) (choice_of b c)
three_spares None a b c = both_spares (choice_of a b) (joined_of c)

-- the commands of one word
abbrev pub one_word : List ℕ → Option Command
one_word a =
    if bytes_eq a (codes "format") then Some (Format false)
    else if bytes_eq a (codes "run") then Some Run
    else if bytes_eq a (codes "status") then Some Status
    else if bytes_eq a (codes "check") then Some Check
    else if bytes_eq a (codes "nbd") then Some Nbd
    else if bytes_eq a (codes "vol") then Some Vol
    else None

-- the commands of two words
abbrev pub two_words : List ℕ → List ℕ → Option Command
two_words a b =
    if bytes_eq a (codes "format") && bytes_eq b (codes "--force") then Some (Format true)
    else if bytes_eq a (codes "plan") then plan_with (joined_of b)
    else if bytes_eq a (codes "run") then spares_with (joined_of b)
    else None

-- the commands of three words
abbrev pub three_words : List ℕ → List ℕ → List ℕ → Option Command
three_words a b c =
    if bytes_eq a (codes "gen") then both (joined_of b) (joined_of c)
    else if bytes_eq a (codes "plan") then plan_with (choice_of b c)
    else if bytes_eq a (codes "run") then two_spares (joined_of b) b c
    else None

-- the commands of four words
abbrev pub four_words : List ℕ → List ℕ → List ℕ → List ℕ → Option Command
four_words a b c d =
    if bytes_eq a (codes "gen") then three_options (joined_of b) b c d
    else if bytes_eq a (codes "run") then three_spares (joined_of b) b c d
    else None

-- the commands of five words
abbrev pub five_words : List ℕ → List ℕ → List ℕ → List ℕ → List ℕ → Option Command
five_words a b c d e =
    if bytes_eq a (codes "gen") then both (choice_of b c) (choice_of d e)
    else if bytes_eq a (codes "run") then both_spares (choice_of b c) (choice_of d e)
    else None

-- the command of these words
abbrev pub command_of : List (List ℕ) → Option Command
command_of [] = None
command_of (a ∷ []) = one_word a
command_of (a ∷ b ∷ []) = two_words a b
command_of (a ∷ b ∷ c ∷ []) = three_words a b c
command_of (a ∷ b ∷ c ∷ d ∷ []) = four_words a b c d
command_of (a ∷ b ∷ c ∷ d ∷ e ∷ []) = five_words a b c d e
command_of (a ∷ b ∷ c ∷ d ∷ e ∷ f ∷ words) = None
