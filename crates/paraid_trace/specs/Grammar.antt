-- What a line of each event looks like
use Rattle.std.specs.Prelude.{◌≡◌, ℕ, ◌^◌, ◌<◌, ◌≤◌, List, [], ◌∷◌, ◌++◌, length, Ok, codes, decimal}
use Rattle.hex.specs.Hex.{decode_of}
use Rattle.paraid_base.specs.declared.block.Block.{Block}
use Rattle.paraid_base.specs.declared.event.Event.{Event}
use Rattle.paraid_base.specs.declared.event.Event.TheVariants.{Read, Write, Flush, Tick, Up, Down, Fail, Replace, State, Energy, Bad}
use Rattle.paraid_base.specs.declared.pairs.Pairs.{Pairs}
use Rattle.paraid_base.specs.History.{Entry}
use Rattle.paraid_base.specs.Pairs.{pairs_of}
use Rattle.paraid_trace.specs.Repeats.{Repeats}

-- a number below 2^32 in decimal digits, with no zero before another digit
pub record IsNumber (digits : List ℕ) (n : ℕ) : Type 0 where
  pub below : n < 2 ^ 32
  pub printed : digits ≡ decimal n

-- 2 to 1,024 hexadecimal digits of either case, an even number of them, for the bytes that the
-- block repeats
pub record IsHexOf (digits : List ℕ) (block : Block) : Type 0 where
  pub low : 2 ≤ length digits
  pub high : length digits ≤ 1024
  pub pattern : List ℕ
  pub value : decode_of digits ≡ Ok pattern
  pub repeats : Repeats pattern block

-- a word, one space, and a number
pub record IsNumberedWord (word line : List ℕ) (n : ℕ) : Type 0 where
  pub digits : List ℕ
  pub number : IsNumber digits n
  pub printed : line ≡ word ++ codes " " ++ digits

-- one space, the number of a block, one space, hexadecimal digits, and a rest
pub record IsGroup (pair : ℕ × Block) (IsRest : List ℕ → Type 0) (text : List ℕ) : Type 0 where
  pub digits : List ℕ
  pub hex : List ℕ
  pub rest : List ℕ
  pub number : IsNumber digits pair.0
  pub bytes : IsHexOf hex pair.1
  pub printed : text ≡ codes " " ++ (digits ++ (codes " " ++ (hex ++ rest)))
  pub others : IsRest rest

-- a group for each pair, and nothing else
abbrev pub AreGroups : Entry → List ℕ → Type 0
AreGroups [] text = text ≡ []
AreGroups (pair ∷ pairs) text = IsGroup pair (AreGroups pairs) text

-- `w` and a group for each of the one to eight pairs, in at most 1,100 bytes
pub record IsWriteLine (line : List ℕ) (pairs : Pairs) : Type 0 where
  pub groups : List ℕ
  pub printed : line ≡ codes "w" ++ groups
  pub each : AreGroups (pairs_of pairs) groups
  pub short : length line ≤ 1100

-- The line asks for the event. No line asks for `Bad`: it stands for the lines of no event.
abbrev pub IsLineOf : List ℕ → Event → Type 0
IsLineOf line (Read block) = IsNumberedWord (codes "r") line block
IsLineOf line (Write pairs) = IsWriteLine line pairs
IsLineOf line Flush = line ≡ codes "f"
IsLineOf line Tick = line ≡ codes "t"
IsLineOf line Up = line ≡ codes "up"
IsLineOf line Down = line ≡ codes "down"
IsLineOf line (Fail disk) = IsNumberedWord (codes "fail") line disk
IsLineOf line (Replace disk) = IsNumberedWord (codes "replace") line disk
IsLineOf line State = line ≡ codes "s"
IsLineOf line Energy = line ≡ codes "e"
IsLineOf line Bad = ⊥
