-- The words that the program takes.
use Rattle.std.specs.Prelude.{◌≡◌, ℕ, ◌^◌, ◌<◌, ◌≤◌, ◌⊎◌, true, false, List, [], ◌∷◌, ◌++◌, codes, decimal}
use Rattle.paraid_words.specs.declared.command.Command.{Command}
use Rattle.paraid_words.specs.declared.command.Command.TheVariants.{Format, Run, Spare, Status, Check, Gen, Nbd, Vol, Plan}

-- an option with its value, in decimal digits: two words, or one joined by `=`
abbrev pub IsNumberOption : List ℕ → ℕ → List (List ℕ) → Type 0
IsNumberOption name n words =
    (words ≡ name ∷ decimal n ∷ []) ⊎ (words ≡ (name ++ codes "=" ++ decimal n) ∷ [])

-- `gen` and its two options, once each, in either order
pub record IsGen (number lines : ℕ) (words : List (List ℕ)) : Type 0 where
  pub number_below : number < 2 ^ 32
  pub lines_from : 1 ≤ lines
  pub lines_to : lines ≤ 1000000
  pub first : List (List ℕ)
  pub second : List (List ℕ)
  pub number_is : IsNumberOption (codes "--number") number first
  pub lines_are : IsNumberOption (codes "--lines") lines second
  pub words_are : (words ≡ codes "gen" ∷ first ++ second) ⊎ (words ≡ codes "gen" ∷ second ++ first)

-- `plan` and its option
pub record IsPlan (ups : ℕ) (words : List (List ℕ)) : Type 0 where
  pub few : ups ≤ 256
  pub option : List (List ℕ)
  pub ups_are : IsNumberOption (codes "--ups") ups option
  pub words_are : words ≡ codes "plan" ∷ option

-- `run` with its spares; and with the ticks of a wait, which are 0 where they are not given, in
-- either order
pub record IsSpared (stock wait : ℕ) (words : List (List ℕ)) : Type 0 where
  pub stock_from : 1 ≤ stock
  pub stock_to : stock ≤ 255
  pub wait_to : wait ≤ 1000000
  pub spares : List (List ℕ)
  pub spares_are : IsNumberOption (codes "--spares") stock spares
  pub words_are : ((words ≡ codes "run" ∷ spares) × (wait ≡ 0))
      ⊎ ((ticks : List (List ℕ)) × IsNumberOption (codes "--wait") wait ticks
      × ((words ≡ codes "run" ∷ spares ++ ticks) ⊎ (words ≡ codes "run" ∷ ticks ++ spares)))

-- The words ask for the command.
abbrev pub AskFor : Command → List (List ℕ) → Type 0
AskFor (Format false) words = words ≡ codes "format" ∷ []
AskFor (Format true) words = words ≡ codes "format" ∷ codes "--force" ∷ []
AskFor Run words = words ≡ codes "run" ∷ []
AskFor (Spare stock wait) words = IsSpared stock wait words
AskFor Status words = words ≡ codes "status" ∷ []
AskFor Check words = words ≡ codes "check" ∷ []
AskFor (Gen number lines) words = IsGen number lines words
AskFor Nbd words = words ≡ codes "nbd" ∷ []
AskFor Vol words = words ≡ codes "vol" ∷ []
AskFor (Plan ups) words = IsPlan ups words

-- the line that says which words there are
abbrev pub usage_line : List ℕ
usage_line = codes
    "usage: paraid format [--force] | run | status | check | gen --number N --lines L | nbd | run --spares N [--wait W] | vol | plan --ups U\n"
