-- Which bytes say a demand, and which line of others is the first that does not.
use Rattle.std.specs.Prelude.{◌≡◌, ◌≢◌, ◌⊎◌, ℕ, ◌≤◌, ◌<◌, ◌^◌, Bool, List, [], ◌∷◌, ◌++◌, length, map, slice_index, decimal, IsTrue, Option}
use Rattle.paraid_base.specs.Told.{AtEnd, Gives, HasRisen, stream_most}
use Rattle.paraid_io.specs.Lines.{lines_of, whole_lines}
use Rattle.paraid_schedule.specs.Schedule.{IsDemand, demand_most}
use Rattle.paraid_planning.specs.declared.unplanned.Unplanned.{Unplanned}
use Rattle.paraid_planning.specs.declared.unplanned.Unplanned.TheVariants.{Source, TooLong, NoMemory, Demand}

-- one to 1,024 lines, each a number of at most 1,048,576 as it is printed
pub record SaysDemand (bytes demand : List ℕ) : Type 0 where
  pub lines : lines_of bytes ≡ map decimal demand
  pub is : IsDemand demand

-- at most 1,024 numbers of at most 1,048,576
pub record AreFewAndSmall (numbers : List ℕ) : Type 0 where
  pub few : length numbers ≤ 1024
  pub small : (t : ℕ) → t < length numbers → slice_index numbers t ≤ demand_most

-- a line that is no number of at most 1,048,576
abbrev pub IsNoNumber : List ℕ → Type 0
IsNoNumber line = (number : ℕ) → number ≤ demand_most → line ≢ decimal number

-- Whatever follows these bytes, the first lines are these. Where the source gave its end, nothing
-- follows.
pub record BeginsWithLines
    (bytes : List ℕ) (left : Option (List ℕ)) (lines : List (List ℕ)) : Type 0 where
  pub ended : Bool
  pub at_end : IsTrue ended → AtEnd left
  pub begins : (more : List ℕ) → (IsTrue ended → more ≡ [])
      → (others : List (List ℕ)) × (lines_of (bytes ++ more) ≡ lines ++ others)

-- The first line that is none of a demand is the one of this number: there is no line; or it is no
-- number, or it is one too many, and those before it are numbers.
pub data FirstMiss (bytes : List ℕ) (left : Option (List ℕ)) : ℕ → Type 0 where
  empty : bytes ≡ [] → AtEnd left → FirstMiss bytes left 0
  line : (numbers line : List ℕ)
      → AreFewAndSmall numbers → BeginsWithLines bytes left (map decimal numbers ++ line ∷ [])
      → IsNoNumber line ⊎ (length numbers ≡ 1024) → FirstMiss bytes left (length numbers)

-- The whole lines of these bytes are numbers of a demand.
pub record BeginsDemand (bytes : List ℕ) : Type 0 where
  pub numbers : List ℕ
  pub are : AreFewAndSmall numbers
  pub lines : whole_lines bytes ≡ map decimal numbers

-- why no demand was read of these bytes
abbrev pub IsCause : List ℕ → Option (List ℕ) → ℕ → ℕ → Unplanned → Type 0
IsCause bytes left faults faults_now Source = HasRisen faults faults_now × BeginsDemand bytes
IsCause bytes left faults faults_now TooLong = (length bytes ≡ stream_most) × BeginsDemand bytes
IsCause bytes left faults faults_now NoMemory = Unit {0}
IsCause bytes left faults faults_now (Demand at) = FirstMiss bytes left at

-- These bytes were taken of a source, and no plan was made.
pub record IsUnplanned
    (before left : Option (List ℕ)) (faults faults_now : ℕ) (cause : Unplanned) : Type 0 where
  pub bytes : List ℕ
  pub given : Gives before left bytes
  pub is : IsCause bytes left faults faults_now cause

-- The source gave these bytes and its end, and they say this demand.
pub record ReadsDemand (before left : Option (List ℕ)) (demand : List ℕ) : Type 0 where
  pub bytes : List ℕ
  pub given : Gives before left bytes
  pub end : AtEnd left
  pub says : SaysDemand bytes demand
