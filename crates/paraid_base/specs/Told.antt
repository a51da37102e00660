-- What an object of the outside may tell: bytes, and how often its calls have failed.
use Rattle.std.specs.Prelude.{◌≡◌, ℕ, ◌<◌, ◌≤◌, ◌-◌, ◌^◌, ◌⊎◌, List, [], ◌++◌, Option, IsSome, unwrap_or}

-- the bytes that are told, none where nothing is told
abbrev pub told_bytes : Option (List ℕ) → List ℕ
told_bytes o = unwrap_or o []

-- What was left is this piece and what is left now. What is told now was told before. (Where
-- nothing is told now, this holds of any piece.)
pub record Gives (old new : Option (List ℕ)) (piece : List ℕ) : Type 0 where
  pub before : IsSome new → IsSome old
  pub bytes : IsSome new → told_bytes old ≡ piece ++ told_bytes new

-- What is written grew by this piece. What is told now was told before.
pub record GrowsByBytes (old new : Option (List ℕ)) (piece : List ℕ) : Type 0 where
  pub before : IsSome new → IsSome old
  pub bytes : IsSome new → told_bytes new ≡ told_bytes old ++ piece

-- where it is told, nothing is left
abbrev pub AtEnd : Option (List ℕ) → Type 0
AtEnd left = IsSome left → told_bytes left ≡ []

-- no more bytes than so many are taken of a stream
abbrev pub stream_most : ℕ
stream_most = 2 ^ 40

-- the greatest number of 64 bits, where a counter stops
abbrev pub counter_most : ℕ
counter_most = 18446744073709551615

-- A count of faults has risen: it is greater, or it stands at the end of its type, where it can
-- rise no more.
pub record HasRisen (before now : ℕ) : Type 0 where
  pub risen : (before < now) ⊎ (counter_most ≤ now)
