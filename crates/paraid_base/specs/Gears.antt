-- Which lists of gears are accepted, and the next gears of a geometry.
use Rattle.std.specs.Prelude.{◌≡◌, ◌≢◌, ℕ, ◌+◌, ◌<◌, ◌≤◌, ◌-◌, ◌||◌, ◌&&◌, nat_lt, nat_le, slice_index, slice_index_or, length, List, Bool, true, false, Option, Some, None, if◌then◌else◌}
use Rattle.std.proofs.Common.{zero, suc}
use Rattle.paraid_base.specs.declared.geometry.Geometry.{Geometry}
use Rattle.paraid_base.specs.declared.geometry.GeoFault.{GeoFault}
use Rattle.paraid_base.specs.declared.geometry.GeoFault.TheVariants.{Disks, Rows, Gears}

-- member `k` is below 3, above the number of disks, or not greater than the one before it
abbrev pub is_bad_gear : ℕ → List ℕ → ℕ → Bool
is_bad_gear n gears k = nat_lt (slice_index gears k) 3 || nat_lt n (slice_index gears k) ||
    (nat_lt 0 k && nat_le (slice_index gears k) (slice_index gears (k - 1)))

-- `at` is the least place of a bad member, or the list's length where no member is bad and the last
-- is not `n`; of an empty list it is 0
pub record IsGearsFault (n : ℕ) (gears : List ℕ) (at : ℕ) : Type 0 where
  pub within : at ≤ length gears
  pub before : (k : ℕ) → k < at → is_bad_gear n gears k ≡ false
  pub member : at < length gears → is_bad_gear n gears at ≡ true
  pub whole : at ≡ length gears → 0 < length gears → slice_index gears (length gears - 1) ≢ n

-- the list of gears is accepted: no member is bad, and the last is the number of disks
pub record IsGearList (n : ℕ) (gears : List ℕ) : Type 0 where
  pub members : (k : ℕ) → k < length gears → is_bad_gear n gears k ≡ false
  pub some : 0 < length gears
  pub last : slice_index gears (length gears - 1) ≡ n

-- which fault a geometry has: of its disks, else of its rows, else of its gears
abbrev pub IsGeoFault : ℕ → ℕ → List ℕ → GeoFault → Type 0
IsGeoFault n rows gears (Disks value) = (value ≡ n) × (3 ≤ n → n ≤ 8 → ⊥)
IsGeoFault n rows gears (Rows value) =
    (3 ≤ n) × (n ≤ 8) × (value ≡ rows) × (1 ≤ rows → rows ≤ 65536 → ⊥)
IsGeoFault n rows gears (Gears at) =
    (3 ≤ n) × (n ≤ 8) × (1 ≤ rows) × (rows ≤ 65536) × IsGearsFault n gears at

-- the flags mark the first `count` members and nothing else
pub record AreFlagsOf (gears : List ℕ) (count : ℕ) (flags : List Bool) : Type 0 where
  pub each : (k : ℕ) → k < count → slice_index_or flags (slice_index gears k) false ≡ true
  pub only : (a : ℕ)
      → slice_index_or flags a false ≡ true → (k : ℕ) × (k < count) × (slice_index gears k ≡ a)

-- the first of `n` numbers from `at` on that passes
unfoldable pub first_from : (ℕ → Bool) → ℕ → ℕ → Option ℕ
first_from p at zero = None
first_from p at (suc n) = if p at then Some at else first_from p (at + 1) n

-- the greatest number below `n` that passes
unfoldable pub last_below : (ℕ → Bool) → ℕ → Option ℕ
last_below p zero = None
last_below p (suc n) = if p n then Some n else last_below p n

-- whether a number is one of the gears
abbrev pub is_gear : Geometry → ℕ → Bool
is_gear g e = slice_index_or g.gears e false

-- the next higher gear than `a`; no gear is above 8
abbrev pub next_higher : Geometry → ℕ → Option ℕ
next_higher g a = first_from (is_gear g) (a + 1) 8

-- the next lower gear than `a`
abbrev pub next_lower : Geometry → ℕ → Option ℕ
next_lower g a = last_below (is_gear g) a
