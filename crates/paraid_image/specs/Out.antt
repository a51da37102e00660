-- Which disk of an image is out, and which one is weak: beside it no second one may be lost.
use Rattle.std.specs.Prelude.{◌≡◌, ◌≢◌, ℕ, ◌<◌, ◌⊎◌, false, Option, Some, None, if◌then◌else◌}
use Rattle.std.proofs.Common.{zero, suc}
pub use Rattle.paraid_base.specs.States.{is_out, named_out}
use Rattle.paraid_rack.specs.declared.call.Power.{Power}
use Rattle.paraid_rack.specs.Disks.{Disks, is_present}
use Rattle.paraid_record.specs.declared.meta.Meta.{Meta}
use Rattle.paraid_image.specs.Sides.{LogState, Says}
use Rattle.paraid_image.specs.Standing.{Stands, other_log}

-- the first, or where there is none the second
abbrev pub or_else : Option ℕ → Option ℕ → Option ℕ
or_else (Some d) second = Some d
or_else None second = second

-- the least absent slot of the first `n`
unfoldable pub first_absent : (ℕ → Power) → ℕ → Option ℕ
first_absent power zero = None
first_absent power (suc n) =
    or_else (first_absent power n) (if is_present (power n) then None else Some n)

-- the out disk: the one that the meta names out, or else an absent slot
abbrev pub out_disk : (ℕ → Power) → Meta → Option ℕ
out_disk power m = or_else (named_out m.out) (first_absent power m.setup.geometry.disks)

-- disk `d` of the array is absent or named out
pub record IsMissing (power : ℕ → Power) (m : Meta) (d : ℕ) : Type 0 where
  pub disk : d < m.setup.geometry.disks
  pub is : (is_present (power d) ≡ false) ⊎ (named_out m.out ≡ Some d)

-- at most one disk is missing
abbrev pub IsAtMostOneMissing : (ℕ → Power) → Meta → Type 0
IsAtMostOneMissing power m = (d e : ℕ) → IsMissing power m d → IsMissing power m e → d ≡ e

-- two disks are absent, or one is absent and another is named out
pub record IsDouble (power : ℕ → Power) (m : Meta) : Type 0 where
  pub first : ℕ
  pub second : ℕ
  pub apart : first ≢ second
  pub missing_first : IsMissing power m first
  pub missing_second : IsMissing power m second

-- The weak disk: the out disk; or, where there is none, the disk that the meta of the other log
-- disk names out. The latter is so only while the commit that ends a rebuild stands on one log
-- disk and not yet on the other.
pub data IsWeak (i : Disks) (w : ℕ) : Type 0 where
  out : (x : ℕ) (said : LogState)
      → Stands i x said → out_disk i.power said.meta ≡ Some w → IsWeak i w
  named : (x : ℕ) (said other : LogState) → Stands i x said → out_disk i.power said.meta ≡ None
      → Says i (other_log x) other → named_out other.meta.out ≡ Some w → IsWeak i w
