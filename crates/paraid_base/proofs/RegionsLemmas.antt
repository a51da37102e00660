-- Where the parts of a disk of one geometry begin
use Rattle.std.specs.Prelude.{◌≡◌, ℕ, ◌<◌, ◌≤◌, ◌+◌, ◌-◌, ◌*◌, slice_index_or, false}
use Rattle.std.proofs.Common.{arith, refl}
use Rattle.std.proofs.lemmas.Nat.{mul-le}
use Rattle.std.proofs.Math.Nat.{div-le_self}
use Rattle.paraid_base.specs.declared.geometry.Geometry.{Geometry}
use Rattle.paraid_base.proofs.PlacesLemmas.{regions_apart, sum_before_step}
use Rattle.paraid_base.specs.Log.{map_start}
use Rattle.paraid_base.specs.Regions.{IsGear, disk_size, hard_place_of, map_place_of, region_size, soft_place_of}
use Rattle.paraid_base.specs.Soft.{stripe_count}

pub region_size_gear : (g : Geometry) (a : ℕ) → IsGear g a → region_size g a ≡ stripe_count g.disks g.rows a
region_size_gear g a h = rw h refl

pub soft_place_below : (g : Geometry) (a s : ℕ) → IsGear g a → s < stripe_count g.disks g.rows a → soft_place_of g a s < disk_size g
soft_place_below g a s h l =
    let top = g.gears_high a h in
    omega (arith, sum_before_step (region_size g) a (g.disks + 1) (omega arith), region_size_gear g a h)

pub soft_places_apart : (g : Geometry) (a b s t : ℕ) → IsGear g a → IsGear g b → s < stripe_count g.disks g.rows a → t < stripe_count g.disks g.rows b
    → soft_place_of g a s ≡ soft_place_of g b t → (a ≡ b) × (s ≡ t)
soft_places_apart g a b s t ga gb l k e =
    regions_apart (region_size g) a b s t (omega (arith, region_size_gear g a ga)) (omega (arith, region_size_gear g b gb)) (omega arith)

pub hard_below_soft : (g : Geometry) (r a s : ℕ) → r < g.rows → hard_place_of g r < soft_place_of g a s
hard_below_soft g r a s l = omega arith

pub map_below_hard : (g : Geometry) (q r : ℕ) → q < g.rows → (map_start g ≤ map_place_of g q) × (map_place_of g q < hard_place_of g r)
map_below_hard g q r l = (omega arith, omega arith)

pub hard_places_apart : (g : Geometry) (q r : ℕ) → hard_place_of g q ≡ hard_place_of g r → q ≡ r
hard_places_apart g q r e = omega arith

pub hard_place_below : (g : Geometry) (r : ℕ) → r < g.rows → hard_place_of g r < disk_size g
hard_place_below g r l = omega arith

pub region_size_none : (g : Geometry) (a : ℕ) → slice_index_or g.gears a false ≡ false → region_size g a ≡ 0
region_size_none g a h = rw h refl

pub stripe_count_small : (n rows a : ℕ) → 3 ≤ a → a ≤ n → n ≤ 8 → rows ≤ 65536 → stripe_count n rows a ≤ 400000
stripe_count_small n rows a low high l h =
    omega (arith, div-le_self (rows * (n - a) + (a - 2)) (a - 1), mul-le rows (n - a) 65536 5 h (omega arith))
