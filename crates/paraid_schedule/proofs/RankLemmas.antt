-- Ranks of gears ascend
use Rattle.std.proofs.Common.{◌≡◌, ℕ, ◌+◌, ◌<◌, ◌≤◌, true, false, refl, arith, slice_index_or, if◌then◌else◌}
use Rattle.paraid_base.specs.declared.geometry.Geometry.{Geometry}
use Rattle.paraid_base.specs.Regions.{IsGear}
use Rattle.paraid_base.proofs.PlacesLemmas.{sum_before_none, sum_before_more, sum_before_step}
use Rattle.paraid_schedule.specs.Bounds.{rank, gear_count}

abbrev pub flag : Geometry → ℕ → ℕ
flag g e = if slice_index_or g.gears e false then 1 else 0

pub rank-none : (g : Geometry) → rank g 0 ≡ 0
unfolding rank
rank-none g = sum_before_none (flag g)

pub rank-gear : (g : Geometry) (e : ℕ) → slice_index_or g.gears e false ≡ true → rank g (e + 1) ≡ rank g e + 1
unfolding rank
rank-gear g e is =
    let here : flag g e ≡ 1 = rw is refl in
    omega (arith, sum_before_more (flag g) e)

pub rank-other : (g : Geometry) (e : ℕ) → slice_index_or g.gears e false ≡ false → rank g (e + 1) ≡ rank g e
unfolding rank
rank-other g e is =
    let here : flag g e ≡ 0 = rw is refl in
    omega (arith, sum_before_more (flag g) e)

pub rank-less : (g : Geometry) (a b : ℕ) → IsGear g a → a < b → rank g a + 1 ≤ rank g b
unfolding rank
rank-less g a b is low =
    let here : flag g a ≡ 1 = rw is refl in
    omega (arith, sum_before_step (flag g) a b low)

pub rank-top : (g : Geometry) (a : ℕ) → IsGear g a → rank g a + 1 ≤ gear_count g
unfolding gear_count
rank-top g a is = let high = g.gears_high a is in rank-less g a (g.disks + 1) is (omega arith)
