-- How many units a tick of a shift moves at most.
use Rattle.std.proofs.Common.{zero, suc, ◌≡◌, ℕ, ◌+◌, ◌-◌, ◌*◌, ◌/◌, ◌^◌, ◌<◌, ◌≤◌, Bool, true, false, refl, sym, ◌∙◌, subst, arith, min, if◌then◌else◌}
use Rattle.std.specs.Prelude.{◌&&◌, nat_le}
use Rattle.std.proofs.lemmas.Bool.Decides.{nat_tests}
use Rattle.paraid_base.specs.declared.geometry.Geometry.{Geometry}
use Rattle.paraid_base.specs.declared.state.Phase.{Phase}
use Rattle.paraid_base.specs.declared.state.Phase.TheVariants.{Steady, Down, Up}
use Rattle.paraid_base.specs.Soft.{stripe_count}
use Rattle.paraid_base.specs.States.{phase_to, rising_to}
use Rattle.paraid_base.specs.Sums.{sum_before}
use Rattle.paraid_base.proofs.PlacesLemmas.{sum_before_none}
use Rattle.paraid_dirty.specs.Table.{cell_count, dirty_count, row_count}
use Rattle.paraid_record.specs.declared.meta.Mode.{Mode}
use Rattle.paraid_record.specs.declared.meta.Mode.TheVariants.{Whole, Access}
use Rattle.paraid_record.specs.Range.{IsInRange, IsPhaseInRange}
use Rattle.paraid_image.specs.Power.{PowerState}
use Rattle.paraid_machine.specs.Moves.{units_by, units_left, units_of_tick}
use Rattle.paraid_event.specs.Service.{IsStateOf, Service}

sum_more : (f : ℕ → ℕ) (n : ℕ) → sum_before f (suc n) ≡ sum_before f n + f n
unfolding sum_before
sum_more f n = refl

-- a cell counts once, and only from `lo` on
cell_low : (dirty : ℕ → ℕ → Bool) (lo r d : ℕ) → d < lo → cell_count dirty lo r d ≡ 0
cell_low dirty lo r d low = by (nat_le lo d) refl
  where
    less : (a b : ℕ) → nat_le a b ≡ true → b < a → ⊥
    less a b t l = grind (arith, nat_tests)

    by : (t : Bool) → nat_le lo d ≡ t → ◌≡◌ {A = ℕ} (if t && dirty r d then 1 else 0) 0
    by true is = absurd (less lo d is low)
    by false is = refl

cell_one : (dirty : ℕ → ℕ → Bool) (lo r d : ℕ) → cell_count dirty lo r d ≤ 1
cell_one dirty lo r d = by (nat_le lo d && dirty r d)
  where
    by : (t : Bool) → (if t then 1 else 0) ≤ 1
    by true = omega arith
    by false = omega arith

row_few : (dirty : ℕ → ℕ → Bool) (lo r hi : ℕ) → sum_before (cell_count dirty lo r) hi ≤ hi - lo
row_few dirty lo r zero = let z = sum_before_none (cell_count dirty lo r) in omega (arith, z)
row_few dirty lo r (suc hi) = by (nat_le lo hi) refl (row_few dirty lo r hi)
  where
    at_least : (a b : ℕ) → nat_le a b ≡ true → a ≤ b
    at_least a b t = grind (arith, nat_tests)

    less : (a b : ℕ) → nat_le a b ≡ false → b < a
    less a b t = grind (arith, nat_tests)

    by : (t : Bool) → nat_le lo hi ≡ t → sum_before (cell_count dirty lo r) hi ≤ hi - lo → sum_before (cell_count dirty lo r) (suc hi) ≤ suc hi - lo
    by true is few = let m = sum_more (cell_count dirty lo r) hi in let o = cell_one dirty lo r hi in let l = at_least lo hi is in omega (arith, m, o, l, few)
    by false is few = let m = sum_more (cell_count dirty lo r) hi in let o = cell_low dirty lo r hi (less lo hi is) in let l = less lo hi is in omega (arith, m, o, l, few)

sum_few : (f : ℕ → ℕ) (n : ℕ) → ((r : ℕ) → f r ≤ 5) → sum_before f n ≤ n * 5
sum_few f zero each = let z = sum_before_none f in omega (arith, z)
sum_few f (suc n) each = more (sum_few f n each)
  where
    more : sum_before f n ≤ n * 5 → sum_before f (suc n) ≤ suc n * 5
    more l = let m = sum_more f n in let e = each n in omega (arith, m, l, e)

-- so many rows have so many cells
times_few : (rows x : ℕ) → rows ≤ 65536 → x ≤ 5 → rows * x ≤ 327680
times_few rows zero high few = omega arith
times_few rows (suc zero) high few = omega (arith, high)
times_few rows (suc (suc zero)) high few = omega (arith, high)
times_few rows (suc (suc (suc zero))) high few = omega (arith, high)
times_few rows (suc (suc (suc (suc zero)))) high few = omega (arith, high)
times_few rows (suc (suc (suc (suc (suc zero))))) high few = omega (arith, high)
times_few rows (suc (suc (suc (suc (suc (suc x)))))) high few = absurd (omega (arith, few))

divided : (a b : ℕ) → a / (b + 1) ≤ a
divided a b = grind (arith)

stripes_few : (n rows a : ℕ) → rows ≤ 65536 → n ≤ 8 → 3 ≤ a → a ≤ n → stripe_count n rows a ≤ 327688
stripes_few n rows a high eight low le = by (a - 2) (omega (arith, low))
  where
    by : (b : ℕ) → a - 1 ≡ b + 1 → (rows * (n - a) + (a - 2)) / (a - 1) ≤ 327688
    by b is =
        let d = divided (rows * (n - a) + (a - 2)) b in
        let t = times_few rows (n - a) high (omega (arith, eight, low)) in
        subst (λ (z : ℕ). (rows * (n - a) + (a - 2)) / z ≤ 327688) (sym is) (omega (arith, d, t, low, le, eight))

module _ (k : Service) (s : PowerState) (of : IsStateOf k s) (range : IsInRange k.meta) where
  abbrev g : Geometry
  g = k.meta.setup.geometry

  gear_low : 3 ≤ k.meta.gear
  gear_low = g.gears_low k.meta.gear range.gear

  rises : (phase : Phase) → IsPhaseInRange g k.meta.gear phase → rising_to phase - s.gear ≤ 5
  rises Steady is = omega arith
  rises (Down to) is = omega arith
  rises (Up to) is = let h = g.gears_high to is.higher_gear in let e = g.disks_high in let l = gear_low in let same = of.gear in omega (arith, h, e, l, same)

  cells_few : dirty_count s.dirty g.rows s.gear (rising_to s.phase) ≤ 327680
  cells_few =
      let up = subst (λ (x : Phase). rising_to x - s.gear ≤ 5) (sym of.phase) (rises k.meta.phase range.phase) in
      let l = sum_few (row_count s.dirty s.gear (rising_to s.phase)) g.rows (λ r. let f = row_few s.dirty s.gear r (rising_to s.phase) in omega (arith, f, up)) in
      let h = g.rows_high in
      omega (arith, l, h)

  filled_few : (phase : Phase) → (phase ≡ Steady → ⊥) → IsPhaseInRange g k.meta.gear phase → stripe_count g.disks g.rows (phase_to phase) ≤ 327688
  filled_few Steady not is = absurd (not refl)
  filled_few (Down to) not is = stripes_few g.disks g.rows to g.rows_high g.disks_high (g.gears_low to is.lower_gear) (g.gears_high to is.lower_gear)
  filled_few (Up to) not is = stripes_few g.disks g.rows to g.rows_high g.disks_high (g.gears_low to is.higher_gear) (g.gears_high to is.higher_gear)

  module _ (not : s.phase ≡ Steady → ⊥) where
    left_few : units_left k.meta.setup s ≤ 655368
    left_few =
        let c = cells_few in
        let f = subst (λ (x : Phase). stripe_count g.disks g.rows (phase_to x) ≤ 327688) (sym of.phase) (filled_few k.meta.phase (λ is. not (of.phase ∙ is)) range.phase) in
        omega (arith, c, f)

    by_left : (mode : Mode) (phase : Phase) (rate left : ℕ) → units_by mode phase rate left ≤ left
    by_left Whole Steady rate left = below rate left
      where
        below : (a b : ℕ) → min a b ≤ b
        below a b = grind (arith)
    by_left Whole (Down to) rate left = below rate left
      where
        below : (a b : ℕ) → min a b ≤ b
        below a b = grind (arith)
    by_left Whole (Up to) rate left = omega arith
    by_left Access phase rate left = below rate left
      where
        below : (a b : ℕ) → min a b ≤ b
        below a b = grind (arith)

    -- The units of a tick, and more than its other commits, are within those of an event.
    pub tick_room : units_of_tick k.meta.setup s + 131072 ≤ 2 ^ 20
    tick_room = let l = left_few in let b = by_left k.meta.setup.mode s.phase k.meta.setup.rate (units_left k.meta.setup s) in omega (arith, l, b)
