-- Which members of a kind are looked at.
use Rattle.std.specs.Prelude.{◌≡◌, ◌≢◌, ℕ, ◌+◌, ◌-◌, ◌*◌, ◌/◌, ◌<◌, ◌≤◌, ◌⊎◌, Bool, IsTrue, Option, Some, None, if◌then◌else◌}
use Rattle.std.proofs.Common.{refl, sym, ◌∙◌, ap, subst, arith, inl, inr}
use Rattle.std.proofs.lemmas.Bool.{cases_Bool, cases_lt}
use Rattle.std.proofs.lemmas.Bool.Decides.{nat_tests}
use Rattle.std.proofs.lemmas.Nat.{div_below}
use Rattle.paraid_base.specs.declared.geometry.Geometry.{Geometry}
use Rattle.paraid_base.specs.declared.state.Phase.{Phase}
use Rattle.paraid_base.specs.declared.state.Phase.TheVariants.{Steady, Down, Up}
use Rattle.paraid_base.specs.declared.state.Out.{Out}
use Rattle.paraid_base.specs.Regions.{IsGear}
use Rattle.paraid_base.specs.Soft.{stripe_count}
use Rattle.paraid_base.specs.States.{rebuilt_count, phase_to}
use Rattle.paraid_record.specs.declared.meta.Meta.{Meta}
use Rattle.paraid_record.specs.Range.{IsInRange, IsPhaseInRange, fill_limit}
use Rattle.paraid_image.specs.Out.{named_out}
use Rattle.paraid_image.specs.Spot.{rising_to}
use Rattle.paraid_scrub.specs.Counts.{is_whole_below, when_whole}
use Rattle.paraid_scrub.specs.Looks.{IsReadable}
use Rattle.paraid_scrub.specs.Looks.IsReadable.{powered}

-- the last gear has no stripes
none_at_last : (rows a n s : ℕ) → 3 ≤ a → a ≤ n → s < stripe_count n rows a → a < n
none_at_last rows a n s low high l = elim (cases_lt a n) [
  | inl below ↦ below
  | inr past ↦
      let is : a ≡ n = omega (arith, past, high) in
      let none : (rows * (n - a) + (a - 2)) / (a - 1) < 1 = div_below (rows * (n - a) + (a - 2)) (a - 1) 1 (omega (arith, low)) (let z : n - a ≡ 0 = omega (arith, is) in rw z (omega (arith, low))) in
      absurd (omega (arith, none, l))
]

-- a gear that has stripes is not the last one
pub gear_region : (g : Geometry) (a s : ℕ) → IsGear g a → s < stripe_count g.disks g.rows a → a < g.disks
gear_region g a s gear l = none_at_last g.rows a g.disks s (g.gears_low a gear) (g.gears_high a gear) l

pub whole_none : (o : Option ℕ) (n at : ℕ) → at < when_whole o n → (o ≡ None) × (at < n)
whole_none None n at l = (refl, l)
whole_none (Some d) n at l = absurd (omega (arith, l))

pub whole_below : (o : Option ℕ) (end n at : ℕ) → at < (if is_whole_below o end then n else 0) → IsTrue (is_whole_below o end) × (at < n)
whole_below o end n at l = elim (cases_Bool (is_whole_below o end)) [
  | inl is ↦ (is, subst (λ (b : Bool). at < (if b then n else 0)) is l)
  | inr not ↦ (let none : at < 0 = subst (λ (b : Bool). at < (if b then n else 0)) not l in absurd (omega (arith, none)))
]

pub out_past : (o : Option ℕ) (end d : ℕ) → IsTrue (is_whole_below o end) → d < end → o ≢ Some d
out_past None end d is low out = let z : None ≡ Some d = out in cc
out_past (Some x) end d is low out =
    let z : Some x ≡ Some d = out in
    let e : x ≡ d = cc in
    let past : end ≤ x = grind (arith, nat_tests) in
    absurd (omega (arith, past, e, low))

-- the disks that a stripe of the gear is on can be read
pub gear_readable : (m : Meta) (end : ℕ) → end ≤ m.gear → IsTrue (is_whole_below (named_out m.out) end) → (d : ℕ) → d < end → IsReadable m d
gear_readable m end small is d low = powered (inl (omega (arith, small, low))) (out_past (named_out m.out) end d is low)

-- and those of the gear that a shift goes to
pub shift_readable : (m : Meta) → IsInRange m → named_out m.out ≡ None → (d : ℕ) → d < phase_to m.phase → IsReadable m d
shift_readable m range none d low = powered (by m.phase range.phase low) (λ out. let z : None ≡ Some d = sym none ∙ out in cc)
  where
    by : (p : Phase) → IsPhaseInRange m.setup.geometry m.gear p → d < phase_to p → (d < m.gear) ⊎ (d < rising_to p)
    by Steady is l = absurd (omega (arith, l))
    by (Down to) is l = let k = is.below in inl (omega (arith, l, k))
    by (Up to) is l = inr l

-- a stripe below the fill mark is one of the gear that a shift goes to
pub shift_stripe : (m : Meta) → IsInRange m → (at : ℕ) → at < m.fill → IsGear m.setup.geometry (phase_to m.phase) × (at < stripe_count m.setup.geometry.disks m.setup.geometry.rows (phase_to m.phase))
shift_stripe m range at low = by m.phase range.phase range.shift.fill
  where
    by : (p : Phase) → IsPhaseInRange m.setup.geometry m.gear p → m.fill ≤ fill_limit m.setup.geometry p → IsGear m.setup.geometry (phase_to p) × (at < stripe_count m.setup.geometry.disks m.setup.geometry.rows (phase_to p))
    by Steady is most = absurd (omega (arith, low, most))
    by (Down to) is most = (is.lower_gear, omega (arith, low, most))
    by (Up to) is most = (is.higher_gear, omega (arith, low, most))

-- a meta names units only of the disk that is rebuilt
pub unit_none : (o p : Out) (at : ℕ) → o ≡ p → rebuilt_count p ≡ 0 → at < rebuilt_count o → ⊥
unit_none o p at is none low = let z : rebuilt_count o ≡ 0 = ap rebuilt_count is ∙ none in absurd (omega (arith, z, low))
