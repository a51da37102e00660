-- A copy in a stripe that a shift has filled: its disks are powered, and none is out.
use Rattle.std.specs.Prelude.{◌≡◌, ℕ, ◌<◌, ◌≤◌, ◌⊎◌, nat_le, nat_lt, true, None}
use Rattle.std.proofs.Common.{arith, inl, inr}
use Rattle.std.proofs.lemmas.Bool.{and_parts}
use Rattle.std.proofs.lemmas.Bool.Decides.{nat_tests}
use Rattle.paraid_base.specs.declared.geometry.Geometry.{Geometry}
use Rattle.paraid_base.specs.declared.state.Phase.{Phase}
use Rattle.paraid_base.specs.declared.state.Phase.TheVariants.{Steady, Down, Up}
use Rattle.paraid_base.specs.Soft.{soft_stripe}
use Rattle.paraid_plan.specs.WriteTargets.{is_filled}
use Rattle.paraid_plan.proofs.OutsLemmas.{alone_by}
use Rattle.paraid_record.specs.declared.meta.Meta.{Meta}
use Rattle.paraid_record.specs.Codes.{phase_to}
use Rattle.paraid_record.specs.Range.{IsInRange, IsPhaseInRange, fill_limit}
use Rattle.paraid_image.specs.Out.{named_out}
use Rattle.paraid_image.specs.Spot.{rising_to}

pub filled_low : (m : Meta) (r d : ℕ) → is_filled m r d ≡ true → soft_stripe m.setup.geometry.disks (phase_to m.phase) r d < m.fill
filled_low m r d h =
    let both = and_parts (nat_le (phase_to m.phase) d) (nat_lt (soft_stripe m.setup.geometry.disks (phase_to m.phase) r d) m.fill) h in
    let at = both.1 in grind (arith, nat_tests)

powered_by : (g : Geometry) (gear fill s e : ℕ) (phase : Phase) → IsPhaseInRange g gear phase → fill ≤ fill_limit g phase → s < fill → e < phase_to phase
    → (e < gear) ⊎ (e < rising_to phase)
powered_by g gear fill s e Steady range limit l le = absurd (omega arith)
powered_by g gear fill s e (Down to) range limit l le = let below = range.below in inl (omega arith)
powered_by g gear fill s e (Up to) range limit l le = inr le

pub copy_powered : (m : Meta) (s e : ℕ) → IsInRange m → s < m.fill → e < phase_to m.phase → (e < m.gear) ⊎ (e < rising_to m.phase)
copy_powered m s e in_range l le = powered_by m.setup.geometry m.gear m.fill s e m.phase in_range.phase in_range.shift.fill l le

pub copy_alone : (m : Meta) (s : ℕ) → IsInRange m → s < m.fill → named_out m.out ≡ None
copy_alone m s in_range l = alone_by m.out m.fill s in_range.shift.still l
