-- The numbers of a write's places, and the room that it takes.
use Rattle.std.specs.Prelude.{◌≡◌, ℕ, ◌+◌, ◌/◌, ◌<◌, ◌≤◌, nat_le, nat_lt, true, length}
use Rattle.std.proofs.Common.{arith, ap, div-le_self, ◌∙◌}
use Rattle.std.proofs.lemmas.Bool.{and_parts}
use Rattle.std.proofs.lemmas.Bool.Decides.{nat_tests}
use Rattle.paraid_base.specs.declared.geometry.Geometry.{Geometry}
use Rattle.paraid_base.specs.declared.state.Phase.{Phase}
use Rattle.paraid_base.specs.declared.state.Phase.TheVariants.{Steady, Down, Up}
use Rattle.paraid_base.specs.declared.block.Block.{Block}
use Rattle.paraid_base.specs.Regions.{IsGear, soft_place_of}
use Rattle.paraid_base.specs.Soft.{soft_parity_disk, soft_stripe, stripe_count}
use Rattle.paraid_base.specs.Xor.{xor}
use Rattle.paraid_base.proofs.RegionsLemmas.{stripe_count_small}
use Rattle.paraid_plan.specs.Desk.{Desk}
use Rattle.paraid_plan.specs.WriteTargets.{is_filled, stripe_block_now}
use Rattle.paraid_record.specs.declared.meta.Meta.{Meta}
use Rattle.paraid_record.specs.Codes.{phase_to}
use Rattle.paraid_record.specs.Range.{IsInRange, IsPhaseInRange, fill_limit}
use Rattle.paraid_image.specs.Spot.{View}
use Rattle.paraid_image.specs.Standing.{Contents}

-- a stripe of a gear, numbered after the rows
pub unit_small : (g : Geometry) (a s : ℕ) → IsGear g a → s < stripe_count g.disks g.rows a → g.rows + s < 465536
unit_small g a s gear within =
    let few = stripe_count_small g.disks g.rows a (g.gears_low a gear) (g.gears_high a gear) g.disks_high g.rows_high in
    let rows = g.rows_high in
    omega (arith, few, rows, within)

pub region_small : (g : Geometry) (a : ℕ) → IsGear g a → g.rows + stripe_count g.disks g.rows a ≤ 465536
region_small g a gear =
    let few = stripe_count_small g.disks g.rows a (g.gears_low a gear) (g.gears_high a gear) g.disks_high g.rows_high in
    let rows = g.rows_high in
    omega (arith, few, rows)

pub map_small : (g : Geometry) (r : ℕ) → r < g.rows → r / 512 ≤ 65536
map_small g r within =
    let rows = g.rows_high in
    omega (arith, div-le_self r 512, rows, within)

-- the gear of a region that is being filled
gear_by : (g : Geometry) (gear fill s : ℕ) (phase : Phase) → IsPhaseInRange g gear phase → fill ≤ fill_limit g phase → s < fill → IsGear g (phase_to phase)
gear_by g gear fill s Steady range limit l = absurd (omega (arith, limit, l))
gear_by g gear fill s (Down to) range limit l = range.lower_gear
gear_by g gear fill s (Up to) range limit l = range.higher_gear

pub filled_gear : (m : Meta) (s : ℕ) → IsInRange m → s < m.fill → IsGear m.setup.geometry (phase_to m.phase)
filled_gear m s in_range l = gear_by m.setup.geometry m.gear m.fill s m.phase in_range.phase in_range.shift.fill l

pub filled_parked : (m : Meta) (r d : ℕ) → is_filled m r d ≡ true → phase_to m.phase ≤ d
filled_parked m r d h =
    let both = and_parts (nat_le (phase_to m.phase) d) (nat_lt (soft_stripe m.setup.geometry.disks (phase_to m.phase) r d) m.fill) h in
    let at = both.0 in grind (arith, nat_tests)

pub room_same : (s t : Desk) → t ≡ s → length t.staged ≡ length s.staged
room_same s t is = ap (λ (z : Desk). length z.staged) is

-- the parity of a stripe that is read, and changed with one of its cells
pub parity_read : (v : View) (s st parity : ℕ) (a b c old new : Block) → st ≡ s → parity ≡ soft_parity_disk v.meta.gear st
    → a ≡ stripe_block_now v st parity → b ≡ xor a old → c ≡ xor b new → c ≡ xor (xor (stripe_block_now v s (soft_parity_disk v.meta.gear s)) old) new
parity_read v s st parity a b c old new st_is parity_is read first second =
    second ∙ ap (λ (z : Block). xor z new) (first ∙ ap (λ (z : Block). xor z old)
    (read ∙ ap (stripe_block_now v st) parity_is ∙ ap (λ (z : ℕ). stripe_block_now v z (soft_parity_disk v.meta.gear z)) st_is))

pub copy_read : (f : Contents) (g : Geometry) (t r d to st parity place : ℕ) (a b c old new : Block) → to ≡ t → st ≡ soft_stripe g.disks to r d
    → parity ≡ soft_parity_disk to st → place ≡ soft_place_of g to st → a ≡ f parity place → b ≡ xor a old → c ≡ xor b new
    → c ≡ xor (xor (f (soft_parity_disk t (soft_stripe g.disks t r d)) (soft_place_of g t (soft_stripe g.disks t r d))) old) new
copy_read f g t r d to st parity place a b c old new to_is st_is parity_is place_is read first second =
    second ∙ ap (λ (z : Block). xor z new) (first ∙ ap (λ (z : Block). xor z old)
    (read ∙ ap (f parity) place_is ∙ ap (λ (z : ℕ). f z (soft_place_of g to st)) parity_is
    ∙ ap (λ (z : ℕ). f (soft_parity_disk to z) (soft_place_of g to z)) st_is
    ∙ ap (λ (z : ℕ). f (soft_parity_disk z (soft_stripe g.disks z r d)) (soft_place_of g z (soft_stripe g.disks z r d))) to_is))
