-- Each target of a write can be committed.
use Rattle.std.specs.Prelude.{◌≡◌, ◌≢◌, ℕ, ◌+◌, ◌/◌, ◌<◌, ◌≤◌, ◌==◌, ◌⊎◌, ◌&&◌, ◌||◌, nat_lt, nat_le, Bool, true, false, not, Some, None, [], ◌∷◌, ◌++◌, if◌then◌else◌}
use Rattle.std.proofs.Common.{refl, sym, ◌∙◌, ap, arith, inl, inr}
use Rattle.std.proofs.lemmas.Bool.{false≢true}
use Rattle.std.proofs.lemmas.Bool.Decides.{nat_tests}
use Rattle.paraid_base.specs.declared.block.Block.{Block}
use Rattle.paraid_base.specs.declared.geometry.Geometry.{Geometry}
use Rattle.paraid_base.specs.declared.state.Out.{Out}
use Rattle.paraid_base.specs.declared.state.Out.TheVariants.{No, Gone, Fresh}
use Rattle.paraid_base.specs.declared.state.Phase.{Phase}
use Rattle.paraid_base.specs.declared.state.Phase.TheVariants.{Steady, Down, Up}
use Rattle.paraid_base.specs.Log.{map_block_place}
use Rattle.paraid_base.specs.Regions.{hard_place_of, map_count, soft_place_of}
use Rattle.paraid_base.specs.Soft.{soft_disk, soft_parity_disk, soft_stripe}
use Rattle.paraid_base.proofs.RegionsLemmas.{hard_place_below, soft_place_below}
use Rattle.paraid_base.proofs.SoftLemmas.{soft_disk_below, soft_parity_disk_below, soft_stripe_below}
use Rattle.paraid_plan.specs.Placed.{ArePlaced, IsPlaced}
use Rattle.paraid_plan.specs.WriteTargets.{cell_targets, fill_targets, goes_hard, hard_targets, is_filled, is_written, map_targets, soft_count, soft_targets, target_if}
use Rattle.paraid_plan.specs.Units.{clean_targets}
use Rattle.paraid_plan.proofs.DeskLemmas.{parked_of}
use Rattle.paraid_plan.proofs.LiesLemmas.{fill_gear}
use Rattle.paraid_plan.proofs.OutsLemmas.{alone_by}
use Rattle.paraid_record.specs.declared.meta.Meta.{Meta}
use Rattle.paraid_record.specs.Codes.{phase_to}
use Rattle.paraid_record.specs.Range.{IsInRange, IsPhaseInRange, fill_limit}
use Rattle.paraid_base.specs.States.{gone_out}
use Rattle.paraid_image.specs.Out.{is_out, named_out}
use Rattle.paraid_image.specs.Sides.{Batch}
use Rattle.paraid_image.specs.Spot.{View, is_hard, rising_to}
use Rattle.paraid_image.specs.Value.{value}

pub placed_append : (m : Meta) (a b : Batch) → ArePlaced m a → ArePlaced m b → ArePlaced m (a ++ b)
placed_append m [] b p q = q
placed_append m (w ∷ a) b p q = (p.0, placed_append m a b p.1 q)

placed_if : (m : Meta) (w : Bool) (d p : ℕ) (b : Block) → (w ≡ true → IsPlaced m (record { disk = d; place = p })) → ArePlaced m (target_if w d p b)
placed_if m true d p b h = (h refl, tt)
placed_if m false d p b h = tt

written_not_gone : (o : Out) (d u : ℕ) → is_written o d u ≡ true → gone_out o ≢ Some d
written_not_gone No d u h k = cc
written_not_gone (Gone e) d u h k = let is : e ≡ d = cc in let at : (d == e) ≡ true = grind (arith, nat_tests) in false≢true (sym (ap not at) ∙ h)
written_not_gone (Fresh e count) d u h k = cc

none_not_gone : (o : Out) (d : ℕ) → named_out o ≡ None → gone_out o ≢ Some d
none_not_gone No d h k = cc
none_not_gone (Gone e) d h k = cc
none_not_gone (Fresh e count) d h k = cc

hard_powered_by : (low up dirty out : Bool) → ((low || (up && not dirty)) || (up && not out)) ≡ true → (low ≡ true) ⊎ (up ≡ true)
hard_powered_by true up dirty out h = inl refl
hard_powered_by false true dirty out h = inr refl
hard_powered_by false false dirty out h = inl h

below_of : (a b : ℕ) → nat_lt a b ≡ true → a < b
below_of a b h = grind (arith, nat_tests)

hard_powered : (v : View) (r d : ℕ) → goes_hard v r d ≡ true → (d < v.meta.gear) ⊎ (d < rising_to v.meta.phase)
unfolding goes_hard is_hard
hard_powered v r d h = elim (hard_powered_by (nat_lt d v.meta.gear) (nat_lt d (rising_to v.meta.phase)) (v.dirty r d) (is_out v.out d) h) [
  | inl is ↦ inl (below_of d v.meta.gear is)
  | inr is ↦ inr (below_of d (rising_to v.meta.phase) is)
]

-- a disk below the gear that a shift goes to is below the gear, or comes up
to_powered : (g : Geometry) (gear fill s d : ℕ) (phase : Phase) → IsPhaseInRange g gear phase → fill ≤ fill_limit g phase → s < fill → d < phase_to phase
    → (d < gear) ⊎ (d < rising_to phase)
to_powered g gear fill s d Steady range limit l below = absurd (omega arith)
to_powered g gear fill s d (Down to) range limit l below = let lower = range.below in inl (omega arith)
to_powered g gear fill s d (Up to) range limit l below = inr below

module _ (v : View) (in_range : IsInRange v.meta) where
  abbrev m : Meta
  m = v.meta

  abbrev g : Geometry
  g = v.meta.setup.geometry

  soft_target : (s e : ℕ) → s < soft_count m → e < m.gear → is_written m.out e (g.rows + s) ≡ true → IsPlaced m (record { disk = e; place = soft_place_of g m.gear s })
  soft_target s e ls le w =
      let high = g.gears_high m.gear in_range.gear in
      record {
        in_range = record { disk = omega arith; past_log = omega arith; within = soft_place_below g m.gear s in_range.gear ls; map = λ k. absurd (omega arith) };
        powered = inl le;
        not_gone = written_not_gone m.out e (g.rows + s) w;
      }

  fill_target : (s e : ℕ) → s < m.fill → e < phase_to m.phase → IsPlaced m (record { disk = e; place = soft_place_of g (phase_to m.phase) s })
  fill_target s e ls le =
      let gear = fill_gear m s in_range ls in
      let within = gear.within in
      let high = g.gears_high (phase_to m.phase) gear.is_gear in
      record {
        in_range = record { disk = omega arith; past_log = omega arith; within = soft_place_below g (phase_to m.phase) s gear.is_gear (omega arith); map = λ k. absurd (omega arith) };
        powered = to_powered g m.gear m.fill s e m.phase in_range.phase in_range.shift.fill ls le;
        not_gone = none_not_gone m.out e (alone_by m.out m.fill s in_range.shift.still ls);
      }

  map_target : (j x : ℕ) → j < map_count g → x < 2 → is_written m.out x (g.rows + soft_count m + j) ≡ true → IsPlaced m (record { disk = x; place = map_block_place g j })
  map_target j x lj lx w =
      let low = g.disks_low in
      let rows = g.rows_low in
      let three = g.gears_low m.gear in_range.gear in
      let k = hard_place_below g 0 (omega arith) in
      record {
        in_range = record { disk = omega arith; past_log = omega arith; within = omega arith; map = λ _. lx };
        powered = inl (omega arith);
        not_gone = written_not_gone m.out x (g.rows + soft_count m + j) w;
      }

  pub map_placed : (j : ℕ) (b : Block) → j < map_count g → ArePlaced m (map_targets m j b)
  map_placed j b lj =
      placed_append m _ _ (placed_if m _ 0 (map_block_place g j) b (λ w. map_target j 0 lj (omega arith) w)) (placed_if m _ 1 (map_block_place g j) b (λ w. map_target j 1 lj (omega arith) w))

  filled_low : (to d z fill : ℕ) → (nat_le to d && nat_lt z fill) ≡ true → to ≤ d
  filled_low to d z fill h = grind (arith, nat_tests)

  filled_within : (to d z fill : ℕ) → (nat_le to d && nat_lt z fill) ≡ true → z < fill
  filled_within to d z fill h = grind (arith, nat_tests)

  fill_placed : (r d : ℕ) (old new : Block) → r < g.rows → d < g.disks → ArePlaced m (fill_targets v r d old new)
  fill_placed r d old new lr ld =
      let to : ℕ = phase_to m.phase in
      let s : ℕ = soft_stripe g.disks to r d in
      placed_append m _ _
      (placed_if m (is_filled m r d) _ _ _ (λ w.
      let ls = filled_within to d s m.fill w in
      fill_target s (soft_disk g.disks to r d) ls (soft_disk_below g.disks to r d (g.gears_low to (fill_gear m s in_range ls).is_gear))))
      (placed_if m (is_filled m r d) _ _ _ (λ w.
      let ls = filled_within to d s m.fill w in
      let three = g.gears_low to (fill_gear m s in_range ls).is_gear in
      fill_target s (soft_parity_disk to s) ls (soft_parity_disk_below to s (omega arith))))

  pub cell_placed : (r d : ℕ) (old new : Block) → r < g.rows → d < g.disks → ArePlaced m (cell_targets v r d old new)
  cell_placed r d old new lr ld = placed_append m _ _ (place_by (goes_hard v r d) refl) (fill_placed r d old new lr ld)
    where
      hard_one : goes_hard v r d ≡ true → is_written m.out d r ≡ true → IsPlaced m (record { disk = d; place = hard_place_of g r })
      hard_one h w = record {
        in_range = record { disk = ld; past_log = omega arith; within = hard_place_below g r lr; map = λ k. absurd (omega arith) };
        powered = hard_powered v r d h;
        not_gone = written_not_gone m.out d r w;
      }

      soft_both : goes_hard v r d ≡ false → ArePlaced m (soft_targets v r d old new)
      soft_both h =
          let s : ℕ = soft_stripe g.disks m.gear r d in
          let low = parked_of v r d h in
          let three = g.gears_low m.gear in_range.gear in
          let ls = soft_stripe_below g.disks m.gear r d g.rows (omega arith) low ld lr in
          placed_append m _ _
          (placed_if m _ _ _ _ (λ w. soft_target s (soft_disk g.disks m.gear r d) ls (soft_disk_below g.disks m.gear r d three) w))
          (placed_if m _ _ _ _ (λ w. soft_target s (soft_parity_disk m.gear s) ls (soft_parity_disk_below m.gear s (omega arith)) w))

      place_by : (h : Bool) → goes_hard v r d ≡ h → ArePlaced m (if h then hard_targets v r d new else soft_targets v r d old new)
      place_by true is = placed_if m (is_written m.out d r) d (hard_place_of g r) new (hard_one is)
      place_by false is = soft_both is

-- The targets of the map, where it is staged.
pub map_placed_if : (v : View) (staged : Bool) (j : ℕ) (b : Block) → IsInRange v.meta → j < map_count v.meta.setup.geometry → ArePlaced v.meta (if staged then map_targets v.meta j b else [])
map_placed_if v true j b in_range lj = map_placed v in_range j b lj
map_placed_if v false j b in_range lj = tt

-- The targets of a cell that goes back to its hard place.
pub sync_placed : (v : View) (r d : ℕ) (map : Block) → IsInRange v.meta → r < v.meta.setup.geometry.rows → d < v.meta.setup.geometry.disks → d < rising_to v.meta.phase → named_out v.meta.out ≡ None
    → ArePlaced v.meta (clean_targets v r d map)
sync_placed v r d map in_range lr ld rises none =
    let g = v.meta.setup.geometry in
    placed_append v.meta _ _
    (placed_if v.meta (is_written v.meta.out d r) d (hard_place_of g r) (value v r d)
    (λ w. record {
      in_range = record { disk = ld; past_log = omega arith; within = hard_place_below g r lr; map = λ k. absurd (omega arith) };
      powered = inr rises;
      not_gone = written_not_gone v.meta.out d r w;
    }))
    (map_placed v in_range (r / 512) map (omega arith))
