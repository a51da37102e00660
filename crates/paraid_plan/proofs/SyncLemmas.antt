-- A cell that goes back to its hard place keeps the disks well.
use Rattle.std.specs.Prelude.{◌≡◌, ◌≢◌, ℕ, ◌*◌, ◌/◌, ◌<◌, ◌≤◌, ◌&&◌, ◌||◌, nat_lt, nat_le, Bool, true, false, not, Some, [], ◌++◌}
use Rattle.std.proofs.Common.{refl, sym, ◌∙◌, ap, subst, arith, inl, inr}
use Rattle.std.proofs.lemmas.Bool.Decides.{nat_tests}
use Rattle.paraid_base.specs.declared.block.Block.{Block}
use Rattle.paraid_base.specs.declared.geometry.Geometry.{Geometry}
use Rattle.paraid_base.specs.declared.state.Phase.{Phase}
use Rattle.paraid_base.specs.declared.state.Phase.TheVariants.{Steady, Down, Up}
use Rattle.paraid_base.specs.Cells.{home_disk, home_row}
use Rattle.paraid_base.specs.Log.{log_least, map_block_place}
use Rattle.paraid_base.specs.Regions.{disk_size, map_count}
use Rattle.paraid_base.specs.Sums.{xor_upto}
use Rattle.paraid_base.specs.Xor.{zero_block}
use Rattle.paraid_base.proofs.CellsLemmas.{home_disk_below, home_row_below}
use Rattle.paraid_base.proofs.SumsLemmas.{xor_upto_same}
use Rattle.paraid_dirty.specs.Table.{table_with_bit, ShowsBits}
use Rattle.paraid_image.specs.Sound.{IsWellKept}
use Rattle.paraid_plan.specs.WriteTargets.{cell_targets, goes_hard, hard_targets, is_filled, overlaid_blocks, map_targets, view_with_cell}
use Rattle.paraid_plan.specs.StoredCells.{AreBits, IsUnitKept, StoresCells}
use Rattle.paraid_plan.specs.Units.{IsSameHeld, CleanKeeps, clean_targets}
use Rattle.paraid_plan.proofs.CellLemmas.{bits_changed, cell_stored, goes_parked}
use Rattle.paraid_plan.proofs.LayLemmas.{cases_both, changed_off, overlaid_blocks-append, lay_nil, put, put_at, put_off}
use Rattle.paraid_plan.proofs.MapLemmas.{dirty_is, kept_now, value_now}
use Rattle.paraid_plan.proofs.OutsLemmas.{not_out}
use Rattle.paraid_plan.proofs.StoredLemmas.{stored_of}
use Rattle.paraid_rack.specs.declared.call.Power.{Power}
use Rattle.paraid_record.specs.declared.meta.Meta.{Meta}
use Rattle.paraid_record.specs.Codes.{phase_to}
use Rattle.paraid_record.specs.Range.{IsInRange}
use Rattle.paraid_image.specs.Content.{view_by}
use Rattle.paraid_image.specs.Out.{named_out, out_disk}
use Rattle.paraid_image.specs.Sides.{Batch}
use Rattle.paraid_image.specs.Spot.{View, is_hard, map_disk, rising_to}
use Rattle.paraid_image.specs.Standing.{Contents}
use Rattle.paraid_image.specs.Value.{value}

rising_goes : (v : View) (r d : ℕ) → d < rising_to v.meta.phase → v.out ≢ Some d → goes_hard v r d ≡ true
unfolding goes_hard
rising_goes v r d l apart =
    let up : nat_lt d (rising_to v.meta.phase) ≡ true = grind (arith, nat_tests) in
    rw (up, not_out v.out d apart) (last (is_hard v r d))
  where
    last : (b : Bool) → (b || (true && not false)) ≡ true
    last true = refl
    last false = refl

rising_is : (phase : Phase) (d : ℕ) → d < rising_to phase → rising_to phase ≡ phase_to phase
rising_is Steady d l = absurd (omega arith)
rising_is (Down to) d l = absurd (omega arith)
rising_is (Up to) d l = refl

not_filled : (m : Meta) (r d : ℕ) → d < rising_to m.phase → is_filled m r d ≡ false
not_filled m r d l =
    let is = rising_is m.phase d l in
    let above : nat_le (phase_to m.phase) d ≡ false = let k : d < phase_to m.phase = omega arith in grind (arith, nat_tests) in
    rw above refl

-- nothing but the hard place is written
only_hard : (v : View) (r d : ℕ) (x : Block) → d < rising_to v.meta.phase → v.out ≢ Some d → cell_targets v r d x x ≡ hard_targets v r d x ++ []
only_hard v r d x l apart = rw (rising_goes v r d l apart, not_filled v.meta r d l) refl

module _ (slots : ℕ) (power : ℕ → Power) (size : ℕ → ℕ) (m : Meta) (block : Contents) (r d : ℕ) (map : Block)
    (in_range : IsInRange m) (named : out_disk power m ≡ named_out m.out) (kept : IsWellKept slots power size (view_by m power block))
    (lr : r < m.setup.geometry.rows) (ld : d < m.setup.geometry.disks) (rises : d < rising_to m.phase) (apart : named_out m.out ≢ Some d)
    (shows : ShowsBits map (r / 512) (table_with_bit (view_by m power block).dirty r d false)) where
  abbrev v : View
  v = view_by m power block

  abbrev g : Geometry
  g = m.setup.geometry

  abbrev x : Block
  x = value v r d

  abbrev v1 : View
  v1 = view_with_cell v r d x x

  abbrev map0 : ℕ → Block
  map0 j = block (map_disk v.out) (map_block_place g j)

  stored1 : StoresCells power m v.out v1.block v1.dirty (put (value v) r d x) map0
  stored1 = cell_stored power v (value v) map0 in_range named (stored_of slots power size v in_range named kept) r d x x lr ld refl

  goes : goes_hard v r d ≡ true
  goes = rising_goes v r d rises (λ is. apart (sym named ∙ is))

  same_value : (q e : ℕ) → put (value v) r d x q e ≡ value v q e
  same_value q e = elim (cases_both q r e d) [
    | inl is ↦ put_at (value v) r d x q e is.0 is.1 ∙ ap (λ (z : ℕ). value v z d) (sym is.0) ∙ ap (value v q) (sym is.1)
    | inr differ ↦ put_off (value v) r d x q e differ
  ]

  rows1 : (q : ℕ) → q < g.rows → xor_upto (put (value v) r d x q) g.disks ≡ zero_block
  rows1 q lq = xor_upto_same (put (value v) r d x q) (value v q) g.disks (λ e le. same_value q e) ∙ kept.rows q lq

  bits1 : AreBits m v1.dirty
  bits1 = bits_changed m v.dirty r d (not (goes_hard v r d)) lr ld (goes_parked v r d) (record { rows = kept.map.rows; parked = kept.map.parked; disks = kept.map.disks })

  shows1 : ShowsBits map (r / 512) v1.dirty
  shows1 = subst (λ (b : Bool). ShowsBits map (r / 512) (table_with_bit v.dirty r d (not b))) (sym goes) shows

  first_is : v1.block ≡ overlaid_blocks (hard_targets v r d x) block
  first_is =
      ap (λ (b : Batch). overlaid_blocks b block) (only_hard v r d x rises (λ is. apart (sym named ∙ is))) ∙ overlaid_blocks-append (hard_targets v r d x) [] block ∙ lay_nil _

  module _ (final : Contents) (final_is : (e u p : ℕ) → e < m.setup.geometry.disks → IsUnitKept power m (out_disk power m) e u → log_least ≤ p → p < disk_size m.setup.geometry
      → final e p ≡ overlaid_blocks (clean_targets (view_by m power block) r d map) block e p) where
    agree : (e u p : ℕ) → e < g.disks → IsUnitKept power m v.out e u → log_least ≤ p → p < disk_size g → final e p ≡ overlaid_blocks (map_targets m (r / 512) map) v1.block e p
    agree e u p le k far near =
        final_is e u p le k far near
        ∙ ap (λ (f : Contents). f e p) (overlaid_blocks-append (hard_targets v r d x) (map_targets m (r / 512) map) block ∙ ap (λ (f : Contents). overlaid_blocks (map_targets m (r / 512) map) f) (sym first_is))

    pub sync_final : IsSameHeld slots power size v (view_by m power final)
    sync_final = record {
      kept = kept_now slots power size m v.out v.dirty block in_range named (λ q e l. refl) kept.disks r lr v1.block v1.dirty (put (value v) r d x) stored1 rows1 bits1
          (λ q e not_it. changed_off v.dirty r d (not (goes_hard v r d)) q e (λ i _. not_it i)) true map (λ is. shows1) (λ is. cc) final agree;
      blocks = λ c lc.
          let low = g.disks_low in
          value_now slots power size m v.out v.dirty block in_range named (λ q e l. refl) kept.disks r lr v1.block v1.dirty (put (value v) r d x) stored1 rows1 bits1
          (λ q e not_it. changed_off v.dirty r d (not (goes_hard v r d)) q e (λ i _. not_it i)) true map (λ is. shows1) (λ is. cc) final agree
          (home_row g.disks c) (home_disk g.disks c) (home_row_below g.disks c g.rows (omega arith) lc) (home_disk_below g.disks c (omega arith))
          ∙ same_value (home_row g.disks c) (home_disk g.disks c);
    }

    pub sync_bits : (q e : ℕ) → q < 512 * map_count m.setup.geometry → (view_by m power final).dirty q e ≡ table_with_bit (view_by m power block).dirty r d false q e
    sync_bits q e l =
        dirty_is slots power size m v.out v.dirty block in_range named (λ y z k. refl) kept.disks r lr v1.block v1.dirty (put (value v) r d x) stored1 rows1 bits1
        (λ y z not_it. changed_off v.dirty r d (not (goes_hard v r d)) y z (λ i _. not_it i)) true map (λ is. shows1) (λ is. cc) final agree q e l
        ∙ ap (λ (b : Bool). table_with_bit v.dirty r d (not b) q e) goes

  pub sync_staged : IsSameHeld slots power size v (view_by m power (overlaid_blocks (clean_targets v r d map) block))
  sync_staged = sync_final (overlaid_blocks (clean_targets v r d map) block) (λ e u p le k far near. refl)

pub clean_keeps : CleanKeeps
clean_keeps slots power size m block r d map in_range named kept lr ld rises apart shows = sync_staged slots power size m block r d map in_range named kept lr ld rises apart shows
