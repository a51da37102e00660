-- Dirty bits that agree in the map's rows see the same blocks.
use Rattle.std.specs.Prelude.{◌≡◌, ℕ, ◌*◌, ◌-◌, ◌<◌, Bool}
use Rattle.std.proofs.Common.{sym, ◌∙◌, arith}
use Rattle.paraid_base.specs.Cells.{home_disk, home_row}
use Rattle.paraid_base.specs.Log.{map_block_place}
use Rattle.paraid_base.specs.Regions.{map_count}
use Rattle.paraid_base.proofs.CellsLemmas.{home_disk_below, home_row_below}
use Rattle.paraid_image.specs.Sound.{IsWellKept}
use Rattle.paraid_plan.specs.StoredCells.{AreBits, StoresCells}
use Rattle.paraid_plan.proofs.KeptLemmas.{value_is, well_kept}
use Rattle.paraid_plan.proofs.MapLemmas.{stored_dirty}
use Rattle.paraid_plan.proofs.StoredLemmas.{stored_of}
use Rattle.paraid_rack.specs.declared.call.Power.{Power}
use Rattle.paraid_record.specs.Range.{IsInRange}
use Rattle.paraid_image.specs.Content.{blocks_of}
use Rattle.paraid_image.specs.Out.{named_out}
use Rattle.paraid_image.specs.Spot.{View, map_disk}
use Rattle.paraid_image.specs.Value.{value}

module _ (slots : ℕ) (power : ℕ → Power) (size : ℕ → ℕ) (v : View) (dirty : ℕ → ℕ → Bool) (in_range : IsInRange v.meta) (named : v.out ≡ named_out v.meta.out)
    (same : (q e : ℕ) → q < 512 * map_count v.meta.setup.geometry → dirty q e ≡ v.dirty q e) (kept : IsWellKept slots power size v) where
  abbrev other : View
  other = record { meta = v.meta; dirty = dirty; out = v.out; block = v.block }

  stored_other : StoresCells power v.meta v.out v.block dirty (value v) (λ j. v.block (map_disk v.out) (map_block_place v.meta.setup.geometry j))
  stored_other = stored_dirty power v.meta v.out v.block v.dirty dirty (value v) (λ j. v.block (map_disk v.out) (map_block_place v.meta.setup.geometry j))
      (λ q e l. same q e (omega arith)) (stored_of slots power size v in_range named kept)

  bits_other : AreBits v.meta dirty
  bits_other = record {
    rows = λ q e l h. kept.map.rows q e l (sym (same q e l) ∙ h);
    parked = λ q e l h. kept.map.parked q e l (sym (same q e l) ∙ h);
    disks = λ q e l h. kept.map.disks q e l (sym (same q e l) ∙ h);
  }

  pub kept_other : IsWellKept slots power size other
  kept_other = well_kept power other (value v) (λ j. v.block (map_disk v.out) (map_block_place v.meta.setup.geometry j)) in_range stored_other kept.rows bits_other slots size named kept.disks

  pub block_other : (c : ℕ) → c < v.meta.setup.geometry.rows * (v.meta.setup.geometry.disks - 1) → blocks_of other c ≡ blocks_of v c
  block_other c lc =
      let g = v.meta.setup.geometry in
      let low = g.disks_low in
      value_is power other (value v) (λ j. v.block (map_disk v.out) (map_block_place v.meta.setup.geometry j)) in_range stored_other kept.rows bits_other (home_row g.disks c) (home_disk g.disks c)
      (home_row_below g.disks c g.rows (omega arith) lc) (home_disk_below g.disks c (omega arith))
