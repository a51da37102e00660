-- A disk that goes out leaves what is held.
use Rattle.paraid_image.specs.Mark.{meta_after_loss}
use Rattle.std.specs.Prelude.{◌≡◌, ◌≢◌, ℕ, ◌+◌, ◌*◌, ◌-◌, ◌/◌, ◌<◌, ◌&&◌, ◌||◌, nat_lt, Bool, not, Some}
use Rattle.std.proofs.Common.{refl, sym, ◌∙◌, ap, arith, inl, inr}
use Rattle.std.proofs.lemmas.Bool.{cases_eq}
use Rattle.paraid_base.specs.declared.block.Block.{Block}
use Rattle.paraid_base.specs.declared.geometry.Geometry.{Geometry}
use Rattle.paraid_base.specs.declared.state.Out.{Out}
use Rattle.paraid_base.specs.declared.state.Out.TheVariants.{Gone, Fresh}
use Rattle.paraid_base.specs.Cells.{home_disk, home_row}
use Rattle.paraid_base.specs.Log.{map_block_place}
use Rattle.paraid_base.specs.Regions.{hard_place_of, map_count, soft_place_of}
use Rattle.paraid_base.proofs.CellsLemmas.{home_disk_below, home_row_below}
use Rattle.paraid_image.specs.Sound.{IsWellKept, AreDisks, IsFresh}
use Rattle.paraid_plan.specs.LossMark.{IsLostDisk, LostKeeps}
use Rattle.paraid_base.proofs.StatesLemmas.{rising_to-beside, up_before}
use Rattle.paraid_plan.specs.WriteTargets.{soft_count}
use Rattle.paraid_plan.specs.StoredCells.{AreBits, IsUnitKept, Lies, StoresCells, hard_at}
use Rattle.paraid_plan.specs.StoredCells.IsUnitKept.{there, rebuilt}
use Rattle.paraid_plan.proofs.KeptLemmas.{value_is, well_kept}
use Rattle.paraid_plan.proofs.MapLemmas.{map_disk_in, map_disk_low}
use Rattle.paraid_plan.proofs.StoredLemmas.{stored_of}
use Rattle.paraid_rack.specs.declared.call.Power.{Power}
use Rattle.paraid_rack.specs.declared.call.Power.TheVariants.{Parked}
use Rattle.paraid_rack.specs.Disks.{is_present}
use Rattle.paraid_record.specs.declared.meta.Meta.{Meta}
use Rattle.paraid_record.specs.Range.{IsInRange}
use Rattle.paraid_image.specs.Content.{blocks_of, view_by}
use Rattle.paraid_image.specs.Out.{named_out, out_disk}
use Rattle.paraid_image.specs.Spot.{View, map_disk}
use Rattle.paraid_image.specs.Standing.{Contents}
use Rattle.paraid_image.specs.Value.{value}
use Rattle.paraid_image.proofs.ViewLemmas.{map_bit_same}

module _ (slots : ℕ) (power power_now : ℕ → Power) (size size_now : ℕ → ℕ) (m : Meta) (block block_now : Contents) (d : ℕ)
    (in_range : IsInRange m) (range_now : IsInRange (meta_after_loss m d)) (named : out_disk power m ≡ named_out m.out)
    (kept : IsWellKept slots power size (view_by m power block)) (loss : IsLostDisk m power power_now size size_now block block_now d) where
  abbrev v : View
  v = view_by m power block

  abbrev g : Geometry
  g = m.setup.geometry

  abbrev now : Meta
  now = meta_after_loss m d

  abbrev w : View
  w = view_by now power_now block_now

  abbrev map0 : ℕ → Block
  map0 j = block (map_disk v.out) (map_block_place g j)

  stored : StoresCells power m v.out v.block v.dirty (value v) map0
  stored = stored_of slots power size v in_range named kept

  -- a disk other than the lost one was not out
  was_in : (e : ℕ) → e ≢ d → v.out ≢ Some e
  was_in e apart is = apart (loss.alone e (sym named ∙ is))

  not_lost : (e k : ℕ) → IsUnitKept power_now now (Some d) e k → e ≢ d
  not_lost e k (there apart) is = apart (ap Some (sym is))
  not_lost e k (rebuilt count fresh l) is = let z : ◌≡◌ {A = Out} (Gone d) (Fresh e count) = fresh.is in cc

  was_kept : (e k : ℕ) → IsUnitKept power_now now (Some d) e k → IsUnitKept power m v.out e k
  was_kept e k kept_now = there (was_in e (not_lost e k kept_now))

  lies : Lies power_now now (Some d) block_now stored.hard stored.soft stored.filled map0
  lies = record {
    hard_blocks = λ r e lr le k. loss.blocks e (hard_place_of g r) (not_lost e r k) ∙ stored.lies.hard_blocks r e lr le (was_kept e r k);
    soft_blocks = λ s e ls le k. loss.blocks e (soft_place_of g m.gear s) (not_lost e (g.rows + s) k) ∙ stored.lies.soft_blocks s e ls le (was_kept e (g.rows + s) k);
    filled_blocks = λ s e ls le. absurd (omega arith);
    map_blocks = λ j x lj lx k.
        loss.blocks x (map_block_place g j) (not_lost x (g.rows + soft_count m + j) k) ∙ stored.lies.map_blocks j x lj lx (was_kept x (g.rows + soft_count m + j) k);
  }

  dirty_is : (q e : ℕ) → q < 512 * map_count g → w.dirty q e ≡ v.dirty q e
  dirty_is q e l =
      map_bit_same g (block_now (map_disk (Some d))) (block (map_disk v.out)) q e
      (lies.map_blocks (q / 512) (map_disk (Some d)) (omega arith) (map_disk_low (Some d)) (there (map_disk_in (Some d))))

  bits : AreBits now w.dirty
  bits = record {
    rows = λ q e l h. kept.map.rows q e l (sym (dirty_is q e l) ∙ h);
    parked = λ q e l h. kept.map.parked q e l (sym (dirty_is q e l) ∙ h);
    disks = λ q e l h. kept.map.disks q e l (sym (dirty_is q e l) ∙ h);
  }

  same_hard : (q e : ℕ) → q < g.rows → hard_at now (w.dirty q e) e ≡ hard_at m (v.dirty q e) e
  unfolding hard_at
  same_hard q e l =
      ap (λ (z : Bool). hard_at now z e) (dirty_is q e (omega arith))
      ∙ ap (λ (to : ℕ). nat_lt e m.gear || (nat_lt e to && not (v.dirty q e))) (rising_to-beside m.phase)

  stored_now : StoresCells power_now now (Some d) block_now w.dirty (value v) map0
  stored_now = record {
    hard = stored.hard;
    soft = stored.soft;
    filled = stored.filled;
    lies = lies;
    clean = λ q e lq le c. stored.clean q e lq le (sym (dirty_is q e (omega arith)) ∙ c);
    copies = record {
      cells = λ q e lq low le ls h. stored.copies.cells q e lq low le ls (ap not (sym (same_hard q e lq)) ∙ h);
      sums = stored.copies.sums;
    };
    fills = record { cells = λ r e lr low le ls h. absurd (omega arith); sums = λ s ls. absurd (omega arith) };
    pads = record { zeros = λ s at ls la pad. absurd (omega arith) };
  }

  apart_of : (e : ℕ) → Some d ≢ Some e → e ≢ d
  apart_of e apart is = apart (ap Some (sym is))

  not_fresh : (e count : ℕ) → IsFresh power_now now e count → ⊥
  not_fresh e count fresh = let z : ◌≡◌ {A = Out} (Gone d) (Fresh e count) = fresh.is in cc

  disks : AreDisks slots power_now size_now now (Some d)
  disks = record {
    enough = kept.disks.enough;
    log_disks = λ e low. log_by e low;
    large = λ e le here apart.
        let off = apart_of e apart in
        let was = kept.disks.large e le (ap is_present (sym (loss.powers e off)) ∙ here) (was_in e off) in
        let same = loss.sizes e off in
        omega arith;
    fresh_large = λ e count fresh. absurd (not_fresh e count fresh);
    below_gear = λ e le apart. let off = apart_of e apart in loss.powers e off ∙ kept.disks.below_gear e le (was_in e off);
    fresh_spins = λ e count fresh. absurd (not_fresh e count fresh);
    recorded = λ to e is low l parked apart.
        let off = apart_of e apart in kept.disks.recorded to e (up_before m.phase to is) low l (sym (loss.powers e off) ∙ parked) (was_in e off);
  }
    where
      log_by : (e : ℕ) → e < 2 → power_now e ≢ Parked
      log_by e low parked = elim (cases_eq e d) [
        | inl is ↦ loss.log_disk (omega arith) (ap power_now (sym is) ∙ parked)
        | inr off ↦ kept.disks.log_disks e low (sym (loss.powers e off) ∙ parked)
      ]

  pub lost_kept : IsWellKept slots power_now size_now w
  lost_kept = well_kept power_now w (value v) map0 range_now stored_now kept.rows bits slots size_now refl disks

  pub lost_blocks : (c : ℕ) → c < g.rows * (g.disks - 1) → blocks_of w c ≡ blocks_of v c
  lost_blocks c lc =
      let low = g.disks_low in
      value_is power_now w (value v) map0 range_now stored_now kept.rows bits (home_row g.disks c) (home_disk g.disks c)
      (home_row_below g.disks c g.rows (omega arith) lc) (home_disk_below g.disks c (omega arith))

pub lost_keeps : LostKeeps
lost_keeps slots power power_now size size_now m block block_now d in_range range_now named kept loss = (
  lost_kept slots power power_now size size_now m block block_now d in_range range_now named kept loss,
  lost_blocks slots power power_now size size_now m block block_now d in_range range_now named kept loss,
)
