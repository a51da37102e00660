-- What is stored is what is kept well, and is told by the places that are kept.
use Rattle.std.specs.Prelude.{◌≡◌, ℕ, ◌<◌}
use Rattle.paraid_plan.specs.StoredCells.{AgreeWhereKept, AreBits, KeptIsStored, KeptPlacesTell, StoresCells, StoredIsKept, map_of}
use Rattle.paraid_plan.proofs.KeptLemmas.{value_is, well_kept}
use Rattle.paraid_plan.proofs.MapLemmas.{lies_same}
use Rattle.paraid_plan.proofs.StoredLemmas.{stored_of}
use Rattle.paraid_rack.specs.declared.call.Power.{Power}
use Rattle.paraid_record.specs.Range.{IsInRange}
use Rattle.paraid_image.specs.Out.{named_out}
use Rattle.paraid_image.specs.Sound.{IsWellKept}
use Rattle.paraid_image.specs.Spot.{View}
use Rattle.paraid_image.specs.Standing.{Contents}
use Rattle.paraid_image.specs.Value.{value}

pub kept_is_stored : KeptIsStored
kept_is_stored slots power size v in_range named kept = stored_of slots power size v in_range named kept

pub stored_is_kept : StoredIsKept
stored_is_kept slots power size v values map in_range named st rows bits disks =
    (well_kept power v values map in_range st rows bits slots size named disks, value_is power v values map in_range st rows bits)

module _ (slots : ℕ) (power : ℕ → Power) (size : ℕ → ℕ) (v : View) (after : Contents) (in_range : IsInRange v.meta) (named : v.out ≡ named_out v.meta.out)
    (kept : IsWellKept slots power size v) (same : AgreeWhereKept power v.meta v.out v.block after) where
  stored_then : StoresCells power v.meta v.out after v.dirty (value v) (map_of v)
  stored_then =
      let st = stored_of slots power size v in_range named kept in
      record {
        hard = st.hard;
        soft = st.soft;
        filled = st.filled;
        lies = lies_same power v.meta v.out v.block after st.hard st.soft st.filled (map_of v) in_range named same st.lies;
        clean = st.clean;
        copies = st.copies;
        fills = st.fills;
        pads = st.pads;
      }

  bits : AreBits v.meta v.dirty
  bits = record { rows = kept.map.rows; parked = kept.map.parked; disks = kept.map.disks }

  pub places_tell : IsWellKept slots power size (record v { block = after })
      × ((r d : ℕ) → r < v.meta.setup.geometry.rows → d < v.meta.setup.geometry.disks → value (record v { block = after }) r d ≡ value v r d)
  places_tell = stored_is_kept slots power size (record v { block = after }) (value v) (map_of v) in_range named stored_then kept.rows bits kept.disks

pub kept_places_tell : KeptPlacesTell
kept_places_tell slots power size v after in_range named kept same = places_tell slots power size v after in_range named kept same
