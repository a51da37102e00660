use Rattle.std.specs.Prelude.{◌≡◌, ℕ, ◌*◌, ◌%◌, ◌<◌, [], length, slice_index, None, IsSome}
use Rattle.paraid_base.specs.Regions.{map_place_of}
use Rattle.paraid_dirty.specs.Bits.{bit_of}
use Rattle.paraid_dirty.specs.Table.{is_dirty}
use Rattle.paraid_rack.specs.Told.{Ran}
use Rattle.paraid_image.specs.Standing.{Contents}
use Rattle.paraid_txn.specs.Stores.{disks_of, store_rack}
use Rattle.paraid_txn.specs.Uses.{EachCall}
use Rattle.paraid_view.specs.Reads.{HaveRead, ShowsContents}
use Rattle.paraid_recover.specs.Map.{IsNarrow, ReadsMapOf}
use Rattle.paraid_recover.proofs.map.read_map_of.Given as goal

abbrev pub invariant-loop-j : goal.invariant-loop-j
invariant-loop-j g l = record {
  rows : length l.table ≡ length l.fn.table;
  narrow : IsNarrow (is_dirty l.table);
  read : HaveRead g.R.Rack.slot_count g.R.Rack.slot g.R.Rack.told (disks_of l.fn.store) None l.fn.store l.store;
  calls : Ran (g.R.Rack.told (store_rack l.fn.store)) (g.R.Rack.told (store_rack l.store)) (EachCall (ReadsMapOf l.geometry l.disk));
  shows : (f : Contents) → ShowsContents (g.R.Rack.told (store_rack l.fn.store)) [] f → IsSome (g.R.Rack.told (store_rack l.store))
      → (q d : ℕ) → q < 512 * l.j → q < length l.fn.table → d < 8
      → is_dirty l.table q d ≡ bit_of (slice_index (f l.disk (map_place_of l.geometry q)).bytes (q % 512)) d;
}
