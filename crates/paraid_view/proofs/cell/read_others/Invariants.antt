use Rattle.std.proofs.Common.{◌++◌, ◌≡◌, Some, None}
use Rattle.std.specs.Prelude.{IsSome}
use Rattle.paraid_base.specs.Sums.{without, xor_upto}
use Rattle.paraid_image.specs.Standing.{Contents}
use Rattle.paraid_image.specs.Value.{stored_value}
use Rattle.paraid_rack.specs.Told.{Ran}
use Rattle.paraid_txn.specs.Stores.{disks_of, store_rack}
use Rattle.paraid_view.specs.Reads.{AreOffDisk, HaveRead, ShowsContents, seen_by}
use Rattle.paraid_view.proofs.cell.read_others.Given as goal

abbrev pub invariant-loop-d : goal.invariant-loop-d
invariant-loop-d g l = record {
  read : HaveRead g.R.Rack.slot_count g.R.Rack.slot g.R.Rack.told (disks_of l.fn.store) None l.fn.store l.store;
  off : Ran (g.R.Rack.told (store_rack l.fn.store)) (g.R.Rack.told (store_rack l.store)) (AreOffDisk (Some l.fn.out));
  value : (f : Contents) → ShowsContents (g.R.Rack.told (store_rack l.fn.store)) (l.fn.batch ++ l.fn.draft) f → IsSome (g.R.Rack.told (store_rack l.store))
      → l.into ≡ xor_upto (without (without (stored_value (seen_by l.fn.meta l.fn.dirty (Some l.fn.out) f) l.fn.r) l.fn.out) l.fn.skipped) l.d;
}
