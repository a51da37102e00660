use Rattle.std.proofs.Common.{◌++◌, ◌≡◌, None, Some}
use Rattle.std.specs.Prelude.{IsSome}
use Rattle.paraid_base.specs.Sums.{without, xor_upto}
use Rattle.paraid_image.specs.Standing.{Contents}
use Rattle.paraid_rack.specs.Told.{Ran}
use Rattle.paraid_txn.specs.Stores.{disks_of, store_rack}
use Rattle.paraid_image.specs.Value.{stripe}
use Rattle.paraid_view.specs.Reads.{AreOffDisk, HaveRead, ShowsContents}
use Rattle.paraid_view.proofs.laid.read_rest.Given as goal

abbrev pub invariant-loop-disk : goal.invariant-loop-disk
invariant-loop-disk g l = record {
  read : HaveRead g.R.Rack.slot_count g.R.Rack.slot g.R.Rack.told (disks_of l.fn.store) None l.fn.store l.store;
  off : Ran (g.R.Rack.told (store_rack l.fn.store)) (g.R.Rack.told (store_rack l.store)) (AreOffDisk (Some l.fn.skipped));
  value : (f : Contents) → ShowsContents (g.R.Rack.told (store_rack l.fn.store)) (l.fn.batch ++ l.fn.draft) f → IsSome (g.R.Rack.told (store_rack l.store))
      → l.into ≡ xor_upto (without (stripe l.fn.meta.setup.geometry f l.fn.meta.gear l.fn.stripe) l.fn.skipped) l.disk;
}
