use Rattle.std.proofs.Common.{◌++◌, ◌≡◌, ◌≢◌, ℕ, ◌<◌, None}
use Rattle.std.specs.Prelude.{IsSome}
use Rattle.paraid_base.specs.Soft.{soft_parity_disk}
use Rattle.paraid_base.specs.Sums.{without, xor_upto}
use Rattle.paraid_image.specs.Standing.{Contents}
use Rattle.paraid_moves.specs.MoveMetas.{copies}
use Rattle.paraid_txn.specs.Stores.{disks_of, store_rack}
use Rattle.paraid_view.specs.Reads.{HaveRead, ShowsContents, seen_by}
use Rattle.paraid_core.specs.Fills.{member}
use Rattle.paraid_core.proofs.gather.gather.Given as goal

-- the copies of the disks before this one are read
abbrev pub invariant-loop-disk : goal.invariant-loop-disk
invariant-loop-disk g l = record {
  read : HaveRead g.R.Rack.slot_count g.R.Rack.slot g.R.Rack.told (disks_of l.fn.store) None l.fn.store l.store;
  sums : (f : Contents) → ShowsContents (g.R.Rack.told (store_rack l.fn.store)) (l.fn.batch ++ l.fn.draft) f → IsSome (g.R.Rack.told (store_rack l.store))
      → l.sum ≡ xor_upto (without (copies (seen_by l.fn.meta l.fn.dirty None f) l.fn.to l.fn.s) (soft_parity_disk l.fn.to l.fn.s)) l.disk;
  values : (f : Contents) → ShowsContents (g.R.Rack.told (store_rack l.fn.store)) (l.fn.batch ++ l.fn.draft) f → IsSome (g.R.Rack.told (store_rack l.store))
      → (e : ℕ) → e < l.disk → e ≢ soft_parity_disk l.fn.to l.fn.s → member l.blocks e ≡ copies (seen_by l.fn.meta l.fn.dirty None f) l.fn.to l.fn.s e;
}
