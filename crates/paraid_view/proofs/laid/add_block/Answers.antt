use Rattle.std.proofs.Common.{◌≡◌, ◌∙◌, Some, sym, ℕ, ◌<◌, ◌≢◌, Option, subst}
use Rattle.paraid_base.proofs.SumsLemmas.{others_read, others_skip}
use Rattle.paraid_txn.specs.Stores.{store_rack, disks_of}
use Rattle.paraid_view.specs.Reads.{HaveRead}
use Rattle.paraid_view.proofs.ValueLemmas.{err_again, ok_never, same_disk}
use Rattle.paraid_view.proofs.ReadLemmas.{off_none, lost_again, read_none}
use Rattle.paraid_view.proofs.laid.add_block.Goals as goal

pub returns-then-disk-skipped : goal.returns-then-disk-skipped
returns-then-disk-skipped g c = record {
  read = read_none g.R.Rack.slot_count g.R.Rack.slot g.R.Rack.told (disks_of c.args.store.now) c.args.store.now;
  below = tt;
  failed = tt;
  off = off_none (Some c.args.skipped) (g.R.Rack.told (store_rack c.args.store.now));
  value = λ f shows some sum. sum ∙ others_skip (λ e. f e c.args.place) c.args.skipped c.args.disk c.if-disk-skipped.true;
}

pub returns : goal.returns
returns g c = record {
  read = c.in_ok-read_laid.ensures.read;
  below = tt;
  failed = tt;
  off = c.read_laid.ensures.off (Some c.args.skipped) (λ is. c.if-disk-skipped.false (sym (same_disk is)));
  value = λ f shows some sum. others_read (λ e. f e c.args.place) c.args.skipped c.args.disk _ _ _ c.if-disk-skipped.false sum (c.in_ok-read_laid.ensures.value f shows some) c.xor_into.ensures;
}

pub returns-in_err-read_laid : goal.returns-in_err-read_laid
returns-in_err-read_laid g c = record {
  read = subst (λ (lost : Option ℕ). HaveRead g.R.Rack.slot_count g.R.Rack.slot g.R.Rack.told (disks_of c.args.store.now) lost c.args.store.now c.read_laid.new.store) (sym (lost_again _ _ c.from_residual.ensures.1)) c.in_err-read_laid.ensures.read;
  below = err_again (λ e. e < disks_of c.args.store.now) _ _ c.from_residual.ensures.1 c.in_err-read_laid.ensures.below;
  failed = err_again (λ e. (e ≡ c.args.disk) × (e ≢ c.args.skipped)) _ _ c.from_residual.ensures.1 (c.in_err-read_laid.ensures.failed, λ is. c.if-disk-skipped.false (sym c.in_err-read_laid.ensures.failed ∙ is));
  off = c.read_laid.ensures.off (Some c.args.skipped) (λ is. c.if-disk-skipped.false (sym (same_disk is)));
  value = ok_never _ _ c.from_residual.result c.from_residual.ensures.1;
}
