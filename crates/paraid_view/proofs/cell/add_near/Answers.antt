use Rattle.std.proofs.Common.{◌≡◌, ◌∙◌, ◌⊎◌, Some, inl, inr, ℕ, ◌<◌, ◌≢◌, Option, subst, sym, ap}
use Rattle.paraid_base.proofs.SumsLemmas.{two_read, two_skip}
use Rattle.paraid_image.specs.Value.{stored_value}
use Rattle.paraid_txn.specs.Stores.{store_rack, disks_of}
use Rattle.paraid_view.proofs.ValueLemmas.{err_again, ok_never, same_disk}
use Rattle.paraid_view.specs.Reads.{seen_by, HaveRead}
use Rattle.paraid_view.proofs.ReadLemmas.{off_none, lost_again, read_none}
use Rattle.paraid_view.proofs.cell.add_near.Goals as goal
use Rattle.paraid_view.proofs.cell.add_near.Goals.{then-d-out-via-then-d-out, then-d-out-via-else-d-out+then-d-skipped}

pub returns-then-d-out-clause-value : goal.returns-then-d-out-clause-value
returns-then-d-out-clause-value g c f shows some sum =
    sum ∙ two_skip (stored_value (seen_by c.args.meta.now c.args.dirty.now (Some c.args.out) f) c.args.r) c.args.out c.args.skipped c.args.d which
  where
    which : (c.args.d ≡ c.args.out) ⊎ (c.args.d ≡ c.args.skipped)
    which = elim c.then-d-out.branch [ then-d-out-via-then-d-out w ↦ inl w.if-d-out.true | then-d-out-via-else-d-out+then-d-skipped w ↦ inr w.if-d-skipped.true ]

pub returns-then-d-out-clause-off : goal.returns-then-d-out-clause-off
returns-then-d-out-clause-off g c = off_none (Some c.args.out) (g.R.Rack.told (store_rack c.args.store.now))

pub returns-then-d-out-clause-read : goal.returns-then-d-out-clause-read
returns-then-d-out-clause-read g c = read_none g.R.Rack.slot_count g.R.Rack.slot g.R.Rack.told (disks_of c.args.store.now) c.args.store.now

pub returns-then-d-out-clause-below : goal.returns-then-d-out-clause-below
returns-then-d-out-clause-below g c = tt

pub returns-then-d-out-clause-failed : goal.returns-then-d-out-clause-failed
returns-then-d-out-clause-failed g c = tt

pub returns : goal.returns
returns g c = record {
  read = c.in_ok-read_near.ensures.read;
  below = tt;
  failed = tt;
  off = c.read_near.ensures.off;
  value = λ f shows some sum. two_read (stored_value (seen_by c.args.meta.now c.args.dirty.now (Some c.args.out) f) c.args.r) c.args.out c.args.skipped c.args.d _ _ _ c.if-d-out.false c.if-d-skipped.false sum (c.in_ok-read_near.ensures.value f shows some) c.xor_into.ensures;
}

pub returns-in_err-read_near : goal.returns-in_err-read_near
returns-in_err-read_near g c = record {
  read = subst (λ (lost : Option ℕ). HaveRead g.R.Rack.slot_count g.R.Rack.slot g.R.Rack.told (disks_of c.args.store.now) lost c.args.store.now c.read_near.new.store) (sym (lost_again _ _ c.from_residual.ensures.1)) c.in_err-read_near.ensures.read;
  below = err_again (λ e. e < disks_of c.args.store.now) _ _ c.from_residual.ensures.1 c.in_err-read_near.ensures.below;
  failed = err_again (λ e. c.args.out ≢ e) _ _ c.from_residual.ensures.1 (λ is. c.in_err-read_near.ensures.failed (ap Some is));
  off = c.read_near.ensures.off;
  value = ok_never _ _ c.from_residual.result c.from_residual.ensures.1;
}

pub read_near-requires-clause-near : goal.read_near-requires-clause-near
read_near-requires-clause-near g c = λ f hard is. c.if-d-out.false (sym (same_disk is))
