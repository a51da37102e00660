use Rattle.std.proofs.Common.{◌++◌, ◌≡◌, ℕ, ◌+◌, ◌∙◌, None, Some, sym, subst, ◌<◌, ◌≢◌, ap, arith, inl, rules}
use Rattle.paraid_base.proofs.SumsLemmas.{others_none}
use Rattle.paraid_base.specs.Sums.{without, xor_upto}
use Rattle.paraid_txn.specs.Stores.{disks_of, store_rack}
use Rattle.paraid_rack.specs.Slots.{Slot}
use Rattle.paraid_view.proofs.ValueLemmas.{err_again, no_disk, ok_never, same_disk}
use Rattle.paraid_view.proofs.ReadLemmas.{off_none, off_then, read_failed, read_none, read_then, shows_after, told_before}
use Rattle.paraid_view.proofs.laid.read_rest.Goals as goal

pub loop-disk-init : goal.loop-disk-init
loop-disk-init g c = record {
  read = read_none g.R.Rack.slot_count g.R.Rack.slot g.R.Rack.told (disks_of c.args.store.now) c.args.store.now;
  off = off_none (Some c.args.skipped) (g.R.Rack.told (store_rack c.args.store.now));
  value = λ f shows some. c.zero.ensures ∙ others_none _ _;
}

pub loop-disk-preserved : goal.loop-disk-preserved
loop-disk-preserved g c =
    let before = c.loop-disk.invariant in
    let call = c.in_ok-add_block.ensures in
    record {
      read = read_then g.R.Rack.slot_count g.R.Rack.slot g.R.Rack.told (disks_of c.args.store.now) (disks_of c.loop-disk.store) None c.args.store.now c.loop-disk.store c.add_block.new.store before.read.same.disks before.read call.read;
      off = off_then (Some c.args.skipped) _ _ _ before.off c.add_block.ensures.off;
      value = λ f shows some.
          let place = c.soft_place-place.ensures.value in
          subst (λ (p : ℕ). c.add_block.new.sum ≡ xor_upto (without (λ e. f e p) c.args.skipped) (c.loop-disk.disk + 1)) place
          (call.value f (shows_after (disks_of c.args.store.now) _ _ (c.args.batch.now ++ c.args.draft.now) f before.read.calls shows) some
          (subst (λ (p : ℕ). c.loop-disk.into ≡ xor_upto (without (λ e. f e p) c.args.skipped) c.loop-disk.disk) (sym place)
          (before.value f shows (told_before _ _ _ call.read.calls some))));
    }

pub add_block-requires-clause-spinning : goal.add_block-requires-clause-spinning
add_block-requires-clause-spinning g c = λ apart.
    let low : c.loop-disk.disk < c.args.meta.now.gear = omega arith in
    ap (λ (s : Slot). s.power) (c.loop-disk.invariant.read.left.others c.loop-disk.disk no_disk) ∙ c.requires.ready.spins c.loop-disk.disk (inl low) (λ is. apart (sym (same_disk is)))

pub add_block-requires-clause-within : goal.add_block-requires-clause-within
add_block-requires-clause-within g c = λ apart.
    let low : c.loop-disk.disk < c.args.meta.now.gear = omega arith in
    let same = ap (λ (s : Slot). s.size) (c.loop-disk.invariant.read.left.others c.loop-disk.disk no_disk) in
    let large = c.requires.ready.large c.loop-disk.disk (inl low) (λ is. apart (sym (same_disk is))) in
    let within = c.soft_place-place.ensures.in_size in omega (arith, same, large, within)

pub add_block-requires-clause-past_log : goal.add_block-requires-clause-past_log
add_block-requires-clause-past_log g c = let after = c.soft_place-place.ensures.after_hard in omega (arith, after)

pub returns : goal.returns
returns g c = record {
  read = c.loop-disk.invariant.read;
  below = tt;
  failed = tt;
  off = c.loop-disk.invariant.off;
  value = search rules;
}

pub returns-in_err-add_block : goal.returns-in_err-add_block
returns-in_err-add_block g c = record {
  read =
      let before = c.loop-disk.invariant in
      read_failed g.R.Rack.slot_count g.R.Rack.slot g.R.Rack.told (disks_of c.args.store.now) (disks_of c.loop-disk.store) _ _ c.args.store.now c.loop-disk.store c.add_block.new.store before.read.same.disks
      c.from_residual.ensures.1 before.read c.in_err-add_block.ensures.read;
  below = err_again (λ e. e < disks_of c.args.store.now) _ _ c.from_residual.ensures.1 (subst (λ (n : ℕ). c.in_err-add_block.field-0.0 < n) c.loop-disk.invariant.read.same.disks c.in_err-add_block.ensures.below);
  failed = err_again (λ e. e ≢ c.args.skipped) _ _ c.from_residual.ensures.1 c.in_err-add_block.ensures.failed.1;
  off = off_then (Some c.args.skipped) _ _ _ c.loop-disk.invariant.off c.add_block.ensures.off;
  value = ok_never _ _ c.from_residual.result c.from_residual.ensures.1;
}
