use Rattle.std.proofs.Common.{◌++◌, ◌≡◌, ◌∙◌, None, Some, ap, arith, rules}
use Rattle.paraid_base.proofs.SumsLemmas.{others_none}
use Rattle.paraid_base.specs.Sums.{without, xor_upto}
use Rattle.paraid_image.specs.Spot.{View}
use Rattle.paraid_image.specs.Value.{stored_value}
use Rattle.paraid_txn.specs.Stores.{disks_of, store_rack}
use Rattle.paraid_view.specs.Reads.{seen_by}
use Rattle.paraid_view.proofs.ReadLemmas.{off_none, off_then, read_failed, read_none, read_then, shows_after, told_before}
use Rattle.paraid_view.proofs.cell.read_others.Goals as goal

pub loop-d-init : goal.loop-d-init
loop-d-init g c = record {
  read = read_none g.R.Rack.slot_count g.R.Rack.slot g.R.Rack.told (disks_of c.args.store.now) c.args.store.now;
  off = off_none (Some c.args.out) (g.R.Rack.told (store_rack c.args.store.now));
  value = λ f shows some. c.zero.ensures ∙ others_none _ _;
}

pub loop-d-preserved : goal.loop-d-preserved
loop-d-preserved g c =
    let before = c.loop-d.invariant in
    let call = c.in_ok-add_near.ensures in
    record {
      read = read_then g.R.Rack.slot_count g.R.Rack.slot g.R.Rack.told (disks_of c.args.store.now) (disks_of c.loop-d.store) None c.args.store.now c.loop-d.store c.add_near.new.store before.read.same.disks before.read call.read;
      off = off_then (Some c.args.out) _ _ _ before.off c.add_near.ensures.off;
      value = λ f shows some.
          call.value f (shows_after (disks_of c.args.store.now) _ _ (c.args.batch.now ++ c.args.draft.now) f before.read.calls shows) some (before.value f shows (told_before _ _ _ call.read.calls some));
    }

pub returns-in_err-add_near : goal.returns-in_err-add_near
returns-in_err-add_near g c = record {
  read =
      let before = c.loop-d.invariant in
      read_failed g.R.Rack.slot_count g.R.Rack.slot g.R.Rack.told (disks_of c.args.store.now) (disks_of c.loop-d.store) _ _ c.args.store.now c.loop-d.store c.add_near.new.store before.read.same.disks
      c.from_residual.ensures.1 before.read c.in_err-add_near.ensures.read;
  below = search rules;
  failed = search rules;
  off = off_then (Some c.args.out) _ _ _ c.loop-d.invariant.off c.add_near.ensures.off;
  value = search rules;
}

pub returns : goal.returns
returns g c = record {
  read = search rules;
  below = search rules;
  failed = search rules;
  off = c.loop-d.invariant.off;
  value = λ f shows some.
      let v : View = seen_by c.args.meta.now c.args.dirty.now (Some c.args.out) f in
      let all : c.loop-d.d ≡ c.args.meta.now.setup.geometry.disks = omega arith in
      c.loop-d.invariant.value f shows some ∙ ap (xor_upto (without (without (stored_value v c.args.r) c.args.out) c.args.skipped)) all;
}
