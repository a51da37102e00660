use Rattle.paraid_core.proofs.AfterLemmas.{handed}
use Rattle.paraid_core.proofs.ErrLemmas.{none_done}
use Rattle.paraid_core.proofs.LeadsLemmas.{read_can}
use Rattle.std.proofs.Common.{◌++◌, ◌≡◌, ◌≢◌, ◌∙◌, None, sym, ap, arith, inl, inr, below_more, ◌<◌}
use Rattle.std.proofs.lemmas.Bool.{cases_eq}
use Rattle.paraid_base.proofs.SumsLemmas.{others_none}
use Rattle.paraid_base.specs.Soft.{soft_parity_disk}
use Rattle.paraid_base.specs.Sums.{without, xor_upto}
use Rattle.paraid_image.specs.Spot.{View}
use Rattle.paraid_moves.specs.MoveMetas.{copies}
use Rattle.paraid_txn.specs.Stores.{disks_of}
use Rattle.paraid_view.specs.Reads.{seen_by}
use Rattle.paraid_view.proofs.ReadLemmas.{read_failed, read_none, read_then, shows_after, told_before}
use Rattle.paraid_core.specs.Fills.{member}
use Rattle.paraid_core.proofs.GatherLemmas.{stripe_copy, stripe_parity}
use Rattle.paraid_core.proofs.gather.gather.Goals as goal

pub loop-disk-init : goal.loop-disk-init
loop-disk-init g c = record {
  read = read_none g.R.Rack.slot_count g.R.Rack.slot g.R.Rack.told (disks_of c.args.store.now) c.args.store.now;
  sums = λ f shows some. c.zero-sum.ensures ∙ others_none _ _;
  values = λ f shows some e l. absurd (omega arith);
}

pub returns-in_err-gather_one : goal.returns-in_err-gather_one
returns-in_err-gather_one g c = record {
  read =
      let before = c.loop-disk.invariant in
      read_failed g.R.Rack.slot_count g.R.Rack.slot g.R.Rack.told (disks_of c.args.store.now) (disks_of c.loop-disk.store) _ _ c.args.store.now c.loop-disk.store c.gather_one.new.store before.read.same.disks
      c.from_residual.ensures.1 before.read c.in_err-gather_one.ensures.read;
  below = handed (λ e. e < disks_of c.args.store.now) c.from_residual.result _ c.from_residual.ensures.1 (let low = c.in_err-gather_one.ensures.below in let same = c.loop-disk.invariant.read.same.disks in omega (arith, low, same));
  value = none_done _ c.from_residual.result _ c.from_residual.ensures.1;
}

pub loop-disk-preserved : goal.loop-disk-preserved
loop-disk-preserved g c =
    let before = c.loop-disk.invariant in
    let call = c.in_ok-gather_one.ensures in
    record {
      read = read_then g.R.Rack.slot_count g.R.Rack.slot g.R.Rack.told (disks_of c.args.store.now) (disks_of c.loop-disk.store) None c.args.store.now c.loop-disk.store c.gather_one.new.store before.read.same.disks before.read call.read;
      sums = λ f shows some.
          call.sums f (shows_after (disks_of c.args.store.now) _ _ (c.args.batch.now ++ c.args.draft.now) f before.read.calls shows) some (before.sums f shows (told_before _ _ _ call.read.calls some));
      values = λ f shows some. below_more (λ e. e ≢ soft_parity_disk c.args.to c.args.s → member c.gather_one.new.blocks e ≡ copies (seen_by c.args.meta.now c.args.dirty.now None f) c.args.to c.args.s e) c.loop-disk.disk
          (λ e l apart. call.others e (λ is. absurd (omega arith)) ∙ before.values f shows (told_before _ _ _ call.read.calls some) e l apart)
          (λ apart. call.here f (shows_after (disks_of c.args.store.now) _ _ (c.args.batch.now ++ c.args.draft.now) f before.read.calls shows) some apart);
    }

pub returns : goal.returns
returns g c = record {
  read = c.loop-disk.invariant.read;
  below = tt;
  value = λ f shows some e l.
      let v : View = seen_by c.args.meta.now c.args.dirty.now None f in
      let all : c.loop-disk.disk ≡ c.args.to = omega arith in
      elim (cases_eq e (soft_parity_disk c.args.to c.args.s)) [
        | inl is ↦
            ap (member c.put.new.blocks) (is ∙ sym c.soft_parity.ensures.value) ∙ c.put.ensures.here ∙ c.loop-disk.invariant.sums f shows some
            ∙ ap (xor_upto (without (copies v c.args.to c.args.s) (soft_parity_disk c.args.to c.args.s))) all ∙ sym (stripe_parity v c.args.to c.args.s e is)
        | inr apart ↦
            c.put.ensures.others e (λ is. apart (is ∙ c.soft_parity.ensures.value)) ∙ c.loop-disk.invariant.values f shows some e (omega arith) apart ∙ sym (stripe_copy v c.args.to c.args.s e apart)
      ];
}

pub gather_one-requires : goal.gather_one-requires
gather_one-requires g c = record {
  gathers = record {
    in_range = c.requires.gathers.in_range;
    gear = c.requires.gathers.gear;
    region = c.requires.gathers.region;
    stripe = c.requires.gathers.stripe;
    rows = c.requires.gathers.rows;
    array = c.requires.gathers.array ∙ sym c.loop-disk.invariant.read.same.disks;
    ready = read_can g.R.Rack.slot_count g.R.Rack.slot g.R.Rack.told c.args.store.now c.loop-disk.store c.args.meta.now None (disks_of c.args.store.now) c.loop-disk.invariant.read c.requires.gathers.ready;
  };
  disk = c.loop-disk-test.true;
}

pub soft_parity-requires : goal.soft_parity-requires
soft_parity-requires g c = record {
  gear = c.requires.gathers.gear;
  region = c.requires.gathers.region;
  stripe_in = c.requires.gathers.stripe;
}
