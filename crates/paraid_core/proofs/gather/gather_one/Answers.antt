use Rattle.paraid_txn.specs.Stores.{disks_of}
use Rattle.paraid_view.proofs.ReadLemmas.{read_none}
use Rattle.std.proofs.Common.{◌∙◌, None, sym, rules, arith, refl}
use Rattle.paraid_base.proofs.SumsLemmas.{others_read, others_skip}
use Rattle.paraid_base.specs.Soft.{soft_parity_disk}
use Rattle.paraid_moves.specs.MoveMetas.{copies}
use Rattle.paraid_view.specs.Reads.{seen_by}
use Rattle.paraid_core.proofs.AfterLemmas.{handed}
use Rattle.paraid_core.proofs.ErrLemmas.{none_done}
use Rattle.paraid_core.proofs.gather.gather_one.Goals as goal

pub returns-then-disk-parity : goal.returns-then-disk-parity
returns-then-disk-parity g c = record {
  read = read_none g.R.Rack.slot_count g.R.Rack.slot g.R.Rack.told (disks_of c.args.store.now) c.args.store.now;
  below = tt;
  others = λ x apart. refl;
  here = λ f shows some apart. absurd (apart (c.if-disk-parity.true ∙ c.soft_parity-parity.ensures.value));
  sums = λ f shows some sum. sum ∙ others_skip (copies (seen_by c.args.meta.now c.args.dirty.now None f) c.args.to c.args.s) (soft_parity_disk c.args.to c.args.s) c.args.disk (c.if-disk-parity.true ∙ c.soft_parity-parity.ensures.value);
}

pub returns-in_err-read_copy : goal.returns-in_err-read_copy
returns-in_err-read_copy g c = record {
  read = search rules;
  below = handed _ c.from_residual.result _ c.from_residual.ensures.1 c.in_err-read_copy.ensures.below;
  others = λ x apart. refl;
  here = none_done _ c.from_residual.result _ c.from_residual.ensures.1;
  sums = none_done _ c.from_residual.result _ c.from_residual.ensures.1;
}

pub returns : goal.returns
returns g c = record {
  read = c.in_ok-read_copy.ensures.read;
  below = tt;
  others = λ x apart. c.put.ensures.others x apart;
  here = λ f shows some apart. c.put.ensures.here ∙ c.in_ok-read_copy.ensures.value f shows some;
  sums = λ f shows some sum. others_read (copies (seen_by c.args.meta.now c.args.dirty.now None f) c.args.to c.args.s) (soft_parity_disk c.args.to c.args.s) c.args.disk _ _ _ (λ is. c.if-disk-parity.false (is ∙ sym c.soft_parity-parity.ensures.value)) sum (c.in_ok-read_copy.ensures.value f shows some) c.xor_into.ensures;
}

pub soft_parity-parity-requires : goal.soft_parity-parity-requires
soft_parity-parity-requires g c = record {
  gear = c.requires.gathers.gear;
  region = c.requires.gathers.region;
  stripe_in = c.requires.gathers.stripe;
}

pub read_copy-requires : goal.read_copy-requires
read_copy-requires g c = record {
  gathers = record {
    in_range = c.requires.gathers.in_range;
    gear = c.requires.gathers.gear;
    region = c.requires.gathers.region;
    stripe = c.requires.gathers.stripe;
    rows = c.requires.gathers.rows;
    array = c.requires.gathers.array;
    ready = c.requires.gathers.ready;
  };
  disk = c.requires.disk;
  apart = λ is. c.if-disk-parity.false (is ∙ sym c.soft_parity-parity.ensures.value);
}

pub put-requires : goal.put-requires
put-requires g c = let low = c.requires.disk in let below = c.requires.gathers.region in let high = c.args.meta.now.setup.geometry.disks_high in omega (arith, low, below, high)
