use Rattle.paraid_txn.specs.Stores.{disks_of}
use Rattle.paraid_view.proofs.ReadLemmas.{read_none}
use Rattle.std.proofs.Common.{◌∙◌, sym, ap, None}
use Rattle.paraid_base.specs.Skips.{index_among}
use Rattle.paraid_view.specs.Reads.{seen_by}
use Rattle.paraid_view.proofs.ValueLemmas.{ok_map}
use Rattle.paraid_core.proofs.GatherLemmas.{copies_cell, copies_pad}
use Rattle.paraid_core.proofs.gather.read_copy.Goals as goal

pub returns-in_default : goal.returns-in_default
returns-in_default g c = record {
  read = read_none g.R.Rack.slot_count g.R.Rack.slot g.R.Rack.told (disks_of c.args.store.now) c.args.store.now;
  below = tt;
  value = λ f shows some.
      c.zero.ensures ∙ sym (copies_pad (seen_by c.args.meta.now c.args.dirty.now None f) c.args.to c.args.s c.args.disk c.index_among-index.result
      (c.index_among-index.ensures.value ∙ ap (λ p. index_among p c.args.disk) c.soft_parity.ensures.value) c.in_default.ensures.value);
}

pub returns : goal.returns
returns g c = record {
  read = c.read_value.ensures.read;
  below = c.read_value.ensures.below;
  value =
      let cell = c.in-Some.ensures.value in
      ok_map c.read_value.result (λ value f shows some. value f shows some ∙ copies_cell (seen_by c.args.meta.now c.args.dirty.now None f) c.args.to c.args.s c.args.disk c.index_among-index.result _ _
      (c.index_among-index.ensures.value ∙ ap (λ p. index_among p c.args.disk) c.soft_parity.ensures.value) cell.0 cell.1 cell.2) c.read_value.ensures.value;
}

pub soft_parity-requires : goal.soft_parity-requires
soft_parity-requires g c = record {
  gear = c.requires.gathers.gear;
  region = c.requires.gathers.region;
  stripe_in = c.requires.gathers.stripe;
}

pub index_among-index-requires : goal.index_among-index-requires
index_among-index-requires g c = record {
  apart = λ is. c.requires.apart (is ∙ c.soft_parity.ensures.value);
  below = c.requires.disk;
  parity = c.soft_parity.ensures.below;
}

pub cell_at-requires : goal.cell_at-requires
cell_at-requires g c = record {
  gear = c.requires.gathers.gear;
  region = c.requires.gathers.region;
  stripe_in = c.requires.gathers.stripe;
  index_in = c.index_among-index.ensures.low;
}

pub read_value-requires : goal.read_value-requires
read_value-requires g c = record {
  in_range = c.requires.gathers.in_range;
  row = c.in-Some.ensures.row_in;
  disk = c.in-Some.ensures.disk_in;
  rows = c.requires.gathers.rows;
  array = c.requires.gathers.array;
  ready = c.requires.gathers.ready;
}
