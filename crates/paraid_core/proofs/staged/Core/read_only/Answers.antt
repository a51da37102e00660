use Rattle.std.proofs.lemmas.Result.{on_ok_weaker}
use Rattle.paraid_rack.specs.Trail.{now}
use Rattle.paraid_txn.specs.Stores.{named_of, store_rack}
use Rattle.paraid_core.proofs.ReadsLemmas.{block_read}
use Rattle.paraid_core.proofs.staged.Core.read_only.Goals as goal

pub returns : goal.returns
returns g c = record {
  reads = record {
    cells = record {
      draft = c.read_value.ensures.reads.cells.draft;
      table = c.read_value.ensures.reads.cells.table;
      cleans_less = c.read_value.ensures.reads.cells.cleans_less;
      writes = c.read_value.ensures.reads.cells.writes;
    };
    alone = record {
      stays = record {
        copied = c.read_value.ensures.reads.alone.stays.copied;
        losses = record {
          slots = c.read_value.ensures.reads.alone.stays.losses.slots;
          spared = c.read_value.ensures.reads.alone.stays.losses.spared;
          two = c.read_value.ensures.reads.alone.stays.losses.two;
          tells = c.read_value.ensures.reads.alone.stays.losses.tells;
          marks = c.read_value.ensures.reads.alone.stays.losses.marks;
        };
        ready = c.read_value.ensures.reads.alone.stays.ready;
        setup = c.read_value.ensures.reads.alone.stays.setup;
        down = c.read_value.ensures.reads.alone.stays.down;
      };
      serves = c.read_value.ensures.reads.alone.serves;
      epoch = c.read_value.ensures.reads.alone.epoch;
      still_synced = c.read_value.ensures.reads.alone.still_synced;
      calls = c.read_value.ensures.reads.alone.calls;
      reads = c.read_value.ensures.reads.alone.reads;
      named = c.read_value.ensures.reads.alone.named;
      moments_since = c.read_value.ensures.reads.alone.moments_since;
    };
    batch = c.read_value.ensures.reads.batch;
    moments = c.read_value.ensures.reads.moments;
    stands = c.read_value.ensures.reads.stands;
    since = c.read_value.ensures.reads.since;
  };
  value = on_ok_weaker c.read_value.result (λ was_so. λ h lo t tells keeps some.
      let old = c.args.self.now in
      block_read (g.R.Rack.slot_count (store_rack old.store)) (named_of old.store) old.meta old.dirty old.batch old.copied h lo (now t) keeps c.args.block c.home-r.result.0 c.home-r.result.1 _ c.requires.block c.home-r.ensures.row c.home-r.ensures.disk
      (was_so h lo t tells keeps some)) c.read_value.ensures.value;
}

pub read_value-requires : goal.read_value-requires
read_value-requires g c = record {
  serving = record {
    ready = c.requires.serving.ready;
    serves = c.requires.serving.serves;
  };
  row = c.home-r.ensures.row_in;
  disk = c.home-r.ensures.disk_in;
  no_draft = c.requires.no_draft;
}
