use Rattle.std.proofs.Common.{ap, refl, arith, false, true, []}
use Rattle.paraid_base.specs.declared.state.Out.TheVariants.{Fresh}
use Rattle.paraid_image.specs.Out.{named_out}
use Rattle.paraid_record.specs.declared.meta.Meta.{Meta}
use Rattle.paraid_txn.specs.Stores.{store_rack}
use Rattle.paraid_upkeep.proofs.CommitLemmas.{few_later}
use Rattle.paraid_upkeep.proofs.OutLemmas.{known_fresh, known_gone, leaves_out}
use Rattle.paraid_upkeep.proofs.RebuildTurnLemmas.{part_halts, rebuild_gone, rebuild_moved}
use Rattle.paraid_upkeep.proofs.ResultLemmas.{either_if, either_way, if_err, of_done, on_ok}
use Rattle.paraid_upkeep.proofs.ToldLemmas.{calls_told}
use Rattle.paraid_upkeep.proofs.FitsLemmas.{fits_lost, fits_out, out_alone}
use Rattle.paraid_upkeep.proofs.rebuilding.move_units.Goals as goal

pub step-requires : goal.step-requires
step-requires g c = record {
  can = c.requires.can;
  from = c.requires.from;
  limit = c.requires.limit;
  epoch = c.requires.epoch;
}

pub returns : goal.returns
returns g c =
    let a = c.args.core.now in
    let b = c.step.new.core in
    let d = c.args.disk in
    let r = c.step.result in
    let done = c.step.ensures in
    record {
      serves =
          either_way _ r
          (λ is.
          let meta = (done.moved is).meta in
          let serving = (of_done _ r true done.serves is).serving in
          record {
            serving = serving;
            leaves = leaves_out g.R.Rack.slot_count g.R.Rack.slot a b d c.requires.can.serving.ready serving.ready (ap named_out c.requires.can.fresh) (ap (λ (m : Meta). named_out m.out) meta) done.keeps.slots
                (ap (λ (m : Meta). m.setup) meta) (ap (λ (m : Meta). m.version) meta) (ap (λ (m : Meta). m.writes) meta) done.keeps.spared;
            known = known_fresh g.R.Rack.slot b d (ap (λ (m : Meta). named_out m.out) meta) (of_done _ r true done.named is) ((done.moved is).spins);
            fits = fits_out (g.R.Rack.slot (store_rack a.store)) (g.R.Rack.slot (store_rack b.store)) a.meta b.meta d b.meta.epoch (Fresh d c.args.end) done.keeps.spared meta (ap named_out c.requires.can.fresh) refl serving.ready.absent;
          })
          (λ is.
          let meta = (done.lost is).gone in
          let serving = (of_done _ r false done.serves is).serving in
          record {
            serving = serving;
            leaves = leaves_out g.R.Rack.slot_count g.R.Rack.slot a b d c.requires.can.serving.ready serving.ready (ap named_out c.requires.can.fresh) (ap (λ (m : Meta). named_out m.out) meta) done.keeps.slots
                (ap (λ (m : Meta). m.setup) meta) (ap (λ (m : Meta). m.version) meta) (ap (λ (m : Meta). m.writes) meta) done.keeps.spared;
            known = known_gone g.R.Rack.slot b d (ap (λ (m : Meta). m.out) meta) (of_done _ r false done.absent is);
            fits = fits_lost (g.R.Rack.slot (store_rack a.store)) (g.R.Rack.slot (store_rack b.store)) a.meta b.meta d b.meta.epoch done.keeps.spared meta (out_alone (named_out a.meta.out) d (ap named_out c.requires.can.fresh)) serving.ready.absent;
          });
      commits = on_ok _ _ r (λ it. few_later a b 3 it) done.serves;
      moved = λ is. (done.moved is).meta;
      marked = λ is. (done.lost is).gone;
      committed = λ is. of_done _ r false done.named is;
      failed = λ is. (done.lost is).failed;
      table = on_ok _ _ r (λ it. it.table) done.serves;
      turn =
          either_if _ r
          (λ is rebuilt windows fresh less all k setup p samples served energy held at fit counts.
          rebuild_moved g.R.Rack.slot_count g.R.Rack.told a k setup p samples served energy at fit counts b d rebuilt fresh done.keeps.slots (of_done _ r true done.serves is).table (of_done _ r true done.serves is).serving.copies_synced c.args.end 3 all less
          ((done.moved is).meta) (omega arith) (of_done _ r true done.in_event.event is samples served energy p.history p.low))
          (λ is rebuilt windows fresh less all k setup p samples served energy held at fit counts.
          rebuild_gone g.R.Rack.slot_count g.R.Rack.told a k setup p samples served energy at fit counts b d rebuilt fresh done.keeps.slots (of_done _ r false done.serves is).table (of_done _ r false done.serves is).serving.copies_synced
          (g.R.Rack.slot (store_rack b.store)) 3 (g.met.R.Rack.agrees (store_rack b.store)) ((done.lost is).away) ((done.lost is).gone) (omega arith) (of_done _ r false done.in_event.event is samples served energy p.history p.low));
      halts = if_err _ _ r (λ two loses rebuilt windows fresh k setup p samples served energy held at fit counts.
          part_halts g.R.Rack.slot_count g.R.Rack.told a k setup p samples served energy at fit counts b d rebuilt fresh 3 two (omega arith) (loses samples served energy p.history p.low)) done.in_event.loses;
      calls = calls_told g.R.Rack.slot_count g.R.Rack.slot g.R.Rack.told a b _ done.keeps.slots done.keeps.spared.no_fall (done.moments [] 0);
      two = done.keeps.two;
    }
