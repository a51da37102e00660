use Rattle.std.proofs.Common.{◌+◌, ◌∙◌, ap, arith, refl, Ok, []}
use Rattle.paraid_base.proofs.ToldLemmas.{HasRisen-later}
use Rattle.paraid_image.specs.Out.{named_out}
use Rattle.paraid_record.specs.declared.meta.Meta.{Meta}
use Rattle.paraid_txn.specs.Stores.{store_rack}
use Rattle.paraid_core.proofs.AfterLemmas.{handed}
use Rattle.paraid_upkeep.proofs.ResultLemmas.{done_not_dropped, none_done, none_done_as, none_done_if}
use Rattle.paraid_event.specs.Service.{service_of}
use Rattle.paraid_event.proofs.CoreServingLemmas.{leaves_array_then, two_array}
use Rattle.paraid_rebuild.proofs.LossLemmas.{lost_then}
use Rattle.paraid_rebuild.proofs.MovedLemmas.{stays_away}
use Rattle.paraid_rebuild.proofs.ReplacingLemmas.{again}
use Rattle.paraid_rebuild.proofs.StepEventLemmas.{steps_then}
use Rattle.paraid_upkeep.proofs.CommitLemmas.{few_one, few_then, few_within}
use Rattle.paraid_upkeep.proofs.OutLemmas.{known_gone, leaves_out}
use Rattle.paraid_upkeep.proofs.RebuildTurnLemmas.{part_halts, rebuild_gone}
use Rattle.paraid_upkeep.proofs.ToldLemmas.{calls_then, calls_told}
use Rattle.paraid_upkeep.proofs.FitsLemmas.{fits_lost, out_alone}
use Rattle.paraid_upkeep.proofs.rebuilding.end_rebuild.Goals as goal

pub commit_lost-requires : goal.commit_lost-requires
commit_lost-requires g c = record {
  serving = c.in_ok-back.ensures.serves.serving;
  out = ap (λ (m : Meta). m.out) (c.in_ok-back.ensures.marked (ap Ok c.if-back.false));
  absent = c.in_ok-back.ensures.serves.known.absent;
  epoch =
      let few = c.in_ok-back.ensures.commits.few in
      let fits = c.requires.epoch in omega (arith, few, fits);
}

pub rejoin_disk-requires : goal.rejoin_disk-requires
rejoin_disk-requires g c = record {
  can = c.requires.can;
  disk = c.requires.disk;
  epoch = let e = c.requires.epoch in omega (arith, e);
}

pub returns-in_err-back : goal.returns-in_err-back
returns-in_err-back g c = record {
  serves = none_done _ c.from_residual.result _ c.from_residual.ensures.1;
  commits = none_done _ c.from_residual.result _ c.from_residual.ensures.1;
  rejoined = λ is. none_done_as _ c.from_residual.result _ _ c.from_residual.ensures.1 is;
  marked = λ is. none_done_as _ c.from_residual.result _ _ c.from_residual.ensures.1 is;
  committed = λ is. none_done_as _ c.from_residual.result _ _ c.from_residual.ensures.1 is;
  failed = λ is. none_done_as _ c.from_residual.result _ _ c.from_residual.ensures.1 is;
  table = none_done _ c.from_residual.result _ c.from_residual.ensures.1;
  turn = none_done_if _ c.from_residual.result _ c.from_residual.ensures.1;
  halts = handed _ c.from_residual.result _ c.from_residual.ensures.1 c.in_err-back.ensures.halts;
  calls = c.rejoin_disk.ensures.calls;
  two = handed _ c.from_residual.result _ c.from_residual.ensures.1 c.in_err-back.ensures.two;
}

pub returns-then-back : goal.returns-then-back
returns-then-back g c = record {
  serves = c.in_ok-back.ensures.serves;
  commits = few_within c.args.core.now c.rejoin_disk.new.core 2 3 (omega arith) c.in_ok-back.ensures.commits;
  rejoined = λ is. c.in_ok-back.ensures.rejoined (ap Ok c.if-back.true);
  marked = λ is. done_not_dropped _ _ refl is;
  committed = λ is. done_not_dropped _ _ refl is;
  failed = λ is. done_not_dropped _ _ refl is;
  table = c.in_ok-back.ensures.table;
  turn = λ rebuilt windows fresh few. c.in_ok-back.ensures.turn (ap Ok c.if-back.true) rebuilt windows fresh few;
  halts = tt;
  calls = c.rejoin_disk.ensures.calls;
  two = tt;
}

pub returns-in_err-commit_lost : goal.returns-in_err-commit_lost
returns-in_err-commit_lost g c =
    let a = c.args.core.now in
    let b = c.rejoin_disk.new.core in
    let new = c.commit_lost.new.core in
    record {
      serves = none_done _ c.from_residual-in_err-commit_lost.result _ c.from_residual-in_err-commit_lost.ensures.1;
      commits = none_done _ c.from_residual-in_err-commit_lost.result _ c.from_residual-in_err-commit_lost.ensures.1;
      rejoined = λ is. none_done_as _ c.from_residual-in_err-commit_lost.result _ _ c.from_residual-in_err-commit_lost.ensures.1 is;
      marked = λ is. none_done_as _ c.from_residual-in_err-commit_lost.result _ _ c.from_residual-in_err-commit_lost.ensures.1 is;
      committed = λ is. none_done_as _ c.from_residual-in_err-commit_lost.result _ _ c.from_residual-in_err-commit_lost.ensures.1 is;
      failed = λ is. none_done_as _ c.from_residual-in_err-commit_lost.result _ _ c.from_residual-in_err-commit_lost.ensures.1 is;
      table = none_done _ c.from_residual-in_err-commit_lost.result _ c.from_residual-in_err-commit_lost.ensures.1;
      turn = none_done_if _ c.from_residual-in_err-commit_lost.result _ c.from_residual-in_err-commit_lost.ensures.1;
      halts =
          handed _ c.from_residual-in_err-commit_lost.result _ c.from_residual-in_err-commit_lost.ensures.1
          (λ rebuilt windows fresh k setup p samples served energy held at fit counts.
          part_halts g.R.Rack.slot_count g.R.Rack.told a k setup p samples served energy at fit counts new c.args.disk rebuilt fresh 3 _ (omega arith)
          (lost_then (g.R.Rack.told (store_rack a.store)) (g.R.Rack.told (store_rack b.store)) (g.R.Rack.told (store_rack new.store)) (service_of g.R.Rack.slot_count a samples served energy) (service_of g.R.Rack.slot_count b samples served energy)
          p.history p.low 2 1 _ (c.in_ok-back.ensures.event (ap Ok c.if-back.false) samples served energy p.history p.low) (c.in_err-commit_lost.ensures.in_event.loses samples served energy p.history p.low)));
      calls = calls_then g.R.Rack.slot_count g.R.Rack.slot g.R.Rack.told a b new c.rejoin_disk.ensures.calls (calls_told g.R.Rack.slot_count g.R.Rack.slot g.R.Rack.told b new _ c.commit_lost.ensures.keeps.slots c.commit_lost.ensures.keeps.spared.no_fall (c.commit_lost.ensures.moments [] 0));
      two = handed _ c.from_residual-in_err-commit_lost.result _ c.from_residual-in_err-commit_lost.ensures.1 (two_array g.R.Rack.slot_count g.R.Rack.slot a b new c.in_ok-back.ensures.serves.leaves c.commit_lost.ensures.keeps.spared.no_fall _ c.in_err-commit_lost.ensures.keeps.two);
    }

pub returns : goal.returns
returns g c =
    let a = c.args.core.now in
    let b = c.rejoin_disk.new.core in
    let new = c.commit_lost.new.core in
    let is = ap Ok c.if-back.false in
    let lost = c.in_ok-back.ensures in
    let done = c.in_ok-commit_lost.ensures in
    record {
      serves = record {
        serving = done.serves.serving;
        leaves =
            leaves_array_then g.R.Rack.slot_count g.R.Rack.slot a b new lost.serves.leaves
            (leaves_out g.R.Rack.slot_count g.R.Rack.slot b new c.args.disk lost.serves.serving.ready done.serves.serving.ready (ap (λ (m : Meta). named_out m.out) (lost.marked is)) (ap (λ (m : Meta). named_out m.out) done.gone)
            c.commit_lost.ensures.keeps.slots (ap (λ (m : Meta). m.setup) done.gone) (ap (λ (m : Meta). m.version) done.gone) (ap (λ (m : Meta). m.writes) done.gone) c.commit_lost.ensures.keeps.spared);
        known = known_gone g.R.Rack.slot new c.args.disk (ap (λ (m : Meta). m.out) done.gone) done.serves.absent;
        fits = λ f.
            fits_lost (g.R.Rack.slot (store_rack b.store)) (g.R.Rack.slot (store_rack new.store)) b.meta new.meta c.args.disk (b.meta.epoch + 1) c.commit_lost.ensures.keeps.spared done.gone (out_alone (named_out b.meta.out) c.args.disk (ap (λ (m : Meta). named_out m.out) (lost.marked is))) done.serves.serving.ready.absent
            (lost.serves.fits f);
      };
      commits = few_then a b new 2 1 lost.commits (few_one b new (ap (λ (m : Meta). m.epoch) done.gone));
      rejoined = λ was. done_not_dropped _ _ was refl;
      marked = λ was. again a.meta b.meta new.meta c.args.disk (lost.marked is) done.gone;
      committed = λ was. done.serves.named;
      failed = λ was. HasRisen-later _ _ _ (lost.lost is).risen (c.commit_lost.ensures.keeps.spared.no_fall c.args.disk);
      table = c.commit_lost.ensures.table ∙ lost.table;
      turn = λ rebuilt windows fresh few k setup p samples served energy held at fit counts.
          rebuild_gone g.R.Rack.slot_count g.R.Rack.told a k setup p samples served energy at fit counts new c.args.disk rebuilt fresh (c.commit_lost.ensures.keeps.slots ∙ lost.serves.leaves.slots) (c.commit_lost.ensures.table ∙ lost.table) done.serves.serving.copies_synced
          (g.R.Rack.slot (store_rack new.store)) 3 (g.met.R.Rack.agrees (store_rack new.store))
          (stays_away (g.R.Rack.slot (store_rack b.store)) (g.R.Rack.slot (store_rack new.store)) c.commit_lost.ensures.keeps.spared c.args.disk (lost.lost is).absent) (again a.meta b.meta new.meta c.args.disk (lost.marked is) done.gone) (omega arith)
          (steps_then (g.R.Rack.told (store_rack a.store)) (g.R.Rack.told (store_rack b.store)) (g.R.Rack.told (store_rack new.store)) (service_of g.R.Rack.slot_count a samples served energy) (service_of g.R.Rack.slot_count b samples served energy)
          (service_of g.R.Rack.slot_count new samples served energy) p.history p.low 2 1 (lost.event is samples served energy p.history p.low) (done.in_event.event samples served energy p.history p.low));
      halts = tt;
      calls = calls_then g.R.Rack.slot_count g.R.Rack.slot g.R.Rack.told a b new c.rejoin_disk.ensures.calls (calls_told g.R.Rack.slot_count g.R.Rack.slot g.R.Rack.told b new _ c.commit_lost.ensures.keeps.slots c.commit_lost.ensures.keeps.spared.no_fall (c.commit_lost.ensures.moments [] 0));
      two = tt;
    }
