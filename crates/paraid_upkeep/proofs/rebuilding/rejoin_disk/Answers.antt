use Rattle.std.proofs.Common.{◌+◌, ◌<◌, ◌∙◌, sym, ap, arith, inl, refl, subst, true, false, Ok, []}
use Rattle.paraid_base.specs.declared.state.Out.TheVariants.{No}
use Rattle.paraid_base.proofs.ToldLemmas.{HasRisen-sooner}
use Rattle.paraid_image.specs.Mark.{meta_after_loss}
use Rattle.paraid_txn.specs.Stores.{store_rack}
use Rattle.paraid_image.specs.Out.{named_out}
use Rattle.paraid_record.specs.declared.meta.Meta.{Meta}
use Rattle.paraid_core.proofs.AfterLemmas.{handed}
use Rattle.paraid_event.proofs.CoreServingLemmas.{two_array}
use Rattle.paraid_core.specs.Units.{IsRebuilding}
use Rattle.paraid_record.specs.declared.meta.Setup.{Setup}
use Rattle.paraid_upkeep.proofs.CommitLemmas.{few_later, few_then, few_within}
use Rattle.paraid_upkeep.proofs.OutLemmas.{known_gone, leaves_out}
use Rattle.paraid_upkeep.proofs.RebuildTurnLemmas.{counts_on, ended_halts, ended_lost, ended_told, own_epoch, part_halts}
use Rattle.paraid_upkeep.proofs.ResultLemmas.{done_not_dropped, if_err, none_done, none_done_as, of_done, of_ok, on_ok}
use Rattle.paraid_upkeep.proofs.ServiceLemmas.{in_service_then}
use Rattle.paraid_upkeep.proofs.ToldLemmas.{calls_then, calls_told}
use Rattle.paraid_event.specs.Service.{service_of}
use Rattle.paraid_rebuild.proofs.StepEventLemmas.{steps_within}
use Rattle.paraid_upkeep.proofs.FitsLemmas.{fits_lost, fits_out, out_alone}
use Rattle.paraid_upkeep.proofs.rebuilding.rejoin_disk.Goals as goal

pub commit_staged-requires : goal.commit_staged-requires
commit_staged-requires g c = record {
  can = c.requires.can;
  epoch = let e = c.requires.epoch in omega (arith, e);
}

pub returns-in_err-there : goal.returns-in_err-there
returns-in_err-there g c = record {
  serves = none_done _ c.from_residual.result _ c.from_residual.ensures.1;
  commits = none_done _ c.from_residual.result _ c.from_residual.ensures.1;
  rejoined = λ is. none_done_as _ c.from_residual.result _ _ c.from_residual.ensures.1 is;
  marked = λ is. none_done_as _ c.from_residual.result _ _ c.from_residual.ensures.1 is;
  lost = λ is. none_done_as _ c.from_residual.result _ _ c.from_residual.ensures.1 is;
  table = none_done _ c.from_residual.result _ c.from_residual.ensures.1;
  turn = λ is. none_done_as _ c.from_residual.result _ _ c.from_residual.ensures.1 is;
  event = λ is. none_done_as _ c.from_residual.result _ _ c.from_residual.ensures.1 is;
  halts =
      let a = c.args.core.now in
      handed _ c.from_residual.result _ c.from_residual.ensures.1
      (λ rebuilt windows fresh k setup p samples served energy held at fit counts.
      part_halts g.R.Rack.slot_count g.R.Rack.told a k setup p samples served energy at fit counts c.commit_staged.new.core c.args.disk rebuilt fresh 1 _ (omega arith) (c.in_err-there.ensures.in_event.loses samples served energy p.history p.low));
  calls = calls_told g.R.Rack.slot_count g.R.Rack.slot g.R.Rack.told c.args.core.now c.commit_staged.new.core _ c.commit_staged.ensures.keeps.slots c.commit_staged.ensures.keeps.spared.no_fall (c.commit_staged.ensures.moments [] 0);
  two = handed _ c.from_residual.result _ c.from_residual.ensures.1 c.in_err-there.ensures.keeps.two;
}

pub returns-then-not-there : goal.returns-then-not-there
returns-then-not-there g c =
    let a = c.args.core.now in
    let b = c.commit_staged.new.core in
    let done = c.in_ok-there.ensures in
    let not = ap Ok c.if-not-there.true in
    let meta = (done.lost not).gone in
    record {
      serves = record {
        serving = done.serves.serving;
        leaves = leaves_out g.R.Rack.slot_count g.R.Rack.slot a b c.args.disk c.requires.can.serving.ready done.serves.serving.ready (ap named_out c.requires.can.fresh) (ap (λ (m : Meta). named_out m.out) meta) c.commit_staged.ensures.keeps.slots
            (ap (λ (m : Meta). m.setup) meta) (ap (λ (m : Meta). m.version) meta) (ap (λ (m : Meta). m.writes) meta) c.commit_staged.ensures.keeps.spared;
        known = known_gone g.R.Rack.slot b c.args.disk (ap (λ (m : Meta). m.out) meta) (λ x is. inl (done.named ∙ sym (ap (λ (m : Meta). named_out m.out) meta) ∙ is));
        fits = fits_lost (g.R.Rack.slot (store_rack a.store)) (g.R.Rack.slot (store_rack b.store)) a.meta b.meta c.args.disk (a.meta.epoch + 1) c.commit_staged.ensures.keeps.spared meta (out_alone (named_out a.meta.out) c.args.disk (ap named_out c.requires.can.fresh)) done.serves.serving.ready.absent;
      };
      commits = few_within a b 1 2 (omega arith) (few_later a b 1 done.serves);
      rejoined = λ is. done_not_dropped _ _ is refl;
      marked = λ is. own_epoch (meta_after_loss a.meta c.args.disk) b.meta (a.meta.epoch + 1) meta;
      lost = λ is. record { risen = (done.lost not).failed; absent = (done.lost not).away };
      table = c.commit_staged.ensures.table;
      turn = λ is. done_not_dropped _ _ is refl;
      event = λ is samples served energy h lo.
          steps_within (g.R.Rack.told (store_rack a.store)) (g.R.Rack.told (store_rack b.store)) (service_of g.R.Rack.slot_count a samples served energy) (service_of g.R.Rack.slot_count b samples served energy) h lo 1 2 (omega arith)
          (done.in_event.event samples served energy h lo);
      halts = tt;
      calls = calls_told g.R.Rack.slot_count g.R.Rack.slot g.R.Rack.told a b _ c.commit_staged.ensures.keeps.slots c.commit_staged.ensures.keeps.spared.no_fall (c.commit_staged.ensures.moments [] 0);
      two = tt;
    }

pub come_back-requires : goal.come_back-requires
come_back-requires g c =
    let done = c.in_ok-there.ensures in
    let is = ap Ok c.if-not-there.false in
    let meta = (done.same is).meta in
    record {
      can = record {
        serving = done.serves.serving;
        fresh = subst (λ (z : Meta). IsRebuilding z c.args.disk) (sym meta) c.requires.can.fresh;
        named = done.named;
        spins = (done.same is).spins;
      };
      nothing = done.serves.nothing;
      disk = subst (λ (z : Setup). c.args.disk < z.geometry.disks) (sym (ap (λ (z : Meta). z.setup) meta)) c.requires.disk;
      epoch =
          let e = c.requires.epoch in
          let few = done.serves.few in omega (arith, e, few);
    }

pub returns : goal.returns
returns g c =
    let a = c.args.core.now in
    let m = c.commit_staged.new.core in
    let b = c.come_back.new.core in
    let d = c.args.disk in
    let r = c.come_back.result in
    let done = c.in_ok-there.ensures in
    let ended = c.come_back.ensures in
    let meta = (done.same (ap Ok c.if-not-there.false)).meta in
    let leaves = leaves_out g.R.Rack.slot_count g.R.Rack.slot a m d c.requires.can.serving.ready done.serves.serving.ready (ap named_out c.requires.can.fresh) (ap (λ (z : Meta). named_out z.out) meta ∙ ap named_out c.requires.can.fresh) c.commit_staged.ensures.keeps.slots
    (ap (λ (z : Meta). z.setup) meta) (ap (λ (z : Meta). z.version) meta) (ap (λ (z : Meta). z.writes) meta) c.commit_staged.ensures.keeps.spared in
    record {
      serves = on_ok _ _ r (λ left. in_service_then g.R.Rack.slot_count g.R.Rack.slot a m b leaves
          (λ f. left.fits (fits_out (g.R.Rack.slot (store_rack a.store)) (g.R.Rack.slot (store_rack m.store)) a.meta m.meta d m.meta.epoch a.meta.out c.commit_staged.ensures.keeps.spared meta (ap named_out c.requires.can.fresh) (ap named_out c.requires.can.fresh) done.serves.serving.ready.absent f)) left) ended.serves;
      commits = on_ok _ _ r (λ two. few_then a m b 1 1 (few_later a m 1 done.serves) two) ended.commits;
      rejoined = λ is. ended.rejoined is ∙ ap (λ (z : Meta). record z { epoch = b.meta.epoch; out = No }) meta;
      marked = λ is. ended.marked is ∙ ap (λ (z : Meta). record (meta_after_loss z d) { epoch = b.meta.epoch }) meta;
      lost = λ is. record { risen = HasRisen-sooner _ _ _ (c.commit_staged.ensures.keeps.spared.no_fall d) (ended.lost is).risen; absent = (ended.lost is).absent };
      table = on_ok _ _ r (λ table. table ∙ c.commit_staged.ensures.table) ended.table;
      turn = λ is rebuilt windows fresh few k setup p samples served energy held at fit counts.
          let left = of_done _ r true ended.serves is in
          ended_told g.R.Rack.slot_count g.R.Rack.told a k setup p samples served energy at fit counts m b d rebuilt fresh meta (done.in_event.event samples served energy p.history p.low)
          (counts_on g.R.Rack.slot_count g.R.Rack.told a k setup p samples served energy at fit counts b d rebuilt fresh (left.leaves.slots ∙ c.commit_staged.ensures.keeps.slots) (of_done _ r true ended.table is ∙ c.commit_staged.ensures.table) left.serving.copies_synced)
          true refl (of_ok _ r true ended.comes is) (ended.rejoined is) few;
      event = λ is samples served energy h lo.
          ended_lost g.R.Rack.slot_count g.R.Rack.told a m b d samples served energy h lo (ap named_out c.requires.can.fresh) (ap (λ (z : Meta). z.out) (ended.marked is))
          (done.in_event.event samples served energy h lo) false refl (of_ok _ r false ended.comes is);
      halts = if_err _ _ r (λ two loses rebuilt windows fresh k setup p samples served energy held at fit counts.
          ended_halts g.R.Rack.slot_count g.R.Rack.told a k setup p samples served energy at fit counts m b d rebuilt fresh meta (done.in_event.event samples served energy p.history p.low) two loses) ended.loses;
      calls = calls_then g.R.Rack.slot_count g.R.Rack.slot g.R.Rack.told a m b (calls_told g.R.Rack.slot_count g.R.Rack.slot g.R.Rack.told a m _ c.commit_staged.ensures.keeps.slots c.commit_staged.ensures.keeps.spared.no_fall (c.commit_staged.ensures.moments [] 0)) ended.calls;
      two = if_err _ _ r (λ two it. two_array g.R.Rack.slot_count g.R.Rack.slot a m b leaves ended.calls.no_fall two it) ended.two;
    }
