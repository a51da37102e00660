use Rattle.std.proofs.Common.{true, false, ℕ, ◌<◌, ◌∙◌, refl, sym, ap, subst, Ok, []}
use Rattle.paraid_base.specs.declared.state.Out.TheVariants.{No}
use Rattle.paraid_base.proofs.ToldLemmas.{HasRisen-sooner}
use Rattle.paraid_image.specs.Out.{named_out}
use Rattle.paraid_record.specs.declared.meta.Meta.{Meta}
use Rattle.paraid_record.specs.declared.meta.Setup.{Setup}
use Rattle.paraid_core.proofs.AfterLemmas.{handed}
use Rattle.paraid_event.proofs.CoreServingLemmas.{two_array}
use Rattle.paraid_upkeep.specs.TickTurns.CoreComesBack.{lost}
use Rattle.paraid_upkeep.specs.TickTurns.CoreLosesComing.{finishing, untold}
use Rattle.paraid_upkeep.proofs.CommitLemmas.{few_later, few_none, few_then}
use Rattle.paraid_upkeep.proofs.OutLemmas.{known_gone, leaves_back, leaves_out}
use Rattle.paraid_upkeep.proofs.RebuildTurnLemmas.{comes_by, kept_epoch, lost_epoch, rejoined_mid}
use Rattle.paraid_upkeep.proofs.ResultLemmas.{always_ok, done_not_dropped, either_way, if_done, if_err, none_done, none_done_as, none_done_if, of_done}
use Rattle.paraid_upkeep.proofs.ServiceLemmas.{in_service_then}
use Rattle.paraid_upkeep.proofs.ToldLemmas.{calls_then, calls_told}
use Rattle.paraid_txn.specs.Stores.{store_rack}
use Rattle.paraid_upkeep.proofs.FitsLemmas.{fits_lost, fits_rejoined, out_alone}
use Rattle.paraid_upkeep.proofs.rebuilding.come_back.Goals as goal

pub finish-requires : goal.finish-requires
finish-requires g c = record {
  can = c.requires.can;
  nothing = c.requires.nothing;
  epoch = c.requires.epoch;
}

pub returns-in_err-copied : goal.returns-in_err-copied
returns-in_err-copied g c = record {
  serves = none_done _ c.from_residual.result _ c.from_residual.ensures.1;
  commits = none_done _ c.from_residual.result _ c.from_residual.ensures.1;
  rejoined = λ is. none_done_as _ c.from_residual.result _ _ c.from_residual.ensures.1 is;
  marked = λ is. none_done_as _ c.from_residual.result _ _ c.from_residual.ensures.1 is;
  lost = λ is. none_done_as _ c.from_residual.result _ _ c.from_residual.ensures.1 is;
  table = none_done _ c.from_residual.result _ c.from_residual.ensures.1;
  comes = none_done_if _ c.from_residual.result _ c.from_residual.ensures.1;
  loses = handed _ c.from_residual.result _ c.from_residual.ensures.1 (finishing c.in_err-copied.ensures.loses);
  calls = calls_told g.R.Rack.slot_count g.R.Rack.slot g.R.Rack.told c.args.core.now c.finish.new.core _ c.finish.ensures.keeps.slots c.finish.ensures.keeps.spared.no_fall (c.finish.ensures.stops.moments [] 0);
  two = handed _ c.from_residual.result _ c.from_residual.ensures.1 c.in_err-copied.ensures.keeps.two;
}

pub returns-then-not-copied : goal.returns-then-not-copied
returns-then-not-copied g c =
    let a = c.args.core.now in
    let b = c.finish.new.core in
    let done = c.in_ok-copied.ensures in
    let not = ap Ok c.if-not-copied.true in
    let meta = (done.lost not).gone in
    record {
      serves = record {
        serving = done.serves.serving;
        leaves = leaves_out g.R.Rack.slot_count g.R.Rack.slot a b c.args.disk c.requires.can.serving.ready done.serves.serving.ready (ap named_out c.requires.can.fresh) (ap (λ (m : Meta). named_out m.out) meta) done.keeps.slots
            (ap (λ (m : Meta). m.setup) meta) (ap (λ (m : Meta). m.version) meta) (ap (λ (m : Meta). m.writes) meta) c.finish.ensures.keeps.spared;
        known = known_gone g.R.Rack.slot b c.args.disk (ap (λ (m : Meta). m.out) meta) done.absent;
        fits = fits_lost (g.R.Rack.slot (store_rack a.store)) (g.R.Rack.slot (store_rack b.store)) a.meta b.meta c.args.disk b.meta.epoch c.finish.ensures.keeps.spared meta (out_alone (named_out a.meta.out) c.args.disk (ap named_out c.requires.can.fresh)) done.serves.serving.ready.absent;
      };
      commits = few_later a b 1 done.serves;
      rejoined = λ is. done_not_dropped _ _ is refl;
      marked = λ is. meta;
      lost = λ is. record { risen = (done.lost not).failed; absent = (done.lost not).away };
      table = done.serves.table;
      comes = lost refl done.event;
      loses = tt;
      calls = calls_told g.R.Rack.slot_count g.R.Rack.slot g.R.Rack.told a b _ c.finish.ensures.keeps.slots c.finish.ensures.keeps.spared.no_fall (c.finish.ensures.stops.moments [] 0);
      two = tt;
    }

pub park_back-requires : goal.park_back-requires
park_back-requires g c =
    let done = c.in_ok-copied.ensures in
    let is = ap Ok c.if-not-copied.false in
    let meta = (done.back is).meta in
    record {
      serving = done.serves.serving;
      nothing = done.serves.nothing;
      whole = ap (λ (m : Meta). m.out) meta;
      named = done.named is;
      disk = subst (λ (z : Setup). c.args.disk < z.geometry.disks) (sym (ap (λ (m : Meta). m.setup) meta)) c.requires.disk;
      spins = (done.back is).spins;
    }

pub returns : goal.returns
returns g c =
    let a = c.args.core.now in
    let b = c.finish.new.core in
    let new = c.park_back.new.core in
    let d = c.args.disk in
    let done = c.in_ok-copied.ensures in
    let meta = (done.back (ap Ok c.if-not-copied.false)).meta in
    let parked = c.park_back.ensures in
    let r = c.park_back.result in
    let leaves = leaves_back g.R.Rack.slot_count g.R.Rack.slot a b (done.named (ap Ok c.if-not-copied.false)) (ap (λ (m : Meta). m.out) meta) done.keeps.slots
    (ap (λ (m : Meta). m.setup) meta) (ap (λ (m : Meta). m.version) meta) (ap (λ (m : Meta). m.writes) meta) c.finish.ensures.keeps.spared in
    let fits = fits_rejoined (g.R.Rack.slot (store_rack a.store)) (g.R.Rack.slot (store_rack b.store)) a.meta b.meta d b.meta.epoch c.finish.ensures.keeps.spared meta (ap named_out c.requires.can.fresh) done.serves.serving.ready.absent in
    record {
      serves =
          either_way _ r
          (λ is. in_service_then g.R.Rack.slot_count g.R.Rack.slot a b new leaves (λ f. of_done _ r true parked.fits is (fits f)) (of_done _ r true parked.serves is))
          (λ is. in_service_then g.R.Rack.slot_count g.R.Rack.slot a b new leaves (λ f. of_done _ r false parked.fits is (fits f)) (of_done _ r false parked.serves is));
      commits =
          either_way _ r (λ is. few_then a b new 1 0 (few_later a b 1 done.serves) (few_none b new 0 (ap (λ (m : Meta). m.epoch) (parked.answers.same is))))
          (λ is. few_then a b new 1 0 (few_later a b 1 done.serves) (few_none b new 0 (ap (λ (m : Meta). m.epoch) (parked.marked is))));
      rejoined = λ is. kept_epoch (λ (e : ℕ). record a.meta { epoch = e; out = No }) b.meta new.meta meta (parked.answers.same is);
      marked = λ is. lost_epoch a.meta b.meta new.meta d meta (parked.marked is);
      lost = λ is. record { risen = HasRisen-sooner _ _ _ (c.finish.ensures.keeps.spared.no_fall d) (parked.answers.failed is).risen; absent = (parked.answers.failed is).absent };
      table = always_ok _ r (parked.table ∙ done.serves.table);
      comes = if_done _ _ r (λ back parks. comes_by g.R.Rack.slot_count g.R.Rack.told a new d back (record {
        mid = b;
        finishes = done.event;
        rejoined = rejoined_mid g.R.Rack.slot_count a b meta;
        parks = parks;
      })) parked.parks;
      loses = if_err _ _ r (λ two none. untold none) parked.alone;
      calls = calls_then g.R.Rack.slot_count g.R.Rack.slot g.R.Rack.told a b new (calls_told g.R.Rack.slot_count g.R.Rack.slot g.R.Rack.told a b _ c.finish.ensures.keeps.slots c.finish.ensures.keeps.spared.no_fall (c.finish.ensures.stops.moments [] 0)) parked.calls;
      two = if_err _ _ r (λ two it. two_array g.R.Rack.slot_count g.R.Rack.slot a b new leaves parked.calls.no_fall two it) parked.answers.two;
    }
