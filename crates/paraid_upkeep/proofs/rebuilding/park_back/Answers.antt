use Rattle.std.proofs.Common.{◌≡◌, ◌∙◌, Bool, ap, arith, false, inl, inr, refl, subst, sym, true, Ok, Some, ◌≤◌}
use Rattle.std.specs.Prelude.{◌<◌, ◌≢◌}
use Rattle.paraid_base.specs.declared.state.Out.TheVariants.{Gone}
use Rattle.paraid_base.specs.States.{named_out, rising_to}
use Rattle.paraid_record.specs.declared.meta.Meta.{Meta}
use Rattle.paraid_rack.specs.Disks.{is_present}
use Rattle.paraid_txn.specs.Stores.{store_rack}
use Rattle.paraid_event.specs.RebuildEnds.ParksBack.{fails, parks, stays}
use Rattle.paraid_event.proofs.CoreServingLemmas.{leaves_turned, marked_gear, none_known}
use Rattle.paraid_upkeep.specs.Service.{IsOutKnown, LeavesInService}
use Rattle.paraid_upkeep.proofs.OutLemmas.{known_gone, known_whole}
use Rattle.paraid_upkeep.proofs.RebuildTurnLemmas.{core_fails, core_parks, lost_marked, park_alone}
use Rattle.paraid_upkeep.proofs.ResultLemmas.{done_not_dropped, either_way, if_err, of_done}
use Rattle.paraid_upkeep.proofs.ServiceLemmas.{in_service_none, none_gone, serving_turned, synced_disk, unturned}
use Rattle.paraid_upkeep.proofs.ToldLemmas.{calls_none, calls_told}
use Rattle.paraid_core.proofs.StepLemmas.{marked_from_setup}
use Rattle.paraid_image.specs.Power.{power_by_gear}
use Rattle.paraid_moves.specs.MoveMetas.{meta_with_out}
use Rattle.paraid_session.specs.Powers.{FitsSlots}
use Rattle.paraid_event.specs.CoreServing.{IsCoreServing}
use Rattle.paraid_shift.proofs.PowersLemmas.{rises_same, rising_spins}
use Rattle.paraid_upkeep.proofs.FitsLemmas.{fits_but, fits_turned, gear_spins, rests_parked}
use Rattle.paraid_upkeep.proofs.rebuilding.park_back.Goals as goal

pub returns-then-disk-meta : goal.returns-then-disk-meta
returns-then-disk-meta g c = record {
  serves = in_service_none g.R.Rack.slot_count g.R.Rack.slot c.args.core.now c.requires.serving (known_whole g.R.Rack.slot c.args.core.now c.requires.whole);
  fits = λ f.
      let a = c.args.core.now in
      fits_turned (g.R.Rack.slot (store_rack a.store)) (g.R.Rack.slot (store_rack a.store)) a.meta a.meta c.args.disk (λ d apart. refl) refl refl refl (λ not. c.requires.spins ∙ gear_spins a.meta.gear c.args.disk a.meta.phase (subst (λ (m : Meta). c.args.disk < m.gear) c.meta.ensures c.if-disk-meta.true)) c.requires.serving.large f;
  answers = unturned c.args.core.now c.args.disk;
  marked = λ is. done_not_dropped _ _ refl is;
  table = refl;
  parks = λ samples served energy h lo. stays (inl (subst (λ (m : Meta). c.args.disk < m.gear) c.meta.ensures c.if-disk-meta.true)) refl refl;
  alone = tt;
  calls = calls_none g.R.Rack.slot_count g.R.Rack.slot g.R.Rack.told c.args.core.now;
}

pub returns-then-disk-rising_to : goal.returns-then-disk-rising_to
returns-then-disk-rising_to g c = record {
  serves = in_service_none g.R.Rack.slot_count g.R.Rack.slot c.args.core.now c.requires.serving (known_whole g.R.Rack.slot c.args.core.now c.requires.whole);
  fits = λ f.
      let a = c.args.core.now in
      fits_turned (g.R.Rack.slot (store_rack a.store)) (g.R.Rack.slot (store_rack a.store)) a.meta a.meta c.args.disk (λ d apart. refl) refl refl refl (λ not. c.requires.spins ∙ rising_spins a.meta.gear c.args.disk a.meta.phase (let rises = ap (λ (m : Meta). rising_to m.phase) c.meta-2.ensures in omega (arith, rises))) c.requires.serving.large f;
  answers = unturned c.args.core.now c.args.disk;
  marked = λ is. done_not_dropped _ _ refl is;
  table = refl;
  parks = λ samples served energy h lo.
      let rises = ap (λ (m : Meta). rising_to m.phase) c.meta-2.ensures in
      let under : c.args.disk < rising_to c.args.core.now.meta.phase = omega (arith, rises) in
      stays (inr under) refl refl;
  alone = tt;
  calls = calls_none g.R.Rack.slot_count g.R.Rack.slot g.R.Rack.told c.args.core.now;
}

pub park-requires : goal.park-requires
park-requires g c =
    let a = c.args.core.now in
    let q = c.requires.serving in
    let gear : a.meta.gear ≤ c.args.disk = subst (λ (m : Meta). m.gear ≤ c.args.disk) c.meta.ensures c.if-disk-meta.false in
    let low = a.meta.setup.geometry.gears_low a.meta.gear q.ready.in_range.gear in
    record {
      turn = record {
        ready = q.ready;
        still = q.serves.stays;
        disk_in = c.requires.disk;
        past_gear = gear;
        not_out = λ is. none_known a.meta c.requires.whole c.args.disk is;
        nothing = c.requires.nothing;
      };
      past_logs = omega (arith, gear, low);
      past_rise = let rises = ap (λ (m : Meta). rising_to m.phase) c.meta-2.ensures in omega (arith, rises);
      spinning = c.requires.spins;
      synced = synced_disk g.R.Rack.slot_count g.R.Rack.slot a q c.args.disk c.requires.disk (none_gone a.meta.out c.args.disk c.requires.whole) (ap is_present c.requires.spins);
    }

pub returns : goal.returns
returns g c =
    let a = c.args.core.now in
    let b = c.park.new.self in
    let d = c.args.disk in
    let r = c.park.result in
    let done = c.park.ensures in
    let serving : (back : Bool) → r ≡ Ok back → IsCoreServing g.R.Rack.slot_count g.R.Rack.slot b = λ back is.
    serving_turned g.R.Rack.slot_count g.R.Rack.slot a b c.requires.serving (of_done _ r back done.answers.meta is) done.turns.turned done.turns.staged.draft done.turns.staged.copied (of_done _ r back done.turns.ready is)
    (of_done _ r back done.serves is c.requires.serving.serves) (of_done _ r back done.turns.unsynced is c.requires.serving.unsynced) in
    let fit : (back : Bool) → r ≡ Ok back → (named_out b.meta.out ≢ Some d → (g.R.Rack.slot (store_rack b.store) d).power ≡ power_by_gear b.meta.gear b.meta.phase d)
    → FitsSlots (g.R.Rack.slot (store_rack a.store)) (meta_with_out a.meta (Gone d)) → FitsSlots (g.R.Rack.slot (store_rack b.store)) b.meta = λ back is turned.
    let marked = of_done _ r back done.answers.meta is in
    fits_turned (g.R.Rack.slot (store_rack a.store)) (g.R.Rack.slot (store_rack b.store)) a.meta b.meta d done.turns.others (marked_from_setup a.meta b.meta marked) (marked_gear a.meta b.meta marked) (rises_same a.meta b.meta marked)
    turned (serving back is).large in
    let parked : r ≡ Ok true → FitsSlots (g.R.Rack.slot (store_rack a.store)) (meta_with_out a.meta (Gone d)) → FitsSlots (g.R.Rack.slot (store_rack b.store)) b.meta = λ is.
    let same = done.answers.same is in
    fit true is (λ not. done.parked is ∙ rests_parked a.meta.gear d a.meta.phase (let gear = ap (λ (m : Meta). m.gear) c.meta.ensures in omega (arith, gear)) (let rises = ap (λ (m : Meta). rising_to m.phase) c.meta-2.ensures in omega (arith, rises))
    ∙ sym (ap (λ (m : Meta). power_by_gear m.gear m.phase d) same)) in
    let gone : r ≡ Ok false → FitsSlots (g.R.Rack.slot (store_rack a.store)) (meta_with_out a.meta (Gone d)) → FitsSlots (g.R.Rack.slot (store_rack b.store)) b.meta = λ is.
    fit false is (λ not. absurd (not (ap named_out (done.answers.gone is)))) in
    let left : (back : Bool) → r ≡ Ok back → IsOutKnown g.R.Rack.slot b → (FitsSlots (g.R.Rack.slot (store_rack a.store)) (meta_with_out a.meta (Gone d)) → FitsSlots (g.R.Rack.slot (store_rack b.store)) b.meta)
    → LeavesInService g.R.Rack.slot_count g.R.Rack.slot a b = λ back is known fits. record {
      serving = serving back is;
      leaves = leaves_turned g.R.Rack.slot_count g.R.Rack.slot a b done.turns.slots done.turns.store (of_done _ r back done.answers.meta is) done.turns.turned (of_done _ r back done.answers.risen is);
      known = known;
      fits = λ f. fits (fits_but (g.R.Rack.slot (store_rack a.store)) a.meta d c.requires.whole f);
    } in
    record {
      serves =
          either_way _ r (λ is. left true is (known_whole g.R.Rack.slot b (ap (λ (m : Meta). m.out) (done.answers.same is) ∙ c.requires.whole)) (parked is))
          (λ is. left false is (known_gone g.R.Rack.slot b d (done.answers.gone is) (of_done _ r false done.turns.absent is (known_whole g.R.Rack.slot a c.requires.whole).absent)) (gone is));
      fits = either_way _ r parked gone;
      answers = done.answers;
      marked = λ is. lost_marked a.meta b.meta d (of_done _ r false done.answers.meta is) c.requires.whole (done.answers.gone is);
      table = done.turns.staged.table;
      parks =
          either_way _ r
          (λ is samples served energy h lo.
          parks (let gear = ap (λ (m : Meta). m.gear) c.meta.ensures in omega (arith, gear)) (let rises = ap (λ (m : Meta). rising_to m.phase) c.meta-2.ensures in omega (arith, rises)) done.turns.slots (done.answers.same is)
          (core_parks g.R.Rack.slot_count g.R.Rack.told a b c.requires.nothing done.turns.staged.batch d done.calls (g.R.Rack.slot (store_rack b.store)) (g.met.R.Rack.agrees (store_rack b.store))
          (ap is_present (done.parked is)) (done.held.done is) samples served energy h lo))
          (λ is samples served energy h lo.
          fails (let gear = ap (λ (m : Meta). m.gear) c.meta.ensures in omega (arith, gear)) (let rises = ap (λ (m : Meta). rising_to m.phase) c.meta-2.ensures in omega (arith, rises)) done.turns.slots
          (lost_marked a.meta b.meta d (of_done _ r false done.answers.meta is) c.requires.whole (done.answers.gone is))
          (core_fails g.R.Rack.slot_count g.R.Rack.told a b c.requires.nothing done.turns.staged.batch d done.calls (g.R.Rack.slot (store_rack b.store)) (g.met.R.Rack.agrees (store_rack b.store))
          (ap is_present (done.answers.failed is).absent) (done.held.lost is) samples served energy h lo));
      alone = if_err _ _ r (λ two tells. park_alone (g.R.Rack.told (store_rack a.store)) (g.R.Rack.told (store_rack b.store)) d (named_out a.meta.out) two (ap named_out c.requires.whole) done.calls tells) done.answers.tells;
      calls = calls_told g.R.Rack.slot_count g.R.Rack.slot g.R.Rack.told a b _ done.turns.slots done.turns.turned.no_fall done.calls;
    }
