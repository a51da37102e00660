use Rattle.std.specs.Prelude.{ℕ, ◌<◌, true, false, Ok}
use Rattle.std.proofs.Common.{◌≡◌, ◌∙◌, ap, subst, Ok, Some}
use Rattle.paraid_base.proofs.ToldLemmas.{HasRisen-later, HasRisen-sooner}
use Rattle.paraid_base.specs.declared.state.Out.TheVariants.{Fresh}
use Rattle.paraid_base.specs.History.{History}
use Rattle.paraid_base.specs.States.{gone_out, rebuilt_count}
use Rattle.paraid_image.specs.Mark.{meta_after_loss}
use Rattle.paraid_image.specs.Out.{named_out}
use Rattle.paraid_rack.specs.Told.{CrashTriple, Ran}
use Rattle.paraid_record.specs.declared.meta.Meta.{Meta}
use Rattle.paraid_record.specs.declared.meta.Setup.{Setup}
use Rattle.paraid_txn.specs.Stores.{store_rack}
use Rattle.paraid_view.proofs.TwoLemmas.{spared_then}
use Rattle.paraid_core.specs.declared.staged.Core.{Core}
use Rattle.paraid_core.specs.Cores.{IsCoreHeldSinceCommit, CoreStandsFor}
use Rattle.paraid_core.specs.CoreInvariant.{AreCopiesSynced}
use Rattle.paraid_core.specs.Steps.{LeavesCore}
use Rattle.paraid_core.specs.Units.{UnitsRebuilt}
use Rattle.paraid_core.proofs.AfterLemmas.{handed}
use Rattle.paraid_core.proofs.OrderLemmas.{data_out}
use Rattle.paraid_core.proofs.StepLemmas.{held_runs_then, leaves_then, marked_from_setup, runs_end, runs_then, two_then}
use Rattle.paraid_event.specs.CoreServing.{IsCoreServing}
use Rattle.paraid_event.proofs.CoreServingLemmas.{serving_left, marked_named}
use Rattle.paraid_rebuild.proofs.ReplacingLemmas.{back_well, gone_failed, gone_stays, marked_back, marked_lost}
use Rattle.paraid_txn.specs.Uses.{EachCall}
use Rattle.paraid_core.specs.Calls.{IsDataCall}
use Rattle.paraid_rebuild.proofs.MovedLemmas.{data_settled, gone_away, stays_away}
use Rattle.paraid_rebuild.proofs.moving.move_units.Given.{Over}
use Rattle.paraid_rebuild.proofs.ResultLemmas.{back_is, gone_is}
use Rattle.paraid_rebuild.proofs.moving.move_units.Goals as goal
use Rattle.paraid_image.specs.Lost.{TellsLosses}
use Rattle.paraid_rebuild.proofs.LossLemmas.{tells_later}
use Rattle.paraid_rebuild.proofs.moving.move_units.Goals.{In_ok-settle}
use Rattle.paraid_core.proofs.ErrLemmas.{none_done, none_done_as}

pub copy_units-requires : goal.copy_units-requires
copy_units-requires g c =
    let q = c.requires in
    record {
      can = q.can;
      nothing = q.nothing;
      from = q.from;
      order = q.order;
      limit = q.limit;
    }

-- the units are copied, or the disk was lost, and the disks are synced
module _ (g : Over) (c : In_ok-settle g) where
  abbrev a : Core g.row.R.Denot g.R.Rack
  a = c.args.core.now

  abbrev b : Core g.row.R.Denot g.R.Rack
  b = c.copy_units.new.core

  abbrev d : Core g.row.R.Denot g.R.Rack
  d = c.settle.new.self

  left : LeavesCore g.R.Rack.slot_count g.R.Rack.slot a d
  left = leaves_then g.R.Rack.slot_count g.R.Rack.slot g.R.Rack.told a b c.in_ok-done.ensures.leaves d c.in_ok-settle.ensures.keeps.stays.leaves

  synced : AreCopiesSynced d.meta.setup.geometry.disks d.copied
  synced e low = c.in_ok-settle.ensures.copies_synced e (subst (λ (z : Setup). e < z.geometry.disks) (marked_from_setup b.meta d.meta c.in_ok-settle.ensures.keeps.stays.leaves.meta) low)

  serving : IsCoreServing g.R.Rack.slot_count g.R.Rack.slot d
  serving = serving_left g.R.Rack.slot_count g.R.Rack.slot a d left c.requires.can.serving synced

  stands : (h : History) (lo : ℕ) → Ran (g.R.Rack.told (store_rack a.store)) (g.R.Rack.told (store_rack d.store))
      (CrashTriple (IsCoreHeldSinceCommit g.R.Rack.slot_count a h lo) (UnitsRebuilt g.R.Rack.slot_count a h lo c.args.first) (CoreStandsFor g.R.Rack.slot_count d h lo))
  stands h lo =
      runs_then g.R.Rack.slot_count g.R.Rack.slot g.R.Rack.told a b c.in_ok-done.ensures.leaves d (UnitsRebuilt g.R.Rack.slot_count a h lo c.args.first) (CoreStandsFor g.R.Rack.slot_count b h lo) (CoreStandsFor g.R.Rack.slot_count d h lo) h lo
      (c.in_ok-done.ensures.stands h lo) (c.in_ok-settle.ensures.keeps.stays.stands h lo)

  calls : Ran (g.R.Rack.told (store_rack a.store)) (g.R.Rack.told (store_rack d.store)) (EachCall (IsDataCall a.meta.setup.geometry.disks (gone_out a.meta.out)))
  calls = data_settled a.meta b.meta b.copied (marked_from_setup a.meta b.meta c.in_ok-done.ensures.leaves.meta) (ap gone_out c.requires.can.fresh)
      (g.R.Rack.told (store_rack a.store)) (g.R.Rack.told (store_rack b.store)) (g.R.Rack.told (store_rack d.store)) c.copy_units.ensures.calls c.settle.ensures.calls

  held : (h : History) (lo : ℕ) → Ran (g.R.Rack.told (store_rack a.store)) (g.R.Rack.told (store_rack d.store))
      (CrashTriple (IsCoreHeldSinceCommit g.R.Rack.slot_count a h lo) (UnitsRebuilt g.R.Rack.slot_count a h lo c.args.first) (IsCoreHeldSinceCommit g.R.Rack.slot_count a h lo))
  held h lo = runs_end g.R.Rack.slot_count g.R.Rack.slot g.R.Rack.told a _ (UnitsRebuilt g.R.Rack.slot_count a h lo c.args.first) (CoreStandsFor g.R.Rack.slot_count d h lo) h lo (stands h lo)

pub returns-in_err-done : goal.returns-in_err-done
returns-in_err-done g c =
    let from = c.from_residual in
    record {
      serving = none_done _ from.result _ from.ensures.1;
      leaves = none_done _ from.result _ from.ensures.1;
      same = λ is. none_done_as _ from.result _ _ from.ensures.1 is;
      lost = λ is. none_done_as _ from.result _ _ from.ensures.1 is;
      keeps = record {
        slots = c.copy_units.ensures.keeps.slots;
        spared = c.copy_units.ensures.keeps.spared;
        two = handed _ from.result _ from.ensures.1 c.in_err-done.ensures.keeps.two;
      };
      calls = c.copy_units.ensures.calls;
      tells = handed _ from.result _ from.ensures.1 c.in_err-done.ensures.tells;
      copied = λ is. none_done_as _ from.result _ _ from.ensures.1 is;
      stands = none_done _ from.result _ from.ensures.1;
      moments = c.copy_units.ensures.moments;
    }

pub returns-in_err-settle : goal.returns-in_err-settle
returns-in_err-settle g c =
    let a = c.args.core.now in
    let b = c.copy_units.new.core in
    let d = c.settle.new.self in
    let was : named_out a.meta.out ≡ Some c.args.disk = ap named_out c.requires.can.fresh in
    let from = c.from_residual-in_err-settle in
    record {
      serving = none_done _ from.result _ from.ensures.1;
      leaves = none_done _ from.result _ from.ensures.1;
      same = λ is. none_done_as _ from.result _ _ from.ensures.1 is;
      lost = λ is. none_done_as _ from.result _ _ from.ensures.1 is;
      keeps = record {
        slots = c.settle.ensures.keeps.stays.losses.slots ∙ c.copy_units.ensures.keeps.slots;
        spared = spared_then (g.R.Rack.slot (store_rack c.args.core.now.store)) (g.R.Rack.slot (store_rack c.copy_units.new.core.store)) (g.R.Rack.slot (store_rack c.settle.new.self.store)) c.copy_units.ensures.keeps.spared c.settle.ensures.keeps.stays.losses.spared;
        two =
            handed _ from.result _ from.ensures.1
            (two_then g.R.Rack.slot_count g.R.Rack.slot g.R.Rack.told c.args.core.now c.copy_units.new.core c.in_ok-done.ensures.leaves c.settle.new.self c.settle.ensures.keeps.stays.losses.spared _ c.in_err-settle.ensures.keeps.stays.losses.two);
      };
      calls =
          data_settled a.meta b.meta b.copied (marked_from_setup a.meta b.meta c.in_ok-done.ensures.leaves.meta) (ap gone_out c.requires.can.fresh)
          (g.R.Rack.told (store_rack a.store)) (g.R.Rack.told (store_rack b.store)) (g.R.Rack.told (store_rack c.settle.new.self.store)) c.copy_units.ensures.calls c.settle.ensures.calls;
      tells =
          handed (λ two. Ran (g.R.Rack.told (store_rack a.store)) (g.R.Rack.told (store_rack d.store)) (λ s cs. TellsLosses (named_out a.meta.out) two cs)) from.result _ from.ensures.1
          (tells_later (g.R.Rack.told (store_rack a.store)) (g.R.Rack.told (store_rack b.store)) (g.R.Rack.told (store_rack d.store)) (named_out a.meta.out) (named_out b.meta.out) c.args.disk _
          was (marked_named a.meta b.meta c.in_ok-done.ensures.leaves.meta c.args.disk was)
          (data_out g.R.Rack.slot g.R.Rack.told g.met.R.Rack.agrees a b (marked_from_setup a.meta b.meta c.in_ok-done.ensures.leaves.meta) c.in_ok-done.ensures.leaves.ready.absent c.copy_units.ensures.calls) c.in_err-settle.ensures.keeps.stays.losses.tells);
      copied = λ is. none_done_as _ from.result _ _ from.ensures.1 is;
      stands = none_done _ from.result _ from.ensures.1;
      moments = λ h lo.
          held_runs_then g.R.Rack.slot_count g.R.Rack.slot g.R.Rack.told a b c.in_ok-done.ensures.leaves c.settle.new.self (UnitsRebuilt g.R.Rack.slot_count a h lo c.args.first) (CoreStandsFor g.R.Rack.slot_count b h lo) h lo
          (c.in_ok-done.ensures.stands h lo) (c.settle.ensures.keeps.stays.moments h lo);
    }

pub returns-then-not-done : goal.returns-then-not-done
returns-then-not-done g c =
    let a = c.args.core.now in
    let b = c.copy_units.new.core in
    let d = c.settle.new.self in
    record {
      serving = serving g c.before;
      leaves = left g c.before;
      same = λ is. let z : Ok false ≡ Ok true = is in cc;
      lost = λ is. record {
        gone = gone_stays a.meta b.meta d.meta c.args.disk ((c.in_ok-done.ensures.lost (ap Ok c.if-not-done.true)).gone) c.in_ok-settle.ensures.keeps.stays.leaves.meta;
        failed = HasRisen-later _ _ _ ((c.in_ok-done.ensures.lost (ap Ok c.if-not-done.true)).failed) (c.settle.ensures.keeps.stays.losses.spared.no_fall c.args.disk);
        away = stays_away (g.R.Rack.slot (store_rack b.store)) (g.R.Rack.slot (store_rack d.store)) c.settle.ensures.keeps.stays.losses.spared c.args.disk ((c.in_ok-done.ensures.lost (ap Ok c.if-not-done.true)).away);
      };
      keeps = record {
        slots = (left g c.before).slots;
        spared = (left g c.before).spared;
        two = tt;
      };
      calls = calls g c.before;
      tells = tt;
      copied = λ is. let z : Ok false ≡ Ok true = is in cc;
      stands = stands g c.before;
      moments = held g c.before;
    }

pub returns : goal.returns
returns g c =
    let a = c.args.core.now in
    let b = c.copy_units.new.core in
    let d = c.settle.new.self in
    let same = (c.in_ok-done.ensures.same (ap Ok c.if-not-done.false)).meta in
    let out : b.meta.out ≡ Fresh c.args.disk (rebuilt_count a.meta.out) = ap (λ (m : Meta). m.out) same ∙ c.requires.can.fresh in
    record {
      serving = serving g c.before.before;
      leaves = left g c.before.before;
      same = λ is. record {
        meta = marked_back b.meta d.meta c.in_ok-settle.ensures.keeps.stays.leaves.meta (c.is_gone.ensures.back (back_is _ is)) ∙ same;
        spins = (back_well (g.R.Rack.slot (store_rack b.store)) (g.R.Rack.slot (store_rack d.store)) b.meta d.meta c.args.disk c.in_ok-settle.ensures.keeps.stays.losses.marks (c.is_gone.ensures.back (back_is _ is))).0
            ∙ (c.in_ok-done.ensures.same (ap Ok c.if-not-done.false)).spins;
      };
      lost = λ is. record {
        gone = marked_lost b.meta d.meta c.args.disk (ap named_out out) (ap gone_out out) c.in_ok-settle.ensures.keeps.stays.leaves.meta (c.is_gone.ensures.gone (gone_is _ is)) ∙ ap (λ (m : Meta). meta_after_loss m c.args.disk) same;
        failed = HasRisen-sooner _ _ _ (c.copy_units.ensures.keeps.spared.no_fall c.args.disk)
            (gone_failed (g.R.Rack.slot (store_rack b.store)) (g.R.Rack.slot (store_rack d.store)) b.meta d.meta c.args.disk (ap named_out out) (ap gone_out out) c.in_ok-settle.ensures.keeps.stays.losses.marks (c.is_gone.ensures.gone (gone_is _ is)));
        away = gone_away (g.R.Rack.slot (store_rack b.store)) (g.R.Rack.slot (store_rack d.store)) b.meta d.meta c.args.disk (ap named_out out) (ap gone_out out) c.in_ok-settle.ensures.keeps.stays.losses.marks (c.is_gone.ensures.gone (gone_is _ is));
      };
      keeps = record {
        slots = (left g c.before.before).slots;
        spared = (left g c.before.before).spared;
        two = tt;
      };
      calls = calls g c.before.before;
      tells = tt;
      copied = λ is h lo.
          let still : d.meta.out ≡ Fresh c.args.disk (rebuilt_count a.meta.out) = ap (λ (m : Meta). m.out) (marked_back b.meta d.meta c.in_ok-settle.ensures.keeps.stays.leaves.meta (c.is_gone.ensures.back (back_is _ is))) ∙ out in
          runs_then g.R.Rack.slot_count g.R.Rack.slot g.R.Rack.told a b c.in_ok-done.ensures.leaves d (UnitsRebuilt g.R.Rack.slot_count a h lo c.args.first) (UnitsRebuilt g.R.Rack.slot_count b h lo c.args.end) (UnitsRebuilt g.R.Rack.slot_count d h lo c.args.end) h lo
          (c.in_ok-done.ensures.copied (ap Ok c.if-not-done.false) h lo) ((c.in_ok-settle.ensures.keeps.rebuilt c.args.disk (rebuilt_count a.meta.out) still).1 h lo c.args.end);
      stands = stands g c.before.before;
      moments = held g c.before.before;
    }
