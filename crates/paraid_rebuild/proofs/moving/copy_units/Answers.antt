use Rattle.std.specs.Prelude.{ℕ, ◌+◌, Option, Some, ◌<◌, ◌≤◌, true, false, Ok}
use Rattle.std.proofs.Common.{◌≡◌, ◌∙◌, sym, ap, subst, refl, arith, Ok}
use Rattle.paraid_base.proofs.ToldLemmas.{HasRisen-sooner}
use Rattle.paraid_image.specs.Mark.{meta_after_loss}
use Rattle.paraid_image.specs.Out.{named_out}
use Rattle.paraid_rack.specs.Told.{CrashTriple, Ran}
use Rattle.paraid_record.specs.declared.meta.Meta.{Meta}
use Rattle.paraid_rack.proofs.TrailsLemmas.{weaker}
use Rattle.paraid_txn.specs.Stores.{named_of, store_rack}
use Rattle.paraid_view.proofs.TwoLemmas.{spared_then}
use Rattle.paraid_core.specs.Cores.{IsCoreHeldSinceCommit, CoreStandsFor}
use Rattle.paraid_core.specs.Units.{UnitsRebuilt}
use Rattle.paraid_core.specs.CoreInvariant.{HoldsBetweenCalls}
use Rattle.paraid_core.proofs.AfterLemmas.{handed}
use Rattle.paraid_core.proofs.StepLemmas.{held_runs_then, leaves_none, leaves_then, runs_end, runs_none, runs_then, two_then}
use Rattle.paraid_txn.specs.Commit.{gone_out}
use Rattle.paraid_core.specs.Calls.{IsDataCall}
use Rattle.paraid_core.proofs.KindLemmas.{calls_none}
use Rattle.paraid_core.proofs.OrderLemmas.{data_out}
use Rattle.paraid_rebuild.proofs.MovedLemmas.{data_then}
use Rattle.paraid_image.specs.Lost.{TellsLosses}
use Rattle.paraid_rebuild.proofs.LossLemmas.{tells_later}
use Rattle.paraid_base.specs.States.{has_out, rebuilt_count}
use Rattle.paraid_rack.specs.declared.call.Power.TheVariants.{Spinning}
use Rattle.paraid_record.specs.Range.{rebuild_units}
use Rattle.paraid_rebuild.proofs.moving.copy_units.Goals as goal
use Rattle.paraid_core.proofs.ErrLemmas.{none_done, none_done_as}

pub loop-number-init : goal.loop-number-init
loop-number-init g c =
    let a = c.args.core.now in
    record {
      leaves = leaves_none g.R.Rack.slot_count g.R.Rack.slot g.R.Rack.told a c.requires.can.serving.ready c.requires.can.serving.serves.stays;
      meta = refl;
      spins = c.requires.can.spins;
      from = omega arith;
      calls = calls_none (IsDataCall a.meta.setup.geometry.disks (gone_out a.meta.out)) (g.R.Rack.told (store_rack a.store));
      copied = λ h lo. runs_none g.R.Rack.slot_count g.R.Rack.slot g.R.Rack.told a (UnitsRebuilt g.R.Rack.slot_count c.args.core.now h lo c.args.first) h lo (λ s kr. kr.keeps);
    }

pub loop-number-preserved : goal.loop-number-preserved
loop-number-preserved g c =
    let was = c.loop-number.invariant in
    let call = c.in_ok-done.ensures in
    let done = c.if-not-done.false in
    let named : named_out c.loop-number.core.meta.out ≡ Some c.args.disk = ap (λ (m : Meta). named_out m.out) was.meta ∙ ap named_out c.requires.can.fresh in
    record {
      leaves = leaves_then g.R.Rack.slot_count g.R.Rack.slot g.R.Rack.told c.args.core.now c.loop-number.core was.leaves c.rebuild_unit.new.self call.copies.leaves;
      meta = call.copies.same (ap Ok done) ∙ was.meta;
      spins = call.spins (ap Ok done) c.args.disk named;
      from = let low = was.from in omega arith;
      calls = data_then c.args.core.now.meta c.loop-number.core.meta was.meta (g.R.Rack.told (store_rack c.args.core.now.store)) (g.R.Rack.told (store_rack c.loop-number.core.store)) (g.R.Rack.told (store_rack c.rebuild_unit.new.self.store)) was.calls c.rebuild_unit.ensures.copies.calls;
      copied = λ h lo.
          runs_then g.R.Rack.slot_count g.R.Rack.slot g.R.Rack.told c.args.core.now c.loop-number.core was.leaves c.rebuild_unit.new.self (UnitsRebuilt g.R.Rack.slot_count c.args.core.now h lo c.args.first) (UnitsRebuilt g.R.Rack.slot_count c.loop-number.core h lo c.loop-number.number)
          (UnitsRebuilt g.R.Rack.slot_count c.rebuild_unit.new.self h lo (c.loop-number.number + 1)) h lo (was.copied h lo) (call.held.copied (ap Ok done) h lo);
    }

pub returns-in_err-done : goal.returns-in_err-done
returns-in_err-done g c =
    let was = c.loop-number.invariant in
    let a = c.args.core.now in
    let l = c.loop-number.core in
    let new = c.rebuild_unit.new.self in
    let from = c.from_residual in
    record {
      leaves = none_done _ from.result _ from.ensures.1;
      same = λ is. none_done_as _ from.result _ _ from.ensures.1 is;
      lost = λ is. none_done_as _ from.result _ _ from.ensures.1 is;
      keeps = record {
        slots = c.rebuild_unit.ensures.copies.losses.slots ∙ c.loop-number.invariant.leaves.slots;
        spared = spared_then (g.R.Rack.slot (store_rack c.args.core.now.store)) (g.R.Rack.slot (store_rack c.loop-number.core.store)) (g.R.Rack.slot (store_rack c.rebuild_unit.new.self.store)) c.loop-number.invariant.leaves.spared c.rebuild_unit.ensures.copies.losses.spared;
        two =
            handed _ from.result _ from.ensures.1
            (two_then g.R.Rack.slot_count g.R.Rack.slot g.R.Rack.told c.args.core.now c.loop-number.core c.loop-number.invariant.leaves c.rebuild_unit.new.self c.rebuild_unit.ensures.copies.losses.spared _ c.in_err-done.ensures.copies.losses.two);
      };
      calls = data_then c.args.core.now.meta c.loop-number.core.meta was.meta (g.R.Rack.told (store_rack c.args.core.now.store)) (g.R.Rack.told (store_rack c.loop-number.core.store)) (g.R.Rack.told (store_rack c.rebuild_unit.new.self.store)) was.calls c.rebuild_unit.ensures.copies.calls;
      tells =
          handed (λ two. Ran (g.R.Rack.told (store_rack a.store)) (g.R.Rack.told (store_rack new.store)) (λ s cs. TellsLosses (named_out a.meta.out) two cs)) from.result _ from.ensures.1
          (tells_later (g.R.Rack.told (store_rack a.store)) (g.R.Rack.told (store_rack l.store)) (g.R.Rack.told (store_rack new.store)) (named_out a.meta.out) (named_out l.meta.out) c.args.disk _
          (ap named_out c.requires.can.fresh) (ap (λ (m : Meta). named_out m.out) was.meta ∙ ap named_out c.requires.can.fresh)
          (data_out g.R.Rack.slot g.R.Rack.told g.met.R.Rack.agrees a l (ap (λ (m : Meta). m.setup) was.meta) was.leaves.ready.absent was.calls) c.in_err-done.ensures.copies.losses.tells);
      copied = λ is. none_done_as _ from.result _ _ from.ensures.1 is;
      stands = none_done _ from.result _ from.ensures.1;
      moments = λ h lo. held_runs_then g.R.Rack.slot_count g.R.Rack.slot g.R.Rack.told c.args.core.now c.loop-number.core was.leaves c.rebuild_unit.new.self (UnitsRebuilt g.R.Rack.slot_count c.args.core.now h lo c.args.first) (UnitsRebuilt g.R.Rack.slot_count c.loop-number.core h lo c.loop-number.number) h lo (was.copied h lo) (c.rebuild_unit.ensures.held.moments h lo);
    }

pub returns-then-not-done : goal.returns-then-not-done
returns-then-not-done g c =
    let was = c.loop-number.invariant in
    let named : named_out c.loop-number.core.meta.out ≡ Some c.args.disk = ap (λ (m : Meta). named_out m.out) was.meta ∙ ap named_out c.requires.can.fresh in
    record {
      leaves = leaves_then g.R.Rack.slot_count g.R.Rack.slot g.R.Rack.told c.args.core.now c.loop-number.core c.loop-number.invariant.leaves c.rebuild_unit.new.self c.in_ok-done.ensures.copies.leaves;
      same = λ is. let z : Ok false ≡ Ok true = is in cc;
      lost = λ is. record {
        gone = c.in_ok-done.ensures.gone (ap Ok c.if-not-done.true) c.args.disk named ∙ ap (λ (m : Meta). meta_after_loss m c.args.disk) was.meta;
        failed = HasRisen-sooner _ _ _ (was.leaves.spared.no_fall c.args.disk) (c.in_ok-done.ensures.failed (ap Ok c.if-not-done.true) c.args.disk named).risen;
        away = (c.in_ok-done.ensures.failed (ap Ok c.if-not-done.true) c.args.disk named).absent;
      };
      keeps = record {
        slots = c.rebuild_unit.ensures.copies.losses.slots ∙ c.loop-number.invariant.leaves.slots;
        spared = spared_then (g.R.Rack.slot (store_rack c.args.core.now.store)) (g.R.Rack.slot (store_rack c.loop-number.core.store)) (g.R.Rack.slot (store_rack c.rebuild_unit.new.self.store)) c.loop-number.invariant.leaves.spared c.rebuild_unit.ensures.copies.losses.spared;
        two = tt;
      };
      calls = data_then c.args.core.now.meta c.loop-number.core.meta was.meta (g.R.Rack.told (store_rack c.args.core.now.store)) (g.R.Rack.told (store_rack c.loop-number.core.store)) (g.R.Rack.told (store_rack c.rebuild_unit.new.self.store)) was.calls c.rebuild_unit.ensures.copies.calls;
      tells = tt;
      copied = λ is. let z : Ok false ≡ Ok true = is in cc;
      stands = λ h lo.
          runs_then g.R.Rack.slot_count g.R.Rack.slot g.R.Rack.told c.args.core.now c.loop-number.core was.leaves c.rebuild_unit.new.self (UnitsRebuilt g.R.Rack.slot_count c.args.core.now h lo c.args.first) (UnitsRebuilt g.R.Rack.slot_count c.loop-number.core h lo c.loop-number.number) (CoreStandsFor g.R.Rack.slot_count c.rebuild_unit.new.self h lo) h lo (was.copied h lo)
          (c.in_ok-done.ensures.held.lost (ap Ok c.if-not-done.true) h lo);
      moments = λ h lo. held_runs_then g.R.Rack.slot_count g.R.Rack.slot g.R.Rack.told c.args.core.now c.loop-number.core was.leaves c.rebuild_unit.new.self (UnitsRebuilt g.R.Rack.slot_count c.args.core.now h lo c.args.first) (UnitsRebuilt g.R.Rack.slot_count c.loop-number.core h lo c.loop-number.number) h lo (was.copied h lo) (c.rebuild_unit.ensures.held.moments h lo);
    }

pub returns : goal.returns
returns g c =
    let was = c.loop-number.invariant in
    let l = c.loop-number.core in
    let all : c.loop-number.number ≡ c.args.end = (let low = c.requires.order in let test = c.loop-number-test.false in let end = c.loop-number.auto.number-end in omega arith) in
    record {
      leaves = was.leaves;
      same = λ is. record {
        meta = was.meta;
        spins = was.spins;
      };
      lost = λ is. let z : Ok true ≡ Ok false = is in cc;
      keeps = record {
        slots = was.leaves.slots;
        spared = was.leaves.spared;
        two = tt;
      };
      calls = was.calls;
      tells = tt;
      copied = λ is h lo. subst (λ (z : ℕ). Ran (g.R.Rack.told (store_rack c.args.core.now.store)) (g.R.Rack.told (store_rack l.store)) (CrashTriple (IsCoreHeldSinceCommit g.R.Rack.slot_count c.args.core.now h lo) (UnitsRebuilt g.R.Rack.slot_count c.args.core.now h lo c.args.first) (UnitsRebuilt g.R.Rack.slot_count l h lo z))) all (was.copied h lo);
      stands = λ h lo.
          weaker _ _ _ (UnitsRebuilt g.R.Rack.slot_count l h lo c.loop-number.number) (CoreStandsFor g.R.Rack.slot_count l h lo) _ _ (λ s k. k)
          (λ s kf. subst (λ (z : _). HoldsBetweenCalls (g.R.Rack.slot_count (store_rack l.store)) (named_of l.store) l.meta l.dirty z l.copied h lo s) (sym (was.leaves.batch ∙ c.requires.nothing)) kf.keeps) (was.copied h lo);
      moments = λ h lo. runs_end g.R.Rack.slot_count g.R.Rack.slot g.R.Rack.told c.args.core.now _ _ _ h lo (c.loop-number.invariant.copied h lo);
    }

one_disk : (out : Option ℕ) (d disk : ℕ) → out ≡ Some disk → out ≡ Some d → disk ≡ d
one_disk out d disk named is = let z : Some disk ≡ Some d = sym named ∙ is in cc

reaches : (count first number : ℕ) → count ≤ first → first ≤ number → count ≤ number
reaches count first number low from = omega arith

below : (number end units : ℕ) → number < end → end ≤ units → number < units
below number end units low within = omega arith

pub rebuild_unit-requires : goal.rebuild_unit-requires
rebuild_unit-requires g c =
    let q = c.requires in
    let was = c.loop-number.invariant in
    let l = c.loop-number.core in
    let named : named_out l.meta.out ≡ Some c.args.disk = ap (λ (m : Meta). named_out m.out) was.meta ∙ ap named_out q.can.fresh in
    let back = sym was.meta in
    record {
      serving = record {
        ready = was.leaves.ready;
        serves = was.leaves.serves q.can.serving.serves;
      };
      no_draft = was.leaves.draft ∙ q.can.serving.draft;
      out = ap (λ (m : Meta). has_out m.out) was.meta ∙ ap has_out q.can.fresh;
      back = ap (λ (m : Meta). gone_out m.out) was.meta ∙ ap gone_out q.can.fresh;
      from = subst (λ (m : Meta). rebuilt_count m.out ≤ c.loop-number.number) back (reaches _ _ _ q.from was.from);
      unit = λ d is.
          subst (λ (x : ℕ). c.loop-number.number < rebuild_units l.meta.setup.geometry l.meta.gear x) (one_disk _ d c.args.disk named is)
          (subst (λ (m : Meta). c.loop-number.number < rebuild_units m.setup.geometry m.gear c.args.disk) back (below _ _ _ c.loop-number-test.true q.limit));
      spins = λ d is. subst (λ (x : ℕ). (g.R.Rack.slot (store_rack l.store) x).power ≡ Spinning) (one_disk _ d c.args.disk named is) was.spins;
      nothing = was.leaves.batch ∙ q.nothing;
    }
