use Rattle.std.specs.Prelude.{ℕ, ◌+◌, true, false}
use Rattle.std.proofs.Common.{◌≡◌, ◌∙◌, sym, ap, subst, refl, arith, Ok, ◌<◌, ◌≤◌}
use Rattle.paraid_rack.specs.Told.{CrashTriple, Ran}
use Rattle.paraid_record.specs.declared.meta.Meta.{Meta}
use Rattle.paraid_rack.proofs.TrailsLemmas.{weaker}
use Rattle.paraid_txn.specs.Stores.{named_of, store_rack}
use Rattle.paraid_view.proofs.TwoLemmas.{spared_then}
use Rattle.paraid_core.specs.Cores.{IsCoreHeldSinceCommit, CoreStandsFor}
use Rattle.paraid_core.specs.Fills.{Filled}
use Rattle.paraid_core.specs.CoreInvariant.{HoldsBetweenCalls}
use Rattle.paraid_shift.proofs.PartLemmas.{spares_done, spares_failed}
use Rattle.paraid_core.proofs.ErrLemmas.{none_done, none_done_as}
use Rattle.paraid_shift.proofs.MovingLemmas.{named_not}
use Rattle.paraid_core.proofs.KindLemmas.{calls_none, calls_then, data_same}
use Rattle.paraid_core.proofs.LostMarkLemmas.{marks_none, marks_then}
use Rattle.paraid_core.proofs.StepLemmas.{held_runs_then, leaves_none, leaves_then, runs_end, runs_none, runs_then, two_then}
use Rattle.paraid_event.specs.CoreServing.{RestsInShift}
use Rattle.paraid_image.specs.Out.{named_out}
use Rattle.paraid_shift.proofs.MovedLossLemmas.{copies_tell_then}
use Rattle.paraid_base.specs.Soft.{stripe_count}
use Rattle.paraid_base.specs.States.{phase_to}
use Rattle.paraid_shift.proofs.stripes.fill_stripes.Goals as goal

pub loop-s-init : goal.loop-s-init
loop-s-init g c =
    let a = c.args.core.now in
    let e : c.meta.result.now.fill ≡ a.meta.fill = ap (λ (m : Meta). m.fill) c.meta.ensures in
    record {
      leaves = leaves_none g.R.Rack.slot_count g.R.Rack.slot g.R.Rack.told a c.requires.can.serving.ready c.requires.can.serving.serves.stays;
      meta = refl;
      from = omega arith;
      calls = calls_none _ (g.R.Rack.told (store_rack a.store));
      marks = marks_none a.meta a.meta _ _ a.meta.epoch a.meta.writes (λ d. refl) refl;
      filled = λ h lo.
          subst (λ (z : ℕ). Ran (g.R.Rack.told (store_rack a.store)) (g.R.Rack.told (store_rack a.store)) (CrashTriple (IsCoreHeldSinceCommit g.R.Rack.slot_count a h lo) (RestsInShift g.R.Rack.slot_count a h lo) (Filled g.R.Rack.slot_count a h lo z))) (sym e)
          (runs_none g.R.Rack.slot_count g.R.Rack.slot g.R.Rack.told a (RestsInShift g.R.Rack.slot_count a h lo) h lo (λ s kf. kf.keeps));
    }

pub loop-s-preserved : goal.loop-s-preserved
loop-s-preserved g c =
    let was = c.loop-s.invariant in
    let call = c.in_ok-done.ensures in
    let done = c.if-not-done.false in
    record {
      leaves = leaves_then g.R.Rack.slot_count g.R.Rack.slot g.R.Rack.told c.args.core.now c.loop-s.core was.leaves c.fill_stripe.new.self call.copies.leaves;
      meta = call.copies.same (ap Ok done) ∙ was.meta;
      from = let low = was.from in omega arith;
      calls = calls_then _ _ _ _ was.calls (data_same c.loop-s.core.meta c.args.core.now.meta was.meta _ _ c.fill_stripe.ensures.copies.calls);
      marks = marks_then _ _ _ _ _ _ was.marks call.copies.losses.marks was.leaves.spared c.fill_stripe.ensures.copies.losses.spared;
      filled = λ h lo.
          runs_then g.R.Rack.slot_count g.R.Rack.slot g.R.Rack.told c.args.core.now c.loop-s.core was.leaves c.fill_stripe.new.self
          (RestsInShift g.R.Rack.slot_count c.args.core.now h lo) (Filled g.R.Rack.slot_count c.loop-s.core h lo c.loop-s.s)
          (Filled g.R.Rack.slot_count c.fill_stripe.new.self h lo (c.loop-s.s + 1)) h lo (was.filled h lo) (call.held.copied (ap Ok done) h lo);
    }

pub returns-in_err-done : goal.returns-in_err-done
returns-in_err-done g c =
    let a = c.args.core.now in
    let b = c.loop-s.core in
    let new = c.fill_stripe.new.self in
    let was = c.loop-s.invariant in
    let all = c.fill_stripe.ensures in
    let from = c.from_residual in
    record {
      copies = record {
        leaves = none_done _ from.result _ from.ensures.1;
        marks = none_done _ from.result _ from.ensures.1;
        stands = none_done _ from.result _ from.ensures.1;
        calls = calls_then _ _ _ _ was.calls (data_same b.meta a.meta was.meta _ _ all.copies.calls);
        moments = λ h lo.
            held_runs_then g.R.Rack.slot_count g.R.Rack.slot g.R.Rack.told a b was.leaves new (RestsInShift g.R.Rack.slot_count a h lo) (Filled g.R.Rack.slot_count b h lo c.loop-s.s) h lo (was.filled h lo) (all.held.moments h lo);
      };
      same = λ is. none_done_as _ from.result _ _ from.ensures.1 is;
      gone = λ is. none_done_as _ from.result _ _ from.ensures.1 is;
      rack = spares_failed from.result from.ensures.1 (all.copies.losses.slots ∙ was.leaves.slots)
          (spared_then (g.R.Rack.slot (store_rack a.store)) (g.R.Rack.slot (store_rack b.store)) (g.R.Rack.slot (store_rack new.store)) was.leaves.spared all.copies.losses.spared)
          (two_then g.R.Rack.slot_count g.R.Rack.slot g.R.Rack.told a b was.leaves new all.copies.losses.spared _ c.in_err-done.ensures.copies.losses.two)
          (copies_tell_then g.R.Rack.slot_count g.R.Rack.slot g.R.Rack.told g.met.R.Rack.agrees a b new _ c.requires.can.serving.ready was.marks was.calls c.in_err-done.ensures.copies.losses.tells);
      filled = λ is. none_done_as _ from.result _ _ from.ensures.1 is;
    }

pub returns-then-not-done : goal.returns-then-not-done
returns-then-not-done g c =
    let a = c.args.core.now in
    let b = c.loop-s.core in
    let new = c.fill_stripe.new.self in
    let was = c.loop-s.invariant in
    let all = c.fill_stripe.ensures in
    let done = c.in_ok-done.ensures in
    let failed = ap Ok c.if-not-done.true in
    record {
      copies = record {
        leaves = leaves_then g.R.Rack.slot_count g.R.Rack.slot g.R.Rack.told a b was.leaves new done.copies.leaves;
        marks = marks_then _ _ _ _ _ _ was.marks done.copies.losses.marks was.leaves.spared all.copies.losses.spared;
        stands = λ h lo.
            runs_then g.R.Rack.slot_count g.R.Rack.slot g.R.Rack.told a b was.leaves new (RestsInShift g.R.Rack.slot_count a h lo) (Filled g.R.Rack.slot_count b h lo c.loop-s.s) (CoreStandsFor g.R.Rack.slot_count new h lo) h lo (was.filled h lo)
            (done.held.lost failed h lo);
        calls = calls_then _ _ _ _ was.calls (data_same b.meta a.meta was.meta _ _ all.copies.calls);
        moments = λ h lo.
            held_runs_then g.R.Rack.slot_count g.R.Rack.slot g.R.Rack.told a b was.leaves new (RestsInShift g.R.Rack.slot_count a h lo) (Filled g.R.Rack.slot_count b h lo c.loop-s.s) h lo (was.filled h lo) (all.held.moments h lo);
      };
      same = λ is. let z : Ok false ≡ Ok true = is in cc;
      gone = λ is. let lost = done.failed failed in named_not new.meta.out lost.disk (ap (λ (m : Meta). named_out m.out) lost.gone);
      rack = record {
        slots = all.copies.losses.slots ∙ was.leaves.slots;
        spared = spared_then (g.R.Rack.slot (store_rack a.store)) (g.R.Rack.slot (store_rack b.store)) (g.R.Rack.slot (store_rack new.store)) was.leaves.spared all.copies.losses.spared;
        two = tt;
        loses = tt;
      };
      filled = λ is. let z : Ok false ≡ Ok true = is in cc;
    }

pub returns : goal.returns
returns g c =
    let was = c.loop-s.invariant in
    let a = c.args.core.now in
    let l = c.loop-s.core in
    let start : c.meta.result.now.fill ≡ a.meta.fill = ap (λ (m : Meta). m.fill) c.meta.ensures in
    let all : c.loop-s.s ≡ c.args.end = (let low = c.requires.stripes.from in let test = c.loop-s-test.false in let end = c.loop-s.auto.s-end in omega arith) in
    record {
      copies = record {
        leaves = was.leaves;
        marks = was.marks;
        stands = λ h lo.
            weaker _ _ _ (Filled g.R.Rack.slot_count l h lo c.loop-s.s) (CoreStandsFor g.R.Rack.slot_count l h lo) _ _ (λ s k. k)
            (λ s kf. subst (λ (z : _). HoldsBetweenCalls (g.R.Rack.slot_count (store_rack l.store)) (named_of l.store) l.meta l.dirty z l.copied h lo s) (sym (was.leaves.batch ∙ c.requires.can.nothing)) kf.keeps) (was.filled h lo);
        calls = was.calls;
        moments = λ h lo. runs_end g.R.Rack.slot_count g.R.Rack.slot g.R.Rack.told a _ _ _ h lo (was.filled h lo);
      };
      same = λ is. was.meta;
      gone = λ is. let z : Ok true ≡ Ok false = is in cc;
      rack = spares_done was.leaves;
      filled = λ is h lo.
          subst (λ (z : ℕ). Ran (g.R.Rack.told (store_rack a.store)) (g.R.Rack.told (store_rack l.store)) (CrashTriple (IsCoreHeldSinceCommit g.R.Rack.slot_count a h lo) (RestsInShift g.R.Rack.slot_count a h lo) (Filled g.R.Rack.slot_count l h lo z))) all (was.filled h lo);
    }

lower_than : (s end count : ℕ) → s < end → end ≤ count → s < count
lower_than s end count low within = omega arith

pub fill_stripe-requires : goal.fill_stripe-requires
fill_stripe-requires g c =
    let was = c.loop-s.invariant in
    let q = c.requires in
    let back = sym was.meta in
    record {
      serving = record {
        ready = was.leaves.ready;
        serves = was.leaves.serves q.can.serving.serves;
      };
      no_draft = was.leaves.draft ∙ q.can.serving.draft;
      fills = record {
        whole = ap (λ (m : Meta). m.out) was.meta ∙ q.can.whole;
        shifts = subst (λ (m : Meta). 0 < phase_to m.phase) back q.stripes.shifts;
        region = subst (λ (m : Meta). phase_to m.phase < m.setup.geometry.disks) back q.stripes.region;
        from = subst (λ (m : Meta). m.fill ≤ c.loop-s.s) back was.from;
        stripe = subst (λ (m : Meta). c.loop-s.s < stripe_count m.setup.geometry.disks m.setup.geometry.rows (phase_to m.phase)) back (lower_than _ _ _ c.loop-s-test.true q.stripes.stripe);
        nothing = was.leaves.batch ∙ q.can.nothing;
      };
    }
