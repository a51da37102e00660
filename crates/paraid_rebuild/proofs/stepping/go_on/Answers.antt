use Rattle.std.specs.Prelude.{ℕ, Option, List, ◌<◌, ◌≤◌, ◌+◌, true, false, Ok}
use Rattle.std.proofs.Math.Nat.{le_trans}
use Rattle.std.proofs.Common.{◌≡◌, ◌∙◌, sym, ap, subst, arith, Ok}
use Rattle.paraid_base.proofs.ToldLemmas.{HasRisen-sooner}
use Rattle.paraid_base.specs.declared.state.Out.TheVariants.{Fresh}
use Rattle.paraid_image.specs.Mark.{meta_after_loss}
use Rattle.paraid_image.specs.Out.{named_out, or_else}
use Rattle.paraid_image.specs.Sides.{Batch}
use Rattle.paraid_record.specs.declared.meta.Meta.{Meta}
use Rattle.paraid_rack.proofs.TrailsLemmas.{weaker}
use Rattle.paraid_txn.specs.Stores.{named_of, store_rack}
use Rattle.paraid_view.proofs.TwoLemmas.{spared_then}
use Rattle.paraid_core.specs.CoreInvariant.{HoldsBetweenCalls}
use Rattle.paraid_core.specs.Cores.{CoreStandsFor, IsCoreHeldSinceCommit, core_down}
use Rattle.paraid_core.proofs.AfterLemmas.{handed}
use Rattle.paraid_event.specs.CoreServing.{RestsInShift, StandsInShift}
use Rattle.paraid_event.proofs.CoreServingLemmas.{chain, chain_held}
use Rattle.paraid_rebuild.specs.Rebuilds.{ServesLater}
use Rattle.paraid_rebuild.proofs.ReplacingLemmas.{two_since}
use Rattle.paraid_event.specs.Service.{service_of}
use Rattle.paraid_rebuild.proofs.StepEventLemmas.{steps_then, steps_within}
use Rattle.paraid_rebuild.proofs.LossLemmas.{LosesSteps, lost_then, lost_within}
use Rattle.paraid_rebuild.proofs.ResultLemmas.{err_map, on_map, two_later}
use Rattle.paraid_base.specs.History.{History}
use Rattle.paraid_rack.specs.Told.{CrashTriple, Ran}
use Rattle.paraid_event.specs.Steps.{StepsInEvent}
use Rattle.paraid_base.specs.States.{rebuilt_count}
use Rattle.paraid_core.specs.Units.{IsRebuilding}
use Rattle.paraid_record.specs.Range.{rebuild_units}
use Rattle.paraid_rebuild.proofs.stepping.go_on.Goals as goal
use Rattle.paraid_core.proofs.ErrLemmas.{none_done, none_done_as}

pub returns-in_err-there : goal.returns-in_err-there
returns-in_err-there g c =
    let a = c.args.core.now in
    let b = c.commit_staged.new.core in
    let from = c.from_residual in
    record {
      serves = none_done _ from.result _ from.ensures.1;
      named = none_done _ from.result _ from.ensures.1;
      keeps = record {
        slots = c.commit_staged.ensures.keeps.slots;
        spared = c.commit_staged.ensures.keeps.spared;
        two = handed _ from.result _ from.ensures.1 c.in_err-there.ensures.keeps.two;
      };
      moved = λ is. none_done_as _ from.result _ _ from.ensures.1 is;
      lost = λ is. none_done_as _ from.result _ _ from.ensures.1 is;
      moments = c.commit_staged.ensures.moments;
      stands = none_done _ from.result _ from.ensures.1;
      rests = λ is. none_done_as _ from.result _ _ from.ensures.1 is;
      in_event = record {
        event = none_done _ from.result _ from.ensures.1;
        loses =
            handed (LosesSteps g.R.Rack.slot_count g.R.Rack.told a b 2) from.result _ from.ensures.1
            (λ samples served energy h lo. lost_within (g.R.Rack.told (store_rack a.store)) (g.R.Rack.told (store_rack b.store)) (service_of g.R.Rack.slot_count a samples served energy) h lo _ 1 2 (omega arith)
            (c.in_err-there.ensures.in_event.loses samples served energy h lo));
      };
    }

pub returns-then-not-there : goal.returns-then-not-there
returns-then-not-there g c =
    let one = c.in_ok-there.ensures.serves.few in
    let a = c.args.core.now in
    let b = c.commit_staged.new.core in
    let e = (c.in_ok-there.ensures.lost (ap Ok c.if-not-there.true)).gone in
    record {
      serves = record {
        serving = c.in_ok-there.ensures.serves.serving;
        nothing = c.in_ok-there.ensures.serves.nothing;
        later = c.in_ok-there.ensures.serves.later;
        few = omega arith;
        table = c.commit_staged.ensures.table;
      };
      named = c.in_ok-there.ensures.named;
      keeps = record {
        slots = c.commit_staged.ensures.keeps.slots;
        spared = c.commit_staged.ensures.keeps.spared;
        two = tt;
      };
      moved = λ is. let z : Ok false ≡ Ok true = is in cc;
      lost = λ is. record {
        gone = e ∙ ap (λ (x : ℕ). record (meta_after_loss a.meta c.args.disk) { epoch = x }) (sym (ap (λ (m : Meta). m.epoch) e));
        failed = (c.in_ok-there.ensures.lost (ap Ok c.if-not-there.true)).failed;
        away = (c.in_ok-there.ensures.lost (ap Ok c.if-not-there.true)).away;
      };
      moments = c.commit_staged.ensures.moments;
      stands = λ h lo. weaker (IsCoreHeldSinceCommit g.R.Rack.slot_count a h lo) (StandsInShift g.R.Rack.slot_count a h lo) (StandsInShift g.R.Rack.slot_count a h lo) (RestsInShift g.R.Rack.slot_count b h lo) (CoreStandsFor g.R.Rack.slot_count b h lo) _ _ (λ s k. k) (λ s kf. subst (λ (z : Batch). HoldsBetweenCalls (g.R.Rack.slot_count (store_rack b.store)) (named_of b.store) b.meta b.dirty z b.copied h lo s) (sym c.in_ok-there.ensures.serves.nothing) kf.keeps) (c.in_ok-there.ensures.rests h lo);
      rests = λ is. let z : Ok false ≡ Ok true = is in cc;
      in_event = record {
        event = λ samples served energy h lo.
            steps_within (g.R.Rack.told (store_rack a.store)) (g.R.Rack.told (store_rack b.store)) (service_of g.R.Rack.slot_count a samples served energy) (service_of g.R.Rack.slot_count b samples served energy) h lo 1 2 (omega arith)
            (c.in_ok-there.ensures.in_event.event samples served energy h lo);
        loses = tt;
      };
    }

pub returns : goal.returns
returns g c =
    let one = c.in_ok-there.ensures.serves.few in
    let a = c.args.core.now in
    let b = c.commit_staged.new.core in
    let new = c.advance.new.core in
    let same = (c.in_ok-there.ensures.same (ap Ok c.if-not-there.false)).meta in
    let setup = ap (λ (m : Meta). m.setup) same in
    let named : named_of b.store ≡ named_of a.store = c.in_ok-there.ensures.named ∙ sym c.requires.can.named in
    let down : core_down b ≡ core_down a = ap (λ (o : Option ℕ). or_else o (named_out b.meta.out)) c.in_ok-there.ensures.named ∙ sym (ap (λ (o : Option ℕ). or_else o (named_out a.meta.out)) c.requires.can.named) in
    record {
      serves = on_map {Y = ServesLater a new 2} _ c.advance.ensures.serves (λ it. record {
        serving = it.serving;
        nothing = it.nothing;
        later = le_trans c.in_ok-there.ensures.serves.later it.later;
        few = two_later a.meta.epoch b.meta.epoch new.meta.epoch one it.few;
        table = it.table ∙ c.commit_staged.ensures.table;
      });
      named = c.advance.ensures.named;
      keeps = record {
        slots = c.advance.ensures.keeps.slots ∙ c.commit_staged.ensures.keeps.slots;
        spared = spared_then (g.R.Rack.slot (store_rack a.store)) (g.R.Rack.slot (store_rack b.store)) (g.R.Rack.slot (store_rack c.advance.new.core.store)) c.commit_staged.ensures.keeps.spared c.advance.ensures.keeps.spared;
        two = err_map _ c.advance.ensures.keeps.two (λ two it. (two_since (core_down a) (core_down b) (g.R.Rack.slot (store_rack a.store)) (g.R.Rack.slot (store_rack b.store)) (g.R.Rack.slot (store_rack new.store)) _ down c.commit_staged.ensures.keeps.spared.no_fall it));
      };
      moved = λ is. record {
        meta = (c.advance.ensures.moved is).meta ∙ ap (λ (m : Meta). record m { epoch = new.meta.epoch; out = Fresh c.args.disk c.args.end }) same;
        spins = (c.advance.ensures.moved is).spins;
      };
      lost = λ is. record {
        gone = (c.advance.ensures.lost is).gone ∙ ap (λ (m : Meta). record (meta_after_loss m c.args.disk) { epoch = new.meta.epoch }) same;
        failed = HasRisen-sooner _ _ _ (c.commit_staged.ensures.keeps.spared.no_fall c.args.disk) ((c.advance.ensures.lost is).failed);
        away = (c.advance.ensures.lost is).away;
      };
      moments = λ h lo. chain_held g.R.Rack.slot_count g.R.Rack.told a b c.commit_staged.ensures.keeps.slots setup named (StandsInShift g.R.Rack.slot_count a h lo) (RestsInShift g.R.Rack.slot_count b h lo) h lo _ (c.in_ok-there.ensures.rests h lo) (c.advance.ensures.stops.moments h lo);
      stands = on_map {Y = (h : History) (lo : ℕ) → Ran (g.R.Rack.told (store_rack a.store)) (g.R.Rack.told (store_rack new.store)) (CrashTriple (IsCoreHeldSinceCommit g.R.Rack.slot_count a h lo) (StandsInShift g.R.Rack.slot_count a h lo) (CoreStandsFor g.R.Rack.slot_count new h lo))} _ c.advance.ensures.stops.stands (λ it. λ h lo. chain g.R.Rack.slot_count g.R.Rack.told a b c.commit_staged.ensures.keeps.slots setup named (StandsInShift g.R.Rack.slot_count a h lo) (RestsInShift g.R.Rack.slot_count b h lo) (CoreStandsFor g.R.Rack.slot_count new h lo) h lo _ (c.in_ok-there.ensures.rests h lo) (it h lo));
      rests = λ is h lo. chain g.R.Rack.slot_count g.R.Rack.told a b c.commit_staged.ensures.keeps.slots setup named (StandsInShift g.R.Rack.slot_count a h lo) (RestsInShift g.R.Rack.slot_count b h lo) (RestsInShift g.R.Rack.slot_count new h lo) h lo _ (c.in_ok-there.ensures.rests h lo) (c.advance.ensures.stops.rests is h lo);
      in_event = record {
        event = on_map {Y = (samples : List ℕ) (served energy : ℕ) (h : History) (lo : ℕ) → Ran (g.R.Rack.told (store_rack a.store)) (g.R.Rack.told (store_rack new.store)) (StepsInEvent (service_of g.R.Rack.slot_count a samples served energy) (service_of g.R.Rack.slot_count new samples served energy) h lo 2)} _ c.advance.ensures.in_event.event (λ it. λ samples served energy h lo.
            steps_then (g.R.Rack.told (store_rack a.store)) (g.R.Rack.told (store_rack b.store)) (g.R.Rack.told (store_rack new.store)) (service_of g.R.Rack.slot_count a samples served energy) (service_of g.R.Rack.slot_count b samples served energy)
            (service_of g.R.Rack.slot_count new samples served energy) h lo 1 1 (c.in_ok-there.ensures.in_event.event samples served energy h lo) (it samples served energy h lo));
        loses = err_map {Q = LosesSteps g.R.Rack.slot_count g.R.Rack.told a new 2} _ c.advance.ensures.in_event.loses (λ two it. (λ samples served energy h lo. lost_then (g.R.Rack.told (store_rack a.store)) (g.R.Rack.told (store_rack b.store)) (g.R.Rack.told (store_rack new.store)) (service_of g.R.Rack.slot_count a samples served energy) (service_of g.R.Rack.slot_count b samples served energy)
            h lo 1 1 _ (c.in_ok-there.ensures.in_event.event samples served energy h lo) (it samples served energy h lo)));
      };
    }

room : (a top : ℕ) → a + 1 < top → a < top
room a top low = omega arith

room_then : (a b top : ℕ) → b ≤ a + 1 → a + 1 < top → b < top
room_then a b top few low = omega arith

pub commit_staged-requires : goal.commit_staged-requires
commit_staged-requires g c =
    let q = c.requires in
    record { can = q.can; epoch = room _ _ q.epoch }

pub advance-requires : goal.advance-requires
advance-requires g c =
    let q = c.requires in
    let done = c.in_ok-there.ensures in
    let a = c.args.core.now in
    let b = c.commit_staged.new.core in
    let back : record a.meta { epoch = b.meta.epoch } ≡ b.meta = sym ((done.same (ap Ok c.if-not-there.false)).meta) in
    record {
      can = record {
        serving = done.serves.serving;
        fresh = subst (λ (m : Meta). IsRebuilding m c.args.disk) back q.can.fresh;
        named = done.named;
        spins = (done.same (ap Ok c.if-not-there.false)).spins;
      };
      nothing = done.serves.nothing;
      from = subst (λ (m : Meta). rebuilt_count m.out ≤ c.args.end) back q.from;
      limit = subst (λ (m : Meta). c.args.end ≤ rebuild_units m.setup.geometry m.gear c.args.disk) back q.limit;
      epoch = room_then a.meta.epoch b.meta.epoch _ done.serves.few q.epoch;
    }
