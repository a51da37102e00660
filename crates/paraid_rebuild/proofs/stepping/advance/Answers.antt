use Rattle.std.specs.Prelude.{ℕ, ◌+◌, false, ◌<◌, [], Some, List, ◌≤◌, true, Ok}
use Rattle.std.proofs.Common.{◌≡◌, ◌∙◌, sym, ap, subst, arith, Ok}
use Rattle.paraid_base.proofs.ToldLemmas.{HasRisen-sooner}
use Rattle.paraid_base.specs.declared.state.Out.TheVariants.{Fresh}
use Rattle.paraid_base.specs.States.{rebuilt_count}
use Rattle.paraid_image.specs.Mark.{meta_after_loss}
use Rattle.paraid_image.specs.Sides.{Batch}
use Rattle.paraid_record.specs.declared.meta.Meta.{Meta}
use Rattle.paraid_rack.specs.Disks.{Disks, is_present}
use Rattle.paraid_rack.proofs.TrailsLemmas.{weaker}
use Rattle.paraid_txn.specs.Stores.{named_of, store_rack}
use Rattle.paraid_view.proofs.TwoLemmas.{spared_then}
use Rattle.paraid_core.specs.CoreInvariant.{HoldsBetweenCalls}
use Rattle.paraid_core.specs.Cores.{CoreStandsFor, IsCoreHeldSinceCommit}
use Rattle.paraid_core.specs.Units.{UnitsRebuilt, IsRebuilding}
use Rattle.paraid_core.proofs.AfterLemmas.{handed}
use Rattle.paraid_core.proofs.StepLemmas.{held_runs_then, runs_then, two_then, marked_from_setup}
use Rattle.paraid_core.proofs.UnitCopyLemmas.{units_begin}
use Rattle.paraid_event.specs.CoreServing.{RestsInShift}
use Rattle.paraid_image.specs.Out.{named_out}
use Rattle.paraid_rack.specs.Trail.{now}
use Rattle.paraid_record.specs.declared.meta.Setup.{Setup}
use Rattle.paraid_event.specs.Service.{service_of}
use Rattle.paraid_event.proofs.ShownLemmas.{shown_rests}
use Rattle.paraid_rebuild.specs.Rebuilds.{HasCommitted, ServesLater}
use Rattle.paraid_rebuild.proofs.ReplacementEventLemmas.{named_there}
use Rattle.paraid_rebuild.proofs.StepEventLemmas.{copies_committed, copies_step, fresh_low, gone_told, same_told, steps_within, copies_lost}
use Rattle.paraid_rebuild.proofs.LossLemmas.{LosesSteps, copies_lost_steps, lost_within}
use Rattle.paraid_rebuild.proofs.ResultLemmas.{err_map, on_at, on_both, on_map, no_earlier, one_later}
use Rattle.paraid_base.specs.History.{History}
use Rattle.paraid_rack.specs.Told.{CrashTriple, Ran}
use Rattle.paraid_event.specs.Steps.{StepsInEvent}
use Rattle.paraid_record.specs.Range.{rebuild_units}
use Rattle.paraid_rebuild.proofs.stepping.advance.Goals as goal
use Rattle.paraid_core.proofs.ErrLemmas.{none_done, none_done_as}
use Rattle.paraid_base.specs.Log.{epoch_limit}

pub returns-in_err-copied : goal.returns-in_err-copied
returns-in_err-copied g c =
    let a = c.args.core.now in
    let b = c.move_units.new.core in
    let first : c.rebuilt-first.result ≡ rebuilt_count a.meta.out = c.rebuilt-first.ensures ∙ ap rebuilt_count c.out.ensures in
    let from = c.from_residual in
    record {
      serves = none_done _ from.result _ from.ensures.1;
      named = none_done _ from.result _ from.ensures.1;
      keeps = record {
        slots = c.move_units.ensures.keeps.slots;
        spared = c.move_units.ensures.keeps.spared;
        two = handed _ from.result _ from.ensures.1 c.in_err-copied.ensures.keeps.two;
      };
      moved = λ is. none_done_as _ from.result _ _ from.ensures.1 is;
      lost = λ is. none_done_as _ from.result _ _ from.ensures.1 is;
      stops = record {
        moments = λ h lo.
            let begins : (s : Disks) → RestsInShift g.R.Rack.slot_count a h lo s → UnitsRebuilt g.R.Rack.slot_count a h lo c.rebuilt-first.result s = (λ s k. subst (λ (z : ℕ). UnitsRebuilt g.R.Rack.slot_count a h lo z s) (sym first)
            (units_begin (g.R.Rack.slot_count (store_rack a.store)) (named_of a.store) a.meta a.dirty a.copied h lo s k)) in
            weaker (IsCoreHeldSinceCommit g.R.Rack.slot_count a h lo) (UnitsRebuilt g.R.Rack.slot_count a h lo c.rebuilt-first.result) (RestsInShift g.R.Rack.slot_count a h lo) (IsCoreHeldSinceCommit g.R.Rack.slot_count a h lo) (IsCoreHeldSinceCommit g.R.Rack.slot_count a h lo) _ _ begins (λ s k. k) (c.move_units.ensures.moments h lo);
        stands = none_done _ from.result _ from.ensures.1;
        rests = λ is. none_done_as _ from.result _ _ from.ensures.1 is;
      };
      in_event = record {
        event = none_done _ from.result _ from.ensures.1;
        loses =
            handed (LosesSteps g.R.Rack.slot_count g.R.Rack.told a b 1) from.result _ from.ensures.1
            (λ samples served energy h lo.
            let k = service_of g.R.Rack.slot_count a samples served energy in
            let begins : (s : Disks) → RestsInShift g.R.Rack.slot_count a h lo s → UnitsRebuilt g.R.Rack.slot_count a h lo c.rebuilt-first.result s = (λ s z. subst (λ (u : ℕ). UnitsRebuilt g.R.Rack.slot_count a h lo u s) (sym first)
            (units_begin (g.R.Rack.slot_count (store_rack a.store)) (named_of a.store) a.meta a.dirty a.copied h lo s z)) in
            lost_within (g.R.Rack.told (store_rack a.store)) (g.R.Rack.told (store_rack b.store)) k h lo _ 0 1 (omega arith)
            (copies_lost_steps (g.R.Rack.told (store_rack a.store)) (g.R.Rack.told (store_rack b.store)) k h lo _ (UnitsRebuilt g.R.Rack.slot_count a h lo c.rebuilt-first.result)
            (λ s z shows. begins s (shown_rests k h lo s z shows c.requires.nothing)) c.move_units.ensures.calls (c.move_units.ensures.moments h lo) c.in_err-copied.ensures.tells));
      };
    }

pub returns-then-not-copied : goal.returns-then-not-copied
returns-then-not-copied g c =
    let a = c.args.core.now in
    let b = c.move_units.new.core in
    let e = (c.in_ok-copied.ensures.lost (ap Ok c.if-not-copied.true)).gone in
    let same = ap (λ (m : Meta). m.epoch) e in
    let first : c.rebuilt-first.result ≡ rebuilt_count a.meta.out = c.rebuilt-first.ensures ∙ ap rebuilt_count c.out.ensures in
    let left = c.in_ok-copied.ensures.leaves in
    let setup = marked_from_setup a.meta b.meta left.meta in
    let names : (x : ℕ) → x < a.meta.setup.geometry.disks → is_present (g.R.Rack.slot (store_rack b.store) x).power ≡ false → named_out b.meta.out ≡ Some x = (λ x low absent. left.ready.absent x (subst (λ (z : Setup). x < z.geometry.disks) (sym setup) low) absent) in
    let gone = (c.in_ok-copied.ensures.lost (ap Ok c.if-not-copied.true)).gone in
    record {
      serves = record {
        serving = c.in_ok-copied.ensures.serving;
        nothing = c.in_ok-copied.ensures.leaves.batch ∙ c.requires.nothing;
        later = omega arith;
        few = omega arith;
        table = c.in_ok-copied.ensures.leaves.table;
      };
      named = c.in_ok-copied.ensures.leaves.same.named ∙ c.requires.can.named;
      keeps = record {
        slots = c.move_units.ensures.keeps.slots;
        spared = c.move_units.ensures.keeps.spared;
        two = tt;
      };
      moved = λ is. let z : Ok false ≡ Ok true = is in cc;
      lost = λ is. record {
        gone = e ∙ ap (λ (x : ℕ). record (meta_after_loss a.meta c.args.disk) { epoch = x }) (sym (ap (λ (m : Meta). m.epoch) e));
        failed = (c.in_ok-copied.ensures.lost (ap Ok c.if-not-copied.true)).failed;
        away = (c.in_ok-copied.ensures.lost (ap Ok c.if-not-copied.true)).away;
      };
      stops = record {
        moments = λ h lo.
            let begins : (s : Disks) → RestsInShift g.R.Rack.slot_count a h lo s → UnitsRebuilt g.R.Rack.slot_count a h lo c.rebuilt-first.result s = (λ s k. subst (λ (z : ℕ). UnitsRebuilt g.R.Rack.slot_count a h lo z s) (sym first)
            (units_begin (g.R.Rack.slot_count (store_rack a.store)) (named_of a.store) a.meta a.dirty a.copied h lo s k)) in
            weaker (IsCoreHeldSinceCommit g.R.Rack.slot_count a h lo) (UnitsRebuilt g.R.Rack.slot_count a h lo c.rebuilt-first.result) (RestsInShift g.R.Rack.slot_count a h lo) (IsCoreHeldSinceCommit g.R.Rack.slot_count a h lo) (IsCoreHeldSinceCommit g.R.Rack.slot_count a h lo) _ _ begins (λ s k. k) (c.move_units.ensures.moments h lo);
        stands = λ h lo.
            let begins : (s : Disks) → RestsInShift g.R.Rack.slot_count a h lo s → UnitsRebuilt g.R.Rack.slot_count a h lo c.rebuilt-first.result s = (λ s k. subst (λ (z : ℕ). UnitsRebuilt g.R.Rack.slot_count a h lo z s) (sym first)
            (units_begin (g.R.Rack.slot_count (store_rack a.store)) (named_of a.store) a.meta a.dirty a.copied h lo s k)) in
            weaker (IsCoreHeldSinceCommit g.R.Rack.slot_count a h lo) (UnitsRebuilt g.R.Rack.slot_count a h lo c.rebuilt-first.result) (RestsInShift g.R.Rack.slot_count a h lo) (CoreStandsFor g.R.Rack.slot_count b h lo) (CoreStandsFor g.R.Rack.slot_count b h lo) _ _ begins (λ s k. k) (c.in_ok-copied.ensures.stands h lo);
        rests = λ is. let z : Ok false ≡ Ok true = is in cc;
      };
      in_event = record {
        event = λ samples served energy h lo.
            let begins : (s : Disks) → RestsInShift g.R.Rack.slot_count a h lo s → UnitsRebuilt g.R.Rack.slot_count a h lo c.rebuilt-first.result s = (λ s k. subst (λ (z : ℕ). UnitsRebuilt g.R.Rack.slot_count a h lo z s) (sym first)
            (units_begin (g.R.Rack.slot_count (store_rack a.store)) (named_of a.store) a.meta a.dirty a.copied h lo s k)) in
            let k = service_of g.R.Rack.slot_count a samples served energy in
            let j = service_of g.R.Rack.slot_count b samples served energy in
            steps_within (g.R.Rack.told (store_rack a.store)) (g.R.Rack.told (store_rack b.store)) k j h lo 0 1 (omega arith)
            (copies_step (g.R.Rack.told (store_rack a.store)) (g.R.Rack.told (store_rack b.store)) k j h lo (UnitsRebuilt g.R.Rack.slot_count a h lo c.rebuilt-first.result) (CoreStandsFor g.R.Rack.slot_count b h lo)
            (λ s z shows. begins s (shown_rests k h lo s z shows c.requires.nothing)) c.move_units.ensures.calls (c.in_ok-copied.ensures.stands h lo)
            (gone_told (g.R.Rack.told (store_rack b.store)) (g.R.Rack.slot (store_rack b.store)) (g.met.R.Rack.agrees (store_rack b.store)) a.meta b.meta c.args.disk gone
            (fresh_low a.meta c.args.disk (rebuilt_count a.meta.out) c.requires.can.serving.ready.in_range c.requires.can.fresh) (ap named_out c.requires.can.fresh) ((c.in_ok-copied.ensures.lost (ap Ok c.if-not-copied.true)).away) names)
            left.slots (λ t tells x. x));
        loses = tt;
      };
    }

pub returns : goal.returns
returns g c =
    let a = c.args.core.now in
    let b = c.move_units.new.core in
    let new = c.mark_units.new.core in
    let same = (c.in_ok-copied.ensures.same (ap Ok c.if-not-copied.false)).meta in
    let one = ap (λ (m : Meta). m.epoch) same in
    let first : c.rebuilt-first.result ≡ rebuilt_count a.meta.out = c.rebuilt-first.ensures ∙ ap rebuilt_count c.out.ensures in
    let left = c.in_ok-copied.ensures.leaves in
    let setup = marked_from_setup a.meta b.meta left.meta in
    let names : (x : ℕ) → x < a.meta.setup.geometry.disks → is_present (g.R.Rack.slot (store_rack b.store) x).power ≡ false → named_out b.meta.out ≡ Some x = (λ x low absent. left.ready.absent x (subst (λ (z : Setup). x < z.geometry.disks) (sym setup) low) absent) in
    let out : b.meta.out ≡ Fresh c.args.disk (rebuilt_count a.meta.out) = ap (λ (m : Meta). m.out) same ∙ c.requires.can.fresh in
    let spins = (c.in_ok-copied.ensures.same (ap Ok c.if-not-copied.false)).spins in
    let nothing : b.batch ≡ [] = left.batch ∙ c.requires.nothing in
    record {
      serves = on_both {Z = ServesLater a new 1} _ c.mark_units.ensures.serves c.mark_units.ensures.epoch (λ it next. record {
        serving = it.serving;
        nothing = it.nothing;
        later = no_earlier a.meta.epoch b.meta.epoch new.meta.epoch one next;
        few = one_later a.meta.epoch b.meta.epoch new.meta.epoch one next;
        table = c.mark_units.ensures.table ∙ left.table;
      });
      named = on_map {X = HasCommitted new (Some c.args.disk)} _ c.mark_units.ensures.serves (λ it. it.named);
      keeps = record {
        slots = c.mark_units.ensures.keeps.slots ∙ c.move_units.ensures.keeps.slots;
        spared = spared_then (g.R.Rack.slot (store_rack a.store)) (g.R.Rack.slot (store_rack b.store)) (g.R.Rack.slot (store_rack c.mark_units.new.core.store)) c.move_units.ensures.keeps.spared c.mark_units.ensures.keeps.spared;
        two = err_map _ c.mark_units.ensures.keeps.two (λ two it. (two_then g.R.Rack.slot_count g.R.Rack.slot g.R.Rack.told c.args.core.now c.move_units.new.core c.in_ok-copied.ensures.leaves c.mark_units.new.core c.mark_units.ensures.keeps.spared _ it));
      };
      moved = λ is. record {
        meta = let e = (c.mark_units.ensures.marked is).meta ∙ ap (λ (m : Meta). record m { epoch = m.epoch + 1; out = Fresh c.args.disk c.args.end }) same in
            e ∙ ap (λ (x : ℕ). record a.meta { epoch = x; out = Fresh c.args.disk c.args.end }) (sym (ap (λ (m : Meta). m.epoch) e));
        spins = (c.mark_units.ensures.marked is).spins;
      };
      lost = λ is. record {
        gone = let e = (c.mark_units.ensures.lost is).gone ∙ ap (λ (m : Meta). record (meta_after_loss m c.args.disk) { epoch = m.epoch + 1 }) same in
            e ∙ ap (λ (x : ℕ). record (meta_after_loss a.meta c.args.disk) { epoch = x }) (sym (ap (λ (m : Meta). m.epoch) e));
        failed = HasRisen-sooner _ _ _ (c.move_units.ensures.keeps.spared.no_fall c.args.disk) ((c.mark_units.ensures.lost is).failed);
        away = (c.mark_units.ensures.lost is).away;
      };
      stops = record {
        moments = λ h lo.
            let begins : (s : Disks) → RestsInShift g.R.Rack.slot_count a h lo s → UnitsRebuilt g.R.Rack.slot_count a h lo c.rebuilt-first.result s = (λ s k. subst (λ (z : ℕ). UnitsRebuilt g.R.Rack.slot_count a h lo z s) (sym first)
            (units_begin (g.R.Rack.slot_count (store_rack a.store)) (named_of a.store) a.meta a.dirty a.copied h lo s k)) in
            let one = weaker (IsCoreHeldSinceCommit g.R.Rack.slot_count a h lo) (UnitsRebuilt g.R.Rack.slot_count a h lo c.rebuilt-first.result) (RestsInShift g.R.Rack.slot_count a h lo) (UnitsRebuilt g.R.Rack.slot_count b h lo c.args.end) (UnitsRebuilt g.R.Rack.slot_count b h lo c.args.end) _ _ begins (λ s k. k) (c.in_ok-copied.ensures.copied (ap Ok c.if-not-copied.false) h lo) in
            held_runs_then g.R.Rack.slot_count g.R.Rack.slot g.R.Rack.told a b c.in_ok-copied.ensures.leaves new (RestsInShift g.R.Rack.slot_count a h lo) (UnitsRebuilt g.R.Rack.slot_count b h lo c.args.end) h lo one (c.mark_units.ensures.moments h lo);
        stands = on_both {Z = (h : History) (lo : ℕ) → Ran (g.R.Rack.told (store_rack a.store)) (g.R.Rack.told (store_rack new.store)) (CrashTriple (IsCoreHeldSinceCommit g.R.Rack.slot_count a h lo) (RestsInShift g.R.Rack.slot_count a h lo) (CoreStandsFor g.R.Rack.slot_count new h lo))} _ c.mark_units.ensures.serves c.mark_units.ensures.rests (λ it also. λ h lo.
            let begins : (s : Disks) → RestsInShift g.R.Rack.slot_count a h lo s → UnitsRebuilt g.R.Rack.slot_count a h lo c.rebuilt-first.result s = (λ s k. subst (λ (z : ℕ). UnitsRebuilt g.R.Rack.slot_count a h lo z s) (sym first)
            (units_begin (g.R.Rack.slot_count (store_rack a.store)) (named_of a.store) a.meta a.dirty a.copied h lo s k)) in
            let one = weaker (IsCoreHeldSinceCommit g.R.Rack.slot_count a h lo) (UnitsRebuilt g.R.Rack.slot_count a h lo c.rebuilt-first.result) (RestsInShift g.R.Rack.slot_count a h lo) (UnitsRebuilt g.R.Rack.slot_count b h lo c.args.end) (UnitsRebuilt g.R.Rack.slot_count b h lo c.args.end) _ _ begins (λ s k. k) (c.in_ok-copied.ensures.copied (ap Ok c.if-not-copied.false) h lo) in
            weaker (IsCoreHeldSinceCommit g.R.Rack.slot_count a h lo) (RestsInShift g.R.Rack.slot_count a h lo) (RestsInShift g.R.Rack.slot_count a h lo) (RestsInShift g.R.Rack.slot_count new h lo) (CoreStandsFor g.R.Rack.slot_count new h lo) _ _ (λ s k. k)
            (λ s kf. subst (λ (z : Batch). HoldsBetweenCalls (g.R.Rack.slot_count (store_rack new.store)) (named_of new.store) new.meta new.dirty z new.copied h lo s) (sym it.nothing) kf.keeps)
            (runs_then g.R.Rack.slot_count g.R.Rack.slot g.R.Rack.told a b c.in_ok-copied.ensures.leaves new (RestsInShift g.R.Rack.slot_count a h lo) (UnitsRebuilt g.R.Rack.slot_count b h lo c.args.end) (RestsInShift g.R.Rack.slot_count new h lo) h lo one (also h lo)));
        rests = λ is h lo.
            let begins : (s : Disks) → RestsInShift g.R.Rack.slot_count a h lo s → UnitsRebuilt g.R.Rack.slot_count a h lo c.rebuilt-first.result s = (λ s k. subst (λ (z : ℕ). UnitsRebuilt g.R.Rack.slot_count a h lo z s) (sym first)
            (units_begin (g.R.Rack.slot_count (store_rack a.store)) (named_of a.store) a.meta a.dirty a.copied h lo s k)) in
            let one = weaker (IsCoreHeldSinceCommit g.R.Rack.slot_count a h lo) (UnitsRebuilt g.R.Rack.slot_count a h lo c.rebuilt-first.result) (RestsInShift g.R.Rack.slot_count a h lo) (UnitsRebuilt g.R.Rack.slot_count b h lo c.args.end) (UnitsRebuilt g.R.Rack.slot_count b h lo c.args.end) _ _ begins (λ s k. k) (c.in_ok-copied.ensures.copied (ap Ok c.if-not-copied.false) h lo) in
            runs_then g.R.Rack.slot_count g.R.Rack.slot g.R.Rack.told a b c.in_ok-copied.ensures.leaves new (RestsInShift g.R.Rack.slot_count a h lo) (UnitsRebuilt g.R.Rack.slot_count b h lo c.args.end) (RestsInShift g.R.Rack.slot_count new h lo) h lo one ((on_at _ _ is c.mark_units.ensures.rests) h lo);
      };
      in_event = record {
        event = on_map {Y = (samples : List ℕ) (served energy : ℕ) (h : History) (lo : ℕ) → Ran (g.R.Rack.told (store_rack a.store)) (g.R.Rack.told (store_rack new.store)) (StepsInEvent (service_of g.R.Rack.slot_count a samples served energy) (service_of g.R.Rack.slot_count new samples served energy) h lo 1)} _ c.mark_units.ensures.event (λ it. λ samples served energy h lo.
            let begins : (s : Disks) → RestsInShift g.R.Rack.slot_count a h lo s → UnitsRebuilt g.R.Rack.slot_count a h lo c.rebuilt-first.result s = (λ s k. subst (λ (z : ℕ). UnitsRebuilt g.R.Rack.slot_count a h lo z s) (sym first)
            (units_begin (g.R.Rack.slot_count (store_rack a.store)) (named_of a.store) a.meta a.dirty a.copied h lo s k)) in
            let k = service_of g.R.Rack.slot_count a samples served energy in
            let j = service_of g.R.Rack.slot_count b samples served energy in
            let marked = it samples served energy h lo in
            copies_committed (g.R.Rack.told (store_rack a.store)) (g.R.Rack.told (store_rack b.store)) k j h lo (UnitsRebuilt g.R.Rack.slot_count a h lo c.rebuilt-first.result) (UnitsRebuilt g.R.Rack.slot_count b h lo c.args.end)
            (λ s z shows. begins s (shown_rests k h lo s z shows c.requires.nothing)) c.move_units.ensures.calls (c.in_ok-copied.ensures.copied (ap Ok c.if-not-copied.false) h lo)
            (same_told (g.R.Rack.told (store_rack b.store)) (g.R.Rack.slot (store_rack b.store)) (g.met.R.Rack.agrees (store_rack b.store)) a.meta b.meta same names
            (named_there (g.R.Rack.slot (store_rack b.store)) b.meta c.args.disk (rebuilt_count a.meta.out) out (ap is_present spins)))
            left.slots (g.R.Rack.told (store_rack new.store)) marked.0 (service_of g.R.Rack.slot_count new samples served energy)
            (λ t tells kr. subst (λ (z : Batch). HoldsBetweenCalls (g.R.Rack.slot_count (store_rack b.store)) (named_of b.store) b.meta b.dirty z b.copied h lo (now t)) (sym nothing) kr.keeps) marked.1);
        loses = err_map {Q = LosesSteps g.R.Rack.slot_count g.R.Rack.told a new 1} _ c.mark_units.ensures.loses (λ two it. (λ samples served energy h lo.
            let k = service_of g.R.Rack.slot_count a samples served energy in
            let j = service_of g.R.Rack.slot_count b samples served energy in
            let begins : (s : Disks) → RestsInShift g.R.Rack.slot_count a h lo s → UnitsRebuilt g.R.Rack.slot_count a h lo c.rebuilt-first.result s = (λ s z. subst (λ (u : ℕ). UnitsRebuilt g.R.Rack.slot_count a h lo u s) (sym first)
            (units_begin (g.R.Rack.slot_count (store_rack a.store)) (named_of a.store) a.meta a.dirty a.copied h lo s z)) in
            let marked = it samples served energy h lo in
            copies_lost (g.R.Rack.told (store_rack a.store)) (g.R.Rack.told (store_rack b.store)) k j h lo (UnitsRebuilt g.R.Rack.slot_count a h lo c.rebuilt-first.result) (UnitsRebuilt g.R.Rack.slot_count b h lo c.args.end)
            (λ s z shows. begins s (shown_rests k h lo s z shows c.requires.nothing)) c.move_units.ensures.calls (c.in_ok-copied.ensures.copied (ap Ok c.if-not-copied.false) h lo)
            (same_told (g.R.Rack.told (store_rack b.store)) (g.R.Rack.slot (store_rack b.store)) (g.met.R.Rack.agrees (store_rack b.store)) a.meta b.meta same names
            (named_there (g.R.Rack.slot (store_rack b.store)) b.meta c.args.disk (rebuilt_count a.meta.out) out (ap is_present spins)))
            left.slots (g.R.Rack.told (store_rack new.store)) marked.0 _
            (λ t tells kr. subst (λ (z : Batch). HoldsBetweenCalls (g.R.Rack.slot_count (store_rack b.store)) (named_of b.store) b.meta b.dirty z b.copied h lo (now t)) (sym nothing) kr.keeps) marked.1));
      };
    }

-- the units that are left begin where the rebuild stands
first_low : (first count : ℕ) → first ≡ count → count ≤ first
first_low first count is = omega arith

first_high : (first count end : ℕ) → first ≡ count → count ≤ end → first ≤ end
first_high first count end is low = omega arith

pub move_units-requires : goal.move_units-requires
move_units-requires g c =
    let q = c.requires in
    let first : c.rebuilt-first.result ≡ rebuilt_count c.args.core.now.meta.out = c.rebuilt-first.ensures ∙ ap rebuilt_count c.out.ensures in
    record {
      can = q.can;
      nothing = q.nothing;
      from = first_low _ _ first;
      order = first_high _ _ _ first q.from;
      limit = q.limit;
    }

pub mark_units-requires : goal.mark_units-requires
mark_units-requires g c =
    let q = c.requires in
    let done = c.in_ok-copied.ensures in
    let back = sym ((done.same (ap Ok c.if-not-copied.false)).meta) in
    record {
      can = record {
        serving = done.serving;
        fresh = subst (λ (m : Meta). IsRebuilding m c.args.disk) back q.can.fresh;
        named = done.leaves.same.named ∙ q.can.named;
        spins = (done.same (ap Ok c.if-not-copied.false)).spins;
      };
      nothing = done.leaves.batch ∙ q.nothing;
      limit = subst (λ (m : Meta). c.args.end ≤ rebuild_units m.setup.geometry m.gear c.args.disk) back q.limit;
      epoch = subst (λ (m : Meta). m.epoch < epoch_limit) back q.epoch;
    }
