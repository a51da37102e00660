use Rattle.paraid_base.specs.Regions.{IsGear}
use Rattle.paraid_record.specs.Range.{IsOutInRange, rebuild_units}
use Rattle.paraid_core.specs.Units.{IsRebuilding}
use Rattle.paraid_base.specs.States.{rebuilt_count}
use Rattle.paraid_base.specs.declared.state.Out.{Out}
use Rattle.paraid_base.specs.declared.state.Out.TheVariants.{Fresh}
use Rattle.std.specs.Prelude.{◌+◌, if◌then◌else◌}
use Rattle.std.proofs.Common.{◌≡◌, ◌≤◌, ◌<◌, ℕ, Bool, Ok, refl, sym, ap, subst, arith, ◌∙◌}
use Rattle.paraid_base.specs.declared.state.TickEvent.TheVariants.{Gone as GoneAgain, Moving, Rebuilt}
use Rattle.paraid_record.specs.declared.meta.Meta.{Meta}
use Rattle.paraid_core.proofs.AfterLemmas.{handed}
use Rattle.paraid_upkeep.proofs.ResultLemmas.{none_done, none_done_if}
use Rattle.paraid_upkeep.specs.TickAnswers.{units_unbuilt}
use Rattle.paraid_upkeep.specs.Turns.{CoreTicks}
use Rattle.paraid_upkeep.proofs.RebuildTurnLemmas.{left_is}
use Rattle.paraid_upkeep.proofs.rebuilding.rebuild.Goals as goal

-- a tick that goes on, or ends the rebuild, does not tell that the disk is gone
moving_not_gone : {A : Type 0} (d : ℕ) → Moving ≡ GoneAgain d → A
moving_not_gone d is = absurd cc

back_not_gone : {A : Type 0} (d e : ℕ) → Rebuilt d ≡ GoneAgain e → A
back_not_gone d e is = absurd cc

pub rebuild_units-requires : goal.rebuild_units-requires
rebuild_units-requires g c =
    let a = c.args.core.now in
    subst (λ (z : Meta). IsGear z.setup.geometry c.meta-2.result.now.gear) (sym c.meta.ensures) (subst (λ (z : Meta). IsGear a.meta.setup.geometry z.gear) (sym c.meta-2.ensures) c.requires.serving.ready.in_range.gear)

pub overflow_sub-left : goal.overflow_sub-left
overflow_sub-left g c =
    let a = c.args.core.now in
    let most = (subst (λ (o : Out). IsOutInRange a.meta.setup.geometry a.meta.gear o) c.requires.fresh c.requires.serving.ready.in_range.out).1 in
    let full = c.rebuild_units.ensures ∙ ap (λ (z : Meta). rebuild_units z.setup.geometry c.meta-2.result.now.gear c.args.disk) c.meta.ensures ∙ ap (λ (z : Meta). rebuild_units a.meta.setup.geometry z.gear c.args.disk) c.meta-2.ensures in
    omega (arith, most, full)

pub move_units-requires : goal.move_units-requires
move_units-requires g c =
    let a = c.args.core.now in
    let fresh : IsRebuilding a.meta c.args.disk = c.requires.fresh ∙ ap (λ (n : ℕ). Fresh c.args.disk n) (sym (ap rebuilt_count c.requires.fresh)) in
    record {
      can = record {
        serving = c.requires.serving;
        fresh = fresh;
        named = c.requires.known.named c.args.disk fresh;
        spins = c.requires.known.spins c.args.disk fresh;
      };
      from = let n = ap rebuilt_count c.requires.fresh in omega (arith, n);
      limit =
          let full = c.rebuild_units.ensures ∙ ap (λ (z : Meta). rebuild_units z.setup.geometry c.meta-2.result.now.gear c.args.disk) c.meta.ensures ∙ ap (λ (z : Meta). rebuild_units a.meta.setup.geometry z.gear c.args.disk) c.meta-2.ensures in
          let l = c.if-rate-left.true in
          omega (arith, full, l);
      epoch = let e = c.requires.epoch in omega (arith, e);
    }

pub end_rebuild-requires : goal.end_rebuild-requires
end_rebuild-requires g c =
    let a = c.args.core.now in
    let fresh : IsRebuilding a.meta c.args.disk = c.requires.fresh ∙ ap (λ (n : ℕ). Fresh c.args.disk n) (sym (ap rebuilt_count c.requires.fresh)) in
    record {
      can = record {
        serving = c.requires.serving;
        fresh = fresh;
        named = c.requires.known.named c.args.disk fresh;
        spins = c.requires.known.spins c.args.disk fresh;
      };
      disk = (subst (λ (o : Out). IsOutInRange a.meta.setup.geometry a.meta.gear o) c.requires.fresh c.requires.serving.ready.in_range.out).0;
      epoch = let e = c.requires.epoch in omega (arith, e);
    }

pub returns-in_err-moved : goal.returns-in_err-moved
returns-in_err-moved g c = record {
  serves = none_done _ c.from_residual.result _ c.from_residual.ensures.1;
  commits = none_done _ c.from_residual.result _ c.from_residual.ensures.1;
  tells = none_done_if _ c.from_residual.result _ c.from_residual.ensures.1;
  committed = none_done_if _ c.from_residual.result _ c.from_residual.ensures.1;
  failed = none_done_if _ c.from_residual.result _ c.from_residual.ensures.1;
  table = none_done _ c.from_residual.result _ c.from_residual.ensures.1;
  turn = none_done_if _ c.from_residual.result _ c.from_residual.ensures.1;
  halts = handed _ c.from_residual.result _ c.from_residual.ensures.1 (λ windows. c.in_err-moved.ensures.halts c.args.first windows c.requires.fresh);
  calls = c.move_units.ensures.calls;
  two = handed _ c.from_residual.result _ c.from_residual.ensures.1 c.in_err-moved.ensures.two;
}

pub returns-in_err-back : goal.returns-in_err-back
returns-in_err-back g c = record {
  serves = none_done _ c.from_residual-in_err-back.result _ c.from_residual-in_err-back.ensures.1;
  commits = none_done _ c.from_residual-in_err-back.result _ c.from_residual-in_err-back.ensures.1;
  tells = none_done_if _ c.from_residual-in_err-back.result _ c.from_residual-in_err-back.ensures.1;
  committed = none_done_if _ c.from_residual-in_err-back.result _ c.from_residual-in_err-back.ensures.1;
  failed = none_done_if _ c.from_residual-in_err-back.result _ c.from_residual-in_err-back.ensures.1;
  table = none_done _ c.from_residual-in_err-back.result _ c.from_residual-in_err-back.ensures.1;
  turn = none_done_if _ c.from_residual-in_err-back.result _ c.from_residual-in_err-back.ensures.1;
  halts = handed _ c.from_residual-in_err-back.result _ c.from_residual-in_err-back.ensures.1 (λ windows. c.in_err-back.ensures.halts c.args.first windows c.requires.fresh);
  calls = c.end_rebuild.ensures.calls;
  two = handed _ c.from_residual-in_err-back.result _ c.from_residual-in_err-back.ensures.1 c.in_err-back.ensures.two;
}

pub returns-then-moved : goal.returns-then-moved
returns-then-moved g c =
    let a = c.args.core.now in
    let b = c.move_units.new.core in
    let rate : c.meta.result.now.setup.rate ≡ a.meta.setup.rate = ap (λ (z : Meta). z.setup.rate) c.meta.ensures in
    let left = left_is a.meta _ _ c.args.disk c.args.first _ c.meta.ensures c.meta-2.ensures c.rebuild_units.ensures in
    let less : a.meta.setup.rate < units_unbuilt a.meta c.args.disk c.args.first = (let l = c.if-rate-left.true in omega (arith, l, left, rate)) in
    record {
      serves = c.in_ok-moved.ensures.serves;
      commits = c.in_ok-moved.ensures.commits;
      tells = (rate, less, c.in_ok-moved.ensures.moved (ap Ok c.if-moved.true));
      committed = λ is. moving_not_gone c.args.disk is;
      failed = λ is. moving_not_gone c.args.disk is;
      table = c.in_ok-moved.ensures.table;
      turn = λ windows.
          subst (λ (r : ℕ). CoreTicks g.R.Rack.slot_count g.R.Rack.told windows a b (record { gear = b.meta.gear; moved = r; event = Moving })) (sym rate)
          (subst (λ (t : Bool). CoreTicks g.R.Rack.slot_count g.R.Rack.told windows a b (record { gear = b.meta.gear; moved = if t then a.meta.setup.rate else 0; event = if t then Moving else GoneAgain c.args.disk })) c.if-moved.true
          (c.in_ok-moved.ensures.turn c.args.first windows c.requires.fresh less (ap (λ (r : ℕ). c.args.first + r) rate)));
      halts = tt;
      calls = c.move_units.ensures.calls;
      two = tt;
    }

pub returns-then-rate-left : goal.returns-then-rate-left
returns-then-rate-left g c =
    let a = c.args.core.now in
    let b = c.move_units.new.core in
    let rate : c.meta.result.now.setup.rate ≡ a.meta.setup.rate = ap (λ (z : Meta). z.setup.rate) c.meta.ensures in
    let left = left_is a.meta _ _ c.args.disk c.args.first _ c.meta.ensures c.meta-2.ensures c.rebuild_units.ensures in
    let less : a.meta.setup.rate < units_unbuilt a.meta c.args.disk c.args.first = (let l = c.if-rate-left.true in omega (arith, l, left, rate)) in
    let not = ap Ok c.if-moved.false in
    record {
      serves = c.in_ok-moved.ensures.serves;
      commits = c.in_ok-moved.ensures.commits;
      tells = (refl, refl, c.in_ok-moved.ensures.marked not);
      committed = λ is. c.in_ok-moved.ensures.committed not;
      failed = λ is. c.in_ok-moved.ensures.failed not;
      table = c.in_ok-moved.ensures.table;
      turn = λ windows.
          subst (λ (t : Bool). CoreTicks g.R.Rack.slot_count g.R.Rack.told windows a b (record { gear = b.meta.gear; moved = if t then a.meta.setup.rate else 0; event = if t then Moving else GoneAgain c.args.disk })) c.if-moved.false
          (c.in_ok-moved.ensures.turn c.args.first windows c.requires.fresh less (ap (λ (r : ℕ). c.args.first + r) rate));
      halts = tt;
      calls = c.move_units.ensures.calls;
      two = tt;
    }

pub returns-then-back : goal.returns-then-back
returns-then-back g c =
    let a = c.args.core.now in
    let b = c.end_rebuild.new.core in
    let rate : c.meta.result.now.setup.rate ≡ a.meta.setup.rate = ap (λ (z : Meta). z.setup.rate) c.meta.ensures in
    let left = left_is a.meta _ _ c.args.disk c.args.first _ c.meta.ensures c.meta-2.ensures c.rebuild_units.ensures in
    let few : units_unbuilt a.meta c.args.disk c.args.first ≤ a.meta.setup.rate = (let l = c.if-rate-left.false in omega (arith, l, left, rate)) in
    record {
      serves = c.in_ok-back.ensures.serves;
      commits = c.in_ok-back.ensures.commits;
      tells = (refl, left, few, c.in_ok-back.ensures.rejoined (ap Ok c.if-back.true));
      committed = λ is. back_not_gone c.args.disk c.args.disk is;
      failed = λ is. back_not_gone c.args.disk c.args.disk is;
      table = c.in_ok-back.ensures.table;
      turn = λ windows.
          subst (λ (n : ℕ). CoreTicks g.R.Rack.slot_count g.R.Rack.told windows a b (record { gear = b.meta.gear; moved = n; event = Rebuilt c.args.disk })) (sym left)
          (subst (λ (t : Bool). CoreTicks g.R.Rack.slot_count g.R.Rack.told windows a b (record { gear = b.meta.gear; moved = if t then units_unbuilt a.meta c.args.disk c.args.first else 0; event = if t then Rebuilt c.args.disk else GoneAgain c.args.disk })) c.if-back.true
          (c.in_ok-back.ensures.turn c.args.first windows c.requires.fresh few));
      halts = tt;
      calls = c.end_rebuild.ensures.calls;
      two = tt;
    }

pub returns : goal.returns
returns g c =
    let a = c.args.core.now in
    let b = c.end_rebuild.new.core in
    let rate : c.meta.result.now.setup.rate ≡ a.meta.setup.rate = ap (λ (z : Meta). z.setup.rate) c.meta.ensures in
    let left = left_is a.meta _ _ c.args.disk c.args.first _ c.meta.ensures c.meta-2.ensures c.rebuild_units.ensures in
    let few : units_unbuilt a.meta c.args.disk c.args.first ≤ a.meta.setup.rate = (let l = c.if-rate-left.false in omega (arith, l, left, rate)) in
    let not = ap Ok c.if-back.false in
    record {
      serves = c.in_ok-back.ensures.serves;
      commits = c.in_ok-back.ensures.commits;
      tells = (refl, refl, c.in_ok-back.ensures.marked not);
      committed = λ is. c.in_ok-back.ensures.committed not;
      failed = λ is. c.in_ok-back.ensures.failed not;
      table = c.in_ok-back.ensures.table;
      turn = λ windows.
          subst (λ (t : Bool). CoreTicks g.R.Rack.slot_count g.R.Rack.told windows a b (record { gear = b.meta.gear; moved = if t then units_unbuilt a.meta c.args.disk c.args.first else 0; event = if t then Rebuilt c.args.disk else GoneAgain c.args.disk })) c.if-back.false
          (c.in_ok-back.ensures.turn c.args.first windows c.requires.fresh few);
      halts = tt;
      calls = c.end_rebuild.ensures.calls;
      two = tt;
    }
