use Rattle.std.proofs.Common.{◌+◌, refl, sym, ◌∙◌, subst, [], arith}
use Rattle.paraid_base.specs.States.{phase_to}
use Rattle.paraid_moves.specs.MoveMetas.{meta_flipped_to}
use Rattle.paraid_core.proofs.AfterLemmas.{handed}
use Rattle.paraid_upkeep.proofs.ResultLemmas.{none_done, none_done_if}
use Rattle.paraid_event.specs.Service.{service_of}
use Rattle.paraid_event.proofs.TickStepLemmas.{no_name}
use Rattle.paraid_shift.specs.Units.{TellsDone}
use Rattle.paraid_event.proofs.CoreServingLemmas.{leaves_array_then, none_away, two_array}
use Rattle.paraid_upkeep.proofs.MoveLemmas.{ends_commits, flipped_moves, lost_moves, moving_moves, units_commits}
use Rattle.paraid_upkeep.proofs.OutLemmas.{known_gone, known_whole}
use Rattle.paraid_upkeep.proofs.TickTurnLemmas.{flip_halts, flipped_told, known_marked, lost_told, moved_gone, moved_shifts, moving_told, step_halts}
use Rattle.paraid_upkeep.proofs.ToldLemmas.{calls_then, calls_told, extends_steps}
use Rattle.paraid_upkeep.proofs.shifts.move_on.Goals as goal

pub units_of_tick-units-requires : goal.units_of_tick-units-requires
units_of_tick-units-requires g c = record { serving = c.requires.serving }

pub step-requires : goal.step-requires
step-requires g c = record { serving = c.requires.serving; epoch = let e = c.requires.epoch in omega (arith, e) }

pub is_done-requires : goal.is_done-requires
is_done-requires g c =
    let moved = c.in_ok-moved.ensures in
    let whole = no_name c.step.new.core.meta.out (sym moved.lost ∙ c.in_default.is) in
    record {
      ready = moved.serves.serving.ready;
      shifts = moved_shifts g.R.Rack.slot_count c.args.core.now c.step.new.core c.in_ok-moved.moved.units (moved.moves c.requires.whole).moves c.requires.serving.ready.in_range c.requires.shifts whole;
    }

pub flip-requires : goal.flip-requires
flip-requires g c =
    let moved = c.in_ok-moved.ensures in
    let whole = no_name c.step.new.core.meta.out (sym moved.lost ∙ c.in_default.is) in
    record {
      can = record {
        serving = moved.serves.serving;
        epoch = let e = moved.serves.epoch in let low = c.requires.epoch in omega arith;
        whole = whole;
        shifts = moved_shifts g.R.Rack.slot_count c.args.core.now c.step.new.core c.in_ok-moved.moved.units (moved.moves c.requires.whole).moves c.requires.serving.ready.in_range c.requires.shifts whole;
        filled = c.is_done.ensures.filled c.if-not-is_done.false;
        clean = c.is_done.ensures.clean c.if-not-is_done.false;
      };
    }

pub returns-in_err-moved : goal.returns-in_err-moved
returns-in_err-moved g c =
    let a = c.args.core.now in
    let loses = c.in_err-moved.ensures.rack.loses (none_away g.R.Rack.slot a c.requires.whole) in
    record {
      serves = none_done _ c.from_residual.result _ c.from_residual.ensures.1;
      moves = none_done_if _ c.from_residual.result _ c.from_residual.ensures.1;
      commits = none_done _ c.from_residual.result _ c.from_residual.ensures.1;
      turn = none_done_if _ c.from_residual.result _ c.from_residual.ensures.1;
      halts =
          handed _ c.from_residual.result _ c.from_residual.ensures.1
          (λ windows k setup p samples served energy held at fit counts.
          step_halts g.R.Rack.slot_count g.R.Rack.told a k setup p samples served energy at fit counts c.requires.whole c.requires.shifts c.requires.serving.ready.in_range c.units_of_tick-units.result c.units_of_tick-units.ensures.units
          c.step.new.core _ loses);
      calls = calls_told g.R.Rack.slot_count g.R.Rack.slot g.R.Rack.told a c.step.new.core _ c.step.ensures.rack.slots c.step.ensures.rack.no_fall (loses [] 0 [] 0 0);
      two = handed _ c.from_residual.result _ c.from_residual.ensures.1 c.in_err-moved.ensures.rack.two;
    }

pub returns-in-Some : goal.returns-in-Some
returns-in-Some g c =
    let a = c.args.core.now in
    let b = c.step.new.core in
    let moved = c.in_ok-moved.ensures in
    let steps = moved.steps (none_away g.R.Rack.slot a c.requires.whole) in
    let named = sym moved.lost ∙ c.in-Some.is in
    record {
      serves = record {
        serving = moved.serves.serving;
        leaves = moved.serves.leaves;
        known = known_gone g.R.Rack.slot b c.in-Some.disk (moved_gone g.R.Rack.slot_count a b c.in_ok-moved.moved.units (moved.moves c.requires.whole).moves c.in-Some.disk named) (moved.serves.absent (none_away g.R.Rack.slot a c.requires.whole));
        fits = moved.serves.fits;
      };
      moves = lost_moves g.R.Rack.slot_count a b c.units_of_tick-units.result c.in_ok-moved.moved.units c.units_of_tick-units.ensures.units (moved.moves c.requires.whole) moved.few c.in-Some.disk named;
      commits = units_commits g.R.Rack.slot_count a c.units_of_tick-units.result c.units_of_tick-units.ensures.units g.R.Rack.slot b moved.serves;
      turn = λ windows k setup p samples served energy held at fit counts.
          lost_told g.R.Rack.slot_count g.R.Rack.told a k setup p samples served energy at fit counts c.requires.whole c.requires.shifts c.requires.serving.ready.in_range c.units_of_tick-units.result c.units_of_tick-units.ensures.units
          b c.in_ok-moved.moved.units (moved.moves c.requires.whole) moved.serves.serving.copies_synced steps c.in-Some.disk moved.few named;
      halts = tt;
      calls = record { slots = c.step.ensures.rack.slots; no_fall = c.step.ensures.rack.no_fall; grows = extends_steps g.R.Rack.told g.R.Rack.slot_count a b _ steps };
      two = tt;
    }

pub returns-then-not-is_done : goal.returns-then-not-is_done
returns-then-not-is_done g c =
    let a = c.args.core.now in
    let b = c.step.new.core in
    let moved = c.in_ok-moved.ensures in
    let steps = moved.steps (none_away g.R.Rack.slot a c.requires.whole) in
    let whole = no_name b.meta.out (sym moved.lost ∙ c.in_default.is) in
    record {
      serves = record { serving = moved.serves.serving; leaves = moved.serves.leaves; known = known_whole g.R.Rack.slot b whole; fits = moved.serves.fits };
      moves =
          moving_moves g.R.Rack.slot_count a b c.units_of_tick-units.result c.in_ok-moved.moved.units c.units_of_tick-units.ensures.units (moved.moves c.requires.whole) moved.few whole moved.serves.leaves.setup
          (λ samples served energy. subst (TellsDone (service_of g.R.Rack.slot_count b samples served energy)) c.if-not-is_done.true (c.is_done.ensures.units samples served energy));
      commits = units_commits g.R.Rack.slot_count a c.units_of_tick-units.result c.units_of_tick-units.ensures.units g.R.Rack.slot b moved.serves;
      turn = λ windows k setup p samples served energy held at fit counts.
          moving_told g.R.Rack.slot_count g.R.Rack.told a k setup p samples served energy at fit counts c.requires.whole c.requires.shifts c.requires.serving.ready.in_range c.units_of_tick-units.result c.units_of_tick-units.ensures.units
          b c.in_ok-moved.moved.units (moved.moves c.requires.whole) moved.serves.serving.copies_synced steps whole moved.serves.leaves.setup
          (subst (TellsDone (service_of g.R.Rack.slot_count b samples served energy)) c.if-not-is_done.true (c.is_done.ensures.units samples served energy));
      halts = tt;
      calls = record { slots = c.step.ensures.rack.slots; no_fall = c.step.ensures.rack.no_fall; grows = extends_steps g.R.Rack.told g.R.Rack.slot_count a b _ steps };
      two = tt;
    }

pub returns-in_err-flip : goal.returns-in_err-flip
returns-in_err-flip g c =
    let a = c.args.core.now in
    let b = c.step.new.core in
    let new = c.flip.new.core in
    let moved = c.in_ok-moved.ensures in
    let steps = moved.steps (none_away g.R.Rack.slot a c.requires.whole) in
    let whole = no_name b.meta.out (sym moved.lost ∙ c.in_default.is) in
    record {
      serves = none_done _ c.from_residual-in_err-flip.result _ c.from_residual-in_err-flip.ensures.1;
      moves = none_done_if _ c.from_residual-in_err-flip.result _ c.from_residual-in_err-flip.ensures.1;
      commits = none_done _ c.from_residual-in_err-flip.result _ c.from_residual-in_err-flip.ensures.1;
      turn = none_done_if _ c.from_residual-in_err-flip.result _ c.from_residual-in_err-flip.ensures.1;
      halts =
          handed _ c.from_residual-in_err-flip.result _ c.from_residual-in_err-flip.ensures.1
          (λ windows k setup p samples served energy held at fit counts.
          flip_halts g.R.Rack.slot_count g.R.Rack.told a k setup p samples served energy at fit counts c.requires.whole c.requires.shifts c.requires.serving.ready.in_range c.units_of_tick-units.result c.units_of_tick-units.ensures.units
          b c.in_ok-moved.moved.units (moved.moves c.requires.whole) moved.serves.serving.copies_synced steps whole moved.serves.leaves.setup
          new moved.few (c.is_done.ensures.done c.if-not-is_done.false) _ c.in_err-flip.ensures.rack.loses);
      calls =
          calls_then g.R.Rack.slot_count g.R.Rack.slot g.R.Rack.told a b new (record { slots = c.step.ensures.rack.slots; no_fall = c.step.ensures.rack.no_fall; grows = extends_steps g.R.Rack.told g.R.Rack.slot_count a b _ steps })
          (calls_told g.R.Rack.slot_count g.R.Rack.slot g.R.Rack.told b new _ c.flip.ensures.rack.slots c.flip.ensures.rack.no_fall (c.flip.ensures.keeps.moments [] 0));
      two = handed _ c.from_residual-in_err-flip.result _ c.from_residual-in_err-flip.ensures.1 (two_array g.R.Rack.slot_count g.R.Rack.slot a b new moved.serves.leaves c.flip.ensures.rack.no_fall _ c.in_err-flip.ensures.rack.two);
    }

pub returns : goal.returns
returns g c =
    let a = c.args.core.now in
    let b = c.step.new.core in
    let new = c.flip.new.core in
    let moved = c.in_ok-moved.ensures in
    let ended = c.in_ok-flip.ensures in
    let steps = moved.steps (none_away g.R.Rack.slot a c.requires.whole) in
    let whole = no_name b.meta.out (sym moved.lost ∙ c.in_default.is) in
    record {
      serves = record {
        serving = ended.shifted.serving;
        leaves = leaves_array_then g.R.Rack.slot_count g.R.Rack.slot a b new moved.serves.leaves ended.shifted.leaves;
        known = known_marked g.R.Rack.slot (record (meta_flipped_to b.meta (phase_to b.meta.phase)) { epoch = b.meta.epoch + 1 }) new ended.meta whole ended.shifted.absent;
        fits = λ f. ended.shifted.fits (moved.serves.fits f);
      };
      moves =
          flipped_moves g.R.Rack.slot_count a b c.units_of_tick-units.result c.in_ok-moved.moved.units c.units_of_tick-units.ensures.units (moved.moves c.requires.whole) moved.few whole moved.serves.leaves.setup
          new (c.is_done.ensures.done c.if-not-is_done.false) ended.meta c.flip.ensures.keeps.table;
      commits = ends_commits g.R.Rack.slot_count a c.units_of_tick-units.result c.units_of_tick-units.ensures.units g.R.Rack.slot b moved.serves new (record (meta_flipped_to b.meta (phase_to b.meta.phase)) { epoch = b.meta.epoch + 1 }) ended.meta refl;
      turn = λ windows k setup p samples served energy held at fit counts.
          flipped_told g.R.Rack.slot_count g.R.Rack.told a k setup p samples served energy at fit counts c.requires.whole c.requires.shifts c.requires.serving.ready.in_range c.units_of_tick-units.result c.units_of_tick-units.ensures.units
          b c.in_ok-moved.moved.units (moved.moves c.requires.whole) moved.serves.serving.copies_synced steps whole moved.serves.leaves.setup
          new moved.few (c.is_done.ensures.done c.if-not-is_done.false) ended.steps ended.meta ended.shifted.serving.copies_synced c.flip.ensures.keeps.table;
      halts = tt;
      calls =
          calls_then g.R.Rack.slot_count g.R.Rack.slot g.R.Rack.told a b new (record { slots = c.step.ensures.rack.slots; no_fall = c.step.ensures.rack.no_fall; grows = extends_steps g.R.Rack.told g.R.Rack.slot_count a b _ steps })
          (calls_told g.R.Rack.slot_count g.R.Rack.slot g.R.Rack.told b new _ c.flip.ensures.rack.slots c.flip.ensures.rack.no_fall (c.flip.ensures.keeps.moments [] 0));
      two = tt;
    }
