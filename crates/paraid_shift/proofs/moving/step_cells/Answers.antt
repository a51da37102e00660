use Rattle.std.proofs.Common.{◌≡◌, ℕ, ◌∙◌, ◌<◌, ◌≤◌, sym, arith, inl, inr, ◌+◌}
use Rattle.paraid_base.specs.declared.state.Out.TheVariants.{No}
use Rattle.paraid_shift.proofs.PartLemmas.{keeps_done, keeps_stepped}
use Rattle.paraid_core.proofs.ErrLemmas.{none_done_if}
use Rattle.paraid_event.proofs.CoreServingLemmas.{leaves_array_then}
use Rattle.paraid_shift.proofs.MovingLemmas.{core_moves_same, core_moves_so, core_moves_then, staged_some}
use Rattle.paraid_shift.proofs.OutcomeLemmas.{serves_none, serves_then, serves_within, staged_none}
use Rattle.paraid_shift.proofs.StepsLemmas.{core_steps_none, core_steps_then, core_steps_within}
use Rattle.paraid_shift.proofs.moving.step_cells.Goals as goal

pub loop-at-init : goal.loop-at-init
loop-at-init g c = record {
  serves = serves_none g.R.Rack.slot_count g.R.Rack.slot c.args.core.now 0 c.requires.can.serving;
  few = omega arith;
  going = omega arith;
  moves = core_moves_same g.R.Rack.slot_count c.args.core.now c.requires.can.whole;
  steps = core_steps_none g.R.Rack.slot_count g.R.Rack.slot g.R.Rack.told c.args.core.now;
  ended = λ some. absurd (some c.requires.can.nothing);
}

pub loop-at-preserved : goal.loop-at-preserved
loop-at-preserved g c =
    let a = c.args.core.now in
    let b = c.loop-at.core in
    let new = c.step_group.new.core in
    let was = c.loop-at.invariant in
    let one = c.in_ok-count.ensures.steps in
    let whole : b.meta.out ≡ No = sym c.out.ensures ∙ c.in-No.is in
    record {
      serves = serves_then g.R.Rack.slot_count g.R.Rack.slot a b new c.loop-at.at 1 (c.loop-at.at + 1) (omega arith) was.serves one.serves;
      few = let before = was.few in let after = one.few in omega arith;
      going = let before = was.going in omega arith;
      moves = core_moves_then g.R.Rack.slot_count a b new c.loop-at.moved c.in_ok-count.count was.moves whole was.serves.leaves.setup one.moves.moves;
      steps = core_steps_then g.R.Rack.slot_count g.R.Rack.slot g.R.Rack.told a b new c.loop-at.at 1 was.steps one.steps;
      ended = one.moves.ended;
    }

epoch_below : (e f at most top : ℕ) → f ≤ e + at → at < most → e + most < top → f < top
epoch_below e f at most top low going fits = omega arith

pub step_group-requires : goal.step_group-requires
step_group-requires g c =
    let was = c.loop-at.invariant in
    record {
      can = record {
        serving = was.serves.serving;
        whole = sym c.out.ensures ∙ c.in-No.is;
        nothing = staged_none _ _ c.staged.ensures c.if-staged-ne0.false;
      };
      epoch = epoch_below c.args.core.now.meta.epoch c.loop-at.core.meta.epoch c.loop-at.at c.args.most _ was.serves.epoch c.loop-at-test.true c.requires.epoch;
    }

lower : (at most : ℕ) → at < most → at ≤ most
lower at most going = omega arith

pub returns-in_default : goal.returns-in_default
returns-in_default g c =
    let a = c.args.core.now in
    let b = c.loop-at.core in
    let was = c.loop-at.invariant in
    let low = lower _ _ c.loop-at-test.true in
    record {
      steps = record {
        serves = serves_within g.R.Rack.slot_count g.R.Rack.slot a b c.loop-at.at c.args.most low was.serves;
        few = was.few;
        moves = record { moves = was.moves; all = λ none. absurd (c.in_default.not-No (c.out.ensures ∙ none)); ended = was.ended };
        steps = core_steps_within g.R.Rack.slot_count g.R.Rack.slot g.R.Rack.told a b c.loop-at.at c.args.most low was.steps;
      };
      rack = keeps_done was.serves.leaves;
    }

pub returns-then-staged-ne0 : goal.returns-then-staged-ne0
returns-then-staged-ne0 g c =
    let a = c.args.core.now in
    let b = c.loop-at.core in
    let was = c.loop-at.invariant in
    let low = lower _ _ c.loop-at-test.true in
    record {
      steps = record {
        serves = serves_within g.R.Rack.slot_count g.R.Rack.slot a b c.loop-at.at c.args.most low was.serves;
        few = was.few;
        moves = record { moves = was.moves; all = λ none. inr (was.ended (staged_some b.batch _ c.staged.ensures c.if-staged-ne0.true)).clean; ended = was.ended };
        steps = core_steps_within g.R.Rack.slot_count g.R.Rack.slot g.R.Rack.told a b c.loop-at.at c.args.most low was.steps;
      };
      rack = keeps_done was.serves.leaves;
    }

pub returns-then-count-eq0 : goal.returns-then-count-eq0
returns-then-count-eq0 g c =
    let a = c.args.core.now in
    let b = c.loop-at.core in
    let new = c.step_group.new.core in
    let was = c.loop-at.invariant in
    let one = c.in_ok-count.ensures.steps in
    let whole : b.meta.out ≡ No = sym c.out.ensures ∙ c.in-No.is in
    let none = c.if-count-eq0.true in
    record {
      steps = record {
        serves = serves_then g.R.Rack.slot_count g.R.Rack.slot a b new c.loop-at.at 1 c.args.most (let low = c.loop-at-test.true in omega arith) was.serves one.serves;
        few = was.few;
        moves = record {
          moves = core_moves_so g.R.Rack.slot_count a new _ _ (omega arith)
              (core_moves_then g.R.Rack.slot_count a b new c.loop-at.moved c.in_ok-count.count was.moves whole was.serves.leaves.setup one.moves.moves);
          all = λ still. elim (one.moves.all none still) [
            | inl few ↦ inl (let low = was.few in omega (arith, few))
            | inr clean ↦ inr clean
          ];
          ended = one.moves.ended;
        };
        steps = core_steps_within g.R.Rack.slot_count g.R.Rack.slot g.R.Rack.told a new (c.loop-at.at + 1) c.args.most (let low = c.loop-at-test.true in omega arith)
            (core_steps_then g.R.Rack.slot_count g.R.Rack.slot g.R.Rack.told a b new c.loop-at.at 1 was.steps one.steps);
      };
      rack = keeps_done (leaves_array_then g.R.Rack.slot_count g.R.Rack.slot a b new was.serves.leaves one.serves.leaves);
    }

pub returns : goal.returns
returns g c =
    let a = c.args.core.now in
    let b = c.loop-at.core in
    let was = c.loop-at.invariant in
    let low : c.loop-at.at ≤ c.args.most = (let going = was.going in let few = was.few in omega arith) in
    record {
      steps = record {
        serves = serves_within g.R.Rack.slot_count g.R.Rack.slot a b c.loop-at.at c.args.most low was.serves;
        few = was.few;
        moves = record {
          moves = was.moves;
          all = λ none. inl (let low = was.few in let going = was.going in let test = c.loop-at-test.false in omega arith);
          ended = was.ended;
        };
        steps = core_steps_within g.R.Rack.slot_count g.R.Rack.slot g.R.Rack.told a b c.loop-at.at c.args.most low was.steps;
      };
      rack = keeps_done was.serves.leaves;
    }

pub returns-in_err-count : goal.returns-in_err-count
returns-in_err-count g c =
    let a = c.args.core.now in
    let b = c.loop-at.core in
    let new = c.step_group.new.core in
    let was = c.loop-at.invariant in
    record {
      steps = none_done_if _ c.from_residual.result _ c.from_residual.ensures.1;
      rack = keeps_stepped a b new c.loop-at.at 1 c.args.most c.from_residual.result c.from_residual.ensures.1 (let low = c.loop-at-test.true in omega arith)
          was.serves.leaves was.steps c.in_err-count.ensures.rack;
    }
