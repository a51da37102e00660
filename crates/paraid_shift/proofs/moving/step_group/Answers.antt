use Rattle.std.proofs.Common.{◌+◌, arith}
use Rattle.paraid_shift.proofs.PartLemmas.{keeps_done, keeps_later, keeps_raised, keeps_spared}
use Rattle.paraid_core.proofs.ErrLemmas.{none_done_if}
use Rattle.paraid_shift.proofs.MovedLossLemmas.{core_loses_then, core_loses_within}
use Rattle.paraid_shift.proofs.MovingLemmas.{core_moves_so, core_moves_then}
use Rattle.paraid_shift.proofs.OutcomeLemmas.{marked_below, serves_committed, serves_group, serves_then}
use Rattle.paraid_event.proofs.CoreServingLemmas.{leaves_array_then, none_away}
use Rattle.paraid_shift.proofs.StepsLemmas.{core_steps_then, core_steps_within}
use Rattle.paraid_shift.proofs.moving.step_group.Goals as goal

pub move_group-requires : goal.move_group-requires
move_group-requires g c = record { can = c.requires.can }

pub has_ended-requires : goal.has_ended-requires
has_ended-requires g c = record { ready = c.in_ok-count.ensures.marks.serving.ready }

pub commit-requires : goal.commit-requires
commit-requires g c =
    let marks = c.in_ok-count.ensures.marks in
    record { serving = marks.serving; epoch = marked_below c.args.core.now.meta c.move_group.new.core.meta _ marks.meta c.requires.epoch }

pub returns-in_err-count : goal.returns-in_err-count
returns-in_err-count g c = record {
  steps = none_done_if _ c.from_residual.result _ c.from_residual.ensures.1;
  rack = keeps_raised c.from_residual.result c.from_residual.ensures.1 (keeps_spared c.in_err-count.ensures.rack) c.in_err-count.ensures.rack.loses;
}

pub returns-then-count-eq0 : goal.returns-then-count-eq0
returns-then-count-eq0 g c =
    let a = c.args.core.now in
    let b = c.move_group.new.core in
    let marks = c.in_ok-count.ensures.marks in
    let none = c.if-count-eq0.true in
    record {
      steps = record {
        serves = serves_group g.R.Rack.slot_count g.R.Rack.slot g.R.Rack.told a b c.args.most c.in_ok-count.count 1 c.in_ok-count.ensures.rack.spared marks;
        few = omega arith;
        moves = record {
          moves = core_moves_so g.R.Rack.slot_count a b _ _ none marks.moves;
          all = λ is. marks.all none;
          ended = λ some. absurd (some (marks.idle none));
        };
        steps = core_steps_within g.R.Rack.slot_count g.R.Rack.slot g.R.Rack.told a b 0 1 (omega arith) marks.steps;
      };
      rack = keeps_done marks.leaves;
    }

pub returns-then-has_ended : goal.returns-then-has_ended
returns-then-has_ended g c =
    let a = c.args.core.now in
    let b = c.move_group.new.core in
    let marks = c.in_ok-count.ensures.marks in
    record {
      steps = record {
        serves = serves_group g.R.Rack.slot_count g.R.Rack.slot g.R.Rack.told a b c.args.most c.in_ok-count.count 1 c.in_ok-count.ensures.rack.spared marks;
        few = marks.few;
        moves = record {
          moves = marks.moves;
          all = λ none. absurd (c.if-count-eq0.false none);
          ended = λ some. c.has_ended.ensures.done c.if-has_ended.true;
        };
        steps = core_steps_within g.R.Rack.slot_count g.R.Rack.slot g.R.Rack.told a b 0 1 (omega arith) marks.steps;
      };
      rack = keeps_done marks.leaves;
    }

pub returns-in_err-commit : goal.returns-in_err-commit
returns-in_err-commit g c =
    let a = c.args.core.now in
    let b = c.move_group.new.core in
    let new = c.commit.new.core in
    let marks = c.in_ok-count.ensures.marks in
    let lost = c.in_err-commit.ensures.rack in
    let from = c.from_residual-in_err-commit in
    record {
      steps = none_done_if _ from.result _ from.ensures.1;
      rack = keeps_later a b new from.result from.ensures.1 marks.leaves (keeps_spared lost)
          (core_loses_within g.R.Rack.slot_count g.R.Rack.told a new (0 + 1) 1 _ (omega arith)
          (core_loses_then g.R.Rack.slot_count g.R.Rack.told a b new 0 1 _ marks.steps (lost.loses.loses (none_away g.R.Rack.slot b (marks.whole (omega arith))))));
    }

pub returns : goal.returns
returns g c =
    let a = c.args.core.now in
    let b = c.move_group.new.core in
    let new = c.commit.new.core in
    let marks = c.in_ok-count.ensures.marks in
    let made = c.in_ok-commit.ensures.commits in
    let whole = marks.whole (omega arith) in
    record {
      steps = record {
        serves = serves_then g.R.Rack.slot_count g.R.Rack.slot a b new 0 1 1 (omega arith)
            (serves_group g.R.Rack.slot_count g.R.Rack.slot g.R.Rack.told a b c.args.most c.in_ok-count.count 0 c.in_ok-count.ensures.rack.spared marks) (serves_committed g.R.Rack.slot_count g.R.Rack.slot g.R.Rack.told b new c.in_ok-commit.ensures.rack.spared made);
        few = marks.few;
        moves = record {
          moves = core_moves_so g.R.Rack.slot_count a new _ _ (omega arith)
              (core_moves_then g.R.Rack.slot_count a b new c.in_ok-count.count 0 marks.moves whole marks.leaves.setup (made.moves whole));
          all = λ none. absurd (c.if-count-eq0.false none);
          ended = λ some. absurd (some made.nothing);
        };
        steps = core_steps_then g.R.Rack.slot_count g.R.Rack.slot g.R.Rack.told a b new 0 1 marks.steps (made.steps (none_away g.R.Rack.slot b whole));
      };
      rack = keeps_done (leaves_array_then g.R.Rack.slot_count g.R.Rack.slot a b new marks.leaves made.leaves);
    }
