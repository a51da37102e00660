use Rattle.std.specs.Prelude.{◌-◌, ◌^◌}
use Rattle.std.proofs.Common.{ℕ, ◌+◌, ◌<◌, ◌≤◌, arith, ap, ◌∙◌}
use Rattle.paraid_image.specs.Out.{named_out}
use Rattle.paraid_shift.proofs.PartLemmas.{keeps_done, keeps_later, keeps_raised}
use Rattle.paraid_core.proofs.ErrLemmas.{none_done, none_done_if}
use Rattle.paraid_shift.proofs.MovedLossLemmas.{core_loses_then, core_loses_within}
use Rattle.paraid_shift.proofs.MovingLemmas.{moved_after}
use Rattle.paraid_shift.proofs.OutcomeLemmas.{serves_then}
use Rattle.paraid_event.proofs.CoreServingLemmas.{leaves_array_then}
use Rattle.paraid_shift.proofs.StepsLemmas.{steps_or_waits_then}
use Rattle.paraid_shift.proofs.moving.step.Goals as goal
use Rattle.paraid_base.specs.Log.{epoch_limit}

pub returns-in_err-commit_staged : goal.returns-in_err-commit_staged
returns-in_err-commit_staged g c =
    let a = c.args.core.now in
    let b = c.commit_staged.new.core in
    let from = c.from_residual in
    record {
      serves = none_done _ from.result _ from.ensures.1;
      few = none_done_if _ from.result _ from.ensures.1;
      moves = none_done_if _ from.result _ from.ensures.1;
      steps = none_done _ from.result _ from.ensures.1;
      left = none_done_if _ from.result _ from.ensures.1;
      lost = none_done_if _ from.result _ from.ensures.1;
      rack = keeps_raised from.result from.ensures.1 c.in_err-commit_staged.ensures.rack
          (λ absent. core_loses_within g.R.Rack.slot_count g.R.Rack.told a b 1 (c.args.units + 2) _ (omega arith) (c.in_err-commit_staged.ensures.rack.loses absent));
    }

low_enough : (a b units : ℕ) → units < 2 ^ 32 → b ≤ a + 1 → a < epoch_limit - 2 ^ 32 - 2 → b + units < epoch_limit
low_enough a b units few next low = omega arith

pub step_whole-requires : goal.step_whole-requires
step_whole-requires g c =
    let first = c.in_ok-commit_staged.ensures in
    record {
      serving = first.serves.serving;
      nothing = first.nothing;
      epoch = low_enough c.args.core.now.meta.epoch c.commit_staged.new.core.meta.epoch c.args.units c.ranges.units.fits first.serves.epoch c.requires.epoch;
    }

pub returns-in_err-count : goal.returns-in_err-count
returns-in_err-count g c =
    let a = c.args.core.now in
    let b = c.commit_staged.new.core in
    let new = c.step_whole.new.core in
    let first = c.in_ok-commit_staged.ensures in
    let from = c.from_residual-in_err-count in
    record {
      serves = none_done _ from.result _ from.ensures.1;
      few = none_done_if _ from.result _ from.ensures.1;
      moves = none_done_if _ from.result _ from.ensures.1;
      steps = none_done _ from.result _ from.ensures.1;
      left = none_done_if _ from.result _ from.ensures.1;
      lost = none_done_if _ from.result _ from.ensures.1;
      rack = keeps_later a b new from.result from.ensures.1 first.serves.leaves c.in_err-count.ensures.rack
          (λ absent. core_loses_within g.R.Rack.slot_count g.R.Rack.told a new (1 + (c.args.units + 1)) (c.args.units + 2) _ (omega arith)
          (core_loses_then g.R.Rack.slot_count g.R.Rack.told a b new 1 (c.args.units + 1) _ (first.steps absent) c.in_err-count.ensures.rack.loses));
    }

pub units_left-requires : goal.units_left-requires
units_left-requires g c = record { ready = c.in_ok-count.ensures.steps.serves.serving.ready }

pub returns : goal.returns
returns g c =
    let a = c.args.core.now in
    let b = c.commit_staged.new.core in
    let new = c.step_whole.new.core in
    let first = c.in_ok-commit_staged.ensures in
    let second = c.in_ok-count.ensures.steps in
    record {
      serves = serves_then g.R.Rack.slot_count g.R.Rack.slot a b new 1 (c.args.units + 1) (c.args.units + 2) (omega arith) first.serves second.serves;
      few = second.few;
      moves = λ whole. moved_after g.R.Rack.slot_count a b new c.args.units c.in_ok-count.count (first.moves whole) first.serves.leaves.setup first.nothing second.moves c.in_ok-count.ensures.idle;
      steps = λ absent. steps_or_waits_then g.R.Rack.slot_count g.R.Rack.slot g.R.Rack.told a b new 1 (c.args.units + 1) (c.args.units + 2) (omega arith) (first.steps absent) second.steps;
      left = c.units_left.ensures.units;
      lost = c.named.ensures ∙ ap named_out c.out.ensures;
      rack = keeps_done (leaves_array_then g.R.Rack.slot_count g.R.Rack.slot a b new first.serves.leaves second.serves.leaves);
    }
