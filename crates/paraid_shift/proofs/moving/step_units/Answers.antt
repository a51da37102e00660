use Rattle.std.proofs.Common.{◌≡◌, ℕ, ◌∙◌, ◌+◌, ◌-◌, ◌<◌, ◌≤◌, sym, arith, inl, inr}
use Rattle.paraid_base.specs.declared.state.Out.TheVariants.{No}
use Rattle.paraid_shift.proofs.PartLemmas.{keeps_done, keeps_raised, keeps_stepped}
use Rattle.paraid_core.proofs.ErrLemmas.{none_done_if}
use Rattle.paraid_shift.proofs.MovedLossLemmas.{core_loses_within}
use Rattle.paraid_event.proofs.CoreServingLemmas.{leaves_array_then}
use Rattle.paraid_shift.proofs.MovingLemmas.{staged_some, up_to_more}
use Rattle.paraid_shift.proofs.OutcomeLemmas.{serves_then, serves_within, staged_none}
use Rattle.paraid_shift.proofs.StepsLemmas.{core_steps_within, steps_or_waits_then}
use Rattle.paraid_shift.proofs.moving.step_units.Goals as goal

one_more : (most : ℕ) → most ≤ most + 1
one_more most = omega arith

same_more : (most : ℕ) → most + 1 ≤ most + 1
same_more most = omega arith

few_both : (cells stripes most : ℕ) → cells ≤ most → stripes ≤ most - cells → cells + stripes ≤ most
few_both cells stripes most first second = omega arith

few_fit : (cells stripes most top : ℕ) → cells ≤ most → stripes ≤ most - cells → most < top → cells + stripes < top
few_fit cells stripes most top first second low = omega arith

epochs_low : (a b most top : ℕ) → b ≤ a + most → a + most < top → b < top
epochs_low a b most top first low = omega arith

not_all : (cells most : ℕ) → cells ≡ most → 0 < most - cells → ⊥
not_all cells most all some = omega arith

pub step_cells-requires : goal.step_cells-requires
step_cells-requires g c = record { can = c.requires.can; epoch = c.requires.epoch }

pub step_stripes-requires : goal.step_stripes-requires
step_stripes-requires g c =
    let cells = c.in_ok-cells.ensures.steps in
    let whole : c.step_cells.new.core.meta.out ≡ No = sym c.out.ensures ∙ c.in-No.is in
    record {
      can = record { serving = cells.serves.serving; whole = whole; nothing = staged_none _ _ c.staged.ensures c.if-staged-ne0.false };
      clean = λ some. elim (cells.moves.all whole) [
        | inl all ↦ absurd (not_all c.in_ok-cells.cells c.args.most all some)
        | inr done ↦ done
      ];
      epoch = epochs_low c.args.core.now.meta.epoch c.step_cells.new.core.meta.epoch c.args.most _ cells.serves.epoch c.requires.epoch;
    }

pub overflow_add-result : goal.overflow_add-result
overflow_add-result g c = record { fits = few_fit _ _ _ _ c.in_ok-cells.ensures.steps.few c.in_ok-stripes.ensures.steps.few c.ranges.most.fits }

pub overflow_sub-most : goal.overflow_sub-most
overflow_sub-most g c = c.in_ok-cells.ensures.steps.few

pub returns-in_err-cells : goal.returns-in_err-cells
returns-in_err-cells g c =
    let a = c.args.core.now in
    let new = c.step_cells.new.core in
    record {
      steps = none_done_if _ c.from_residual.result _ c.from_residual.ensures.1;
      rack = keeps_raised c.from_residual.result c.from_residual.ensures.1 c.in_err-cells.ensures.rack
          (core_loses_within g.R.Rack.slot_count g.R.Rack.told a new c.args.most (c.args.most + 1) _ (one_more c.args.most) c.in_err-cells.ensures.rack.loses);
    }

pub returns-in_default : goal.returns-in_default
returns-in_default g c =
    let a = c.args.core.now in
    let b = c.step_cells.new.core in
    let was = c.in_ok-cells.ensures.steps in
    record {
      steps = record {
        serves = serves_within g.R.Rack.slot_count g.R.Rack.slot a b c.args.most (c.args.most + 1) (one_more c.args.most) was.serves;
        few = was.few;
        moves = record { moves = was.moves.moves; all = λ none. absurd (c.in_default.not-No (c.out.ensures ∙ none)); ended = was.moves.ended };
        steps = inl (core_steps_within g.R.Rack.slot_count g.R.Rack.slot g.R.Rack.told a b c.args.most (c.args.most + 1) (one_more c.args.most) was.steps);
      };
      rack = keeps_done was.serves.leaves;
    }

pub returns-then-staged-ne0 : goal.returns-then-staged-ne0
returns-then-staged-ne0 g c =
    let a = c.args.core.now in
    let b = c.step_cells.new.core in
    let was = c.in_ok-cells.ensures.steps in
    record {
      steps = record {
        serves = serves_within g.R.Rack.slot_count g.R.Rack.slot a b c.args.most (c.args.most + 1) (one_more c.args.most) was.serves;
        few = was.few;
        moves = record { moves = was.moves.moves; all = λ none. inr (was.moves.ended (staged_some b.batch _ c.staged.ensures c.if-staged-ne0.true)); ended = was.moves.ended };
        steps = inl (core_steps_within g.R.Rack.slot_count g.R.Rack.slot g.R.Rack.told a b c.args.most (c.args.most + 1) (one_more c.args.most) was.steps);
      };
      rack = keeps_done was.serves.leaves;
    }

pub returns-in_err-stripes : goal.returns-in_err-stripes
returns-in_err-stripes g c =
    let a = c.args.core.now in
    let b = c.step_cells.new.core in
    let new = c.step_stripes.new.core in
    let was = c.in_ok-cells.ensures.steps in
    let from = c.from_residual-in_err-stripes in
    record {
      steps = none_done_if _ from.result _ from.ensures.1;
      rack = keeps_stepped a b new c.args.most 1 (c.args.most + 1) from.result from.ensures.1 (same_more c.args.most) was.serves.leaves was.steps c.in_err-stripes.ensures.rack;
    }

pub returns : goal.returns
returns g c =
    let a = c.args.core.now in
    let b = c.step_cells.new.core in
    let new = c.step_stripes.new.core in
    let was = c.in_ok-cells.ensures.steps in
    let more = c.in_ok-stripes.ensures.steps in
    let whole : b.meta.out ≡ No = sym c.out.ensures ∙ c.in-No.is in
    record {
      steps = record {
        serves = serves_then g.R.Rack.slot_count g.R.Rack.slot a b new c.args.most 1 (c.args.most + 1) (same_more c.args.most) was.serves more.serves;
        few = few_both _ _ _ was.few more.few;
        moves = up_to_more g.R.Rack.slot_count a b new _ c.args.most c.in_ok-cells.cells c.in_ok-stripes.stripes was.moves.moves whole was.serves.leaves.setup was.few more.moves;
        steps = steps_or_waits_then g.R.Rack.slot_count g.R.Rack.slot g.R.Rack.told a b new c.args.most 1 (c.args.most + 1) (same_more c.args.most) was.steps more.steps;
      };
      rack = keeps_done (leaves_array_then g.R.Rack.slot_count g.R.Rack.slot a b new was.serves.leaves more.serves.leaves);
    }
