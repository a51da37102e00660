use Rattle.std.proofs.Common.{◌≡◌, ◌+◌, ◌-◌, length, slice_index, arith, inl, inr, ◌∙◌}
use Rattle.paraid_schedule.proofs.RowLemmas.{bound_count-more}
use Rattle.std.proofs.lemmas.Bool.{cases_lt}
use Rattle.paraid_schedule.proofs.SolvedLemmas.{IsSolvedAt-same}
use Rattle.paraid_schedule.proofs.planner.solve_periods.Goals as goal

pub solve_period-requires : goal.solve_period-requires
solve_period-requires c = record {
  ups = c.requires.ups;
  period = omega (arith, c.requires.periods);
  room = omega (arith, c.requires.count, bound_count-more c.args.setup.now.geometry c.args.ups (c.loop-t.t - 1 + 1) (length c.args.demand.now) (omega arith));
  most = c.loop-t.invariant.most;
}

pub loop-t-preserved : goal.loop-t-preserved
loop-t-preserved c =
    let s = c.args.setup.now in
    let old = c.loop-t.bounds in
    let new = c.solve_period.new.bounds in
    let at = c.loop-t.t - 1 in
    let same = c.solve_period.ensures.same in
    record {
      solved = λ t from low a is.
          elim (cases_lt at t) [
            | inl after ↦ IsSolvedAt-same s c.args.ups t old new (slice_index c.args.demand.now t) a is (λ left few. same t after a left is few) (same (t + 1) (omega arith)) (c.loop-t.invariant.solved t (omega arith) low a is)
            | inr before ↦ (let here : t ≡ at = omega arith in rw here (c.solve_period.ensures.solved a is))
          ];
      end = λ a left is few. same (length c.args.demand.now) (omega arith) a left is few ∙ c.loop-t.invariant.end a left is few;
      most = c.solve_period.ensures.most;
    }

pub returns : goal.returns
returns c =
    let now = c.loop-t.invariant in
    record { count = c.loop-t.auto.bounds ∙ c.requires.count; most = now.most; end = now.end; solved = λ t from low a is. now.solved t (omega arith) low a is }
