use Rattle.std.proofs.Common.{◌≡◌, ◌+◌, length, arith, inl, inr}
use Rattle.std.proofs.lemmas.Bool.{cases_lt}
use Rattle.paraid_schedule.proofs.RowLemmas.{bound_count-more}
use Rattle.paraid_schedule.proofs.check.are_right_in_each.Goals as goal

pub is_right_in-requires-clause-room : goal.is_right_in-requires-clause-room
is_right_in-requires-clause-room c =
    omega (arith, c.requires.count, bound_count-more c.args.setup.now.geometry c.args.ups (c.loop-t.t + 1) (length c.args.demand.now) (omega arith))

pub loop-t-preserved : goal.loop-t-preserved
loop-t-preserved c = λ k a low gear.
    elim (cases_lt k c.loop-t.t) [
      | inl before ↦ c.loop-t.invariant k a before gear
      | inr after ↦ (let same : k ≡ c.loop-t.t = omega arith in rw same (c.is_right_in.ensures.0 c.if-not-is_right_in.false a gear))
    ]
