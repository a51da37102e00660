use Rattle.std.specs.Prelude.{◌≢◌, ℕ, Option, Some}
use Rattle.std.proofs.Common.{subst}
use Rattle.paraid_image.specs.Standing.{other_log}
use Rattle.paraid_recover.proofs.ExaminedLogLemmas.{are_unpaired, formed_side}
use Rattle.paraid_recover.proofs.standing.refusal_by_pair.Goals as goal

pub returns-in_default : goal.returns-in_default
returns-in_default c pair = c.in_default.ensures _ _ (formed_side _ _ _ pair.says_first).0

pub returns-in_default-standing_by : goal.returns-in_default-standing_by
returns-in_default-standing_by c pair = c.in_default-standing_by.ensures _ _ (formed_side _ _ _ pair.says_second).0

pub returns : goal.returns
returns c =
    are_unpaired c.args.sides.now c.args.first.now c.args.second.now _ _ _ _ c.in-Some.ensures.1 c.in-Some-standing_by.ensures.1
    (subst (λ (o : Option ℕ). (o ≢ Some 0) × (o ≢ Some 1)) c.standing_out.ensures (c.is_log_out.ensures.no c.if-is_log_out.false)) (c.fit_together.ensures.no c.if-fit_together.false)
    (other_log c.args.side) c.unpaired_fault.result c.unpaired_fault.ensures
