use Rattle.std.proofs.Common.{◌∙◌, sym}
use Rattle.paraid_plan.proofs.PairLemmas.{changed_data, changed_parity, gives_not, gives_this}
use Rattle.paraid_plan.proofs.given.is_changed.Goals as goal

pub returns-then-d-p : goal.returns-then-d-p
returns-then-d-p c bytes n ws r ld parity given = sym (changed_parity n ws r c.args.d (c.if-d-p.true ∙ parity))

pub returns-in_default : goal.returns-in_default
returns-in_default c bytes n ws r ld parity given =
    sym (changed_data n ws r c.args.d (λ is. c.if-d-p.false (is ∙ sym parity)) ∙ gives_not bytes n ws r c.args.d c.args.given.now ld given c.in_default.not-Some)

pub returns : goal.returns
returns c bytes n ws r ld parity given =
    sym (changed_data n ws r c.args.d (λ is. c.if-d-p.false (is ∙ sym parity)) ∙ (gives_this bytes n ws r c.args.d _ c.args.given.now ld given c.in-Some.is).1)
