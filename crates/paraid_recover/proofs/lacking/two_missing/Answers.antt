use Rattle.std.proofs.Common.{arith, rules, sym, ◌∙◌}
use Rattle.paraid_recover.proofs.LackingLemmas.{none_lacking, one_lacking}
use Rattle.paraid_recover.proofs.lacking.two_missing.Goals as goal

pub returns-in_err-least : goal.returns-in_err-least
returns-in_err-least g c = record {
  some = search rules;
  none = λ none. none_lacking (g.R.Rack.slot c.args.rack.now) c.args.meta.now (λ d low. c.in_err-least.ensures d (omega arith) low);
}

pub returns-in_err-other : goal.returns-in_err-other
returns-in_err-other g c = record {
  some = search rules;
  none = λ none. one_lacking (g.R.Rack.slot c.args.rack.now) c.args.meta.now c.in_ok-least.least (sym c.named.ensures ∙ c.in_default.is) (λ d low. c.in_ok-least.ensures.3 d (omega arith) low) (λ d high low. c.in_err-other.ensures d (omega arith) low);
}
