use Rattle.std.proofs.Common.{ap, length, sym, unwrap_or, ◌∙◌}
use Rattle.paraid_trace.proofs.SpaceLemmas.{place_found}
use Rattle.paraid_trace.proofs.line.until_space.Goals as goal

pub returns-in-Some-clause-value : goal.returns-in-Some-clause-value
returns-in-Some-clause-value c =
    ap (λ r. unwrap_or r (length c.args.text.now)) (sym c.in-Some.is) ∙ place_found c.args.text.now c.memchr.result c.memchr.ensures

pub returns-in-None-clause-value : goal.returns-in-None-clause-value
returns-in-None-clause-value c =
    ap (λ r. unwrap_or r (length c.args.text.now)) (sym c.in-None.is) ∙ place_found c.args.text.now c.memchr.result c.memchr.ensures
