use Rattle.std.proofs.Common.{◌≡◌, ℕ, ℤ, ◌≤◌, pos, rules, w64, SFits, subst}
use Rattle.std.proofs.lemmas.Int.{to_z-of_z}
use Rattle.std.specs.Prelude.{IfOk}
use Rattle.paraid_config.proofs.NumberLemmas.{range_accepted, range_refused}
use Rattle.paraid_config.proofs.number.in_range.Goals as goal

pub returns : goal.returns
returns c =
    let fits : SFits w64 c.args.value = search rules in
    let same = to_z-of_z w64 c.args.value fits in
    let low = c.limits-low.ensures.low in
    let high = c.limits-low.ensures.high in
    record {
      value = subst (λ (z : ℤ). IfOk c.within.result (λ n. z ≡ pos n)) same c.within.ensures.value;
      low = subst (λ (b : ℕ). IfOk c.within.result (λ n. b ≤ n)) low c.within.ensures.low;
      high = subst (λ (b : ℕ). IfOk c.within.result (λ n. n ≤ b)) high c.within.ensures.high;
      accepted = range_accepted c.args.key _ _ _ c.args.value same c.within.result low high c.within.ensures.accepted;
      err = range_refused c.args.key _ _ _ c.args.value same c.within.result low high c.within.ensures.err;
    }
