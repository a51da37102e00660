use Rattle.std.proofs.Common.{ℕ, List, arith, subst}
use Rattle.std.proofs.lemmas.List.{take_all}
use Rattle.paraid_volume.specs.Names.{IsName}
use Rattle.paraid_volume.proofs.NameLemmas.{first_letters, first_name}
use Rattle.paraid_volume.proofs.name.Name.as_slice.Goals as goal

pub returns-then-self-at-eq0-clause-name : goal.returns-then-self-at-eq0-clause-name
returns-then-self-at-eq0-clause-name c =
    let n = c.args.self.now in
    let below = c.loop-at-test.true in
    first_name n.text c.loop-at.at n.whole n.field (omega (arith, below)) c.loop-at.invariant n.some (λ l. c.if-self-at-eq0.true)

pub returns-then-self-at-eq0-clause-letters : goal.returns-then-self-at-eq0-clause-letters
returns-then-self-at-eq0-clause-letters c =
    let n = c.args.self.now in
    let below = c.loop-at-test.true in
    first_letters n.text c.loop-at.at n.whole n.field (omega (arith, below)) c.loop-at.invariant (λ l. c.if-self-at-eq0.true)

pub returns-clause-name : goal.returns-clause-name
returns-clause-name c =
    let n = c.args.self.now in
    let past = c.loop-at-test.false in
    let whole = n.whole in
    subst (λ (x : List ℕ). IsName x) (take_all 16 n.text (omega (arith, whole)))
    (first_name n.text 16 n.whole n.field (omega arith) (λ k l. c.loop-at.invariant k (omega (arith, l, past))) n.some (λ l. let no : ⊥ = omega (arith, l) in absurd no))
