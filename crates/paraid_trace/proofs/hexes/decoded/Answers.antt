use Rattle.std.proofs.Common.{◌∙◌, ap, sym, inl, inr}
use Rattle.std.proofs.lemmas.Bool.{cases_lt, lt-ltb, le-ltb}
use Rattle.paraid_trace.specs.Asked.{if_read}
use Rattle.paraid_trace.specs.Repeats.{repeating_block}
use Rattle.paraid_trace.proofs.HexLemmas.{block_from_digits-odd, block_from_digits-read, block_from_digits-refused}
use Rattle.paraid_trace.proofs.hexes.decoded.Goals as goal

pub returns-then-digits-eq1-clause-value : goal.returns-then-digits-eq1-clause-value
returns-then-digits-eq1-clause-value c = block_from_digits-odd c.args.digits.now c.requires.low c.requires.high c.if-digits-eq1.true

pub returns-clause-value : goal.returns-clause-value
returns-clause-value c =
    let digits = c.args.digits.now in
    let g = c.greatest.ensures in
    elim (cases_lt c.greatest.result 16) [
      | inl lt ↦ block_from_digits-read digits _ c.requires.low c.requires.high c.if-digits-eq1.false (g.read lt) ∙ ap (λ b. if_read b (repeating_block c.greatest.new.room)) (sym (lt-ltb c.greatest.result 16 lt))
      | inr le ↦ block_from_digits-refused digits c.requires.low c.requires.high c.if-digits-eq1.false (g.refused le) ∙ ap (λ b. if_read b (repeating_block c.greatest.new.room)) (sym (le-ltb c.greatest.result 16 le))
    ]
