use Rattle.std.proofs.Common.{ap, sym, ◌∙◌, ◌++◌, take}
use Rattle.hex.specs.Hex.{encode_lower}
use Rattle.paraid_trace.proofs.PeriodLemmas.{IsBlockText-period, block_text-is}
use Rattle.paraid_trace.proofs.text.Text.push_block.Goals as goal

pub returns-clause-value : goal.returns-clause-value
returns-clause-value c =
    let block = c.args.block.now in
    let text = block_text-is block c.period.result c.period.ensures.value in
    let same = ap (λ bytes. encode_lower (take c.period.result bytes)) c.as_slice.ensures.value in
    c.push_hex.ensures.value ∙ ap (λ more. c.args.self.now ++ more) (same ∙ sym text)

pub returns-clause-text : goal.returns-clause-text
returns-clause-text c =
    let period = c.period.ensures in
    IsBlockText-period c.args.block.now c.period.result period.value period.low period.high period.repeats period.least
