use Rattle.paraid_config.proofs.number.period.Goals as goal

pub returns : goal.returns
returns c =
    let said = c.number_or.ensures in
    record { value = said.value; low = said.low; accepted = said.accepted; err = said.err }
