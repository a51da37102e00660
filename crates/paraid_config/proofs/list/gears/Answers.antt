use Rattle.paraid_config.proofs.list.gears.Goals as goal

pub returns-in-Err : goal.returns-in-Err
returns-in-Err c = record { value = tt; count = tt; accepted = tt; err = c.in-Err.ensures.err }
