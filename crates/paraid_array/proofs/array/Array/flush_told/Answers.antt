use Rattle.paraid_array.proofs.array.Array.flush_told.Goals as goal

pub flush-requires : goal.flush-requires
flush-requires g c = record { going = c.requires.going }

pub returns-in-Ok : goal.returns-in-Ok
returns-in-Ok g c = record { answers = c.in-Ok.ensures.answers }

pub returns-in-Err : goal.returns-in-Err
returns-in-Err g c = record { answers = c.in-Err.ensures.answers }
