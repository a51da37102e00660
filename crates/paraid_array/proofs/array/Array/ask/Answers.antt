use Rattle.paraid_upkeep.specs.Directions.{asked_event}
use Rattle.paraid_array.proofs.AskedLemmas.{asked_may_halt}
use Rattle.paraid_array.proofs.StandLemmas.{none_ended}
use Rattle.paraid_array.proofs.array.Array.ask.Goals as goal

pub wear_out-requires : goal.wear_out-requires
wear_out-requires g c =
    let many = c.in-Some.ensures.worn in
    record { going = c.requires.going; many = many.0; is = many.1 }

pub returns-in-Some : goal.returns-in-Some
returns-in-Some g c = record { answers = c.wear_out.ensures.answers (asked_event c.args.direction) (asked_may_halt c.args.direction) }

pub ask_there-requires : goal.ask_there-requires
ask_there-requires g c =
    let fit = c.in_default.ensures.fit in
    record { going = none_ended c.args.self.now.ended c.requires.going; epoch = fit.0; writes = fit.1 }

pub returns : goal.returns
returns g c = record { answers = c.ask_there.ensures.answers }
