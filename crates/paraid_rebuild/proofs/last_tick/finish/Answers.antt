use Rattle.paraid_rebuild.proofs.last_tick.finish.Goals as goal

pub returns : goal.returns
returns g c =
    let all = c.conclude.ensures in
    record {
      serves = all.serves;
      absent = all.absent;
      back = all.back;
      named = all.named;
      lost = all.lost;
      keeps = all.keeps;
      stops = all.stops;
      event = all.event;
      loses = all.loses;
    }
