use Rattle.paraid_event.proofs.RoomLemmas.{tick_room}
use Rattle.paraid_event.proofs.room.the_commits_of_a_tick_fit.Goals as goal

pub returns : goal.returns
returns c k s of range not = tick_room k s of range not
