use Rattle.paraid_event.proofs.FirstLemmas.{first_stands}
use Rattle.paraid_event.proofs.first.a_service_begins_at_the_first_point.Goals as goal

pub returns : goal.returns
returns c told s standing h spun k begins tells = first_stands told s standing h spun k begins tells
