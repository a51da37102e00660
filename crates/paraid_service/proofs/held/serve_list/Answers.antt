use Rattle.paraid_service.proofs.HeldLemmas.{serves_list}
use Rattle.paraid_service.proofs.held.serve_list.Goals as goal

pub returns : goal.returns
returns g c = serves_list g.B.Blocks c.args.volumes.now c.tell_list.new.into c.requires.going c.tell_list.ensures
