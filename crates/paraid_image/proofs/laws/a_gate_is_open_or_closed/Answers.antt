use Rattle.paraid_image.proofs.GateLemmas.{gate_write_holds}
use Rattle.paraid_image.proofs.laws.a_gate_is_open_or_closed.Goals as goal

pub returns : goal.returns
returns c = gate_write_holds
