use Rattle.paraid_image.proofs.CloseLemmas.{IsSoundAt-closed, close_holds}
use Rattle.paraid_image.proofs.laws.a_gate_can_be_closed.Goals as goal

pub returns : goal.returns
returns c = record { sound = IsSoundAt-closed; held = close_holds }
