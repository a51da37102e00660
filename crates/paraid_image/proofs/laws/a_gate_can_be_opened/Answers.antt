use Rattle.paraid_image.proofs.OpenLemmas.{IsSoundAt-opened, open_holds}
use Rattle.paraid_image.proofs.laws.a_gate_can_be_opened.Goals as goal

pub returns : goal.returns
returns c = record { sound = IsSoundAt-opened; held = open_holds }
