use Rattle.paraid_recover.proofs.HeldAtRestLemmas.{rest_parked}
use Rattle.paraid_recover.proofs.laws_of_recovery.a_disk_can_be_parked_at_rest.Goals as goal

pub returns : goal.returns
returns c slots s m d h lo down rest held = rest_parked slots s m h lo down rest held d
