use Rattle.std.proofs.Common.{ap, ◌∙◌}
use Rattle.paraid_recover.specs.Mounted.{with_loss}
use Rattle.paraid_commands.proofs.TellLemmas.{told_alike}
use Rattle.paraid_commands.proofs.laws.a_mounted_array_is_told_as_its_first_point.Goals as goal

pub returns : goal.returns
returns c slots side said m dirty old new t p settled tells first mark =
    told_alike slots m settled.standing dirty new t p tells (settled.is ∙ ap (with_loss settled.standing) (settled.lost_is t tells)) first mark
