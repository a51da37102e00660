use Rattle.std.proofs.Common.{refl}
use Rattle.paraid_device.specs.Devices.{answers_in}
use Rattle.paraid_service.proofs.PointLemmas.{flush_low}
use Rattle.paraid_service.proofs.laws.a_flush_is_kept_at_each_later_point.Goals as goal

pub returns : goal.returns
returns c = λ slots setup p q turns went none number has. flush_low slots setup p q turns (answers_in turns) went refl none number has
