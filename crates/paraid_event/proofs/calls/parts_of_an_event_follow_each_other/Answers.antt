use Rattle.paraid_session.specs.Watch.{HoldsWhileServing, IsAllowed}
use Rattle.paraid_recover.proofs.BaseLemmas.{each_append}
use Rattle.paraid_event.proofs.calls.parts_of_an_event_follow_each_other.Goals as goal

pub returns : goal.returns
returns c slots h lo b setup asked w cs ds first second = each_append (HoldsWhileServing slots h lo b) (IsAllowed setup asked) w cs ds first second
