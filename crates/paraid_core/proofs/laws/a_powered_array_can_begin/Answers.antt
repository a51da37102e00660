use Rattle.paraid_core.proofs.BeginLemmas.{powered_ready, powered_serves}
use Rattle.paraid_core.proofs.laws.a_powered_array_can_begin.Goals as goal

pub returns : goal.returns
returns c = record {
  ready = λ count slot last array named m rows powered shape epoch height. powered_ready count slot named m powered last array rows shape epoch height;
  serves = powered_serves;
}
