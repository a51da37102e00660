use Rattle.paraid_service.proofs.FlushLemmas.{leaves_flushed}
use Rattle.paraid_service.proofs.laws.a_stop_leaves_each_call_before_a_flush.Goals as goal

pub returns : goal.returns
returns c = leaves_flushed
