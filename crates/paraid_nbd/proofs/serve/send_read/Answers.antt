use Rattle.std.proofs.lemmas.Result.{IfErr-weaker}
use Rattle.paraid_nbd.proofs.ServiceLemmas.{unsent_then}
use Rattle.paraid_nbd.proofs.serve.send_read.Goals as goal

pub returns-clause-unsent : goal.returns-clause-unsent
returns-clause-unsent g c = IfErr-weaker c.send_bytes.result _ _ (λ e f. unsent_then c.in_ok-send.ensures.sends c.in_ok-send.ensures.later_sink f) c.send_bytes.ensures.unsent
