use Rattle.paraid_event.proofs.QuietLemmas.{read_missing, write_missing}
use Rattle.paraid_event.proofs.quiet.a_missing_block_is_refused.Goals as goal

pub returns : goal.returns
returns c = record {
  read = λ told k setup p block at fit past. read_missing told k setup p at fit block past;
  write = λ told k setup p pairs block at fit missing. write_missing told k setup p at fit pairs block missing;
}
