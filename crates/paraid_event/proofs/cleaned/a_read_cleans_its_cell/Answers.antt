use Rattle.paraid_event.proofs.CleanedLemmas.{read_bits}
use Rattle.paraid_event.proofs.cleaned.a_read_cleans_its_cell.Goals as goal

pub returns : goal.returns
returns c k k_then block cleans s of r d low = read_bits k k_then block cleans s of r d low
