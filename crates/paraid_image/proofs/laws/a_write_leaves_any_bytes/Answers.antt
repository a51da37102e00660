use Rattle.paraid_image.proofs.CallLemmas.{back_again, write_image}
use Rattle.paraid_image.proofs.laws.a_write_leaves_any_bytes.Goals as goal

pub returns : goal.returns
returns c = record { before = write_image; after = back_again }
