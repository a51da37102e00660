use Rattle.paraid_nbd.proofs.DeviceLemmas.{bytes_from-blocks}
use Rattle.paraid_nbd.proofs.export.export_is_the_blocks_joined.Goals as goal

pub returns : goal.returns
returns c = λ h count. bytes_from-blocks h 0 count
