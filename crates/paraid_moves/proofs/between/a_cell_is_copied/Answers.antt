use Rattle.std.proofs.Common.{refl, [], true}
use Rattle.paraid_rack.specs.declared.call.Call.TheVariants.{Write}
use Rattle.paraid_rack.specs.Disks.{step}
use Rattle.paraid_image.specs.Content.{view_by}
use Rattle.paraid_image.specs.Standing.{contents}
use Rattle.paraid_image.specs.Value.{value}
use Rattle.paraid_moves.proofs.CellLemmas.{copies_cell, write_is_written}
use Rattle.paraid_moves.proofs.between.a_cell_is_copied.Goals as goal

pub returns : goal.returns
returns c = λ s d p q m cells after range none row low bit at there more copied.
    let b = value (view_by m s.power (contents s [])) q d in
    copies_cell s (step (Write d p b true) s) d p b (write_is_written s d p b) m cells after q range none row low bit at there refl more copied
