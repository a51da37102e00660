use Rattle.std.proofs.Common.{◌∙◌, ap}
use Rattle.std.specs.Prelude.{Bool, List}
use Rattle.paraid_dirty.specs.Table.{is_dirty}
use Rattle.paraid_scrub.proofs.whole.CoreStored.is_dirty.Goals as goal

pub returns : goal.returns
returns g c v s = c.has.ensures ∙ ap (λ (t : List (List Bool)). is_dirty t c.args.row c.args.disk) c.dirty.ensures ∙ s.bits c.args.row c.args.disk c.requires.row
