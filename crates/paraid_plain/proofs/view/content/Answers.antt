use Rattle.std.proofs.Common.{sym, ◌∙◌}
use Rattle.paraid_plain.proofs.view.content.Goals as goal
use Rattle.paraid_plain.proofs.ViewLemmas.{contents-there}
use Rattle.paraid_plain.specs.Images.{disks_in}
use Rattle.paraid_plain.specs.Statements.{batch_in}
use Rattle.paraid_plain.specs.Views.{block_at}

pub returns : goal.returns
unfolding block_at
returns c =
    let image = c.args.image.now in
    let has = sym c.has_place.ensures ∙ c.if-not-has_place.false in
    c.laid.ensures ∙ sym (contents-there (disks_in image) (batch_in image c.args.says.now) c.args.disk c.args.place c.if-place-lt-MAP_START.false has)
