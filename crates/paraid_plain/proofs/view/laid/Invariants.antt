use Rattle.std.proofs.Common.{◌≡◌, drop}
use Rattle.paraid_base.specs.Log.{body_place}
use Rattle.paraid_record.specs.Targets.{targets_of}
use Rattle.paraid_image.specs.Sides.{stored_block}
use Rattle.paraid_image.specs.Standing.{overlaid_block}
use Rattle.paraid_plain.specs.Images.{disks_in}
use Rattle.paraid_plain.specs.Statements.{batch_from}
use Rattle.paraid_plain.proofs.view.laid.Given as goal

abbrev pub invariant-loop-at : goal.invariant-loop-at
invariant-loop-at l =
    let log = stored_block (disks_in l.image) l.says.disk in
    overlaid_block (batch_from log 4 (targets_of l.says.targets)) l.disk l.place (stored_block (disks_in l.image) l.disk l.place)
    ≡ overlaid_block (batch_from log (body_place l.at) (drop l.at (targets_of l.says.targets))) l.disk l.place l.block
