use Rattle.std.proofs.Common.{ap, rules}
use Rattle.paraid_image.specs.Sides.{stored_block}
use Rattle.paraid_plain.specs.Images.{disks_in}
use Rattle.paraid_plain.specs.Statements.{batch_from, batch_in}
use Rattle.paraid_plain.proofs.side.closed_statement.Goals as goal

pub returns-clause-some : goal.returns-clause-some
unfolding batch_in
returns-clause-some c = record {
  meta = search rules;
  empty = ap (batch_from (stored_block (disks_in c.args.image.now) c.args.disk) 4) c.no_targets.ensures;
}
