use Rattle.std.proofs.Common.{List, sym, ◌∙◌, ap, subst, rules}
use Rattle.paraid_base.specs.declared.block.Block.{Block}
use Rattle.paraid_record.specs.declared.targets.Target.{Target}
use Rattle.paraid_record.specs.Targets.{AreTargets, targets_bytes, targets_of}
use Rattle.paraid_image.specs.Sides.{stored_block}
use Rattle.paraid_plain.specs.Images.{disks_in}
use Rattle.paraid_plain.specs.Statements.{batch_in}
use Rattle.paraid_plain.proofs.StatementLemmas.{batch_from-logged, targets-batch_at}
use Rattle.paraid_plain.proofs.side.open_statement.Goals as goal

pub returns-clause-some : goal.returns-clause-some
unfolding batch_in
returns-clause-some c =
    let log = stored_block (disks_in c.args.image.now) c.args.disk in
    let ts : List Target = targets_of c.in_ok-targets.targets in
    let found = c.in_ok-targets.ensures.some in
    let same = sym (targets-batch_at log 4 ts) in
    record {
      meta = search rules;
      in_range = subst (λ (l : List Target). AreTargets c.in_ok-meta.meta.setup.geometry l) same found.0;
      list = ap (λ (b : Block). b.bytes) (sym c.stored-2.ensures) ∙ found.1 ∙ ap targets_bytes same;
      blocks = batch_from-logged log 4 ts;
    }
