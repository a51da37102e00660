use Rattle.std.proofs.Common.{subst}
use Rattle.paraid_base.specs.BlockAnswers.{AfterWrite, RefusesMany}
use Rattle.paraid_base.specs.History.{Entry}
use Rattle.paraid_base.proofs.PairsLemmas.{refuses_one}
use Rattle.paraid_blocks.proofs.blocks.Blocks.write.Goals as goal

pub returns-clause-missing : goal.returns-clause-missing
returns-clause-missing g c =
    let one = c.one.ensures.pairs in
    refuses_one _ c.args.block c.args.bytes.now c.write_many.result (subst (λ (e : Entry). RefusesMany (g.Self.Blocks.block_count c.args.self.now) e c.write_many.result) one c.write_many.ensures.missing)

pub returns-clause-history : goal.returns-clause-history
returns-clause-history g c = λ h stands tells.
    let one = c.one.ensures.pairs in
    subst (λ (e : Entry). AfterWrite (g.Self.Blocks.stands c.write_many.new.self) h e c.write_many.result) one (c.write_many.ensures.history h stands tells)
