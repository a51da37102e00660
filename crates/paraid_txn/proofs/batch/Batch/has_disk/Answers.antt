use Rattle.std.proofs.Common.{rules}
use Rattle.paraid_txn.proofs.StagedLemmas.{names_disk-held}
use Rattle.paraid_txn.proofs.batch.Batch.has_disk.Goals as goal

pub returns : goal.returns
returns c = rw (← c.self.view_is, names_disk-held c.self.inside.staged.items c.args.disk) (search rules)
