use Rattle.std.specs.Prelude.{length}
use Rattle.std.proofs.Common.{ap, sym, ◌∙◌}
use Rattle.paraid_dirty.proofs.TableLemmas.{rows_length}
use Rattle.paraid_dirty.proofs.table.DirtyTable.rows.Goals as goal

pub returns-clause-value : goal.returns-clause-value
returns-clause-value c = sym (rows_length c.self.inside.words.items c.self.inside.rows) ∙ ap length c.self.view_is
