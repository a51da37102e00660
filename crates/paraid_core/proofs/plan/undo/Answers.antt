use Rattle.std.proofs.Common.{◌∙◌, ℕ, subst, sym, length}
use Rattle.paraid_dirty.specs.Table.{is_dirty}
use Rattle.paraid_core.specs.Undo.{AreOfTable}
use Rattle.paraid_core.proofs.PlanLemmas.{logged_last, undone_last}
use Rattle.paraid_core.proofs.plan.undo.Goals as goal

pub loop-change-preserved : goal.loop-change-preserved
loop-change-preserved c =
    let at = c.loop-change.invariant in
    let parts = logged_last (length c.loop-change.dirty) c.loop-change.changes c.pop.new.self c.in-Some.change c.in-Some.ensures at.logged in
    record {
      logged = subst (λ (n : ℕ). AreOfTable n c.pop.new.self) (sym c.put.ensures.rows) parts.0;
      rows = c.put.ensures.rows ∙ at.rows;
      bits = undone_last c.loop-change.changes c.pop.new.self c.in-Some.change (is_dirty c.loop-change.dirty) (is_dirty c.put.new.self) c.in-Some.ensures c.put.ensures.cells ∙ at.bits;
    }
