use Rattle.std.specs.Prelude.{◌≡◌, length}
use Rattle.paraid_dirty.specs.Table.{is_dirty}
use Rattle.paraid_core.specs.Undo.{AreOfTable, undo_changes}
use Rattle.paraid_core.proofs.plan.undo.Given as goal

abbrev pub invariant-loop-change : goal.invariant-loop-change
invariant-loop-change l = record {
  logged : AreOfTable (length l.dirty) l.changes;
  rows : length l.dirty ≡ length l.fn.dirty;
  bits : undo_changes l.changes (is_dirty l.dirty) ≡ undo_changes l.fn.changes (is_dirty l.fn.dirty);
}

abbrev pub decreases-loop-change : goal.decreases-loop-change
decreases-loop-change l = length l.changes
