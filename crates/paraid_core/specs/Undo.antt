-- The dirty bits as they were before a plan.
use Rattle.std.specs.Prelude.{ℕ, ◌<◌, Bool, List, [], ◌∷◌}
use Rattle.std.specs.List.{AllByRecursion}
use Rattle.paraid_core.specs.declared.changes.Change.{Change}
use Rattle.paraid_dirty.specs.Table.{table_with_bit}

-- these bits with the changes undone, the last one first
abbrev pub undo_changes : List Change → (ℕ → ℕ → Bool) → ℕ → ℕ → Bool
undo_changes [] dirty = dirty
undo_changes (c ∷ changes) dirty = table_with_bit (undo_changes changes dirty) c.row c.disk c.was

-- each of them is of a cell of the table
abbrev pub AreOfTable : ℕ → List Change → Type 0
AreOfTable rows = AllByRecursion (λ (c : Change). (c.row < rows) × (c.disk < 8))
