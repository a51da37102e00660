-- What a call leaves of a plan.
use Rattle.std.specs.Prelude.{◌≡◌, ℕ, ◌+◌, ◌*◌, ◌≤◌, ◌==◌, ◌&&◌, Bool, List, Option, Some, Result, OnOk, IfErr, length}
use Rattle.paraid_base.specs.declared.block.Block.{Block}
use Rattle.paraid_base.specs.Cells.{parity_disk}
use Rattle.paraid_base.specs.History.{Entry}
use Rattle.paraid_image.specs.Out.{named_out}
use Rattle.paraid_plan.specs.declared.desk.WritePlan.{Ghosts}
use Rattle.paraid_plan.specs.RowBits.{TurnsBits, names_cell}
use Rattle.paraid_plan.specs.RowWrites.{AddsTargets, AreOldRead, StagesBlocks, TurnsRow, given_row}
use Rattle.paraid_record.specs.declared.meta.Meta.{Meta}

-- this at Ok, and else a read has failed
pub record Leaves {P A E : Type 0}
    (g : Ghosts P) (done : Type 0) (old new : P) (result : Result A E) : Type 0 where
  pub ok : OnOk result done
  pub fails : IfErr result (λ lost. g.fails new)
  pub leads : g.leads old new

-- nothing is staged, and what is in view stays
pub record StaysAsWas {P : Type 0} (g : Ghosts P) (m : Meta) (old new : P) : Type 0 where
  pub same : g.tells new → g.desk new ≡ g.desk old
  pub bits : (g.desk new).dirty ≡ (g.desk old).dirty
  pub staged : length (g.desk new).staged ≡ length (g.desk old).staged
  pub changes : g.changes new ≡ g.changes old
  pub goes_on : g.serves new m

-- Pairs are written in row `r`, so many as lie in it: its cells have their bytes, and where the old
-- values of the cells that all pairs of the write change were kept, those of the cells that are
-- left are.
pub record WritesCells {P : Type 0} (g : Ghosts P) (m : Meta) (all written : Entry)
    (r count : ℕ) (olds olds_then : List (Option Block)) (old new : P) : Type 0 where
  pub adds : g.tells new → AddsTargets m (g.desk old) (g.desk new)
  pub turns : g.tells new → (row : ℕ → Block) → AreOldRead m (g.desk old) all r olds row
      → TurnsRow m r (g.desk old) (g.desk new) row (given_row m.setup.geometry.disks written r row)
  pub reads : g.tells new → (row : ℕ → Block) → AreOldRead m (g.desk old) all r olds row
      → AreOldRead m (g.desk new) all r olds_then (given_row m.setup.geometry.disks written r row)
  pub kept : length olds_then ≡ length olds
  pub parity : g.tells new → (g.desk new).dirty r (parity_disk m.setup.geometry.disks r)
      ≡ (g.desk old).dirty r (parity_disk m.setup.geometry.disks r)
  pub bits : TurnsBits m (g.desk old).dirty (g.desk new).dirty (λ q e.
      q == r && names_cell m.setup.geometry.disks written r e)
  pub room : length (g.desk new).staged ≤ length (g.desk old).staged + 4 * count
  pub some : g.tells new → named_out m.out ≡ Some (parity_disk m.setup.geometry.disks r)
      → length (g.desk old).staged + count ≤ length (g.desk new).staged
  pub changes : g.changes new ≡ g.changes old + count
  pub goes_on : g.serves new m

-- Some pairs of one row are written with the row's parity: this is made of each block, the bits of
-- these cells are turned, and at least one target is staged if there is a pair.
pub record WritesRow {P : Type 0} (g : Ghosts P) (m : Meta)
    (pairs : ℕ) (change : ℕ → Block → Block) (turned : ℕ → ℕ → Bool) (old new : P) : Type 0 where
  pub write : g.tells new → StagesBlocks m (g.desk old) (g.desk new) change
  pub bits : TurnsBits m (g.desk old).dirty (g.desk new).dirty turned
  pub few : length (g.desk new).staged ≤ length (g.desk old).staged + 10 * pairs
  pub grows : g.tells new → 1 ≤ pairs → length (g.desk old).staged + 1 ≤ length (g.desk new).staged
  pub changes : g.changes new ≤ g.changes old + 2 * pairs
  pub goes_on : g.serves new m
