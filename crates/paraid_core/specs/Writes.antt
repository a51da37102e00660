-- What a staged write makes of what a core stands for.
use Rattle.std.specs.Prelude.{◌≡◌, ℕ, ◌+◌, ◌*◌, ◌<◌, ◌≤◌, false, List, Bool, [], ◌∷◌, ◌++◌, length, Option, Some}
use Rattle.paraid_base.specs.declared.block.Block.{Block}
use Rattle.paraid_base.specs.History.{Entry, History}
use Rattle.paraid_base.specs.Regions.{map_count}
use Rattle.paraid_dirty.specs.Table.{is_dirty}
use Rattle.paraid_plan.specs.Desk.{Desk}
use Rattle.paraid_plan.specs.RowWrites.{StageAll}
use Rattle.paraid_rack.specs.Disks.{Disks, is_present}
use Rattle.paraid_record.specs.declared.meta.Meta.{Meta}
use Rattle.paraid_record.specs.Range.{IsInRange}
use Rattle.paraid_image.specs.Rest.{IsAtRest}
use Rattle.paraid_image.specs.Content.{view_by}
use Rattle.paraid_image.specs.Out.{named_out, out_disk}
use Rattle.paraid_image.specs.Sides.{Batch}
use Rattle.paraid_image.specs.Sound.{ContentOk, AreWitnessesTrue}
use Rattle.paraid_image.specs.Standing.{contents, overlaid_block}
use Rattle.paraid_core.specs.CoreInvariant.{HoldsBetweenCalls, IsWitnessBorne}

-- the desk of a plan that begins over these disks
pub record IsFirstDesk (m : Meta) (batch : Batch) (s : Disks) (desk : Desk) : Type 0 where
  pub block : desk.block ≡ contents s batch
  pub dirty : (r d : ℕ) → r < 512 * map_count m.setup.geometry
      → desk.dirty r d ≡ (view_by m s.power (contents s batch)).dirty r d
  pub staged : desk.staged ≡ []

-- All that a plan has staged was added to the batch, which is not empty then, and its bits set in
-- the table.
pub record IsTaken (m : Meta)
    (batch batch_then : Batch) (table_then : List (List Bool)) (desk : Desk) : Type 0 where
  pub laid_same : (d p : ℕ) (x : Block)
      → overlaid_block batch_then d p x ≡ overlaid_block (batch ++ desk.staged) d p x
  pub some : 1 ≤ length batch_then
  pub bits : (r d : ℕ)
      → r < 512 * map_count m.setup.geometry → is_dirty table_then r d ≡ desk.dirty r d

-- A write of several blocks that was planned and taken adds one entry to the writes that a core
-- stands for.
abbrev pub TakenWriteKeeps : Type 0
TakenWriteKeeps = (slots : ℕ)
    (named : Option ℕ) (m : Meta) (table table_then : List (List Bool)) (batch batch_then : Batch)
    (copied : List Bool) (h : History) (lo : ℕ) (s : Disks) (before after : Desk) (entry : Entry)
    → IsInRange m → ((d : ℕ) → d < m.setup.geometry.disks → is_present (s.power d) ≡ false
    → named_out m.out ≡ Some d) → HoldsBetweenCalls slots named m table batch copied h lo s
    → IsFirstDesk m batch s before → StageAll m before after entry
    → IsTaken m batch batch_then table_then after → HoldsBetweenCalls slots named
    (record m { writes = m.writes + 1 }) table_then batch_then copied (h ++ entry ∷ []) lo s

-- After a mount, with nothing staged: what a core stands for as it begins. The witnesses are true,
-- and one is borne against a log disk that is named out.
abbrev pub RestKeeps : Type 0
RestKeeps = (slots : ℕ) (m : Meta) (table : List (List Bool)) (copied : List Bool)
    (h : History) (lo : ℕ) (s : Disks) → IsAtRest s m → AreWitnessesTrue s (out_disk s.power m)
    → IsWitnessBorne (named_out m.out) s → m.writes ≡ length h → lo ≤ length h
    → ContentOk slots s.power s.size (view_by m s.power (contents s [])) h (length h)
    → ((r d : ℕ) → r < 512 * map_count m.setup.geometry
    → is_dirty table r d ≡ (view_by m s.power (contents s [])).dirty r d)
    → HoldsBetweenCalls slots (named_out m.out) m table [] copied h lo s
