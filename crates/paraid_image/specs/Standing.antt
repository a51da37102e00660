-- Which log disk stands, and what the blocks past the log are then.
use Rattle.std.specs.Prelude.{◌≡◌, ℕ, ◌-◌, ◌<◌, ◌==◌, ◌&&◌, ◌||◌, nat_lt, Bool, true, not, [], ◌∷◌, Option, Some, None, if◌then◌else◌}
use Rattle.std.proofs.Common.{zero, suc}
use Rattle.paraid_base.specs.declared.block.Block.{Block}
use Rattle.paraid_base.specs.Log.{log_least}
use Rattle.paraid_base.specs.Xor.{zero_block}
use Rattle.paraid_rack.specs.Disks.{Disks}
use Rattle.paraid_image.specs.Sides.{Batch, LogState, Says, Side, has_place}
use Rattle.paraid_image.specs.Sides.Side.{formed}

-- whether disk 0 stands where the two log disks say this: it has the greater epoch; or the epochs
-- are the same, and its gate is closed or that of disk 1 is open
abbrev pub is_first : LogState → LogState → Bool
is_first a b =
    nat_lt b.meta.epoch a.meta.epoch || (a.meta.epoch == b.meta.epoch && (not a.opened || b.opened))

-- the log disk that stands, by the sides of disk 0 and of disk 1
abbrev pub standing : Side → Side → Option ℕ
standing (formed a) (formed b) = if is_first a b then Some 0 else Some 1
standing (formed a) b = Some 0
standing a (formed b) = Some 1
standing a b = None

-- the other log disk
abbrev pub other_log : ℕ → ℕ
other_log x = 1 - x

-- whether what log disk `x` says stands before what the other one says
abbrev pub stands_before : ℕ → LogState → LogState → Bool
stands_before zero mine other = is_first mine other
stands_before (suc x) mine other = not (is_first other mine)

-- log disk `x` stands, and says this
pub record Stands (i : Disks) (x : ℕ) (said : LogState) : Type 0 where
  pub log_disk : x < 2
  pub says : Says i x said
  pub first : (other : LogState) → Says i (other_log x) other → stands_before x said other ≡ true

-- a block with the batch laid over
abbrev pub overlaid_block : Batch → ℕ → ℕ → Block → Block
overlaid_block [] d p b = b
overlaid_block (w ∷ batch) d p b =
    overlaid_block batch d p (if w.0.disk == d && w.0.place == p then w.1 else b)

-- blocks by disk and place
abbrev pub Contents : Type 0
Contents = ℕ → ℕ → Block

-- the blocks past the log, with the batch laid over them; zeros where there is no block
unfoldable pub contents : Disks → Batch → Contents
contents i batch d p = if nat_lt p log_least then zero_block
    else (if has_place i d p then overlaid_block batch d p (i.block d p) else zero_block)
