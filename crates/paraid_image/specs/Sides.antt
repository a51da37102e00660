-- What a log disk says. Disks 0 and 1 are the log disks.
--
-- Place 0 of a log disk is its gate and place 1 its meta. Under an open gate there are also a
-- batch that is on its way, and the meta that it brings: the meta at place 2, the list of its
-- targets at place 3, and a block for each target, in their order, from place 4 on.
use Rattle.std.specs.Prelude.{◌≡◌, ◌≢◌, ℕ, ◌==◌, ◌&&◌, nat_lt, Bool, true, false, not, List, [], ◌∷◌, slice_index, if◌then◌else◌}
use Rattle.std.proofs.Common.{suc}
use Rattle.paraid_base.specs.declared.block.Block.{Block}
use Rattle.paraid_base.specs.Log.{body_place, list_place}
use Rattle.paraid_base.specs.Xor.{zero_block}
use Rattle.paraid_rack.specs.Disks.{Disks, IsPresent, is_present}
use Rattle.paraid_record.specs.declared.meta.Meta.{Meta}
use Rattle.paraid_record.specs.declared.targets.Target.{Target}
use Rattle.paraid_record.specs.Meta.{meta_bytes}
use Rattle.paraid_record.specs.Range.{IsInRange}
use Rattle.paraid_record.specs.Targets.{AreTargets, targets_bytes}

-- whether a disk is there and is large enough to have this place
abbrev pub has_place : Disks → ℕ → ℕ → Bool
has_place i d p = is_present (i.power d) && nat_lt p (i.size d)

-- the block at a place, zeros where there is no such place
unfoldable pub stored_block : Disks → ℕ → ℕ → Block
stored_block i d p = if has_place i d p then i.block d p else zero_block

-- a gate is closed where its first byte is 0
unfoldable pub is_open : Block → Bool
is_open gate = not (slice_index gate.bytes 0 == 0)

-- the block is the spelling of this meta, which is in range
pub record Spells (b : Block) (m : Meta) : Type 0 where
  pub in_range : IsInRange m
  pub bytes : b.bytes ≡ meta_bytes m

-- targets, each with the block that it gets
abbrev pub Batch : Type 0
Batch = List (Target × Block)

-- the targets of a batch, without their blocks
abbrev pub targets : Batch → List Target
targets [] = []
targets (w ∷ batch) = w.0 ∷ targets batch

-- the batch's blocks stand one after the other from place `p` on
abbrev pub AreBlocksLogged : (ℕ → Block) → ℕ → Batch → Type 0
AreBlocksLogged log p [] = Unit {0}
AreBlocksLogged log p (w ∷ batch) = (log p ≡ w.1) × AreBlocksLogged log (suc p) batch

-- what a log disk says: whether its gate is open, the meta, and the batch, which is empty under
-- a closed gate
pub record LogState : Type 0 where
  pub opened : Bool
  pub meta : Meta
  pub batch : Batch

-- what a log disk says, by its gate, its meta and its batch
abbrev pub log_state : Bool → Meta → Batch → LogState
log_state opened meta batch = record { opened = opened; meta = meta; batch = batch }

-- what a log disk says by a gate that is closed over this meta
abbrev pub closed_over : Meta → LogState
closed_over m = log_state false m []

-- under a closed gate
pub record SaysClosed (log : ℕ → Block) (m : Meta) (batch : Batch) : Type 0 where
  pub meta : Spells (log 1) m
  pub empty : batch ≡ []

-- under an open gate
pub record SaysOpen (log : ℕ → Block) (m : Meta) (batch : Batch) : Type 0 where
  pub meta : Spells (log 2) m
  pub in_range : AreTargets m.setup.geometry (targets batch)
  pub list : (log (list_place 0)).bytes ≡ targets_bytes (targets batch)
  pub blocks : AreBlocksLogged log (body_place 0) batch

-- what a log says under an open or a closed gate
abbrev pub SaysBy : Bool → (ℕ → Block) → Meta → Batch → Type 0
SaysBy false log m batch = SaysClosed log m batch
SaysBy true log m batch = SaysOpen log m batch

-- the side of log disk `x` is well formed, and says this
pub record Says (i : Disks) (x : ℕ) (said : LogState) : Type 0 where
  pub present : IsPresent i x
  pub gate : is_open (stored_block i x 0) ≡ said.opened
  pub log : SaysBy said.opened (stored_block i x) said.meta said.batch

-- the side of a log disk in short: no disk, a closed gate over zeros, a side that is not well
-- formed, or what a well-formed one says
pub data Side : Type 0 where
  absent : Side
  blank : Side
  bad : Side
  formed : LogState → Side

-- the side is not well formed, and is not blank
pub record IsBad (i : Disks) (x : ℕ) : Type 0 where
  pub present : IsPresent i x
  pub silent : (said : LogState) → Says i x said → ⊥
  pub written : is_open (stored_block i x 0) ≡ false → stored_block i x 1 ≢ zero_block

-- this is the side of log disk `x`
abbrev pub IsSide : Disks → ℕ → Side → Type 0
IsSide i x absent = is_present (i.power x) ≡ false
IsSide i x blank =
    IsPresent i x × (is_open (stored_block i x 0) ≡ false) × (stored_block i x 1 ≡ zero_block)
IsSide i x bad = IsBad i x
IsSide i x (formed said) = Says i x said
