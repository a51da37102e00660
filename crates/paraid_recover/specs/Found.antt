-- Whether a log disk says that it belongs to an array.
use Rattle.std.specs.Prelude.{◌≡◌, ℕ, ◌<◌, ◌≤◌, max, Bool, true, false, List, Option, Some, None}
use Rattle.paraid_base.specs.declared.block.Block.{Block}
use Rattle.paraid_base.specs.Log.{list_place}
use Rattle.paraid_rack.specs.declared.call.Power.TheVariants.{Spinning}
use Rattle.paraid_rack.specs.Disks.{Disks}
use Rattle.paraid_record.specs.declared.meta.Meta.{Meta}
use Rattle.paraid_record.specs.declared.targets.Target.{Target}
use Rattle.paraid_record.specs.Targets.{AreTargets, targets_bytes}
use Rattle.paraid_image.specs.Sides.{Spells, is_open, stored_block}

-- by a closed gate the meta at place 1, by an open one the meta at place 2 with a list of targets
abbrev pub IsMetaUnder : Bool → (ℕ → Block) → Meta → Type 0
IsMetaUnder false log m = Spells (log 1) m
IsMetaUnder true log m = Spells (log 2) m × (ts : List Target)
    × AreTargets m.setup.geometry ts × ((log (list_place 0)).bytes ≡ targets_bytes ts)

-- the log disk is well formed, and this is its meta
abbrev pub IsFormedMeta : Disks → ℕ → Meta → Type 0
IsFormedMeta i x m = IsMetaUnder (is_open (stored_block i x 0)) (stored_block i x) m

-- it is, exactly where there is a meta
abbrev pub IsMetaOf : Disks → ℕ → Option Meta → Type 0
IsMetaOf i x (Some m) = IsFormedMeta i x m
IsMetaOf i x None = (m : Meta) → IsFormedMeta i x m → ⊥

-- the log disk spins, has room for a log's head, and says that it belongs to an array
pub record IsFound (i : Disks) (x : ℕ) (m : Meta) : Type 0 where
  pub log_disk : x < 2
  pub spinning : i.power x ≡ Spinning
  pub large : 4 ≤ i.size x
  pub formed : IsFormedMeta i x m

-- what one log disk says of its epoch
abbrev pub IsEpochOf : Disks → ℕ → Option ℕ → Type 0
IsEpochOf i x (Some e) = (m : Meta) × IsFound i x m × (m.epoch ≡ e)
IsEpochOf i x None = (m : Meta) → IsFound i x m → ⊥

-- the greatest epoch that a log disk says
pub record IsGreatest (i : Disks) (e : ℕ) : Type 0 where
  pub disk : ℕ
  pub meta : Meta
  pub found : IsFound i disk meta
  pub epoch : meta.epoch ≡ e
  pub greatest : (x : ℕ) (m : Meta) → IsFound i x m → m.epoch ≤ e

-- no log disk says that it belongs to an array
abbrev pub IsUnclaimed : Disks → Type 0
IsUnclaimed i = (x : ℕ) (m : Meta) → IsFound i x m → ⊥

-- the greatest epoch, where there is one
abbrev pub IsGreatestOf : Disks → Option ℕ → Type 0
IsGreatestOf i (Some e) = IsGreatest i e
IsGreatestOf i None = IsUnclaimed i

-- the greater of two epochs
abbrev pub greater_of : Option ℕ → Option ℕ → Option ℕ
greater_of None second = second
greater_of (Some a) None = Some a
greater_of (Some a) (Some b) = Some (max a b)
