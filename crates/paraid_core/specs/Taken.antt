-- What a batch holds once a draft was added to it, block by block.
use Rattle.std.specs.Prelude.{◌≡◌, ◌≢◌, ℕ, ◌+◌, ◌<◌, ◌≤◌, ◌⊎◌, ◌++◌, true, get_or, length, Option, Some, All, AllPairs}
use Rattle.paraid_base.specs.declared.block.Block.{Block}
use Rattle.paraid_base.specs.declared.geometry.Geometry.{Geometry}
use Rattle.paraid_base.specs.Log.{batch_room}
use Rattle.paraid_base.specs.Regions.{map_place_of}
use Rattle.paraid_image.specs.Neutral.{names_place}
use Rattle.paraid_image.specs.Sides.{Batch, targets}
use Rattle.paraid_image.specs.Standing.{overlaid_block}
use Rattle.paraid_plan.specs.Placed.{ArePlaced, IsPlaced}
use Rattle.paraid_rack.specs.Slots.{Slot}
use Rattle.paraid_record.specs.declared.meta.Meta.{Meta}
use Rattle.paraid_record.specs.declared.targets.Target.{Target}
use Rattle.paraid_record.specs.Targets.{IsTargetInRange, no_target}
use Rattle.paraid_txn.specs.Losses.{CanWrite}
use Rattle.paraid_txn.specs.Ready.{AreTargetsReady}

-- the targets of a batch are apart
abbrev pub AreApart : Batch → Type 0
AreApart batch = AllPairs (λ (s : Target) (t : Target). s ≢ t) (targets batch)

-- each target of a draft stands in the batch already
abbrev pub AreStaged : Batch → Batch → Type 0
AreStaged batch draft = (k : ℕ) → k < length draft → names_place batch
    (get_or (targets draft) k no_target).disk (get_or (targets draft) k no_target).place ≡ true

-- there is room for a draft, or each of its targets stands in the batch already
abbrev pub HasRoomFor : Batch → Batch → Type 0
HasRoomFor batch draft = (length batch + length draft ≤ batch_room) ⊎ AreStaged batch draft

-- there is room for the block of the map with the bits of a row on both log disks, or it stands in
-- the batch already
abbrev pub HasRoomForMap : Geometry → Batch → ℕ → Type 0
HasRoomForMap g batch r =
    (length batch + 2 ≤ batch_room) ⊎ ((names_place batch 0 (map_place_of g r) ≡ true)
    × (names_place batch 1 (map_place_of g r) ≡ true))

-- The draft is added to the batch, but for targets that a commit could not take; what could be
-- committed still can.
pub record IsTakenIn (m : Meta) (old draft new : Batch) : Type 0 where
  pub room : length new ≤ length old + length draft
  pub grows : length old ≤ length new
  pub some : ArePlaced m draft → 1 ≤ length draft → 1 ≤ length new
  pub apart : AreApart new
  pub laid_same : ArePlaced m draft
      → (d p : ℕ) (x : Block) → overlaid_block new d p x ≡ overlaid_block (old ++ draft) d p x
  pub each : All (IsTargetInRange m.setup.geometry) (targets old)
      → All (IsTargetInRange m.setup.geometry) (targets new)
  pub can : (skip : Option ℕ) (count : ℕ) (slot : ℕ → Slot) → ((t : Target)
      → IsPlaced m t → (t.disk < count) × (skip ≢ Some t.disk → CanWrite slot t.disk t.place))
      → AreTargetsReady skip count slot (targets old)
      → AreTargetsReady skip count slot (targets new)
