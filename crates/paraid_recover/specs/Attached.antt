-- Fresh disks, and the metas on them.
use Rattle.std.specs.Prelude.{◌≡◌, ◌≢◌, ℕ, ◌<◌, ◌≤◌, false}
use Rattle.paraid_base.specs.declared.block.Block.{Block}
use Rattle.paraid_base.specs.Xor.{zero_block}
use Rattle.paraid_rack.specs.declared.call.Power.TheVariants.{Spinning}
use Rattle.paraid_rack.specs.Disks.{Disks, IsImage}
use Rattle.paraid_rack.specs.Slots.{Slot}
use Rattle.paraid_record.specs.declared.meta.Meta.{Meta}
use Rattle.paraid_image.specs.Formatted.{IsFormatted}

-- a slot with a fresh disk of so many blocks
abbrev pub fresh_slot : ℕ → Slot → Slot
fresh_slot size s = record { power = Spinning; size = size; unsynced = false; faults = s.faults }

-- the first disks are fresh ones of so many blocks
pub record AreFreshDisks (count size : ℕ) (start s : Disks) : Type 0 where
  pub power : (d : ℕ) → d < count → s.power d ≡ Spinning
  pub size_is : (d : ℕ) → d < count → s.size d ≡ size
  pub zeros : (d p : ℕ) → d < count → s.block d p ≡ zero_block
  pub synced : (d p : ℕ) → d < count → s.loose d p ≡ false
  pub others : (d p : ℕ) → count ≤ d → s.loose d p ≡ start.loose d p

-- this block stands at place 1 of disk `x`, where nothing is loose; all else is as before
pub record IsMetaWritten (x : ℕ) (b : Block) (start s : Disks) : Type 0 where
  pub power : (d : ℕ) → s.power d ≡ start.power d
  pub size : (d : ℕ) → s.size d ≡ start.size d
  pub here : s.block x 1 ≡ b
  pub block : (d p : ℕ) → (d ≡ x → p ≢ 1) → s.block d p ≡ start.block d p
  pub synced : (p : ℕ) → s.loose x p ≡ false
  pub loose : (d p : ℕ) → d ≢ x → s.loose d p ≡ start.loose d p

-- The disks are now those of an array without a write: what each stop leaves is so, whatever is
-- loose in slots past the array's disks; and where nothing was loose there, the disks are so as
-- they are.
pub record BecomesFormatted (slots : ℕ) (m : Meta) (start s : Disks) : Type 0 where
  pub stops : (i : Disks) → IsImage s i → IsFormatted slots i m
  pub whole : ((d p : ℕ) → m.setup.geometry.disks ≤ d → start.loose d p ≡ false)
      → IsFormatted slots s m
