-- What a write of a gate has to answer for.
use Rattle.std.specs.Prelude.{◌≡◌, ◌≢◌, ℕ, Option, Some}
use Rattle.paraid_base.specs.declared.block.Block.{Block}
use Rattle.paraid_base.specs.History.{History}
use Rattle.paraid_rack.specs.Disks.{Disks, lose}
use Rattle.paraid_image.specs.HeldAt.{IsSoundFrom, MayLose}
use Rattle.paraid_image.specs.Neutral.{overwrite}
use Rattle.paraid_image.specs.Out.{IsWeak}
use Rattle.paraid_image.specs.Sides.{is_open, stored_block}

-- Once these bytes are written to the gate of log disk `x`, the image is sound, as it is and with
-- one more disk lost, and its weak disk is the one that is down.
pub record IsSoundToggled (slots : ℕ)
    (i : Disks) (x : ℕ) (b : Block) (h : History) (lo : ℕ) (down : Option ℕ) : Type 0 where
  pub whole : IsSoundFrom slots (overwrite i x 0 b) h lo
  pub lost : (e : ℕ)
      → MayLose (overwrite i x 0 b) e → IsSoundFrom slots (lose e (overwrite i x 0 b)) h lo
  pub weak : (w : ℕ) → IsWeak (overwrite i x 0 b) w → down ≡ Some w

-- the same, for all bytes that open a closed gate or close an open one
abbrev pub MayToggleGate : ℕ → Disks → ℕ → History → ℕ → Option ℕ → Type 0
MayToggleGate slots i x h lo down = (b : Block)
    → is_open b ≢ is_open (stored_block i x 0) → IsSoundToggled slots i x b h lo down
