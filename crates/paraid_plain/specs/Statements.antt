-- What a log disk of an image says, in the words of the definitions.
use Rattle.std.specs.Prelude.{ℕ, List, [], ◌∷◌}
use Rattle.std.proofs.Common.{suc}
use Rattle.paraid_base.specs.declared.block.Block.{Block}
use Rattle.paraid_base.specs.Log.{body_place}
use Rattle.paraid_record.specs.declared.targets.Target.{Target}
use Rattle.paraid_record.specs.Targets.{targets_of}
use Rattle.paraid_image.specs.Sides.{Batch, LogState, stored_block, Side as SideOf}
use Rattle.paraid_image.specs.Sides.Side.{absent, blank, bad, formed}
use Rattle.paraid_plain.specs.declared.image.Image.{Image}
use Rattle.paraid_plain.specs.declared.statement.Side.{Side}
use Rattle.paraid_plain.specs.declared.statement.Side.TheVariants.{Absent, Blank, Bad, Formed}
use Rattle.paraid_plain.specs.declared.statement.Statement.{Statement}
use Rattle.paraid_plain.specs.Images.{disks_in}

-- targets, each with its block of the log, which stand one after the other from place `p` on
abbrev pub batch_from : (ℕ → Block) → ℕ → List Target → Batch
batch_from log p [] = []
batch_from log p (t ∷ ts) = (t, log p) ∷ batch_from log (suc p) ts

-- the batch that a statement stands for
unfoldable pub batch_in : Image → Statement → Batch
batch_in image s =
    batch_from (stored_block (disks_in image) s.disk) (body_place 0) (targets_of s.targets)

-- what a statement stands for
abbrev pub said_of : Image → Statement → LogState
said_of image s = record { opened = s.opened; meta = s.meta; batch = batch_in image s }

-- the side in the words of the definitions
abbrev pub side_in : Image → Side → SideOf
side_in image Absent = absent
side_in image Blank = blank
side_in image Bad = bad
side_in image (Formed s) = formed (said_of image s)
