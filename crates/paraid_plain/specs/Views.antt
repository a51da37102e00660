-- What an image holds past the log, under what a log disk says: the batch is laid, and the out
-- disk and the dirty bits are told.
use Rattle.std.specs.Prelude.{ℕ, Bool, Option}
use Rattle.paraid_image.specs.Out.{out_disk}
use Rattle.paraid_image.specs.Spot.{View, map_bit, map_disk}
use Rattle.paraid_image.specs.Standing.{Contents, contents}
use Rattle.paraid_plain.specs.declared.image.Image.{Image}
use Rattle.paraid_plain.specs.declared.statement.Statement.{Statement}
use Rattle.paraid_plain.specs.Images.{disks_in}
use Rattle.paraid_plain.specs.Statements.{batch_in}

-- the blocks past the log
unfoldable pub block_at : Image → Statement → Contents
block_at image s = contents (disks_in image) (batch_in image s)

-- the out disk
unfoldable pub out_at : Image → Statement → Option ℕ
out_at image s = out_disk (disks_in image).power s.meta

-- the dirty bits, by row and disk
unfoldable pub dirty_at : Image → Statement → ℕ → ℕ → Bool
dirty_at image s = map_bit s.meta.setup.geometry (block_at image s (map_disk (out_at image s)))

-- all of it
abbrev pub view_at : Image → Statement → View
view_at image s = record {
  meta = s.meta;
  dirty = dirty_at image s;
  out = out_at image s;
  block = block_at image s;
}
