-- The blocks that an image stands for.
use Rattle.std.specs.Prelude.{ℕ}
use Rattle.paraid_base.specs.declared.block.Block.{Block}
use Rattle.paraid_base.specs.Cells.{home_disk, home_row}
use Rattle.paraid_rack.specs.declared.call.Power.{Power}
use Rattle.paraid_rack.specs.Disks.{Disks}
use Rattle.paraid_record.specs.declared.meta.Meta.{Meta}
use Rattle.paraid_image.specs.Out.{out_disk}
use Rattle.paraid_image.specs.Sides.{LogState}
use Rattle.paraid_image.specs.Spot.{View, map_bit, map_disk}
use Rattle.paraid_image.specs.Standing.{Contents, contents}
use Rattle.paraid_image.specs.Value.{value}

-- the view of these blocks under this meta, with the dirty bits that stand in them
abbrev pub view_by : Meta → (ℕ → Power) → Contents → View
view_by m power block = record {
  meta = m;
  dirty = map_bit m.setup.geometry (block (map_disk (out_disk power m)));
  out = out_disk power m;
  block = block;
}

-- the view of an image whose standing log disk says this
abbrev pub view_of : Disks → LogState → View
view_of i said = view_by said.meta i.power (contents i said.batch)

-- block `b` of what is stood for
abbrev pub blocks_of : View → ℕ → Block
blocks_of v b = let n = v.meta.setup.geometry.disks in value v (home_row n b) (home_disk n b)
