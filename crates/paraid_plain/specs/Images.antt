-- The disks that an image in memory stands for.
use Rattle.std.specs.Prelude.{List, map}
use Rattle.paraid_rack.specs.Disks.{Disks}
use Rattle.paraid_rack.specs.Trail.{Beginning, initial}
use Rattle.paraid_plain.specs.declared.image.Image.{Image}
use Rattle.paraid_plain.specs.declared.image.ImageSlot.{ImageSlot}

-- a slot as a disk at the start of a record
abbrev pub beginning_in : ImageSlot → Beginning
beginning_in slot = record { power = slot.power; blocks = slot.blocks.items }

-- the disks of these slots; none of their blocks is loose
unfoldable pub disks_by : List ImageSlot → Disks
disks_by slots = initial (map beginning_in slots)

-- the disks of an image
abbrev pub disks_in : Image → Disks
disks_in image = disks_by image.slots.items
