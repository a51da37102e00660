-- What the disks hold by a meta, with a batch laid over them.
use Rattle.std.specs.Prelude.{◌≤◌, ℕ, length}
use Rattle.paraid_base.specs.History.{History}
use Rattle.paraid_rack.specs.Disks.{Disks}
use Rattle.paraid_record.specs.declared.meta.Meta.{Meta}
use Rattle.paraid_image.specs.Content.{view_by}
use Rattle.paraid_image.specs.Sides.{Batch}
use Rattle.paraid_image.specs.Sound.{ContentOk}
use Rattle.paraid_image.specs.Standing.{contents}

-- the first writes of the history, as many as the meta says and at least `lo`
pub record HoldsFirstWrites
    (slots : ℕ) (s : Disks) (m : Meta) (batch : Batch) (h : History) (lo : ℕ) : Type 0 where
  pub low : lo ≤ m.writes
  pub high : m.writes ≤ length h
  pub content : ContentOk slots s.power s.size (view_by m s.power (contents s batch)) h m.writes
