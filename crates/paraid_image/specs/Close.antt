-- A gate that can be closed.
use Rattle.std.specs.Prelude.{◌≡◌, ◌≢◌, ℕ, ◌<◌, ◌⊎◌, true, [], Some}
use Rattle.paraid_rack.specs.Disks.{Disks}
use Rattle.paraid_image.specs.Out.{out_disk}
use Rattle.paraid_image.specs.Sides.{closed_over, LogState, Says, Spells, stored_block}
use Rattle.paraid_image.specs.Standing.{Stands, contents, other_log}

-- Log disk `x` has its gate open, its meta is that of its batch, and the batch has been laid in
-- place. What stands is this, or closed over that meta, and so is what the other log disk says if
-- it is not out.
pub record IsLaidBelow (i : Disks) (x : ℕ) (said : LogState) : Type 0 where
  pub log_disk : x < 2
  pub says : Says i x said
  pub opened : said.opened ≡ true
  pub meta : Spells (stored_block i x 1) said.meta
  pub laid : contents i said.batch ≡ contents i []
  pub in_array : out_disk i.power said.meta ≢ Some x
  pub stands : (z : ℕ) (o : LogState) → Stands i z o → (o ≡ said) ⊎ (o ≡ closed_over said.meta)
  pub other : (o : LogState) → Says i (other_log x) o
      → out_disk i.power said.meta ≢ Some (other_log x) → (o ≡ said) ⊎ (o ≡ closed_over said.meta)
