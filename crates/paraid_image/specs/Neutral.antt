-- Places in which any bytes leave what an image stands for as it is.
use Rattle.std.specs.Prelude.{◌≡◌, ◌≢◌, ℕ, ◌<◌, ◌≤◌, ◌==◌, ◌&&◌, ◌||◌, Bool, true, false, [], ◌∷◌, Some, length}
use Rattle.paraid_base.specs.declared.block.Block.{Block}
use Rattle.paraid_base.specs.Log.{body_place, log_least}
use Rattle.paraid_rack.specs.Disks.{Disks, with_at}
use Rattle.paraid_image.specs.Out.{named_out, out_disk}
use Rattle.paraid_image.specs.Sides.{Batch, LogState, Says, has_place, is_open, stored_block}
use Rattle.paraid_image.specs.Standing.{Stands, other_log}

-- the disks with other bytes in one place
abbrev pub overwrite : Disks → ℕ → ℕ → Block → Disks
overwrite i d p b = record i { block = with_at i.block d (with_at (i.block d) p b) }

-- whether the batch has a target there
abbrev pub names_place : Batch → ℕ → ℕ → Bool
names_place [] d p = false
names_place (w ∷ batch) d p = (w.0.disk == d && w.0.place == p) || names_place batch d p

-- place `p` of disk `d` is not looked at, whatever it holds
pub data IsNeutral (i : Disks) (d p : ℕ) : Type 0 where
  -- there is no such place
  nowhere : has_place i d p ≡ false → IsNeutral i d p
  -- the log of a disk that is no log disk, but for the places of witnesses
  no_log : 2 ≤ d → p < log_least → (d ≡ 2 → 2 ≤ p) → IsNeutral i d p
  -- the place of a witness against the log disk that is out
  witness : (x : ℕ) (said : LogState) → Stands i x said
      → x ≢ p → out_disk i.power said.meta ≡ Some p → d ≡ 2 → p < 2 → IsNeutral i d p
  -- the places of the batch under a closed gate
  shut : is_open (stored_block i d 0) ≡ false → 2 ≤ p → p < log_least → IsNeutral i d p
  -- the meta beside that of the batch under an open gate
  meta_under_open_gate : d < 2 → is_open (stored_block i d 0) ≡ true → p ≡ 1 → IsNeutral i d p
  -- a place of the batch that has no target
  unused : (said : LogState) → Says i d said
      → said.opened ≡ true → body_place (length said.batch) ≤ p → p < log_least → IsNeutral i d p
  -- a target of the standing batch, which the other log disk has too if it is not out
  target : (x : ℕ) (said : LogState) → Stands i x said
      → names_place said.batch d p ≡ true → ((other : LogState) → Says i (other_log x) other
      → named_out said.meta.out ≢ Some (other_log x) → names_place other.batch d p ≡ true)
      → IsNeutral i d p
