-- Disks between two commits.
use Rattle.std.specs.Prelude.{◌≡◌, ◌≢◌, ℕ, ◌<◌, false, Some}
use Rattle.paraid_rack.specs.Disks.{Disks, IsPresent}
use Rattle.paraid_record.specs.declared.meta.Meta.{Meta}
use Rattle.paraid_image.specs.Out.{named_out}
use Rattle.paraid_image.specs.Sides.{closed_over, is_open, stored_block}
use Rattle.paraid_image.specs.Sound.{LogOk}

-- no block of a disk that is there is loose
abbrev pub AreSynced : Disks → Type 0
AreSynced s = (d p : ℕ) → IsPresent s d → s.loose d p ≡ false

-- the gates of the log disks that are there and are not named out are closed
abbrev pub AreLogGatesClosed : Disks → Meta → Type 0
AreLogGatesClosed s m = (x : ℕ) → x < 2 → IsPresent s x → named_out m.out ≢ Some x
    → is_open (stored_block s x 0) ≡ false

-- Between two commits: nothing is loose, this meta stands, and the gates are closed.
pub record IsAtRest (s : Disks) (m : Meta) : Type 0 where
  pub synced : AreSynced s
  pub disk : ℕ
  pub log : LogOk s disk (closed_over m) m.writes
  pub shut : AreLogGatesClosed s m
