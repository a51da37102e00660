-- Who may be down while the marks of a group of copies are committed.
use Rattle.std.specs.Prelude.{◌≡◌, ℕ, Option, Some}
use Rattle.paraid_rack.specs.Disks.{Disks}
use Rattle.paraid_record.specs.declared.meta.Meta.{Meta}
use Rattle.paraid_txn.specs.Commit.{IsEitherMissing}

-- this disk is the one that is down: no other one is missing, by the one meta or by the other
abbrev pub IsOneDown : Disks → Meta → Meta → Option ℕ → Type 0
IsOneDown s before after down = (d : ℕ) → IsEitherMissing s.power before after d → down ≡ Some d
