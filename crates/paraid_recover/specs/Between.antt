-- What a part of the program leaves of the disks.
use Rattle.std.specs.Prelude.{◌≡◌, Option, Some}
use Rattle.paraid_rack.specs.Disks.{Disks}
use Rattle.paraid_rack.specs.Trail.{Trail, now}

-- Where the record is told after this part, it was told before, and R holds of the disks before and
-- after.
abbrev pub RanBetween : Option Trail → Option Trail → (Disks → Disks → Type 0) → Type 0
RanBetween old new R = (t : Trail) → new ≡ Some t → (s : Trail) × (old ≡ Some s) × R (now s) (now t)
