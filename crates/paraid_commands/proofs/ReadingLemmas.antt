-- What the bytes that were taken show.
use Rattle.std.proofs.Common.{ℕ, List, Option, ◌≤◌, ◌<◌, ◌+◌, ◌-◌, ◌++◌, length, take, arith, length-append, length-take}
use Rattle.paraid_base.specs.Told.{AtEnd}
use Rattle.paraid_config.specs.Config.{IsConfigRefusal}
use Rattle.paraid_config.specs.declared.fault.ConfigFault.{ConfigFault}
use Rattle.paraid_config.specs.declared.fault.ConfigFault.TheVariants.{Long, NotToml, Unknown, Missing, Kind, Range, Geometry, NoMemory}
use Rattle.paraid_commands.specs.Reading.{IsMisread}

-- a piece after these bytes is more than a configuration may have, by no more than the piece
pub too_long : (bytes piece : List ℕ) (count : ℕ) → length bytes ≤ 65536 → length piece ≤ 4096 → count ≤ length piece → 65536 - length bytes < count → (65536 < length (bytes ++ take count piece)) × (length (bytes ++ take count piece) ≤ 65536 + 4096)
too_long bytes piece count short part within many = rw (length-append bytes (take count piece), length-take count piece) (omega arith, omega arith)

-- a piece after these bytes is not more than that
pub still_short : (bytes piece : List ℕ) (count : ℕ) → length bytes ≤ 65536 → count ≤ 65536 - length bytes → length (bytes ++ take count piece) ≤ 65536
still_short bytes piece count short few = rw (length-append bytes (take count piece), length-take count piece) (omega arith)

-- after it there is less room
pub less_room : (bytes piece : List ℕ) (count : ℕ) → count ≤ length piece → 0 < count → count ≤ 65536 - length bytes → 65536 - length (bytes ++ take count piece) < 65536 - length bytes
less_room bytes piece count within some few = rw (length-append bytes (take count piece), length-take count piece) (omega arith)

-- all bytes are refused
pub IsMisread-refused : (bytes : List ℕ) (after : Option (List ℕ)) (fault : ConfigFault) → length bytes ≤ 65536 → AtEnd after → IsConfigRefusal bytes fault → IsMisread bytes after fault
IsMisread-refused bytes after Long short end is = absurd (omega (arith, short, is))
IsMisread-refused bytes after NotToml short end is = (end, is)
IsMisread-refused bytes after (Unknown at) short end is = (end, is)
IsMisread-refused bytes after (Missing key) short end is = (end, is)
IsMisread-refused bytes after (Kind key) short end is = (end, is)
IsMisread-refused bytes after (Range key value) short end is = (end, is)
IsMisread-refused bytes after (Geometry geometry) short end is = (end, is)
IsMisread-refused bytes after NoMemory short end is = is
