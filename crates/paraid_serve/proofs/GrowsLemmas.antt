-- Records that only grow.
use Rattle.std.proofs.Common.{Option, IsSome}
use Rattle.paraid_rack.specs.Trail.{Trail}
use Rattle.paraid_rack.specs.Told.{Extends}
use Rattle.paraid_rack.proofs.TrailsLemmas.{Ran-none, Ran-then}
use Rattle.paraid_serve.proofs.StretchLemmas.{some_told, some_is}

-- no call
pub grows_none : (told : Option Trail) → Extends told told
grows_none told = Ran-none (λ start calls. Unit {0}) (λ start. tt) told

-- one part after the other
pub grows_then : (old mid new : Option Trail) → Extends old mid → Extends mid new → Extends old new
grows_then old mid new first second = Ran-then (λ start calls. Unit {0}) (λ start before after f s. tt) old mid new first second

-- a record that is told afterwards was told before
pub told_then : (old new : Option Trail) → Extends old new → IsSome new → IsSome old
told_then old new grows is =
    let t = some_told new is in
    let r = grows t.0 t.1 in
    some_is old r.from r.was
