-- The crash specification of a part of the program whose record of calls may be told: from A, with
-- P at each moment, to B where it ends well.
use Rattle.std.specs.Prelude.{Option, Result, OnOk}
use Rattle.paraid_rack.specs.Disks.{Disks}
use Rattle.paraid_rack.specs.Told.{Ran, CrashTriple}
use Rattle.paraid_rack.specs.Trail.{Trail}

-- from A, with P at each moment whatever it answers, to B where it ends well
pub record CrashSpecification {T E : Type 0}
    (P A B : Disks → Type 0) (old new : Option Trail) (result : Result T E) : Type 0 where
  pub moments : Ran old new (CrashTriple P A P)
  pub done : OnOk result (Ran old new (CrashTriple P A B))
