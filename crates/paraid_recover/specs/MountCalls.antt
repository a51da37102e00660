-- The calls that a mount may make.
use Rattle.std.specs.Prelude.{◌≡◌, ℕ, ◌<◌, true, false, Option, Some}
use Rattle.paraid_rack.specs.declared.call.Call.{Call}
use Rattle.paraid_rack.specs.Told.{Ran}
use Rattle.paraid_rack.specs.Trail.{Trail}
use Rattle.paraid_record.specs.declared.meta.Meta.{Meta}
use Rattle.paraid_base.specs.States.{gone_out}
use Rattle.paraid_txn.specs.Uses.{EachCall}
use Rattle.paraid_image.specs.Calls.{disk_of, is_attach, reads_log}

-- A call of a mount is on one of the first `n` disks, attaches none, and only reads the log of the
-- disk that is gone.
pub record IsMountCall (n : ℕ) (gone : Option ℕ) (c : Call) : Type 0 where
  pub disk : disk_of c < n
  pub attaches : is_attach c ≡ false
  pub aside : gone ≡ Some (disk_of c) → reads_log c ≡ true

-- The calls are such as a mount may make of an array of which this meta stood.
abbrev pub OnlyMountCalls : Meta → Option Trail → Option Trail → Type 0
OnlyMountCalls m old new =
    Ran old new (EachCall (IsMountCall m.setup.geometry.disks (gone_out m.out)))
