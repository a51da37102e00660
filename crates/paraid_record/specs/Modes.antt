-- What a mode says.
use Rattle.std.specs.Prelude.{Bool, true, false}
use Rattle.paraid_record.specs.declared.meta.Mode.{Mode}
use Rattle.paraid_record.specs.declared.meta.Mode.TheVariants.{Access, Whole}

-- whether reads clean cells
abbrev pub is_access : Mode → Bool
is_access Whole = false
is_access Access = true
