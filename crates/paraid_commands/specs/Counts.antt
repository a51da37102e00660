-- The last line and the status of a check.
use Rattle.std.specs.Prelude.{ℕ, ◌+◌, ◌==◌, List, ◌++◌, codes, decimal, if◌then◌else◌}
use Rattle.paraid_scrub.specs.declared.kind.CheckReport.{CheckReport}
use Rattle.paraid_serve.specs.Statuses.{status_done, status_found}

-- the line of a check
abbrev pub check_line : CheckReport → List ℕ
check_line r =
    codes "check rows " ++ decimal r.rows
    ++ codes " stripes " ++ decimal r.stripes ++ codes " fill " ++ decimal r.fill
    ++ codes " units " ++ decimal r.units ++ codes " mirrors " ++ decimal r.mirrors ++ codes "\n"

-- all was done where no count is above 0
abbrev pub check_status : CheckReport → ℕ
check_status r =
    if r.rows + r.stripes + r.fill + r.units + r.mirrors == 0 then status_done else status_found
