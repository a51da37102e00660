-- The statuses with which each command may end.
use Rattle.std.specs.Prelude.{ℕ, List, [], ◌∷◌}
use Rattle.paraid_serve.specs.Statuses.{status_demand, status_done, status_found, status_no_memory, status_not_an_array, status_protocol, status_sink, status_source, status_too_long, status_two, status_worn}

-- the statuses of `run`, with and without spares, and of `vol`
abbrev pub run_statuses : List ℕ
run_statuses = status_done ∷ status_source ∷ status_sink
    ∷ status_two ∷ status_not_an_array ∷ status_no_memory ∷ status_too_long ∷ status_worn ∷ []

-- the statuses of `gen`
abbrev pub gen_statuses : List ℕ
gen_statuses = status_done
    ∷ status_sink ∷ status_two ∷ status_not_an_array ∷ status_no_memory ∷ status_worn ∷ []

-- the statuses of `status`
abbrev pub show_statuses : List ℕ
show_statuses = gen_statuses

-- the statuses of `check`
abbrev pub check_statuses : List ℕ
check_statuses = status_done ∷ status_sink
    ∷ status_two ∷ status_not_an_array ∷ status_no_memory ∷ status_worn ∷ status_found ∷ []

-- the statuses of `check` on an array that is mounted
abbrev pub checked_statuses : List ℕ
checked_statuses = status_done ∷ status_sink ∷ status_two ∷ status_worn ∷ status_found ∷ []

-- the statuses of `nbd`
abbrev pub nbd_statuses : List ℕ
nbd_statuses =
    status_done ∷ status_source ∷ status_sink ∷ status_two ∷ status_not_an_array
    ∷ status_no_memory ∷ status_too_long ∷ status_worn ∷ status_protocol ∷ []

-- the statuses of `plan`
abbrev pub plan_statuses : List ℕ
plan_statuses =
    status_done ∷ status_source ∷ status_sink ∷ status_two ∷ status_not_an_array
    ∷ status_no_memory ∷ status_too_long ∷ status_worn ∷ status_demand ∷ []

-- the statuses of `plan` on an array that is mounted
abbrev pub planned_statuses : List ℕ
planned_statuses = status_done
    ∷ status_source ∷ status_sink ∷ status_no_memory ∷ status_too_long ∷ status_demand ∷ []
