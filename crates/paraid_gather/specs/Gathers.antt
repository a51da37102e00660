-- What contracts see of a rack that gathers.
use Rattle.std.specs.Prelude.{ℕ}
use Rattle.paraid_gather.specs.declared.gathered.Gathered.{Gathered}
use Rattle.paraid_gather.specs.Waiting.{Waiting, waiting_at}

-- the rack that it owns
abbrev pub rack_below : {R L : Type 0} {g : _} {h : _} → Gathered R L g h → R
rack_below gathered = gathered.rack

-- the log in which its calls are noted
abbrev pub log_of : {R L : Type 0} {g : _} {h : _} → Gathered R L g h → L
log_of gathered = gathered.log

-- what waits for each disk
abbrev pub waiting_in : {R L : Type 0} {g : _} {h : _} → Gathered R L g h → ℕ → Waiting
waiting_in gathered = waiting_at gathered.runs.items
