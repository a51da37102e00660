-- What a call of a record counts for.
use Rattle.std.specs.Prelude.{ℕ, ◌+◌, ◌==◌, nat_lt, Bool, true, false, if◌then◌else◌}
use Rattle.paraid_base.specs.Log.{log_least}
use Rattle.paraid_rack.specs.declared.call.Call.{Call}
use Rattle.paraid_rack.specs.declared.call.Call.TheVariants.{Read, Write, Sync, Park, SpinUp, Attach}
pub use Rattle.paraid_rack.specs.Calls.{disk_of, is_done}

-- whether a call is an attach
abbrev pub is_attach : Call → Bool
is_attach (Read d p done) = false
is_attach (Write d p b done) = false
is_attach (Sync d done) = false
is_attach (Park d done) = false
is_attach (SpinUp d done) = false
is_attach (Attach d size done) = true

-- the call reads a place of the log
abbrev pub reads_log : Call → Bool
reads_log (Read d p done) = nat_lt p log_least
reads_log (Write d p b done) = false
reads_log (Sync d done) = false
reads_log (Park d done) = false
reads_log (SpinUp d done) = false
reads_log (Attach d size done) = false

-- the spin-ups of disk `d` after one more call, done or failed; an attach sets them to 0
abbrev pub spin_ups_after : ℕ → ℕ → Call → ℕ
spin_ups_after d count (Read e p done) = count
spin_ups_after d count (Write e p b done) = count
spin_ups_after d count (Sync e done) = count
spin_ups_after d count (Park e done) = count
spin_ups_after d count (SpinUp e done) = if d == e then count + 1 else count
spin_ups_after d count (Attach e size done) = if d == e then 0 else count
