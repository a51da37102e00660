-- The calls of a mount by their kinds.
use Rattle.std.specs.Prelude.{ℕ, ◌<◌}
use Rattle.paraid_base.specs.Log.{log_least}
use Rattle.paraid_rack.specs.declared.call.Call.{Call}
use Rattle.paraid_rack.specs.declared.call.Call.TheVariants.{Read, Write, Sync, Park, SpinUp, Attach}

-- a read or a sync of one of the first `n` disks
abbrev pub IsReadOrSync : ℕ → Call → Type 0
IsReadOrSync n (Read d p done) = d < n
IsReadOrSync n (Write d p b done) = ⊥
IsReadOrSync n (Sync d done) = d < n
IsReadOrSync n (Park d done) = ⊥
IsReadOrSync n (SpinUp d done) = ⊥
IsReadOrSync n (Attach d size done) = ⊥

-- a read or a sync of one of the first `n` disks, or a write of its log
abbrev pub IsInLog : ℕ → Call → Type 0
IsInLog n (Read d p done) = d < n
IsInLog n (Write d p b done) = (d < n) × (p < log_least)
IsInLog n (Sync d done) = d < n
IsInLog n (Park d done) = ⊥
IsInLog n (SpinUp d done) = ⊥
IsInLog n (Attach d size done) = ⊥

-- a read or a sync, or a write below the end of the log
abbrev pub WritesOnlyLogs : Call → Type 0
WritesOnlyLogs (Read d p done) = Unit {0}
WritesOnlyLogs (Write d p b done) = p < log_least
WritesOnlyLogs (Sync d done) = Unit {0}
WritesOnlyLogs (Park d done) = ⊥
WritesOnlyLogs (SpinUp d done) = ⊥
WritesOnlyLogs (Attach d size done) = ⊥
