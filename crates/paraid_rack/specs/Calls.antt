-- The disk of a call, and whether it was done.
use Rattle.std.specs.Prelude.{ℕ, Bool, List, [], ◌∷◌}
use Rattle.paraid_rack.specs.declared.call.Call.{Call}
use Rattle.paraid_rack.specs.declared.call.Call.TheVariants.{Read, Write, Sync, Park, SpinUp, Attach}

-- the disk that a call is on
abbrev pub disk_of : Call → ℕ
disk_of (Read d p done) = d
disk_of (Write d p b done) = d
disk_of (Sync d done) = d
disk_of (Park d done) = d
disk_of (SpinUp d done) = d
disk_of (Attach d size done) = d

-- whether a call was done
abbrev pub is_done : Call → Bool
is_done (Read d p done) = done
is_done (Write d p b done) = done
is_done (Sync d done) = done
is_done (Park d done) = done
is_done (SpinUp d done) = done
is_done (Attach d size done) = done

-- the call reads, writes or syncs
abbrev pub IsTransfer : Call → Type 0
IsTransfer (Read d p done) = Unit {0}
IsTransfer (Write d p b done) = Unit {0}
IsTransfer (Sync d done) = Unit {0}
IsTransfer (Park d done) = ⊥
IsTransfer (SpinUp d done) = ⊥
IsTransfer (Attach d size done) = ⊥

-- the call is a read
abbrev pub IsRead : Call → Type 0
IsRead (Read d p done) = Unit {0}
IsRead (Write d p b done) = ⊥
IsRead (Sync d done) = ⊥
IsRead (Park d done) = ⊥
IsRead (SpinUp d done) = ⊥
IsRead (Attach d size done) = ⊥

-- each of these calls is a read
abbrev pub AreReads : List Call → Type 0
AreReads [] = Unit {0}
AreReads (c ∷ cs) = IsRead c × AreReads cs
