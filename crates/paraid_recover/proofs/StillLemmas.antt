-- Up to the spin-ups and parks a mount only reads, writes and syncs.
use Rattle.std.specs.Prelude.{ℕ, Option}
use Rattle.std.proofs.Common.{inl, inr}
use Rattle.paraid_rack.specs.declared.call.Call.{Call}
use Rattle.paraid_rack.specs.declared.call.Call.TheVariants.{Read, Write, Sync, Park, SpinUp, Attach}
use Rattle.paraid_rack.specs.Told.{Ran}
use Rattle.paraid_rack.specs.Trail.{Trail}
use Rattle.paraid_rack.specs.Calls.{IsTransfer}
use Rattle.paraid_record.specs.declared.meta.Meta.{Meta}
use Rattle.paraid_image.specs.Sides.{Batch}
use Rattle.paraid_txn.specs.Uses.{EachCall, Uses}
use Rattle.paraid_recover.specs.Quiet.{IsInLog, IsReadOrSync, WritesOnlyLogs}
use Rattle.paraid_recover.proofs.MountCallsLemmas.{calls_milder, calls_then}

of_quiet : (n : ℕ) (c : Call) → IsReadOrSync n c → WritesOnlyLogs c
of_quiet n (Read d p done) is = tt
of_quiet n (Write d p b done) is = absurd is
of_quiet n (Sync d done) is = tt
of_quiet n (Park d done) is = is
of_quiet n (SpinUp d done) is = is
of_quiet n (Attach d size done) is = is

of_log : (n : ℕ) (c : Call) → IsInLog n c → WritesOnlyLogs c
of_log n (Read d p done) is = tt
of_log n (Write d p b done) is = is.1
of_log n (Sync d done) is = tt
of_log n (Park d done) is = is
of_log n (SpinUp d done) is = is
of_log n (Attach d size done) is = is

of_logs : (c : Call) → WritesOnlyLogs c → IsTransfer c
of_logs (Read d p done) is = tt
of_logs (Write d p b done) is = tt
of_logs (Sync d done) is = tt
of_logs (Park d done) is = is
of_logs (SpinUp d done) is = is
of_logs (Attach d size done) is = is

of_commit : (m : Meta) (batch : Batch) (c : Call) → Uses m batch c → IsTransfer c
of_commit m batch (Read d p done) is = tt
of_commit m batch (Write d p b done) is = tt
of_commit m batch (Sync d done) is = tt
of_commit m batch (Park d done) is = elim is.1 [ inl log ↦ log | inr target ↦ target ]
of_commit m batch (SpinUp d done) is = elim is.1 [ inl log ↦ log | inr target ↦ target ]
of_commit m batch (Attach d size done) is = elim is.1 [ inl log ↦ log | inr target ↦ target ]

pub quiet_logs : (n : ℕ) (old new : Option Trail) → Ran old new (EachCall (IsReadOrSync n)) → Ran old new (EachCall WritesOnlyLogs)
quiet_logs n old new ran = calls_milder (IsReadOrSync n) WritesOnlyLogs old new (of_quiet n) ran

pub log_logs : (n : ℕ) (old new : Option Trail) → Ran old new (EachCall (IsInLog n)) → Ran old new (EachCall WritesOnlyLogs)
log_logs n old new ran = calls_milder (IsInLog n) WritesOnlyLogs old new (of_log n) ran

pub logs_still : (old new : Option Trail) → Ran old new (EachCall WritesOnlyLogs) → Ran old new (EachCall IsTransfer)
logs_still old new ran = calls_milder WritesOnlyLogs IsTransfer old new of_logs ran

pub commit_still : (m : Meta) (batch : Batch) (old new : Option Trail) → Ran old new (EachCall (Uses m batch)) → Ran old new (EachCall IsTransfer)
commit_still m batch old new ran = calls_milder (Uses m batch) IsTransfer old new (of_commit m batch) ran

-- one part after the other
pub logs_then : (old mid new : Option Trail) → Ran old mid (EachCall WritesOnlyLogs) → Ran mid new (EachCall WritesOnlyLogs) → Ran old new (EachCall WritesOnlyLogs)
logs_then old mid new first second = calls_then WritesOnlyLogs old mid new first second

pub still_then : (old mid new : Option Trail) → Ran old mid (EachCall IsTransfer) → Ran mid new (EachCall IsTransfer) → Ran old new (EachCall IsTransfer)
still_then old mid new first second = calls_then IsTransfer old mid new first second
