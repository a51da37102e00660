-- Which calls of the rack a call of a core makes.
use Rattle.std.specs.Prelude.{◌≡◌, ◌≢◌, ℕ, ◌+◌, ◌<◌, ◌≤◌, Bool, true, List, [], ◌∷◌, Option, Some}
use Rattle.paraid_rack.specs.declared.call.Call.{Call}
use Rattle.paraid_rack.specs.declared.call.Call.TheVariants.{Read, Write, Sync, Park, SpinUp, Attach}
use Rattle.paraid_rack.specs.Calls.{IsTransfer, disk_of}
use Rattle.paraid_rack.specs.Disks.{Disks}
use Rattle.paraid_rack.specs.Lawful.{IsLawful}
use Rattle.paraid_rack.specs.Told.{Ran, Through}
use Rattle.paraid_rack.specs.Trail.{Trail, run}
use Rattle.paraid_base.specs.History.{History}
use Rattle.paraid_base.specs.Log.{log_least}
use Rattle.paraid_image.specs.Rest.{IsAtRest}
use Rattle.paraid_txn.specs.Commit.{IsOldOrNew, gone_out}
use Rattle.paraid_txn.specs.Stores.{store_rack}
use Rattle.paraid_txn.specs.Uses.{EachCall}
use Rattle.paraid_core.specs.declared.staged.Core.{Core}
use Rattle.paraid_core.specs.CoreInvariant.{is_copied}
use Rattle.paraid_core.specs.Cores.{CoreStandsFor}

-- the call reads, syncs, or writes past the log
abbrev pub IsPastLog : Call → Type 0
IsPastLog (Read d p done) = Unit {0}
IsPastLog (Write d p b done) = log_least ≤ p
IsPastLog (Sync d done) = Unit {0}
IsPastLog (Park d done) = ⊥
IsPastLog (SpinUp d done) = ⊥
IsPastLog (Attach d size done) = ⊥

-- A call between two commits: it is on one of the first `n` disks, on none that is gone, and writes
-- no block of the log.
abbrev pub IsDataCall : ℕ → Option ℕ → Call → Type 0
IsDataCall n gone c = (disk_of c < n) × (gone ≢ Some (disk_of c)) × IsPastLog c

-- A call of a commit, or between two: it reads, writes or syncs one of the first `n` disks, and
-- none that is gone.
abbrev pub IsTransferCall : ℕ → Option ℕ → Call → Type 0
IsTransferCall n gone c = (disk_of c < n) × (gone ≢ Some (disk_of c)) × IsTransfer c

-- a sync of one of the first `n` disks, to which copies went
abbrev pub IsCopySync : ℕ → List Bool → Call → Type 0
IsCopySync n copied (Read d p done) = ⊥
IsCopySync n copied (Write d p b done) = ⊥
IsCopySync n copied (Sync d done) = (d < n) × (is_copied copied d ≡ true)
IsCopySync n copied (Park d done) = ⊥
IsCopySync n copied (SpinUp d done) = ⊥
IsCopySync n copied (Attach d size done) = ⊥

-- these are this one call, done or failed, and it is lawful by the power of its disk
abbrev pub IsOneCall : (Bool → Call) → Disks → List Call → Type 0
IsOneCall call s cs = (done : Bool) × (cs ≡ call done ∷ []) × IsLawful s (call done)

-- Each call that was made is lawful by the power of its disk, and one between two commits: on a
-- disk of the array that is not gone by the core's meta.
abbrev pub MakesDataCalls : {R : Type 0} {g : _} → (R → Option Trail) → Core R g → Core R g → Type 0
MakesDataCalls told old new = Ran (told (store_rack old.store)) (told (store_rack new.store))
    (EachCall (IsDataCall old.meta.setup.geometry.disks (gone_out old.meta.out)))

-- the same of a call that may commit
abbrev pub MakesTransferCalls : {R : Type 0} {g : _}
    → (R → Option Trail) → Core R g → Core R g → Type 0
MakesTransferCalls told old new = Ran (told (store_rack old.store)) (told (store_rack new.store))
    (EachCall (IsTransferCall old.meta.setup.geometry.disks (gone_out old.meta.out)))

-- it makes this one call
abbrev pub MakesOneCall : {R : Type 0} {g : _}
    → (R → Option Trail) → (Bool → Call) → Core R g → Core R g → Type 0
MakesOneCall told call old new =
    Ran (told (store_rack old.store)) (told (store_rack new.store)) (IsOneCall call)

-- each of its calls syncs a disk to which copies went
abbrev pub MakesCopySyncs : {R : Type 0} {g : _} → (R → Option Trail) → Core R g → Core R g → Type 0
MakesCopySyncs told old new = Ran (told (store_rack old.store)) (told (store_rack new.store))
    (EachCall (IsCopySync old.meta.setup.geometry.disks old.copied))

-- At each moment each image stands for what the last commit left, or for that with all that is
-- staged laid over, under the core's meta with the next epoch.
abbrev pub CommitsWhole : {R : Type 0} {g : _}
    → (R → ℕ) → (R → Option Trail) → Core R g → Core R g → Type 0
CommitsWhole count told old new = (h : History) (lo : ℕ)
    → Ran (told (store_rack old.store)) (told (store_rack new.store)) (λ start calls.
    (k : CoreStandsFor count old h lo start) → Through (IsOldOrNew start k.base
    (record old.meta { epoch = old.meta.epoch + 1 }) old.batch) start calls)

-- After it the disks are at rest under the core's meta with the next epoch.
abbrev pub RestsCommitted : {R : Type 0} {g : _}
    → (R → ℕ) → (R → Option Trail) → Core R g → Core R g → Type 0
RestsCommitted count told old new = (h : History) (lo : ℕ) → Ran (told (store_rack old.store))
    (told (store_rack new.store)) (λ start calls. CoreStandsFor count old h lo start
    → IsAtRest (run start calls) (record old.meta { epoch = old.meta.epoch + 1 }))
