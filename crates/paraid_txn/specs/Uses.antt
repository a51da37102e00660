-- Which calls are made: those of a commit are on the log of each log disk that it does not leave
-- alone, and on the targets of its batch.
use Rattle.std.specs.Prelude.{◌≡◌, ◌≢◌, ℕ, ◌<◌, ◌⊎◌, Bool, true, List, [], ◌∷◌, Option, Some, Contains}
use Rattle.paraid_base.specs.Log.{log_most}
use Rattle.paraid_rack.specs.declared.call.Call.{Call}
use Rattle.paraid_rack.specs.declared.call.Call.TheVariants.{Read, Write, Sync, Park, SpinUp, Attach}
use Rattle.paraid_rack.specs.Disks.{Disks, step}
use Rattle.paraid_rack.specs.Lawful.{IsLawful}
use Rattle.paraid_rack.specs.Slots.{Slot}
use Rattle.paraid_rack.specs.declared.call.Power.TheVariants.{Spinning}
use Rattle.paraid_record.specs.declared.meta.Meta.{Meta}
use Rattle.paraid_image.specs.Calls.{disk_of}
use Rattle.paraid_image.specs.Neutral.{names_place}
use Rattle.paraid_image.specs.Out.{named_out}
use Rattle.paraid_image.specs.Sides.{Batch}
use Rattle.paraid_txn.specs.Commit.{gone_out}
use Rattle.paraid_image.specs.Batches.{names_disk}

-- a log disk that is not skipped
abbrev pub IsUnskippedLog : Option ℕ → ℕ → Type 0
IsUnskippedLog skip d = (d < 2) × (skip ≢ Some d)

-- a read or a write in its log, or a sync of it
abbrev pub UsesLog : Option ℕ → Call → Type 0
UsesLog skip (Read d p done) = IsUnskippedLog skip d × (p < log_most)
UsesLog skip (Write d p b done) = IsUnskippedLog skip d × (p < log_most)
UsesLog skip (Sync d done) = IsUnskippedLog skip d
UsesLog skip (Park d done) = ⊥
UsesLog skip (SpinUp d done) = ⊥
UsesLog skip (Attach d size done) = ⊥

-- a write of the block for a target of the batch, or a sync of a disk that has one, which is not
-- skipped
abbrev pub UsesTarget : Option ℕ → Batch → Call → Type 0
UsesTarget skip batch (Read d p done) = ⊥
UsesTarget skip batch (Write d p b done) = (skip ≢ Some d)
    × (names_place batch d p ≡ true) × Contains batch (record { disk = d; place = p }, b)
UsesTarget skip batch (Sync d done) = (skip ≢ Some d) × (names_disk batch d ≡ true)
UsesTarget skip batch (Park d done) = ⊥
UsesTarget skip batch (SpinUp d done) = ⊥
UsesTarget skip batch (Attach d size done) = ⊥

-- A call of the commit of a meta and a batch. It is on a disk of the array; a log disk that the
-- meta names out keeps its log, and no target is written on a disk that is gone.
abbrev pub Uses : Meta → Batch → Call → Type 0
Uses m batch c = (disk_of c < m.setup.geometry.disks)
    × (UsesLog (named_out m.out) c ⊎ UsesTarget (gone_out m.out) batch c)

-- a write of a witness on disk 2, or a sync of that disk, where it is one of the array and not gone
abbrev pub UsesWitness : Meta → Call → Type 0
UsesWitness m (Read d p done) = ⊥
UsesWitness m (Write d p b done) =
    (d ≡ 2) × (2 < m.setup.geometry.disks) × (gone_out m.out ≢ Some 2) × (p < 2)
UsesWitness m (Sync d done) = (d ≡ 2) × (2 < m.setup.geometry.disks) × (gone_out m.out ≢ Some 2)
UsesWitness m (Park d done) = ⊥
UsesWitness m (SpinUp d done) = ⊥
UsesWitness m (Attach d size done) = ⊥

-- a call of a commit, or of the witness that it bears or takes back
abbrev pub UsesInCommit : Meta → Batch → Call → Type 0
UsesInCommit m batch c = Uses m batch c ⊎ UsesWitness m c

-- the one call, done or failed, on a disk that is not skipped
abbrev pub IsThisCall : Option ℕ → ℕ → (Bool → Call) → Call → Type 0
IsThisCall skip disk call c = (skip ≢ Some disk) × (done : Bool) × (c ≡ call done)

-- each of these calls is lawful by the power of its disk, and of this kind
abbrev pub EachCall : (Call → Type 0) → Disks → List Call → Type 0
EachCall uses s [] = Unit {0}
EachCall uses s (c ∷ cs) = IsLawful s c × uses c × EachCall uses (step c s) cs

-- one of the calls of this kind is on disk `d`
abbrev pub IsOn : (Call → Type 0) → ℕ → Type 0
IsOn uses d = (c : Call) × uses c × (disk_of c ≡ d)

-- a sync of one of the first `n` disks that is not skipped
abbrev pub UsesSync : ℕ → Option ℕ → Call → Type 0
UsesSync n skip (Read d p done) = ⊥
UsesSync n skip (Write d p b done) = ⊥
UsesSync n skip (Sync d done) = (d < n) × (skip ≢ Some d)
UsesSync n skip (Park d done) = ⊥
UsesSync n skip (SpinUp d done) = ⊥
UsesSync n skip (Attach d size done) = ⊥

-- of the first `n` disks each that spins and is not skipped has a block
pub record CanSync (n : ℕ) (skip : Option ℕ) (slot : ℕ → Slot) : Type 0 where
  pub within : (d : ℕ) → d < n → skip ≢ Some d → (slot d).power ≡ Spinning → 0 < (slot d).size
