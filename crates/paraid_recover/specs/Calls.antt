-- Which calls make an array.
use Rattle.std.specs.Prelude.{◌≡◌, ℕ, ◌+◌, ◌*◌, ◌<◌, ◌≤◌, ◌⊎◌, Bool, true, false, List, [], ◌∷◌, ◌++◌, length, Option}
use Rattle.paraid_rack.specs.declared.call.Call.{Call}
use Rattle.paraid_rack.specs.Disks.{Disks}
use Rattle.paraid_rack.specs.Told.{Ran}
use Rattle.paraid_rack.specs.Trail.{Trail, run}
use Rattle.paraid_rack.specs.declared.call.Call.TheVariants.{Read, Write, Sync, Park, SpinUp, Attach}
use Rattle.paraid_rack.specs.Calls.{AreReads}
use Rattle.paraid_recover.specs.Found.{IsUnclaimed}

-- Only reads were made from the one record to the other. A read that failed has lost its disk.
abbrev pub OnlyReads : Option Trail → Option Trail → Type 0
OnlyReads old new = Ran old new (λ start calls. AreReads calls)

-- only reads were made, and the disks are as they were
abbrev pub OnlyReadsAndKeeps : Option Trail → Option Trail → Type 0
OnlyReadsAndKeeps old new = Ran old new (λ start calls. AreReads calls × (run start calls ≡ start))

-- a read of the head of the log of log disk `x`: of its gate, of one of its two metas or of its
-- first list
abbrev pub IsHeadRead : ℕ → Call → Type 0
IsHeadRead x (Read d p done) = (d ≡ x) × (p < 4)
IsHeadRead x (Write d p b done) = ⊥
IsHeadRead x (Sync d done) = ⊥
IsHeadRead x (Park d done) = ⊥
IsHeadRead x (SpinUp d done) = ⊥
IsHeadRead x (Attach d size done) = ⊥

-- each of these calls is a read of the head of the log of log disk `x`
abbrev pub ReadsHead : ℕ → List Call → Type 0
ReadsHead x [] = Unit {0}
ReadsHead x (c ∷ cs) = IsHeadRead x c × ReadsHead x cs

-- at most `n` reads of the head of the log of log disk `x`
abbrev pub AreHeadReadsOf : ℕ → ℕ → Disks → List Call → Type 0
AreHeadReadsOf x n start calls = (length calls ≤ n) × ReadsHead x calls

-- reads of the heads of the logs: at most three of log disk 0, and then at most three of log disk 1
pub record AreHeadReads (calls : List Call) : Type 0 where
  pub first : List Call
  pub second : List Call
  pub is : calls ≡ first ++ second
  pub few : (length first ≤ 3) × (length second ≤ 3)
  pub of_first : ReadsHead 0 first
  pub of_second : ReadsHead 1 second

-- Only heads of logs were read from the one record to the other.
abbrev pub OnlyHeadReads : Option Trail → Option Trail → Type 0
OnlyHeadReads old new = Ran old new (λ start calls. AreHeadReads calls)

-- attaches alone, of disks from `low` on in ascending order and below `high`, each of this size
abbrev pub AreAttaches : ℕ → ℕ → ℕ → List Call → Type 0
AreAttaches size low high [] = low ≤ high
AreAttaches size low high (Read d p done ∷ cs) = ⊥
AreAttaches size low high (Write d p b done ∷ cs) = ⊥
AreAttaches size low high (Sync d done ∷ cs) = ⊥
AreAttaches size low high (Park d done ∷ cs) = ⊥
AreAttaches size low high (SpinUp d done ∷ cs) = ⊥
AreAttaches size low high (Attach d s done ∷ cs) =
    (low ≤ d) × (s ≡ size) × AreAttaches size (d + 1) high cs

-- Calls that write the meta of a log disk or sync it, each at most once and in their order: step 0
-- writes that of disk 0, step 1 syncs it, and steps 2 and 3 do the same of disk 1. None comes
-- before step `low`, and all come before step `high`.
abbrev pub AreMetaCalls : ℕ → ℕ → List Call → Type 0
AreMetaCalls low high [] = low ≤ high
AreMetaCalls low high (Read d p done ∷ cs) = ⊥
AreMetaCalls low high (Write d p b done ∷ cs) =
    (d < 2) × (p ≡ 1) × (low ≤ 2 * d) × AreMetaCalls (2 * d + 1) high cs
AreMetaCalls low high (Sync d done ∷ cs) =
    (d < 2) × (low ≤ 2 * d + 1) × AreMetaCalls (2 * d + 2) high cs
AreMetaCalls low high (Park d done ∷ cs) = ⊥
AreMetaCalls low high (SpinUp d done ∷ cs) = ⊥
AreMetaCalls low high (Attach d s done ∷ cs) = ⊥

-- attaches, each disk at most once and of the size that the array needs; then the metas of the
-- log disks, each written and synced at most once
pub record AreMakingCalls (count size : ℕ) (calls : List Call) : Type 0 where
  pub attaches : List Call
  pub writes : List Call
  pub is : calls ≡ attaches ++ writes
  pub first : AreAttaches size 0 count attaches
  pub second : AreMetaCalls 0 4 writes

-- Reads of the heads of the logs, unless they are not asked for; then the calls that make the
-- array. There are such only where no log disk says that it belongs to an array, or where that does
-- not matter.
pub record AreFormatCalls
    (force : Bool) (count size : ℕ) (start : Disks) (calls : List Call) : Type 0 where
  pub reads : List Call
  pub rest : List Call
  pub is : calls ≡ reads ++ rest
  pub are_reads : AreHeadReads reads
  pub forced : force ≡ true → reads ≡ []
  pub makes : (rest ≡ []) ⊎ ((force ≡ false → IsUnclaimed start) × AreMakingCalls count size rest)
