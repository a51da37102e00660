-- What is asked of a device for its table
use Rattle.std.specs.Prelude.{◌≡◌, ℕ, ◌+◌, ◌*◌, ◌<◌, ◌==◌, ◌++◌, ◌∷◌, [], List, if◌then◌else◌}
use Rattle.std.proofs.Common.{zero, suc}
use Rattle.std.specs.List.{range_with_len}
use Rattle.paraid_base.specs.declared.block.Block.{Block}
use Rattle.paraid_base.specs.declared.event.Answer.TheVariants.{Value, Wrote, Halted}
use Rattle.paraid_base.specs.declared.event.Event.TheVariants.{Read, Write}
use Rattle.paraid_base.specs.declared.fault.Halt.{Halt}
use Rattle.paraid_base.specs.declared.pairs.Pairs.{Pairs}
use Rattle.paraid_base.specs.BlockAnswers.{Answers}
use Rattle.paraid_base.specs.History.{Entry}
use Rattle.paraid_base.specs.Pairs.{pairs_of, single_pair}
use Rattle.paraid_base.specs.Xor.{zero_block}
use Rattle.paraid_volume.specs.declared.fault.VolFault.{VolFault}
use Rattle.paraid_volume.specs.declared.fault.VolFault.TheVariants.{Halt as VolHalt, NotVolumes}
use Rattle.paraid_volume.specs.Laid.{AreChanges, table_pairs}
use Rattle.paraid_volume.specs.Tables.{IsVolumeTable, owner_in}

-- The events that were kept are kept, and then some of which this holds.
pub record KeepsThen {S : Type 0}
    (kept : S → S → Answers → Type 0) (are : Answers → Type 0) (old new : S) : Type 0 where
  pub made : Answers
  pub all : are made
  pub grows : (first : S) (events : Answers)
      → kept first old events → kept first new (events ++ made)

-- the reads of the first `n` blocks, which gave these bytes
abbrev pub table_reads : (ℕ → Block) → ℕ → Answers
table_reads content zero = []
table_reads content (suc n) = table_reads content n ++ (Read n, Value n (content n)) ∷ []

-- the first reads of a table, the last of which gave this halt
pub record AreHaltedReads (halt : Halt) (made : Answers) : Type 0 where
  pub content : ℕ → Block
  pub number : ℕ
  pub below : number < 6
  pub are : made ≡ table_reads content number ++ (Read number, Halted halt) ∷ []

-- the reads of a table for a device of `count` blocks
pub record AreTableReads (count : ℕ) (made : Answers) : Type 0 where
  pub content : ℕ → Block
  pub table : IsVolumeTable count content
  pub are : made ≡ table_reads content 6

-- the reads of six blocks that are no such table
pub record AreOtherReads (count : ℕ) (made : Answers) : Type 0 where
  pub content : ℕ → Block
  pub none : IsVolumeTable count content → ⊥
  pub are : made ≡ table_reads content 6

-- the reads of a device that was not taken, by the fault
abbrev pub AreRefusedReads : ℕ → VolFault → Answers → Type 0
AreRefusedReads count (VolHalt halt) made = AreHaltedReads halt made
AreRefusedReads count NotVolumes made = AreOtherReads count made
AreRefusedReads count fault made = made ≡ []

-- one write of blocks of a table, of which this holds
pub record IsTableWrite (are : Entry → Type 0) (made : Answers) : Type 0 where
  pub pairs : Pairs
  pub number : ℕ
  pub all : are (pairs_of pairs)
  pub is : made ≡ (Write pairs, Wrote number) ∷ []

-- the reads of no table, and one write of the whole of this one
pub record AreOfInit (count : ℕ) (new : ℕ → Block) (made : Answers) : Type 0 where
  pub before : Answers
  pub last : Answers
  pub parts : made ≡ before ++ last
  pub reads : AreOtherReads count before
  pub writes : IsTableWrite (λ entry. entry ≡ table_pairs new 6) last

-- the blocks of the extents of `id`, of the first `n`, in ascending order
abbrev pub owned_blocks : (ℕ → ℕ) → ℕ → ℕ → ℕ → List ℕ
owned_blocks owner id size zero = []
owned_blocks owner id size (suc n) = owned_blocks owner id size n
    ++ (if owner n == id then range_with_len (6 + n * size) size else [])

-- a write of zeros to each of these blocks, in this order
abbrev pub AreZerosTo : List ℕ → Answers → Type 0
AreZerosTo [] [] = Unit {0}
AreZerosTo (b ∷ blocks) (e ∷ made) = (e.0 ≡ Write (single_pair b zero_block))
    × ((number : ℕ) × (e.1 ≡ Wrote number)) × AreZerosTo blocks made
AreZerosTo blocks made = ⊥

-- zeros to the blocks of `id`, and one write of what is new in this table
pub record AreOfCreate (id size extents : ℕ) (old new : ℕ → Block) (made : Answers) : Type 0 where
  pub zeros : Answers
  pub last : Answers
  pub parts : made ≡ zeros ++ last
  pub clears : AreZerosTo (owned_blocks (owner_in new) id size extents) zeros
  pub writes : IsTableWrite (AreChanges old new 6) last
