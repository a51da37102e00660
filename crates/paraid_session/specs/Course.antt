-- A course of a session that meets these definitions.
use Rattle.std.specs.Prelude.{◌≡◌, ℕ, ◌+◌, false, true, List, [], ◌∷◌, Some, None}
use Rattle.paraid_base.specs.declared.block.Block.{Block}
use Rattle.paraid_base.specs.declared.event.Answer.TheVariants.{Flushed, Wrote}
use Rattle.paraid_base.specs.declared.event.Event.TheVariants.{Flush, Write}
use Rattle.paraid_base.specs.Pairs.{single_pair, pairs_of}
use Rattle.paraid_base.specs.Xor.{zero_block}
use Rattle.paraid_rack.specs.declared.call.Call.{Call}
use Rattle.paraid_rack.specs.declared.call.Call.TheVariants.{Read}
use Rattle.paraid_rack.specs.Disks.{Disks, IsImage}
use Rattle.paraid_record.specs.declared.meta.Meta.{Meta}
use Rattle.paraid_record.specs.Meta.{meta_bytes}
use Rattle.paraid_record.specs.Targets.{targets_bytes}
use Rattle.paraid_image.specs.RunStart.{IsRunStart}
use Rattle.paraid_image.specs.Sides.{LogState, is_open}
use Rattle.paraid_image.specs.Standing.{Stands}
use Rattle.paraid_session.specs.Mount.{IsMounted}
use Rattle.paraid_session.specs.Turn.{IsTurn, Point}

-- the meta of the first commit of a write
abbrev pub next_meta : Meta → Meta
next_meta m = record m { epoch = m.epoch + 1; writes = m.writes + 1 }

-- the blocks that a commit without targets writes: the next meta, an empty list, and the two gates
pub record AreCommitBlocks (m : Meta) (meta list opening closing : Block) : Type 0 where
  pub meta_is : meta.bytes ≡ meta_bytes (next_meta m)
  pub list_is : list.bytes ≡ targets_bytes []
  pub opens : is_open opening ≡ true
  pub closes : is_open closing ≡ false

-- From these disks on, with nothing held yet: a mount, a write of a block of zeros, a flush, a
-- write in which disk 2 is lost, a stop after it, and a mount of what the stop leaves. The next run
-- begins with the write that was flushed and without the other one.
pub record IsCourse (slots : ℕ) (s : Disks) (m : Meta) : Type 0 where
  pub first : Point
  pub written : Point
  pub kept : Point
  pub lossy : Point
  pub next : Point
  pub flush_calls : List Call
  pub mounted : (x : ℕ) (said : LogState)
      → Stands s x said → IsMounted slots s x said [] 0 None [] (λ p. p ≡ first)
  pub writes : IsTurn slots m.setup first (Write (single_pair 0 zero_block)) (Wrote 1) [] written
  pub flushes : IsTurn slots m.setup written Flush (Flushed 1) flush_calls kept
  pub loses : IsTurn slots m.setup kept
      (Write (single_pair 0 zero_block)) (Wrote 2) (Read 2 101 false ∷ []) lossy
  pub stopped : IsImage lossy.disks lossy.disks
  pub entry : IsRunStart slots lossy.disks lossy.history lossy.low (Some 2)
  pub mounted_again : (x : ℕ) (said : LogState) → Stands lossy.disks x said
      → IsMounted slots lossy.disks x said lossy.history lossy.low (Some 2) [] (λ p. p ≡ next)
  pub holds : next.history ≡ pairs_of (single_pair 0 zero_block) ∷ []
