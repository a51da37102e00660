-- What a stop leaves of the blocks that were written since the last sync.
use Rattle.std.specs.Prelude.{◌≡◌, ◌++◌, ℕ, Bool, true, false, List, [], ◌∷◌, take, drop, replicate}
use Rattle.paraid_base.specs.declared.block.Block.{Block}
use Rattle.paraid_base.specs.Xor.{zero_block}
use Rattle.paraid_rack.specs.declared.call.Call.{Call}
use Rattle.paraid_rack.specs.declared.call.Call.TheVariants.{Read, Write, Sync, Park, SpinUp, Attach}
use Rattle.paraid_rack.specs.Alike.{HasPlace}
use Rattle.paraid_rack.specs.Disks.{Disks, step, with_at}
use Rattle.paraid_rack.specs.Trail.{Trail, disks, initial}
use Rattle.paraid_memrack.specs.declared.stop.Pick.{Pick}
use Rattle.paraid_memrack.specs.declared.stop.Pick.TheVariants.{Old, New, Filled, Mixed}

-- the blocks of a disk as it keeps them after a done sync or attach; else it keeps what it did
abbrev pub kept_if : Bool → (ℕ → Block) → (ℕ → Block) → ℕ → Block
kept_if true blocks before = blocks
kept_if false blocks before = before

-- what each disk keeps after a call on these disks, if before it kept these blocks
unfoldable pub kept_after : Call → Disks → (ℕ → ℕ → Block) → ℕ → ℕ → Block
kept_after (Read d p done) s kept = kept
kept_after (Write d p b done) s kept = kept
kept_after (Sync d done) s kept = with_at kept d (kept_if done (s.block d) (kept d))
kept_after (Park d done) s kept = kept
kept_after (SpinUp d done) s kept = kept
kept_after (Attach d size done) s kept = with_at kept d (kept_if done (λ p. zero_block) (kept d))

-- the same, after these calls
abbrev pub kept_by : Disks → (ℕ → ℕ → Block) → List Call → ℕ → ℕ → Block
kept_by s kept [] = kept
kept_by s kept (c ∷ cs) = kept_by (step c s) (kept_after c s kept) cs

-- each block as it was at the last done sync or attach of its disk before moment m, or at the start
abbrev pub kept_at : Trail → ℕ → ℕ → ℕ → Block
kept_at t m = kept_by (initial t.start) (initial t.start).block (take m t.calls)

-- the bytes that a pick gives a loose block, by those at the last sync and those written last
abbrev pub picked_bytes : Pick → List ℕ → List ℕ → List ℕ
picked_bytes Old kept written = kept
picked_bytes New kept written = written
picked_bytes (Filled byte) kept written = replicate 512 byte
picked_bytes Mixed kept written = take 256 written ++ drop 256 kept

-- in disks after a stop at moment m, each loose block that exists holds what the pick says
pub record IsPicked (pick : Pick) (t : Trail) (m : ℕ) (after : Disks) : Type 0 where
  pub bytes : (d p : ℕ)
      → HasPlace (disks t m) d p → (disks t m).loose d p ≡ true → (after.block d p).bytes
      ≡ picked_bytes pick (kept_at t m d p).bytes ((disks t m).block d p).bytes
