-- A slot as it was at an earlier moment, made again from the start and the calls since then.
use Rattle.std.specs.Prelude.{◌≡◌, ◌<◌, ℕ, List, [], length, map, get_or}
use Rattle.paraid_base.specs.declared.block.Block.{Block}
use Rattle.paraid_base.specs.Xor.{zero_block}
use Rattle.paraid_rack.specs.declared.call.Power.{Power}
use Rattle.paraid_rack.specs.declared.call.Power.TheVariants.{Absent}
use Rattle.paraid_rack.specs.declared.call.Call.{Call}
use Rattle.paraid_rack.specs.Disks.{Disks, step}
use Rattle.paraid_rack.specs.Trail.{Beginning, Trail, disks}
use Rattle.paraid_memrack.specs.declared.past.PastSlot.{PastSlot}
use Rattle.paraid_memrack.specs.declared.stop.Pick.{Pick}
use Rattle.paraid_memrack.specs.declared.versions.Versions.{Versions}
use Rattle.paraid_rack.specs.Calls.{disk_of}
use Rattle.paraid_memrack.specs.Stop.{kept_after, kept_at}
use Rattle.paraid_memrack.specs.Versions.{synced_block, left_bytes, versions_in}

-- its power, and each block as it was written last and as it was kept last
pub record Past : Type 0 where
  pub power : Power
  pub versions : List Versions

-- a replayed slot as a value
abbrev pub past_of : PastSlot → Past
past_of s = record { power = s.power; versions = s.versions.items }

-- a slot that does not exist
abbrev pub no_past : Past
no_past = record { power = Absent; versions = [] }

-- the replayed slot of this number
unfoldable pub past_at : List PastSlot → ℕ → Past
past_at slots d = get_or (map past_of slots) d no_past

-- a slot at the start
abbrev pub past_start : Beginning → Past
past_start b = record { power = b.power; versions = map synced_block b.blocks }

-- slot d was so where the disks were s and kept these blocks
pub record IsPast (s : Disks) (kept : ℕ → ℕ → Block) (d : ℕ) (v : Past) : Type 0 where
  pub power : s.power d ≡ v.power
  pub size : s.size d ≡ length v.versions
  pub blocks : (p : ℕ) → p < length v.versions
      → get_or v.versions p (synced_block zero_block) ≡ versions_in s kept d p

-- a call makes the slot w of the slot v of its disk
pub record MakesPast (c : Call) (v w : Past) : Type 0 where
  pub follows : (s : Disks) (kept : ℕ → ℕ → Block) → IsPast s kept (disk_of c) v
      → IsPast (step c s) (kept_after c s kept) (disk_of c) w

-- each slot was so
abbrev pub AllPast : Disks → (ℕ → ℕ → Block) → List PastSlot → Type 0
AllPast s kept slots = (d : ℕ) → IsPast s kept d (past_at slots d)

-- each slot was so before call m
abbrev pub AllPastAt : Trail → ℕ → List PastSlot → Type 0
AllPastAt t m slots = AllPast (disks t m) (kept_at t m) slots

-- a slot whose blocks are said by their bytes
pub record InBytes : Type 0 where
  pub power : Power
  pub blocks : List (List ℕ)

-- a beginning with its blocks as bytes
abbrev pub in_bytes : Beginning → InBytes
in_bytes b = record { power = b.power; blocks = map (λ (x : Block). x.bytes) b.blocks }

-- a slot after a stop
abbrev pub left_in_bytes : Pick → Past → InBytes
left_in_bytes pick v = record { power = v.power; blocks = map (left_bytes pick) v.versions }
