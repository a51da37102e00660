-- A block as it was written last and as it was kept last.
use Rattle.std.specs.Prelude.{ℕ, true, false, List, get_or, set, if◌then◌else◌}
use Rattle.paraid_base.specs.declared.block.Block.{Block}
use Rattle.paraid_base.specs.Xor.{zero_block}
use Rattle.paraid_rack.specs.Disks.{Disks}
use Rattle.paraid_memrack.specs.declared.stop.Pick.{Pick}
use Rattle.paraid_memrack.specs.declared.versions.Versions.{Versions}
use Rattle.paraid_memrack.specs.Stop.{picked_bytes}

-- a block that is not loose
abbrev pub synced_block : Block → Versions
synced_block b = record { written = b; kept = b; loose = false }

-- a block is written, where there is such a place
abbrev pub write_version : List Versions → ℕ → Block → List Versions
write_version blocks p b =
    set blocks p (record (get_or blocks p (synced_block zero_block)) { written = b; loose = true })

-- a block is kept as it was written last
abbrev pub after_block_sync : Versions → Versions
after_block_sync v = synced_block v.written

-- a block of these disks, where they keep those blocks
abbrev pub versions_in : Disks → (ℕ → ℕ → Block) → ℕ → ℕ → Versions
versions_in s kept d p = record { written = s.block d p; kept = kept d p; loose = s.loose d p }

-- the bytes of a block after a stop
abbrev pub left_bytes : Pick → Versions → List ℕ
left_bytes pick v =
    if v.loose then picked_bytes pick v.kept.bytes v.written.bytes else v.written.bytes
