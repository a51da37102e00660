-- The bytes of a meta, field by field in the order in which they stand
use Rattle.std.specs.Prelude.{ℕ, List, [], ◌∷◌, length, replicate, codes}
use Rattle.paraid_base.specs.declared.geometry.Geometry.{Geometry}
use Rattle.paraid_record.specs.declared.meta.Setup.{Setup}
use Rattle.paraid_record.specs.declared.meta.Meta.{Meta}
use Rattle.paraid_record.specs.Codes.{mode_code, phase_code, phase_to, out_code, fresh_code, rebuilt_count, gear_list, window_count, burst_code, period_code}
use Rattle.paraid_record.specs.Spelling.{big_endian, joined_parts, shorts, zero_filled}

-- the text PARAIDAR and the version
unfoldable pub heading_bytes : ℕ → List ℕ
heading_bytes version = joined_parts (codes "PARAIDAR" ∷ big_endian 2 version ∷ [])

-- the part with disks, gears and rows
unfoldable pub geometry_bytes : Geometry → List ℕ
geometry_bytes g = joined_parts
    (big_endian 1 g.disks
    ∷ big_endian 1 (length (gear_list g))
    ∷ zero_filled 8 (gear_list g)
    ∷ big_endian 4 g.rows
    ∷ [])

-- the part with rate, service, bounds, mode, windows and ration
unfoldable pub policy_bytes : Setup → List ℕ
policy_bytes s = joined_parts
    (big_endian 4 s.rate
    ∷ big_endian 4 s.service
    ∷ big_endian 1 s.up
    ∷ big_endian 1 s.down
    ∷ big_endian 1 (mode_code s.mode)
    ∷ big_endian 1 (window_count s.windows)
    ∷ shorts s.windows
    ∷ big_endian 2 s.ration
    ∷ [])

-- the part with epoch, writes and ticks
unfoldable pub clock_bytes : Meta → List ℕ
clock_bytes m = joined_parts
    (big_endian 8 m.epoch
    ∷ big_endian 8 m.writes
    ∷ big_endian 8 m.ticks
    ∷ [])

-- the part with gear, phase and out disk
unfoldable pub state_bytes : Meta → List ℕ
state_bytes m = joined_parts
    (big_endian 1 m.gear
    ∷ big_endian 1 (phase_code m.phase)
    ∷ big_endian 1 (phase_to m.phase)
    ∷ big_endian 1 (out_code m.out)
    ∷ big_endian 1 (fresh_code m.out)
    ∷ replicate 3 0
    ∷ [])

-- the part with fill mark, rebuilt units and spins
unfoldable pub count_bytes : Meta → List ℕ
count_bytes m = joined_parts
    (big_endian 4 m.fill
    ∷ big_endian 4 (rebuilt_count m.out)
    ∷ shorts m.spins
    ∷ [])

-- the part with the figures of energy
unfoldable pub energy_bytes : Setup → List ℕ
energy_bytes s = joined_parts
    (big_endian 4 s.spinning_mj
    ∷ big_endian 4 s.parked_mj
    ∷ big_endian 4 s.spinup_mj
    ∷ [])

-- how the allowance of spin-ups grows
unfoldable pub growth_bytes : ℕ → Setup → List ℕ
growth_bytes version s =
    joined_parts (big_endian 2 (burst_code version s) ∷ big_endian 4 (period_code version s) ∷ [])

-- the whole block: the fields, and then zeros
unfoldable pub meta_bytes : Meta → List ℕ
meta_bytes m = zero_filled 512 (joined_parts
    (heading_bytes m.version
    ∷ geometry_bytes m.setup.geometry
    ∷ policy_bytes m.setup
    ∷ clock_bytes m
    ∷ state_bytes m
    ∷ count_bytes m
    ∷ energy_bytes m.setup
    ∷ growth_bytes m.version m.setup
    ∷ []))
