-- How often calls spin a disk up.
use Rattle.std.specs.Prelude.{ℕ, ◌+◌, ◌==◌, List, [], ◌∷◌, if◌then◌else◌}
use Rattle.paraid_rack.specs.declared.call.Call.{Call}
use Rattle.paraid_rack.specs.declared.call.Call.TheVariants.{Read, Write, Sync, Park, SpinUp, Attach}

-- how often a call spins up disk `d`, done or not
abbrev pub spin_ups_by : ℕ → Call → ℕ
spin_ups_by d (Read e p done) = 0
spin_ups_by d (Write e p b done) = 0
spin_ups_by d (Sync e done) = 0
spin_ups_by d (Park e done) = 0
spin_ups_by d (SpinUp e done) = if e == d then 1 else 0
spin_ups_by d (Attach e size done) = 0

-- how often calls do
abbrev pub spin_up_count : ℕ → List Call → ℕ
spin_up_count d [] = 0
spin_up_count d (call ∷ calls) = spin_ups_by d call + spin_up_count d calls
