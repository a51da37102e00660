use Rattle.std.specs.Prelude.{◌≡◌, ◌≤◌}
use Rattle.paraid_base.specs.Sums.{sum_before}
use Rattle.paraid_array.specs.Used.{one_with, power_by}
use Rattle.paraid_array.proofs.energy.disks_with.Given as goal

-- the disks before this one are counted
abbrev pub invariant-loop-disk : goal.invariant-loop-disk
invariant-loop-disk l = record { is : l.count ≡ sum_before (λ d. one_with l.fn.power (power_by l.fn.meta d)) l.disk; small : l.count ≤ l.disk }
