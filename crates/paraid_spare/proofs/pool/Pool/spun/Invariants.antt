use Rattle.std.proofs.Common.{◌≡◌, ℕ, ◌<◌}
use Rattle.std.specs.Prelude.{◌&&◌, nat_le, nat_lt, if◌then◌else◌}
use Rattle.paraid_spare.specs.Pools.{saturating_next, left_of, spins_of, wait_of, waits_of}
use Rattle.paraid_spare.proofs.pool.Pool.spun.Given as goal

abbrev pub invariant-loop-disk : goal.invariant-loop-disk
invariant-loop-disk l = record {
  left : left_of l.self ≡ left_of l.fn.self;
  wait : wait_of l.self ≡ wait_of l.fn.self;
  waits : (d : ℕ) → waits_of l.self d ≡ waits_of l.fn.self d;
  done : (d : ℕ) → d < 8 → spins_of l.self d ≡ (if nat_le l.fn.lo d && nat_lt d l.disk then saturating_next 64 (spins_of l.fn.self d) else spins_of l.fn.self d);
}
