-- Numbering the disks other than one
use Rattle.std.specs.Prelude.{◌≡◌, ◌≢◌, ℕ, ◌<◌, ◌+◌, ◌-◌}
use Rattle.std.proofs.Common.{arith}
use Rattle.std.proofs.lemmas.Bool.Decides.{nat_tests}
use Rattle.paraid_base.specs.Skips.{index_among, skip}

pub index_among-skip : (p i : ℕ) → index_among p (skip p i) ≡ i
index_among-skip p i = grind (arith, nat_tests)

pub skip-index_among : (p d : ℕ) → d ≢ p → skip p (index_among p d) ≡ d
skip-index_among p d ne = grind (arith, nat_tests)

pub skip_other : (p i : ℕ) → skip p i ≢ p
skip_other p i = grind (arith, nat_tests)

pub skip_below : (p i m : ℕ) → i < m → skip p i < m + 1
skip_below p i m l = grind (arith, nat_tests)

pub index_among_below : (p d m : ℕ) → d ≢ p → p < m → d < m → index_among p d < m - 1
index_among_below p d m ne l k = grind (arith, nat_tests)

pub skip_apart : (p i j : ℕ) → skip p i ≡ skip p j → i ≡ j
skip_apart p i j e = grind (arith, nat_tests)
