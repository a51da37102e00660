-- How many commits a core has made since it was another.
use Rattle.std.specs.Prelude.{◌≡◌, ℕ, ◌+◌, ◌≤◌}
use Rattle.std.proofs.Common.{arith}
use Rattle.paraid_core.specs.declared.staged.Core.{Core}
use Rattle.paraid_rack.specs.Slots.{Slot}
use Rattle.paraid_rebuild.specs.Rebuilds.{ServesLater}
use Rattle.paraid_shift.specs.Outcomes.{ServesOn}
use Rattle.paraid_upkeep.specs.Events.{CommitsAtMost}

-- by the epochs alone
later_then : (a b n : ℕ) → a ≤ b → b ≤ n → a ≤ n
later_then a b n one two = omega arith

few_twice : (a b n one two : ℕ) → b ≤ a + one → n ≤ b + two → n ≤ a + (one + two)
few_twice a b n one two first second = omega arith

by_one : (b n : ℕ) → n ≡ b + 1 → b ≤ n
by_one b n next = omega arith

at_most_one : (b n : ℕ) → n ≡ b + 1 → n ≤ b + 1
at_most_one b n next = omega arith

same_later : (b n : ℕ) → n ≡ b → b ≤ n
same_later b n same = omega arith

same_few : (b n most : ℕ) → n ≡ b → n ≤ b + most
same_few b n most same = omega arith

wider : (a n one most : ℕ) → one ≤ most → n ≤ a + one → n ≤ a + most
wider a n one most room few = omega arith

module _ {R : Type 0} {g : _} where
  -- by none where the epoch is the same
  pub few_none : (a b : Core R g) (most : ℕ) → b.meta.epoch ≡ a.meta.epoch → CommitsAtMost a b most
  few_none a b most same = record { later = same_later _ _ same; few = same_few _ _ most same }

  -- by one
  pub few_one : (a b : Core R g) → b.meta.epoch ≡ a.meta.epoch + 1 → CommitsAtMost a b 1
  few_one a b next = record { later = by_one _ _ next; few = at_most_one _ _ next }

  -- those of a step of a rebuild
  pub few_later : (a b : Core R g) (most : ℕ) → ServesLater a b most → CommitsAtMost a b most
  few_later a b most it = record { later = it.later; few = it.few }

  -- those of a call of a shift
  pub few_on : (count : R → ℕ) (slot : R → ℕ → Slot) (a b : Core R g) (most : ℕ) → ServesOn count slot a b most → CommitsAtMost a b most
  few_on count slot a b most on = record { later = on.later; few = on.epoch }

  -- those of two parts, one after the other
  pub few_then : (a b n : Core R g) (one two : ℕ) → CommitsAtMost a b one → CommitsAtMost b n two → CommitsAtMost a n (one + two)
  few_then a b n one two first second = record {
    later = later_then _ _ _ first.later second.later;
    few = few_twice a.meta.epoch b.meta.epoch n.meta.epoch one two first.few second.few;
  }

  -- with room for more
  pub few_within : (a b : Core R g) (one most : ℕ) → one ≤ most → CommitsAtMost a b one → CommitsAtMost a b most
  few_within a b one most room it = record { later = it.later; few = wider a.meta.epoch b.meta.epoch one most room it.few }
