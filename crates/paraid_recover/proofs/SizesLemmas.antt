-- Where no disk is too small, each has its slot.
use Rattle.std.specs.Prelude.{◌≡◌, ℕ, ◌≤◌, ◌||◌, nat_lt, not, Bool, false}
use Rattle.std.proofs.Common.{arith, inl, inr}
use Rattle.std.proofs.lemmas.Bool.{cases_lt}
use Rattle.paraid_rack.specs.Slots.{Slot}
use Rattle.paraid_record.specs.declared.meta.Meta.{Meta}
use Rattle.paraid_recover.specs.Refusals.{IsNone, is_small}

never : (s : ℕ) (x : Bool) → not (nat_lt s s) || x ≡ false → ⊥
never s x is = grind arith

is_slot : (slots : ℕ) (slot : ℕ → Slot) (m : Meta) → is_small slots slot m slots ≡ false → ⊥
unfolding is_small
is_slot slots slot m is = never slots _ is

pub large_enough : (slots : ℕ) (slot : ℕ → Slot) (m : Meta) (n : ℕ) → IsNone (is_small slots slot m) n → n ≤ slots
large_enough slots slot m n none = elim (cases_lt slots n) [
  | inl less ↦ absurd (is_slot slots slot m (none slots less))
  | inr is ↦ is
]
