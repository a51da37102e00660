-- The counts of the calls on each disk, and what a plan says of the next call.
use Rattle.std.proofs.Common.{◌≡◌, ◌≢◌, inl, inr, ℕ, ◌+◌, ◌<◌, ◌≤◌, Bool, true, false, cond, ◌&&◌, ◌==◌, nat_lt, List, [], ◌∷◌, ◌++◌, length, get_or, set, replicate, sym, ◌∙◌, ap, subst, arith, add-zero}
use Rattle.std.specs.List.{count_by, list_any}
use Rattle.std.proofs.lemmas.Bool.{cases_eq}
use Rattle.std.proofs.lemmas.Bool.Decides.{nat_tests}
use Rattle.std.proofs.lemmas.List.{get_or-set_same, get_or-set_other, get_or-replicate}
use Rattle.std.proofs.lemmas.List.Sums.{sum_by-append, count_by-le-length}
use Rattle.paraid_rack.specs.declared.call.Call.{Call}
use Rattle.paraid_memrack.specs.declared.plan.Planned.{Planned}
use Rattle.paraid_memrack.specs.CallPlan.{count_on, names_call, is_planned, listed_after}
use Rattle.paraid_rack.specs.Calls.{disk_of}
use Rattle.paraid_memrack.specs.Counted.{IsCounted}

pub lt_true : (a b : ℕ) → a < b → nat_lt a b ≡ true
lt_true a b lt = grind (arith, nat_tests)

pub lt_false : (a b : ℕ) → b ≤ a → nat_lt a b ≡ false
lt_false a b le = grind (arith, nat_tests)

eq_other : (a b : ℕ) → a ≢ b → (a == b) ≡ false
eq_other a b not = grind (arith, nat_tests)

eq_same : (a b : ℕ) → a ≡ b → (a == b) ≡ true
eq_same a b is = grind (arith, nat_tests)

plus_zero : (n : ℕ) → 0 + n ≡ n
plus_zero n = omega arith

count_on-push : (d : ℕ) (calls : List Call) (c : Call) → count_on d (calls ++ c ∷ []) ≡ count_on d calls + cond (disk_of c == d) 1 0
unfolding count_on
count_on-push d calls c =
    sum_by-append (λ (x : Call). cond (disk_of x == d) 1 0) calls (c ∷ []) ∙ ap (λ (n : ℕ). count_by (λ (x : Call). disk_of x == d) calls + n) (plus_zero (cond (disk_of c == d) 1 0))

pub count_on-le-length : (d : ℕ) (calls : List Call) → count_on d calls ≤ length calls
unfolding count_on
count_on-le-length d calls = count_by-le-length (λ (x : Call). disk_of x == d) calls

pub count_on-none : (d : ℕ) (calls : List Call) → calls ≡ [] → count_on d calls ≡ 0
unfolding count_on
count_on-none d calls none = ap (λ (l : List Call). count_by (λ c. disk_of c == d) l) none

pub counted_none : (calls : List Call) → calls ≡ [] → IsCounted (replicate 8 0) calls
counted_none calls none d lt = get_or-replicate 8 d 0 0 lt ∙ sym (count_on-none d calls none)

pub counted_push : (counts : List ℕ) (calls after : List Call) (c : Call) (disk : ℕ) → disk_of c ≡ disk → disk < length counts → disk < 8 → after ≡ calls ++ c ∷ [] → IsCounted counts calls
    → IsCounted (set counts disk (get_or counts disk 0 + 1)) after
counted_push counts calls after c disk on within small longer was d lt = elim (cases_eq d disk) [
  | inl is ↦
      subst (λ (k : ℕ). get_or (set counts disk (get_or counts disk 0 + 1)) k 0 ≡ count_on k after) (sym is)
      (get_or-set_same counts disk (get_or counts disk 0 + 1) 0 within ∙ ap (λ (n : ℕ). n + 1) (was disk small)
      ∙ ap (λ (b : Bool). count_on disk calls + cond b 1 0) (sym (eq_same (disk_of c) disk on)) ∙ sym (count_on-push disk calls c) ∙ ap (count_on disk) (sym longer))
  | inr not ↦
      get_or-set_other counts disk d (get_or counts disk 0 + 1) 0 not ∙ was d lt ∙ sym (add-zero (count_on d calls))
      ∙ ap (λ (b : Bool). count_on d calls + cond b 1 0) (sym (eq_other (disk_of c) d (λ same. not (sym same ∙ on)))) ∙ sym (count_on-push d calls c) ∙ ap (count_on d) (sym longer)
]

-- the test in the code is the one that is defined
pub planned_is : (most at nth disk : ℕ) (plan : List Planned) (calls : List Call) → at ≡ length calls → nth ≡ count_on disk calls
    → (nat_lt at most && list_any (names_call at disk nth) plan) ≡ is_planned most plan calls disk
unfolding is_planned
planned_is most at nth disk plan calls here counted =
    ap (λ (k : ℕ). nat_lt k most && list_any (names_call k disk nth) plan) here
    ∙ ap (λ (k : ℕ). nat_lt (length calls) most && list_any (names_call (length calls) disk k) plan) counted

-- a call on a list that has room, or has none
pub listed_more : (most n : ℕ) (calls : List Call) (c : Call) → n ≡ length calls → n < most → listed_after most calls c ≡ calls ++ c ∷ []
unfolding listed_after
listed_more most n calls c is room = ap (λ (b : Bool). cond b (calls ++ c ∷ []) calls) (lt_true (length calls) most (omega arith))

pub listed_same : (most n : ℕ) (calls : List Call) (c : Call) → n ≡ length calls → most ≤ n → listed_after most calls c ≡ calls
unfolding listed_after
listed_same most n calls c is full = ap (λ (b : Bool). cond b (calls ++ c ∷ []) calls) (lt_false (length calls) most (omega arith))
