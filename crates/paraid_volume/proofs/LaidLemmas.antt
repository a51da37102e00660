-- Writes of the blocks of a table.
use Rattle.std.proofs.Common.{◌≡◌, ◌≢◌, ℕ, ◌+◌, ◌-◌, ◌<◌, ◌≤◌, ◌∙◌, ◌++◌, ◌∷◌, [], refl, sym, ap, arith, subst, inl, inr, get_or, zero, suc}
use Rattle.std.specs.Prelude.{All, ◌==◌, if◌then◌else◌}
use Rattle.std.proofs.lemmas.Bool.{cases_eq, cases_lt}
use Rattle.std.proofs.lemmas.Bool.Decides.{nat_tests}
use Rattle.std.proofs.lemmas.List.Elements.{All-append, All-head, All-tail, All-nil}
use Rattle.paraid_base.specs.declared.block.Block.{Block}
use Rattle.paraid_base.specs.declared.pairs.Pairs.{Pairs}
use Rattle.paraid_base.specs.Pairs.{pairs_of}
use Rattle.paraid_base.specs.BlockAnswers.{IsFirstMissing}
use Rattle.paraid_base.specs.History.{Entry, History, after_all, last_of}
use Rattle.paraid_base.proofs.HistoryLemmas.{after_all-append, last_of-append}
use Rattle.paraid_volume.specs.Laid.{AreChanges, IsLaid, owner_with}
use Rattle.paraid_volume.specs.Laid.AreChanges.{names, other, same as unchanged}
use Rattle.paraid_volume.specs.Tables.{IsSameTable, extents_owned}
use Rattle.paraid_base.proofs.PlacesLemmas.{sum_before_more, sum_before_none}

abbrev pub IsLow : ℕ × Block → Type 0
IsLow pair = pair.0 < 6

pub low_one : (at : ℕ) (y : Block) → at < 6 → All IsLow ((at, y) ∷ [])
low_one at y l k d below = subst (λ (p : ℕ × Block). IsLow p) (here k d below) l
  where
    here : (k : ℕ) (d : ℕ × Block) → k < 1 → (at, y) ≡ get_or ((at, y) ∷ []) k d
    here zero d below = refl
    here (suc k) d below = let no : ⊥ = omega (arith, below) in absurd no

-- one pair more
module _ (p q : Entry) (at : ℕ) (y : Block) (is : q ≡ p ++ (at, y) ∷ []) where
  chosen : (k : ℕ) (x : Block) → last_of k x q ≡ (if at == k then y else last_of k x p)
  chosen k x = ap (last_of k x) is ∙ last_of-append k x p ((at, y) ∷ [])

  pub added_here : (x : Block) → last_of at x q ≡ y
  added_here x = rw (chosen at x) grind (arith, nat_tests)

  pub added_other : (k : ℕ) (x : Block) → at ≢ k → last_of k x q ≡ last_of k x p
  added_other k x not = rw (chosen k x) grind (arith, nat_tests)

  pub added_low : at < 6 → All IsLow p → All IsLow q
  added_low l all = subst (λ (e : Entry). All IsLow e) (sym is) (All-append IsLow p ((at, y) ∷ []) all (low_one at y l))

mid_low : (before : Entry) (b : ℕ) (y : Block) (rest : Entry) → All IsLow (before ++ (b, y) ∷ rest) → b < 6
mid_low [] b y rest all = All-head IsLow (b, y) rest all
mid_low (p ∷ before) b y rest all = mid_low before b y rest (All-tail IsLow p (before ++ (b, y) ∷ rest) all)

pub not_missing : (count : ℕ) (entry : Entry) (b : ℕ) → 7 ≤ count → All IsLow entry → IsFirstMissing count entry b → ⊥
not_missing count entry b large all first =
    let low = mid_low first.before b first.bytes first.rest (subst (λ (e : Entry). All IsLow e) first.is all) in
    let past = first.missing in
    omega (arith, low, past, large)

-- the table after a write of its blocks
pub laid_table : (h : History) (entry : Entry) (old new : ℕ → Block) → IsLaid old new entry → IsSameTable old (after_all h) → IsSameTable new (after_all (h ++ entry ∷ []))
laid_table h entry old new laid same k l =
    sym (laid.here k l) ∙ ap (λ (x : Block). last_of k x entry) (same k l) ∙ sym (after_all-append h entry k)

pub laid_rest : (h : History) (entry : Entry) (old new : ℕ → Block) → IsLaid old new entry → (k : ℕ) → 6 ≤ k → after_all (h ++ entry ∷ []) k ≡ after_all h k
laid_rest h entry old new laid k l = after_all-append h entry k ∙ laid.rest k (after_all h k) l

-- the blocks below `at` were looked at, and those that differ are written
pub record Laying (old new : ℕ → Block) (at : ℕ) (p : Pairs) : Type 0 where
  pub few : p.count < at
  pub here : (k : ℕ) → k < at → last_of k (old k) (pairs_of p) ≡ new k
  pub rest : (k : ℕ) (x : Block) → at ≤ k → last_of k x (pairs_of p) ≡ x
  pub below : All IsLow (pairs_of p)
  pub exact : AreChanges old new at (pairs_of p)

pub laying_first : (old new : ℕ → Block) (y : Block) (q : Pairs) → pairs_of q ≡ [] ++ (1, y) ∷ [] → q.count ≡ 1 → y ≡ new 1 → old 0 ≡ new 0 → Laying old new 2 q
laying_first old new y q is count same head = record {
  few = omega (arith, count);
  here = λ k l. elim (cases_eq 1 k) [
    | inl e ↦ subst (λ (n : ℕ). last_of n (old n) (pairs_of q) ≡ new n) e (added_here [] (pairs_of q) 1 y is (old 1) ∙ same)
    | inr e ↦ let none : 0 ≡ k = omega (arith, l, e) in added_other [] (pairs_of q) 1 y is k (old k) e ∙ subst (λ (n : ℕ). old n ≡ new n) none head
  ];
  rest = λ k x l. added_other [] (pairs_of q) 1 y is k x (λ e. let no : ⊥ = omega (arith, e, l) in absurd no);
  below = added_low [] (pairs_of q) 1 y is (omega arith) (All-nil IsLow);
  exact = subst (AreChanges old new 2) (ap (λ (x : Block). (1, x) ∷ []) (sym same) ∙ sym is) names;
}

module _ (old new : ℕ → Block) (at : ℕ) (p : Pairs) (laying : Laying old new at p) where
  pub laying_added : at < 6 → ((old at).bytes ≡ (new at).bytes → ⊥) → (y : Block) (q : Pairs) → pairs_of q ≡ pairs_of p ++ (at, y) ∷ [] → q.count ≡ p.count + 1 → y ≡ new at → Laying old new (at + 1) q
  laying_added low differs y q is count same =
      let few = laying.few in record {
        few = omega (arith, few, count);
        here = λ k l. elim (cases_eq at k) [
          | inl e ↦ subst (λ (n : ℕ). last_of n (old n) (pairs_of q) ≡ new n) e (added_here (pairs_of p) (pairs_of q) at y is (old at) ∙ same)
          | inr e ↦ added_other (pairs_of p) (pairs_of q) at y is k (old k) e ∙ laying.here k (omega (arith, l, e))
        ];
        rest = λ k x l. added_other (pairs_of p) (pairs_of q) at y is k x (λ e. let no : ⊥ = omega (arith, e, l) in absurd no) ∙ laying.rest k x (omega (arith, l));
        below = added_low (pairs_of p) (pairs_of q) at y is low laying.below;
        exact = subst (AreChanges old new (at + 1)) (ap (λ (x : Block). pairs_of p ++ (at, x) ∷ []) (sym same) ∙ sym is) (other at (pairs_of p) laying.exact differs);
      }

  pub laying_same : old at ≡ new at → Laying old new (at + 1) p
  laying_same same =
      let few = laying.few in record {
        few = omega (arith, few);
        here = λ k l. elim (cases_eq at k) [
          | inl e ↦ subst (λ (n : ℕ). last_of n (old n) (pairs_of p) ≡ new n) e (laying.rest at (old at) (omega arith) ∙ same)
          | inr e ↦ laying.here k (omega (arith, l, e))
        ];
        rest = λ k x l. laying.rest k x (omega (arith, l));
        below = laying.below;
        exact = unchanged at (pairs_of p) laying.exact (ap (λ (x : Block). x.bytes) same);
      }

-- owners after the first `count` free extents below `n` were given to `id`
module _ (o : ℕ → ℕ) (id count n : ℕ) where
  pub taken_here : (e : ℕ) → o n ≡ 0 → extents_owned o 0 n < count → owner_with o id count (n + 1) e ≡ (if e == n then id else owner_with o id count n e)
  taken_here e free some = elim (cases_eq e n) [
    | inl is ↦ subst (λ (k : ℕ). owner_with o id count (k + 1) e ≡ (if e == k then id else owner_with o id count k e)) is (self e (ap o is ∙ free) (subst (λ (k : ℕ). extents_owned o 0 k < count) (sym is) some))
    | inr not ↦ other e not
  ]
    where
      self : (e : ℕ) → o e ≡ 0 → extents_owned o 0 e < count → owner_with o id count (e + 1) e ≡ (if e == e then id else owner_with o id count e e)
      self e free some = grind (arith, nat_tests)

      other : (e : ℕ) → e ≢ n → owner_with o id count (n + 1) e ≡ (if e == n then id else owner_with o id count n e)
      other e not = grind (arith, nat_tests)

  pub taken_none : (e : ℕ) → (o n ≡ 0 → count ≤ extents_owned o 0 n) → owner_with o id count (n + 1) e ≡ owner_with o id count n e
  taken_none e none = elim (cases_eq e n) [
    | inl is ↦ subst (λ (k : ℕ). owner_with o id count (k + 1) e ≡ owner_with o id count k e) is (self e (λ z. let f = none (sym (ap o is) ∙ z) in subst (λ (k : ℕ). count ≤ extents_owned o 0 k) (sym is) f))
    | inr not ↦ grind (arith, nat_tests)
  ]
    where
      self : (e : ℕ) → (o e ≡ 0 → count ≤ extents_owned o 0 e) → owner_with o id count (e + 1) e ≡ owner_with o id count e e
      self e past = elim (cases_eq (o e) 0) [
        | inl z ↦ let l = past z in grind (arith, nat_tests)
        | inr z ↦ grind (arith, nat_tests)
      ]

  pub owned_free : o n ≡ 0 → extents_owned o 0 (n + 1) ≡ extents_owned o 0 n + 1
  owned_free free = sum_before_more (λ k. if o k == 0 then 1 else 0) n ∙ (let one : ◌≡◌ {A = ℕ} (if o n == 0 then 1 else 0) 1 = grind (arith, nat_tests) in omega (arith, one))

  pub owned_taken : o n ≢ 0 → extents_owned o 0 (n + 1) ≡ extents_owned o 0 n
  owned_taken taken = sum_before_more (λ k. if o k == 0 then 1 else 0) n ∙ (let one : ◌≡◌ {A = ℕ} (if o n == 0 then 1 else 0) 0 = grind (arith, nat_tests) in omega (arith, one))

-- of the extents below `n` those to be taken were given to `id`, and so many are left to give
pub record Taking (o now : ℕ → ℕ) (id count n left : ℕ) : Type 0 where
  pub done : (e : ℕ) → e < 2048 → now e ≡ owner_with o id count n e
  pub rest : left ≡ count - extents_owned o 0 n

pub taking_first : (o : ℕ → ℕ) (id count : ℕ) → Taking o o id count 0 count
taking_first o id count = record {
  done = λ e l. grind (arith, nat_tests);
  rest = let none = sum_before_none (λ k. if o k == 0 then 1 else 0) in omega (arith, none);
}

module _ (o now : ℕ → ℕ) (id count n left : ℕ) (taking : Taking o now id count n left) (low : n < 2048) where
  owner_now : now n ≡ o n
  owner_now = taking.done n low ∙ grind (arith, nat_tests)

  pub taking_more : now n ≡ 0 → 0 < left → (new : ℕ → ℕ) → ((e : ℕ) → e < 2048 → new e ≡ (if e == n then id else now e)) → Taking o new id count (n + 1) (left - 1)
  taking_more free some new is =
      let z : o n ≡ 0 = sym owner_now ∙ free in
      let was = taking.rest in
      let step = owned_free o id count n z in
      record {
        done = λ e l. is e l ∙ ap (λ (x : ℕ). if e == n then id else x) (taking.done e l) ∙ sym (taken_here o id count n e z (omega (arith, was, some)));
        rest = omega (arith, was, step);
      }

  pub taking_none : (0 < left → now n ≡ 0 → ⊥) → Taking o now id count (n + 1) left
  taking_none none =
      let was = taking.rest in
      let past : o n ≡ 0 → count ≤ extents_owned o 0 n = λ z. elim (cases_lt 0 left) [
        | inl l ↦ absurd (none l (owner_now ∙ z))
        | inr l ↦ omega (arith, l, was)
      ] in
      record {
        done = λ e l. taking.done e l ∙ sym (taken_none o id count n e past);
        rest = elim (cases_eq (o n) 0) [
          | inl z ↦ let step = owned_free o id count n z in let done = past z in omega (arith, was, step, done)
          | inr z ↦ let step = owned_taken o id count n z in omega (arith, was, step)
        ];
      }
