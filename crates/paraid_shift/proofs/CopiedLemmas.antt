-- The cells of a group are copied one after the other.
use Rattle.std.specs.Prelude.{◌≡◌, ℕ, ◌+◌, ◌<◌, ◌≤◌, ◌⊎◌, ◌==◌, ◌&&◌, ◌||◌, nat_le, nat_lt, Bool, true, false, List, [], Option, Some, None}
use Rattle.std.proofs.Common.{sym, ◌∙◌, ap, subst, arith, inl, inr}
use Rattle.std.proofs.lemmas.Bool.{cases_eq, cases_lt}
use Rattle.std.proofs.lemmas.Bool.Decides.{nat_tests}
use Rattle.paraid_base.specs.declared.state.Out.TheVariants.{No}
use Rattle.paraid_base.specs.History.{History}
use Rattle.paraid_base.specs.States.{rising_to}
use Rattle.paraid_dirty.specs.Table.{IsFirstFrom, is_dirty}
use Rattle.paraid_image.specs.Sides.{Batch}
use Rattle.paraid_rack.specs.Disks.{Disks}
use Rattle.paraid_rack.specs.Slots.{Slot}
use Rattle.paraid_rack.specs.Told.{CrashTriple, Ran}
use Rattle.paraid_rack.specs.Trail.{Trail, now}
use Rattle.paraid_rack.proofs.TrailsLemmas.{stays, then, weaker}
use Rattle.paraid_record.specs.declared.meta.Meta.{Meta}
use Rattle.paraid_record.specs.declared.meta.Setup.{Setup}
use Rattle.paraid_txn.specs.Commit.{gone_out}
use Rattle.paraid_txn.specs.Stores.{named_of, store_rack}
use Rattle.paraid_txn.specs.Uses.{EachCall}
use Rattle.paraid_core.specs.declared.staged.Core.{Core}
use Rattle.paraid_core.specs.Calls.{IsCopySync, IsDataCall}
use Rattle.paraid_core.specs.CellCopies.{CellsCopied, KeepsCellCopies, copied_with}
use Rattle.paraid_core.specs.CoreInvariant.{IsHeldWithOneMissing}
use Rattle.paraid_core.specs.Cores.{CoreStandsFor, IsCoreHeldSinceCommit}
use Rattle.paraid_core.specs.Steps.{IsHeldStill, LeavesCore, StandsStill}
use Rattle.paraid_core.proofs.CallLemmas.{keeps_held}
use Rattle.paraid_core.proofs.KindLemmas.{calls_milder, sync_data}
use Rattle.paraid_core.proofs.MarkCellLemmas.{cells_begin}
use Rattle.paraid_core.proofs.StepLemmas.{held_runs_then, runs_end, runs_then}
use Rattle.paraid_event.specs.CoreServing.{IsHeldFromRest, RestsInShift, StandsFromRest}
use Rattle.paraid_shift.specs.Rising.{CopiesFromRest, KeepsCopied}
use Rattle.paraid_shift.specs.Units.{are_copied_before}

-- of fewer cells it holds too
pub fewer_copied : (slots : ℕ) (named : Option ℕ) (m : Meta) (table : List (List Bool)) (batch : Batch) (copied : List Bool) (h : History) (lo : ℕ) (cells others : ℕ → ℕ → Bool) (s : Disks)
    → ((q e : ℕ) → is_dirty table q e ≡ true → others q e ≡ true → cells q e ≡ true) → KeepsCellCopies slots named m table batch copied h lo cells s → KeepsCellCopies slots named m table batch copied h lo others s
fewer_copied slots named m table batch copied h lo cells others s each k = record {
  keeps = k.keeps;
  shift = k.shift;
  stored = λ r d row disk dirty is. k.stored r d row disk dirty (each r d (k.keeps.dirty r d (omega arith) ∙ dirty) is);
}

-- what the cells before one are
pub before_is : (m : Meta) (r d q e : ℕ) → are_copied_before m r d q e ≡ true → (m.gear ≤ e) × (e < rising_to m.phase) × ((q < r) ⊎ ((q ≡ r) × (e < d)))
before_is m r d q e is = by m.gear (rising_to m.phase) is
  where
    by : (a n : ℕ) → ((nat_le a e && nat_lt e n) && (nat_lt q r || (q == r && nat_lt e d))) ≡ true → (a ≤ e) × (e < n) × ((q < r) ⊎ ((q ≡ r) × (e < d)))
    by a n is = elim (cases_lt q r) [
      | inl row ↦ (grind (arith, nat_tests), grind (arith, nat_tests), inl row)
      | inr past ↦ (grind (arith, nat_tests), grind (arith, nat_tests), inr (grind (arith, nat_tests), grind (arith, nat_tests)))
    ]

pub is_before : (m : Meta) (r d q e : ℕ) → m.gear ≤ e → e < rising_to m.phase → (q < r) ⊎ ((q ≡ r) × (e < d)) → are_copied_before m r d q e ≡ true
is_before m r d q e low high place = by m.gear (rising_to m.phase) low high place
  where
    by : (a n : ℕ) → a ≤ e → e < n → (q < r) ⊎ ((q ≡ r) × (e < d)) → ((nat_le a e && nat_lt e n) && (nat_lt q r || (q == r && nat_lt e d))) ≡ true
    by a n low high (inl row) = grind (arith, nat_tests)
    by a n low high (inr beside) = (let same = beside.0 in let under = beside.1 in grind (arith, nat_tests))

with_here : (cells : ℕ → ℕ → Bool) (q e : ℕ) → copied_with cells q e q e ≡ true
with_here cells q e = grind (arith, nat_tests)

with_other : (cells : ℕ → ℕ → Bool) (q e x y : ℕ) → cells x y ≡ true → copied_with cells q e x y ≡ true
with_other cells q e x y is = by (cells x y) is
  where
    by : (b : Bool) → b ≡ true → ((x == q && y == e) || b) ≡ true
    by b is = grind (arith, nat_tests)

-- once the first dirty cell from one on is copied, all that are dirty up to it are
pub one_more_copied : (m : Meta) (table : List (List Bool)) (r d q e : ℕ) → IsFirstFrom (is_dirty table) r d m.gear (rising_to m.phase) q e
    → (x y : ℕ) → is_dirty table x y ≡ true → are_copied_before m q (e + 1) x y ≡ true → copied_with (are_copied_before m r d) q e x y ≡ true
one_more_copied m table r d q e first x y dirty is =
    let b = before_is m q (e + 1) x y is in
    let clean : is_dirty table x y ≡ false → copied_with (are_copied_before m r d) q e x y ≡ true = (λ none. let z : true ≡ false = sym dirty ∙ none in absurd cc) in
    let earlier : (x < r) ⊎ ((x ≡ r) × (y < d)) → copied_with (are_copied_before m r d) q e x y ≡ true = (λ place. with_other (are_copied_before m r d) q e x y (is_before m r d x y b.0 b.1 place)) in
    elim (cases_lt x r) [
      | inl row ↦ earlier (inl row)
      | inr past ↦ elim (cases_lt x q) [
        | inl under ↦ elim (cases_eq x r) [
          | inl same ↦ elim (cases_lt y d) [
            | inl beside ↦ earlier (inr (same, beside))
            | inr from ↦ clean (first.rows_before x y (inr (sym same, omega arith)) under b.0 b.1)
          ]
          | inr apart ↦ clean (first.rows_before x y (inl (omega arith)) under b.0 b.1)
        ]
        | inr not ↦ elim b.2 [
          | inl less ↦ absurd (omega (arith, less))
          | inr here ↦ elim (cases_eq y e) [
            | inl same ↦ (let at : copied_with (are_copied_before m r d) q e q e ≡ true = with_here (are_copied_before m r d) q e in ap (λ (z : ℕ). copied_with (are_copied_before m r d) q e z y) here.0 ∙ ap (copied_with (are_copied_before m r d) q e q) same ∙ at)
            | inr apart ↦ elim (cases_lt r q) [
              | inl more ↦ clean (ap (λ (z : ℕ). is_dirty table z y) here.0 ∙ first.disks_before y (inl more) b.0 (omega (arith, here.1)))
              | inr none ↦ elim (cases_lt y d) [
                | inl beside ↦ earlier (inr (omega (arith, here.0), beside))
                | inr from ↦ clean (ap (λ (z : ℕ). is_dirty table z y) here.0 ∙ first.disks_before y (inr (omega (arith, here.0), omega arith)) b.0 (omega (arith, here.1)))
              ]
            ]
          ]
        ]
      ]
    ]

module _ {R : Type 0} {g : _} (count : R → ℕ) (slot : R → ℕ → Slot) (told : R → Option Trail) where
  -- from a rest on no cell is copied yet
  pub copies_none : (a : Core R g) → a.batch ≡ [] → CopiesFromRest count told a a (are_copied_before a.meta 0 0)
  copies_none a nothing h lo =
      stays (IsCoreHeldSinceCommit count a h lo) (RestsInShift count a h lo) (CellsCopied count a h lo (are_copied_before a.meta 0 0)) (told (store_rack a.store))
      (λ s k. keeps_held (count (store_rack a.store)) (named_of a.store) a.meta a.dirty a.batch a.copied h lo s k.keeps)
      (λ t tells k. subst (λ (z : Batch). KeepsCellCopies (count (store_rack a.store)) (named_of a.store) a.meta a.dirty z a.copied h lo (are_copied_before a.meta 0 0) (now t)) (sym nothing)
      (fewer_copied (count (store_rack a.store)) (named_of a.store) a.meta a.dirty [] a.copied h lo (λ r d. false) (are_copied_before a.meta 0 0) (now t)
      (λ q e dirty is. elim (before_is a.meta 0 0 q e is).2 [ inl less ↦ absurd (omega (arith, less)) | inr same ↦ absurd (omega (arith, same.1)) ])
      (cells_begin (count (store_rack a.store)) (named_of a.store) a.meta a.dirty a.copied h lo (now t) k)))

  -- one more cell is copied
  pub copies_more : (a b c : Core R g) → LeavesCore count slot a b → (r d q e : ℕ) → b.meta ≡ a.meta → c.dirty ≡ b.dirty → IsFirstFrom (is_dirty b.dirty) r d b.meta.gear (rising_to b.meta.phase) q e
      → CopiesFromRest count told a b (are_copied_before a.meta r d)
      → ((h : History) (lo : ℕ) (cells : ℕ → ℕ → Bool) → Ran (told (store_rack b.store)) (told (store_rack c.store)) (CrashTriple (IsCoreHeldSinceCommit count b h lo) (CellsCopied count b h lo cells) (CellsCopied count c h lo (copied_with cells q e))))
      → CopiesFromRest count told a c (are_copied_before a.meta q (e + 1))
  copies_more a b c left r d q e meta table first copied call h lo =
      runs_then count slot told a b left c (RestsInShift count a h lo) (CellsCopied count b h lo (are_copied_before a.meta r d)) (CellsCopied count c h lo (are_copied_before a.meta q (e + 1))) h lo (copied h lo)
      (weaker (IsCoreHeldSinceCommit count b h lo) (CellsCopied count b h lo (are_copied_before a.meta r d)) (CellsCopied count b h lo (are_copied_before a.meta r d)) (CellsCopied count c h lo (copied_with (are_copied_before a.meta r d) q e))
      (CellsCopied count c h lo (are_copied_before a.meta q (e + 1))) _ _ (λ s k. k)
      (λ s k. fewer_copied (count (store_rack c.store)) (named_of c.store) c.meta c.dirty c.batch c.copied h lo (copied_with (are_copied_before a.meta r d) q e) (are_copied_before a.meta q (e + 1)) s
      (λ x y dirty is. one_more_copied a.meta b.dirty r d q e (subst (λ (m : Meta). IsFirstFrom (is_dirty b.dirty) r d m.gear (rising_to m.phase) q e) meta first) x y
      (ap (λ (t : List (List Bool)). is_dirty t x y) (sym table) ∙ dirty) is) k)
      (call h lo (are_copied_before a.meta r d)))

  pub copied_at : (a b : Core R g) (row disk q e : ℕ) → row ≡ q → disk ≡ e + 1 → CopiesFromRest count told a b (are_copied_before a.meta q (e + 1)) → CopiesFromRest count told a b (are_copied_before a.meta row disk)
  copied_at a b row disk q e same next copied =
      subst (λ (z : ℕ). CopiesFromRest count told a b (are_copied_before a.meta z disk)) (sym same) (subst (λ (z : ℕ). CopiesFromRest count told a b (are_copied_before a.meta q z)) (sym next) copied)

  -- the writes are as they were, whichever cells are copied
  pub copies_stand : (a b : Core R g) (cells : ℕ → ℕ → Bool) → CopiesFromRest count told a b cells → StandsFromRest count told a b
  copies_stand a b cells copied h lo =
      weaker (IsCoreHeldSinceCommit count a h lo) (RestsInShift count a h lo) (RestsInShift count a h lo) (CellsCopied count b h lo cells) (CoreStandsFor count b h lo) _ _ (λ s k. k) (λ s k. k.keeps) (copied h lo)

  pub stands_from_held : (a b : Core R g) → StandsFromRest count told a b → IsHeldFromRest count told a b
  stands_from_held a b stands h lo = runs_end count slot told a _ (RestsInShift count a h lo) (CoreStandsFor count b h lo) h lo (stands h lo)

  -- and after a call that leaves them
  pub stands_from_then : (a b c : Core R g) → LeavesCore count slot a b → StandsFromRest count told a b → StandsStill count told b c → StandsFromRest count told a c
  stands_from_then a b c left first second h lo =
      runs_then count slot told a b left c (RestsInShift count a h lo) (CoreStandsFor count b h lo) (CoreStandsFor count c h lo) h lo (first h lo) (second h lo)

  pub held_from_then : (a b c : Core R g) → LeavesCore count slot a b → StandsFromRest count told a b → IsHeldStill count told b c → IsHeldFromRest count told a c
  held_from_then a b c left first second h lo =
      held_runs_then count slot told a b left c (RestsInShift count a h lo) (CoreStandsFor count b h lo) h lo (first h lo) (second h lo)

  pub copies_then : (a b c : Core R g) → LeavesCore count slot a b → (cells : ℕ → ℕ → Bool) → CopiesFromRest count told a b cells → KeepsCopied count told b c cells → CopiesFromRest count told a c cells
  copies_then a b c left cells first second h lo =
      runs_then count slot told a b left c (RestsInShift count a h lo) (CellsCopied count b h lo cells) (CellsCopied count c h lo cells) h lo (first h lo) (second h lo)

  -- one mark after the other
  pub keeps_none : (a : Core R g) (cells : ℕ → ℕ → Bool) → KeepsCopied count told a a cells
  keeps_none a cells h lo =
      stays (IsCoreHeldSinceCommit count a h lo) (CellsCopied count a h lo cells) (CellsCopied count a h lo cells) (told (store_rack a.store))
      (λ s k. keeps_held (count (store_rack a.store)) (named_of a.store) a.meta a.dirty a.batch a.copied h lo s k.keeps) (λ t tells k. k)

  pub keeps_then : (a b c : Core R g) (cells : ℕ → ℕ → Bool) → b.store ≡ a.store → b.meta ≡ a.meta → KeepsCopied count told a b cells → KeepsCopied count told b c cells → KeepsCopied count told a c cells
  keeps_then a b c cells store meta first second h lo =
      then (IsCoreHeldSinceCommit count a h lo) (CellsCopied count a h lo cells) (CellsCopied count b h lo cells) (CellsCopied count c h lo cells) _ _ _ (first h lo)
      (subst (λ (P : Disks → Type 0). Ran (told (store_rack b.store)) (told (store_rack c.store)) (CrashTriple P (CellsCopied count b h lo cells) (CellsCopied count c h lo cells)))
      (λ i. IsHeldWithOneMissing (count (store_rack (store i))) ((meta i).setup.geometry.disks) (named_of (store i)) h lo) (second h lo))

-- syncs of copies, while no disk was gone, are calls between two commits
pub syncs_are_data : (m k : Meta) (copied : List Bool) → k.setup ≡ m.setup → m.out ≡ No → (old new : Option Trail) → Ran old new (EachCall (IsCopySync k.setup.geometry.disks copied))
    → Ran old new (EachCall (IsDataCall m.setup.geometry.disks (gone_out m.out)))
syncs_are_data m k copied setup whole old new ran =
    calls_milder _ _ (sync_data m.setup.geometry.disks copied (gone_out m.out) (λ d is k. let z : None ≡ Some d = sym (ap gone_out whole) ∙ k in absurd cc)) old new
    (subst (λ (z : Setup). Ran old new (EachCall (IsCopySync z.geometry.disks copied))) setup ran)
