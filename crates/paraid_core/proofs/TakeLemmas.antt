-- Blocks are added to a batch one by one.
use Rattle.std.specs.Prelude.{◌≡◌, ◌≢◌, ℕ, ◌+◌, ◌<◌, ◌≤◌, ◌⊎◌, ◌==◌, ◌&&◌, ◌||◌, true, false, List, [], ◌∷◌, ◌++◌, length, get_or, take, Some, Result, Ok, Err, IfErr, OnOk, All}
use Rattle.std.proofs.Common.{suc, zero, refl, sym, ◌∙◌, ap, subst, arith, inl, inr, length-append}
use Rattle.std.proofs.lemmas.Bool.{cases_Bool, false≢true}
use Rattle.std.proofs.lemmas.List.{append-nil, append_assoc, length-take-le}
use Rattle.std.proofs.lemmas.List.Kept.{AllPairs-cons}
use Rattle.std.proofs.lemmas.Bool.Decides.{nat_tests}
use Rattle.std.proofs.lemmas.List.Elements.{All-cons, All-nil, All-tail}
use Rattle.paraid_base.specs.declared.block.Block.{Block}
use Rattle.paraid_base.specs.Log.{batch_room}
use Rattle.paraid_base.specs.Xor.{zero_block}
use Rattle.paraid_image.specs.Sides.{Batch, targets}
use Rattle.paraid_image.specs.Standing.{overlaid_block}
use Rattle.paraid_plan.specs.Placed.{ArePlaced, IsPlaced}
use Rattle.paraid_plan.proofs.BatchLemmas.{overlaid_block-with_target}
use Rattle.paraid_plan.proofs.LayLemmas.{laid_append}
use Rattle.paraid_record.specs.declared.meta.Meta.{Meta}
use Rattle.paraid_record.specs.declared.targets.Target.{Target}
use Rattle.paraid_record.specs.Targets.{IsTargetInRange, no_target}
use Rattle.paraid_txn.specs.declared.batch.Full.{Full}
use Rattle.paraid_image.specs.Neutral.{names_place}
use Rattle.paraid_txn.specs.Losses.{CanWrite}
use Rattle.paraid_image.specs.Batches.{batch_blocks, with_target}
use Rattle.paraid_core.specs.Taken.{AreApart, HasRoomFor, IsTakenIn}

-- the first one of a list
head : (P : Target → Type 0) (x : Target) (xs : List Target) → All P (x ∷ xs) → P x
head P x xs all = all 0 x (omega arith)

-- what holds of all targets and of a new one
pub with_all : (P : Target → Type 0) (b : Batch) (t : Target) (x : Block) → All P (targets b) → P t → All P (targets (with_target b t x))
with_all P [] t x all p = All-cons P t [] p (All-nil P)
with_all P (w ∷ b) t x all p = elim (cases_Bool (w.0.disk == t.disk && w.0.place == t.place)) [
  | inl same ↦ rw same all
  | inr other ↦ rw other (All-cons P w.0 (targets (with_target b t x)) (head P w.0 (targets b) all) (with_all P b t x (All-tail P w.0 (targets b) all) p))
]

-- it is not shorter, and not empty
with_more : (b : Batch) (t : Target) (x : Block) → length b ≤ length (with_target b t x)
with_more [] t x = omega arith
with_more (w ∷ b) t x = elim (cases_Bool (w.0.disk == t.disk && w.0.place == t.place)) [
  | inl same ↦ rw same (omega arith)
  | inr other ↦ rw other (let l = with_more b t x in omega arith)
]

with_some : (b : Batch) (t : Target) (x : Block) → 1 ≤ length (with_target b t x)
with_some [] t x = omega arith
with_some (w ∷ b) t x = let l = with_more (w ∷ b) t x in omega arith

pub with_length : (b : Batch) (t : Target) (x : Block) → length (with_target b t x) ≤ length b + 1
with_length [] t x = omega arith
with_length (w ∷ b) t x = elim (cases_Bool (w.0.disk == t.disk && w.0.place == t.place)) [
  | inl same ↦ rw same (omega arith)
  | inr other ↦ rw other (let l = with_length b t x in omega arith)
]

same_is : (s t : Target) → s ≡ t → (s.disk == t.disk && s.place == t.place) ≡ true
same_is s t e = subst (λ (z : Target). (s.disk == z.disk && s.place == z.place) ≡ true) e (grind (arith, nat_tests))

-- no target stands twice in it
with_apart : (b : Batch) (t : Target) (x : Block) → AreApart b → AreApart (with_target b t x)
with_apart [] t x apart = λ i j d low high. absurd (omega arith)
with_apart (w ∷ b) t x apart = elim (cases_Bool (w.0.disk == t.disk && w.0.place == t.place)) [
  | inl same ↦ rw same apart
  | inr other ↦ rw other
      (AllPairs-cons (λ (s : Target) (y : Target). s ≢ y) w.0 (targets (with_target b t x))
      (with_all (λ (y : Target). w.0 ≢ y) b t x (λ k d l. apart zero (suc k) d (omega arith) (omega arith)) (λ e. false≢true (sym other ∙ same_is w.0 t e)))
      (with_apart b t x (λ i j d low high. apart (suc i) (suc j) d (omega arith) (omega arith))))
]

pub none_taken : (m : Meta) (old : Batch) → AreApart old → IsTakenIn m old [] old
none_taken m old apart = record {
  room = omega arith;
  grows = omega arith;
  some = λ are long. absurd (omega (arith, long));
  apart = apart;
  laid_same = λ are d p x. ap (λ (z : Batch). overlaid_block z d p x) (sym (append-nil old));
  each = λ all. all;
  can = λ skip count slot to all. all;
}

-- a target that could not be committed is left out
pub left_out : (m : Meta) (old : Batch) (t : Target) (b : Block) → AreApart old → (IsPlaced m t → ⊥) → IsTakenIn m old ((t, b) ∷ []) old
left_out m old t b apart not = record {
  room = omega arith;
  grows = omega arith;
  some = λ are long. absurd (not are.0);
  apart = apart;
  laid_same = λ are d p x. absurd (not are.0);
  each = λ all. all;
  can = λ skip count slot to all. all;
}

pub one_taken : (m : Meta) (old : Batch) (t : Target) (b : Block) → AreApart old → IsPlaced m t → IsTakenIn m old ((t, b) ∷ []) (with_target old t b)
one_taken m old t b apart placed = record {
  room = with_length old t b;
  grows = with_more old t b;
  some = λ are long. with_some old t b;
  apart = with_apart old t b apart;
  laid_same = λ are d p x. overlaid_block-with_target old t b d p x apart;
  each = λ all. with_all (IsTargetInRange m.setup.geometry) old t b all placed.in_range;
  can = λ skip count slot to all. with_all (λ (z : Target). (z.disk < count) × (skip ≢ Some z.disk → CanWrite slot z.disk z.place)) old t b all (to t placed);
}

placed_left : (m : Meta) (a b : Batch) → ArePlaced m (a ++ b) → ArePlaced m a × ArePlaced m b
placed_left m [] b are = (tt, are)
placed_left m (w ∷ a) b are = let parts = placed_left m a b are.1 in ((are.0, parts.0), parts.1)

pub then_taken : (m : Meta) (a draft : Batch) (w : Target × Block) (b c : Batch) → IsTakenIn m a draft b → IsTakenIn m b (w ∷ []) c → IsTakenIn m a (draft ++ w ∷ []) c
then_taken m a draft w b c p q =
    let long = length-append draft (w ∷ []) in
    let first = p.room in
    let second = q.room in
    record {
      room = omega arith;
      grows = (let more = p.grows in let next = q.grows in omega (arith, more, next));
      some = λ are long. q.some (placed_left m draft (w ∷ []) are).1 (omega arith);
      apart = q.apart;
      laid_same = λ are d q x. laid_by are d q x;
      each = λ all. q.each (p.each all);
      can = λ skip count slot to all. q.can skip count slot to (p.can skip count slot to all);
    }
  where
    laid_by : ArePlaced m (draft ++ w ∷ []) → (d y : ℕ) (x : Block) → overlaid_block c d y x ≡ overlaid_block (a ++ (draft ++ w ∷ [])) d y x
    laid_by are d y x =
        let parts = placed_left m draft (w ∷ []) are in
        q.laid_same parts.1 d y x
        ∙ laid_append b (w ∷ []) d y x
        ∙ ap (overlaid_block (w ∷ []) d y) (p.laid_same parts.0 d y x)
        ∙ sym (laid_append (a ++ draft) (w ∷ []) d y x)
        ∙ ap (λ (z : Batch). overlaid_block z d y x) (append_assoc a draft (w ∷ []))

-- one block more of a draft
take_next : (draft : Batch) (at : ℕ) → at < length draft → take (suc at) draft ≡ take at draft ++ (get_or (targets draft) at no_target, get_or (batch_blocks draft) at zero_block) ∷ []
take_next [] at l = absurd (omega arith)
take_next (w ∷ draft) zero l = refl
take_next (w ∷ draft) (suc at) l = ap (λ (z : Batch). w ∷ z) (take_next draft at (omega arith))

take_more : (draft : Batch) (at : ℕ) → at < length draft → take (at + 1) draft ≡ take at draft ++ (get_or (targets draft) at no_target, get_or (batch_blocks draft) at zero_block) ∷ []
take_more draft at l = let e : at + 1 ≡ suc at = omega arith in ap (λ (n : ℕ). take n draft) e ∙ take_next draft at l

-- what a batch names it names also with one block more
names_kept : (b : Batch) (t : Target) (x : Block) (d p : ℕ) → names_place b d p ≡ true → names_place (with_target b t x) d p ≡ true
names_kept [] t x d p is = absurd (false≢true is)
names_kept (w ∷ b) t x d p is = elim (cases_Bool (w.0.disk == t.disk && w.0.place == t.place)) [
  | inl same ↦ rw same is
  | inr other ↦ rw other (elim (cases_Bool (w.0.disk == d && w.0.place == p)) [
    | inl here ↦ rw here refl
    | inr off ↦ rw off (names_kept b t x d p (rw off at is))
  ])
]

-- there is room for one target more, or it stands there already
pub added : (m : Meta) (old new : Batch) (t : Target) (b : Block) (r : Result (Unit {0}) Full) → OnOk r (new ≡ with_target old t b)
    → IfErr r (λ (full : Full). (full.count ≡ batch_room) × (length old ≡ batch_room) × (names_place old t.disk t.place ≡ false) × (new ≡ old))
    → (length old < batch_room) ⊎ (names_place old t.disk t.place ≡ true) → AreApart old → IsPlaced m t → IsTakenIn m old ((t, b) ∷ []) new
added m old new t b (Ok it) is full room apart placed = subst (IsTakenIn m old ((t, b) ∷ [])) (sym is) (one_taken m old t b apart placed)
added m old new t b (Err e) is full room apart placed = elim room [
  | inl low ↦ let long = full.1 in absurd (omega arith)
  | inr named ↦ absurd (false≢true (sym full.2 ∙ named))
]

pub added_names : (old new : Batch) (t : Target) (b : Block) (r : Result (Unit {0}) Full) → OnOk r (new ≡ with_target old t b)
    → IfErr r (λ (full : Full). (full.count ≡ batch_room) × (length old ≡ batch_room) × (names_place old t.disk t.place ≡ false) × (new ≡ old))
    → (d p : ℕ) → names_place old d p ≡ true → names_place new d p ≡ true
added_names old new t b (Ok it) is full d p named = subst (λ (z : Batch). names_place z d p ≡ true) (sym is) (names_kept old t b d p named)
added_names old new t b (Err e) is full d p named = subst (λ (z : Batch). names_place z d p ≡ true) (sym full.3) named

-- there is room for the next block of a draft, or it stands there already
pub next_room : (m : Meta) (a draft b : Batch) (at : ℕ) (t : Target) → at < length draft → t ≡ get_or (targets draft) at no_target → HasRoomFor a draft
    → IsTakenIn m a (take at draft) b → ((d p : ℕ) → names_place a d p ≡ true → names_place b d p ≡ true)
    → (length b < batch_room) ⊎ (names_place b t.disk t.place ≡ true)
next_room m a draft b at t low is room taken names = elim room [
  | inl all ↦ inl (let few = taken.room in let long = length-take-le at draft (omega (arith, low)) in omega (arith, all, few, long, low))
  | inr staged ↦ inr (subst (λ (z : Target). names_place b z.disk z.place ≡ true) (sym is) (names _ _ (staged at low)))
]

pub draft_more : (m : Meta) (a draft b c : Batch) (at : ℕ) (t : Target) (x : Block) → at < length draft → t ≡ get_or (targets draft) at no_target → x ≡ get_or (batch_blocks draft) at zero_block
    → IsTakenIn m a (take at draft) b → IsTakenIn m b ((t, x) ∷ []) c → IsTakenIn m a (take (at + 1) draft) c
draft_more m a draft b c at t x l is_t is_x p q =
    subst (λ (z : Batch). IsTakenIn m a z c) ((λ i. take at draft ++ (is_t i, is_x i) ∷ []) ∙ sym (take_more draft at l))
    (then_taken m a (take at draft) (t, x) b c p q)
