-- The slots after one of them was changed.
use Rattle.std.proofs.Common.{◌≡◌, ◌≢◌, inl, inr, ℕ, min, ◌+◌, ◌<◌, ◌≤◌, ◌^◌, Bool, true, false, List, [], ◌∷◌, ◌++◌, length, map, get_or, set, replicate, refl, sym, ◌∙◌, ap, subst, arith, zero, suc, add-one}
use Rattle.std.proofs.lemmas.Bool.{cases_eq, cases_lt, false≢true, true≢false}
use Rattle.std.proofs.lemmas.List.{map-set, get_or-set_same, get_or-set_other, length-set, length-map, get_or-map, get_or_past}
use Rattle.paraid_base.specs.Told.{HasRisen}
use Rattle.paraid_rack.specs.declared.call.Power.TheVariants.{Absent, Parked}
use Rattle.paraid_rack.specs.Slots.{Slot, ChangesOneSlot, AreSlots}
use Rattle.paraid_memrack.specs.declared.slot.MemSlot.{MemSlot}
use Rattle.paraid_memrack.specs.Slots.{FullSlot, full_slot, full_slot_at, no_slot, told_slot, told_slot_at, after_failure, SetsSlot}

pub same_view : {v w : FullSlot} → v.power ≡ w.power → v.blocks ≡ w.blocks → v.unsynced ≡ w.unsynced → v.faults ≡ w.faults → v ≡ w
same_view p b u f = λ i. record { power = p i; blocks = b i; unsynced = u i; faults = f i }

-- what a read of a slot gives
pub view_here : (slots : List MemSlot) (d : ℕ) (y : MemSlot) → d < length slots → y ≡ get_or slots d y → full_slot_at slots d ≡ full_slot y
unfolding full_slot_at
view_here slots d y within is = get_or-map full_slot slots d y no_slot within ∙ ap full_slot (sym is)

pub view_past : (slots : List MemSlot) (d : ℕ) → length slots ≤ d → full_slot_at slots d ≡ no_slot
unfolding full_slot_at
view_past slots d past = get_or_past (map full_slot slots) d no_slot (simp length-map past)

view_set_same : (slots : List MemSlot) (d : ℕ) (x : MemSlot) → d < length slots → full_slot_at (set slots d x) d ≡ full_slot x
unfolding full_slot_at
view_set_same slots d x within =
    ap (λ (l : List FullSlot). get_or l d no_slot) (map-set full_slot slots d x)
    ∙ get_or-set_same (map full_slot slots) d (full_slot x) no_slot (simp length-map within)

view_set_other : (slots : List MemSlot) (d : ℕ) (x : MemSlot) (e : ℕ) → e ≢ d → full_slot_at (set slots d x) e ≡ full_slot_at slots e
unfolding full_slot_at
view_set_other slots d x e not =
    ap (λ (l : List FullSlot). get_or l e no_slot) (map-set full_slot slots d x)
    ∙ get_or-set_other (map full_slot slots) d e (full_slot x) no_slot not

-- a slot was put in the place of one
pub becomes_set : (slots : List MemSlot) (d : ℕ) (x : MemSlot) (leaves : FullSlot) → d < length slots → full_slot x ≡ leaves → SetsSlot slots (set slots d x) d leaves
becomes_set slots d x leaves within is = record {
  same_length = length-set slots d x;
  here = view_set_same slots d x within ∙ is;
  others = view_set_other slots d x;
}

module _ {old new : List MemSlot} {d : ℕ} {leaves : FullSlot} (b : SetsSlot old new d leaves) where
  -- what holds of each slot before, and of this one after, holds of each after
  pub each_after : (P : FullSlot → Type 0) → ((e : ℕ) → P (full_slot_at old e)) → P leaves → (e : ℕ) → P (full_slot_at new e)
  each_after P was is e = elim (cases_eq e d) [
    | inl same ↦ subst (λ (k : ℕ). P (full_slot_at new k)) (sym same) (subst P (sym b.here) is)
    | inr not ↦ subst P (sym (b.others e not)) (was e)
  ]

  pub small_after : ((e : ℕ) → (told_slot_at old e).size < 2 ^ 32) → length leaves.blocks < 2 ^ 32 → (e : ℕ) → (told_slot_at new e).size < 2 ^ 32
  small_after was is = each_after (λ v. length v.blocks < 2 ^ 32) was is

  pub slots_after : AreSlots (length old) (told_slot_at old) → d < length old → (leaves.power ≡ Absent → length leaves.blocks ≡ 0) → (leaves.power ≡ Parked → leaves.unsynced ≡ false)
      → AreSlots (length new) (told_slot_at new)
  slots_after was within absent parked = record {
    few = omega (arith, b.same_length, was.few);
    missing = λ e past.
        let past' : length old ≤ e = omega (arith, b.same_length, past) in
        let not : e ≢ d = λ same. omega (arith, same, past', within) in
        ap (λ (v : FullSlot). v.power) (b.others e not) ∙ was.missing e past';
    absent = each_after (λ v. v.power ≡ Absent → length v.blocks ≡ 0) was.absent absent;
    parked = each_after (λ v. v.power ≡ Parked → v.unsynced ≡ false) was.parked parked;
  }

  pub touched_done : (told : Slot) (dirt : Bool) → told_slot leaves ≡ told → ChangesOneSlot (told_slot_at old) (told_slot_at new) d told dirt true
  touched_done told dirt is = record {
    others = λ e not. ap told_slot (b.others e not);
    done = λ _. ap told_slot b.here ∙ is;
    absent = λ bad. absurd (true≢false bad);
    empty = λ bad. absurd (true≢false bad);
    unsynced = λ bad. absurd (true≢false bad);
    risen = λ bad. absurd (true≢false bad);
    later = λ bad. absurd (true≢false bad);
  }

risen : (was now : ℕ) → now ≡ min (was + 1) 18446744073709551615 → HasRisen was now
risen was now sum = elim (cases_lt was 18446744073709551615) [
  | inl lt ↦ record { risen = inl (omega arith) }
  | inr le ↦ record { risen = inr (omega arith) }
]

pub touched_failed : {old new : List MemSlot} {d : ℕ} {dirt : Bool} → SetsSlot old new d (after_failure dirt (full_slot_at old d)) → (full_slot_at old d).faults ≤ (full_slot_at new d).faults → (leaves : Slot)
    → ChangesOneSlot (told_slot_at old) (told_slot_at new) d leaves dirt false
touched_failed {old} {new} {d} {dirt} b grows leaves = record {
  others = λ e not. ap told_slot (b.others e not);
  done = λ bad. absurd (false≢true bad);
  absent = λ _. ap (λ (v : FullSlot). v.power) b.here;
  empty = λ _. ap (λ (v : FullSlot). length v.blocks) b.here;
  unsynced = λ _. ap (λ (v : FullSlot). v.unsynced) b.here;
  risen = λ _. risen (full_slot_at old d).faults (full_slot_at new d).faults (ap (λ (v : FullSlot). v.faults) b.here);
  later = λ _. grows;
}

pub touched_none : (slots : ℕ → Slot) (d : ℕ) (dirt : Bool) → ChangesOneSlot slots slots d (slots d) dirt true
touched_none slots d dirt = record {
  others = λ e not. refl;
  done = λ _. refl;
  absent = λ bad. absurd (true≢false bad);
  empty = λ bad. absurd (true≢false bad);
  unsynced = λ bad. absurd (true≢false bad);
  risen = λ bad. absurd (true≢false bad);
  later = λ bad. absurd (true≢false bad);
}

pushed : {A : Type 0} (n : ℕ) (x : A) → replicate n x ++ x ∷ [] ≡ x ∷ replicate n x
pushed zero x = refl
pushed {A} (suc n) x = ap (λ (l : List A). x ∷ l) (pushed n x)

pub one_more : {A : Type 0} (n : ℕ) (x : A) → replicate n x ++ x ∷ [] ≡ replicate (n + 1) x
one_more n x = rw add-one (pushed n x)

pub map_push : {A B : Type 0} (f : A → B) (xs : List A) (x : A) → map f (xs ++ x ∷ []) ≡ map f xs ++ f x ∷ []
map_push f [] x = refl
map_push f (y ∷ xs) x = ap (λ l. f y ∷ l) (map_push f xs x)

default_push : {A : Type 0} (xs : List A) (x : A) → ((d : ℕ) → get_or xs d x ≡ x) → (d : ℕ) → get_or (xs ++ x ∷ []) d x ≡ x
default_push [] x all zero = refl
default_push [] x all (suc d) = refl
default_push (y ∷ xs) x all zero = all 0
default_push (y ∷ xs) x all (suc d) = default_push xs x (λ e. all (suc e)) d

-- one more slot with no disk
pub nothing_push : (slots : List MemSlot) (x : MemSlot) → full_slot x ≡ no_slot → ((d : ℕ) → full_slot_at slots d ≡ no_slot) → (d : ℕ) → full_slot_at (slots ++ x ∷ []) d ≡ no_slot
unfolding full_slot_at
nothing_push slots x is all d =
    ap (λ (l : List FullSlot). get_or l d no_slot) (map_push full_slot slots x ∙ ap (λ (v : FullSlot). map full_slot slots ++ v ∷ []) is)
    ∙ default_push (map full_slot slots) no_slot all d

pub no_slots : (slots : List MemSlot) → slots ≡ [] → (d : ℕ) → full_slot_at slots d ≡ no_slot
unfolding full_slot_at
no_slots slots none d = ap (λ (l : List MemSlot). full_slot_at l d) none

-- a count that rises by one, or stands at its end, does not fall
pub faults_after : {old new : List MemSlot} {d : ℕ} {dirt : Bool} → SetsSlot old new d (after_failure dirt (full_slot_at old d)) → (y : MemSlot) → full_slot_at old d ≡ full_slot y → y.faults < 2 ^ 64
    → (full_slot_at old d).faults ≤ (full_slot_at new d).faults
faults_after b y is fits = omega (arith, ap (λ (v : FullSlot). v.faults) b.here, ap (λ (v : FullSlot). v.faults) is)
