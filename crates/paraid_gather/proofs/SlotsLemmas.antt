-- What a call leaves of the slots above.
use Rattle.std.proofs.Common.{◌≡◌, ◌≢◌, ℕ, ◌≤◌, Bool, true, false, ◌||◌, refl, sym, ◌∙◌, ap, subst}
use Rattle.std.proofs.lemmas.Bool.{true≢false}
use Rattle.paraid_base.specs.Told.{HasRisen}
use Rattle.paraid_rack.specs.Slots.{Slot, ChangesOneSlot}
use Rattle.paraid_gather.specs.Waiting.{Waiting, waits}
use Rattle.paraid_gather.specs.Above.{slot_above, slots_above}

module _ (slot slot' : ℕ → Slot) (w w' : ℕ → Waiting) (d : ℕ) where
  -- a call of the rack below, where what waits for other disks stays
  pub changes_above : (below leaves : Slot) (dirt dirt' ok : Bool) → ((e : ℕ) → e ≢ d → w' e ≡ w e) → (ok ≡ true → slot_above below (w' d) ≡ leaves)
      → (ok ≡ false → (dirt || waits (w' d)) ≡ dirt') → ChangesOneSlot slot slot' d below dirt ok → ChangesOneSlot (slots_above slot w) (slots_above slot' w') d leaves dirt' ok
  changes_above below leaves dirt dirt' ok others done failed call = record {
    others = λ e not. ap (λ (x : Slot). slot_above x (w' e)) (call.others e not) ∙ ap (λ (v : Waiting). slot_above (slot e) v) (others e not);
    done = λ is. ap (λ (x : Slot). slot_above x (w' d)) (call.done is) ∙ done is;
    absent = call.absent;
    empty = call.empty;
    unsynced = λ is. ap (λ (x : Bool). x || waits (w' d)) (call.unsynced is) ∙ failed is;
    risen = call.risen;
    later = call.later;
  }

  -- no call of the rack below
  pub changes_none : (leaves : Slot) (dirt : Bool) → ((e : ℕ) → e ≢ d → w' e ≡ w e) → slot_above (slot d) (w' d) ≡ leaves → ChangesOneSlot (slots_above slot w) (slots_above slot w') d leaves dirt true
  changes_none leaves dirt others is = record {
    others = λ e not. ap (λ (v : Waiting). slot_above (slot e) v) (others e not);
    done = λ _. is;
    absent = λ not. absurd (true≢false not);
    empty = λ not. absurd (true≢false not);
    unsynced = λ not. absurd (true≢false not);
    risen = λ not. absurd (true≢false not);
    later = λ not. absurd (true≢false not);
  }

-- a part that leaves the slots above as they are, and then another
pub changes_then : (a b c : ℕ → Slot) (d : ℕ) (same : Slot) → same ≡ a d → (leaves : Slot) (dirt dirt' ok : Bool) → ChangesOneSlot a b d same dirt true → ChangesOneSlot b c d leaves dirt' ok → ChangesOneSlot a c d leaves dirt' ok
changes_then a b c d same is leaves dirt dirt' ok first second = record {
  others = λ e not. second.others e not ∙ first.others e not;
  done = second.done;
  absent = second.absent;
  empty = second.empty;
  unsynced = second.unsynced;
  risen = λ no. subst (λ (x : Slot). HasRisen x.faults (c d).faults) (first.done refl ∙ is) (second.risen no);
  later = λ no. subst (λ (x : Slot). x.faults ≤ (c d).faults) (first.done refl ∙ is) (second.later no);
}

-- no slot changes
pub changes_nothing : (slot : ℕ → Slot) (d : ℕ) (leaves : Slot) (dirt : Bool) → slot d ≡ leaves → ChangesOneSlot slot slot d leaves dirt true
changes_nothing slot d leaves dirt is = record {
  others = λ e not. refl;
  done = λ _. is;
  absent = λ not. absurd (true≢false not);
  empty = λ not. absurd (true≢false not);
  unsynced = λ not. absurd (true≢false not);
  risen = λ not. absurd (true≢false not);
  later = λ not. absurd (true≢false not);
}

-- where blocks wait, a write of blocks leaves the slot as it was above
pub changes_out : (slot slot' : ℕ → Slot) (d : ℕ) (w : Waiting) (ok : Bool) → waits w ≡ true → ChangesOneSlot slot slot' d (record (slot d) { unsynced = true }) true ok → ChangesOneSlot slot slot' d (slot_above (slot d) w) (slot_above (slot d) w).unsynced ok
changes_out slot slot' d w ok any call = subst (λ (u : Bool). ChangesOneSlot slot slot' d (record (slot d) { unsynced = u }) u ok) (sym (or_any (slot d).unsynced (waits w) any)) call
  where
    or_any : (x y : Bool) → y ≡ true → (x || y) ≡ true
    or_any true y is = refl
    or_any false y is = is
