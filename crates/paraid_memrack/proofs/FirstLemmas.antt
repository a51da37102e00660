-- A rack before any call: its slots are as its start says.
use Rattle.std.proofs.Common.{◌≡◌, ◌≢◌, inl, inr, ℕ, zero, suc, ◌<◌, ◌≤◌, ◌^◌, Bool, true, false, List, [], ◌∷◌, length, map, get_or, set, Option, Some, refl, sym, ◌∙◌, ap, subst, arith}
use Rattle.std.specs.Option.{is_some}
use Rattle.std.proofs.Math.ListN.{get_or-map as get_or-map_default}
use Rattle.std.proofs.lemmas.Bool.{cases_eq, false≢true}
use Rattle.std.proofs.lemmas.List.{get_or-set_same, get_or-set_other, length-map}
use Rattle.paraid_base.specs.Xor.{zero_block}
use Rattle.paraid_rack.specs.declared.call.Power.TheVariants.{Absent}
use Rattle.paraid_rack.specs.declared.call.Call.{Call}
use Rattle.paraid_rack.specs.Alike.{IsAlike}
use Rattle.paraid_rack.specs.Disks.{Disks, is_present, lose, with_at}
use Rattle.paraid_rack.specs.Slots.{AreSlots}
use Rattle.paraid_rack.specs.Trail.{Beginning, Trail, beginning, initial, now}
use Rattle.paraid_rack.proofs.AtomsLemmas.{with_at_same, with_at_other}
use Rattle.paraid_memrack.specs.declared.log.Start.{Start}
use Rattle.paraid_memrack.specs.declared.slot.MemSlot.{MemSlot}
use Rattle.paraid_memrack.specs.Slots.{FullSlot, full_slot, full_slot_at, full_slot_from, told_slot_at, no_slot, SetsSlot}
use Rattle.paraid_memrack.specs.Tells.{told_by, beginning_of, no_beginning, IsSlotOf, AreSlotsOf}
use Rattle.paraid_memrack.specs.Rules.{first_slot, before_calls}
use Rattle.paraid_memrack.proofs.NoteLemmas.{none_some, some_same}
use Rattle.paraid_memrack.proofs.SlotCallLemmas.{holds_same}
use Rattle.paraid_memrack.proofs.ViewLemmas.{view_past}

pub told_untouched : (tells : Bool) (start : List Start) (calls : List Call) → tells ≡ true → calls ≡ [] → told_by tells start calls ≡ Some (before_calls (map beginning_of start))
unfolding told_by
told_untouched true start calls is none = ap (λ (l : List Call). Some (record { start = map beginning_of start; calls = l })) none
told_untouched false start calls bad none = absurd (false≢true bad)

-- what is told is its start and its calls
pub told_trail : (tells : Bool) (start : List Start) (calls : List Call) (t : Trail) → told_by tells start calls ≡ Some t → t ≡ record { start = map beginning_of start; calls = calls }
unfolding told_by
told_trail true start calls t is = sym (some_same is)
told_trail false start calls t is = absurd (none_some is)

pub tells_some : (tells : Bool) (start : List Start) (calls : List Call) → is_some (told_by tells start calls) ≡ true → tells ≡ true
unfolding told_by
tells_some true start calls is = refl
tells_some false start calls bad = absurd (false≢true bad)

-- what holds of each slot at the start, of those too that do not exist
each_start : (P : Beginning → Type 0) → P no_beginning → ((s : Start) → P (beginning_of s)) → (start : List Start) (d : ℕ) → P (beginning (map beginning_of start) d)
each_start P none each [] d = none
each_start P none each (s ∷ start) zero = each s
each_start P none each (s ∷ start) (suc d) = each_start P none each start d

holds_first : (start : List Beginning) (d : ℕ) → IsSlotOf (initial start) d (full_slot_from (beginning start d))
unfolding initial
holds_first start d = record { power = refl; size = refl; loose = λ p bad. absurd (false≢true bad); block = λ here p. refl }

module _ (slots : List MemSlot) (start : List Start) (same : map full_slot slots ≡ map full_slot_from (map beginning_of start)) where
  view_first : (d : ℕ) → full_slot_at slots d ≡ full_slot_from (beginning (map beginning_of start) d)
  unfolding full_slot_at
  view_first d = ap (λ (l : List FullSlot). get_or l d no_slot) same ∙ get_or-map_default full_slot_from (map beginning_of start) d no_beginning

  pub slot_first : (d : ℕ) → told_slot_at slots d ≡ first_slot (map beginning_of start) d
  slot_first d = ap (λ (v : FullSlot). record { power = v.power; size = length v.blocks; unsynced = v.unsynced; faults = v.faults }) (view_first d)

  pub length_first : length slots ≡ length start
  length_first = omega (arith, ap length same, length-map slots full_slot, length-map (map beginning_of start) full_slot_from, length-map start beginning_of)

  pub small_first : (d : ℕ) → (told_slot_at slots d).size < 2 ^ 32
  small_first d = subst (λ (v : FullSlot). length v.blocks < 2 ^ 32) (sym (view_first d)) (each_start (λ b. length b.blocks < 2 ^ 32) (omega arith) (λ s. s.small) start d)

  pub sound_first : length slots ≤ 8 → AreSlots (length slots) (told_slot_at slots)
  sound_first few = record {
    few = few;
    missing = λ d past. ap (λ (v : FullSlot). v.power) (view_past slots d past);
    absent = λ d. subst (λ (v : FullSlot). v.power ≡ Absent → length v.blocks ≡ 0) (sym (view_first d))
        (each_start (λ b. b.power ≡ Absent → length b.blocks ≡ 0) (λ _. refl) (λ s gone. ap length (s.empty gone)) start d);
    parked = λ d _. ap (λ (v : FullSlot). v.unsynced) (view_first d);
  }

  pub keeps_first : (told : Option Trail) → told ≡ Some (before_calls (map beginning_of start)) → AreSlotsOf told (full_slot_at slots)
  keeps_first told is t tells d =
      subst (λ (u : Trail). IsSlotOf (now u) d (full_slot_at slots d)) (some_same (sym is ∙ tells))
      (subst (IsSlotOf (initial (map beginning_of start)) d) (sym (view_first d)) (holds_first (map beginning_of start) d))

module _ (start : List Beginning) (d : ℕ) (within : d < length start) where
  lost_here : (e : ℕ) → e ≡ d → beginning (set start d no_beginning) e ≡ no_beginning
  lost_here e is = ap (beginning (set start d no_beginning)) is ∙ get_or-set_same start d no_beginning no_beginning within

  lost_other : (e : ℕ) → e ≢ d → beginning (set start d no_beginning) e ≡ beginning start e
  lost_other e not = get_or-set_other start d e no_beginning no_beginning not

  -- what is told of each slot where the disk of this one is lost at the start
  lost_value : {A : Type 0} (f : Beginning → A) (e : ℕ) → f (beginning (set start d no_beginning) e) ≡ with_at (λ k. f (beginning start k)) d (f no_beginning) e
  lost_value {A} f e =
      let before : ℕ → A = λ k. f (beginning start k) in
      elim (cases_eq e d) [
        | inl is ↦ ap f (lost_here e is) ∙ sym (with_at_same before d (f no_beginning) e is)
        | inr not ↦ ap f (lost_other e not) ∙ sym (with_at_other before d (f no_beginning) e not)
      ]

  pub lost_start : IsAlike (lose d (initial start)) (initial (set start d no_beginning))
  unfolding initial
  lost_start = record {
    power = lost_value (λ b. b.power);
    size = lost_value (λ b. length b.blocks);
    block = λ e p h. elim (cases_eq e d) [
      | inl is ↦ absurd (false≢true (sym (ap is_present (with_at_same (λ k. (beginning start k).power) d Absent e is)) ∙ h.present))
      | inr not ↦ ap (λ (b : Beginning). get_or b.blocks p zero_block) (lost_other e not)
    ];
    loose = λ e p h. refl;
  }

  -- the slots hold what is told after the loss
  pub keeps_lost : (slots slots' : List MemSlot) (v : FullSlot) → SetsSlot slots slots' d v → v.power ≡ Absent → v.blocks ≡ [] → ((e : ℕ) → IsSlotOf (initial start) e (full_slot_at slots e))
      → (e : ℕ) → IsSlotOf (initial (set start d no_beginning)) e (full_slot_at slots' e)
  unfolding initial
  keeps_lost slots slots' v b gone empty was e =
      let after : Disks = initial (set start d no_beginning) in
      elim (cases_eq e d) [
        | inl is ↦ subst (λ (k : ℕ). IsSlotOf after e (full_slot_at slots' k)) (sym is) (subst (IsSlotOf after e) (sym b.here) (record {
          power = ap (λ (x : Beginning). x.power) (lost_here e is) ∙ sym gone;
          size = ap (λ (x : Beginning). length x.blocks) (lost_here e is) ∙ sym (ap length empty);
          loose = λ p bad. absurd (false≢true bad);
          block = λ here. absurd (false≢true (sym (ap is_present gone) ∙ here));
        }))
        | inr not ↦
            let same = lost_other e not in
            subst (IsSlotOf after e) (sym (b.others e not)) (holds_same (initial start) after e (full_slot_at slots e)
            (ap (λ (x : Beginning). x.power) same) (ap (λ (x : Beginning). length x.blocks) same) refl (ap (λ (x : Beginning). λ (p : ℕ). get_or x.blocks p zero_block) same) (was e))
      ]
