-- What a rack in memory is after a call.
use Rattle.std.proofs.Common.{◌≡◌, ◌≢◌, inl, inr, ℕ, ◌<◌, ◌≤◌, ◌^◌, Bool, true, false, not, List, [], length, map, get_or, replicate, Option, Some, refl, sym, ◌∙◌, ap, subst, arith}
use Rattle.std.proofs.lemmas.Bool.{cases_lt, false≢true}
use Rattle.std.proofs.lemmas.List.{get_or_read, get_or-replicate, get_or_past, length-map, length-replicate}
use Rattle.paraid_base.specs.declared.block.Block.{Block}
use Rattle.paraid_base.specs.Xor.{zero_block}
use Rattle.paraid_rack.specs.declared.call.Power.{Power}
use Rattle.paraid_rack.specs.declared.call.Power.TheVariants.{Spinning, Parked, Absent}
use Rattle.paraid_rack.specs.declared.call.Call.{Call}
use Rattle.paraid_rack.specs.Disks.{Disks, is_present}
use Rattle.paraid_rack.specs.Slots.{Slot, AreSlots}
use Rattle.paraid_rack.specs.Trail.{Trail, Beginning, initial, now}
use Rattle.paraid_memrack.specs.declared.log.Start.{Start}
use Rattle.paraid_memrack.specs.declared.slot.MemSlot.{MemSlot}
use Rattle.paraid_memrack.specs.declared.rack.MemRack.{MemRack}
use Rattle.paraid_memrack.specs.CallPlan.{has_room_for_call, listed_after}
use Rattle.paraid_memrack.specs.Slots.{FullSlot, full_slot, full_slot_at, told_slot_at, no_slot}
use Rattle.paraid_memrack.specs.Tells.{told_by, told_after, beginning_of, IsSlotOf, AreSlotsOf}
use Rattle.paraid_memrack.specs.Rules.{Rules, told_of, Notes, no_disks}
use Rattle.paraid_memrack.proofs.NoteLemmas.{none_some, some_same}

same_rules : {v w : Rules} → v.plan ≡ w.plan → v.most ≡ w.most → v.room ≡ w.room → v ≡ w
same_rules p m r = λ i. record { plan = p i; most = m i; room = r i }

pub notes_of : {old new : MemRack} {c : Call} → new.log.plan.items ≡ old.log.plan.items → new.log.most ≡ old.log.most → new.room ≡ old.room
    → new.log.calls.items ≡ listed_after old.log.most old.log.calls.items c → told_of new ≡ told_after (has_room_for_call old.log.most old.log.calls.items) (told_of old) c → Notes old new c
notes_of plan most room list tells = record { rules = same_rules plan most room; list = list; tells = tells }

present_power : (p : Power) → p ≢ Absent → is_present p ≡ true
present_power Spinning not = refl
present_power Parked not = refl
present_power Absent not = absurd (not refl)

-- a disk that has a block is present
pub present : {count : ℕ} {slot : ℕ → Slot} → AreSlots count slot → (d p : ℕ) → p < (slot d).size → is_present (slot d).power ≡ true
present {count} {slot} sound d p within = present_power (slot d).power (λ gone. omega (arith, sound.absent d gone, within))

-- a block in a slot is the one that is told
pub block_told : (slots : List MemSlot) (d p : ℕ) (y : MemSlot) (b : Block) (s : Disks) → full_slot_at slots d ≡ full_slot y → p < (told_slot_at slots d).size → is_present (told_slot_at slots d).power ≡ true
    → b ≡ get_or y.blocks.items p b → IsSlotOf s d (full_slot_at slots d) → b ≡ s.block d p
block_told slots d p y b s is within here read h =
    let same : (full_slot_at slots d).blocks ≡ y.blocks.items = ap (λ (v : FullSlot). v.blocks) is in
    get_or_read y.blocks.items p b (omega (arith, within, ap length same)) read zero_block
    ∙ ap (λ (l : List Block). get_or l p zero_block) (sym same) ∙ sym (h.block here p)

-- at the start
same_default : {A : Type 0} (n d : ℕ) (x : A) → get_or (replicate n x) d x ≡ x
same_default n d x = elim (cases_lt d n) [
  | inl lt ↦ get_or-replicate n d x x lt
  | inr past ↦ get_or_past (replicate n x) d x (omega (arith, length-replicate n x, past))
]

begins : (n d : ℕ) → IsSlotOf (now (no_disks n)) d no_slot
unfolding initial
begins n d =
    let x : Beginning = record { power = Absent; blocks = [] } in
    let is : get_or (replicate n x) d x ≡ x = same_default n d x in
    record {
      power = ap (λ (b : Beginning). b.power) is;
      size = ap (λ (b : Beginning). length b.blocks) is;
      loose = λ p bad. absurd (false≢true bad);
      block = λ bad. absurd (false≢true bad);
    }

pub starts : (told : Option Trail) (n : ℕ) (views : ℕ → FullSlot) → told ≡ Some (no_disks n) → ((d : ℕ) → views d ≡ no_slot) → AreSlotsOf told views
starts told n views is none t tells d =
    subst (λ (u : Trail). IsSlotOf (now u) d (views d)) (some_same (sym is ∙ tells)) (subst (IsSlotOf (now (no_disks n)) d) (sym (none d)) (begins n d))

pub told_start : (tells : Bool) (start : List Start) (calls : List Call) (n : ℕ) → tells ≡ true → map beginning_of start ≡ replicate n (record { power = Absent; blocks = [] }) → calls ≡ []
    → told_by tells start calls ≡ Some (no_disks n)
unfolding told_by
told_start false start calls n bad begin none = absurd (false≢true bad)
told_start true start calls n is begin none =
    ap (λ (b : List Beginning). Some (record { start = b; calls = calls })) begin ∙ ap (λ (l : List Call). Some (record { start = (no_disks n).start; calls = l })) none

pub slots_none : (slots : List MemSlot) (n : ℕ) → length slots ≡ n → n ≤ 8 → ((d : ℕ) → full_slot_at slots d ≡ no_slot) → AreSlots (length slots) (told_slot_at slots)
slots_none slots n is few none = record {
  few = omega arith;
  missing = λ d past. ap (λ (v : FullSlot). v.power) (none d);
  absent = λ d gone. ap (λ (v : FullSlot). length v.blocks) (none d);
  parked = λ d stands. ap (λ (v : FullSlot). v.unsynced) (none d);
}

pub told_calls : (tells : Bool) (start : List Start) (calls : List Call) (t : Trail) → told_by tells start calls ≡ Some t → t.calls ≡ calls
unfolding told_by
told_calls true start calls t is = ap (λ (u : Trail). u.calls) (sym (some_same is))
told_calls false start calls t is = absurd (none_some is)

-- where the list is whole, it is told
pub all_told : (tells : Bool) (start : List Start) (calls shown : List Call) → tells ≡ true → shown ≡ calls → (t : Trail) × (told_by tells start calls ≡ Some t) × (t.calls ≡ shown)
unfolding told_by
all_told true start calls shown is same = (record { start = map beginning_of start; calls = calls }, refl, sym same)
all_told false start calls shown is same = absurd (false≢true is)

-- the call is not planned, and is done
pub not_planned : (r p : Bool) → r ≡ p → r ≡ false → true ≡ not p
not_planned r p is bad = ap not (sym bad ∙ is)

pub was_planned : (r p : Bool) → r ≡ p → r ≡ true → false ≡ not p
was_planned r p is good = ap not (sym good ∙ is)

pub same_beginning : (v w : Beginning) → v.power ≡ w.power → v.blocks ≡ w.blocks → v ≡ w
same_beginning v w p b = λ i. record { power = p i; blocks = b i }

-- slots that are all absent
pub small_absent : (slots : List MemSlot) → ((d : ℕ) → full_slot_at slots d ≡ no_slot) → (d : ℕ) → (told_slot_at slots d).size < 2 ^ 32
small_absent slots absent d = subst (λ (v : FullSlot). length v.blocks < 2 ^ 32) (sym (absent d)) (omega arith)

pub sound_absent : (slots : List MemSlot) → ((d : ℕ) → full_slot_at slots d ≡ no_slot) → length slots ≤ 8 → AreSlots (length slots) (told_slot_at slots)
sound_absent slots absent few = record {
  few = few;
  missing = λ d past. ap (λ (v : FullSlot). v.power) (absent d);
  absent = λ d _. ap (λ (v : FullSlot). length v.blocks) (absent d);
  parked = λ d _. ap (λ (v : FullSlot). v.unsynced) (absent d);
}

pub length_absent : (start : List Start) (n : ℕ) (x : Beginning) → map beginning_of start ≡ replicate n x → length start ≡ n
length_absent start n x same = sym (length-map start beginning_of) ∙ ap length same ∙ length-replicate n x
