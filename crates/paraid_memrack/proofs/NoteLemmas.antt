-- What is told after one more call.
use Rattle.std.proofs.Common.{◌≡◌, inl, inr, ℕ, Bool, true, false, List, [], ◌∷◌, ◌++◌, Option, Some, None, refl, sym, ◌∙◌, ap, subst}
use Rattle.std.proofs.lemmas.Bool.{cases_eq}
use Rattle.paraid_rack.specs.declared.call.Call.{Call}
use Rattle.paraid_rack.specs.Disks.{Disks, step}
use Rattle.paraid_rack.specs.Trail.{Trail, now}
use Rattle.paraid_rack.specs.Told.{GrowsByCall}
use Rattle.paraid_rack.proofs.TrailsLemmas.{now-extend}
use Rattle.paraid_memrack.specs.declared.log.Start.{Start}
use Rattle.paraid_memrack.specs.declared.slot.MemSlot.{MemSlot}
use Rattle.paraid_rack.specs.Calls.{disk_of}
use Rattle.paraid_memrack.specs.Slots.{FullSlot, full_slot_at, SetsSlot}
use Rattle.paraid_memrack.specs.Tells.{told_by, told_after, IsSlotOf, AreSlotsOf}
use Rattle.paraid_memrack.proofs.SlotCallLemmas.{holds_other}

pub none_some : {A : Type 0} {x : A} → ◌≡◌ {A = Option A} None (Some x) → ⊥
none_some e = cc

pub some_same : {A : Type 0} {x y : A} → Some x ≡ Some y → x ≡ y
some_same e = cc

-- where it is told after a call, the record was told and is longer by this call
pub grows_after : (more : Bool) (old : Option Trail) (c : Call) → GrowsByCall old (told_after more old c) c
unfolding told_after
grows_after true (Some s) c t is = (s, refl, sym (some_same is))
grows_after true None c t is = absurd (none_some is)
grows_after false (Some s) c t is = absurd (none_some is)
grows_after false None c t is = absurd (none_some is)

pub grows_told : (old new : Option Trail) (more : Bool) (c : Call) → new ≡ told_after more old c → GrowsByCall old new c
grows_told old new more c is = subst (λ (o : Option Trail). GrowsByCall old o c) (sym is) (grows_after more old c)

one_more : (tells : Bool) (start : List Start) (calls : List Call) (c : Call) → told_by tells start (calls ++ c ∷ []) ≡ told_after true (told_by tells start calls) c
unfolding told_by told_after
one_more true start calls c = refl
one_more false start calls c = refl

nothing_after : (told : Option Trail) (start : List Start) (calls : List Call) (c : Call) → told_by false start calls ≡ told_after false told c
unfolding told_by told_after
nothing_after (Some t) start calls c = refl
nothing_after None start calls c = refl

-- a call is listed
pub told_more : (tells : Bool) (start : List Start) (calls after : List Call) (c : Call) (more : Bool) → more ≡ true → after ≡ calls ++ c ∷ [] → told_by tells start after ≡ told_after more (told_by tells start calls) c
told_more tells start calls after c more is longer =
    ap (told_by tells start) longer ∙ one_more tells start calls c ∙ ap (λ (b : Bool). told_after b (told_by tells start calls) c) (sym is)

-- a call is not listed
pub told_none : (tells : Bool) (start : List Start) (calls : List Call) (c : Call) (more : Bool) → more ≡ false → told_by false start calls ≡ told_after more (told_by tells start calls) c
told_none tells start calls c more is = nothing_after (told_by tells start calls) start calls c ∙ ap (λ (b : Bool). told_after b (told_by tells start calls) c) (sym is)

-- the slots hold what is told after a call on disk d
pub keeps_after : {old new : Option Trail} (more : Bool) (c : Call) {d : ℕ} {slots slots' : List MemSlot} {leaves : FullSlot} → new ≡ told_after more old c → disk_of c ≡ d → SetsSlot slots slots' d leaves
    → AreSlotsOf old (full_slot_at slots) → ((s : Disks) → IsSlotOf s d (full_slot_at slots d) → IsSlotOf (step c s) d leaves) → AreSlotsOf new (full_slot_at slots')
keeps_after {old} {new} more c {d} {slots} {slots'} {leaves} is on b was here t tells e =
    let g = grows_told old new more c is t tells in
    let now_is : now t ≡ step c (now g.0) = ap now g.2 ∙ now-extend g.0 (c ∷ []) in
    subst (λ (s : Disks). IsSlotOf s e (full_slot_at slots' e)) (sym now_is) (elim (cases_eq e d) [
      | inl same ↦
          subst (λ (k : ℕ). IsSlotOf (step c (now g.0)) k (full_slot_at slots' k)) (sym same)
          (subst (IsSlotOf (step c (now g.0)) d) (sym b.here) (here (now g.0) (was g.0 g.1 d)))
      | inr not ↦
          subst (IsSlotOf (step c (now g.0)) e) (sym (b.others e not))
          (holds_other c (now g.0) e (full_slot_at slots e) (λ same. not (same ∙ on)) (was g.0 g.1 e))
    ])

-- and after one that leaves its slot as it was
pub keeps_still : {old new : Option Trail} (more : Bool) (c : Call) {d : ℕ} (slots : List MemSlot) → new ≡ told_after more old c → disk_of c ≡ d
    → AreSlotsOf old (full_slot_at slots) → ((s : Disks) → IsSlotOf s d (full_slot_at slots d) → IsSlotOf (step c s) d (full_slot_at slots d)) → AreSlotsOf new (full_slot_at slots)
keeps_still more c {d} slots is on was here = keeps_after more c {leaves = full_slot_at slots d} is on (record { same_length = refl; here = refl; others = λ e not. refl }) was here
