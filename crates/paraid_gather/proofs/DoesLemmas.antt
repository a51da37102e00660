-- What a call does to one disk, and one part of it after another.
use Rattle.std.proofs.Common.{◌≡◌, ◌≢◌, ℕ, ◌<◌, Bool, true, false, ◌||◌, not, if◌then◌else◌, ◌-◌, ◌==◌, List, [], ◌∷◌, length, Some, None, refl, sym, ◌∙◌, ap, subst, arith, nat_lt}
use Rattle.std.proofs.lemmas.Bool.{false≢true, true≢false}
use Rattle.std.proofs.lemmas.Bool.Decides.{nat_tests}
use Rattle.std.specs.List.{slice_get}
use Rattle.paraid_base.specs.declared.block.Block.{Block}
use Rattle.paraid_rack.specs.declared.rack.Rack.{Ghosts}
use Rattle.paraid_rack.specs.declared.call.Power.{Power}
use Rattle.paraid_rack.specs.declared.call.Power.TheVariants.{Spinning, Parked, Absent}
use Rattle.paraid_rack.specs.declared.call.Call.{Call}
use Rattle.paraid_rack.specs.declared.call.Call.TheVariants.{Write, Sync}
use Rattle.paraid_rack.specs.Slots.{Slot, ChangesOneSlot}
use Rattle.paraid_rack.specs.Disks.{Disks, IsPresent, with_at, step, lose}
use Rattle.paraid_rack.specs.Trail.{Trail, now}
use Rattle.paraid_rack.specs.Told.{GrowsByCall, Ran}
use Rattle.paraid_rack.proofs.AtomsLemmas.{with_at_same, with_at_other}
use Rattle.paraid_gather.specs.Waiting.{Waiting, Fits, none_waits, waiting, waits}
use Rattle.paraid_gather.specs.Bulk.{WritesBlocks, left_by}
use Rattle.paraid_gather.specs.Above.{IsAbove, slot_above, slots_above}
use Rattle.paraid_gather.specs.Does.{DoesAbove}
use Rattle.paraid_gather.proofs.AboveLemmas.{present_above, write_above}
use Rattle.paraid_gather.proofs.OutLemmas.{lost_sync_image, lost_sync, lost_write_image, lost_write}
use Rattle.paraid_gather.proofs.FollowsLemmas.{follows_call, follows_onto, follows_out, follows_none, follows_then}
use Rattle.paraid_gather.proofs.SlotsLemmas.{changes_above, changes_none, changes_then}

pub or_true : (x y : Bool) → y ≡ true → (x || y) ≡ true
or_true true y is = refl
or_true false y is = is

pub or_left : (x y : Bool) → (x || y) ≡ false → x ≡ false
or_left true y is = absurd (true≢false is)
or_left false y is = refl

pub or_right : (x y : Bool) → (x || y) ≡ false → y ≡ false
or_right true y is = absurd (true≢false is)
or_right false y is = is

pub not_false : (x : Bool) → not x ≡ false → x ≡ true
not_false true is = refl
not_false false is = absurd (true≢false is)

pub not_true : (x : Bool) → not x ≡ true → x ≡ false
not_true true is = absurd (false≢true is)
not_true false is = refl

pub some_waits : (w : Waiting) → waits w ≡ true → 0 < length w.blocks
some_waits w any = grind (arith, nat_tests, any)

pub not_not : (x : Bool) → not (not x) ≡ x
not_not true = refl
not_not false = refl

empty_get : (bs : List (List ℕ)) → nat_lt 0 (length bs) ≡ false → (k : ℕ) → slice_get bs k ≡ None
empty_get [] is k = refl
empty_get (b ∷ bs) is k = let n : ℕ = length bs in grind (arith, nat_tests, is)

-- where nothing waits, nothing waits for any place
pub none_waiting : (w : Waiting) → waits w ≡ false → (p : ℕ) → waiting w p ≡ None
unfolding waiting
none_waiting w none p = elim (nat_lt p w.first) as (λ (v : Bool). (if v then None else slice_get w.blocks (p - w.first)) ≡ None) [ true ↦ refl | false ↦ empty_get w.blocks none (p - w.first) ]

pub fits_none : (x : Slot) (w : Waiting) → waits w ≡ false → Fits x w
fits_none x w none = record { within = λ _ any. absurd (true≢false (sym any ∙ none)); still = λ _. none }

pub fits_absent : (x : Slot) (w : Waiting) → x.power ≡ Absent → Fits x w
fits_absent x w gone = record {
  within = λ is. absurd (spins (sym is ∙ gone));
  still = λ is. absurd (stands (sym is ∙ gone));
}
  where
    spins : ◌≡◌ {A = Power} Spinning Absent → ⊥
    spins e = cc

    stands : ◌≡◌ {A = Power} Parked Absent → ⊥
    stands e = cc

pub not_parked : {A : Type 0} (x : Power) → x ≡ Spinning → x ≡ Parked → A
not_parked x spins stands = absurd (apart (sym spins ∙ stands))
  where
    apart : ◌≡◌ {A = Power} Spinning Parked → ⊥
    apart e = cc

pub same_elsewhere : (w : ℕ → Waiting) (d : ℕ) (run run' : Waiting) (e : ℕ) → e ≢ d → with_at w d run' e ≡ with_at w d run e
same_elsewhere w d run run' e not = with_at_other w d run' e not ∙ sym (with_at_other w d run e not)

module _ {R : Type 0} (g : Ghosts R) (old new : R) (d : ℕ) where
  -- one call of the rack below
  pub does_call : (run run' : Waiting) (below leaves : Slot) (dirt dirt' ok : Bool) (c : Call) (after : Disks → Disks) → g.slot_count new ≡ g.slot_count old
      → (ok ≡ true → Fits below run') → (ok ≡ true → slot_above below run' ≡ leaves) → (ok ≡ false → (dirt || waits run') ≡ dirt')
      → ((w : ℕ → Waiting) (s : Disks) (t : Trail) → g.told old ≡ Some t → IsAbove (now t) (with_at w d run) s → IsAbove (step c (now t)) (with_at w d run') (after s))
      → ChangesOneSlot (g.slot old) (g.slot new) d below dirt ok → GrowsByCall (g.told old) (g.told new) c → DoesAbove g d run run' old new leaves dirt' ok after
  does_call run run' below leaves dirt dirt' ok c after slots fits done failed above call grows = record {
    slots = slots;
    others = call.others;
    fits = fits_after ok refl;
    slot = λ w. changes_above (g.slot old) (g.slot new) (with_at w d run) (with_at w d run') d below leaves dirt dirt' ok (same_elsewhere w d run run')
        (λ is. ap (slot_above below) (with_at_same w d run' d refl) ∙ done is) (λ is. ap (λ (v : Waiting). dirt || waits v) (with_at_same w d run' d refl) ∙ failed is) call;
    told = λ w s. follows_call (g.told old) (g.told new) (with_at w d run) (with_at w d run') s (after s) c grows (above w s);
  }
    where
      fits_after : (o : Bool) → ok ≡ o → Fits (g.slot new d) run'
      fits_after true is = subst (λ (x : Slot). Fits x run') (sym (call.done is)) (fits is)
      fits_after false is = fits_absent (g.slot new d) run' (call.absent is)

  -- what waits is written
  pub does_out : (run run' v : Waiting) (ok : Bool) → v ≡ run → waits run ≡ true → ((t : Trail) → g.told old ≡ Some t → IsPresent (now t) d) → (ok ≡ true → waits run' ≡ false)
      → g.slot_count new ≡ g.slot_count old → ChangesOneSlot (g.slot old) (g.slot new) d (record (g.slot old d) { unsynced = true }) true ok
      → Ran (g.told old) (g.told new) (WritesBlocks d v ok) → DoesAbove g d run run' old new (slot_above (g.slot old d) run) ((g.slot old d).unsynced || waits run) ok (left_by ok d)
  does_out run run' v ok is any there none slots call ran = record {
    slots = slots;
    others = call.others;
    fits = fits_after ok refl;
    slot = λ w. changes_above (g.slot old) (g.slot new) (with_at w d run) (with_at w d run') d (record (g.slot old d) { unsynced = true }) (slot_above (g.slot old d) run) true ((g.slot old d).unsynced || waits run) ok
        (same_elsewhere w d run run') (λ _. ap (λ (u : Bool). record (g.slot old d) { unsynced = u }) (sym (or_true (g.slot old d).unsynced (waits run) any))) (λ _. sym (or_true (g.slot old d).unsynced (waits run) any)) call;
    told = λ w s. follows_out (g.told old) (g.told new) (with_at w d run) (with_at w d run') s (left_by ok d s) d ok (same_elsewhere w d run run')
        (λ ok p. ap (λ (x : Waiting). waiting x p) (with_at_same w d run' d refl) ∙ none_waiting run' (none ok) p) there refl
        (subst (λ (x : Waiting). Ran (g.told old) (g.told new) (WritesBlocks d x ok)) (is ∙ sym (with_at_same w d run d refl)) ran);
  }
    where
      fits_after : (o : Bool) → ok ≡ o → Fits (g.slot new d) run'
      fits_after true is = fits_none (g.slot new d) run' (none is)
      fits_after false is = fits_absent (g.slot new d) run' (call.absent is)

  -- A part that has failed leaves what a call that fails leaves.
  pub does_lost_sync : (run run' : Waiting) (leaves leaves' : Slot) (dirt : Bool) → DoesAbove g d run run' old new leaves dirt false (left_by false d) → DoesAbove g d run run' old new leaves' dirt false (step (Sync d false))
  does_lost_sync run run' leaves leaves' dirt part = record {
    slots = part.slots;
    others = part.others;
    fits = part.fits;
    slot = λ w.
        let it = part.slot w in
        record { others = it.others; done = λ is. absurd (false≢true is); absent = it.absent; empty = it.empty; unsynced = it.unsynced; risen = it.risen; later = it.later };
    told = λ w s. follows_onto (g.told old) (g.told new) (with_at w d run) (with_at w d run') s (lose d s) (with_at w d run') (step (Sync d false) s)
        (lost_sync_image s d) (λ b. lost_sync s d b (with_at w d run')) (part.told w s);
  }

  pub does_lost_write : (run run' : Waiting) (leaves leaves' : Slot) (dirt dirt' : Bool) (q : ℕ) (x : Block) → dirt ≡ dirt' → DoesAbove g d run run' old new leaves dirt false (left_by false d)
      → DoesAbove g d run run' old new leaves' dirt' false (step (Write d q x false))
  does_lost_write run run' leaves leaves' dirt dirt' q x is part = record {
    slots = part.slots;
    others = part.others;
    fits = part.fits;
    slot = λ w.
        let it = part.slot w in
        record { others = it.others; done = λ is. absurd (false≢true is); absent = it.absent; empty = it.empty; unsynced = λ no. it.unsynced no ∙ is; risen = it.risen; later = it.later };
    told = λ w s. follows_onto (g.told old) (g.told new) (with_at w d run) (with_at w d run') s (lose d s) (with_at w d run') (step (Write d q x false) s)
        (lost_write_image s d q x) (λ b. lost_write s d q x b (with_at w d run')) (part.told w s);
  }

-- no call of the rack below
pub does_none : {R : Type 0} (g : Ghosts R) (r : R) (d : ℕ) (run run' : Waiting) (leaves : Slot) (dirt : Bool) (after : Disks → Disks) → Fits (g.slot r d) run' → slot_above (g.slot r d) run' ≡ leaves
    → ((w : ℕ → Waiting) (s : Disks) (t : Trail) → g.told r ≡ Some t → IsAbove (now t) (with_at w d run) s → IsAbove (now t) (with_at w d run') (after s)) → DoesAbove g d run run' r r leaves dirt true after
does_none g r d run run' leaves dirt after fits is above = record {
  slots = refl;
  others = λ e not. refl;
  fits = fits;
  slot = λ w. changes_none (g.slot r) (g.slot r) (with_at w d run) (with_at w d run') d leaves dirt (same_elsewhere w d run run') (ap (slot_above (g.slot r d)) (with_at_same w d run' d refl) ∙ is);
  told = λ w s. follows_none (g.told r) (with_at w d run) (with_at w d run') s (after s) (above w s);
}

-- a block waits from now on
pub does_write : {R : Type 0} (g : Ghosts R) (r : R) (d : ℕ) (run run' : Waiting) (q : ℕ) (x : Block) → Fits (g.slot r d) run' → waits run' ≡ true → ((t : Trail) → g.told r ≡ Some t → IsPresent (now t) d)
    → ((p : ℕ) → waiting run' p ≡ (if p == q then Some x.bytes else waiting run p)) → DoesAbove g d run run' r r (record (slot_above (g.slot r d) run) { unsynced = true }) true true (step (Write d q x true))
does_write g r d run run' q x fits any there put = does_none g r d run run' (record (slot_above (g.slot r d) run) { unsynced = true }) true (step (Write d q x true)) fits
    (ap (λ (u : Bool). record (g.slot r d) { unsynced = u }) (or_true (g.slot r d).unsynced (waits run') any))
    (λ w s t is a. write_above (now t) (with_at w d run) (with_at w d run') s d (same_elsewhere w d run run') q x a (present_above (now t) (with_at w d run) s a d (there t is))
    (λ p. ap (λ (v : Waiting). waiting v p) (with_at_same w d run' d refl) ∙ put p ∙ ap (λ (v : Waiting). if p == q then Some x.bytes else waiting v p) (sym (with_at_same w d run d refl))))

-- a part that leaves the slot above as it is
pub does_same : {R : Type 0} (g : Ghosts R) (old mid : R) (d : ℕ) (run between : Waiting) (dirt : Bool) (after : Disks → Disks)
    → DoesAbove g d run between old mid (slot_above (g.slot old d) run) dirt true after → slot_above (g.slot mid d) between ≡ slot_above (g.slot old d) run
does_same g old mid d run between dirt after first = ap (slot_above (g.slot mid d)) (sym (with_at_same (λ _. none_waits) d between d refl)) ∙ (first.slot (λ _. none_waits)).done refl

module _ {R : Type 0} (g : Ghosts R) (old mid new : R) (d : ℕ) (run between run' : Waiting) (dirt : Bool)
    (first : DoesAbove g d run between old mid (slot_above (g.slot old d) run) dirt true (left_by true d)) where
  -- and then another part
  pub does_then : (leaves : Slot → Slot) (dirt' : Slot → Bool) (ok : Bool) (after : Disks → Disks) → DoesAbove g d between run' mid new (leaves (slot_above (g.slot mid d) between)) (dirt' (slot_above (g.slot mid d) between)) ok after
      → DoesAbove g d run run' old new (leaves (slot_above (g.slot old d) run)) (dirt' (slot_above (g.slot old d) run)) ok after
  does_then leaves dirt' ok after second = record {
    slots = second.slots ∙ first.slots;
    others = λ e not. second.others e not ∙ first.others e not;
    fits = second.fits;
    slot = λ w.
        subst (λ (x : Slot). ChangesOneSlot (slots_above (g.slot old) (with_at w d run)) (slots_above (g.slot new) (with_at w d run')) d (leaves x) (dirt' x) ok) (does_same g old mid d run between dirt (left_by true d) first)
        (changes_then (slots_above (g.slot old) (with_at w d run)) (slots_above (g.slot mid) (with_at w d between)) (slots_above (g.slot new) (with_at w d run')) d
        (slot_above (g.slot old d) run) (ap (slot_above (g.slot old d)) (sym (with_at_same w d run d refl))) (leaves (slot_above (g.slot mid d) between)) dirt (dirt' (slot_above (g.slot mid d) between)) ok (first.slot w) (second.slot w));
    told = λ w s. follows_then (g.told old) (g.told mid) (g.told new) (with_at w d run) (with_at w d between) (with_at w d run') s (after s) (first.told w s) (second.told w s);
  }
