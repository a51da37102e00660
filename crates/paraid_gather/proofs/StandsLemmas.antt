-- What is known of the record above is known after one more call.
use Rattle.std.proofs.Common.{◌≡◌, ◌≢◌, ◌≤◌, ◌||◌, inl, inr, ℕ, Bool, true, false, List, [], ◌∷◌, length, Option, Some, None, refl, sym, ◌∙◌, ap, subst, arith}
use Rattle.std.proofs.Math.Logic.{∥∥₁_map}
use Rattle.std.proofs.lemmas.Bool.{cases_eq, false≢true, true≢false}
use Rattle.std.proofs.lemmas.List.{append-nil}
use Rattle.paraid_rack.specs.declared.rack.Rack.{Ghosts}
use Rattle.paraid_rack.specs.declared.call.Call.{Call}
use Rattle.paraid_rack.specs.declared.call.Call.TheVariants.{Read, Write, Sync, Park, SpinUp, Attach}
use Rattle.paraid_rack.specs.declared.call.Power.TheVariants.{Spinning, Parked}
use Rattle.paraid_base.specs.declared.block.Block.{Block}
use Rattle.paraid_rack.specs.Disks.{Disks, step, lose}
use Rattle.paraid_rack.specs.Lawful.{IsLawful, AreLawful}
use Rattle.paraid_rack.specs.Slots.{Slot, Agrees, ChangesOneSlot}
use Rattle.paraid_rack.specs.Told.{GrowsByCall, Ran, Through}
use Rattle.paraid_rack.specs.Trail.{Trail, run, now, initial, extend}
use Rattle.paraid_rack.proofs.AtomsLemmas.{with_at_same, with_at_other}
use Rattle.paraid_rack.proofs.TrailsLemmas.{AreLawful-append, now-extend}
use Rattle.paraid_gather.specs.Waiting.{Waiting, waiting, waits}
use Rattle.paraid_gather.specs.Above.{IsAbove, LeavesImageOf, Follows, TellsOut, slots_above, told_above}
use Rattle.paraid_gather.specs.Bulk.{left_by}
use Rattle.paraid_gather.specs.Does.{DoesWhole}
use Rattle.paraid_gather.specs.Laws.{both_told}
use Rattle.paraid_gather.specs.PowerCalls.{PowersAs, power_calls}
use Rattle.paraid_gather.specs.Stands.{StandsOver, StandsWhereTold}
use Rattle.paraid_gather.proofs.AboveLemmas.{above_image, above_start, same_at}
use Rattle.paraid_gather.proofs.FollowsLemmas.{follows_onto}
use Rattle.paraid_gather.proofs.GatheringLemmas.{gathered_none, gathered_more}
use Rattle.paraid_gather.proofs.PowerCallsLemmas.{ran_both}
use Rattle.paraid_gather.proofs.OutLemmas.{lost_sync_image, lost_sync}

-- what is loose is unsynced
abbrev IsDirty : Disks → (ℕ → Slot) → Type 0
IsDirty s slot = (d p : ℕ) → s.loose d p ≡ true → (slot d).unsynced ≡ true

-- with these calls below, and these above, at most one
stands_more : (slot slot' : ℕ → Slot) (w w' : ℕ → Waiting) (b a : Trail) (cs ds : List Call) → StandsOver slot w b a → Agrees (now (extend b cs)) slot' → length ds ≤ 1 → power_calls cs ≡ power_calls ds → AreLawful (now a) ds
    → IsDirty (run (now a) ds) (slots_above slot' w') → Through (LeavesImageOf (now a) (run (now a) ds)) (now b) cs → IsAbove (run (now b) cs) w' (run (now a) ds) → StandsOver slot' w' (extend b cs) (extend a ds)
stands_more slot slot' w w' b a cs ds old below one turned lawful dirty through last =
    let above : IsAbove (now (extend b cs)) w' (now (extend a ds)) =
    subst (λ (x : Disks). IsAbove x w' (now (extend a ds))) (sym (now-extend b cs)) (subst (λ (y : Disks). IsAbove (run (now b) cs) w' y) (sym (now-extend a ds)) last) in
    record {
      above = above;
      agrees = record {
        power = λ d. above.power d ∙ below.power d;
        size = λ d. above.size d ∙ below.size d;
        loose = λ d p is. dirty d p (sym (ap (λ (x : Disks). x.loose d p) (now-extend a ds)) ∙ is);
      };
      lawful = AreLawful-append (initial a.start) a.calls ds old.lawful lawful;
      gathered = ∥∥₁_map old.gathered (λ it. gathered_more b a cs ds it one turned through (λ i image. above_image (run (now b) cs) w' (run (now a) ds) i last image));
    }

module _ (told told' noted noted' : Option Trail) (slot slot' : ℕ → Slot) (w w' : ℕ → Waiting) (agrees : (t : Trail) → told' ≡ Some t → Agrees (now t) slot') (stands : StandsWhereTold told noted slot w) where
  -- one call above
  pub stands_call : (c : Call) → Ran told told' (PowersAs (c ∷ [])) → ((s : Disks) → Follows told told' w w' s (step c s)) → GrowsByCall noted noted' c
      → ((s : Disks) → Agrees s (slots_above slot w) → IsLawful s c × IsDirty (step c s) (slots_above slot' w')) → StandsWhereTold told' noted' slot' w'
  stands_call c turned follows grows good b' a' b_is a_is =
      let n = grows a' a_is in
      let r = ran_both _ _ told told' (follows (now n.0)) turned b' b_is in
      let old = stands r.from n.0 r.was n.1 in
      let end = r.holds.0.goes old.above in
      let fit = good (now n.0) old.agrees in
      subst (λ (u : Trail). StandsOver slot' w' u a') (sym r.is) (subst (λ (v : Trail). StandsOver slot' w' (extend r.from r.calls) v) (sym n.2)
      (stands_more slot slot' w w' r.from n.0 r.calls (c ∷ []) old (subst (λ (u : Trail). Agrees (now u) slot') r.is (agrees b' b_is)) (omega arith) r.holds.1 (fit.0, tt) fit.1 end.0 end.1))

  -- what waits is written out, and no call above
  pub stands_out : Ran told told' (PowersAs []) → ((s : Disks) → Follows told told' w w' s s) → ((t : Trail) → noted' ≡ Some t → noted ≡ Some t) → ((d : ℕ) → (slots_above slot' w' d).unsynced ≡ (slots_above slot w d).unsynced) → StandsWhereTold told' noted' slot' w'
  stands_out turned follows same dirt b' a b_is a_is =
      let r = ran_both _ _ told told' (follows (now a)) turned b' b_is in
      let old = stands r.from a r.was (same a a_is) in
      let end = r.holds.0.goes old.above in
      subst (λ (u : Trail). StandsOver slot' w' u a) (sym r.is) (subst (λ (v : Trail). StandsOver slot' w' (extend r.from r.calls) v) (ap (λ (l : List Call). record { start = a.start; calls = l }) (append-nil a.calls))
      (stands_more slot slot' w w' r.from a r.calls [] old (subst (λ (u : Trail). Agrees (now u) slot') r.is (agrees b' b_is)) (omega arith) r.holds.1 tt
      (λ d p is. dirt d ∙ old.agrees.loose d p is) end.0 end.1))

-- a call above that is noted is told
pub grows_above : (told told' noted noted' : Option Trail) (w w' : ℕ → Waiting) (c : Call) → ((s : Disks) → Follows told told' w w' s (step c s)) → GrowsByCall noted noted' c
    → GrowsByCall (told_above told noted) (told_above told' noted') c
grows_above told told' noted noted' w w' c follows grows t is =
    let both = both_told told' noted' t is in
    let n = grows t both.2 in
    let r = follows (now n.0) both.0 both.1 in
    (n.0, ap (λ (o : Option Trail). told_above o noted) r.was ∙ n.1, n.2)

-- where nothing is noted, no more is told
pub silent_above : (told told' noted noted' : Option Trail) (w w' : ℕ → Waiting) → ((s : Disks) → Follows told told' w w' s s) → ((t : Trail) → noted' ≡ Some t → noted ≡ Some t) → (t : Trail) → told_above told' noted' ≡ Some t → told_above told noted ≡ Some t
silent_above told told' noted noted' w w' follows same t is =
    let both = both_told told' noted' t is in
    let r = follows (now t) both.0 both.1 in
    ap (λ (o : Option Trail). told_above o noted) r.was ∙ same t both.2

-- nothing was called yet
pub stands_new : (told noted : Option Trail) (slot : ℕ → Slot) (w : ℕ → Waiting) → ((t : Trail) → noted ≡ Some t → told ≡ Some t) → ((t : Trail) → told ≡ Some t → Agrees (now t) slot)
    → ((t : Trail) → told ≡ Some t → AreLawful (initial t.start) t.calls) → ((d p : ℕ) → waiting (w d) p ≡ None) → StandsWhereTold told noted slot w
stands_new told noted slot w begun agrees lawful none b a b_is a_is =
    let same : a ≡ b = (let e : Some a ≡ Some b = sym (begun a a_is) ∙ b_is in cc) in
    subst (λ (v : Trail). StandsOver slot w b v) (sym same) (record {
      above = above_start (now b) w none;
      agrees = record {
        power = (agrees b b_is).power;
        size = (agrees b b_is).size;
        loose = λ d p is. ap (λ (x : Bool). x || waits (w d)) ((agrees b b_is).loose d p is);
      };
      lawful = lawful b b_is;
      gathered = ∣ gathered_none b ∣₁;
    })

-- what is loose is unsynced after a call on one disk
dirty_after : (slot slot' : ℕ → Slot) (d : ℕ) (leaves : Slot) (dirt ok : Bool) (s s' : Disks) → IsDirty s slot → ChangesOneSlot slot slot' d leaves dirt ok → ((e : ℕ) → e ≢ d → (p : ℕ) → s'.loose e p ≡ s.loose e p)
    → (ok ≡ true → (p : ℕ) → s'.loose d p ≡ true → leaves.unsynced ≡ true) → (ok ≡ false → (p : ℕ) → s'.loose d p ≡ true → dirt ≡ true) → IsDirty s' slot'
dirty_after slot slot' d leaves dirt ok s s' dirty call others done failed e p is = elim (cases_eq e d) [
  | inl at ↦ subst (λ (k : ℕ). (slot' k).unsynced ≡ true) (sym at) (here ok refl (ap (λ (k : ℕ). s'.loose k p) (sym at) ∙ is))
  | inr not ↦ ap (λ (x : Slot). x.unsynced) (call.others e not) ∙ dirty e p (sym (others e not p) ∙ is)
]
  where
    here : (o : Bool) → ok ≡ o → s'.loose d p ≡ true → (slot' d).unsynced ≡ true
    here true so loose = ap (λ (x : Slot). x.unsynced) (call.done so) ∙ done so p loose
    here false so loose = call.unsynced so ∙ failed so p loose

not_loose : (b u : Bool) → (b ≡ true → u ≡ true) → u ≡ false → b ≡ false
not_loose true u so is = absurd (true≢false (sym (so refl) ∙ is))
not_loose false u so is = refl

never_loose : {A : Type 0} (b : Bool) → b ≡ false → b ≡ true → A
never_loose b is_not is = absurd (false≢true (sym is_not ∙ is))

-- What waits fails to be written out, which is a sync that fails.
pub as_lost_sync : {R : Type 0} (g : Ghosts R) (old new : R) (d : ℕ) (w w' : ℕ → Waiting) → DoesWhole g d w w' old new (λ (z : Slot). z) (λ (z : Slot). z.unsynced) false (left_by false d)
    → DoesWhole g d w w' old new (λ (z : Slot). record z { unsynced = false }) (λ (z : Slot). z.unsynced) false (step (Sync d false))
as_lost_sync g old new d w w' whole = record {
  slots = whole.slots;
  fits = whole.fits;
  slot = (let it = whole.slot in record { others = it.others; done = λ so. absurd (false≢true so); absent = it.absent; empty = it.empty; unsynced = it.unsynced; risen = it.risen; later = it.later });
  told = λ s. follows_onto (g.told old) (g.told new) w w' s (lose d s) w' (step (Sync d false) s) (lost_sync_image s d) (λ b. lost_sync s d b w') (whole.told s);
}

module _ {R : Type 0} (g : Ghosts R) (old new : R) (d : ℕ) (w w' : ℕ → Waiting) (noted noted' : Option Trail) (agrees : (t : Trail) → g.told new ≡ Some t → Agrees (now t) (g.slot new))
    (stands : StandsWhereTold (g.told old) noted (g.slot old) w) where
  slots : ℕ → Slot
  slots = slots_above (g.slot old) w

  slots' : ℕ → Slot
  slots' = slots_above (g.slot new) w'

  pub stands_read : (q : ℕ) (ok : Bool) → Ran (g.told old) (g.told new) (PowersAs (Read d q ok ∷ [])) → DoesWhole g d w w' old new (λ (z : Slot). z) (λ (z : Slot). z.unsynced) ok (step (Read d q ok)) → (slots_above (g.slot old) w d).power ≡ Spinning
      → GrowsByCall noted noted' (Read d q ok) → StandsWhereTold (g.told new) noted' (g.slot new) w'
  unfolding step
  stands_read q ok turned whole spins grows = stands_call (g.told old) (g.told new) noted noted' (g.slot old) (g.slot new) w w' agrees stands (Read d q ok) turned whole.told grows
      (λ s it. (it.power d ∙ spins, dirty_after _ _ d _ _ ok s (step (Read d q ok) s) it.loose whole.slot (λ e not p. refl) (λ _ p is. it.loose d p is) (λ _ p is. it.loose d p is)))

  pub stands_write : (q : ℕ) (x : Block) (ok : Bool) → Ran (g.told old) (g.told new) (PowersAs (Write d q x ok ∷ [])) → DoesWhole g d w w' old new (λ (z : Slot). record z { unsynced = true }) (λ (z : Slot). true) ok (step (Write d q x ok)) → (slots_above (g.slot old) w d).power ≡ Spinning
      → GrowsByCall noted noted' (Write d q x ok) → StandsWhereTold (g.told new) noted' (g.slot new) w'
  unfolding step
  stands_write q x ok turned whole spins grows = stands_call (g.told old) (g.told new) noted noted' (g.slot old) (g.slot new) w w' agrees stands (Write d q x ok) turned whole.told grows
      (λ s it. (it.power d ∙ spins, dirty_after _ _ d _ _ ok s (step (Write d q x ok) s) it.loose whole.slot (λ e not p. ap (λ (f : ℕ → Bool). f p) (with_at_other s.loose d _ e not)) (λ _ p is. refl) (λ _ p is. refl)))

  pub stands_sync : (ok : Bool) → Ran (g.told old) (g.told new) (PowersAs (Sync d ok ∷ [])) → DoesWhole g d w w' old new (λ (z : Slot). record z { unsynced = false }) (λ (z : Slot). z.unsynced) ok (step (Sync d ok)) → (slots_above (g.slot old) w d).power ≡ Spinning
      → GrowsByCall noted noted' (Sync d ok) → StandsWhereTold (g.told new) noted' (g.slot new) w'
  unfolding step
  stands_sync true turned whole spins grows = stands_call (g.told old) (g.told new) noted noted' (g.slot old) (g.slot new) w w' agrees stands (Sync d true) turned whole.told grows
      (λ s it. (
        it.power d ∙ spins,
        dirty_after _ _ d _ _ true s (step (Sync d true) s) it.loose whole.slot (λ e not p. ap (λ (f : ℕ → Bool). f p) (with_at_other s.loose d _ e not))
            (λ _ p is. never_loose _ (ap (λ (f : ℕ → Bool). f p) (with_at_same s.loose d _ d refl)) is) (λ failed. absurd (true≢false failed)),
      ))
  stands_sync false turned whole spins grows = stands_call (g.told old) (g.told new) noted noted' (g.slot old) (g.slot new) w w' agrees stands (Sync d false) turned whole.told grows
      (λ s it. (
        it.power d ∙ spins,
        dirty_after _ _ d _ _ false s (step (Sync d false) s) it.loose whole.slot (λ e not p. ap (λ (f : ℕ → Bool). f p) (with_at_other s.loose d _ e not))
            (λ so. absurd (false≢true so)) (λ _ p is. it.loose d p (sym (ap (λ (f : ℕ → Bool). f p) (same_at s.loose d d)) ∙ is)),
      ))

  pub stands_park : (ok : Bool) → Ran (g.told old) (g.told new) (PowersAs (Park d ok ∷ [])) → DoesWhole g d w w' old new (λ (z : Slot). record z { power = Parked }) (λ (z : Slot). false) ok (step (Park d ok)) → (slots_above (g.slot old) w d).power ≡ Spinning
      → (slots_above (g.slot old) w d).unsynced ≡ false → GrowsByCall noted noted' (Park d ok) → StandsWhereTold (g.told new) noted' (g.slot new) w'
  unfolding step
  stands_park ok turned whole spins synced grows = stands_call (g.told old) (g.told new) noted noted' (g.slot old) (g.slot new) w w' agrees stands (Park d ok) turned whole.told grows
      (λ s it.
      let still = λ (p : ℕ). not_loose (s.loose d p) _ (it.loose d p) synced in
      ((it.power d ∙ spins, still), dirty_after _ _ d _ _ ok s (step (Park d ok) s) it.loose whole.slot (λ e not p. refl) (λ _ p is. it.loose d p is) (λ _ p is. never_loose _ (still p) is)))

  pub stands_spin_up : (ok : Bool) → Ran (g.told old) (g.told new) (PowersAs (SpinUp d ok ∷ [])) → DoesWhole g d w w' old new (λ (z : Slot). record z { power = Spinning }) (λ (z : Slot). false) ok (step (SpinUp d ok)) → (slots_above (g.slot old) w d).power ≡ Parked
      → (slots_above (g.slot old) w d).unsynced ≡ false → GrowsByCall noted noted' (SpinUp d ok) → StandsWhereTold (g.told new) noted' (g.slot new) w'
  unfolding step
  stands_spin_up ok turned whole parked synced grows = stands_call (g.told old) (g.told new) noted noted' (g.slot old) (g.slot new) w w' agrees stands (SpinUp d ok) turned whole.told grows
      (λ s it. (
        it.power d ∙ parked,
        dirty_after _ _ d _ _ ok s (step (SpinUp d ok) s) it.loose whole.slot (λ e not p. refl) (λ _ p is. it.loose d p is)
            (λ _ p is. never_loose _ (not_loose (s.loose d p) _ (it.loose d p) synced) is),
      ))

  pub stands_attach : (n : ℕ) (ok : Bool) → Ran (g.told old) (g.told new) (PowersAs (Attach d n ok ∷ [])) → DoesWhole g d w w' old new (λ (z : Slot). record z { power = Spinning; size = n; unsynced = false }) (λ (z : Slot). z.unsynced) ok (step (Attach d n ok))
      → GrowsByCall noted noted' (Attach d n ok) → StandsWhereTold (g.told new) noted' (g.slot new) w'
  unfolding step
  stands_attach n true turned whole grows = stands_call (g.told old) (g.told new) noted noted' (g.slot old) (g.slot new) w w' agrees stands (Attach d n true) turned whole.told grows
      (λ s it. (
        tt,
        dirty_after _ _ d _ _ true s (step (Attach d n true) s) it.loose whole.slot (λ e not p. ap (λ (f : ℕ → Bool). f p) (with_at_other s.loose d _ e not))
            (λ _ p is. never_loose _ (ap (λ (f : ℕ → Bool). f p) (with_at_same s.loose d _ d refl)) is) (λ failed. absurd (true≢false failed)),
      ))
  stands_attach n false turned whole grows = stands_call (g.told old) (g.told new) noted noted' (g.slot old) (g.slot new) w w' agrees stands (Attach d n false) turned whole.told grows
      (λ s it. (
        tt,
        dirty_after _ _ d _ _ false s (step (Attach d n false) s) it.loose whole.slot (λ e not p. ap (λ (f : ℕ → Bool). f p) (with_at_other s.loose d _ e not))
            (λ so. absurd (false≢true so)) (λ _ p is. it.loose d p (sym (ap (λ (f : ℕ → Bool). f p) (same_at s.loose d d)) ∙ is)),
      ))

  -- what waits is written out, or fails to be
  pub stands_written : (ok : Bool) → Ran (g.told old) (g.told new) (PowersAs []) → DoesWhole g d w w' old new (λ (z : Slot). z) (λ (z : Slot). z.unsynced) ok (left_by ok d) → (slots_above (g.slot old) w d).power ≡ Spinning
      → TellsOut ok d noted noted' → StandsWhereTold (g.told new) noted' (g.slot new) w'
  stands_written true turned whole spins tells = stands_out (g.told old) (g.told new) noted noted' (g.slot old) (g.slot new) w w' agrees stands turned whole.told tells
      (λ e. elim (cases_eq e d) [
        | inl at ↦ subst (λ (k : ℕ). (slots_above (g.slot new) w' k).unsynced ≡ (slots_above (g.slot old) w k).unsynced) (sym at) (ap (λ (x : Slot). x.unsynced) (whole.slot.done refl))
        | inr not ↦ ap (λ (x : Slot). x.unsynced) (whole.slot.others e not)
      ])
  stands_written false turned whole spins tells = stands_sync false turned (as_lost_sync g old new d w w' whole) spins tells

-- and so it is told
pub out_above : {R : Type 0} (g : Ghosts R) (old new : R) (d : ℕ) (w w' : ℕ → Waiting) (noted noted' : Option Trail) (ok : Bool) → DoesWhole g d w w' old new (λ (z : Slot). z) (λ (z : Slot). z.unsynced) ok (left_by ok d)
    → TellsOut ok d noted noted' → TellsOut ok d (told_above (g.told old) noted) (told_above (g.told new) noted')
out_above g old new d w w' noted noted' true whole tells = silent_above (g.told old) (g.told new) noted noted' w w' whole.told tells
out_above g old new d w w' noted noted' false whole tells = grows_above (g.told old) (g.told new) noted noted' w w' (Sync d false) (as_lost_sync g old new d w w' whole).told tells
