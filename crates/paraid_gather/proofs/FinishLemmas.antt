-- What waits is written out, for one disk after another.
use Rattle.std.proofs.Common.{◌≡◌, ◌≢◌, ◌≤◌, ◌<◌, ◌+◌, ◌-◌, ◌⊎◌, ◌||◌, ◌&&◌, inl, inr, zero, suc, ℕ, Bool, true, false, not, if◌then◌else◌, nat_lt, List, [], ◌∷◌, ◌++◌, length, Option, Some, None, refl, sym, ◌∙◌, ap, subst, arith}
use Rattle.std.specs.Prelude.{All}
use Rattle.std.specs.List.{slice_get}
use Rattle.std.proofs.lemmas.Bool.{cases_eq, cases_lt, false≢true, true≢false}
use Rattle.std.proofs.lemmas.Bool.Decides.{nat_tests}
use Rattle.std.proofs.lemmas.List.{append-nil, map-append}
use Rattle.std.proofs.lemmas.List.Elements.{All-nil, All-cons, All-append, All-head}
use Rattle.paraid_rack.specs.declared.call.Power.{Power}
use Rattle.paraid_rack.specs.declared.call.Power.TheVariants.{Spinning, Parked, Absent}
use Rattle.paraid_rack.specs.Slots.{Slot, Agrees, AreSlots, ChangesOneSlot}
use Rattle.paraid_rack.specs.declared.call.Call.{Call}
use Rattle.paraid_rack.specs.Disks.{Disks, IsPresent, is_present}
use Rattle.paraid_rack.specs.Told.{Ran}
use Rattle.paraid_rack.specs.Trail.{Trail, now, extend}
use Rattle.paraid_rack.proofs.TrailsLemmas.{extend-extend}
use Rattle.paraid_gather.specs.Waiting.{AllFit, Fits, Waiting, waiting, waits}
use Rattle.paraid_gather.specs.Above.{Follows, IsAbove, TellsOut, slot_above, told_above}
use Rattle.paraid_gather.specs.Bulk.{left_by}
use Rattle.paraid_gather.specs.PowerCalls.{PowersAs}
use Rattle.paraid_gather.specs.Finish.{EndsGathered, HasLoose, LosesSlot, NotesLost, WritesSlotOut, WritesWhatWaits, failed_syncs, lost_at, lost_below}
use Rattle.paraid_gather.specs.Stands.{StandsOver, StandsWhereTold}
use Rattle.paraid_gather.proofs.DoesLemmas.{or_right}
use Rattle.paraid_gather.proofs.WritesLemmas.{above_none, writes_none, writes_one, writes_then}

extend_none : (a : Trail) → extend a [] ≡ a
extend_none a = ap (λ (l : List Call). record { start = a.start; calls = l }) (append-nil a.calls)

or_none : (x : Bool) → (x || false) ≡ x
or_none true = refl
or_none false = refl

-- where nothing waits, the slot above is the one below
pub above_quiet : (x : Slot) (w : Waiting) → waits w ≡ false → slot_above x w ≡ x
above_quiet x w none = ap (λ (u : Bool). record x { unsynced = x.unsynced || u }) none ∙ ap (λ (u : Bool). record x { unsynced = u }) (or_none x.unsynced)

-- nothing is noted
pub notes_none : (noted : Option Trail) → NotesLost [] noted noted
notes_none noted t is = (t, is, sym (extend_none t))

-- what waits for one disk is written out
notes_one : (noted noted' : Option Trail) (d : ℕ) (ok : Bool) → TellsOut ok d noted noted' → NotesLost (if ok then [] else d ∷ []) noted noted'
notes_one noted noted' d true tells t is = (t, tells t is, sym (extend_none t))
notes_one noted noted' d false tells t is = tells t is

-- disks that were lost, and then others
both_lost : (a : Trail) (first second : List ℕ) → extend (extend a (failed_syncs first)) (failed_syncs second) ≡ extend a (failed_syncs (first ++ second))
both_lost a first second = extend-extend a (failed_syncs first) (failed_syncs second) ∙ ap (extend a) (sym (map-append _ first second))

notes_then : (old mid new : Option Trail) (first second : List ℕ) → NotesLost first old mid → NotesLost second mid new → NotesLost (first ++ second) old new
notes_then old mid new first second one two t is =
    let later = two t is in
    let before = one later.0 later.1 in (
      before.0,
      before.1,
      later.2 ∙ ap (λ (u : Trail). extend u (failed_syncs second)) before.2 ∙ both_lost before.0 first second,
    )

by_power : {A : Type 0} (q : Power) → (q ≡ Spinning → A) → (q ≡ Parked → A) → is_present q ≡ true → A
by_power Spinning spins stands here = spins refl
by_power Parked spins stands here = stands refl
by_power Absent spins stands here = absurd (false≢true here)

-- a disk alone, if it was there and is no more
abbrev pick : ℕ → Bool → Bool → List ℕ
pick d was is = if was && not is then d ∷ [] else []

pick_all : (P : ℕ → Type 0) (d : ℕ) (was is : Bool) → (was ≡ true → is ≡ false → P d) → All P (pick d was is)
pick_all P d true false h = All-cons P d [] (h refl refl) (All-nil P)
pick_all P d true true h = All-nil P
pick_all P d false true h = All-nil P
pick_all P d false false h = All-nil P

lost_all : (P : ℕ → Type 0) (n : ℕ) (slot slot' : ℕ → Slot) → ((d : ℕ) → is_present (slot d).power ≡ true → is_present (slot' d).power ≡ false → P d) → All P (lost_below n slot slot')
lost_all P zero slot slot' h = All-nil P
lost_all P (suc n) slot slot' h = All-append P (lost_below n slot slot') (lost_at n (slot n) (slot' n)) (lost_all P n slot slot' h) (pick_all P n (is_present (slot n).power) (is_present (slot' n).power) (h n))

lost_same : (n : ℕ) (slot mid new : ℕ → Slot) → ((d : ℕ) → d < n → new d ≡ mid d) → lost_below n slot new ≡ lost_below n slot mid
lost_same zero slot mid new same = refl
lost_same (suc n) slot mid new same =
    ap (λ (l : List ℕ). l ++ lost_at n (slot n) (new n)) (lost_same n slot mid new (λ d below. same d (omega (arith, below))))
    ∙ ap (λ (x : Slot). lost_below n slot mid ++ lost_at n (slot n) x) (same n (omega arith))

module _ (slot slot' : ℕ → Slot) (d : ℕ) (w : Waiting) (ok : Bool) (spins : (slot d).power ≡ Spinning) (call : ChangesOneSlot slot slot' d (slot_above (slot d) w) (slot_above (slot d) w).unsynced ok) where
  -- a disk that spins is left as it was above, or lost
  pub slot_out : (ok ≡ false → waits w ≡ true) → WritesSlotOut (slot d) w (slot' d)
  slot_out waited = record {
    present = λ _. here ok refl;
    absent = λ gone. absurd (false≢true (sym gone ∙ ap is_present spins));
  }
    where
      here : (o : Bool) → ok ≡ o → (slot' d ≡ slot_above (slot d) w) ⊎ ((waits w ≡ true) × LosesSlot (slot_above (slot d) w) (slot' d))
      here true so = inl (call.done so)
      here false so = inr (waited so, record { spun = spins; absent = call.absent so; empty = call.empty so; unsynced = call.unsynced so; risen = call.risen so; later = call.later so })

  lost_is : (o : Bool) → ok ≡ o → lost_at d (slot d) (slot' d) ≡ (if o then [] else d ∷ [])
  lost_is true so = ap (λ (x : Bool). pick d x (is_present (slot' d).power)) (ap is_present spins) ∙ ap (pick d true) (ap (λ (x : Slot). is_present x.power) (call.done so) ∙ ap is_present spins)
  lost_is false so = ap (λ (x : Bool). pick d x (is_present (slot' d).power)) (ap is_present spins) ∙ ap (pick d true) (ap is_present (call.absent so))

  -- and then a failed sync of it is noted
  pub notes_lost : (noted noted' : Option Trail) → TellsOut ok d noted noted' → NotesLost (lost_at d (slot d) (slot' d)) noted noted'
  notes_lost noted noted' tells = subst (λ (l : List ℕ). NotesLost l noted noted') (sym (lost_is ok refl)) (notes_one noted noted' d ok tells)

  -- and what waits for it is on it, if it is left
  pub below_lost : (told told' : Option Trail) (w0 w1 : ℕ → Waiting) → Ran told told' (PowersAs []) → ((s : Disks) → Follows told told' w0 w1 s (left_by ok d s)) → Ran told told' (WritesWhatWaits (lost_at d (slot d) (slot' d)) w0 w1)
  below_lost told told' w0 w1 turned follows = subst (λ (l : List ℕ). Ran told told' (WritesWhatWaits l w0 w1)) (sym (lost_is ok refl)) (writes_one told told' w0 w1 d ok turned follows)

-- a disk that does not spin is not called
pub slot_still : (x : Slot) (w : Waiting) → Fits x w → (x.power ≡ Spinning → ⊥) → WritesSlotOut x w x
slot_still x w fits still = record {
  present = λ here. inl (sym (above_quiet x w (by_power x.power (λ spins. absurd (still spins)) fits.still here)));
  absent = λ gone. refl;
}

-- no disk is lost where no slot changes
pick_same : (d : ℕ) (x : Bool) → pick d x x ≡ []
pick_same d true = refl
pick_same d false = refl

pub notes_still : (d : ℕ) (x : Slot) (noted : Option Trail) → NotesLost (lost_at d x x) noted noted
notes_still d x noted = subst (λ (l : List ℕ). NotesLost l noted noted) (sym (pick_same d (is_present x.power))) (notes_none noted)

pub below_still : (d : ℕ) (x : Slot) (told : Option Trail) (w : ℕ → Waiting) → Ran told told (WritesWhatWaits (lost_at d x x) w w)
below_still d x told w = subst (λ (l : List ℕ). Ran told told (WritesWhatWaits l w w)) (sym (pick_same d (is_present x.power))) (writes_none told w)

-- What waited for the disks below n was written out. For the others it waits still.
pub record IsOutBelow (n : ℕ) (slot slot' : ℕ → Slot) (w w' : ℕ → Waiting) (told told' noted noted' : Option Trail) : Type 0 where
  pub out : (d : ℕ) → d < n → WritesSlotOut (slot d) (w d) (slot' d)
  pub quiet : (d : ℕ) → d < n → (slot' d).power ≡ Spinning → waits (w' d) ≡ false
  pub slots : (d : ℕ) → n ≤ d → slot' d ≡ slot d
  pub waiting : (d : ℕ) → n ≤ d → w' d ≡ w d
  pub log : NotesLost (lost_below n slot slot') noted noted'
  pub below : Ran told told' (WritesWhatWaits (lost_below n slot slot') w w')

pub out_none : (slot : ℕ → Slot) (w : ℕ → Waiting) (told noted : Option Trail) → IsOutBelow 0 slot slot w w told told noted noted
out_none slot w told noted = record {
  out = λ d below. absurd (none_below d below);
  quiet = λ d below. absurd (none_below d below);
  slots = λ d _. refl;
  waiting = λ d _. refl;
  log = notes_none noted;
  below = writes_none told w;
}
  where
    none_below : (d : ℕ) → d < 0 → ⊥
    none_below d below = omega (arith, below)

-- one disk more
out_suc : (n : ℕ) (slot mid new : ℕ → Slot) (w w1 w2 : ℕ → Waiting) (told told1 told2 noted noted1 noted2 : Option Trail) → IsOutBelow n slot mid w w1 told told1 noted noted1 → WritesSlotOut (mid n) (w1 n) (new n) → ((new n).power ≡ Spinning → waits (w2 n) ≡ false)
    → ((d : ℕ) → d ≢ n → new d ≡ mid d) → ((d : ℕ) → d ≢ n → w2 d ≡ w1 d) → NotesLost (lost_at n (mid n) (new n)) noted1 noted2 → Ran told1 told2 (WritesWhatWaits (lost_at n (mid n) (new n)) w1 w2) → IsOutBelow (suc n) slot new w w2 told told2 noted noted2
out_suc n slot mid new w w1 w2 told told1 told2 noted noted1 noted2 before here quiet slots waiting notes calls = record {
  out = λ d below. elim (cases_eq d n) [
    | inl at ↦ subst (λ (k : ℕ). WritesSlotOut (slot k) (w k) (new k)) (sym at) (subst (λ (x : Slot). WritesSlotOut x (w n) (new n)) (before.slots n (omega arith)) (subst (λ (v : Waiting). WritesSlotOut (mid n) v (new n)) (before.waiting n (omega arith)) here))
    | inr not ↦ subst (λ (x : Slot). WritesSlotOut (slot d) (w d) x) (sym (slots d not)) (before.out d (omega (arith, below, not)))
  ];
  quiet = λ d below spins. elim (cases_eq d n) [
    | inl at ↦ ap (λ (k : ℕ). waits (w2 k)) at ∙ quiet (ap (λ (k : ℕ). (new k).power) (sym at) ∙ spins)
    | inr not ↦ ap waits (waiting d not) ∙ before.quiet d (omega (arith, below, not)) (ap (λ (x : Slot). x.power) (sym (slots d not)) ∙ spins)
  ];
  slots = λ d past. slots d (omega (arith, past)) ∙ before.slots d (omega (arith, past));
  waiting = λ d past. waiting d (omega (arith, past)) ∙ before.waiting d (omega (arith, past));
  log = subst (λ (l : List ℕ). NotesLost l noted noted2) lost (notes_then noted noted1 noted2 (lost_below n slot mid) (lost_at n (mid n) (new n)) before.log notes);
  below = subst (λ (l : List ℕ). Ran told told2 (WritesWhatWaits l w w2)) lost (writes_then told told1 told2 (lost_below n slot mid) (lost_at n (mid n) (new n)) w w1 w2 before.below calls);
}
  where
    lost : lost_below n slot mid ++ lost_at n (mid n) (new n) ≡ lost_below (suc n) slot new
    lost = ap (λ (l : List ℕ). l ++ lost_at n (mid n) (new n)) (sym (lost_same n slot mid new (λ d below. slots d (omega (arith, below))))) ∙ ap (λ (x : Slot). lost_below n slot new ++ lost_at n x (new n)) (before.slots n (omega arith))

pub out_more : (n : ℕ) (slot mid new : ℕ → Slot) (w w1 w2 : ℕ → Waiting) (told told1 told2 noted noted1 noted2 : Option Trail) → IsOutBelow n slot mid w w1 told told1 noted noted1 → WritesSlotOut (mid n) (w1 n) (new n) → ((new n).power ≡ Spinning → waits (w2 n) ≡ false)
    → ((d : ℕ) → d ≢ n → new d ≡ mid d) → ((d : ℕ) → d ≢ n → w2 d ≡ w1 d) → NotesLost (lost_at n (mid n) (new n)) noted1 noted2 → Ran told1 told2 (WritesWhatWaits (lost_at n (mid n) (new n)) w1 w2) → IsOutBelow (n + 1) slot new w w2 told told2 noted noted2
out_more n slot mid new w w1 w2 told told1 told2 noted noted1 noted2 before here quiet slots waiting notes calls =
    let e : suc n ≡ n + 1 = omega arith in
    subst (λ (k : ℕ). IsOutBelow k slot new w w2 told told2 noted noted2) e (out_suc n slot mid new w w1 w2 told told1 told2 noted noted1 noted2 before here quiet slots waiting notes calls)

module _ (count n : ℕ) (slot slot' : ℕ → Slot) (w w' : ℕ → Waiting) (told told' noted noted' : Option Trail) (all : count ≤ n) (ended : IsOutBelow n slot slot' w w' told told' noted noted') where
  -- a slot that does not exist stays as it is
  pub all_out : AreSlots count slot → (d : ℕ) → WritesSlotOut (slot d) (w d) (slot' d)
  all_out hold d = elim (cases_lt d n) [
    | inl below ↦ ended.out d below
    | inr past ↦ record {
      present = λ here. absurd (false≢true (sym (ap is_present (hold.missing d (omega (arith, past, all)))) ∙ here));
      absent = λ gone. ended.slots d past;
    }
  ]

  -- nothing waits for a disk that is there
  pub all_quiet : (s : Disks) → AreSlots count slot' → AllFit slot' w' → Agrees s slot' → (d : ℕ) → IsPresent s d → waits (w' d) ≡ false
  all_quiet s hold fits agrees d here = elim (cases_lt d n) [
    | inl below ↦ by_power (slot' d).power (ended.quiet d below) (λ is. (fits d).still is) (ap is_present (sym (agrees.power d)) ∙ here)
    | inr past ↦ absurd (false≢true (sym (ap is_present (agrees.power d ∙ hold.missing d (omega (arith, past, all)))) ∙ here))
  ]

first_of : (bs : List (List ℕ)) → nat_lt 0 (length bs) ≡ true → (x : List ℕ) × (slice_get bs 0 ≡ Some x)
first_of [] any = absurd (false≢true any)
first_of (b ∷ bs) any = (b, refl)

-- where a block waits, one waits at the first place
first_waiting : (w : Waiting) → waits w ≡ true → (x : List ℕ) × (waiting w w.first ≡ Some x)
unfolding waiting
first_waiting w any =
    let f : ℕ = w.first in
    let bs : List (List ℕ) = w.blocks in
    let not_below : nat_lt f f ≡ false = grind (arith, nat_tests) in
    let zeroth : f - f ≡ 0 = omega arith in
    let x = first_of bs any in
    (x.0, ap (λ (v : Bool). if v then None else slice_get bs (f - f)) not_below ∙ ap (slice_get bs) zeroth ∙ x.1)

-- a disk is lost only where one of its blocks is loose
has_loose : (slot slot' : ℕ → Slot) (w : ℕ → Waiting) (b s : Disks) → IsAbove b w s → Agrees b slot → (d : ℕ) → WritesSlotOut (slot d) (w d) (slot' d) → is_present (slot d).power ≡ true → is_present (slot' d).power ≡ false → HasLoose s d
has_loose slot slot' w b s above agrees d out was gone = elim (out.present was) [
  | inl same ↦ absurd (false≢true (sym gone ∙ ap (λ (x : Slot). is_present x.power) same ∙ was))
  | inr lost ↦
      let here : IsPresent s d = ap is_present (above.power d ∙ agrees.power d) ∙ was in
      let x = first_waiting (w d) lost.0 in
      record { present = here; place = (w d).first; loose = above.loose d (w d).first x.0 here x.1 }
]

pub ends_gathered : (n : ℕ) (slot slot' : ℕ → Slot) (w w' : ℕ → Waiting) (told told' noted noted' : Option Trail) (below a' : Trail) → told' ≡ Some below → noted' ≡ Some a' → Ran told told' (WritesWhatWaits (lost_below n slot slot') w w') → NotesLost (lost_below n slot slot') noted noted'
    → ((d : ℕ) → WritesSlotOut (slot d) (w d) (slot' d)) → StandsWhereTold told noted slot w → ((b : Trail) → told ≡ Some b → Agrees (now b) slot) → StandsOver slot' w' below a' → ((d : ℕ) → IsPresent (now below) d → waits (w' d) ≡ false)
    → EndsGathered (told_above told noted) below a'
ends_gathered n slot slot' w w' told told' noted noted' below a' told_is noted_is ran notes out stood agrees over none =
    let r = ran below told_is in
    let log = notes a' noted_is in
    record {
      above = log.0;
      was = ap (λ (o : Option Trail). told_above o noted) r.was ∙ log.1;
      lost = lost_below n slot slot';
      is = log.2;
      unsynced = lost_all (HasLoose (now log.0)) n slot slot' (λ d. has_loose slot slot' w (now r.from) (now log.0) (stood r.from log.0 r.was log.1).above (agrees r.from r.was) d (out d));
      lawful = over.lawful;
      gathered = over.gathered;
      same = above_none (now below) w' (now a') over.above (λ d here. none d (ap is_present (sym (over.above.power d)) ∙ here));
    }

-- a disk that is synced above is not lost
pub synced_stays : (before after : Slot) (w : Waiting) → WritesSlotOut before w after → (slot_above before w).unsynced ≡ false → after ≡ slot_above before w
synced_stays before after w out synced = here (is_present before.power) refl
  where
    none : waits w ≡ false
    none = or_right before.unsynced (waits w) synced

    here : (o : Bool) → is_present before.power ≡ o → after ≡ slot_above before w
    here true is = elim (out.present is) [
      | inl same ↦ same
      | inr lost ↦ absurd (true≢false (sym lost.0 ∙ none))
    ]
    here false is = out.absent is ∙ sym (above_quiet before w none)

empty_all : (P : ℕ → Type 0) (l : List ℕ) → All P l → ((d : ℕ) → P d → ⊥) → l ≡ []
empty_all P [] all none = refl
empty_all P (d ∷ l) all none = absurd (none d (All-head P d l all))

-- where nothing is loose above, no disk is lost, and nothing is noted
pub none_lost : (before : Option Trail) (below noted : Trail) (ends : EndsGathered before below noted) → ((d p : ℕ) → IsPresent (now ends.above) d → (now ends.above).loose d p ≡ false) → (ends.lost ≡ []) × (noted ≡ ends.above)
none_lost before below noted ends synced =
    let none = empty_all (HasLoose (now ends.above)) ends.lost ends.unsynced (λ d it. true≢false (sym it.loose ∙ synced d it.place it.present)) in
    (none, ends.is ∙ ap (λ (l : List ℕ). extend ends.above (failed_syncs l)) none ∙ extend_none ends.above)
