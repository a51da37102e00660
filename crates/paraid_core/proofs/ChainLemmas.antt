-- One call of a core after the other.
use Rattle.std.specs.Prelude.{◌≡◌, ℕ, ◌-◌, ◌≤◌, ◌⊎◌, Bool, true, false, List, [], length, Option, Some, None, if◌then◌else◌}
use Rattle.std.proofs.Common.{refl, sym, ◌∙◌, ap, subst, arith, inl, inr}
use Rattle.std.proofs.lemmas.Bool.Decides.{nat_tests}
use Rattle.std.proofs.lemmas.List.{append-nil}
use Rattle.paraid_base.specs.declared.fault.Two.{Two}
use Rattle.paraid_base.specs.History.{History}
use Rattle.paraid_base.specs.Log.{batch_room}
use Rattle.paraid_base.specs.Told.{HasRisen}
use Rattle.paraid_base.proofs.ToldLemmas.{HasRisen-later, HasRisen-sooner}
use Rattle.paraid_image.specs.Out.{named_out, or_else}
use Rattle.paraid_image.specs.Sides.{Batch}
use Rattle.paraid_image.specs.HeldAt.{IsHeld}
use Rattle.paraid_image.specs.Mark.{meta_with_lost}
use Rattle.paraid_image.proofs.HeldLemmas.{IsHeld-more}
use Rattle.paraid_rack.specs.Disks.{Disks}
use Rattle.paraid_rack.specs.Slots.{Slot}
use Rattle.paraid_rack.specs.Told.{Ran, CrashTriple}
use Rattle.paraid_rack.specs.Trail.{Trail, now}
use Rattle.paraid_rack.proofs.TrailsLemmas.{stays, then as runs_then}
use Rattle.paraid_record.specs.declared.meta.Meta.{Meta}
use Rattle.paraid_record.specs.declared.meta.Setup.{Setup}
use Rattle.paraid_txn.specs.Losses.{OnlyLosesSlots, AreTwoDown, IsLostNow}
use Rattle.paraid_core.specs.Down.{HasLostOne, IsDownAfter}
use Rattle.paraid_core.specs.Room.{commits_first}
use Rattle.paraid_core.specs.CoreInvariant.{IsHeldWithOneMissing, HoldsBetweenCalls, lost_in}
use Rattle.paraid_core.proofs.AfterLemmas.{lost_in_was}
use Rattle.paraid_core.proofs.MomentLemmas.{beside}
use Rattle.paraid_core.proofs.MomentLemmas.Holding.{intact}
use Rattle.paraid_core.proofs.ReadsLemmas.{knows_named, through_last}
use Rattle.paraid_core.proofs.TryLemmas.{through_held}

pub down_same : (was now : Option ℕ) (a b : ℕ → Slot) → now ≡ was → IsDownAfter was now a b
down_same was now a b e = record { known = λ d is. inl (sym e ∙ is) }

pub down_lost : (was now : Option ℕ) (a b : ℕ → Slot) → HasLostOne was now a b → IsDownAfter was now a b
down_lost was now a b one = record {
  known = λ d is.
      let z : Some one.disk ≡ Some d = sym one.down ∙ is in
      let same : one.disk ≡ d = cc in
      inr (subst (λ (x : ℕ). HasRisen (a x).faults (b x).faults) same one.lost.risen);
}

pub down_both : (o p q : Option ℕ) (a b c : ℕ → Slot) → IsDownAfter o p a b → OnlyLosesSlots a b → IsDownAfter p q b c → OnlyLosesSlots b c → IsDownAfter o q a c
down_both o p q a b c first spared second later = record {
  known = λ d is. elim (second.known d is) [
    | inr risen ↦ inr (HasRisen-sooner (a d).faults (b d).faults (c d).faults (spared.no_fall d) risen)
    | inl was ↦ elim (first.known d was) [
      | inl known ↦ inl known
      | inr risen ↦ inr (HasRisen-later (a d).faults (b d).faults (c d).faults risen (later.no_fall d))
    ]
  ];
}

-- two disks are down after the second call
pub two_after : (o p : Option ℕ) (a b c : ℕ → Slot) (two : Two) → IsDownAfter o p a b → OnlyLosesSlots a b → OnlyLosesSlots b c → AreTwoDown p b c two → AreTwoDown o a c two
two_after o p a b c two first spared later it = record {
  first = elim it.first [
    | inr risen ↦ inr (HasRisen-sooner (a two.first).faults (b two.first).faults (c two.first).faults (spared.no_fall two.first) risen)
    | inl was ↦ elim (first.known two.first was) [
      | inl known ↦ inl known
      | inr risen ↦ inr (HasRisen-later (a two.first).faults (b two.first).faults (c two.first).faults risen (later.no_fall two.first))
    ]
  ];
  apart = it.apart;
  second = HasRisen-sooner (a two.second).faults (b two.second).faults (c two.second).faults (spared.no_fall two.second) it.second;
}

-- a second loss is not answered by false
pub lost_once : (o p q : Option ℕ) (a b c d : ℕ → Slot) → HasLostOne o p a b → HasLostOne p q c d → ⊥
lost_once o p q a b c d one two = let z : Some one.disk ≡ None = sym one.down ∙ two.none in cc

pub done_then : (o p q : Option ℕ) (a b c d : ℕ → Slot) (done : Bool) → HasLostOne o p a b → (done ≡ false → HasLostOne p q c d) → done ≡ true
done_then o p q a b c d true one two = refl
done_then o p q a b c d false one two = absurd (lost_once o p q a b c d one (two refl))

-- the moments

-- what holds at each of them holds at the end
pub ended : (P A C : Disks → Type 0) (old new : Option Trail) → Ran old new (CrashTriple P A C) → Ran old new (CrashTriple P A P)
ended P A C old new ran t tells =
    let r = ran t tells in
    record {
      from = r.from;
      was = r.was;
      calls = r.calls;
      is = r.is;
      holds = record { goes = λ a. let b = r.holds.goes a in (b.0, through_last P (now r.from) r.calls b.0) };
    }

-- no call is made
pub keeps_still : (slots : ℕ) (named : Option ℕ) (m : Meta) (table : List (List Bool)) (batch : Batch) (copied : List Bool) (h : History) (lo : ℕ) (known : Option ℕ) (told : Option Trail) → ((d : ℕ) → named ≡ Some d → known ≡ Some d)
    → Ran told told (CrashTriple (IsHeldWithOneMissing slots m.setup.geometry.disks known h lo) (HoldsBetweenCalls slots named m table batch copied h lo) (HoldsBetweenCalls slots named m table batch copied h lo))
keeps_still slots named m table batch copied h lo known told knows =
    stays (IsHeldWithOneMissing slots m.setup.geometry.disks known h lo) (HoldsBetweenCalls slots named m table batch copied h lo) (HoldsBetweenCalls slots named m table batch copied h lo) told
    (λ s k.
    subst (λ (z : ℕ). IsHeldWithOneMissing slots z known h lo s) (sym (ap (λ (z : Setup). z.geometry.disks) k.next.setup))
    (beside slots k.base h lo known (λ d is. knows d (sym k.named_by ∙ is)) s (intact k.held k.copies)))
    (λ t tells k. k)

-- The second part may keep more at its moments, and less where the first began well.
pub under : (P Q A B C : Disks → Type 0) (L : Type 0) (old mid new : Option Trail) → ((s : Disks) → A s → L) → (L → (s : Disks) → Q s → P s)
    → Ran old mid (CrashTriple P A B) → Ran mid new (CrashTriple Q B C) → Ran old new (CrashTriple P A C)
under P Q A B C L old mid new start to first second =
    runs_then P A (λ s. B s × L) C old mid new
    (λ t tells.
    let r = first t tells in
    record { from = r.from; was = r.was; calls = r.calls; is = r.is; holds = record { goes = λ a. let b = r.holds.goes a in (b.0, (b.1, start (now r.from) a)) } })
    (λ t tells.
    let r = second t tells in
    record {
      from = r.from;
      was = r.was;
      calls = r.calls;
      is = r.is;
      holds = record { goes = λ b. let c = r.holds.goes b.0 in (through_held Q P (to b.1) (now r.from) r.calls c.0, c.1) };
    })

-- the second part under other names for the same
pub after_same : (slots slots' n n' : ℕ) (o o' : Option ℕ) (h : History) (lo : ℕ) (A B C : Disks → Type 0) (old mid new : Option Trail) → slots' ≡ slots → n' ≡ n → o' ≡ o
    → Ran old mid (CrashTriple (IsHeldWithOneMissing slots n o h lo) A B) → Ran mid new (CrashTriple (IsHeldWithOneMissing slots' n' o' h lo) B C) → Ran old new (CrashTriple (IsHeldWithOneMissing slots n o h lo) A C)
after_same slots slots' n n' o o' h lo A B C old mid new es en eo first second =
    runs_then (IsHeldWithOneMissing slots n o h lo) A B C old mid new first
    (subst (λ (z : ℕ). Ran mid new (CrashTriple (IsHeldWithOneMissing z n o h lo) B C)) es
    (subst (λ (z : ℕ). Ran mid new (CrashTriple (IsHeldWithOneMissing slots' z o h lo) B C)) en
    (subst (λ (z : Option ℕ). Ran mid new (CrashTriple (IsHeldWithOneMissing slots' n' z h lo) B C)) eo second)))

pub held_less : (slots n : ℕ) (o p : Option ℕ) (h : History) (lo less : ℕ) (s : Disks) → less ≤ lo → ((d : ℕ) → o ≡ Some d → p ≡ Some d) → IsHeldWithOneMissing slots n o h lo s → IsHeldWithOneMissing slots n p h less s
held_less slots n o p h lo less s l knows k = record {
  held = λ down absent known.
      let more = IsHeld-more slots s h [] lo less down l (k.held down absent (λ d is. known d (knows d is))) in
      subst (λ (z : History). IsHeld slots s z less down) (append-nil h) more;
}

pub keeps_low : (slots : ℕ) (named : Option ℕ) (m : Meta) (table : List (List Bool)) (batch : Batch) (copied : List Bool) (h : History) (lo : ℕ) (s : Disks) → HoldsBetweenCalls slots named m table batch copied h lo s → lo ≤ length h
keeps_low slots named m table batch copied h lo s k = let low = k.copies.low in let high = k.copies.high in omega arith

raised : (first : Bool) (h : History) (lo : ℕ) → lo ≤ length h → lo ≤ (if first then length h else lo)
raised true h lo l = l
raised false h lo l = omega arith

-- a write after a commit, or after none
pub after_raised : (slots slots' n n' : ℕ) (o p named : Option ℕ) (m : Meta) (table : List (List Bool)) (batch : Batch) (copied : List Bool) (first : Bool) (h : History) (lo : ℕ) (B C : Disks → Type 0) (old mid new : Option Trail)
    → slots' ≡ slots → n' ≡ n → ((d : ℕ) → p ≡ Some d → o ≡ Some d)
    → Ran old mid (CrashTriple (IsHeldWithOneMissing slots n o h lo) (HoldsBetweenCalls slots named m table batch copied h lo) B) → Ran mid new (CrashTriple (IsHeldWithOneMissing slots' n' p h (if first then length h else lo)) B C)
    → Ran old new (CrashTriple (IsHeldWithOneMissing slots n o h lo) (HoldsBetweenCalls slots named m table batch copied h lo) C)
after_raised slots slots' n n' o p named m table batch copied first h lo B C old mid new es en knows one two =
    under (IsHeldWithOneMissing slots n o h lo) (IsHeldWithOneMissing slots n p h (if first then length h else lo)) (HoldsBetweenCalls slots named m table batch copied h lo) B C (lo ≤ length h) old mid new
    (λ s k. keeps_low slots named m table batch copied h lo s k)
    (λ l s k. held_less slots n p o h (if first then length h else lo) lo s (raised first h lo l) knows k)
    one
    (subst (λ (z : ℕ). Ran mid new (CrashTriple (IsHeldWithOneMissing z n p h (if first then length h else lo)) B C)) es
    (subst (λ (z : ℕ). Ran mid new (CrashTriple (IsHeldWithOneMissing slots' z p h (if first then length h else lo)) B C)) en two))

-- the room
pub first_false : (batch : Batch) (room : ℕ) → length batch ≤ batch_room - room → commits_first batch room ≡ false
first_false batch room l = grind (arith, nat_tests)

-- what is down

pub marked_out : (o : Option ℕ) (m : Meta) (e : ℕ) → named_out (meta_with_lost o (record m { epoch = e })).out ≡ named_out (meta_with_lost o m).out
marked_out None m e = refl
marked_out (Some d) m e = refl

known_out : (o p : Option ℕ) → ((d e : ℕ) → o ≡ Some d → p ≡ Some e → d ≡ e) → (d : ℕ) → p ≡ Some d → or_else o p ≡ Some d
known_out None p same d is = is
known_out (Some e) p same d is = ap Some (same e d refl is)

either_out : (p q : Option ℕ) (d : ℕ) → or_else p q ≡ Some d → (p ≡ Some d) ⊎ (q ≡ Some d)
either_out None q d is = inr is
either_out (Some e) q d is = inl is

-- after a call, by the disk that was lost in it
module _ (named : Option ℕ) (m : Meta) (lost : Option ℕ) (m_then : Meta) (named_then : Option ℕ) (a b : ℕ → Slot) (one : (d e : ℕ) → named ≡ Some d → named_out m.out ≡ Some e → d ≡ e)
    (marks : named_out m_then.out ≡ named_out (meta_with_lost (lost_in m lost) m).out) (gone : (d : ℕ) → lost ≡ Some d → IsLostNow a b d) where
  by_mark : (o : Option ℕ) → lost_in m lost ≡ o → (d : ℕ) → named_out (meta_with_lost o m).out ≡ Some d → (or_else named (named_out m.out) ≡ Some d) ⊎ HasRisen (a d).faults (b d).faults
  by_mark None is d known = inl (known_out named (named_out m.out) one d known)
  by_mark (Some e) is d known =
      let same : e ≡ d = cc in
      inr (subst (λ (x : ℕ). HasRisen (a x).faults (b x).faults) same (gone e (lost_in_was m lost e is)).risen)

  down_by : ((d : ℕ) → named_then ≡ Some d → or_else named (named_out m.out) ≡ Some d) → IsDownAfter (or_else named (named_out m.out)) (or_else named_then (named_out m_then.out)) a b
  down_by knows = record {
    known = λ d is. elim (either_out named_then (named_out m_then.out) d is) [
      | inl known ↦ inl (knows d known)
      | inr known ↦ by_mark (lost_in m lost) refl d (sym marks ∙ known)
    ];
  }

  -- a commit, after which its meta stands
  pub down_marked : named_then ≡ named_out m.out → IsDownAfter (or_else named (named_out m.out)) (or_else named_then (named_out m_then.out)) a b
  down_marked et = down_by (λ d is. known_out named (named_out m.out) one d (sym et ∙ is))

  -- reads
  pub down_read : named_then ≡ named → IsDownAfter (or_else named (named_out m.out)) (or_else named_then (named_out m_then.out)) a b
  down_read et = down_by (λ d is. knows_named named (named_out m.out) d (sym et ∙ is))

pub marked_epoch : (o : Option ℕ) (m : Meta) → (meta_with_lost o m).epoch ≡ m.epoch
marked_epoch None m = refl
marked_epoch (Some d) m = refl
