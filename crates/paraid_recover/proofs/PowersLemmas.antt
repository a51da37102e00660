-- A spin-up or a park, and some of them.
use Rattle.std.specs.Prelude.{◌≡◌, ◌≢◌, ℕ, ◌+◌, ◌<◌, ◌≤◌, ◌⊎◌, Bool, true, false, List, [], ◌∷◌, ◌++◌, Option, Some, None, Result, Ok, Err, OnOk, IfErr, IsErrAnd, is_ok, if◌then◌else◌}
use Rattle.std.proofs.Common.{refl, sym, ◌∙◌, ap, subst, arith, inl, inr}
use Rattle.std.proofs.lemmas.Bool.{cases_eq, false≢true}
use Rattle.std.proofs.lemmas.Bool.Decides.{nat_tests}
use Rattle.paraid_base.specs.declared.fault.Two.{Two}
use Rattle.paraid_base.specs.Told.{HasRisen}
use Rattle.paraid_rack.specs.declared.call.Call.{Call}
use Rattle.paraid_rack.specs.declared.call.Power.{Power}
use Rattle.paraid_rack.specs.declared.call.Power.TheVariants.{Absent, Parked, Spinning}
use Rattle.paraid_rack.specs.declared.rack.Rack.{Ghosts}
use Rattle.paraid_rack.specs.Disks.{Disks, is_present, step}
use Rattle.paraid_rack.specs.Lawful.{IsLawful}
use Rattle.paraid_rack.specs.Slots.{Agrees, Slot, ChangesOneSlot}
use Rattle.paraid_rack.specs.Told.{GrowsByCall, Ran}
use Rattle.paraid_rack.specs.Trail.{Trail, now, run}
use Rattle.paraid_rack.proofs.TrailsLemmas.{Ran-call, Ran-none, Ran-then}
use Rattle.paraid_record.specs.declared.meta.Meta.{Meta}
use Rattle.paraid_image.specs.Calls.{disk_of, is_done}
use Rattle.paraid_image.specs.Lost.{BearsLoss, EndsByFailure, EndsByLoss, TellsLosses}
use Rattle.paraid_image.specs.Out.{first_absent, named_out, or_else}
use Rattle.paraid_image.specs.Power.{power_by_gear}
use Rattle.paraid_image.specs.Spot.{rising_to}
use Rattle.paraid_image.proofs.LostLemmas.{bears_ending, bears_none, bears_unhurt, loss_failed, ran_beside, ran_bears, ran_says, ran_tells}
use Rattle.paraid_image.proofs.OutLemmas.{first_absent_finds, first_absent_is}
use Rattle.paraid_txn.specs.declared.store.Lost.{Lost}
use Rattle.paraid_txn.specs.declared.store.Lost.TheVariants.{One as LostOne, Two as LostTwo}
use Rattle.paraid_txn.specs.declared.store.Store.{Store}
use Rattle.paraid_txn.specs.Losses.{AreGoneSince, IsGoneSince, IsLostBy, IsOneOut, IsOutOfCommit, AreTwoDownBeside}
use Rattle.paraid_txn.specs.Losses.IsOutOfCommit.{is_absent, was_named, is_named}
use Rattle.paraid_txn.specs.Stores.{IsSameStore, store_out, store_rack}
use Rattle.paraid_txn.specs.Uses.{EachCall}
use Rattle.paraid_base.proofs.ToldLemmas.{HasRisen-later, HasRisen-sooner}
use Rattle.paraid_txn.proofs.MeansLemmas.{absent_power}
use Rattle.paraid_recover.specs.Powers.{ArePowered, HasPowered, HasChangedPower, IsPowered, IsPowerCall, IsPowerChanged, is_to_spin}
use Rattle.paraid_recover.proofs.BeginsLemmas.{first_absent_by}

each_append : (u : Call → Type 0) (s : Disks) (cs ds : List Call) → EachCall u s cs → EachCall u (run s cs) ds → EachCall u s (cs ++ ds)
each_append u s [] ds first second = second
each_append u s (c ∷ cs) ds first second = (first.0, first.1, each_append u (step c s) cs ds first.2 second)

pub turned_same : (m : Meta) (d : ℕ) (s : Slot) → IsPowerChanged m d s s
turned_same m d s = record {
  later = omega arith;
  there = λ here. here;
  size = λ here. refl;
  unsynced = λ here. refl;
  risen = λ here gone. absurd (false≢true (sym gone ∙ here));
  still = λ out. refl;
}

pub turned_then : (m : Meta) (d : ℕ) (a b c : Slot) → IsPowerChanged m d a b → IsPowerChanged m d b c → IsPowerChanged m d a c
turned_then m d a b c first second = record {
  later = (let p = first.later in let q = second.later in omega arith);
  there = λ here. first.there (second.there here);
  size = λ here. second.size here ∙ first.size (second.there here);
  unsynced = λ here. second.unsynced here ∙ first.unsynced (second.there here);
  risen = λ here gone. split here gone (is_present b.power) refl;
  still = λ out. second.still out ∙ first.still out;
}
  where
    split : is_present a.power ≡ true → is_present c.power ≡ false → (x : Bool) → is_present b.power ≡ x → HasRisen a.faults c.faults
    split here gone true is = HasRisen-sooner a.faults b.faults c.faults first.later (second.risen is gone)
    split here gone false is = HasRisen-later a.faults b.faults c.faults (first.risen here is) second.later

-- who is out
module _ (power : ℕ → Power) (n : ℕ) (named : Option ℕ) where
  pub out_is : (e : ℕ) → or_else named (first_absent power n) ≡ Some e → IsOutOfCommit power n named None e
  out_is e is = split named refl is
    where
      split : (o : Option ℕ) → named ≡ o → or_else o (first_absent power n) ≡ Some e → IsOutOfCommit power n named None e
      split (Some d) was found = was_named (was ∙ found)
      split None was found = let gone = first_absent_is power n e found in is_absent gone.0 (absent_power (power e) gone.1)

  pub out_found : (d : ℕ) → IsOutOfCommit power n named None d → (e : ℕ) × (or_else named (first_absent power n) ≡ Some e)
  out_found d out = split named refl out
    where
      split : (o : Option ℕ) → named ≡ o → IsOutOfCommit power n named None d → (e : ℕ) × (or_else named (first_absent power n) ≡ Some e)
      split (Some e) was out = (e, ap (λ (o : Option ℕ). or_else o (first_absent power n)) was)
      split None was (is_absent low gone) =
          let f = first_absent_finds power n d low (ap is_present gone) in
          (f.0, ap (λ (o : Option ℕ). or_else o (first_absent power n)) was ∙ f.1)
      split None was (was_named is) = absurd (let z : None ≡ Some d = sym was ∙ is in cc)
      split None was (is_named is) = absurd (let z : None ≡ Some d = is in cc)

-- one call, or none
module _ {R : Type 0} {l : _} (g : Ghosts R) (m : Meta) (disk : ℕ) where
  pub turned_none : (s : Store R l) → IsPowered m (g.slot (store_rack s)) disk → HasChangedPower g m disk s s (Ok tt)
  turned_none s powered = record {
    slots = refl;
    same = record { disks = refl; epoch = refl; named = refl };
    others = λ d apart. refl;
    here = turned_same m disk (g.slot (store_rack s) disk);
    powered = powered;
    calls = Ran-none (EachCall (IsPowerCall m)) (λ s. tt) (g.told (store_rack s));
    kept = λ here. here;
    lost = tt;
    gone = tt;
    ends = Ran-none (λ s cs. EndsByLoss None cs) (λ s. refl) (g.told (store_rack s));
  }

  module _ (old new : Store R l) (call : Bool → Call) (power : Power) where
    abbrev a : ℕ → Slot
    a = g.slot (store_rack old)

    abbrev b : ℕ → Slot
    b = g.slot (store_rack new)

    there : (b disk).power ≡ Absent → is_present (b disk).power ≡ true → ⊥
    there gone here = false≢true (sym (ap is_present gone) ∙ here)

    here_is : (ok : Bool) → ChangesOneSlot a b disk (record (a disk) { power = power }) false ok → is_present (a disk).power ≡ true → is_present power ≡ true → named_out m.out ≢ Some disk
        → IsPowerChanged m disk (a disk) (b disk)
    here_is true touched was is not =
        let same = touched.done refl in
        record {
          later = (let e : (b disk).faults ≡ (a disk).faults = ap (λ (s : Slot). s.faults) same in omega arith);
          there = λ here. was;
          size = λ here. ap (λ (s : Slot). s.size) same;
          unsynced = λ here. ap (λ (s : Slot). s.unsynced) same;
          risen = λ here gone. absurd (false≢true (sym gone ∙ ap (λ (s : Slot). is_present s.power) same ∙ is));
          still = λ out. absurd (not out);
        }
    here_is false touched was is not = record {
      later = touched.later refl;
      there = λ here. was;
      size = λ here. absurd (there (touched.absent refl) here);
      unsynced = λ here. absurd (there (touched.absent refl) here);
      risen = λ here gone. touched.risen refl;
      still = λ out. absurd (not out);
    }

    power_is : (ok : Bool) → ChangesOneSlot a b disk (record (a disk) { power = power }) false ok → power ≡ power_by_gear m.gear m.phase disk → IsPowered m b disk
    power_is true touched wanted not here = ap (λ (s : Slot). s.power) (touched.done refl) ∙ wanted
    power_is false touched wanted not here = absurd (there (touched.absent refl) here)

    kept_is : (result : Result (Unit {0}) Lost) → ChangesOneSlot a b disk (record (a disk) { power = power }) false (is_ok result) → is_present power ≡ true
        → OnOk result (is_present (a disk).power ≡ true → is_present (b disk).power ≡ true)
    kept_is (Ok it) touched is = λ was. ap (λ (s : Slot). is_present s.power) (touched.done refl) ∙ is
    kept_is (Err x) touched is = tt

    gone_is : (result : Result (Unit {0}) Lost) → ChangesOneSlot a b disk (record (a disk) { power = power }) false (is_ok result) → is_present (a disk).power ≡ true
        → IfErr result (λ lost. IsGoneSince a b disk)
    gone_is (Ok it) touched was = tt
    gone_is (Err x) touched was = record { there = was; absent = touched.absent refl }

    -- a call that failed is the last
    ends_is : (result : Result (Unit {0}) Lost) → is_done (call (is_ok result)) ≡ is_ok result → disk_of (call (is_ok result)) ≡ disk → EndsByLoss (if is_ok result then None else Some disk) (call (is_ok result) ∷ [])
    ends_is (Ok it) does at = rw does refl
    ends_is (Err x) does at = loss_failed disk (call false) does at

    pub turned_call : (result : Result (Unit {0}) Lost) → g.slot_count (store_rack new) ≡ g.slot_count (store_rack old) → IsSameStore old new
        → ChangesOneSlot a b disk (record (a disk) { power = power }) false (is_ok result) → GrowsByCall (g.told (store_rack old)) (g.told (store_rack new)) (call (is_ok result))
        → ((done : Bool) → IsPowerCall m (call done)) → ((done : Bool) → (is_done (call done) ≡ done) × (disk_of (call done) ≡ disk)) → ((s : Trail) (done : Bool) → g.told (store_rack old) ≡ Some s → IsLawful (now s) (call done))
        → is_present (a disk).power ≡ true → is_present power ≡ true → power ≡ power_by_gear m.gear m.phase disk → named_out m.out ≢ Some disk
        → IfErr result (IsLostBy (store_out g.slot old) disk a b) → HasChangedPower g m disk old new result
    turned_call result slots same touched grows turn on lawful was is wanted not lost = record {
      slots = slots;
      same = same;
      others = touched.others;
      here = here_is (is_ok result) touched was is not;
      powered = power_is (is_ok result) touched wanted;
      calls = Ran-call (EachCall (IsPowerCall m)) (g.told (store_rack old)) (g.told (store_rack new)) (call (is_ok result)) grows (λ s tells. (lawful s (is_ok result) tells, turn (is_ok result), tt));
      kept = kept_is result touched is;
      lost = lost;
      gone = gone_is result touched was;
      ends = Ran-call (λ s cs. EndsByLoss (if is_ok result then None else Some disk) cs) (g.told (store_rack old)) (g.told (store_rack new)) (call (is_ok result)) grows (λ s tells. ends_is result (on (is_ok result)).0 (on (is_ok result)).1);
    }

  -- a failure is borne, or two are down
  module _ (old new : Store R l) (low : disk < m.setup.geometry.disks) (disks : old.disks ≡ m.setup.geometry.disks) (named : old.named ≡ named_out m.out) where
    abbrev n : ℕ
    n = m.setup.geometry.disks

    abbrev p : ℕ → Power
    p d = (g.slot (store_rack old) d).power

    abbrev q : ℕ → Power
    q d = (g.slot (store_rack new) d).power

    -- the disk that is out, by the meta and by the store
    out_by : (power : ℕ → Power) → or_else old.named (first_absent power old.disks) ≡ or_else (named_out m.out) (first_absent power n)
    out_by power = rw (disks, named) refl

    out_now : IsSameStore old new → store_out g.slot new ≡ or_else old.named (first_absent q old.disks)
    out_now same = ap (λ (o : Option ℕ). or_else o (first_absent q new.disks)) same.named ∙ ap (λ (k : ℕ). or_else old.named (first_absent q k)) same.disks

    -- each other disk is there if it was
    others_there : (result : Result (Unit {0}) Lost) → HasChangedPower g m disk old new result → (d : ℕ) → d ≢ disk → is_present (q d) ≡ is_present (p d)
    others_there result t d apart = ap (λ (s : Slot). is_present s.power) (t.others d apart)

    still_out : (result : Result (Unit {0}) Lost) → HasChangedPower g m disk old new result → (d : ℕ) → d ≢ disk → IsOutOfCommit q n (named_out m.out) None d → IsOutOfCommit p n (named_out m.out) None d
    still_out result t d apart (is_absent below gone) = is_absent below (sym (ap (λ (s : Slot). s.power) (t.others d apart)) ∙ gone)
    still_out result t d apart (was_named is) = was_named is
    still_out result t d apart (is_named is) = is_named is

    pub powered_ok : HasChangedPower g m disk old new (Ok tt) → HasPowered g m disk old new (Ok tt)
    powered_ok t = record {
      slots = t.slots;
      same = t.same;
      others = t.others;
      here = t.here;
      powered = t.powered;
      calls = t.calls;
      one = λ one d e x y. one d e (was d x) (was e y);
      two = tt;
      gone = tt;
      order = subst (λ (o : Option ℕ). Ran (g.told (store_rack old)) (g.told (store_rack new)) (λ s cs. BearsLoss (store_out g.slot old) o cs)) (sym still)
          (ran_says (EndsByLoss None) (BearsLoss (store_out g.slot old) (store_out g.slot old)) (λ cs none. bears_unhurt (store_out g.slot old) cs none) (g.told (store_rack old)) (g.told (store_rack new)) t.ends);
    }
      where
        split : (d : ℕ) → d ≡ disk → IsOutOfCommit q n (named_out m.out) None d → (x : Bool) → is_present (p disk) ≡ x → IsOutOfCommit p n (named_out m.out) None d
        split d is (is_absent below gone) true here = absurd (false≢true (sym (ap (λ (k : ℕ). is_present (q k)) (sym is) ∙ ap is_present gone) ∙ t.kept here))
        split d is (is_absent below gone) false off = is_absent below (ap p is ∙ absent_power (p disk) off)
        split d is (was_named name) x here = was_named name
        split d is (is_named name) x here = is_named name

        was : (d : ℕ) → IsOutOfCommit q n (named_out m.out) None d → IsOutOfCommit p n (named_out m.out) None d
        was d x = elim (cases_eq d disk) [ inl is ↦ split d is x (is_present (p disk)) refl | inr apart ↦ still_out (Ok tt) t d apart x ]

        there : (x : Bool) → is_present (p disk) ≡ x → (y : Bool) → is_present (q disk) ≡ y → is_present (q disk) ≡ is_present (p disk)
        there true here y is = t.kept here ∙ sym here
        there false off true is = absurd (false≢true (sym off ∙ t.here.there is))
        there false off false is = is ∙ sym off

        still : store_out g.slot new ≡ store_out g.slot old
        still = out_now t.same ∙ ap (λ (f : Option ℕ). or_else old.named f) (first_absent_by p q old.disks (λ e lt. elim (cases_eq e disk) [
          | inl is ↦ subst (λ (k : ℕ). is_present (q k) ≡ is_present (p k)) (sym is) (there (is_present (p disk)) refl (is_present (q disk)) refl)
          | inr apart ↦ others_there (Ok tt) t e apart
        ]))

    pub powered_one : (lost : ℕ) → HasChangedPower g m disk old new (Err (LostOne lost)) → HasPowered g m disk old new (Ok tt)
    powered_one lost t = record {
      slots = t.slots;
      same = t.same;
      others = t.others;
      here = t.here;
      powered = t.powered;
      calls = t.calls;
      one = λ one d e x y. is one d x ∙ sym (is one e y);
      two = tt;
      gone = tt;
      order = ran_says (EndsByFailure disk) (BearsLoss (store_out g.slot old) (store_out g.slot new)) (λ cs e. borne cs e) (g.told (store_rack old)) (g.told (store_rack new)) t.ends;
    }
      where
        is : IsOneOut n (named_out m.out) (g.slot (store_rack old)) → (d : ℕ) → IsOutOfCommit q n (named_out m.out) None d → d ≡ disk
        is one d x = elim (cases_eq d disk) [
          | inl same ↦ same
          | inr apart ↦
              let was = still_out (Err (LostOne lost)) t d apart x in
              let found = out_found p n (named_out m.out) d was in
              let first = t.lost.2 found.0 (out_by p ∙ found.1) in
              one d found.0 was (out_is p n (named_out m.out) found.0 found.1) ∙ first
        ]

        -- the disk that failed is out then
        out : (o : Option ℕ) → old.named ≡ o → (e : ℕ) → first_absent q old.disks ≡ Some e → or_else o (first_absent q old.disks) ≡ Some disk
        out (Some x) name e is = ap (λ (k : ℕ). Some k) (t.lost.2 x (ap (λ (o : Option ℕ). or_else o (first_absent p old.disks)) name))
        out None name e is = elim (cases_eq e disk) [
          | inl same ↦ is ∙ ap (λ (k : ℕ). Some k) same
          | inr apart ↦
              let gone = first_absent_is q old.disks e is in
              let before = first_absent_finds p old.disks e gone.0 (sym (others_there (Err (LostOne lost)) t e apart) ∙ gone.1) in
              let first = t.lost.2 before.0 (ap (λ (o : Option ℕ). or_else o (first_absent p old.disks)) name ∙ before.1) in
              absurd (false≢true (sym (first_absent_is p old.disks before.0 before.1).1 ∙ ap (λ (k : ℕ). is_present (p k)) first ∙ t.gone.there))
        ]

        now_out : store_out g.slot new ≡ Some disk
        now_out =
            let found = first_absent_finds q old.disks disk (let d = disks in omega arith) (ap is_present t.gone.absent) in
            out_now t.same ∙ out old.named refl found.0 found.1

        borne : (cs : List Call) → EndsByFailure disk cs → BearsLoss (store_out g.slot old) (store_out g.slot new) cs
        borne cs e =
            let b = bears_ending (Some disk) cs e in
            record {
              first = λ none. b.first refl ∙ sym now_out;
              stays = λ d was. now_out ∙ ap (λ (k : ℕ). Some k) (sym (t.lost.2 d was));
              only = λ d fails. now_out ∙ b.only d fails;
            }

    pub powered_two : (two : Two) → HasChangedPower g m disk old new (Err (LostTwo two)) → HasPowered g m disk old new (Err two)
    powered_two two t = record {
      slots = t.slots;
      same = t.same;
      others = t.others;
      here = t.here;
      powered = t.powered;
      calls = t.calls;
      one = tt;
      two = record {
        first = inl (out_is p n (named_out m.out) two.first (sym (out_by p) ∙ t.lost.2));
        apart = λ is. t.lost.3 (is ∙ t.lost.0);
        second = subst (λ (k : ℕ). HasRisen (g.slot (store_rack old) k).faults (g.slot (store_rack new) k).faults) (sym t.lost.0) t.lost.1;
      };
      gone = record {
        first = inl (out_is p n (named_out m.out) two.first (sym (out_by p) ∙ t.lost.2));
        second = subst (IsGoneSince (g.slot (store_rack old)) (g.slot (store_rack new))) (sym t.lost.0) t.gone;
      };
      order = ran_beside (store_out g.slot old) two (g.told (store_rack old)) (g.told (store_rack new)) t.lost.2 (λ is. t.lost.3 (is ∙ t.lost.0))
          (subst (λ (k : ℕ). Ran (g.told (store_rack old)) (g.told (store_rack new)) (λ s cs. EndsByFailure k cs)) (sym t.lost.0) t.ends);
    }

-- some disks, one after the other
module _ {R : Type 0} {l : _} (g : Ghosts R) (m : Meta) where
  pub powers_none : (s : Store R l) → ArePowered g m 0 s s (Ok tt)
  powers_none s = record {
    slots = refl;
    same = record { disks = refl; epoch = refl; named = refl };
    turned = λ d. turned_same m d (g.slot (store_rack s) d);
    rest = λ d le. refl;
    powered = λ d lt. absurd (omega arith);
    calls = Ran-none (EachCall (IsPowerCall m)) (λ s. tt) (g.told (store_rack s));
    one = λ one. one;
    two = tt;
    gone = tt;
    order = Ran-none (λ c cs. BearsLoss (store_out g.slot s) (store_out g.slot s) cs) (λ c. bears_none (store_out g.slot s)) (g.told (store_rack s));
  }

  module _ (k : ℕ) (a b c : Store R l) where
    abbrev x : ℕ → Slot
    x = g.slot (store_rack a)

    abbrev y : ℕ → Slot
    y = g.slot (store_rack b)

    abbrev z : ℕ → Slot
    z = g.slot (store_rack c)

    same_then : IsSameStore a b → IsSameStore b c → IsSameStore a c
    same_then p q = record { disks = q.disks ∙ p.disks; epoch = q.epoch ∙ p.epoch; named = q.named ∙ p.named }

    turned_on : (r : Result (Unit {0}) Two) → ArePowered g m k a b (Ok tt) → HasPowered g m k b c r → (d : ℕ) → IsPowerChanged m d (x d) (z d)
    turned_on r p q d = elim (cases_eq d k) [
      | inl is ↦ subst (λ (e : ℕ). IsPowerChanged m e (x e) (z e)) (sym is) (turned_then m k (x k) (y k) (z k) (p.turned k) q.here)
      | inr apart ↦ subst (λ (s : Slot). IsPowerChanged m d (x d) s) (sym (q.others d apart)) (p.turned d)
    ]

    calls_on : (r : Result (Unit {0}) Two) → ArePowered g m k a b (Ok tt) → HasPowered g m k b c r → Ran (g.told (store_rack a)) (g.told (store_rack c)) (EachCall (IsPowerCall m))
    calls_on r p q = Ran-then (EachCall (IsPowerCall m)) (each_append (IsPowerCall m)) (g.told (store_rack a)) (g.told (store_rack b)) (g.told (store_rack c)) p.calls q.calls

    pub powers_then : ArePowered g m k a b (Ok tt) → HasPowered g m k b c (Ok tt) → ArePowered g m (k + 1) a c (Ok tt)
    powers_then p q = record {
      slots = q.slots ∙ p.slots;
      same = same_then p.same q.same;
      turned = turned_on (Ok tt) p q;
      rest = λ d le. q.others d (λ is. absurd (omega arith)) ∙ p.rest d (omega arith);
      powered = λ d lt. elim (cases_eq d k) [
        | inl is ↦ subst (IsPowered m z) (sym is) q.powered
        | inr apart ↦ λ not here. ap (λ (s : Slot). s.power) (q.others d apart) ∙ p.powered d (omega arith) not (sym (ap (λ (s : Slot). is_present s.power) (q.others d apart)) ∙ here)
      ];
      calls = calls_on (Ok tt) p q;
      one = λ one. q.one (p.one one);
      two = tt;
      gone = tt;
      order = ran_bears (store_out g.slot a) (store_out g.slot b) (store_out g.slot c) (g.told (store_rack a)) (g.told (store_rack b)) (g.told (store_rack c)) p.order q.order;
    }

    was_out : ArePowered g m k a b (Ok tt) → (d : ℕ) → IsOutOfCommit (λ e. (y e).power) m.setup.geometry.disks (named_out m.out) None d
        → IsOutOfCommit (λ e. (x e).power) m.setup.geometry.disks (named_out m.out) None d ⊎ HasRisen (x d).faults (y d).faults
    was_out p d (was_named is) = inl (was_named is)
    was_out p d (is_named is) = inl (is_named is)
    was_out p d (is_absent low gone) = split (is_present (x d).power) refl
      where
        split : (t : Bool) → is_present (x d).power ≡ t → IsOutOfCommit (λ e. (x e).power) m.setup.geometry.disks (named_out m.out) None d ⊎ HasRisen (x d).faults (y d).faults
        split true here = inr ((p.turned d).risen here (ap is_present gone))
        split false off = inl (is_absent low (absent_power (x d).power off))

    pub powers_raised : (r : Result (Unit {0}) Two) (two : Two) → k < m.setup.geometry.disks → IsErrAnd r (λ t. t ≡ two) → ArePowered g m k a b (Ok tt) → HasPowered g m k b c (Err two)
        → ArePowered g m m.setup.geometry.disks a c r
    powers_raised (Ok it) two low is p q = absurd is
    powers_raised (Err t) two low is p q = record {
      slots = q.slots ∙ p.slots;
      same = same_then p.same q.same;
      turned = turned_on (Err two) p q;
      rest = λ d le. q.others d (λ is. absurd (omega arith)) ∙ p.rest d (omega arith);
      powered = tt;
      calls = calls_on (Err two) p q;
      one = tt;
      two = subst (AreTwoDownBeside (IsOutOfCommit (λ e. (x e).power) m.setup.geometry.disks (named_out m.out) None) x z) (sym is) (record {
        first = elim q.two.first [
          | inl out ↦ elim (was_out p two.first out) [
            | inl was ↦ inl was
            | inr risen ↦ inr (HasRisen-later _ _ _ risen (later two.first))
          ]
          | inr risen ↦ inr (HasRisen-sooner _ _ _ (p.turned two.first).later risen)
        ];
        apart = q.two.apart;
        second = HasRisen-sooner _ _ _ (p.turned two.second).later q.two.second;
      });
      gone = subst (AreGoneSince (IsOutOfCommit (λ e. (x e).power) m.setup.geometry.disks (named_out m.out) None) x z) (sym is) (record {
        first = elim q.gone.first [ inl out ↦ out_since out | inr gone ↦ inr (since two.first gone) ];
        second = since two.second q.gone.second;
      });
      order = subst (λ (x : Two). Ran (g.told (store_rack a)) (g.told (store_rack c)) (λ s cs. TellsLosses (store_out g.slot a) x cs)) (sym is)
          (ran_tells (store_out g.slot a) (store_out g.slot b) two (g.told (store_rack a)) (g.told (store_rack b)) (g.told (store_rack c)) p.order q.order);
    }
      where
        since : (d : ℕ) → IsGoneSince y z d → IsGoneSince x z d
        since d gone = record { there = (p.turned d).there gone.there; absent = gone.absent }

        there : (d : ℕ) → is_present (z d).power ≡ true → is_present (y d).power ≡ true
        there d here = elim (cases_eq d k) [
          | inl is ↦ subst (λ (e : ℕ). is_present (y e).power ≡ true) (sym is) (q.here.there (subst (λ (e : ℕ). is_present (z e).power ≡ true) is here))
          | inr apart ↦ sym (ap (λ (s : Slot). is_present s.power) (q.others d apart)) ∙ here
        ]

        out_since : IsOutOfCommit (λ e. (y e).power) m.setup.geometry.disks (named_out m.out) None two.first
            → IsOutOfCommit (λ e. (x e).power) m.setup.geometry.disks (named_out m.out) None two.first ⊎ IsGoneSince x z two.first
        out_since (was_named name) = inl (was_named name)
        out_since (is_named name) = inl (is_named name)
        out_since (is_absent below gone) = split (is_present (x two.first).power) refl (is_present (z two.first).power) refl
          where
            split : (t : Bool) → is_present (x two.first).power ≡ t → (u : Bool) → is_present (z two.first).power ≡ u
                → IsOutOfCommit (λ e. (x e).power) m.setup.geometry.disks (named_out m.out) None two.first ⊎ IsGoneSince x z two.first
            split false off u still = inl (is_absent below (absent_power (x two.first).power off))
            split true here false off = inr (record { there = here; absent = absent_power (z two.first).power off })
            split true here true still = absurd (false≢true (sym (ap is_present gone) ∙ there two.first still))

        later : (d : ℕ) → (y d).faults ≤ (z d).faults
        later d = elim (cases_eq d k) [
          | inl is ↦ subst (λ (e : ℕ). (y e).faults ≤ (z e).faults) (sym is) q.here.later
          | inr apart ↦ (let e : (z d).faults ≡ (y d).faults = ap (λ (s : Slot). s.faults) (q.others d apart) in omega arith)
        ]

-- what the gear asks
pub to_spin_not : (m : Meta) (d : ℕ) → is_to_spin m d ≡ false → (m.gear ≤ d) × (rising_to m.phase ≤ d) × (Parked ≡ power_by_gear m.gear m.phase d)
to_spin_not m d is = (grind (arith, nat_tests), grind (arith, nat_tests), sym (ap (λ (b : Bool). if b then Spinning else Parked) is))

pub to_spin_up : (m : Meta) (d : ℕ) → is_to_spin m d ≡ true → m.gear ≤ d → (d < rising_to m.phase) × (Spinning ≡ power_by_gear m.gear m.phase d)
to_spin_up m d is high = (grind (arith, nat_tests), sym (ap (λ (b : Bool). if b then Spinning else Parked) is))

pub to_spin_is : (m : Meta) (d : ℕ) → is_to_spin m d ≡ true → Spinning ≡ power_by_gear m.gear m.phase d
to_spin_is m d is = sym (ap (λ (b : Bool). if b then Spinning else Parked) is)

-- a disk of which nothing is unsynced has no loose block
pub none_loose : (s : Disks) (slot : ℕ → Slot) (d : ℕ) → Agrees s slot → (slot d).unsynced ≡ false → (p : ℕ) → s.loose d p ≡ false
none_loose s slot d agrees synced p = split (s.loose d p) refl
  where
    split : (x : Bool) → s.loose d p ≡ x → s.loose d p ≡ false
    split true is = absurd (false≢true (sym synced ∙ agrees.loose d p is))
    split false is = is
