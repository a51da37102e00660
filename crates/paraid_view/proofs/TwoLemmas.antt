-- Reads in which two disks are down.
use Rattle.std.specs.Prelude.{◌≡◌, ◌≢◌, ℕ, true, ◌++◌, Option, Some, None}
use Rattle.std.proofs.Common.{refl, sym, ◌∙◌, ap, subst, arith, inl, inr}
use Rattle.std.proofs.lemmas.Bool.{false≢true}
use Rattle.paraid_base.specs.declared.fault.Two.{Two}
use Rattle.paraid_base.specs.Told.{HasRisen}
use Rattle.paraid_rack.specs.Disks.{is_present}
use Rattle.paraid_rack.specs.Slots.{Slot}
use Rattle.paraid_rack.specs.Told.{Ran}
use Rattle.paraid_rack.specs.Trail.{Trail}
use Rattle.paraid_txn.specs.declared.store.Store.{Store}
use Rattle.paraid_txn.specs.Losses.{StaySynced, OnlyLosesSlots}
use Rattle.paraid_txn.specs.Stores.{store_rack}
use Rattle.paraid_image.specs.Lost.{BearsLoss, EndsByLoss, TellsLosses}
use Rattle.paraid_image.proofs.CallLemmas.{decide_some}
use Rattle.paraid_image.proofs.LostLemmas.{bears_ending, bears_then, bears_unhurt, ran_beside, ran_parts, ran_says, tells_both}
use Rattle.paraid_view.specs.Reads.{AreLeft, AreArrayReads, HaveLostTwo, HaveRead, HaveReadOn}
use Rattle.paraid_view.proofs.ReadLemmas.{left_same, ran_then}

abbrev pub two_of : ℕ → ℕ → Two
two_of first second = record { first = first; second = second }

-- a disk that is there is as it was
pub left_there : (lost : Option ℕ) (a b : ℕ → Slot) (d : ℕ) → AreLeft lost a b → is_present (b d).power ≡ true → b d ≡ a d
left_there lost a b d left here = elim (decide_some lost d) [
  | inr not ↦ left.others d not
  | inl is ↦ absurd (false≢true (sym (ap is_present (left.failed d is).absent) ∙ here))
]

pub left_spared : (lost : Option ℕ) (a b : ℕ → Slot) → AreLeft lost a b → OnlyLosesSlots a b
left_spared lost a b left = record {
  power = λ d here. ap (λ (s : Slot). s.power) (left_there lost a b d left here);
  size = λ d here. ap (λ (s : Slot). s.size) (left_there lost a b d left here);
  no_fall = λ d. elim (decide_some lost d) [
    | inl is ↦ left.later d is
    | inr not ↦ let e : (b d).faults ≡ (a d).faults = ap (λ (s : Slot). s.faults) (left.others d not) in omega arith
  ];
}

pub spared_then : (a b c : ℕ → Slot) → OnlyLosesSlots a b → OnlyLosesSlots b c → OnlyLosesSlots a c
spared_then a b c first second = record {
  power = λ d here. second.power d here ∙ first.power d (ap is_present (sym (second.power d here)) ∙ here);
  size = λ d here. second.size d here ∙ first.size d (ap is_present (sym (second.power d here)) ∙ here);
  no_fall = λ d. let p = first.no_fall d in let q = second.no_fall d in omega arith;
}

pub left_synced : (lost : Option ℕ) (a b : ℕ → Slot) → AreLeft lost a b → StaySynced a b
left_synced lost a b left = λ d here loose. inl (ap (λ (s : Slot). s.unsynced) (sym (left_there lost a b d left here)) ∙ loose)

pub synced_then : (lost : Option ℕ) (a b c : ℕ → Slot) → StaySynced a b → AreLeft lost b c → StaySynced a c
synced_then lost a b c synced left = λ d here loose.
    let same = left_there lost b c d left here in
    synced d (ap (λ (s : Slot). is_present s.power) (sym same) ∙ here) (ap (λ (s : Slot). s.unsynced) (sym same) ∙ loose)

module _ {R : Type 0} {g : _} (count : R → ℕ) (slot : R → ℕ → Slot) (told : R → Option Trail) where
  -- a disk was out, and another fails
  pub two_beside : (n first e : ℕ) (out : Option ℕ) (a b : Store R g) → out ≡ Some first → first ≢ e → HaveRead count slot told n (Some e) a b
      → HaveLostTwo count slot told n out (two_of first e) a b
  two_beside n first e out a b is apart read = record {
    slots = read.slots;
    same = read.same;
    down = record { first = inl is; apart = apart; second = (read.left.failed e refl).risen };
    spared = left_spared (Some e) (slot (store_rack a)) (slot (store_rack b)) read.left;
    synced = left_synced (Some e) (slot (store_rack a)) (slot (store_rack b)) read.left;
    calls = read.calls;
    tells = ran_beside out (two_of first e) (told (store_rack a)) (told (store_rack b)) is apart read.ends;
  }

  -- one fails, and then another
  pub two_lost : (n k first e : ℕ) (out : Option ℕ) (a b c : Store R g) → out ≡ None → k ≡ n → first ≢ e → HaveRead count slot told n (Some first) a b → HaveRead count slot told k (Some e) b c
      → HaveLostTwo count slot told n out (two_of first e) a c
  two_lost n k first e out a b c none is apart one two = record {
    slots = two.slots ∙ one.slots;
    same = record { disks = two.same.disks ∙ one.same.disks; epoch = two.same.epoch ∙ one.same.epoch; named = two.same.named ∙ one.same.named };
    down = record {
      first = inr (subst (λ (s : Slot). HasRisen (slot (store_rack a) first).faults s.faults) (sym (two.left.others first (λ z. let y : Some e ≡ Some first = z in let x : first ≡ e = cc in apart x))) (one.left.failed first refl).risen);
      apart = apart;
      second = subst (λ (s : Slot). HasRisen s.faults (slot (store_rack c) e).faults) (one.left.others e (λ z. let y : Some first ≡ Some e = z in let x : first ≡ e = cc in apart x)) (two.left.failed e refl).risen;
    };
    spared = spared_then (slot (store_rack a)) (slot (store_rack b)) (slot (store_rack c)) (left_spared (Some first) (slot (store_rack a)) (slot (store_rack b)) one.left) (left_spared (Some e) (slot (store_rack b)) (slot (store_rack c)) two.left);
    synced = synced_then (Some e) (slot (store_rack a)) (slot (store_rack b)) (slot (store_rack c)) (left_synced (Some first) (slot (store_rack a)) (slot (store_rack b)) one.left) two.left;
    calls = ran_then (told (store_rack a)) (told (store_rack b)) (told (store_rack c)) n one.calls (subst (λ (m : ℕ). Ran (told (store_rack b)) (told (store_rack c)) (AreArrayReads m)) is two.calls);
    tells = ran_parts (EndsByLoss (Some first)) (EndsByLoss (Some e)) (TellsLosses out (two_of first e))
        (λ cs ds x y. subst (λ (o : Option ℕ). TellsLosses o (two_of first e) (cs ++ ds)) (sym none) (tells_both (two_of first e) cs ds apart x y))
        (told (store_rack a)) (told (store_rack b)) (told (store_rack c)) one.ends two.ends;
  }

  -- reads that need no other disk
  pub read_on : (n : ℕ) (a b : Store R g) → HaveRead count slot told n None a b → HaveReadOn count slot told n None a b
  read_on n a b read = record {
    slots = read.slots;
    same = read.same;
    left = read.left;
    calls = read.calls;
    borne = ran_says (EndsByLoss None) (BearsLoss None None) (λ cs none. bears_unhurt None cs none) (told (store_rack a)) (told (store_rack b)) read.ends;
  }

  -- one fails, and the rest is read without it
  pub read_beside : (n k e : ℕ) (a b c : Store R g) → k ≡ n → HaveRead count slot told n (Some e) a b → HaveRead count slot told k None b c → HaveReadOn count slot told n (Some e) a c
  read_beside n k e a b c is one two = record {
    slots = two.slots ∙ one.slots;
    same = record { disks = two.same.disks ∙ one.same.disks; epoch = two.same.epoch ∙ one.same.epoch; named = two.same.named ∙ one.same.named };
    left = subst (AreLeft (Some e) (slot (store_rack a))) (sym (left_same (slot (store_rack b)) (slot (store_rack c)) two.left)) one.left;
    calls = ran_then (told (store_rack a)) (told (store_rack b)) (told (store_rack c)) n one.calls (subst (λ (m : ℕ). Ran (told (store_rack b)) (told (store_rack c)) (AreArrayReads m)) is two.calls);
    borne = ran_parts (EndsByLoss (Some e)) (EndsByLoss None) (BearsLoss None (Some e))
        (λ cs ds x y. bears_then None (Some e) (Some e) cs ds (bears_ending (Some e) cs x) (bears_unhurt (Some e) ds y))
        (told (store_rack a)) (told (store_rack b)) (told (store_rack c)) one.ends two.ends;
  }
