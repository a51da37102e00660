-- What the last line of a halt tells: two disks, of which the second has failed, or wear.
use Rattle.std.proofs.Common.{◌≡◌, ℕ, ◌<◌, ◌≤◌, ◌⊎◌, List, ◌++◌, length, Option, Some, None, inl, inr, refl, sym, ◌∙◌, arith, subst}
use Rattle.std.proofs.lemmas.List.{take_all}
use Rattle.paraid_base.specs.declared.event.Event.{Event}
use Rattle.paraid_base.specs.declared.fault.Halt.{Halt}
use Rattle.paraid_base.specs.declared.fault.Halt.TheVariants.{Two as HaltTwo, Worn}
use Rattle.paraid_base.specs.Told.{GrowsByBytes}
use Rattle.paraid_base.proofs.ToldLemmas.{GrowsByBytes-then}
use Rattle.paraid_serve.specs.Ending.{EndsWithLine, halt_line, status_of_halt}
use Rattle.paraid_rack.specs.Slots.{Slot}
use Rattle.paraid_session.specs.Faults.{HaveNotFallen}
use Rattle.paraid_session.proofs.FaultLemmas.{counts_then, rose_later, same_counts}
use Rattle.paraid_serve.specs.Lost.{HaltsBySecondLoss, HaltsByTwoLost, HaltsByWear, HasServedSince, NamesTwoLost, TellsWear}

none_some : (h : Halt) → None ≡ Some h → ⊥
none_some h e = cc

-- no event yet
pub no_event_yet : (slot : ℕ → Slot) (halt : Option Halt) → halt ≡ None → HasServedSince slot slot halt
no_event_yet slot halt none = record {
  later = same_counts slot;
  lost = λ two is. absurd (none_some (HaltTwo two) (sym none ∙ is));
}

-- an event more
pub served_more : (start old new : ℕ → Slot) (was halt : Option Halt) (down : Option ℕ) (event : Event) → HaltsByTwoLost down event old new halt → HaveNotFallen old new
    → HasServedSince start old was → HasServedSince start new halt
served_more start old new was halt down event by later s = record {
  later = counts_then start old new s.later later;
  lost = λ two is.
      let lost = by two is in
      record { apart = lost.apart; second = rose_later (start two.second).faults (old two.second).faults (new two.second).faults (s.later two.second) lost.second };
}

-- a line that was told with a status above 4 was written whole, and the status is its own
all_written : (status code n m : ℕ) → (status ≡ 4) ⊎ ((n ≡ m) × (status ≡ code)) → 4 < status → m ≤ n
all_written status code n m (inl four) high = omega (arith, four, high)
all_written status code n m (inr all) high = omega (arith, all.0)

its_code : (status code n m : ℕ) → (status ≡ 4) ⊎ ((n ≡ m) × (status ≡ code)) → 4 < status → status ≡ code
its_code status code n m (inl four) high = absurd (omega (arith, four, high))
its_code status code n m (inr all) high = all.1

module _ (halt : Halt) (first before after : Option (List ℕ)) (text : List ℕ) (status : ℕ) (grows : GrowsByBytes first before text) (end : EndsWithLine before after (halt_line halt) (status_of_halt halt) status) where
  told_whole : 4 < status → GrowsByBytes first after (text ++ halt_line halt)
  told_whole high = GrowsByBytes-then first before after text (halt_line halt) grows
      (subst (λ (x : List ℕ). GrowsByBytes before after x) (take_all end.count (halt_line halt) (all_written status (status_of_halt halt) end.count (length (halt_line halt)) end.whole high)) end.grows)

  told_code : 4 < status → status ≡ status_of_halt halt
  told_code high = its_code status (status_of_halt halt) end.count (length (halt_line halt)) end.whole high

-- at status 5 the halt that is told names two disks, and is told whole
pub names_two : (old new : ℕ → Slot) (halt : Halt) (first before after : Option (List ℕ)) (text : List ℕ) (status : ℕ) → HaltsBySecondLoss old new (Some halt)
    → GrowsByBytes first before text → EndsWithLine before after (halt_line halt) (status_of_halt halt) status → status ≡ 5 → NamesTwoLost old new first after
names_two old new (HaltTwo two) first before after text status lost grows end five = record {
  two = two;
  lost = lost two refl;
  text = text;
  line = told_whole (HaltTwo two) first before after text status grows end (omega (arith, five));
}
names_two old new (Worn count) first before after text status lost grows end five = absurd (let e = told_code (Worn count) first before after text status grows end (omega (arith, five)) in omega (arith, five, e))

-- and of these the second has failed since any slots before, if no count fell up to where it began
pub names_since : (old mid new : ℕ → Slot) (first after : Option (List ℕ)) → HaveNotFallen old mid → NamesTwoLost mid new first after → NamesTwoLost old new first after
names_since old mid new first after later n = record {
  two = n.two;
  lost = record { apart = n.lost.apart; second = rose_later (old n.two.second).faults (mid n.two.second).faults (new n.two.second).faults (later n.two.second) n.lost.second };
  text = n.text;
  line = n.line;
}

-- at 12 it tells wear, and is told whole
pub tells_wear : (halt : Halt) (first before after : Option (List ℕ)) (text : List ℕ) (status : ℕ) → HaltsByWear (Some halt)
    → GrowsByBytes first before text → EndsWithLine before after (halt_line halt) (status_of_halt halt) status → status ≡ 12 → TellsWear first after
tells_wear (Worn count) first before after text status worn grows end twelve = record {
  count = count;
  many = worn count refl;
  text = text;
  line = told_whole (Worn count) first before after text status grows end (omega (arith, twelve));
}
tells_wear (HaltTwo two) first before after text status worn grows end twelve = absurd (let e = told_code (HaltTwo two) first before after text status grows end (omega (arith, twelve)) in omega (arith, twelve, e))
