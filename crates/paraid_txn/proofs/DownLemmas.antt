-- What calls of a commit, one after the other, leave of the slots, and why two disks are down.
use Rattle.std.proofs.Common.{◌≡◌, ◌≢◌, ℕ, ◌≤◌, ◌⊎◌, Bool, true, false, Option, Some, None, Result, Ok, Err, refl, sym, ◌∙◌, ap, subst, inl, inr, arith}
use Rattle.std.specs.Prelude.{IfErr, IsErrAnd}
use Rattle.std.proofs.lemmas.Bool.{true≢false}
use Rattle.paraid_base.specs.declared.fault.Two.{Two}
use Rattle.paraid_base.specs.Told.{HasRisen}
use Rattle.paraid_base.proofs.ToldLemmas.{HasRisen-later, HasRisen-sooner}
use Rattle.paraid_rack.specs.declared.call.Power.{Power}
use Rattle.paraid_rack.specs.declared.call.Power.TheVariants.{Absent, Parked, Spinning}
use Rattle.paraid_rack.specs.Disks.{is_present}
use Rattle.paraid_rack.specs.Slots.{Slot}
use Rattle.paraid_txn.specs.declared.losses.Losses.{Losses}
use Rattle.paraid_txn.specs.Losses.{StaySynced, StaySyncedBut, AreOthersWell, CanWrite, IsSyncedAt, AreTwoDown, AreCommitCalls}

-- no call
pub AreCommitCalls-none : (a : Losses) (s : ℕ → Slot) → AreCommitCalls a a s s
AreCommitCalls-none a s = record {
  power = λ d there. refl;
  size = λ d there. refl;
  no_fall = λ d. omega arith;
  each = λ d. inr (record { faults = refl; power = refl; size = refl });
  down = λ d is. inl is;
  remains = λ d is. is;
  stays = λ d is. is;
  lost = λ d is. inl is;
  absent = λ d is. inl is;
}

no_disk : (p : Power) → (is_present p ≡ true → ⊥) → p ≡ Absent
no_disk Absent not = refl
no_disk Parked not = absurd (not refl)
no_disk Spinning not = absurd (not refl)

-- a disk that is there after some calls was there before them
pub AreCommitCalls-present : (a b : Losses) (s t : ℕ → Slot) (d : ℕ) → AreCommitCalls a b s t
    → is_present (t d).power ≡ true → is_present (s d).power ≡ true
AreCommitCalls-present a b s t d lasts there = ap is_present (sym (lasts.power d there)) ∙ there

-- one that is absent stays so
pub AreCommitCalls-gone : (a b : Losses) (s t : ℕ → Slot) (d : ℕ) → AreCommitCalls a b s t → (s d).power ≡ Absent → (t d).power ≡ Absent
AreCommitCalls-gone a b s t d lasts gone = no_disk (t d).power (λ there. true≢false (sym (AreCommitCalls-present a b s t d lasts there) ∙ ap is_present gone))

-- one part after the other
pub AreCommitCalls-then : (a b c : Losses) (s t u : ℕ → Slot) → AreCommitCalls a b s t → AreCommitCalls b c t u → AreCommitCalls a c s u
AreCommitCalls-then a b c s t u first second = record {
  power = λ d there. second.power d there ∙ first.power d (AreCommitCalls-present b c t u d second there);
  size = λ d there. second.size d there ∙ first.size d (AreCommitCalls-present b c t u d second there);
  no_fall = λ d. (let before = first.no_fall d in let after = second.no_fall d in omega arith);
  each = λ d. elim (second.each d) [
    | inl risen ↦ inl (HasRisen-sooner (s d).faults (t d).faults (u d).faults (first.no_fall d) risen)
    | inr well ↦ elim (first.each d) [
      | inl risen ↦ inl (HasRisen-later (s d).faults (t d).faults (u d).faults risen (second.no_fall d))
      | inr was ↦ inr (record { faults = well.faults ∙ was.faults; power = well.power ∙ was.power; size = well.size ∙ was.size })
    ]
  ];
  remains = λ d is. second.remains d (first.remains d is);
  down = λ d is. elim (second.down d is) [
    | inl was ↦ elim (first.down d was) [ inl at_first ↦ inl at_first | inr lost ↦ inr (second.stays d lost) ]
    | inr lost ↦ inr lost
  ];
  stays = λ d is. second.stays d (first.stays d is);
  lost = λ d is. elim (second.lost d is) [
    | inl was ↦ elim (first.lost d was) [
      | inl at_first ↦ inl at_first
      | inr risen ↦ inr (HasRisen-later (s d).faults (t d).faults (u d).faults risen (second.no_fall d))
    ]
    | inr risen ↦ inr (HasRisen-sooner (s d).faults (t d).faults (u d).faults (first.no_fall d) risen)
  ];
  absent = λ d is. elim (second.absent d is) [
    | inr gone ↦ inr gone
    | inl was ↦ elim (first.absent d was) [
      | inl at_first ↦ inl at_first
      | inr gone ↦ inr (AreCommitCalls-gone b c t u d second gone)
    ]
  ];
}

-- where no disk was lost before, the count of a lost one has risen
pub AreCommitCalls-risen : (a b : Losses) (s t : ℕ → Slot) (d : ℕ) → AreCommitCalls a b s t → a.lost ≡ None → b.lost ≡ Some d
    → HasRisen (s d).faults (t d).faults
AreCommitCalls-risen a b s t d lasts none is = elim (lasts.lost d is) [
  | inl was ↦ (let never : None ≡ Some d = sym none ∙ was in cc)
  | inr risen ↦ risen
]

-- and it is absent
pub AreCommitCalls-absent : (a b : Losses) (s t : ℕ → Slot) (d : ℕ) → AreCommitCalls a b s t → a.lost ≡ None → b.lost ≡ Some d
    → (t d).power ≡ Absent
AreCommitCalls-absent a b s t d lasts none is = elim (lasts.absent d is) [
  | inl was ↦ (let never : None ≡ Some d = sym none ∙ was in cc)
  | inr gone ↦ gone
]

-- no call
pub AreOthersWell-none : (a : Losses) (s : ℕ → Slot) → AreOthersWell a s s
AreOthersWell-none a s = λ d not. record { faults = refl; power = refl; size = refl }

-- what was lost in the first part stays lost in the second
pub AreOthersWell-then : (a b c : Losses) (s t u : ℕ → Slot) → AreCommitCalls a b s t → AreCommitCalls b c t u → AreOthersWell b s t → AreOthersWell c t u
    → AreOthersWell c s u
AreOthersWell-then a b c s t u before lasts first second d not =
    let one = first d (λ is. not (lasts.stays d is)) in
    let two = second d not in
    record { faults = two.faults ∙ one.faults; power = two.power ∙ one.power; size = two.size ∙ one.size }

-- no call
pub StaySyncedBut-none : (may : ℕ → Type 0) (s : ℕ → Slot) → StaySyncedBut may s s
StaySyncedBut-none may s d there unsynced = inl unsynced

-- more disks may be written
pub StaySyncedBut-weaker : (may less : ℕ → Type 0) (s t : ℕ → Slot) → ((d : ℕ) → less d → may d) → StaySyncedBut less s t → StaySyncedBut may s t
StaySyncedBut-weaker may less s t more still_synced d there unsynced =
    elim (still_synced d there unsynced) [ inl was ↦ inl was | inr is ↦ inr (more d is) ]

-- what each of two parts may write
pub StaySyncedBut-then : (may later : ℕ → Type 0) (a b c : Losses) (s t u : ℕ → Slot) → AreCommitCalls a b s t → AreCommitCalls b c t u
    → StaySyncedBut may s t → StaySyncedBut later t u → StaySyncedBut (λ d. may d ⊎ later d) s u
StaySyncedBut-then may later a b c s t u before lasts first second d there unsynced = elim (second d there unsynced) [
  | inl was ↦ elim (first d (AreCommitCalls-present b c t u d lasts there) was) [ inl at_first ↦ inl at_first | inr is ↦ inr (inl is) ]
  | inr is ↦ inr (inr is)
]

-- two parts that may write the same disks
pub StaySyncedBut-both : (may : ℕ → Type 0) (a b c : Losses) (s t u : ℕ → Slot) → AreCommitCalls a b s t → AreCommitCalls b c t u
    → StaySyncedBut may s t → StaySyncedBut may t u → StaySyncedBut may s u
StaySyncedBut-both may a b c s t u before lasts first second d there unsynced = elim (second d there unsynced) [
  | inl was ↦ first d (AreCommitCalls-present b c t u d lasts there) was
  | inr is ↦ inr is
]

-- a second part that leaves no disk unsynced
pub StaySyncedBut-still_synced : (may : ℕ → Type 0) (a b c : Losses) (s t u : ℕ → Slot) → AreCommitCalls a b s t → AreCommitCalls b c t u
    → StaySyncedBut may s t → StaySynced t u → StaySyncedBut may s u
StaySyncedBut-still_synced may a b c s t u before lasts first second =
    StaySyncedBut-both may a b c s t u before lasts first (StaySyncedBut-weaker may (λ d. ⊥) t u (λ d none. absurd none) second)

-- each disk that the first part may have written is synced after the second, or may stay unsynced
pub StaySyncedBut-synced : (may still : ℕ → Type 0) (a b c : Losses) (s t u : ℕ → Slot) → AreCommitCalls a b s t → AreCommitCalls b c t u
    → StaySyncedBut may s t → StaySyncedBut still t u → ((d : ℕ) → may d → still d ⊎ IsSyncedAt u d) → StaySyncedBut still s u
StaySyncedBut-synced may still a b c s t u before lasts first second synced d there unsynced = elim (second d there unsynced) [
  | inl was ↦ elim (first d (AreCommitCalls-present b c t u d lasts there) was) [
    | inl at_first ↦ inl at_first
    | inr is ↦ elim (synced d is) [ inl may_stay ↦ inr may_stay | inr still_synced ↦ absurd (true≢false (sym unsynced ∙ still_synced there)) ]
  ]
  | inr is ↦ inr is
]

-- what is written on one disk, and then synced
pub StaySynced-synced : (skip : Option ℕ) (disk : ℕ) (a b c : Losses) (s t u : ℕ → Slot) → AreCommitCalls a b s t → AreCommitCalls b c t u
    → StaySyncedBut (λ d. (d ≡ disk) × (skip ≢ Some d)) s t → StaySynced t u → (skip ≢ Some disk → IsSyncedAt u disk) → StaySynced s u
StaySynced-synced skip disk a b c s t u before lasts first second synced =
    StaySyncedBut-synced (λ d. (d ≡ disk) × (skip ≢ Some d)) (λ d. ⊥) a b c s t u before lasts first second
    (λ d is. inr (subst (λ (k : ℕ). IsSyncedAt u k) (sym is.0) (synced (λ e. is.1 (e ∙ ap Some (sym is.0))))))

-- a synced disk stays so where no disk is left unsynced
pub IsSyncedAt-later : (b c : Losses) (t u : ℕ → Slot) (d : ℕ) → AreCommitCalls b c t u → StaySynced t u → IsSyncedAt t d → IsSyncedAt u d
IsSyncedAt-later b c t u d lasts still_synced synced there = split (u d).unsynced refl
  where
    split : (unsynced : Bool) → (u d).unsynced ≡ unsynced → unsynced ≡ false
    split false is = refl
    split true is = elim (still_synced d there is) [
      | inl was ↦ absurd (true≢false (sym was ∙ synced (AreCommitCalls-present b c t u d lasts there)))
      | inr none ↦ absurd none
    ]

-- a disk that can be written before some calls can be written after them
pub CanWrite-later : (a b : Losses) (s t : ℕ → Slot) (d p : ℕ) → AreCommitCalls a b s t → CanWrite s d p → CanWrite t d p
CanWrite-later a b s t d p lasts can = record {
  spins = λ there. lasts.power d there ∙ can.spins (AreCommitCalls-present a b s t d lasts there);
  within = λ there. (let same = lasts.size d there in let low = can.within (AreCommitCalls-present a b s t d lasts there) in omega arith);
}

-- a disk that can be written at a place can be written at any lower one
pub CanWrite-lower : (s : ℕ → Slot) (d p q : ℕ) → p ≤ q → CanWrite s d q → CanWrite s d p
CanWrite-lower s d p q below can = record {
  spins = can.spins;
  within = λ there. (let low = can.within there in omega arith);
}

-- a disk that is down in the second part was down before, or has failed in one of the parts
down_before : (a b c : Losses) (s t u : ℕ → Slot) (d : ℕ) → AreCommitCalls a b s t → AreCommitCalls b c t u
    → (b.down ≡ Some d) ⊎ HasRisen (t d).faults (u d).faults → (a.down ≡ Some d) ⊎ HasRisen (s d).faults (u d).faults
down_before a b c s t u d first second (inl is) = elim (first.down d is) [
  | inl was ↦ inl was
  | inr lost ↦ elim (first.lost d lost) [
    | inl was ↦ inl (a.agrees d was)
    | inr risen ↦ inr (HasRisen-later (s d).faults (t d).faults (u d).faults risen (second.no_fall d))
  ]
]
down_before a b c s t u d first second (inr risen) =
    inr (HasRisen-sooner (s d).faults (t d).faults (u d).faults (first.no_fall d) risen)

-- two disks are down in the second part, so they are in the whole
pub AreTwoDown-later : (a b c : Losses) (s t u : ℕ → Slot) (two : Two) → AreCommitCalls a b s t → AreCommitCalls b c t u → AreTwoDown b.down t u two
    → AreTwoDown a.down s u two
AreTwoDown-later a b c s t u two first second is = record {
  first = down_before a b c s t u two.first first second is.first;
  apart = is.apart;
  second = HasRisen-sooner (s two.second).faults (t two.second).faults (u two.second).faults (first.no_fall two.second) is.second;
}

-- two disks are down in the first part, so they are in the whole
pub AreTwoDown-first : (down : Option ℕ) (b c : Losses) (s t u : ℕ → Slot) (two : Two) → AreCommitCalls b c t u → AreTwoDown down s t two
    → AreTwoDown down s u two
AreTwoDown-first down b c s t u two second is = record {
  first = elim is.first [
    | inl was ↦ inl was
    | inr risen ↦ inr (HasRisen-later (s two.first).faults (t two.first).faults (u two.first).faults risen (second.no_fall two.first))
  ];
  apart = is.apart;
  second = HasRisen-later (s two.second).faults (t two.second).faults (u two.second).faults is.second (second.no_fall two.second);
}

-- the same where a `?` hands on the second part's error
pub IfErr-two-later : {A : Type 0} (r : Result A Two) (two : Two) (a b c : Losses) (s t u : ℕ → Slot) → IsErrAnd r (λ other. other ≡ two)
    → AreCommitCalls a b s t → AreCommitCalls b c t u → AreTwoDown b.down t u two → IfErr r (AreTwoDown a.down s u)
IfErr-two-later (Ok it) two a b c s t u is first second down = tt
IfErr-two-later (Err other) two a b c s t u is first second down =
    subst (AreTwoDown a.down s u) (sym is) (AreTwoDown-later a b c s t u two first second down)
