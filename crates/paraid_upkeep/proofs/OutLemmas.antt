-- What is known of the disk that is out.
use Rattle.std.specs.Prelude.{◌≡◌, ℕ, ◌≤◌, ◌⊎◌, Bool, true, false, Option, Some, None, if◌then◌else◌}
use Rattle.std.proofs.Common.{refl, sym, ◌∙◌, ap, subst, inl, inr}
use Rattle.paraid_base.specs.declared.fault.Two.{Two}
use Rattle.paraid_base.specs.declared.state.Out.{Out}
use Rattle.paraid_base.specs.declared.state.Out.TheVariants.{Fresh, Gone, No}
use Rattle.paraid_base.specs.declared.state.Phase.{Phase}
use Rattle.paraid_base.specs.declared.state.Phase.TheVariants.{Down as DownPhase, Steady, Up as UpPhase}
use Rattle.paraid_image.specs.Mark.{meta_after_loss, meta_with_lost}
use Rattle.paraid_base.specs.States.{gone_out, phase_beside, rebuilt_count}
use Rattle.paraid_base.specs.Told.{HasRisen}
use Rattle.paraid_base.proofs.ToldLemmas.{HasRisen-later, HasRisen-sooner}
use Rattle.paraid_rack.specs.declared.call.Power.TheVariants.{Spinning}
use Rattle.paraid_rack.specs.Disks.{is_present}
use Rattle.paraid_rack.specs.Slots.{Slot}
use Rattle.paraid_record.specs.declared.meta.Meta.{Meta}
use Rattle.paraid_image.specs.Out.{named_out, or_else}
use Rattle.paraid_txn.specs.Losses.{AreTwoDown, AreTwoDownBeside, OnlyLosesSlots}
use Rattle.paraid_txn.specs.Stores.{named_of, store_rack}
use Rattle.paraid_core.specs.declared.staged.Core.{Core}
use Rattle.paraid_core.specs.Cores.{IsCoreReady, core_down}
use Rattle.paraid_core.specs.Down.{IsDownAfter}
use Rattle.paraid_core.specs.Lost.{CoreMarksLost}
use Rattle.paraid_core.specs.Steps.{IsMarkedFrom, IsNamedOrAbsent}
use Rattle.paraid_core.specs.Units.{IsRebuilding}
use Rattle.paraid_event.specs.CoreServing.{LeavesArray}
use Rattle.paraid_event.proofs.CoreServingLemmas.{none_away, none_known, turns_lost}
use Rattle.paraid_upkeep.specs.Service.{IsOutKnown}

-- a disk that is gone is not being rebuilt
gone_not_fresh : {A : Type 0} (m : Meta) (e d : ℕ) → m.out ≡ Gone e → IsRebuilding m d → A
gone_not_fresh m e d gone fresh =
    let z : Some e ≡ None = sym (ap gone_out gone) ∙ ap gone_out fresh in
    absurd cc

module _ {R : Type 0} {g : _} (slot : R → ℕ → Slot) where
  -- no disk is out
  pub known_whole : (b : Core R g) → b.meta.out ≡ No → IsOutKnown slot b
  known_whole b whole = record {
    absent = none_away slot b whole;
    named = λ d fresh. none_known b.meta whole d (ap named_out fresh);
    spins = λ d fresh. none_known b.meta whole d (ap named_out fresh);
  }

  -- the disk that is out is gone
  pub known_gone : (b : Core R g) (e : ℕ) → b.meta.out ≡ Gone e → IsNamedOrAbsent slot b → IsOutKnown slot b
  known_gone b e gone absent = record {
    absent = absent;
    named = λ d fresh. gone_not_fresh b.meta e d gone fresh;
    spins = λ d fresh. gone_not_fresh b.meta e d gone fresh;
  }

  -- it is being rebuilt
  pub known_fresh : (b : Core R g) (e : ℕ) → named_out b.meta.out ≡ Some e → named_of b.store ≡ Some e → (slot (store_rack b.store) e).power ≡ Spinning → IsOutKnown slot b
  known_fresh b e out named spins = record {
    absent = λ d is. inl (named ∙ sym out ∙ is);
    named = λ d fresh. named ∙ sym out ∙ ap named_out fresh;
    spins = λ d fresh. let same : Some e ≡ Some d = sym out ∙ ap named_out fresh in
        let is : e ≡ d = cc in subst (λ (x : ℕ). (slot (store_rack b.store) x).power ≡ Spinning) is spins;
  }

  -- after a call in which a disk may be lost
  module _ (a b : Core R g) (flag : Bool) (k : IsOutKnown slot a) (marks : CoreMarksLost slot a b) (names : named_of b.store ≡ (if flag then named_out a.meta.out else named_of a.store)) where
    named_then : (d : ℕ) → named_out a.meta.out ≡ Some d → named_of a.store ≡ Some d → named_of b.store ≡ Some d
    named_then d out was = names ∙ by flag
      where
        by : (f : Bool) → (if f then named_out a.meta.out else named_of a.store) ≡ Some d
        by true = out
        by false = was

    out_kept : (o : Option ℕ) → marks.lost ≡ o → b.meta.out ≡ (meta_with_lost o a.meta).out
    out_kept o e = ap (λ (z : Meta). z.out) marks.is ∙ ap (λ (o : Option ℕ). (meta_with_lost o a.meta).out) e

    well : (d : ℕ) → marks.lost ≡ None → (slot (store_rack b.store) d).power ≡ (slot (store_rack a.store) d).power
    well d e = (marks.others d (λ is. let z : None ≡ Some d = sym e ∙ is in cc)).power

    absent_then : IsNamedOrAbsent slot b
    absent_then x is = by marks.lost refl
      where
        by : (o : Option ℕ) → marks.lost ≡ o → (named_of b.store ≡ Some x) ⊎ (is_present (slot (store_rack b.store) x).power ≡ false)
        by (Some d) e =
            let z : Some d ≡ Some x = sym (ap named_out (out_kept (Some d) e)) ∙ is in
            let same : d ≡ x = cc in
            inr (subst (λ (y : ℕ). is_present (slot (store_rack b.store) y).power ≡ false) same (ap is_present (marks.failed d e).absent))
        by None e =
            let was : named_out a.meta.out ≡ Some x = sym (ap named_out (out_kept None e)) ∙ is in
            elim (k.absent x was) [
              | inl named ↦ inl (named_then x was named)
              | inr away ↦ inr (ap is_present (well x e) ∙ away)
            ]

    fresh_then : (d : ℕ) → IsRebuilding b.meta d → (marks.lost ≡ None) × IsRebuilding a.meta d
    fresh_then d fresh = by marks.lost refl
      where
        by : (o : Option ℕ) → marks.lost ≡ o → (marks.lost ≡ None) × IsRebuilding a.meta d
        by (Some x) e = gone_not_fresh b.meta x d (out_kept (Some x) e) fresh
        by None e = (e, subst (λ (o : Out). o ≡ Fresh d (rebuilt_count o)) (out_kept None e) fresh)

    pub known_then : IsOutKnown slot b
    known_then = record {
      absent = absent_then;
      named = λ d fresh. let was = (fresh_then d fresh).1 in named_then d (ap named_out was) (k.named d was);
      spins = λ d fresh. let was = fresh_then d fresh in well d was.0 ∙ k.spins d was.1;
    }

-- by the marks of a commit a disk that is gone stays gone
pub gone_marked : (m n : Meta) (disk : ℕ) → m.out ≡ Gone disk → IsMarkedFrom m n → n.out ≡ Gone disk
gone_marked m n disk gone marked = by marked.lost refl
  where
    by : (o : Option ℕ) → marked.lost ≡ o → n.out ≡ Gone disk
    by None e = ap (λ (z : Meta). z.out) (marked.is ∙ ap (λ (o : Option ℕ). meta_with_lost o m) e) ∙ gone
    by (Some d) e =
        ap (λ (z : Meta). z.out) (marked.is ∙ ap (λ (o : Option ℕ). meta_with_lost o m) e) ∙ ap Gone (sym (marked.alone d disk e (ap named_out gone)))

-- the first of two disks may be the one that was taken out
pub two_taken : {R : Type 0} {g : _} (slot : R → ℕ → Slot) (a m new : Core R g) (disk : ℕ) (two : Two) → m.store ≡ a.store → named_out m.meta.out ≡ Some disk → AreTwoDown (core_down m) (slot (store_rack m.store)) (slot (store_rack new.store)) two
    → AreTwoDownBeside (λ d. (core_down a ≡ Some d) ⊎ (d ≡ disk)) (slot (store_rack a.store)) (slot (store_rack new.store)) two
two_taken slot a m new disk two store out it =
    let moved = subst (λ (z : _). AreTwoDown (core_down m) (slot (store_rack z)) (slot (store_rack new.store)) two) store it in
    record {
      first = elim moved.first [ inr risen ↦ inr risen | inl known ↦ inl (by (named_of a.store) refl known) ];
      apart = moved.apart;
      second = moved.second;
    }
  where
    by : (o : Option ℕ) → named_of a.store ≡ o → core_down m ≡ Some two.first → (core_down a ≡ Some two.first) ⊎ (two.first ≡ disk)
    by (Some x) e known =
        let same : Some x ≡ Some two.first = sym (ap (λ (z : _). or_else (named_of z) (named_out m.meta.out)) store ∙ ap (λ (o : Option ℕ). or_else o (named_out m.meta.out)) e) ∙ known in
        inl (ap (λ (o : Option ℕ). or_else o (named_out a.meta.out)) e ∙ same)
    by None e known =
        let same : Some disk ≡ Some two.first = sym (ap (λ (z : _). or_else (named_of z) (named_out m.meta.out)) store ∙ ap (λ (o : Option ℕ). or_else o (named_out m.meta.out)) e ∙ out) ∙ known in
        inr cc

pub two_beside : (out out_then : ℕ → Type 0) (a b : ℕ → Slot) (two : Two) → ((d : ℕ) → out d → out_then d) → AreTwoDownBeside out a b two → AreTwoDownBeside out_then a b two
two_beside out out_then a b two to it = record {
  first = elim it.first [ inl is ↦ inl (to two.first is) | inr risen ↦ inr risen ];
  apart = it.apart;
  second = it.second;
}

pub two_or : (down : Option ℕ) (disk : ℕ) (a b : ℕ → Slot) (two : Two) → AreTwoDown down a b two → AreTwoDownBeside (λ d. (down ≡ Some d) ⊎ (d ≡ disk)) a b two
two_or down disk a b two it = record {
  first = elim it.first [ inl is ↦ inl (inl is) | inr risen ↦ inr risen ];
  apart = it.apart;
  second = it.second;
}

-- after a call before it
pub two_taken_then : (o p : Option ℕ) (disk : ℕ) (a b c : ℕ → Slot) (two : Two) → IsDownAfter o p a b → ((d : ℕ) → (a d).faults ≤ (b d).faults) → ((d : ℕ) → (b d).faults ≤ (c d).faults)
    → AreTwoDownBeside (λ d. (p ≡ Some d) ⊎ (d ≡ disk)) b c two → AreTwoDownBeside (λ d. (o ≡ Some d) ⊎ (d ≡ disk)) a c two
two_taken_then o p disk a b c two first sooner later it = record {
  first = elim it.first [
    | inr risen ↦ inr (HasRisen-sooner (a two.first).faults (b two.first).faults (c two.first).faults (sooner two.first) risen)
    | inl (inr is) ↦ inl (inr is)
    | inl (inl was) ↦ elim (first.known two.first was) [
      | inl known ↦ inl (inl known)
      | inr risen ↦ inr (HasRisen-later (a two.first).faults (b two.first).faults (c two.first).faults risen (later two.first))
    ]
  ];
  apart = it.apart;
  second = HasRisen-sooner (a two.second).faults (b two.second).faults (c two.second).faults (sooner two.second) it.second;
}

-- while a disk is rebuilt it alone is down
module _ {R : Type 0} {g : _} (count : R → ℕ) (slot : R → ℕ → Slot) where
  pub down_is : (b : Core R g) (disk : ℕ) → IsCoreReady count slot b → named_out b.meta.out ≡ Some disk → core_down b ≡ Some disk
  down_is b disk ready out = by (named_of b.store) refl
    where
      by : (o : Option ℕ) → named_of b.store ≡ o → core_down b ≡ Some disk
      by None e = ap (λ (o : Option ℕ). or_else o (named_out b.meta.out)) e ∙ out
      by (Some x) e = ap (λ (o : Option ℕ). or_else o (named_out b.meta.out)) e ∙ ap Some (ready.one x disk e out)

  -- and afterwards no other one
  pub leaves_rebuilt : (a b : Core R g) → count (store_rack b.store) ≡ count (store_rack a.store) → b.meta.setup ≡ a.meta.setup → b.meta.version ≡ a.meta.version → b.meta.writes ≡ a.meta.writes
      → OnlyLosesSlots (slot (store_rack a.store)) (slot (store_rack b.store)) → ((d : ℕ) → core_down b ≡ Some d → core_down a ≡ Some d) → LeavesArray count slot a b
  leaves_rebuilt a b slots setup version writes spared down = record {
    slots = slots;
    setup = setup;
    version = version;
    writes = writes;
    turned = turns_lost (slot (store_rack a.store)) (slot (store_rack b.store)) spared;
    down = record { known = λ d is. inl (down d is) };
  }

  -- the same disk is out still
  pub leaves_out : (a b : Core R g) (disk : ℕ) → IsCoreReady count slot a → IsCoreReady count slot b → named_out a.meta.out ≡ Some disk → named_out b.meta.out ≡ Some disk
      → count (store_rack b.store) ≡ count (store_rack a.store) → b.meta.setup ≡ a.meta.setup → b.meta.version ≡ a.meta.version → b.meta.writes ≡ a.meta.writes
      → OnlyLosesSlots (slot (store_rack a.store)) (slot (store_rack b.store)) → LeavesArray count slot a b
  leaves_out a b disk before after was is slots setup version writes spared =
      leaves_rebuilt a b slots setup version writes spared (λ d down. down_is a disk before was ∙ sym (down_is b disk after is) ∙ down)

  -- none is
  pub leaves_back : (a b : Core R g) → named_of b.store ≡ None → b.meta.out ≡ No → count (store_rack b.store) ≡ count (store_rack a.store) → b.meta.setup ≡ a.meta.setup → b.meta.version ≡ a.meta.version → b.meta.writes ≡ a.meta.writes
      → OnlyLosesSlots (slot (store_rack a.store)) (slot (store_rack b.store)) → LeavesArray count slot a b
  leaves_back a b named whole slots setup version writes spared =
      leaves_rebuilt a b slots setup version writes spared (λ d down.
      let z : None ≡ Some d = sym (ap (λ (o : Option ℕ). or_else o (named_out b.meta.out)) named ∙ ap named_out whole) ∙ down in absurd cc)

-- the disk that is down by the last commit or the meta is the one that is out by the meta
known_out : (named out : Option ℕ) → ((d : ℕ) → named ≡ Some d → out ≡ Some d) → (x : ℕ) → or_else named out ≡ Some x → out ≡ Some x
known_out None out stays x is = is
known_out (Some d) out stays x is = stays x is

known_down : (named out : Option ℕ) → ((d : ℕ) → named ≡ Some d → out ≡ Some d) → (x : ℕ) → out ≡ Some x → or_else named out ≡ Some x
known_down None out stays x is = is
known_down (Some d) out stays x is = sym (stays d refl) ∙ is

-- where none was out, one that is out has failed
pub fails_newly : (old new : ℕ → Slot) (was now was_named now_named : Option ℕ) → ((d : ℕ) → was_named ≡ Some d → was ≡ Some d) → ((d : ℕ) → now_named ≡ Some d → now ≡ Some d)
    → IsDownAfter (or_else was_named was) (or_else now_named now) old new → was ≡ None → (d : ℕ) → now ≡ Some d → HasRisen (old d).faults (new d).faults
fails_newly old new was now was_named now_named was_stays now_stays down none d is = elim (down.known d (known_down now_named now now_stays d is)) [
  | inl before ↦ let z : None ≡ Some d = sym none ∙ known_out was_named was was_stays d before in absurd cc
  | inr risen ↦ risen
]

-- nothing was marked
pub none_marked : (m : Meta) → IsMarkedFrom m m
none_marked m = record { lost = None; is = refl; alone = λ d x is. let z : None ≡ Some d = is in absurd cc }

phase_twice : (p : Phase) → phase_beside true (phase_beside true p) ≡ phase_beside true p
phase_twice Steady = refl
phase_twice (DownPhase to) = refl
phase_twice (UpPhase to) = refl

loss_twice : (m : Meta) (d e : ℕ) → meta_after_loss (record (meta_after_loss m d) { epoch = e }) d ≡ record (meta_after_loss m d) { epoch = e }
loss_twice m d e = ap (λ (p : Phase). record (meta_after_loss m d) { epoch = e; phase = p }) (phase_twice m.phase)

loss_after : (m : Meta) (d e : ℕ) → meta_after_loss (meta_after_loss (record m { epoch = e }) d) d ≡ meta_after_loss (record m { epoch = e }) d
loss_after m d e = ap (λ (p : Phase). record (meta_after_loss m d) { epoch = e; phase = p }) (phase_twice m.phase)

epoch_own : (m n : Meta) (e : ℕ) → n ≡ record m { epoch = e } → n ≡ record m { epoch = n.epoch }
epoch_own m n e is = subst (λ (z : Meta). z ≡ record m { epoch = z.epoch }) (sym is) refl

-- the mark that disk `d` is gone stays in its commit
pub marked_taken : (m b n : Meta) (d e : ℕ) → b ≡ meta_after_loss m d → IsMarkedFrom (record b { epoch = e }) n → n ≡ record (meta_after_loss m d) { epoch = n.epoch }
marked_taken m b n d e taken marked = epoch_own (meta_after_loss m d) n e (by marked.lost refl)
  where
    by : (o : Option ℕ) → marked.lost ≡ o → n ≡ record (meta_after_loss m d) { epoch = e }
    by None is = marked.is ∙ ap (λ (o : Option ℕ). meta_with_lost o (record b { epoch = e })) is ∙ ap (λ (z : Meta). record z { epoch = e }) taken
    by (Some x) is =
        let same : d ≡ x = marked.alone x d is (ap (λ (z : Meta). named_out z.out) taken) in
        marked.is ∙ ap (λ (o : Option ℕ). meta_with_lost o (record b { epoch = e })) is ∙ ap (λ (y : ℕ). meta_after_loss (record b { epoch = e }) y) (sym same)
        ∙ ap (λ (z : Meta). meta_after_loss (record z { epoch = e }) d) taken ∙ loss_twice m d e

-- so it does where the same disk was lost before
pub taken_then : (a m b : Meta) (d e : ℕ) → IsMarkedFrom (record a { epoch = e }) m → ((x : ℕ) → named_out m.out ≡ Some x → x ≡ d) → b ≡ record (meta_after_loss m d) { epoch = b.epoch } → b ≡ record (meta_after_loss a d) { epoch = b.epoch }
taken_then a m b d e marked alone taken = by marked.lost refl
  where
    by : (o : Option ℕ) → marked.lost ≡ o → b ≡ record (meta_after_loss a d) { epoch = b.epoch }
    by None is = taken ∙ ap (λ (z : Meta). record (meta_after_loss z d) { epoch = b.epoch }) (marked.is ∙ ap (λ (o : Option ℕ). meta_with_lost o (record a { epoch = e })) is)
    by (Some x) is =
        let was : m ≡ meta_after_loss (record a { epoch = e }) x = marked.is ∙ ap (λ (o : Option ℕ). meta_with_lost o (record a { epoch = e })) is in
        let same : x ≡ d = alone x (ap (λ (z : Meta). named_out z.out) was) in
        taken ∙ ap (λ (z : Meta). record (meta_after_loss z d) { epoch = b.epoch }) (was ∙ ap (λ (y : ℕ). meta_after_loss (record a { epoch = e }) y) same)
        ∙ ap (λ (z : Meta). record z { epoch = b.epoch }) (loss_after a d e)
