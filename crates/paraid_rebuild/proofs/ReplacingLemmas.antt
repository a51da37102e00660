-- One call after the other, in which a disk is replaced or comes back.
use Rattle.std.specs.Prelude.{◌≡◌, ◌≢◌, ℕ, ◌+◌, ◌<◌, ◌≤◌, ◌⊎◌, true, false, List, [], ◌∷◌, Option, Some, None, length, slice_index}
use Rattle.std.proofs.Common.{refl, sym, ◌∙◌, ap, subst, arith, inl, inr}
use Rattle.std.proofs.lemmas.Bool.{cases_Bool, cases_eq}
use Rattle.paraid_base.specs.declared.fault.Two.{Two}
use Rattle.paraid_base.specs.declared.state.Out.{Out}
use Rattle.paraid_base.specs.declared.state.Out.TheVariants.{Gone}
use Rattle.paraid_base.specs.declared.state.Phase.{Phase}
use Rattle.paraid_base.specs.declared.state.Phase.TheVariants.{Down, Steady, Up}
use Rattle.paraid_base.specs.History.{History}
use Rattle.paraid_base.specs.Regions.{disk_size}
use Rattle.paraid_base.specs.States.{gone_out, has_out, is_down, phase_beside, rebuilt_count}
use Rattle.paraid_base.specs.Told.{HasRisen}
use Rattle.paraid_base.proofs.ToldLemmas.{HasRisen-sooner}
use Rattle.paraid_rack.specs.declared.call.Call.{Call}
use Rattle.paraid_rack.specs.declared.call.Power.TheVariants.{Absent, Spinning}
use Rattle.paraid_rack.specs.Disks.{Disks, is_present, step}
use Rattle.paraid_rack.specs.Slots.{Slot}
use Rattle.paraid_rack.specs.Told.{CrashTriple, Ran, Through}
use Rattle.paraid_rack.specs.Trail.{Trail, now}
use Rattle.paraid_record.specs.declared.meta.Meta.{Meta}
use Rattle.paraid_record.specs.declared.meta.Setup.{Setup}
use Rattle.paraid_record.specs.Range.{IsInRange}
use Rattle.paraid_image.specs.Mark.{meta_after_loss, meta_with_lost}
use Rattle.paraid_image.specs.Out.{named_out, or_else}
use Rattle.paraid_txn.specs.declared.store.Store.{Store}
use Rattle.paraid_txn.specs.Losses.{AreTwoDown, OnlyLosesSlots}
use Rattle.paraid_txn.specs.Stores.{named_of, store_rack}
use Rattle.paraid_core.specs.declared.staged.Core.{Core}
use Rattle.paraid_core.specs.CoreInvariant.{IsHeldWithOneMissing}
use Rattle.paraid_core.specs.Cores.{CanCoreServe, IsCoreReady, core_down}
use Rattle.paraid_core.specs.Lost.{MarksLost}
use Rattle.paraid_core.specs.Steps.{AreUnsyncedCopied, IsMarkedFrom, IsNamedOrAbsent}
use Rattle.paraid_core.specs.Units.{IsRebuilding}
use Rattle.paraid_core.proofs.ChainLemmas.{held_less, under}
use Rattle.paraid_event.specs.CoreServing.{IsCoreServing}
use Rattle.paraid_event.proofs.CoreServingLemmas.{copies_kept}
use Rattle.paraid_rebuild.specs.Replacing.{IsReplacedFrom, OnlyLosesBut}

through_all : (P Q : Disks → Type 0) → ((s : Disks) → P s → Q s) → (s : Disks) (cs : List Call) → Through P s cs → Through Q s cs
through_all P Q to s [] p = to s p
through_all P Q to s (c ∷ cs) p = (to s p.0, through_all P Q to (step c s) cs p.1)

-- the moments of a part that knows less of which disk is down
module _ (slots slots' n n' : ℕ) (o o' : Option ℕ) (h : History) (es : slots' ≡ slots) (en : n' ≡ n) (eo : (d : ℕ) → o' ≡ Some d → o ≡ Some d) where
  held_up : (lo more : ℕ) → lo ≤ more → (s : Disks) → IsHeldWithOneMissing slots' n' o' h more s → IsHeldWithOneMissing slots n o h lo s
  held_up lo more l s k =
      held_less slots n o' o h more lo s l eo (subst (λ (z : ℕ). IsHeldWithOneMissing z n o' h more s) es (subst (λ (z : ℕ). IsHeldWithOneMissing slots' z o' h more s) en k))

  pub beside : (lo : ℕ) (A B : Disks → Type 0) (old new : Option Trail) → Ran old new (CrashTriple (IsHeldWithOneMissing slots' n' o' h lo) A B) → Ran old new (CrashTriple (IsHeldWithOneMissing slots n o h lo) A B)
  beside lo A B old new ran t tells =
      let r = ran t tells in
      record {
        from = r.from;
        was = r.was;
        calls = r.calls;
        is = r.is;
        holds = record {
          goes = λ a.
              let b = r.holds.goes a in
              (through_all (IsHeldWithOneMissing slots' n' o' h lo) (IsHeldWithOneMissing slots n o h lo) (held_up lo lo (omega arith)) (now r.from) r.calls b.0, b.1);
        };
      }

  -- after a commit all writes are kept
  pub after : (lo : ℕ) (A B C : Disks → Type 0) (old mid new : Option Trail) → ((s : Disks) → A s → lo ≤ length h) → Ran old mid (CrashTriple (IsHeldWithOneMissing slots n o h lo) A B)
      → Ran mid new (CrashTriple (IsHeldWithOneMissing slots' n' o' h (length h)) B C) → Ran old new (CrashTriple (IsHeldWithOneMissing slots n o h lo) A C)
  after lo A B C old mid new low one two =
      under (IsHeldWithOneMissing slots n o h lo) (IsHeldWithOneMissing slots' n' o' h (length h)) A B C (lo ≤ length h) old mid new low (λ l s k. held_up lo (length h) l s k) one two

-- which disk is out by the marks
pub marked_back : (m n : Meta) → IsMarkedFrom m n → gone_out n.out ≡ None → n ≡ m
marked_back m n marked back = by marked.lost refl
  where
    by : (o : Option ℕ) → marked.lost ≡ o → n ≡ m
    by None e = marked.is ∙ ap (λ (o : Option ℕ). meta_with_lost o m) e
    by (Some d) e =
        let gone : n.out ≡ Gone d = ap (λ (z : Meta). z.out) (marked.is ∙ ap (λ (o : Option ℕ). meta_with_lost o m) e) in
        let z : Some d ≡ None = sym (ap gone_out gone) ∙ back in
        absurd cc

pub marked_lost : (m n : Meta) (disk : ℕ) → named_out m.out ≡ Some disk → gone_out m.out ≡ None → IsMarkedFrom m n → gone_out n.out ≢ None → n ≡ meta_after_loss m disk
marked_lost m n disk named back marked gone = by marked.lost refl
  where
    by : (o : Option ℕ) → marked.lost ≡ o → n ≡ meta_after_loss m disk
    by None e = absurd (gone (ap (λ (z : Meta). gone_out z.out) (marked.is ∙ ap (λ (o : Option ℕ). meta_with_lost o m) e) ∙ back))
    by (Some d) e = marked.is ∙ ap (λ (o : Option ℕ). meta_with_lost o m) e ∙ ap (meta_after_loss m) (sym (marked.alone d disk e named))

lost_again : (p : Phase) → phase_beside true (phase_beside true p) ≡ phase_beside true p
lost_again Steady = refl
lost_again (Down to) = refl
lost_again (Up to) = refl

-- a disk that is gone is marked once
pub gone_stays : (a m n : Meta) (disk : ℕ) → m ≡ meta_after_loss a disk → IsMarkedFrom m n → n ≡ meta_after_loss a disk
gone_stays a m n disk is marked = by marked.lost refl
  where
    by : (o : Option ℕ) → marked.lost ≡ o → n ≡ meta_after_loss a disk
    by None e = marked.is ∙ ap (λ (o : Option ℕ). meta_with_lost o m) e ∙ is
    by (Some d) e =
        let same : disk ≡ d = marked.alone d disk e (ap (λ (z : Meta). named_out z.out) is) in
        marked.is ∙ ap (λ (o : Option ℕ). meta_with_lost o m) e ∙ ap (λ (z : Meta). meta_after_loss z d) is
        ∙ ap (λ (p : Phase). record a { out = Gone d; phase = p; fill = 0 }) (lost_again a.phase) ∙ ap (meta_after_loss a) (sym same)

-- marked by a later commit once more
pub again : (a b c : Meta) (disk : ℕ) → b ≡ record (meta_after_loss a disk) { epoch = b.epoch } → c ≡ record (meta_after_loss b disk) { epoch = b.epoch + 1 } → c ≡ record (meta_after_loss a disk) { epoch = c.epoch }
again a b c disk first second =
    second ∙ ap (λ (m : Meta). record (meta_after_loss m disk) { epoch = b.epoch + 1 }) first
    ∙ ap (λ (p : Phase). record (meta_after_loss a disk) { phase = p; epoch = b.epoch + 1 }) (lost_again a.phase)
    ∙ ap (λ (e : ℕ). record (meta_after_loss a disk) { epoch = e }) (sym (ap (λ (m : Meta). m.epoch) second))

-- beside a disk that is out there is no shift down, and nothing is filled
up_beside : (p : Phase) → is_down p ≡ false → phase_beside true p ≡ p
up_beside Steady is = refl
up_beside (Down to) is = let z : true ≡ false = is in absurd cc
up_beside (Up to) is = refl

pub gone_settled : (m : Meta) (d : ℕ) → IsInRange m → m.out ≡ Gone d → meta_after_loss m d ≡ m
gone_settled m d range out =
    let some : has_out m.out ≡ true = ap has_out out in
    let up : is_down m.phase ≡ false = elim (cases_Bool (is_down m.phase)) [
      | inl down ↦ let z : true ≡ false = sym some ∙ range.shift.down down in absurd cc
      | inr not ↦ not
    ] in
    let p = up_beside m.phase up in
    let f = sym (range.shift.still some) in
    let o = sym out in
    λ i. record m { phase = p i; fill = f i; out = o i }

pub replaced_then : (a b c : Meta) (disk : ℕ) (o : Out) → IsReplacedFrom a b disk 1 (Gone disk) → c ≡ record b { epoch = b.epoch + 1; out = o } → IsReplacedFrom a c disk 2 o
replaced_then a b c disk o r is =
    let same : c.spins ≡ b.spins = ap (λ (z : Meta). z.spins) is in
    let two : a.epoch + 1 + 1 ≡ a.epoch + 2 = omega arith in
    record {
      is = is ∙ ap (λ (z : Meta). record z { epoch = z.epoch + 1; out = o }) r.is ∙ ap (λ (e : ℕ). record (meta_after_loss a disk) { epoch = e; out = o; spins = b.spins }) two
          ∙ ap (λ (s : List ℕ). record (meta_after_loss a disk) { epoch = a.epoch + 2; out = o; spins = s }) (sym same);
      cleared = ap (λ (s : List ℕ). slice_index s disk) same ∙ r.cleared;
      others = λ e apart. ap (λ (s : List ℕ). slice_index s e) same ∙ r.others e apart;
    }

-- the slots
pub but_lost : (a b c : ℕ → Slot) (disk : ℕ) → ((d : ℕ) → d ≢ disk → b d ≡ a d) → OnlyLosesSlots b c → OnlyLosesBut a c disk
but_lost a b c disk others spared = record {
  power = λ d apart there. spared.power d there ∙ ap (λ (s : Slot). s.power) (others d apart);
  size = λ d apart there. spared.size d there ∙ ap (λ (s : Slot). s.size) (others d apart);
  no_fall = λ d apart. let later = spared.no_fall d in let e = ap (λ (s : Slot). s.faults) (others d apart) in omega arith;
}

-- so after calls that lose disks alone
pub but_then : (a b c : ℕ → Slot) (disk : ℕ) → OnlyLosesSlots a b → OnlyLosesBut b c disk → OnlyLosesBut a c disk
but_then a b c disk first second = record {
  power = λ d apart there. second.power d apart there ∙ first.power d (ap is_present (sym (second.power d apart there)) ∙ there);
  size = λ d apart there. second.size d apart there ∙ first.size d (ap is_present (sym (second.power d apart there)) ∙ there);
  no_fall = λ d apart. let one = first.no_fall d in let two = second.no_fall d apart in omega arith;
}

pub lost_none : (a : ℕ → Slot) → OnlyLosesSlots a a
lost_none a = record { power = λ d here. refl; size = λ d here. refl; no_fall = λ d. omega arith }

-- the second disk has failed in the later call
pub two_since : (o p : Option ℕ) (a b c : ℕ → Slot) (two : Two) → p ≡ o → ((d : ℕ) → (a d).faults ≤ (b d).faults) → AreTwoDown p b c two → AreTwoDown o a c two
two_since o p a b c two same first it = record {
  first = elim it.first [
    | inl known ↦ inl (sym same ∙ known)
    | inr risen ↦ inr (HasRisen-sooner (a two.first).faults (b two.first).faults (c two.first).faults (first two.first) risen)
  ];
  apart = it.apart;
  second = HasRisen-sooner (a two.second).faults (b two.second).faults (c two.second).faults (first two.second) it.second;
}

-- the disk that a commit has lost has failed
pub gone_failed : (a b : ℕ → Slot) (m n : Meta) (disk : ℕ) → named_out m.out ≡ Some disk → gone_out m.out ≡ None → MarksLost a b m n → gone_out n.out ≢ None → HasRisen (a disk).faults (b disk).faults
gone_failed a b m n disk named back marks gone = by marks.lost refl
  where
    by : (o : Option ℕ) → marks.lost ≡ o → HasRisen (a disk).faults (b disk).faults
    by None e = absurd (gone (ap (λ (z : Meta). gone_out z.out) marks.is ∙ ap (λ (o : Option ℕ). gone_out (meta_with_lost o m).out) e ∙ back))
    by (Some d) e = subst (λ (x : ℕ). HasRisen (a x).faults (b x).faults) (sym (marks.alone d disk e named)) (marks.failed d e).risen

-- where it is there still, it is as it was
pub back_well : (a b : ℕ → Slot) (m n : Meta) (disk : ℕ) → MarksLost a b m n → gone_out n.out ≡ None → ((b disk).power ≡ (a disk).power) × ((b disk).size ≡ (a disk).size)
back_well a b m n disk marks back =
    let well = marks.others disk (λ e. let gone : n.out ≡ Gone disk = (ap (λ (z : Meta). z.out) marks.is ∙ ap (λ (o : Option ℕ). (meta_with_lost o m).out) e) in
    let z : Some disk ≡ None = sym (ap gone_out gone) ∙ back in cc) in
    (well.power, well.size)

-- a core that can serve
module _ {R : Type 0} {g : _} (count : R → ℕ) (slot : R → ℕ → Slot) (a b : Core R g) where
  pub large_still : (m : Meta) → m ≡ a.meta → IsCoreServing count slot a → b.meta.setup ≡ a.meta.setup → ((d : ℕ) → named_out a.meta.out ≡ Some d → named_out b.meta.out ≡ Some d)
      → ((d : ℕ) → named_out b.meta.out ≢ Some d → is_present (slot (store_rack b.store) d).power ≡ true → (slot (store_rack b.store) d).size ≡ (slot (store_rack a.store) d).size)
      → ((d : ℕ) → d < b.meta.setup.geometry.disks → is_present (slot (store_rack b.store) d).power ≡ false → named_out b.meta.out ≡ Some d)
      → (d : ℕ) → d < b.meta.setup.geometry.disks → named_out b.meta.out ≢ Some d → disk_size b.meta.setup.geometry ≤ (slot (store_rack b.store) d).size
  large_still m em q setup stays keeps absent d low not = elim (cases_Bool (is_present (slot (store_rack b.store) d).power)) [
    | inr away ↦ absurd (not (absent d low away))
    | inl here ↦
        let was = q.large d (subst (λ (z : Setup). d < z.geometry.disks) setup low) (λ is. not (stays d is)) in
        let same = keeps d not here in
        let setups : disk_size b.meta.setup.geometry ≡ disk_size a.meta.setup.geometry = ap (λ (z : Setup). disk_size z.geometry) setup in
        omega arith
  ]

  -- no call, or calls that change no disk which is not out
  pub serving_then : IsCoreServing count slot a → IsCoreReady count slot b → CanCoreServe slot b → AreUnsyncedCopied slot b → b.draft ≡ a.draft → b.copied ≡ a.copied → b.meta.setup ≡ a.meta.setup
      → ((d : ℕ) → named_out a.meta.out ≡ Some d → named_out b.meta.out ≡ Some d)
      → ((d : ℕ) → named_out b.meta.out ≢ Some d → is_present (slot (store_rack b.store) d).power ≡ true → (slot (store_rack b.store) d).size ≡ (slot (store_rack a.store) d).size) → IsCoreServing count slot b
  serving_then q ready serves unsynced draft copied setup stays keeps = record {
    ready = ready;
    serves = serves;
    draft = draft ∙ q.draft;
    copies_synced = copies_kept a b setup copied q.copies_synced;
    unsynced = unsynced;
    large = large_still a.meta refl q setup stays keeps ready.absent;
  }

-- the same disk is out, and no call was made
pub away_marked : {R : Type 0} {g : _} (slot : R → ℕ → Slot) (a b : Core R g) (disk : ℕ) → b.store ≡ a.store → named_out a.meta.out ≡ Some disk → named_out b.meta.out ≡ Some disk → IsNamedOrAbsent slot a → IsNamedOrAbsent slot b
away_marked slot a b disk store was now absent x is =
    subst (λ (z : Store _ _). (named_of z ≡ Some x) ⊎ (is_present (slot (store_rack z) x).power ≡ false)) (sym store) (absent x (was ∙ sym now ∙ is))

-- marks make no call
pub two_marked : {R : Type 0} {g : _} (slot : R → ℕ → Slot) (a b new : Core R g) (two : Two) → b.store ≡ a.store → core_down b ≡ core_down a → AreTwoDown (core_down b) (slot (store_rack b.store)) (slot (store_rack new.store)) two
    → AreTwoDown (core_down a) (slot (store_rack a.store)) (slot (store_rack new.store)) two
two_marked slot a b new two store down it =
    subst (λ (o : Option ℕ). AreTwoDown o (slot (store_rack a.store)) (slot (store_rack new.store)) two) down
    (subst (λ (z : Store _ _). AreTwoDown (core_down b) (slot (store_rack z)) (slot (store_rack new.store)) two) store it)

-- where a disk is out it is the one that is down
pub out_down : (named out : Option ℕ) (disk : ℕ) → ((d e : ℕ) → named ≡ Some d → out ≡ Some e → d ≡ e) → out ≡ Some disk → or_else named out ≡ Some disk
out_down None out disk one is = is
out_down (Some d) out disk one is = ap Some (one d disk refl is)

-- where no other disk can be the one that is out
pub marked_alone : (m n : Meta) (disk : ℕ) → gone_out m.out ≡ None → IsMarkedFrom m n → ((d : ℕ) → named_out n.out ≡ Some d → d ≡ disk) → gone_out n.out ≢ None → n ≡ meta_after_loss m disk
marked_alone m n disk back marked alone gone = by marked.lost refl
  where
    by : (o : Option ℕ) → marked.lost ≡ o → n ≡ meta_after_loss m disk
    by None e = absurd (gone (ap (λ (z : Meta). gone_out z.out) (marked.is ∙ ap (λ (o : Option ℕ). meta_with_lost o m) e) ∙ back))
    by (Some d) e =
        let is = marked.is ∙ ap (λ (o : Option ℕ). meta_with_lost o m) e in
        is ∙ ap (meta_after_loss m) (alone d (ap (λ (z : Meta). named_out z.out) is))

pub alone_failed : (a b : ℕ → Slot) (m n : Meta) (disk : ℕ) → gone_out m.out ≡ None → MarksLost a b m n → ((d : ℕ) → named_out n.out ≡ Some d → d ≡ disk) → gone_out n.out ≢ None → HasRisen (a disk).faults (b disk).faults
alone_failed a b m n disk back marks alone gone = by marks.lost refl
  where
    by : (o : Option ℕ) → marks.lost ≡ o → HasRisen (a disk).faults (b disk).faults
    by None e = absurd (gone (ap (λ (z : Meta). gone_out z.out) marks.is ∙ ap (λ (o : Option ℕ). gone_out (meta_with_lost o m).out) e ∙ back))
    by (Some d) e =
        let out : named_out n.out ≡ Some d = ap (λ (z : Meta). named_out z.out) marks.is ∙ ap (λ (o : Option ℕ). named_out (meta_with_lost o m).out) e in
        subst (λ (x : ℕ). HasRisen (a x).faults (b x).faults) (alone d out) (marks.failed d e).risen

pub alone_away : (a b : ℕ → Slot) (m n : Meta) (disk : ℕ) → gone_out m.out ≡ None → MarksLost a b m n → ((d : ℕ) → named_out n.out ≡ Some d → d ≡ disk) → gone_out n.out ≢ None → (b disk).power ≡ Absent
alone_away a b m n disk back marks alone gone = by marks.lost refl
  where
    by : (o : Option ℕ) → marks.lost ≡ o → (b disk).power ≡ Absent
    by None e = absurd (gone (ap (λ (z : Meta). gone_out z.out) marks.is ∙ ap (λ (o : Option ℕ). gone_out (meta_with_lost o m).out) e ∙ back))
    by (Some d) e =
        let out : named_out n.out ≡ Some d = ap (λ (z : Meta). named_out z.out) marks.is ∙ ap (λ (o : Option ℕ). named_out (meta_with_lost o m).out) e in
        subst (λ (x : ℕ). (b x).power ≡ Absent) (alone d out) (marks.failed d e).absent

-- a disk that is rebuilt and spins is there, and so are all others
module _ {R : Type 0} {g : _} (count : R → ℕ) (slot : R → ℕ → Slot) (a : Core R g) (disk : ℕ) (q : IsCoreServing count slot a) (fresh : IsRebuilding a.meta disk) (spins : (slot (store_rack a.store) disk).power ≡ Spinning) where
  here : is_present (slot (store_rack a.store) disk).power ≡ true
  here = ap is_present spins

  is_disk : (d : ℕ) → named_out a.meta.out ≡ Some d → d ≡ disk
  is_disk d is = let z : Some d ≡ Some disk = sym is ∙ ap named_out fresh in cc

  pub all_there : (d : ℕ) → d < a.meta.setup.geometry.disks → is_present (slot (store_rack a.store) d).power ≡ true
  all_there d low = elim (cases_Bool (is_present (slot (store_rack a.store) d).power)) [
    | inl there ↦ there
    | inr away ↦ ap (λ (x : ℕ). is_present (slot (store_rack a.store) x).power) (is_disk d (q.ready.absent d low away)) ∙ here
  ]

  pub all_large : (d : ℕ) → d < a.meta.setup.geometry.disks → disk_size a.meta.setup.geometry ≤ (slot (store_rack a.store) d).size
  all_large d low = elim (cases_eq d disk) [
    | inl is ↦ subst (λ (x : ℕ). disk_size a.meta.setup.geometry ≤ (slot (store_rack a.store) x).size) (sym is) (q.ready.fresh_large disk (rebuilt_count a.meta.out) fresh here)
    | inr apart ↦ q.large d low (λ is. apart (is_disk d is))
  ]

  -- after calls that lose disks alone
  pub serving_again : (b : Core R g) → IsCoreReady count slot b → CanCoreServe slot b → AreUnsyncedCopied slot b → b.draft ≡ a.draft → b.copied ≡ a.copied → b.meta.setup ≡ a.meta.setup
      → OnlyLosesSlots (slot (store_rack a.store)) (slot (store_rack b.store)) → IsCoreServing count slot b
  serving_again b ready serves unsynced draft copied setup spared = record {
    ready = ready;
    serves = serves;
    draft = draft ∙ q.draft;
    copies_synced = copies_kept a b setup copied q.copies_synced;
    unsynced = unsynced;
    large = λ d low not. elim (cases_Bool (is_present (slot (store_rack b.store) d).power)) [
      | inr away ↦ absurd (not (ready.absent d low away))
      | inl there ↦
          let was = all_large d (subst (λ (z : Setup). d < z.geometry.disks) setup low) in
          let same = spared.size d there in
          let setups : disk_size b.meta.setup.geometry ≡ disk_size a.meta.setup.geometry = ap (λ (z : Setup). disk_size z.geometry) setup in
          omega arith
    ];
  }
