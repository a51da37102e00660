-- What a walk over the images finds of their labels and of what hinders them.
use Rattle.std.proofs.Common.{◌≡◌, ◌≢◌, ℕ, ◌<◌, ◌≤◌, ◌+◌, ◌⊎◌, Bool, true, false, ◌&&◌, List, [], ◌∷◌, length, Option, None, Some, IfSome, IsSome, IsSomeAnd, unwrap_or, refl, map, get_or, set, slice_index, sym, ◌∙◌, ap, subst, arith, inl, inr, zero, suc}
use Rattle.std.proofs.lemmas.Bool.{cases_eq, cases_lt, false≢true}
use Rattle.std.proofs.lemmas.List.{get_or-map, get_or-set_other, get_or-set_same, length-map, map-set}
use Rattle.paraid_base.specs.Told.{HasRisen}
use Rattle.paraid_rack.specs.declared.call.Power.{Power}
use Rattle.paraid_rack.specs.declared.call.Power.TheVariants.{Spinning, Parked, Absent}
use Rattle.paraid_rack.specs.Slots.{Slot, vacant_slot}
use Rattle.paraid_imgrack.specs.declared.identity.Identity.{Identity}
use Rattle.paraid_imgrack.specs.declared.identity.Misfit.{Misfit}
use Rattle.paraid_imgrack.specs.declared.identity.Misfit.TheVariants.{Moved, Foreign, Old, New, Bare}
use Rattle.paraid_imgrack.specs.declared.image.Image.{Image}
use Rattle.paraid_imgrack.specs.Images.{AreTrueMisfits, Fit, IsDrawn, IsLook, IsMissed, image_label, image_misfit, image_slot, image_slot_at, image_tail, label_at, misfit_at, tail_at}
use Rattle.paraid_imgrack.specs.Labels.{AreSeen, AreUnnamed, IsDeciding, IsKnownBy, IsLearned, IsNamed, IsNoLess, IsOfSlot, IsLabelSeen, IsTakenOver, KnowsNone, Names, IsAmong, IsApart, Knows, SuitsBeside, SuitsOthers, known_array, label_in, label_of}
use Rattle.paraid_imgrack.specs.declared.label.Label.{Label}
use Rattle.paraid_imgrack.proofs.NamedLemmas.{deciding_by}
use Rattle.paraid_imgrack.specs.declared.tail.Tail.{Tail}
use Rattle.paraid_imgrack.specs.declared.tail.Tail.TheVariants.{Other}

get_or_past : {A : Type 0} (l : List A) (d : ℕ) (x : A) → length l ≤ d → get_or l d x ≡ x
get_or_past [] d x past = refl
get_or_past (y ∷ l) zero x past = absurd (omega arith)
get_or_past (y ∷ l) (suc d) x past = get_or_past l d x (omega arith)

-- of a slot that is not there nothing is told
pub none_past : {A : Type 0} (f : Image → Option A) (images : List Image) (d : ℕ) → length images ≤ d → get_or (map f images) d None ≡ None
none_past f images d past = get_or_past (map f images) d None (rw (length-map images f) past)

pub tail_past : (images : List Image) (d : ℕ) → length images ≤ d → tail_at images d ≡ Other
tail_past images d past = get_or_past (map image_tail images) d Other (rw (length-map images image_tail) past)

pub slot_past : (images : List Image) (d : ℕ) → length images ≤ d → image_slot_at images d ≡ vacant_slot
slot_past images d past = get_or_past (map image_slot images) d vacant_slot (rw (length-map images image_slot) past)

-- a slot that is not there is not parked, and its image is not missed
pub awake_whole : (images : List Image) (disks n : ℕ) → length images ≤ n → ((d : ℕ) → d < n → d < disks → (image_slot_at images d).power ≢ Parked)
    → (d : ℕ) → d < disks → (image_slot_at images d).power ≢ Parked
awake_whole images disks n all awake d within parked = elim (cases_lt d n) [
  | inl below ↦ awake d below within parked
  | inr past ↦ absurd (absent_parked (ap (λ (s : Slot). s.power) (sym (slot_past images d (omega (arith, past, all)))) ∙ parked))
]
  where
    absent_parked : ◌≡◌ {A = Power} Absent Parked → ⊥
    absent_parked e = cc

pub unmissed_whole : (images : List Image) (i : Identity) (n : ℕ) → length images ≤ n → ((d : ℕ) → d < n → d < i.disks → IsMissed images i d → ⊥)
    → (d : ℕ) → d < i.disks → IsMissed images i d → ⊥
unmissed_whole images i n all none d within missed = elim (cases_lt d n) [
  | inl below ↦ none d below within missed
  | inr past ↦ absurd (absent_spinning (ap (λ (s : Slot). s.power) (sym (slot_past images d (omega (arith, past, all)))) ∙ missed.spins))
]
  where
    absent_spinning : ◌≡◌ {A = Power} Absent Spinning → ⊥
    absent_spinning e = cc

-- what holds of each slot below the end holds of each slot
pub none_whole : {A : Type 0} (f : Image → Option A) (images : List Image) → ((d : ℕ) → d < length images → get_or (map f images) d None ≡ None)
    → (d : ℕ) → get_or (map f images) d None ≡ None
none_whole f images below d = elim (cases_lt d (length images)) [
  | inl within ↦ below d within
  | inr past ↦ none_past f images d (omega (arith, past))
]

-- what was read of an image that was put into a slot, and of the others
pub tail-set_same : (images : List Image) (d : ℕ) (x : Image) → d < length images → tail_at (set images d x) d ≡ image_tail x
tail-set_same images d x within = ap (λ (l : List Tail). get_or l d Other) (map-set image_tail images d x) ∙ get_or-set_same (map image_tail images) d (image_tail x) Other (rw (length-map images image_tail) within)

pub tail-set_other : (images : List Image) (d : ℕ) (x : Image) (e : ℕ) → e ≢ d → tail_at (set images d x) e ≡ tail_at images e
tail-set_other images d x e not = ap (λ (l : List Tail). get_or l e Other) (map-set image_tail images d x) ∙ get_or-set_other (map image_tail images) d e (image_tail x) Other not

pub label_here : (labels : List (Option Label)) (images : List Image) (d : ℕ) (x : Image) (l : Option Label) → d < length labels → d < length images → l ≡ image_label x
    → label_in (set labels d l) d ≡ label_at (set images d x) d
label_here labels images d x l room within is = get_or-set_same labels d l None room ∙ is ∙ sym (ap label_of (tail-set_same images d x within))

pub IsLook-then : (a b c : List Image) → IsLook a b → IsLook b c → IsLook a c
IsLook-then a b c first second = record { slots = second.slots ∙ first.slots; hindrances = second.hindrances ∙ first.hindrances }

-- the images that were read in the first slots of the array belong there
abbrev pub FitBelow : (ℕ → Option Label) → List Image → Identity → ℕ → Type 0
FitBelow labels images i n = (d : ℕ) → d < n → d < i.disks → SuitsBeside i labels (tail_at images d) d None

pub FitBelow-next : (labels : ℕ → Option Label) (old new : List Image) (i : Identity) (n : ℕ) → map image_tail new ≡ map image_tail old → FitBelow labels old i n
    → (n < i.disks → SuitsBeside i labels (tail_at new n) n None) → FitBelow labels new i (n + 1)
FitBelow-next labels old new i n same fit at d below within = elim (cases_lt d n) [
  | inl before ↦ subst (λ (tails : List Tail). SuitsBeside i labels (get_or tails d Other) d None) (sym same) (fit d before within)
  | inr past ↦ let is : d ≡ n = omega (arith, below, past) in subst (λ (k : ℕ). k < i.disks → SuitsBeside i labels (tail_at new k) k None) (sym is) at within
]

pub FitBelow-whole : (labels : ℕ → Option Label) (images : List Image) (i : Identity) (n : ℕ) → length images ≤ n → FitBelow labels images i n → Fit labels images i
FitBelow-whole labels images i n all fit d within = elim (cases_lt d n) [
  | inl below ↦ fit d below within
  | inr past ↦ subst (λ (tail : Tail). SuitsBeside i labels tail d None) (sym (tail_past images d (omega (arith, past, all)))) (refl, tt)
]

pub misfit_kept : (old new : List Image) → map image_misfit new ≡ map image_misfit old → (d : ℕ) × IsSome (misfit_at old d) → (d : ℕ) × IsSome (misfit_at new d)
misfit_kept old new same (d, is) = (d, subst (λ (misfits : List (Option _)). IsSome (get_or misfits d None)) (sym same) is)

some_if : {A : Type 0} (P : A → Type 0) (o : Option A) → IsSomeAnd o P → IsSome o × IfSome o P
some_if P None is = absurd is
some_if P (Some x) is = (refl, is)

-- where no misfit is kept, each that is kept is true
pub AreTrueMisfits-none : (labels : ℕ → Option Label) (images : List Image) (known : Option Identity) → ((d : ℕ) → misfit_at images d ≡ None) → AreTrueMisfits labels images known
AreTrueMisfits-none labels images known none d = subst (λ (o : Option Misfit). IfSome o (λ m. IsSomeAnd known (λ i. (d < i.disks) × SuitsBeside i labels (tail_at images d) d (Some m)))) (sym (none d)) tt

-- of a slot whose misfit and tail are as they were
true_kept : (labels : ℕ → Option Label) (old new : List Image) (i : Identity) (d : ℕ) → map image_tail new ≡ map image_tail old → misfit_at new d ≡ misfit_at old d
    → IfSome (misfit_at old d) (λ m. (d < i.disks) × SuitsBeside i labels (tail_at old d) d (Some m))
    → IfSome (misfit_at new d) (λ m. (d < i.disks) × SuitsBeside i labels (tail_at new d) d (Some m))
true_kept labels old new i d tails same was =
    subst (λ (o : Option Misfit). IfSome o (λ m. (d < i.disks) × SuitsBeside i labels (tail_at new d) d (Some m))) (sym same)
    (subst (λ (l : List Tail). IfSome (misfit_at old d) (λ m. (d < i.disks) × SuitsBeside i labels (get_or l d Other) d (Some m))) (sym tails) was)

AreTrueMisfits-same : (labels : ℕ → Option Label) (old new : List Image) (i : Identity) → map image_tail new ≡ map image_tail old → map image_misfit new ≡ map image_misfit old
    → AreTrueMisfits labels old (Some i) → AreTrueMisfits labels new (Some i)
AreTrueMisfits-same labels old new i tails same was d = true_kept labels old new i d tails (ap (λ (l : List (Option Misfit)). get_or l d None) same) (was d)

-- one slot has got a misfit, which is true
AreTrueMisfits-one : (labels : ℕ → Option Label) (old new : List Image) (i : Identity) (n : ℕ) → map image_tail new ≡ map image_tail old
    → IfSome (misfit_at new n) (λ m. (n < i.disks) × SuitsBeside i labels (tail_at new n) n (Some m))
    → ((e : ℕ) → e ≢ n → misfit_at new e ≡ misfit_at old e) → AreTrueMisfits labels old (Some i) → AreTrueMisfits labels new (Some i)
AreTrueMisfits-one labels old new i n tails here others was d = elim (cases_eq d n) [
  | inl is ↦ subst (λ (k : ℕ). IfSome (misfit_at new k) (λ m. (k < i.disks) × SuitsBeside i labels (tail_at new k) k (Some m))) (sym is) here
  | inr not ↦ true_kept labels old new i d tails (others d not) (was d)
]

-- what a walk knows that asks each image whether it fits
pub record FitsSoFar (labels : ℕ → Option Label) (start now : List Image) (i : Identity) (n : ℕ) (fits : Bool) : Type 0 where
  pub look : IsLook start now
  pub tails : map image_tail now ≡ map image_tail start
  pub fit : fits ≡ true → FitBelow labels now i n
  pub same : fits ≡ true → map image_misfit now ≡ map image_misfit start
  pub misfit : fits ≡ false → (d : ℕ) × IsSome (misfit_at now d)
  pub misfits : AreTrueMisfits labels start (Some i) → AreTrueMisfits labels now (Some i)

pub FitsSoFar-none : (labels : ℕ → Option Label) (start : List Image) (i : Identity) → FitsSoFar labels start start i 0 true
FitsSoFar-none labels start i = record {
  look = record { slots = refl; hindrances = refl };
  tails = refl;
  fit = λ _ d below. absurd (omega (arith, below));
  same = λ _. refl;
  misfit = λ e. absurd (false≢true (sym e));
  misfits = λ was. was;
}

pub FitsSoFar-next : (labels : ℕ → Option Label) (start old new : List Image) (i : Identity) (n : ℕ) (fits result : Bool) → FitsSoFar labels start old i n fits → IsLook old new
    → map image_tail new ≡ map image_tail old
    → (result ≡ true → n < i.disks → SuitsBeside i labels (tail_at new n) n None)
    → (result ≡ true → map image_misfit new ≡ map image_misfit old)
    → (result ≡ false → IsSomeAnd (misfit_at new n) (λ m. (n < i.disks) × SuitsBeside i labels (tail_at new n) n (Some m)))
    → ((e : ℕ) → e ≢ n → misfit_at new e ≡ misfit_at old e) → FitsSoFar labels start new i (n + 1) (fits && result)
FitsSoFar-next labels start old new i n true true so look tails fit same misfit others = record {
  look = IsLook-then start old new so.look look;
  tails = tails ∙ so.tails;
  fit = λ _. FitBelow-next labels old new i n tails (so.fit refl) (fit refl);
  same = λ _. same refl ∙ so.same refl;
  misfit = λ e. absurd (false≢true (sym e));
  misfits = λ was. AreTrueMisfits-same labels old new i tails (same refl) (so.misfits was);
}
FitsSoFar-next labels start old new i n false true so look tails fit same misfit others = record {
  look = IsLook-then start old new so.look look;
  tails = tails ∙ so.tails;
  fit = λ e. absurd (false≢true e);
  same = λ e. absurd (false≢true e);
  misfit = λ _. misfit_kept old new (same refl) (so.misfit refl);
  misfits = λ was. AreTrueMisfits-same labels old new i tails (same refl) (so.misfits was);
}
FitsSoFar-next labels start old new i n true false so look tails fit same misfit others = record {
  look = IsLook-then start old new so.look look;
  tails = tails ∙ so.tails;
  fit = λ e. absurd (false≢true e);
  same = λ e. absurd (false≢true e);
  misfit = λ _. (n, (some_if (λ m. (n < i.disks) × SuitsBeside i labels (tail_at new n) n (Some m)) (misfit_at new n) (misfit refl)).0);
  misfits = λ was. AreTrueMisfits-one labels old new i n tails (some_if (λ m. (n < i.disks) × SuitsBeside i labels (tail_at new n) n (Some m)) (misfit_at new n) (misfit refl)).1 others (so.misfits was);
}
FitsSoFar-next labels start old new i n false false so look tails fit same misfit others = record {
  look = IsLook-then start old new so.look look;
  tails = tails ∙ so.tails;
  fit = λ e. absurd (false≢true e);
  same = λ e. absurd (false≢true e);
  misfit = λ _. (n, (some_if (λ m. (n < i.disks) × SuitsBeside i labels (tail_at new n) n (Some m)) (misfit_at new n) (misfit refl)).0);
  misfits = λ was. AreTrueMisfits-one labels old new i n tails (some_if (λ m. (n < i.disks) × SuitsBeside i labels (tail_at new n) n (Some m)) (misfit_at new n) (misfit refl)).1 others (so.misfits was);
}

-- one slot more of which nothing is told
pub none_next : {A : Type 0} (told : ℕ → Option A) (n : ℕ) → ((d : ℕ) → d < n → told d ≡ None) → told n ≡ None → (d : ℕ) → d < n + 1 → told d ≡ None
none_next told n before at d below = elim (cases_lt d n) [
  | inl less ↦ before d less
  | inr past ↦ let is : d ≡ n = omega (arith, below, past) in ap told is ∙ at
]

-- the labels of the first slots, of which one more was read
pub labels_next : (old new : List Image) (before after : List (Option Label)) (n : ℕ) → label_in after n ≡ label_at new n
    → ((e : ℕ) → e ≢ n → label_in after e ≡ label_in before e) → ((e : ℕ) → e ≢ n → label_at new e ≡ label_at old e)
    → ((d : ℕ) → d < n → label_in before d ≡ label_at old d) → (d : ℕ) → d < n + 1 → label_in after d ≡ label_at new d
labels_next old new before after n here others kept so d below = elim (cases_lt d n) [
  | inl less ↦ others d (λ is. omega (arith, less, is)) ∙ (so d less ∙ sym (kept d (λ is. omega (arith, less, is))))
  | inr past ↦ let is : d ≡ n = omega (arith, below, past) in subst (λ (k : ℕ). label_in after k ≡ label_at new k) (sym is) here
]

-- of the slots past it none was read
pub unread_next : (before after : List (Option Label)) (n : ℕ) → ((e : ℕ) → e ≢ n → label_in after e ≡ label_in before e)
    → ((d : ℕ) → n ≤ d → label_in before d ≡ None) → (d : ℕ) → n + 1 ≤ d → label_in after d ≡ None
unread_next before after n others none d past = others d (λ is. omega (arith, past, is)) ∙ none d (omega (arith, past))

abbrev shown : Option (List ℕ × ℕ) → List ℕ × ℕ
shown o = unwrap_or o ([], 0)

-- what takes over the array of the label that decides it is named by it
pub IsNamed-by : (labels : ℕ → Option Label) (l : Label) (i : Identity) → IsAmong labels l → IsDeciding labels l → known_array (Some i) ≡ Some (l.array, l.disks) → IsNamed labels i
IsNamed-by labels l i (d, (below, is)) decides same = (
  d,
  (
    below,
    subst (λ (o : Option Label). IsSomeAnd o (λ m. IsDeciding labels m × ((m.array ≡ i.array) × (m.disks ≡ i.disks)))) (sym is)
        (decides, (sym (ap (λ (o : Option (List ℕ × ℕ)). (shown o).0) same), sym (ap (λ (o : Option (List ℕ × ℕ)). (shown o).1) same))),
  ),
)

pub IsNamed-same : (labels : ℕ → Option Label) (old new : Identity) → known_array (Some new) ≡ known_array (Some old) → IsNamed labels old → IsNamed labels new
IsNamed-same labels old new same (d, (below, is)) = (d, (below, subst (λ (o : Option (List ℕ × ℕ)). IsSomeAnd (labels d) (λ l. IsDeciding labels l × ((l.array ≡ (shown o).0) × (l.disks ≡ (shown o).1)))) (sym same) is))

unnamed_by : (labels : ℕ → Option Label) (at : ℕ → Option Label) → ((d : ℕ) → d < 8 → labels d ≡ at d) → AreUnnamed labels → AreUnnamed at
unnamed_by labels at is none d below = subst (λ (o : Option Label). IfSome o (λ l. l.disks ≤ d)) (is d below) (none d below)

named_as : (labels : ℕ → Option Label) (at : ℕ → Option Label) (i : Identity) → ((d : ℕ) → d < 8 → labels d ≡ at d) → (o : Option Label)
    → IsSomeAnd o (λ l. IsDeciding labels l × ((l.array ≡ i.array) × (l.disks ≡ i.disks))) → IsSomeAnd o (λ l. IsDeciding at l × ((l.array ≡ i.array) × (l.disks ≡ i.disks)))
named_as labels at i is None so = absurd so
named_as labels at i is (Some l) so = (deciding_by labels at is l so.0, so.1)

named_by : (labels : ℕ → Option Label) (at : ℕ → Option Label) (i : Identity) → ((d : ℕ) → d < 8 → labels d ≡ at d) → IsNamed labels i → IsNamed at i
named_by labels at i is (d, (below, so)) = (d, (below, subst (λ (o : Option Label). IsSomeAnd o (λ l. IsDeciding at l × ((l.array ≡ i.array) × (l.disks ≡ i.disks)))) (is d below) (named_as labels at i is (labels d) so)))

learned_by : (labels : ℕ → Option Label) (at : ℕ → Option Label) (i : Identity) → ((d : ℕ) → d < 8 → labels d ≡ at d) → IsLearned labels i → IsLearned at i
learned_by labels at i is so d below = subst (λ (o : Option Label). IfSome o (λ l. d < i.disks → l.disk ≡ d → l.array ≡ i.array → IsTakenOver i l)) (is d below) (so d below)

seen_by : (labels : ℕ → Option Label) (at : ℕ → Option Label) (i : Identity) → ((d : ℕ) → d < 8 → labels d ≡ at d) → AreSeen labels i → AreSeen at i
seen_by labels at i is so d below = subst (λ (o : Option Label). IsLabelSeen i o d) (is d below) (so d below)

known_by : (labels : ℕ → Option Label) (at : ℕ → Option Label) (i : Identity) → ((d : ℕ) → d < 8 → labels d ≡ at d) → IsKnownBy labels i → IsKnownBy at i
known_by labels at i is so = record {
  due = so.due;
  named = named_by labels at i is so.named;
  learned = learned_by labels at i is so.learned;
  seen = seen_by labels at i is so.seen;
}

-- what is known after a walk over the first disks that a label of a slot knows of
pub record LearnsBelow (old now : Identity) (l : Label) (slot n : ℕ) : Type 0 where
  pub same : known_array (Some now) ≡ known_array (Some old)
  pub kept : IsNoLess old now
  pub known : (e : ℕ) → e < n → slice_index l.known e ≤ slice_index now.known e
  pub past : HasRisen l.generation now.generation
  pub seen : slot < 8 → slice_index now.seen slot ≡ l.generation
  pub others : (e : ℕ) → e ≢ slot → slice_index now.seen e ≡ slice_index old.seen e

-- Of the first slots it is kept how new their labels were as they were read, and of the others
-- nothing yet.
pub record SeenBelow (labels : ℕ → Option Label) (i : Identity) (n : ℕ) : Type 0 where
  pub done : (d : ℕ) → d < n → IsLabelSeen i (labels d) d
  pub left : (d : ℕ) → n ≤ d → slice_index i.seen d ≡ 0

pub SeenBelow-none : (labels : ℕ → Option Label) (i : Identity) → KnowsNone i → SeenBelow labels i 0
SeenBelow-none labels i none = record { done = λ d below. absurd (omega (arith, below)); left = λ d _. none.seen d }

of_slot_same : (old new : Identity) (l : Label) (d : ℕ) → known_array (Some new) ≡ known_array (Some old) → IsOfSlot old l d → IsOfSlot new l d
of_slot_same old new l d same of = record {
  within = omega (arith, of.within, ap (λ (o : Option (List ℕ × ℕ)). (shown o).1) same);
  disk = of.disk;
  array = of.array ∙ sym (ap (λ (o : Option (List ℕ × ℕ)). (shown o).0) same);
}

seen_kept : (o : Option Label) (old new : Identity) (d : ℕ) → known_array (Some new) ≡ known_array (Some old) → slice_index new.seen d ≡ slice_index old.seen d → IsLabelSeen old o d → IsLabelSeen new o d
seen_kept None old new d same kept so = record { here = tt; none = λ _. kept ∙ so.none tt }
seen_kept (Some l) old new d same kept so = record {
  here = λ of. kept ∙ so.here (of_slot_same new old l d (sym same) of);
  none = λ not. kept ∙ so.none (λ of. not (of_slot_same old new l d same of));
}

pub SeenBelow-next : (labels : ℕ → Option Label) (old new : Identity) (n : ℕ) → known_array (Some new) ≡ known_array (Some old)
    → ((e : ℕ) → e ≢ n → slice_index new.seen e ≡ slice_index old.seen e) → (slice_index old.seen n ≡ 0 → IsLabelSeen new (labels n) n) → SeenBelow labels old n → SeenBelow labels new (n + 1)
SeenBelow-next labels old new n same others at so = record {
  done = λ d below. elim (cases_lt d n) [
    | inl before ↦ seen_kept (labels d) old new d same (others d (omega (arith, before))) (so.done d before)
    | inr past ↦ let is : d ≡ n = omega (arith, below, past) in subst (λ (k : ℕ). IsLabelSeen new (labels k) k) (sym is) (at (so.left n (omega arith)))
  ];
  left = λ d past. others d (omega (arith, past)) ∙ so.left d (omega (arith, past));
}

-- what the labels of the first slots say is known
abbrev pub LearnedBelow : (ℕ → Option Label) → Identity → ℕ → Type 0
LearnedBelow labels i n = (d : ℕ) → d < n → IfSome (labels d) (λ l. d < i.disks → l.disk ≡ d → l.array ≡ i.array → IsTakenOver i l)

taken_kept : (old new : Identity) (l : Label) → IsNoLess old new → IsTakenOver old l → IsTakenOver new l
taken_kept old new l kept taken = record {
  known = λ e below. omega (arith, taken.known e below, kept.known e);
  past = record {
    risen = elim taken.past.risen [
      | inl less ↦ inl (omega (arith, less, kept.generation))
      | inr most ↦ inr (omega (arith, most, kept.generation))
    ];
  };
}

owed_kept : (o : Option Label) (old new : Identity) (d : ℕ) → known_array (Some new) ≡ known_array (Some old) → IsNoLess old new
    → IfSome o (λ l. d < old.disks → l.disk ≡ d → l.array ≡ old.array → IsTakenOver old l) → IfSome o (λ l. d < new.disks → l.disk ≡ d → l.array ≡ new.array → IsTakenOver new l)
owed_kept None old new d same kept owed = tt
owed_kept (Some l) old new d same kept owed = λ within disk array. taken_kept old new l kept (owed (omega (arith, within, ap (λ (o : Option (List ℕ × ℕ)). (shown o).1) same)) disk (array ∙ ap (λ (o : Option (List ℕ × ℕ)). (shown o).0) same))

owed_new : (o : Option Label) (old new : Identity) (d : ℕ) → known_array (Some new) ≡ known_array (Some old)
    → IfSome o (λ l. d < old.disks → l.disk ≡ d → l.array ≡ old.array → IsTakenOver new l) → IfSome o (λ l. d < new.disks → l.disk ≡ d → l.array ≡ new.array → IsTakenOver new l)
owed_new None old new d same owed = tt
owed_new (Some l) old new d same owed = λ within disk array. owed (omega (arith, within, ap (λ (o : Option (List ℕ × ℕ)). (shown o).1) same)) disk (array ∙ ap (λ (o : Option (List ℕ × ℕ)). (shown o).0) same)

pub LearnedBelow-none : (labels : ℕ → Option Label) (i : Identity) → LearnedBelow labels i 0
LearnedBelow-none labels i d below = absurd (omega (arith, below))

pub LearnedBelow-next : (labels : ℕ → Option Label) (old new : Identity) (n : ℕ) → known_array (Some new) ≡ known_array (Some old) → IsNoLess old new
    → IfSome (labels n) (λ l. n < old.disks → l.disk ≡ n → l.array ≡ old.array → IsTakenOver new l) → LearnedBelow labels old n → LearnedBelow labels new (n + 1)
LearnedBelow-next labels old new n same kept at learned d below = elim (cases_lt d n) [
  | inl before ↦ owed_kept (labels d) old new d same kept (learned d before)
  | inr past ↦ let is : d ≡ n = omega (arith, below, past) in
      subst (λ (k : ℕ). IfSome (labels k) (λ l. k < new.disks → l.disk ≡ k → l.array ≡ new.array → IsTakenOver new l)) (sym is) (owed_new (labels n) old new n same at)
]

apart_by : (at by : ℕ → Option Label) (i : Identity) (l : Label) (d e : ℕ) → at e ≡ by e → IsApart i at l d e → IsApart i by l d e
apart_by at by i l d e same is = subst (λ (o : Option Label). IsApart i (λ _. o) l d e) same is

knows_by : (at by : ℕ → Option Label) (e d known : ℕ) → at e ≡ by e → Knows at e d known → Knows by e d known
knows_by at by e d known same is = subst (λ (o : Option Label). Knows (λ _. o) e d known) same is

others_by : (at by : ℕ → Option Label) (i : Identity) (l : Label) (d : ℕ) (m : Misfit) → ((e : ℕ) → e < 8 → at e ≡ by e) → SuitsOthers i at l d (Some m) → SuitsOthers i by l d (Some m)
others_by at by i l d Foreign is so = absurd so
others_by at by i l d (Moved disk) is so = absurd so
others_by at by i l d (Old generation known) is so = absurd so
others_by at by i l d (New generation known) is (told, (e, (below, (apart, knows)))) =
    (told, (e, (below, (apart_by at by i l d e (is e below) apart, knows_by at by e d known (is e below) knows))))
others_by at by i l d (Bare known) is so = absurd so

none_by : (at by : ℕ → Option Label) (i : Identity) (o : Option Label) (d : ℕ) → ((e : ℕ) → e < 8 → at e ≡ by e)
    → IfSome o (λ l. SuitsOthers i at l d None) → IfSome o (λ l. SuitsOthers i by l d None)
none_by at by i None d is so = tt
none_by at by i (Some l) d is so = λ e below apart. so e below (apart_by by at i l d e (sym (is e below)) apart)

one_by : (at by : ℕ → Option Label) (i : Identity) (o : Option Label) (d : ℕ) (m : Misfit) → ((e : ℕ) → e < 8 → at e ≡ by e)
    → IsSomeAnd o (λ l. SuitsOthers i at l d (Some m)) → IsSomeAnd o (λ l. SuitsOthers i by l d (Some m))
one_by at by i None d m is so = absurd so
one_by at by i (Some l) d m is so = others_by at by i l d m is so

-- what is said of an image beside these labels is so beside equal ones
suits_by : (at by : ℕ → Option Label) (i : Identity) (tail : Tail) (d : ℕ) (o : Option Misfit) → ((e : ℕ) → e < 8 → at e ≡ by e)
    → SuitsBeside i at tail d o → SuitsBeside i by tail d o
suits_by at by i tail d None is so = (so.0, none_by at by i (label_of tail) d is so.1)
suits_by at by i tail d (Some m) is so = elim so [
  | inl alone ↦ inl alone
  | inr beside ↦ inr (beside.0, one_by at by i (label_of tail) d m is beside.1)
]

true_by : (at by : ℕ → Option Label) (i : Identity) (tail : Tail) (d : ℕ) (o : Option Misfit) → ((e : ℕ) → e < 8 → at e ≡ by e)
    → IfSome o (λ m. (d < i.disks) × SuitsBeside i at tail d (Some m)) → IfSome o (λ m. (d < i.disks) × SuitsBeside i by tail d (Some m))
true_by at by i tail d None is so = tt
true_by at by i tail d (Some m) is so = (so.0, suits_by at by i tail d (Some m) is so.1)

-- what was read names the array, what its labels know is known, and each label fits
pub IsFitting-by : (labels : List (Option Label)) (read now : List Image) (i : Identity) (known : Option Identity) → Names (label_in labels) (Some i)
    → ((d : ℕ) → d < 8 → label_in labels d ≡ label_at read d) → map image_tail now ≡ map image_tail read → known ≡ Some i → Fit (label_in labels) now i
    → AreUnnamed (label_at now) ⊎ IsSomeAnd known (λ j. IsKnownBy (label_at now) j × Fit (label_at now) now j)
IsFitting-by labels read now i known names is same known_is fit =
    let at : (d : ℕ) → d < 8 → label_in labels d ≡ label_at now d = (λ d below. is d below ∙ sym (ap (λ (l : List Tail). label_of (get_or l d Other)) same)) in
    elim names [
      | inl none ↦ inl (unnamed_by (label_in labels) (label_at now) at none)
      | inr named ↦ inr (subst (λ (o : Option Identity). IsSomeAnd o (λ j. IsKnownBy (label_at now) j × Fit (label_at now) now j)) (sym known_is) (
        known_by (label_in labels) (label_at now) i at named,
        λ d within. suits_by (label_in labels) (label_at now) i (tail_at now d) d None at (fit d within),
      ))
    ]

-- what was read names the array, or no label names one
pub Names-by : (labels : List (Option Label)) (read now : List Image) (i : Identity) (known : Option Identity) → Names (label_in labels) (Some i)
    → ((d : ℕ) → d < 8 → label_in labels d ≡ label_at read d) → map image_tail now ≡ map image_tail read → known ≡ Some i → Names (label_at now) known
Names-by labels read now i known names is same known_is =
    let at : (d : ℕ) → d < 8 → label_in labels d ≡ label_at now d = (λ d below. is d below ∙ sym (ap (λ (l : List Tail). label_of (get_or l d Other)) same)) in
    elim names [
      | inl none ↦ inl (unnamed_by (label_in labels) (label_at now) at none)
      | inr named ↦ inr (subst (λ (o : Option Identity). IsSomeAnd o (IsKnownBy (label_at now))) (sym known_is) (known_by (label_in labels) (label_at now) i at named))
    ]

pub Names-none : (labels : List (Option Label)) (images : List Image) (known : Option Identity) → Names (label_in labels) None
    → ((d : ℕ) → d < 8 → label_in labels d ≡ label_at images d) → Names (label_at images) known
Names-none labels images known names is = elim names [
  | inl none ↦ inl (unnamed_by (label_in labels) (label_at images) is none)
  | inr never ↦ absurd never
]

-- an array that got a number while these images were read has got it where they are looked at too
pub IsDrawn-by : (labels : List (Option Label)) (read now : List Image) (i : Identity) (known : Option Identity)
    → ((d : ℕ) → d < 8 → label_in labels d ≡ label_at read d) → map image_tail now ≡ map image_tail read → map image_slot now ≡ map image_slot read → known ≡ Some i
    → (AreUnnamed (label_in labels) → IsDrawn read i) → AreUnnamed (label_at now) → IfSome known (IsDrawn now)
IsDrawn-by labels read now i known is tails slots known_is drawn none =
    let at : (d : ℕ) → d < 8 → label_at now d ≡ label_in labels d = (λ d below. ap (λ (l : List Tail). label_of (get_or l d Other)) tails ∙ sym (is d below)) in
    let was : IsDrawn read i = drawn (unnamed_by (label_at now) (label_in labels) at none) in
    subst (λ (o : Option Identity). IfSome o (IsDrawn now)) (sym known_is) (record {
      awake = λ d within. subst (λ (l : List Slot). (get_or l d vacant_slot).power ≢ Parked) (sym slots) (was.awake d within);
      new = was.new;
    })

-- where no misfit was kept before the walk
pub AreTrueMisfits-by : (labels : List (Option Label)) (start read now : List Image) (i : Identity) (known : Option Identity) → map image_misfit read ≡ map image_misfit start
    → ((d : ℕ) → d < 8 → label_in labels d ≡ label_at read d) → map image_tail now ≡ map image_tail read → known ≡ Some i
    → (AreTrueMisfits (label_in labels) read (Some i) → AreTrueMisfits (label_in labels) now (Some i)) → ((d : ℕ) → misfit_at start d ≡ None) → AreTrueMisfits (label_at now) now known
AreTrueMisfits-by labels start read now i known same is tails known_is walk none =
    let at : (d : ℕ) → d < 8 → label_in labels d ≡ label_at now d = (λ d below. is d below ∙ sym (ap (λ (l : List Tail). label_of (get_or l d Other)) tails)) in
    let walked : AreTrueMisfits (label_in labels) now (Some i) = walk (AreTrueMisfits-none (label_in labels) read (Some i) (λ d. ap (λ (l : List (Option Misfit)). get_or l d None) same ∙ none d)) in
    subst (λ (o : Option Identity). AreTrueMisfits (label_at now) now o) (sym known_is)
    (λ d. true_by (label_in labels) (label_at now) i (tail_at now d) d (misfit_at now d) at (walked d))

pub misfit-set_other : (images : List Image) (d : ℕ) (x : Image) (e : ℕ) → e ≢ d → misfit_at (set images d x) e ≡ misfit_at images e
misfit-set_other images d x e not = ap (λ (l : List (Option Misfit)). get_or l e None) (map-set image_misfit images d x) ∙ get_or-set_other (map image_misfit images) d e (image_misfit x) None not

-- a misfit that was put into a slot, and is true by what was read there
pub misfit_here : (labels : ℕ → Option Label) (images : List Image) (d : ℕ) (y x : Image) (tail : Tail) (i : Identity) (m : Misfit) → d < length images → y ≡ get_or images d y
    → map image_tail (set images d x) ≡ map image_tail images → image_misfit x ≡ Some m → tail ≡ image_tail y → d < i.disks → SuitsBeside i labels tail d (Some m)
    → IsSomeAnd (misfit_at (set images d x) d) (λ n. (d < i.disks) × SuitsBeside i labels (tail_at (set images d x) d) d (Some n))
misfit_here labels images d y x tail i m within is tails told read below suits =
    let at : tail_at (set images d x) d ≡ tail = ap (λ (l : List Tail). get_or l d Other) tails ∙ get_or-map image_tail images d y Other within ∙ ap image_tail (sym is) ∙ sym read in
    let here : misfit_at (set images d x) d ≡ Some m = ap (λ (l : List (Option Misfit)). get_or l d None) (map-set image_misfit images d x)
    ∙ get_or-set_same (map image_misfit images) d (image_misfit x) None (rw (length-map images image_misfit) within) ∙ told in
    subst (λ (o : Option Misfit). IsSomeAnd o (λ n. (d < i.disks) × SuitsBeside i labels (tail_at (set images d x) d) d (Some n))) (sym here)
    (below, subst (λ (t : Tail). SuitsBeside i labels t d (Some m)) (sym at) suits)
