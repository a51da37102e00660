-- What labels say of an image and of its array.
use Rattle.std.specs.Prelude.{◌≡◌, ◌≢◌, ◌<◌, ◌≤◌, ◌⊎◌, ◌&&◌, ℕ, List, Option, None, Some, IfSome, IsSomeAnd, bytes_eq, if◌then◌else◌, nat_lt, option_map, slice_index, slice_index_or, true}
use Rattle.paraid_base.specs.Sums.{sum_before}
use Rattle.paraid_base.specs.Told.{HasRisen}
use Rattle.paraid_imgrack.specs.declared.identity.Identity.{Identity}
use Rattle.paraid_imgrack.specs.declared.identity.Misfit.{Misfit}
use Rattle.paraid_imgrack.specs.declared.identity.Misfit.TheVariants.{Moved, Foreign, Old, New, Bare}
use Rattle.paraid_imgrack.specs.declared.label.Label.{Label}
use Rattle.paraid_imgrack.specs.declared.tail.Tail.{Tail}
use Rattle.paraid_imgrack.specs.declared.tail.Tail.TheVariants.{Blank, Torn, Label as HasLabel, Other, Odd, Unread}
use Rattle.paraid_rack.specs.declared.call.Power.{Power}
use Rattle.paraid_rack.specs.declared.call.Power.TheVariants.{Spinning, Parked, Absent}

-- Which array is known, and how many disks it has: where this stays, a known array is not
-- forgotten.
abbrev pub known_array : Option Identity → Option (List ℕ × ℕ)
known_array known = option_map (λ (i : Identity). (i.array, i.disks)) known

-- the label behind the blocks
abbrev pub label_of : Tail → Option Label
label_of Blank = None
label_of Torn = None
label_of (HasLabel l) = Some l
label_of Other = None
label_of Odd = None
label_of Unread = None

-- A label may be written behind blocks with this tail: it is none of those that are left alone.
abbrev pub CanHaveLabel : Tail → Type 0
CanHaveLabel tail = (tail ≢ Other) × ((tail ≢ Odd) × (tail ≢ Unread))

-- An image with this label belongs into this slot: it is of the array and of the slot, and no older
-- than it is known to be.
pub record FitsSlot (i : Identity) (l : Label) (slot : ℕ) : Type 0 where
  pub array : l.array ≡ i.array
  pub disk : l.disk ≡ slot
  pub age : slot < 8 → slice_index i.known slot ≤ l.generation

-- that an image with this label belongs into this slot, or why it does not
abbrev pub Suits : Identity → Label → ℕ → Option Misfit → Type 0
Suits i l slot None = FitsSlot i l slot
Suits i l slot (Some Foreign) = l.array ≢ i.array
Suits i l slot (Some (Moved disk)) = (disk ≡ l.disk) × (l.disk ≢ slot)
Suits i l slot (Some (Old generation known)) = (generation ≡ l.generation)
    × ((generation < known) × (slot < 8 → known ≡ slice_index i.known slot))
Suits i l slot (Some (New generation known)) = ⊥
Suits i l slot (Some (Bare known)) = ⊥

-- The label of this slot says of its own image a generation that no image which was read knows of.
-- It says too that disk e was of that generation or of a later one by then, so disk e had been
-- told.
pub record IsUnheardOf (i : Identity) (l : Label) (slot e : ℕ) : Type 0 where
  pub low : slot < 8
  pub less : slice_index i.known slot < slice_index l.known slot
  pub heard : slice_index l.known slot ≤ slice_index l.known e

-- Label l of a slot says that the others were told its generation, and that disk e had it, or a
-- later one, by then; and label m of disk e does not know it: the two images are of different
-- times. A disk past the slot is told after label l is written, so it counts only where m is of a
-- later generation than l knows.
pub record IsOfAnotherTime (l m : Label) (slot e : ℕ) : Type 0 where
  pub low : slot < 8
  pub told : slice_index l.known slot ≡ l.generation
  pub less : slice_index m.known slot < slice_index l.known slot
  pub heard : slice_index l.known slot ≤ slice_index l.known e
  pub after : (e < slot) ⊎ (slice_index l.known e < m.generation)

-- The image of disk e, by its label, belongs into its slot of the array as far as it is known, and
-- is of another time than this label of a slot.
abbrev pub IsApart : Identity → (ℕ → Option Label) → Label → ℕ → ℕ → Type 0
IsApart i labels l slot e = IsSomeAnd (labels e)
    (λ m. (e < i.disks) × (FitsSlot i m e × IsOfAnotherTime l m slot e))

-- what the label of disk e knows of a slot
abbrev pub Knows : (ℕ → Option Label) → ℕ → ℕ → ℕ → Type 0
Knows labels e slot known = IsSomeAnd (labels e) (λ m. known ≡ slice_index m.known slot)

-- that no label is of another time than this one of a slot, or what one that is knows of it
abbrev pub SuitsOthers : Identity → (ℕ → Option Label) → Label → ℕ → Option Misfit → Type 0
SuitsOthers i labels l slot None = (e : ℕ) → e < 8 → IsApart i labels l slot e → ⊥
SuitsOthers i labels l slot (Some Foreign) = ⊥
SuitsOthers i labels l slot (Some (Moved disk)) = ⊥
SuitsOthers i labels l slot (Some (Old generation known)) = ⊥
SuitsOthers i labels l slot (Some (New generation known)) = (generation ≡ l.generation)
    × ((e : ℕ) × ((e < 8) × (IsApart i labels l slot e × Knows labels e slot known)))
SuitsOthers i labels l slot (Some (Bare known)) = ⊥

-- The image of disk e was seen, and is of a time before this label of a slot.
pub record IsBehind (i : Identity) (l : Label) (slot e : ℕ) : Type 0 where
  pub seen : 0 < slice_index i.seen e
  pub before : (slice_index i.seen e < slice_index l.known e) ⊎ IsUnheardOf i l slot e

-- An image with this label that was parked until now belongs into its slot: it fits, and no image
-- that was seen is of a time before it.
pub record FitsLate (i : Identity) (l : Label) (slot : ℕ) : Type 0 where
  pub fits : FitsSlot i l slot
  pub newest : (e : ℕ) → e < 8 → IsBehind i l slot e → ⊥

-- The image fits, and one of those that were seen is of a time before it.
pub record IsNewer (i : Identity) (l : Label) (slot : ℕ) : Type 0 where
  pub fits : FitsSlot i l slot
  pub behind : (e : ℕ) × ((e < 8) × IsBehind i l slot e)

-- that an image that was parked until now belongs into this slot, or why it does not
abbrev pub SuitsLate : Identity → Label → ℕ → Option Misfit → Type 0
SuitsLate i l slot None = FitsLate i l slot
SuitsLate i l slot (Some Foreign) = Suits i l slot (Some Foreign)
SuitsLate i l slot (Some (Moved disk)) = Suits i l slot (Some (Moved disk))
SuitsLate i l slot (Some (Old generation known)) = Suits i l slot (Some (Old generation known))
SuitsLate i l slot (Some (New generation known)) =
    IsNewer i l slot × ((generation ≡ l.generation) × (slot < 8 → known ≡ slice_index i.known slot))
SuitsLate i l slot (Some (Bare known)) = ⊥

-- that an image with nothing that could be a label belongs into this slot, since nothing is known
-- of the slot; or that the slot is known, so its image had a label
abbrev pub SuitsBare : Identity → ℕ → Option Misfit → Type 0
SuitsBare i slot None = slot < 8 → slice_index i.known slot ≡ 0
SuitsBare i slot (Some Foreign) = ⊥
SuitsBare i slot (Some (Moved disk)) = ⊥
SuitsBare i slot (Some (Old generation known)) = ⊥
SuitsBare i slot (Some (New generation known)) = ⊥
SuitsBare i slot (Some (Bare known)) = (0 < known) × (slot < 8 → known ≡ slice_index i.known slot)

-- That an image with this tail belongs into this slot, or why it does not. One is bare where
-- nothing, zeros or a tail of another length stand behind its blocks. Other bytes of a label's
-- length, also of one that was cut short, say nothing.
abbrev pub SuitsTail : Identity → Tail → ℕ → Option Misfit → Type 0
SuitsTail i (HasLabel l) slot misfit = Suits i l slot misfit
SuitsTail i Blank slot misfit = SuitsBare i slot misfit
SuitsTail i Odd slot misfit = SuitsBare i slot misfit
SuitsTail i Torn slot misfit = misfit ≡ None
SuitsTail i Other slot misfit = misfit ≡ None
SuitsTail i Unread slot misfit = misfit ≡ None

-- that an image with this tail, which was parked until now, belongs into this slot, or why it does
-- not
abbrev pub SuitsTailLate : Identity → Tail → ℕ → Option Misfit → Type 0
SuitsTailLate i (HasLabel l) slot misfit = SuitsLate i l slot misfit
SuitsTailLate i Blank slot misfit = SuitsBare i slot misfit
SuitsTailLate i Odd slot misfit = SuitsBare i slot misfit
SuitsTailLate i Torn slot misfit = misfit ≡ None
SuitsTailLate i Other slot misfit = misfit ≡ None
SuitsTailLate i Unread slot misfit = misfit ≡ None

-- An image with this tail belongs into this slot: its label fits the slot; or it is bare and
-- nothing is known of the slot; or its tail says nothing.
abbrev pub FitsTail : Identity → Tail → ℕ → Type 0
FitsTail i tail slot = SuitsTail i tail slot None

-- That an image with this tail belongs into this slot beside the others, whose labels these are;
-- or why it does not, by itself or by another one's label.
abbrev pub SuitsBeside : Identity → (ℕ → Option Label) → Tail → ℕ → Option Misfit → Type 0
SuitsBeside i labels tail slot None =
    FitsTail i tail slot × IfSome (label_of tail) (λ l. SuitsOthers i labels l slot None)
SuitsBeside i labels tail slot (Some misfit) = SuitsTail i tail slot (Some misfit)
    ⊎ (FitsTail i tail slot
    × IsSomeAnd (label_of tail) (λ l. SuitsOthers i labels l slot (Some misfit)))

-- An image with this tail that was parked until now belongs into this slot: its label fits, and no
-- image that was seen is of a time before it; or it is bare and nothing is known of the slot; or
-- its tail says nothing.
abbrev pub FitsTailLate : Identity → Tail → ℕ → Type 0
FitsTailLate i tail slot = SuitsTailLate i tail slot None

-- a label of this generation for this disk, which knows of the others what is known
pub record IsLabelOf (i : Identity) (disk : ℕ) (l : Label) : Type 0 where
  pub array : l.array ≡ i.array
  pub here : l.disk ≡ disk
  pub disks : l.disks ≡ i.disks
  pub generation : l.generation ≡ i.generation
  pub known : (e : ℕ) → e ≢ disk → slice_index l.known e ≡ slice_index i.known e

-- what was read behind the blocks of an image with this power: of one that does not spin nothing,
-- so its tail says nothing
abbrev pub read_tail_of : Power → Tail → Tail
read_tail_of Spinning tail = tail
read_tail_of Parked tail = Other
read_tail_of Absent tail = Other

-- the label of a slot
abbrev pub label_in : List (Option Label) → ℕ → Option Label
label_in labels d = slice_index_or labels d None

-- no label says that its slot is one of its array
abbrev pub AreUnnamed : (ℕ → Option Label) → Type 0
AreUnnamed labels = (d : ℕ) → d < 8 → IfSome (labels d) (λ l. l.disks ≤ d)

-- one for the image of a slot with this label, if the slot is one of the array that `l` names and
-- the image is of it
abbrev pub one_of_array : Label → ℕ → Option Label → ℕ
one_of_array l d None = 0
one_of_array l d (Some m) = if nat_lt d l.disks && bytes_eq m.array l.array then 1 else 0

-- how many images in the slots of the array that this label names are of it
unfoldable pub of_array : (ℕ → Option Label) → Label → ℕ
of_array labels l = sum_before (λ d. one_of_array l d (labels d)) 8

-- the first label whose slot is one of its array
pub record IsFirst (labels : ℕ → Option Label) (l : Label) : Type 0 where
  pub slot : ℕ
  pub low : slot < 8
  pub here : labels slot ≡ Some l
  pub within : slot < l.disks
  pub before : (e : ℕ) → e < slot → IfSome (labels e) (λ m. m.disks ≤ e)

-- no image in a slot of the array that this label names is of another array, by its label
abbrev pub IsUndisputed : (ℕ → Option Label) → Label → Type 0
IsUndisputed labels l =
    (d : ℕ) → d < 8 → d < l.disks → IfSome (labels d) (λ m. m.array ≡ l.array)

-- More images are of the array of this label than of that of `first`, and of that of each label in
-- a slot before.
pub record IsOver (labels : ℕ → Option Label) (first l : Label) : Type 0 where
  pub slot : ℕ
  pub low : slot < 8
  pub here : labels slot ≡ Some l
  pub more : of_array labels first < of_array labels l
  pub before : (e : ℕ)
      → e < slot → IfSome (labels e) (λ m. of_array labels m < of_array labels l)

-- Of this label, and of that of a slot where there is one, it is that whose array more images are
-- of; the first where as many are.
abbrev pub IsCommoner : (ℕ → Option Label) → Label → Option Label → Label → Type 0
IsCommoner labels most label result =
    ((result ≡ most) × IfSome label (λ l. of_array labels l ≤ of_array labels most))
    ⊎ ((label ≡ Some result) × (of_array labels most < of_array labels result))

-- Most images are of the array of this label. Where as many are of another, it is `first`, or else
-- the one in the first slot.
pub record IsOfMost (labels : ℕ → Option Label) (first l : Label) : Type 0 where
  pub most : (d : ℕ)
      → d < 8 → IfSome (labels d) (λ m. of_array labels m ≤ of_array labels l)
  pub place : (l ≡ first) ⊎ IsOver labels first l

-- The label that says which array the images are of: the first one, if no image in a slot of its
-- array is of another; else one whose array most are of.
pub record IsDeciding (labels : ℕ → Option Label) (l : Label) : Type 0 where
  pub first : Label
  pub is_first : IsFirst labels first
  pub rule : (IsUndisputed labels first × (l ≡ first))
      ⊎ ((IsUndisputed labels first → ⊥) × IsOfMost labels first l)

-- the label that decides it says that this is the array, and how many disks it has
abbrev pub IsNamed : (ℕ → Option Label) → Identity → Type 0
IsNamed labels i = (d : ℕ) × ((d < 8) × IsSomeAnd (labels d)
    (λ l. IsDeciding labels l × ((l.array ≡ i.array) × (l.disks ≡ i.disks))))

-- Each disk's image is known to be at least as new as this label knows it, and the generation that
-- labels get next is above its own.
pub record IsTakenOver (i : Identity) (l : Label) : Type 0 where
  pub known : (e : ℕ) → e < 8 → slice_index l.known e ≤ slice_index i.known e
  pub past : HasRisen l.generation i.generation

-- what the labels of the array in their slots say of how new images are, is known
abbrev pub IsLearned : (ℕ → Option Label) → Identity → Type 0
IsLearned labels i = (d : ℕ) → d < 8
    → IfSome (labels d) (λ l. d < i.disks → l.disk ≡ d → l.array ≡ i.array → IsTakenOver i l)

-- No image is known to be less new than before, and the generation that labels get next has not
-- fallen. Labels are due as they were.
pub record IsNoLess (old new : Identity) : Type 0 where
  pub known : (e : ℕ) → slice_index old.known e ≤ slice_index new.known e
  pub generation : old.generation ≤ new.generation
  pub due : new.is_new ≡ old.is_new

-- this label is of the array and of this slot, which is one of it
pub record IsOfSlot (i : Identity) (l : Label) (slot : ℕ) : Type 0 where
  pub within : slot < i.disks
  pub disk : l.disk ≡ slot
  pub array : l.array ≡ i.array

-- The generation of the label of this slot is kept, where there is one of the array and of the
-- slot; else 0.
pub record IsLabelSeen (i : Identity) (label : Option Label) (slot : ℕ) : Type 0 where
  pub here : IfSome label (λ l. IsOfSlot i l slot → slice_index i.seen slot ≡ l.generation)
  pub none : IfSome label (λ l. IsOfSlot i l slot → ⊥) → slice_index i.seen slot ≡ 0

-- of each slot it is kept how new its label was as it was read
abbrev pub AreSeen : (ℕ → Option Label) → Identity → Type 0
AreSeen labels i = (d : ℕ) → d < 8 → IsLabelSeen i (labels d) d

-- No image is known, and none was seen; and all are due to get a label.
pub record KnowsNone (i : Identity) : Type 0 where
  pub due : i.is_new ≡ true
  pub known : (e : ℕ) → slice_index i.known e ≡ 0
  pub seen : (e : ℕ) → slice_index i.seen e ≡ 0

-- Of the image of this disk alone something else may be known than before: that it is of the
-- generation that labels get now, which has not fallen.
pub record KeepsOthers (old new : Identity) (disk : ℕ) : Type 0 where
  pub generation : old.generation ≤ new.generation
  pub known : (e : ℕ) → e ≢ disk → slice_index new.known e ≡ slice_index old.known e
  pub seen : (e : ℕ) → e ≢ disk → slice_index new.seen e ≡ slice_index old.seen e
  pub own : ((slice_index new.known disk ≡ slice_index old.known disk)
      × (slice_index new.seen disk ≡ slice_index old.seen disk))
      ⊎ ((slice_index new.known disk ≡ new.generation)
      × (slice_index new.seen disk ≡ new.generation))

-- What is known of the array by its labels: which it is, how new its images are, and how new each
-- label was as it was read. All images are due to get a label of the next generation.
pub record IsKnownBy (labels : ℕ → Option Label) (i : Identity) : Type 0 where
  pub due : i.is_new ≡ true
  pub named : IsNamed labels i
  pub learned : IsLearned labels i
  pub seen : AreSeen labels i

-- where a label names an array, what is known is known by the labels
abbrev pub Names : (ℕ → Option Label) → Option Identity → Type 0
Names labels known = AreUnnamed labels ⊎ IsSomeAnd known (IsKnownBy labels)

-- one of the labels
abbrev pub IsAmong : (ℕ → Option Label) → Label → Type 0
IsAmong labels l = (d : ℕ) × ((d < 8) × (labels d ≡ Some l))
