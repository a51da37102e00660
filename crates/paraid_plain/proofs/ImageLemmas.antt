-- What the slots of an image hold, before and after one of them changes.
use Rattle.std.proofs.Common.{◌≡◌, ◌≢◌, ℕ, ◌<◌, ◌≤◌, ◌&&◌, nat_lt, Bool, true, false, List, [], length, map, get_or, set, refl, sym, ◌∙◌, ap, inl, inr, arith}
use Rattle.std.proofs.lemmas.Bool.{cases_eq, cases_lt}
use Rattle.std.proofs.lemmas.Bool.Decides.{nat_tests}
use Rattle.std.proofs.lemmas.List.{map-set, get_or-set_same, get_or-set_other, length-map, length-set, get_or-map, get_or_default, get_or_past}
use Rattle.paraid_base.specs.declared.block.Block.{Block}
use Rattle.paraid_base.specs.Xor.{zero_block}
use Rattle.paraid_rack.specs.declared.call.Power.{Power}
use Rattle.paraid_rack.specs.declared.call.Power.TheVariants.{Absent}
use Rattle.paraid_rack.specs.Disks.{Disks, is_present, with_at}
use Rattle.paraid_rack.specs.Trail.{Beginning, beginning, initial}
use Rattle.paraid_rack.proofs.AtomsLemmas.{at_case}
use Rattle.paraid_image.specs.Neutral.{overwrite}
use Rattle.paraid_image.specs.Sides.{has_place, stored_block}
use Rattle.paraid_plain.specs.declared.image.ImageSlot.{ImageSlot}
use Rattle.paraid_plain.specs.Images.{beginning_in, disks_by}

-- a slot that does not exist
abbrev nothing : Beginning
nothing = record { power = Absent; blocks = [] }

-- the slots as a start
abbrev start_of : List ImageSlot → List Beginning
start_of slots = map beginning_in slots

beginning_here : (slots : List ImageSlot) (d : ℕ) (y : ImageSlot) → d < length slots → y ≡ get_or slots d y → beginning (start_of slots) d ≡ beginning_in y
beginning_here slots d y within is = get_or-map beginning_in slots d y nothing within ∙ ap beginning_in (sym is)

beginning_past : (slots : List ImageSlot) (d : ℕ) → length slots ≤ d → beginning (start_of slots) d ≡ nothing
beginning_past slots d past = get_or_past (start_of slots) d nothing (simp length-map past)

module _ (slots : List ImageSlot) (d : ℕ) (y : ImageSlot) (within : d < length slots) (is : y ≡ get_or slots d y) where
  pub power_here : (disks_by slots).power d ≡ y.power
  unfolding disks_by initial
  power_here = ap (λ (b : Beginning). b.power) (beginning_here slots d y within is)

  pub size_here : (disks_by slots).size d ≡ length y.blocks.items
  unfolding disks_by initial
  size_here = ap (λ (b : Beginning). length b.blocks) (beginning_here slots d y within is)

  pub block_here : (p : ℕ) → (disks_by slots).block d p ≡ get_or y.blocks.items p zero_block
  unfolding disks_by initial
  block_here p = ap (λ (b : Beginning). get_or b.blocks p zero_block) (beginning_here slots d y within is)

module _ (slots : List ImageSlot) (d : ℕ) (past : length slots ≤ d) where
  pub power_past : (disks_by slots).power d ≡ Absent
  unfolding disks_by initial
  power_past = ap (λ (b : Beginning). b.power) (beginning_past slots d past)

  pub size_past : (disks_by slots).size d ≡ 0
  unfolding disks_by initial
  size_past = ap (λ (b : Beginning). length b.blocks) (beginning_past slots d past)

-- what an index gives is what is there
pub read_here : {w : Block} (blocks : List Block) (p : ℕ) (found : Block) → found ≡ get_or blocks p found → p < length blocks → w ≡ get_or blocks p zero_block → found ≡ w
read_here blocks p found is within here = is ∙ get_or_default blocks p found zero_block within ∙ sym here

-- a place that is there is in a slot that is there
pub slot_exists : (slots : List ImageSlot) (d p : ℕ) → p < (disks_by slots).size d → d < length slots
slot_exists slots d p within = elim (cases_lt d (length slots)) [
  | inl lt ↦ lt
  | inr past ↦ absurd (omega (arith, size_past slots d past))
]

both_parts : (b : Bool) (p n : ℕ) → (b && nat_lt p n) ≡ true → (b ≡ true) × (p < n)
both_parts true p n h = (refl, grind (arith, nat_tests))
both_parts false p n h = cc

-- a place is there on a present disk that is large enough
pub has_place_parts : (i : Disks) (d p : ℕ) → has_place i d p ≡ true → (is_present (i.power d) ≡ true) × (p < i.size d)
has_place_parts i d p h = both_parts (is_present (i.power d)) p (i.size d) h

pub stored_none : (i : Disks) (d p : ℕ) → has_place i d p ≡ false → stored_block i d p ≡ zero_block
unfolding stored_block
stored_none i d p h = rw h refl

pub stored_some : (i : Disks) (d p : ℕ) → has_place i d p ≡ true → stored_block i d p ≡ i.block d p
unfolding stored_block
stored_some i d p h = rw h refl

pub same_disks : (a b : Disks) → ((d : ℕ) → a.power d ≡ b.power d) → ((d : ℕ) → a.size d ≡ b.size d) → ((d p : ℕ) → a.block d p ≡ b.block d p)
    → ((d p : ℕ) → a.loose d p ≡ b.loose d p) → a ≡ b
same_disks a b power size block loose = λ i. record {
  power = λ d. power d i;
  size = λ d. size d i;
  block = λ d p. block d p i;
  loose = λ d p. loose d p i;
}

-- a slot after one of them was replaced
module _ (slots : List ImageSlot) (d : ℕ) (x y : ImageSlot) (within : d < length slots) (is : y ≡ get_or slots d y) where
  set_same : (e : ℕ) → e ≡ d → beginning (start_of (set slots d x)) e ≡ beginning_in x
  set_same e same =
      ap (beginning (start_of (set slots d x))) same
      ∙ ap (λ (start : List Beginning). beginning start d) (map-set beginning_in slots d x)
      ∙ get_or-set_same (start_of slots) d (beginning_in x) nothing (simp length-map within)

  set_other : (e : ℕ) → e ≢ d → beginning (start_of (set slots d x)) e ≡ beginning (start_of slots) e
  set_other e not =
      ap (λ (start : List Beginning). beginning start e) (map-set beginning_in slots d x)
      ∙ get_or-set_other (start_of slots) d e (beginning_in x) nothing not

  -- what stays the same of this slot stays the same of each
  set_keeps : {A : Type 0} (f : Beginning → A) → f (beginning_in x) ≡ f (beginning_in y) → (e : ℕ)
      → f (beginning (start_of (set slots d x)) e) ≡ f (beginning (start_of slots) e)
  set_keeps {A} f kept e = elim (cases_eq e d) [
    | inl same ↦ ap f (set_same e same) ∙ kept ∙ sym (ap f (ap (beginning (start_of slots)) same ∙ beginning_here slots d y within is))
    | inr not ↦ ap f (set_other e not)
  ]

  pub disks-set_power : x.blocks.items ≡ y.blocks.items → disks_by (set slots d x) ≡ record (disks_by slots) { power = with_at (disks_by slots).power d x.power }
  unfolding disks_by initial
  disks-set_power kept = same_disks (disks_by (set slots d x)) (record (disks_by slots) { power = with_at (disks_by slots).power d x.power })
      (λ e. at_case (λ (w : Power). (disks_by (set slots d x)).power e ≡ w) (disks_by slots).power d x.power e
      (λ same. ap (λ (b : Beginning). b.power) (set_same e same))
      (λ not. ap (λ (b : Beginning). b.power) (set_other e not)))
      (λ e. set_keeps (λ (b : Beginning). length b.blocks) (ap (λ (l : List Block). length l) kept) e)
      (λ e p. set_keeps (λ (b : Beginning). get_or b.blocks p zero_block) (ap (λ (l : List Block). get_or l p zero_block) kept) e)
      (λ e p. refl)

  pub disks-set_block : (place : ℕ) (b : Block) → place < length y.blocks.items → x.power ≡ y.power → x.blocks.items ≡ set y.blocks.items place b
      → disks_by (set slots d x) ≡ overwrite (disks_by slots) d place b
  unfolding disks_by initial
  disks-set_block place b l kept changed = same_disks (disks_by (set slots d x)) (overwrite (disks_by slots) d place b)
      (λ e. set_keeps (λ (s : Beginning). s.power) kept e)
      (λ e. set_keeps (λ (s : Beginning). length s.blocks) (ap (λ (bs : List Block). length bs) changed ∙ length-set y.blocks.items place b) e)
      (λ e p. at_case (λ (f : ℕ → Block). (disks_by (set slots d x)).block e p ≡ f p) (disks_by slots).block d (with_at ((disks_by slots).block d) place b) e
      (λ same. ap (λ (s : Beginning). get_or s.blocks p zero_block) (set_same e same) ∙ ap (λ (bs : List Block). get_or bs p zero_block) changed
      ∙ sym (at_case (λ (w : Block). w ≡ get_or (set y.blocks.items place b) p zero_block) ((disks_by slots).block d) place b p
      (λ here. sym (ap (λ (q : ℕ). get_or (set y.blocks.items place b) q zero_block) here ∙ get_or-set_same y.blocks.items place b zero_block l))
      (λ there. block_here slots d y within is p ∙ sym (get_or-set_other y.blocks.items place p b zero_block there))))
      (λ not. ap (λ (s : Beginning). get_or s.blocks p zero_block) (set_other e not)))
      (λ e p. refl)
