-- A geometry is made again from the list of its gears
use Rattle.std.specs.Prelude.{◌≡◌, ℕ, ◌-◌, ◌≤◌, ◌<◌, List, Bool, true, false, Result, Ok, Err, IfOk, IfErr, length, slice_index, slice_index_or, refl}
use Rattle.std.proofs.Common.{arith, ap, sym, subst, inl, inr, ◌∙◌, suc}
use Rattle.std.proofs.Props.{props}
use Rattle.std.proofs.lemmas.Bool.{cases_lt}
use Rattle.std.proofs.lemmas.Grind.{common_steps}
use Rattle.std.proofs.lemmas.List.{get_or_default, same_lists}
use mathlib.Core.HLevel.{is_prop→PathP}
use Rattle.paraid_base.specs.declared.geometry.Geometry.{Geometry}
use Rattle.paraid_base.specs.declared.geometry.GeoFault.{GeoFault}
use Rattle.paraid_base.specs.declared.geometry.GeoFault.TheVariants.{Disks, Rows, Gears}
use Rattle.paraid_base.specs.Gears.{IsGearList, IsGeoFault, AreFlagsOf, is_bad_gear}
use Rattle.paraid_record.specs.Codes.{gear_list}
use Rattle.paraid_record.proofs.GearLemmas.{ascends}

pub same_geometry : (a b : Geometry) → a.disks ≡ b.disks → a.rows ≡ b.rows → a.gears ≡ b.gears → a ≡ b
same_geometry a b d r f = λ i. record {
  disks = d i;
  rows = r i;
  gears = f i;
  disks_low = is_prop→PathP (λ j. 3 ≤ d j) (λ j. hlevel props) a.disks_low b.disks_low i;
  disks_high = is_prop→PathP (λ j. d j ≤ 8) (λ j. hlevel props) a.disks_high b.disks_high i;
  rows_low = is_prop→PathP (λ j. 1 ≤ r j) (λ j. hlevel props) a.rows_low b.rows_low i;
  rows_high = is_prop→PathP (λ j. r j ≤ 65536) (λ j. hlevel props) a.rows_high b.rows_high i;
  long = is_prop→PathP (λ j. length (f j) ≡ 9) (λ j. hlevel props) a.long b.long i;
  gears_low = is_prop→PathP (λ j. (n : ℕ) → slice_index_or (f j) n false ≡ true → 3 ≤ n) (λ j. hlevel props) a.gears_low b.gears_low i;
  gears_high = is_prop→PathP (λ j. (n : ℕ) → slice_index_or (f j) n false ≡ true → n ≤ d j) (λ j. hlevel props) a.gears_high b.gears_high i;
  last = is_prop→PathP (λ j. slice_index_or (f j) (d j) false ≡ true) (λ j. hlevel props) a.last b.last i;
}

good_gear : (n k x before : ℕ) → 3 ≤ x → x ≤ n → (0 < k → before < x) → (gears : List ℕ) → slice_index gears k ≡ x → slice_index gears (k - 1) ≡ before
    → is_bad_gear n gears k ≡ false
good_gear n k x before low high up gears e f = rw (e, f) (grind (arith, common_steps))

gear_list-good : (g : Geometry) (k : ℕ) → k < length (gear_list g) → is_bad_gear g.disks (gear_list g) k ≡ false
gear_list-good g k l =
    let up = ascends g 9 in
    let flagged = up.member k l in
    let before : 0 < k → slice_index (gear_list g) (k - 1) < slice_index (gear_list g) k = λ p.
    let s : suc (k - 1) ≡ k = omega arith in
    let inside : suc (k - 1) < length (gear_list g) = omega arith in
    let a : slice_index (gear_list g) (k - 1) < slice_index (gear_list g) (suc (k - 1)) = up.ascend (k - 1) inside in
    rw s at a in
    good_gear g.disks k (slice_index (gear_list g) k) (slice_index (gear_list g) (k - 1)) (g.gears_low _ flagged) (g.gears_high _ flagged) before (gear_list g) refl refl

gear_list-last : (g : Geometry) → (0 < length (gear_list g)) × (slice_index (gear_list g) (length (gear_list g) - 1) ≡ g.disks)
gear_list-last g =
    let up = ascends g 9 in
    let found = up.has g.disks (let h = g.disks_high in omega arith) g.last in
    elim (cases_lt (suc found.0) (length (gear_list g))) [
      | inl h ↦
          let above = up.ascend found.0 h in
          let top = g.gears_high _ (up.member (suc found.0) h) in
          absurd (omega (arith, found.2))
      | inr h ↦
          let e : length (gear_list g) - 1 ≡ found.0 = omega (arith, found.1) in
          (omega (arith, found.1), ap (slice_index (gear_list g)) e ∙ found.2)
    ]

no_fault : (g : Geometry) (fault : GeoFault) → IsGeoFault g.disks g.rows (gear_list g) fault → ⊥
no_fault g (Disks value) f = f.1 g.disks_low g.disks_high
no_fault g (Rows value) f = f.3 g.rows_low g.rows_high
no_fault g (Gears at) f = elim (cases_lt at (length (gear_list g))) [
  | inl h ↦ let bad = f.4.member h in let good = gear_list-good g at h in let clash : true ≡ false = sym bad ∙ good in absurd (cc)
  | inr h ↦
      let e : at ≡ length (gear_list g) = let w = f.4.within in omega arith in
      let last = gear_list-last g in
      f.4.whole e last.0 last.1
]

same_flag : (g : Geometry) (flags : List Bool) → AreFlagsOf (gear_list g) (length (gear_list g)) flags → (a : ℕ) → slice_index_or flags a false ≡ slice_index_or g.gears a false
same_flag g flags marks a =
    let up = ascends g 9 in
    elim (slice_index_or flags a false) as (λ b. slice_index_or flags a false ≡ b → b ≡ slice_index_or g.gears a false) [
      | true ↦ λ e.
          let found = marks.only a e in
          sym (ap (λ (n : ℕ). slice_index_or g.gears n false) (sym found.2) ∙ up.member found.0 found.1)
      | false ↦ λ e.
          elim (slice_index_or g.gears a false) as (λ b. slice_index_or g.gears a false ≡ b → false ≡ b) [
            | true ↦ λ f.
                let found = up.has a (let h = g.gears_high a f in let t = g.disks_high in omega arith) f in
                let marked = marks.each found.0 found.1 in
                sym e ∙ sym (ap (λ (n : ℕ). slice_index_or flags n false) found.2) ∙ marked
            | false ↦ λ f. refl
          ] refl
    ] refl

pub same_flags : (g h : Geometry) → AreFlagsOf (gear_list g) (length (gear_list g)) h.gears → h.gears ≡ g.gears
same_flags g h marks = same_lists h.gears g.gears (h.long ∙ sym g.long) (λ k d l.
    get_or_default h.gears k d false l
    ∙ same_flag g h.gears marks k
    ∙ get_or_default g.gears k false d (let a = h.long in let b = g.long in omega arith))

-- what is made from the numbers and the gears of `g` is `g`
pub made_again : (g : Geometry) (disks rows : ℕ) (gears : List ℕ) (made : Result Geometry GeoFault)
    → disks ≡ g.disks → rows ≡ g.rows → gears ≡ gear_list g
    → IfOk made (λ h. (h.disks ≡ disks) × (h.rows ≡ rows))
    → IfOk made (λ h. IsGearList disks gears × AreFlagsOf gears (length gears) h.gears)
    → IfErr made (IsGeoFault disks rows gears)
    → made ≡ Ok g
made_again g disks rows gears (Ok h) d r l numbers lists fault =
    let P : List ℕ → Type 0 = λ xs. AreFlagsOf xs (length xs) h.gears in
    let marks = subst P l lists.1 in
    ap Ok (same_geometry h g (numbers.0 ∙ d) (numbers.1 ∙ r) (same_flags g h marks))
made_again g disks rows gears (Err f) d r l numbers lists fault =
    let P : ℕ → Type 0 = λ n. IsGeoFault n rows gears f in
    let Q : ℕ → Type 0 = λ n. IsGeoFault g.disks n gears f in
    let R : List ℕ → Type 0 = λ xs. IsGeoFault g.disks g.rows xs f in
    absurd (no_fault g f (subst R l (subst Q r (subst P d fault))))
