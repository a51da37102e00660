-- The table shows the map of the disks with which the array is served.
use Rattle.std.specs.Prelude.{◌≡◌, ◌≢◌, ℕ, ◌*◌, ◌/◌, ◌%◌, ◌<◌, ◌≤◌, ◌⊎◌, ◌==◌, ◌&&◌, nat_lt, Bool, true, false, [], Option, Some, None, slice_index, if◌then◌else◌}
use Rattle.std.specs.Int.{bit_at}
use Rattle.std.proofs.Common.{refl, sym, ◌∙◌, ap, subst, arith, inl, inr}
use Rattle.std.proofs.lemmas.Bool.{cases_eq, cases_lt, false≢true}
use Rattle.std.proofs.lemmas.Bool.Decides.{nat_tests}
use Rattle.paraid_base.specs.declared.block.Block.{Block}
use Rattle.paraid_base.specs.declared.geometry.Geometry.{Geometry}
use Rattle.paraid_base.specs.History.{History}
use Rattle.paraid_base.specs.Log.{log_least}
use Rattle.paraid_base.specs.Regions.{disk_size, map_count, map_place_of}
use Rattle.paraid_base.specs.Xor.{zero_block}
use Rattle.paraid_rack.specs.Disks.{Disks, is_present}
use Rattle.paraid_record.specs.declared.meta.Meta.{Meta}
use Rattle.paraid_record.specs.declared.meta.Setup.{Setup}
use Rattle.paraid_record.specs.Range.{IsInRange}
use Rattle.paraid_image.specs.Content.{view_by}
use Rattle.paraid_image.specs.Out.{IsMissing, first_absent, or_else, out_disk}
use Rattle.paraid_image.specs.Sides.{has_place}
use Rattle.paraid_image.specs.Sound.{ContentOk}
use Rattle.paraid_image.specs.Spot.{map_bit, map_disk}
use Rattle.paraid_image.specs.Standing.{contents}
use Rattle.paraid_image.proofs.OutLemmas.{missing_is_out, out_missing}
use Rattle.paraid_recover.specs.Map.{ShowsMap}

-- a bit of the map depends on one block
pub bit_same : (g : Geometry) (a b : ℕ → Block) (r d : ℕ) → a (map_place_of g r) ≡ b (map_place_of g r) → map_bit g a r d ≡ map_bit g b r d
unfolding map_bit
bit_same g a b r d same = ap (λ (x : Block). bit_at (slice_index x.bytes (r % 512)) d == 1) same

-- a block past the log of a disk that has it
pub contents_there : (s : Disks) (d p : ℕ) → has_place s d p ≡ true → log_least ≤ p → contents s [] d p ≡ s.block d p
unfolding contents
contents_there s d p there far =
    let low : nat_lt p log_least ≡ false = grind (arith, nat_tests) in
    ap (λ (x : Bool). if x then zero_block else (if has_place s d p then s.block d p else zero_block)) low
    ∙ ap (λ (x : Bool). if x then s.block d p else zero_block) there

pub place_there : (s : Disks) (d p : ℕ) → is_present (s.power d) ≡ true → p < s.size d → has_place s d p ≡ true
place_there s d p here low = ap (λ (x : Bool). x && nat_lt p (s.size d)) here ∙ (grind (arith, nat_tests))

pub map_place_low : (m : Meta) (r : ℕ) → r < 512 * map_count m.setup.geometry → map_place_of m.setup.geometry r < disk_size m.setup.geometry
map_place_low m r low = let rows = m.setup.geometry.rows_low in omega arith

-- the lower log disk that is not out is not out
pub map_disk_in : (out : Option ℕ) → (map_disk out < 2) × (out ≢ Some (map_disk out))
map_disk_in None = (omega arith, λ is. let z : None ≡ Some 0 = is in cc)
map_disk_in (Some d) = split (0 == d) refl
  where
    split : (x : Bool) → (0 == d) ≡ x → (map_disk (Some d) < 2) × (Some d ≢ Some (map_disk (Some d)))
    split true is =
        let at : map_disk (Some d) ≡ 1 = ap (λ (x : Bool). if x then 1 else 0) is in
        let zero : 0 ≡ d = grind (arith, nat_tests) in
        (omega arith, λ same. let z : d ≡ map_disk (Some d) = cc in omega arith)
    split false is =
        let at : map_disk (Some d) ≡ 0 = ap (λ (x : Bool). if x then 1 else 0) is in
        let apart : 0 ≢ d = (λ z. absurd (false≢true (sym is ∙ grind (arith, nat_tests)))) in
        (omega arith, λ same. let z : d ≡ map_disk (Some d) = cc in apart (omega arith))

-- where log disk 0 is not out, it is that one
pub map_disk_zero : (out : Option ℕ) → out ≢ Some 0 → map_disk out ≡ 0
map_disk_zero None not = refl
map_disk_zero (Some d) not = split (0 == d) refl
  where
    split : (x : Bool) → (0 == d) ≡ x → map_disk (Some d) ≡ 0
    split true is = let zero : 0 ≡ d = grind (arith, nat_tests) in absurd (not (ap Some (sym zero)))
    split false is = ap (λ (x : Bool). if x then 1 else 0) is

-- a missing disk is the out disk
pub missing_out : (power : ℕ → _) (n : Meta) (d : ℕ) → IsInRange n → ((a b : ℕ) → IsMissing power n a → IsMissing power n b → a ≡ b) → IsMissing power n d → out_disk power n ≡ Some d
missing_out power n d in_range one missing = elim missing.is [
  | inl gone ↦ missing_is_out power n d in_range one missing gone
  | inr name ↦ ap (λ (o : Option ℕ). or_else o (first_absent power n.setup.geometry.disks)) name
]

-- a disk of the array that is not out is there, with all of the map
pub there_by : (t : Disks) (n : Meta) (d : ℕ) → IsInRange n → ((a b : ℕ) → IsMissing t.power n a → IsMissing t.power n b → a ≡ b) → d < n.setup.geometry.disks → out_disk t.power n ≢ Some d
    → is_present (t.power d) ≡ true
there_by t n d in_range one low not = split (is_present (t.power d)) refl
  where
    split : (x : Bool) → is_present (t.power d) ≡ x → is_present (t.power d) ≡ true
    split true here = here
    split false off = absurd (not (missing_out t.power n d in_range one (record { disk = low; is = inl off })))

module _ (slots : ℕ) (meta m : Meta) (h k_h : History) (k n_k : ℕ) (s e : Disks) (setup : m.setup ≡ meta.setup) (range_s : IsInRange meta) (range : IsInRange m)
    (single_s : (a b : ℕ) → IsMissing s.power meta a → IsMissing s.power meta b → a ≡ b) (single : (a b : ℕ) → IsMissing e.power m a → IsMissing e.power m b → a ≡ b)
    (content_s : ContentOk slots s.power s.size (view_by meta s.power (contents s [])) h k) (content : ContentOk slots e.power e.size (view_by m e.power (contents e [])) k_h n_k)
    (far : (d p : ℕ) → log_least ≤ p → e.block d p ≡ s.block d p) (stays : (d : ℕ) → IsMissing s.power meta d → IsMissing e.power m d) where
  abbrev g : Geometry
  g = m.setup.geometry

  geometry_is : g ≡ meta.setup.geometry
  geometry_is = ap (λ (x : Setup). x.geometry) setup

  abbrev z : ℕ
  z = map_disk (out_disk e.power m)

  z_low : z < m.setup.geometry.disks
  z_low = let l = (map_disk_in (out_disk e.power m)).0 in let t = m.setup.geometry.disks_low in omega arith

  z_shown : (r : ℕ) → r < 512 * map_count g → contents e [] z (map_place_of g r) ≡ e.block z (map_place_of g r)
  z_shown r low =
      let here = there_by e m z range single z_low (map_disk_in (out_disk e.power m)).1 in
      let large = content.kept.disks.large z z_low here (map_disk_in (out_disk e.power m)).1 in
      let place = map_place_low m r low in
      contents_there e z (map_place_of g r) (place_there e z (map_place_of g r) here (omega arith)) (omega arith)

  -- with no disk out as the map was read both log disks have the same map
  log_there : (d r : ℕ) → d < 2 → out_disk s.power meta ≡ None → r < 512 * map_count g → contents s [] d (map_place_of g r) ≡ s.block d (map_place_of g r)
  log_there d r low none below =
      let t = meta.setup.geometry.disks_low in
      let not : out_disk s.power meta ≢ Some d = (λ is. let y : None ≡ Some d = sym none ∙ is in cc) in
      let here = there_by s meta d range_s single_s (omega arith) not in
      let large = content_s.kept.disks.large d (omega arith) here not in
      let place = map_place_low meta r (subst (λ (x : Geometry). r < 512 * map_count x) geometry_is below) in
      contents_there s d (map_place_of g r) (place_there s d (map_place_of g r) here (omega arith)) (omega arith)

  mirrored : (r : ℕ) → out_disk s.power meta ≡ None → r < 512 * map_count g → e.block 0 (map_place_of g r) ≡ e.block 1 (map_place_of g r)
  mirrored r none below =
      let low = subst (λ (x : Geometry). r < 512 * map_count x) geometry_is below in
      far 0 (map_place_of g r) (omega arith) ∙ sym (log_there 0 r (omega arith) none below)
      ∙ content_s.kept.map.mirrored (r / 512) (omega arith) (λ is. let y : None ≡ Some 0 = sym none ∙ is in cc) (λ is. let y : None ≡ Some 1 = sym none ∙ is in cc)
      ∙ log_there 1 r (omega arith) none below ∙ sym (far 1 (map_place_of g r) (omega arith))

  module _ (y : ℕ) (dirty : ℕ → ℕ → Bool) (which : ((out_disk s.power meta ≡ None) × (y < 2)) ⊎ (y ≡ map_disk (out_disk s.power meta)))
      (shows : ShowsMap g (e.block y) dirty) (past : (r d : ℕ) → g.rows ≤ r → dirty r d ≡ false) where
    both : (r : ℕ) → out_disk s.power meta ≡ None → y < 2 → r < 512 * map_count g → e.block y (map_place_of g r) ≡ e.block z (map_place_of g r)
    both r none low below =
        let l = (map_disk_in (out_disk e.power m)).0 in
        let same = mirrored r none below in
        elim (cases_eq y z) [
          | inl is ↦ ap (λ (x : ℕ). e.block x (map_place_of g r)) is
          | inr apart ↦ elim (cases_eq y 0) [
            | inl first ↦
                let second : z ≡ 1 = omega arith in
                ap (λ (x : ℕ). e.block x (map_place_of g r)) first ∙ same ∙ ap (λ (x : ℕ). e.block x (map_place_of g r)) (sym second)
            | inr not ↦
                let one : y ≡ 1 = omega arith in
                let first : z ≡ 0 = omega arith in
                ap (λ (x : ℕ). e.block x (map_place_of g r)) one ∙ sym same ∙ ap (λ (x : ℕ). e.block x (map_place_of g r)) (sym first)
          ]
        ]

    block_is : (r : ℕ) → r < 512 * map_count g → e.block y (map_place_of g r) ≡ e.block z (map_place_of g r)
    block_is r below = elim which [
      | inl none ↦ both r none.0 none.1 below
      | inr is ↦ split (out_disk s.power meta) refl is
    ]
      where
        split : (o : Option ℕ) → out_disk s.power meta ≡ o → y ≡ map_disk (out_disk s.power meta) → e.block y (map_place_of g r) ≡ e.block z (map_place_of g r)
        split None none is = both r none (let a = is ∙ ap map_disk none in omega arith) below
        split (Some d) some is =
            let end : out_disk e.power m ≡ Some d = missing_out e.power m d range single (stays d (out_missing s.power meta d range_s some)) in
            ap (λ (x : ℕ). e.block x (map_place_of g r)) (is ∙ ap map_disk some ∙ sym (ap map_disk end))

    pub map_shown : (r d : ℕ) → r < 512 * map_count g → dirty r d ≡ (view_by m e.power (contents e [])).dirty r d
    map_shown r d below = elim (cases_lt r g.rows) [
      | inl low ↦ shows r d low ∙ bit_same g (e.block y) (contents e [] z) r d (block_is r below ∙ sym (z_shown r below))
      | inr from ↦ past r d from ∙ sym (split from ((view_by m e.power (contents e [])).dirty r d) refl)
    ]
      where
        split : g.rows ≤ r → (x : Bool) → (view_by m e.power (contents e [])).dirty r d ≡ x → (view_by m e.power (contents e [])).dirty r d ≡ false
        split from false is = is
        split from true is = absurd (let l : r < g.rows = content.kept.map.rows r d below is in omega arith)
