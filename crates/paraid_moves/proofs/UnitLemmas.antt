-- One unit more of the disk that is out is rebuilt.
use Rattle.std.specs.Prelude.{◌≡◌, ◌≢◌, ℕ, ◌+◌, ◌<◌, ◌≤◌, Bool, true, Some}
use Rattle.std.proofs.Common.{refl, sym, ◌∙◌, ap, arith, inl, inr}
use Rattle.std.proofs.lemmas.Bool.{cases_lt, false≢true}
use Rattle.paraid_base.specs.declared.geometry.Geometry.{Geometry}
use Rattle.paraid_base.specs.Log.{map_block_place}
use Rattle.paraid_base.specs.Regions.{hard_place_of, map_count, map_place_of, soft_place_of}
use Rattle.paraid_base.proofs.RegionsLemmas.{hard_below_soft}
use Rattle.paraid_base.proofs.SumsLemmas.{others_same}
use Rattle.paraid_record.specs.declared.meta.Meta.{Meta}
use Rattle.paraid_record.specs.Range.{IsInRange}
use Rattle.paraid_image.specs.Sound.{AreRebuilt, AreRowsZero, AreStripesZero, stripes_on}
use Rattle.paraid_image.specs.Spot.{View, map_bit, map_disk}
use Rattle.paraid_image.specs.Standing.{Contents, other_log}
use Rattle.paraid_image.specs.Value.{stripe, stripe_rest, value}
use Rattle.paraid_image.proofs.ViewLemmas.{map_bit_same, map_disk_other, value_same}

-- Disk `d` is out, and its block at place `p` is written.
module _ (m : Meta) (d p : ℕ) (block after : Contents) (in_range : IsInRange m) (ld : d < m.setup.geometry.disks)
    (same : (x q : ℕ) → (x ≡ d → q ≢ p) → after x q ≡ block x q) where
  abbrev g : Geometry
  g = m.setup.geometry

  abbrev bits : Contents → ℕ → ℕ → Bool
  bits f = map_bit g (f (map_disk (Some d)))

  abbrev pub before : View
  before = record { meta = m; dirty = bits block; out = Some d; block = block }

  abbrev pub laid : View
  laid = record { meta = m; dirty = bits after; out = Some d; block = after }

  away : (x q : ℕ) → x ≢ d → after x q ≡ block x q
  away x q apart = same x q (λ is. absurd (apart is))

  elsewhere : (q : ℕ) → q ≢ p → after d q ≡ block d q
  elsewhere q apart = same d q (λ is. apart)

  bits_kept : (r e : ℕ) → bits after r e ≡ bits block r e
  bits_kept r e = map_bit_same g (after (map_disk (Some d))) (block (map_disk (Some d))) r e (away (map_disk (Some d)) (map_place_of g r) (map_disk_other d))

  rest_kept : (s : ℕ) → stripe_rest g after m.gear s d ≡ stripe_rest g block m.gear s d
  rest_kept s = others_same (stripe g after m.gear s) (stripe g block m.gear s) d m.gear (λ y l apart. away y (soft_place_of g m.gear s) apart)

  other_apart : d < 2 → other_log d ≢ d
  other_apart l is = absurd (omega arith)

  -- a dirty cell of a parked disk is a unit that writes nothing
  pub row_passed : (q : ℕ) → q < g.rows → m.gear ≤ d → bits block q d ≡ true → AreRebuilt before d q → AreRebuilt before d (q + 1)
  row_passed q lq low bit was = record {
    rows = λ r lr l clean. elim (cases_lt r q) [
      | inl below ↦ was.rows r lr below clean
      | inr above ↦
          let is : r ≡ q = omega arith in
          absurd (false≢true (sym (clean low) ∙ ap (λ (x : ℕ). bits block x d) is ∙ bit))
    ];
    stripes = λ s ls l. absurd (omega arith);
    map_blocks = λ j low_disk lj l. absurd (omega arith);
  }

  module _ (rows : AreRowsZero before) (stripes : AreStripesZero before) where
    kept_value : (r e : ℕ) → r < g.rows → e < g.disks → value laid r e ≡ value before r e
    kept_value r e lr le = value_same m (bits block) (bits after) (Some d) block after d (inr refl) away (λ x y l. bits_kept x y) in_range r e lr le rows stripes

    -- the block of a row holds its value
    pub row_rebuilt : (q : ℕ) → q < g.rows → p ≡ hard_place_of g q → after d p ≡ value before q d → AreRebuilt before d q → AreRebuilt laid d (q + 1)
    row_rebuilt q lq at stored was = record {
      rows = λ r lr l clean. elim (cases_lt r q) [
        | inl below ↦
            elsewhere (hard_place_of g r) (λ is. absurd (omega arith))
            ∙ was.rows r lr below (λ low. sym (bits_kept r d) ∙ clean low) ∙ sym (kept_value r d lr ld)
        | inr above ↦
            let is : r ≡ q = omega arith in
            ap (λ (x : ℕ). after d (hard_place_of g x)) is ∙ ap (after d) (sym at) ∙ stored
            ∙ ap (λ (x : ℕ). value before x d) (sym is) ∙ sym (kept_value r d lr ld)
      ];
      stripes = λ s ls l. absurd (omega arith);
      map_blocks = λ j low_disk lj l. absurd (omega arith);
    }

    -- the block of a stripe is the XOR of the stripe's others
    pub stripe_rebuilt : (t : ℕ) → t < stripes_on before d → p ≡ soft_place_of g m.gear t → after d p ≡ stripe_rest g block m.gear t d
        → AreRebuilt before d (g.rows + t) → AreRebuilt laid d (g.rows + t + 1)
    stripe_rebuilt t lt at stored was = record {
      rows = λ r lr l clean.
          let b = hard_below_soft g r m.gear t lr in
          elsewhere (hard_place_of g r) (λ is. absurd (omega arith))
          ∙ was.rows r lr (omega arith) (λ low. sym (bits_kept r d) ∙ clean low) ∙ sym (kept_value r d lr ld);
      stripes = λ s ls l. elim (cases_lt s t) [
        | inl below ↦ elsewhere (soft_place_of g m.gear s) (λ is. absurd (omega arith)) ∙ was.stripes s ls (omega arith) ∙ sym (rest_kept s)
        | inr above ↦
            let is : s ≡ t = omega arith in
            ap (λ (x : ℕ). after d (soft_place_of g m.gear x)) is ∙ ap (after d) (sym at) ∙ stored
            ∙ ap (λ (x : ℕ). stripe_rest g block m.gear x d) (sym is) ∙ sym (rest_kept s)
      ];
      map_blocks = λ j low_disk lj l. absurd (omega arith);
    }

    -- the map block is that of the other log disk
    pub map_rebuilt : (i : ℕ) → d < 2 → i < map_count g → p ≡ map_block_place g i → after d p ≡ block (other_log d) (map_block_place g i)
        → AreRebuilt before d (g.rows + stripes_on before d + i) → AreRebuilt laid d (g.rows + stripes_on before d + i + 1)
    map_rebuilt i low_disk li at stored was = record {
      rows = λ r lr l clean.
          elsewhere (hard_place_of g r) (λ is. absurd (omega arith))
          ∙ was.rows r lr (omega arith) (λ low. sym (bits_kept r d) ∙ clean low) ∙ sym (kept_value r d lr ld);
      stripes = λ s ls l.
          elsewhere (soft_place_of g m.gear s) (λ is. absurd (omega arith)) ∙ was.stripes s ls (omega arith) ∙ sym (rest_kept s);
      map_blocks = λ j low lj l. elim (cases_lt j i) [
        | inl below ↦
            elsewhere (map_block_place g j) (λ is. absurd (omega arith)) ∙ was.map_blocks j low lj (omega arith)
            ∙ sym (away (other_log d) (map_block_place g j) (other_apart low))
        | inr above ↦
            let is : j ≡ i = omega arith in
            ap (λ (x : ℕ). after d (map_block_place g x)) is ∙ ap (after d) (sym at) ∙ stored
            ∙ ap (λ (x : ℕ). block (other_log d) (map_block_place g x)) (sym is) ∙ sym (away (other_log d) (map_block_place g j) (other_apart low))
      ];
    }
