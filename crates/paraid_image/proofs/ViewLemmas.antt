-- What blocks stand for does not change with the disk that goes out.
use Rattle.std.specs.Prelude.{◌≡◌, ◌≢◌, ℕ, ◌*◌, ◌/◌, ◌%◌, ◌<◌, ◌≤◌, ◌⊎◌, ◌==◌, ◌&&◌, ◌||◌, nat_lt, Bool, true, false, not, Option, Some, None, slice_index, if◌then◌else◌}
use Rattle.std.proofs.Common.{refl, sym, ◌∙◌, ap, arith, inl, inr}
use Rattle.std.specs.Int.{bit_at}
use Rattle.std.proofs.lemmas.Bool.{cases_eq, false≢true}
use Rattle.std.proofs.lemmas.Bool.Decides.{nat_tests}
use Rattle.paraid_base.specs.declared.block.Block.{Block}
use Rattle.paraid_base.specs.declared.geometry.Geometry.{Geometry}
use Rattle.paraid_base.specs.History.{History}
use Rattle.paraid_base.specs.Cells.{home_disk, home_row}
use Rattle.paraid_base.specs.Log.{map_block_place}
use Rattle.paraid_base.specs.Regions.{hard_place_of, map_count, map_place_of, soft_place_of}
use Rattle.paraid_base.specs.Soft.{soft_disk, soft_stripe, stripe_count}
use Rattle.paraid_base.specs.Sums.{without, xor_upto}
use Rattle.paraid_base.proofs.CellsLemmas.{home_disk_below, home_row_below}
use Rattle.paraid_base.proofs.SoftLemmas.{soft_disk_below, soft_stripe_below}
use Rattle.paraid_base.proofs.SumsLemmas.{lost_member, others_same, xor_upto_same}
use Rattle.paraid_rack.specs.declared.call.Power.{Power}
use Rattle.paraid_record.specs.declared.meta.Meta.{Meta}
use Rattle.paraid_record.specs.Range.{IsInRange}
use Rattle.paraid_image.specs.Content.{blocks_of}
use Rattle.paraid_image.specs.Out.{is_out}
use Rattle.paraid_image.specs.Sound.{AreBlocks, AreDisks, AreRowsZero, AreStripesZero, ContentOk, IsFresh, IsWellKept}
use Rattle.paraid_image.specs.Spot.{View, is_hard, map_bit, map_disk, rising_to}
use Rattle.paraid_image.specs.Standing.{Contents}
use Rattle.paraid_image.specs.Value.{reconstructed_value, soft_value, stored_value, stripe, stripe_rest, value}

out_is : (d e : ℕ) → (d == e) ≡ true → d ≡ e
out_is d e h = grind (arith, nat_tests)

out_is_not : (d e : ℕ) → (d == e) ≡ false → d ≢ e
out_is_not d e h = grind (arith, nat_tests)

pub not_below : (d a : ℕ) (b : Bool) → (nat_lt d a || b) ≡ false → a ≤ d
not_below d a b h = grind (arith, nat_tests)

-- a view, and the view after disk `d` has gone out or, if it was out, has changed
pub record IsWithout (v w : View) (d : ℕ) : Type 0 where
  pub meta : w.meta ≡ v.meta
  pub out : w.out ≡ Some d
  pub was : (v.out ≡ None) ⊎ (v.out ≡ Some d)
  pub block : (x q : ℕ) → x ≢ d → w.block x q ≡ v.block x q
  pub dirty : (r e : ℕ) → r < 512 * map_count v.meta.setup.geometry → w.dirty r e ≡ v.dirty r e
  pub in_range : IsInRange v.meta

module _ (m : Meta) (dirty dirty_after : ℕ → ℕ → Bool) (out_before : Option ℕ) (block block_after : Contents) (d : ℕ)
    (was : (out_before ≡ None) ⊎ (out_before ≡ Some d))
    (same : (x q : ℕ) → x ≢ d → block_after x q ≡ block x q)
    (same_dirty : (r e : ℕ) → r < 512 * map_count m.setup.geometry → dirty_after r e ≡ dirty r e)
    (in_range : IsInRange m) where
  abbrev pub v : View
  v = record { meta = m; dirty = dirty; out = out_before; block = block }

  abbrev pub w : View
  w = record { meta = m; dirty = dirty_after; out = Some d; block = block_after }

  abbrev g : Geometry
  g = m.setup.geometry

  rows_mapped : (r : ℕ) → r < g.rows → r < 512 * map_count g
  rows_mapped r l = omega arith

  hard_same : (r e : ℕ) → r < g.rows → is_hard w r e ≡ is_hard v r e
  unfolding is_hard
  hard_same r e l = ap (λ (t : Bool). nat_lt e m.gear || (nat_lt e (rising_to m.phase) && not t)) (same_dirty r e (rows_mapped r l))

  soft_parked : (r e : ℕ) → is_hard v r e ≡ false → m.gear ≤ e
  unfolding is_hard
  soft_parked r e h = not_below e m.gear _ h

  rest_same : (s x : ℕ) → x ≡ d → stripe_rest g block_after m.gear s x ≡ stripe_rest g block m.gear s x
  rest_same s x is = others_same (stripe g block_after m.gear s) (stripe g block m.gear s) x m.gear
      (λ y l apart. same y (soft_place_of g m.gear s) (λ e. apart (e ∙ sym is)))

  -- the copy of a cell, or what the rest of its stripe makes of it
  copy_same : (s x : ℕ) (here : Bool) → (x == d) ≡ here → x < m.gear → s < stripe_count g.disks g.rows m.gear → AreStripesZero v
      → (if here then stripe_rest g block_after m.gear s x else stripe g block_after m.gear s x)
      ≡ (if is_out out_before x then stripe_rest g block m.gear s x else stripe g block m.gear s x)
  copy_same s x true is lx ls stripes = elim was [
    | inl none ↦ rw none (rest_same s x (out_is x d is) ∙ sym (lost_member (stripe g block m.gear s) x m.gear lx
        (stripes (λ e h. let k : None ≡ Some e = sym none ∙ h in cc) s ls)))
    | inr some ↦ rw (some, is) (rest_same s x (out_is x d is))
  ]
  copy_same s x false is lx ls stripes = elim was [
    | inl none ↦ rw none (same x (soft_place_of g m.gear s) (out_is_not x d is))
    | inr some ↦ rw (some, is) (same x (soft_place_of g m.gear s) (out_is_not x d is))
  ]

  soft_same : (r e : ℕ) → r < g.rows → e < g.disks → is_hard v r e ≡ false → AreStripesZero v → soft_value w r e ≡ soft_value v r e
  unfolding soft_value
  soft_same r e lr le h stripes =
      let low = g.gears_low m.gear in_range.gear in
      let parked = soft_parked r e h in
      copy_same (soft_stripe g.disks m.gear r e) (soft_disk g.disks m.gear r e) (soft_disk g.disks m.gear r e == d) refl
      (soft_disk_below g.disks m.gear r e low) (soft_stripe_below g.disks m.gear r e g.rows (omega arith) parked le lr) stripes

  near_by : (r e : ℕ) (hard : Bool) → is_hard v r e ≡ hard → r < g.rows → e < g.disks → (hard ≡ true → e ≢ d) → AreStripesZero v → stored_value w r e ≡ stored_value v r e
  unfolding stored_value
  near_by r e true h lr le apart stripes = rw (hard_same r e lr, h) (same e (hard_place_of g r) (apart refl))
  near_by r e false h lr le apart stripes = rw (hard_same r e lr, h) (soft_same r e lr le h stripes)

  near_same : (r e : ℕ) → r < g.rows → e < g.disks → (is_hard v r e ≡ true → e ≢ d) → AreStripesZero v → stored_value w r e ≡ stored_value v r e
  near_same r e lr le apart stripes = near_by r e (is_hard v r e) refl lr le apart stripes

  -- where no disk is out, the value is the stored one
  value_near : (r e : ℕ) → is_hard v r e && is_out out_before e ≡ false → value v r e ≡ stored_value v r e
  unfolding value
  value_near r e h = rw h refl

  none_near : (r e : ℕ) → out_before ≡ None → value v r e ≡ stored_value v r e
  none_near r e none = value_near r e (ap (λ (o : Option ℕ). is_hard v r e && is_out o e) none ∙ no (is_hard v r e))
    where
      no : (b : Bool) → b && false ≡ false
      no true = refl
      no false = refl

  value_far : (r e : ℕ) → is_hard v r e ≡ true → is_out out_before e ≡ true → value v r e ≡ xor_upto (without (stored_value v r) e) g.disks
  unfolding value reconstructed_value
  value_far r e h o = rw (h, o) refl

  far_same : (r e : ℕ) → e ≡ d → r < g.rows → e < g.disks → is_hard v r e ≡ true → AreRowsZero v → AreStripesZero v → reconstructed_value w r e ≡ value v r e
  unfolding reconstructed_value
  far_same r e is lr le h rows stripes = elim was [
    | inl none ↦
        others_same (stored_value w r) (value v r) e g.disks (λ x l apart. near_same r x lr l (λ z y. apart (y ∙ sym is)) stripes ∙ sym (none_near r x none))
        ∙ sym (lost_member (value v r) e g.disks le (rows r lr))
    | inr some ↦
        others_same (stored_value w r) (stored_value v r) e g.disks (λ x l apart. near_same r x lr l (λ z y. apart (y ∙ sym is)) stripes)
        ∙ sym (value_far r e h (rw some (yes_out is)))
  ]
    where
      yes_out : e ≡ d → (e == d) ≡ true
      yes_out is = grind (arith, nat_tests)

  value_by : (r e : ℕ) (hard here : Bool) → is_hard v r e ≡ hard → (e == d) ≡ here → r < g.rows → e < g.disks → AreRowsZero v → AreStripesZero v
      → (if hard && here then reconstructed_value w r e else stored_value w r e) ≡ value v r e
  value_by r e true true h is lr le rows stripes = far_same r e (out_is e d is) lr le h rows stripes
  value_by r e true false h is lr le rows stripes =
      near_same r e lr le (λ z. out_is_not e d is) stripes ∙ sym (value_near r e (rw h (elim was [ inl none ↦ rw none refl | inr some ↦ rw some is ])))
  value_by r e false here h is lr le rows stripes =
      near_same r e lr le (λ z. absurd (false≢true (sym h ∙ z))) stripes ∙ sym (value_near r e (rw h refl))

  -- each cell has the value that it had
  pub value_same : (r e : ℕ) → r < g.rows → e < g.disks → AreRowsZero v → AreStripesZero v → value w r e ≡ value v r e
  unfolding value
  value_same r e lr le rows stripes =
      ap (λ (t : Bool). if t && (e == d) then reconstructed_value w r e else stored_value w r e) (hard_same r e lr)
      ∙ value_by r e (is_hard v r e) (e == d) refl refl lr le rows stripes

  was_not : (x : ℕ) → x ≢ d → out_before ≢ Some x
  was_not x apart e = elim was [
    | inl none ↦ let k : None ≡ Some x = sym none ∙ e in cc
    | inr some ↦ let k : Some d ≡ Some x = sym some ∙ e in let y : x ≡ d = cc in apart y
  ]

  -- the blocks are kept well
  pub kept_without : (slots : ℕ) (power power_after : ℕ → Power) (size size_after : ℕ → ℕ)
      → ((e rebuilt : ℕ) → IsFresh power_after m e rebuilt → ⊥) → AreDisks slots power_after size_after m (Some d)
      → IsWellKept slots power size v → IsWellKept slots power_after size_after w
  kept_without slots power power_after size size_after no_fresh ready c = record {
    rows = λ r l. xor_upto_same (value w r) (value v r) g.disks (λ e le. value_same r e l le c.rows c.stripes) ∙ c.rows r l;
    stripes = λ off s l. xor_upto_same (stripe g block_after m.gear s) (stripe g block m.gear s) m.gear
        (λ e le. same e (soft_place_of g m.gear s) (let far_off = off d refl in omega arith))
        ∙ c.stripes (λ e is. elim was [
          | inl none ↦ let z : None ≡ Some e = sym none ∙ is in cc
          | inr some ↦ off e (sym some ∙ is)
        ]) s l;
    filled = λ none. let z : Some d ≡ None = none in cc;
    clean = λ r e lr low le in_array clean.
        let apart : e ≢ d = λ is. in_array (ap Some (sym is)) in
        same e (hard_place_of g r) apart
        ∙ c.clean r e lr low le (was_not e apart) (sym (same_dirty r e (rows_mapped r lr)) ∙ clean)
        ∙ sym (value_same r e lr le c.rows c.stripes);
    rebuilt = λ e rebuilt fresh. absurd (no_fresh e rebuilt fresh);
    map = record {
      mirrored = λ j l first second.
          let zero_apart : 0 ≢ d = λ is. first (ap Some (sym is)) in
          let one_apart : 1 ≢ d = λ is. second (ap Some (sym is)) in
          same 0 (map_block_place g j) zero_apart ∙ c.map.mirrored j l (was_not 0 zero_apart) (was_not 1 one_apart) ∙ sym (same 1 (map_block_place g j) one_apart);
      rows = λ r e l bit. c.map.rows r e l (sym (same_dirty r e l) ∙ bit);
      parked = λ r e l bit. c.map.parked r e l (sym (same_dirty r e l) ∙ bit);
      disks = λ r e l bit. c.map.disks r e l (sym (same_dirty r e l) ∙ bit);
    };
    disks = ready;
  }

  -- and hold what they held
  pub blocks_without : AreRowsZero v → AreStripesZero v → AreBlocks w (blocks_of v)
  blocks_without rows stripes b l =
      let low = g.disks_low in
      value_same (home_row g.disks b) (home_disk g.disks b) (home_row_below g.disks b g.rows (omega arith) l) (home_disk_below g.disks b (omega arith)) rows stripes

  pub content_without : (slots : ℕ) (power power_after : ℕ → Power) (size size_after : ℕ → ℕ) (h : History) (k : ℕ)
      → ((e rebuilt : ℕ) → IsFresh power_after m e rebuilt → ⊥) → AreDisks slots power_after size_after m (Some d)
      → ContentOk slots power size v h k → ContentOk slots power_after size_after w h k
  content_without slots power power_after size size_after h k no_fresh ready c = record {
    kept = kept_without slots power power_after size size_after no_fresh ready c.kept;
    blocks = λ b l. blocks_without c.kept.rows c.kept.stripes b l ∙ c.blocks b l;
  }

pub map_bit_same : (g : Geometry) (f h : ℕ → Block) (r e : ℕ) → f (map_place_of g r) ≡ h (map_place_of g r) → map_bit g f r e ≡ map_bit g h r e
unfolding map_bit
map_bit_same g f h r e is = ap (λ (b : Block). bit_at (slice_index b.bytes (r % 512)) e == 1) is

-- the map that is looked at where a disk other than 0 is out
map_disk_first : (d : ℕ) → d ≢ 0 → map_disk (Some d) ≡ 0
map_disk_first d not = grind (arith, nat_tests)

pub map_disk_other : (d : ℕ) → map_disk (Some d) ≢ d
map_disk_other d e = elim (cases_eq d 0) [
  | inl is ↦ let k : map_disk (Some 0) ≡ 0 = ap (λ (x : ℕ). map_disk (Some x)) (sym is) ∙ e ∙ is in let z : ◌≡◌ {A = ℕ} 1 0 = k in absurd (omega arith)
  | inr not ↦ not (sym e ∙ map_disk_first d not)
]

-- the dirty bits are those that they were
pub dirty_without : (shape : Geometry) (out_before : Option ℕ) (block block_after : Contents) (d : ℕ) → (out_before ≡ None) ⊎ (out_before ≡ Some d)
    → ((x q : ℕ) → x ≢ d → block_after x q ≡ block x q)
    → ((j : ℕ) → j < map_count shape → out_before ≡ None → block 0 (map_block_place shape j) ≡ block 1 (map_block_place shape j))
    → (r e : ℕ) → r < 512 * map_count shape → map_bit shape (block_after (map_disk (Some d))) r e ≡ map_bit shape (block (map_disk out_before)) r e
dirty_without shape out_before block block_after d (inr some) same mirrored r e l =
    map_bit_same shape (block_after (map_disk (Some d))) (block (map_disk out_before)) r e
    (same (map_disk (Some d)) (map_place_of shape r) (map_disk_other d) ∙ ap (λ (o : Option ℕ). block (map_disk o) (map_place_of shape r)) (sym some))
dirty_without shape out_before block block_after d (inl none) same mirrored r e l =
    let place : ℕ = map_place_of shape r in
    let first : block 0 place ≡ block (map_disk out_before) place = ap (λ (o : Option ℕ). block (map_disk o) place) (sym none) in
    map_bit_same shape (block_after (map_disk (Some d))) (block (map_disk out_before)) r e (elim (cases_eq d 0) [
      | inl is ↦
          ap (λ (x : ℕ). block_after (map_disk (Some x)) place) is ∙ same 1 place (λ one. absurd (omega arith))
          ∙ sym (mirrored (r / 512) (omega arith) none) ∙ first
      | inr not ↦ ap (λ (x : ℕ). block_after x place) (map_disk_first d not) ∙ same 0 place (λ zero_is. not (sym zero_is)) ∙ first
    ])
