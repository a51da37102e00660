-- Where the map shows the bits of what is stored, the disks are kept well.
use Rattle.std.specs.Prelude.{◌≡◌, ◌≢◌, ℕ, ◌+◌, ◌*◌, ◌/◌, ◌%◌, ◌==◌, ◌<◌, ◌≤◌, Bool, true, false, not, Option, Some, None, slice_index, [], if◌then◌else◌}
use Rattle.std.specs.Int.{bit_at}
use Rattle.std.proofs.Common.{refl, sym, ◌∙◌, ap, subst, arith, inl, inr}
use Rattle.std.proofs.lemmas.Bool.{cases_eq}
use Rattle.std.proofs.lemmas.Nat.{div-add-mod', mod_below}
use Rattle.paraid_base.specs.declared.block.Block.{Block}
use Rattle.paraid_base.specs.declared.geometry.Geometry.{Geometry}
use Rattle.paraid_base.specs.Log.{log_least, map_block_place}
use Rattle.paraid_base.specs.Regions.{disk_size, hard_place_of, map_count, soft_place_of}
use Rattle.paraid_base.specs.Sums.{xor_upto}
use Rattle.paraid_base.specs.Xor.{zero_block}
use Rattle.paraid_base.proofs.RegionsLemmas.{hard_place_below, soft_place_below}
use Rattle.paraid_image.specs.Sound.{IsWellKept, AreDisks}
use Rattle.paraid_plan.specs.WriteTargets.{overlaid_blocks, map_targets, soft_count}
use Rattle.paraid_dirty.specs.Table.{ShowsBits}
use Rattle.paraid_plan.specs.StoredCells.{AreBits, IsUnitKept, Lies, StoresCells, hard_at}
use Rattle.paraid_plan.specs.StoredCells.IsUnitKept.{there}
use Rattle.paraid_plan.proofs.KeptLemmas.{value_is, well_kept}
use Rattle.paraid_plan.proofs.LiesLemmas.{fill_gear, lies_map}
use Rattle.paraid_plan.proofs.OutsLemmas.{alone_by, map_disk_cases}
use Rattle.paraid_rack.specs.declared.call.Power.{Power}
use Rattle.paraid_rack.specs.Disks.{with_at}
use Rattle.paraid_rack.proofs.AtomsLemmas.{with_at_other, with_at_same}
use Rattle.paraid_record.specs.declared.meta.Meta.{Meta}
use Rattle.paraid_record.specs.Codes.{phase_to}
use Rattle.paraid_record.specs.Range.{IsInRange}
use Rattle.paraid_image.specs.Out.{named_out}
use Rattle.paraid_image.specs.Spot.{View, map_bit, map_disk}
use Rattle.paraid_image.specs.Standing.{Contents}
use Rattle.paraid_image.specs.Value.{value}

-- the bits that these blocks of the map show
abbrev shown : (ℕ → Block) → ℕ → ℕ → Bool
shown map q e = bit_at (slice_index (map (q / 512)).bytes (q % 512)) e == 1

pub map_disk_in : (o : Option ℕ) → o ≢ Some (map_disk o)
map_disk_in o k = elim (map_disk_cases o) [
  | inl at ↦ at.1 (k ∙ ap Some at.0)
  | inr at ↦ let z : ◌≡◌ {A = Option ℕ} (Some 0) (Some 1) = sym at.1 ∙ k ∙ ap Some at.0 in let no : ◌≡◌ {A = ℕ} 0 1 = cc in absurd (omega arith)
]

pub map_disk_low : (o : Option ℕ) → map_disk o < 2
map_disk_low o = elim (map_disk_cases o) [ inl at ↦ let z = at.0 in omega arith | inr at ↦ let z = at.0 in omega arith ]

-- what is stored depends on the dirty bits of the array's rows alone
pub stored_dirty : (power : ℕ → Power) (m : Meta) (out : Option ℕ) (block : Contents) (was now : ℕ → ℕ → Bool) (val : ℕ → ℕ → Block) (map : ℕ → Block)
    → ((q e : ℕ) → q < m.setup.geometry.rows → now q e ≡ was q e) → StoresCells power m out block was val map → StoresCells power m out block now val map
stored_dirty power m out block was now val map same st = record {
  hard = st.hard;
  soft = st.soft;
  filled = st.filled;
  lies = st.lies;
  clean = λ q e lq le c. st.clean q e lq le (sym (same q e lq) ∙ c);
  copies = record {
    cells = λ q e lq low le ls h. st.copies.cells q e lq low le ls (ap (λ (z : Bool). not (hard_at m z e)) (sym (same q e lq)) ∙ h);
    sums = st.copies.sums;
  };
  fills = st.fills;
  pads = st.pads;
}

stored_map : (power : ℕ → Power) (m : Meta) (out : Option ℕ) (block : Contents) (dirty : ℕ → ℕ → Bool) (val : ℕ → ℕ → Block) (map : ℕ → Block) (j : ℕ) (b : Block)
    → IsInRange m → out ≡ named_out m.out → j < map_count m.setup.geometry
    → StoresCells power m out block dirty val map → StoresCells power m out (overlaid_blocks (map_targets m j b) block) dirty val (with_at map j b)
stored_map power m out block dirty val map j b in_range named l st = record {
  hard = st.hard;
  soft = st.soft;
  filled = st.filled;
  lies = lies_map power m out in_range named block st.hard st.soft st.filled map st.lies j b l;
  clean = st.clean;
  copies = st.copies;
  fills = st.fills;
  pads = st.pads;
}

-- and on the blocks of places that are kept alone
pub lies_same : (power : ℕ → Power) (m : Meta) (out : Option ℕ) (block after : Contents) (hard soft filled : ℕ → ℕ → Block) (map : ℕ → Block)
    → IsInRange m → out ≡ named_out m.out
    → ((d u p : ℕ) → d < m.setup.geometry.disks → IsUnitKept power m out d u → log_least ≤ p → p < disk_size m.setup.geometry → after d p ≡ block d p)
    → Lies power m out block hard soft filled map → Lies power m out after hard soft filled map
lies_same power m out block after hard soft filled map in_range named same l =
    let g = m.setup.geometry in
    let low = g.disks_low in
    let high = g.gears_high m.gear in_range.gear in
    record {
      hard_blocks = λ r d lr ld kept. same d r (hard_place_of g r) ld kept (omega arith) (hard_place_below g r lr) ∙ l.hard_blocks r d lr ld kept;
      soft_blocks = λ s e ls le kept.
          same e (g.rows + s) (soft_place_of g m.gear s) (omega arith) kept (omega arith) (soft_place_below g m.gear s in_range.gear ls) ∙ l.soft_blocks s e ls le kept;
      filled_blocks = λ s e ls le.
          let gear = fill_gear m s in_range ls in
          let within = gear.within in
          let top = g.gears_high (phase_to m.phase) gear.is_gear in
          same e s (soft_place_of g (phase_to m.phase) s) (omega arith) (there (λ is. none_out e s ls is)) (omega arith)
          (soft_place_below g (phase_to m.phase) s gear.is_gear (omega arith)) ∙ l.filled_blocks s e ls le;
      map_blocks = λ j x lj lx kept.
          same x (g.rows + soft_count m + j) (map_block_place g j) (omega arith) kept (omega arith) (let rows = g.rows_low in let k = hard_place_below g 0 (omega arith) in omega arith) ∙ l.map_blocks j x lj lx kept;
    }
  where
    none_out : (e s : ℕ) → s < m.fill → out ≡ Some e → ⊥
    none_out e s l is = let z : ◌≡◌ {A = Option ℕ} None (Some e) = sym (named ∙ alone_by m.out m.fill s in_range.shift.still l) ∙ is in cc

stored_none : (power : ℕ → Power) (m : Meta) (out : Option ℕ) (block : Contents) (dirty : ℕ → ℕ → Bool) (val : ℕ → ℕ → Block) (map : ℕ → Block)
    → StoresCells power m out block dirty val map → StoresCells power m out (overlaid_blocks [] block) dirty val map
unfolding overlaid_blocks
stored_none power m out block dirty val map st = st

module _ (slots : ℕ) (power : ℕ → Power) (size : ℕ → ℕ) (m : Meta) (out : Option ℕ) (dirty : ℕ → ℕ → Bool) (block : Contents)
    (in_range : IsInRange m) (named : out ≡ named_out m.out)
    (dirty_shown : (q e : ℕ) → q < 512 * map_count m.setup.geometry → dirty q e ≡ map_bit m.setup.geometry (block (map_disk out)) q e)
    (disks : AreDisks slots power size m out)
    (r : ℕ) (lr : r < m.setup.geometry.rows) (between : Contents) (bits : ℕ → ℕ → Bool) (val : ℕ → ℕ → Block)
    (stored : StoresCells power m out between bits val (λ j. block (map_disk out) (map_block_place m.setup.geometry j)))
    (rows_zero : (q : ℕ) → q < m.setup.geometry.rows → xor_upto (val q) m.setup.geometry.disks ≡ zero_block) (are_bits : AreBits m bits)
    (other_row : (q e : ℕ) → q ≢ r → bits q e ≡ dirty q e)
    (staged : Bool) (shows : Block) (shows_bits : staged ≡ true → ShowsBits shows (r / 512) bits)
    (same_bits : staged ≡ false → (e : ℕ) → bits r e ≡ dirty r e)
    (final : Contents)
    (is_final : (d u p : ℕ) → d < m.setup.geometry.disks → IsUnitKept power m out d u → log_least ≤ p → p < disk_size m.setup.geometry
    → final d p ≡ overlaid_blocks (if staged then map_targets m (r / 512) shows else []) between d p) where
  abbrev v : View
  v = record { meta = m; dirty = dirty; out = out; block = block }

  abbrev g : Geometry
  g = m.setup.geometry

  abbrev n : ℕ
  n = m.setup.geometry.disks

  abbrev map0 : ℕ → Block
  map0 j = block (map_disk v.out) (map_block_place g j)

  -- the map
  abbrev Shows : (ℕ → Block) → Type 0
  Shows map = (q e : ℕ) → q < 512 * map_count g → shown map q e ≡ bits q e

  was_shown : (q e : ℕ) → q < 512 * map_count g → shown map0 q e ≡ v.dirty q e
  unfolding map_bit
  was_shown q e l = sym (dirty_shown q e l)

  row_at : (q j : ℕ) → q / 512 ≡ j → 512 * j + q % 512 ≡ q
  row_at q j is = let e = div-add-mod' q 512 in omega arith

  shows_new : ShowsBits shows (r / 512) bits → Shows (with_at map0 (r / 512) shows)
  shows_new s q e l = elim (cases_eq (q / 512) (r / 512)) [
    | inl is ↦
        ap (λ (z : Block). bit_at (slice_index z.bytes (q % 512)) e == 1) (with_at_same map0 (r / 512) shows (q / 512) is)
        ∙ s.bits (q % 512) e (mod_below q 512 (omega arith)) ∙ ap (λ (z : ℕ). bits z e) (row_at q (r / 512) is)
    | inr not_it ↦
        ap (λ (z : Block). bit_at (slice_index z.bytes (q % 512)) e == 1) (with_at_other map0 (r / 512) shows (q / 512) not_it)
        ∙ was_shown q e l ∙ sym (other_row q e (λ i. not_it (ap (λ (z : ℕ). z / 512) i)))
  ]

  shows_old : ((e : ℕ) → bits r e ≡ v.dirty r e) → Shows map0
  shows_old same q e l = was_shown q e l ∙ sym (elim (cases_eq q r) [
    | inl is ↦ ap (λ (z : ℕ). bits z e) is ∙ same e ∙ ap (λ (z : ℕ). v.dirty z e) (sym is)
    | inr not_it ↦ other_row q e not_it
  ])

  -- what is seen after all targets
  abbrev w : View
  w = record { meta = m; dirty = map_bit m.setup.geometry (final (map_disk out)); out = out; block = final }

  abbrev last : Bool → Contents
  last staged = overlaid_blocks (if staged then map_targets m (r / 512) shows else []) between

  record Ends : Type 0 where
    map : ℕ → Block
    stored_in : StoresCells power m v.out (last staged) bits val map
    shown_now : Shows map

  ends_by : (s : Bool) → staged ≡ s → Ends
  ends_by true is = record {
    map = with_at map0 (r / 512) shows;
    stored_in = subst (λ (f : Contents). StoresCells power m v.out f bits val (with_at map0 (r / 512) shows)) (sym (ap last is))
        (stored_map power m v.out between bits val map0 (r / 512) shows in_range named (let l = lr in omega arith) stored);
    shown_now = shows_new (shows_bits is);
  }
  ends_by false is = record {
    map = map0;
    stored_in = subst (λ (f : Contents). StoresCells power m v.out f bits val map0) (sym (ap last is))
        (stored_none power m v.out between bits val map0 stored);
    shown_now = shows_old (same_bits is);
  }

  ends : Ends
  ends = ends_by staged refl

  stored_final : StoresCells power m v.out final bits val ends.map
  stored_final = record {
    hard = ends.stored_in.hard;
    soft = ends.stored_in.soft;
    filled = ends.stored_in.filled;
    lies = lies_same power m v.out (last staged) final ends.stored_in.hard ends.stored_in.soft ends.stored_in.filled ends.map in_range named is_final ends.stored_in.lies;
    clean = ends.stored_in.clean;
    copies = ends.stored_in.copies;
    fills = ends.stored_in.fills;
    pads = ends.stored_in.pads;
  }

  pub dirty_is : (q e : ℕ) → q < 512 * map_count g → w.dirty q e ≡ bits q e
  unfolding map_bit
  dirty_is q e l =
      ap (λ (z : Block). bit_at (slice_index z.bytes (q % 512)) e == 1)
      (stored_final.lies.map_blocks (q / 512) (map_disk v.out) (omega arith) (map_disk_low v.out) (there (map_disk_in v.out)))
      ∙ ends.shown_now q e l

  bits_now : AreBits m w.dirty
  bits_now = record {
    rows = λ q e l h. are_bits.rows q e l (sym (dirty_is q e l) ∙ h);
    parked = λ q e l h. are_bits.parked q e l (sym (dirty_is q e l) ∙ h);
    disks = λ q e l h. are_bits.disks q e l (sym (dirty_is q e l) ∙ h);
  }

  stored_now : StoresCells power m w.out w.block w.dirty val ends.map
  stored_now = stored_dirty power m v.out final bits w.dirty val ends.map (λ q e l. dirty_is q e (omega arith)) stored_final

  pub kept_now : IsWellKept slots power size w
  kept_now = well_kept power w val ends.map in_range stored_now rows_zero bits_now slots size named disks

  pub value_now : (q e : ℕ) → q < g.rows → e < n → value w q e ≡ val q e
  value_now q e lq le = value_is power w val ends.map in_range stored_now rows_zero bits_now q e lq le
