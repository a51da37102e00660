-- What the write of one cell stages stores the new value in its place.
use Rattle.std.specs.Prelude.{◌≡◌, ℕ, ◌+◌, ◌<◌, ◌≤◌, ◌&&◌, ◌||◌, nat_lt, nat_le, Bool, true, false, not, Option, ◌++◌, if◌then◌else◌}
use Rattle.std.proofs.Common.{refl, sym, ◌∙◌, ap, subst, arith, inl, inr}
use Rattle.std.proofs.lemmas.Bool.{cases_Bool, false≢true, true≢false}
use Rattle.std.proofs.lemmas.Bool.Decides.{nat_tests}
use Rattle.paraid_base.specs.declared.block.Block.{Block}
use Rattle.paraid_base.specs.declared.geometry.Geometry.{Geometry}
use Rattle.paraid_base.specs.Regions.{soft_place_of}
use Rattle.paraid_base.specs.Soft.{soft_disk, soft_parity_disk, soft_stripe}
use Rattle.paraid_base.specs.Xor.{xor}
use Rattle.paraid_base.proofs.SoftLemmas.{soft_parity_disk_below, soft_stripe_below}
use Rattle.paraid_dirty.specs.Table.{table_with_bit}
use Rattle.paraid_plan.specs.WriteTargets.{fill_targets, goes_hard, hard_targets, is_filled, is_written, overlaid_blocks, soft_count, soft_targets, stripe_block_now, target_if, view_with_cell}
use Rattle.paraid_plan.specs.StoredCells.{AreBits, ArePads, AreStripes, Lies, StoresCells, hard_at}
use Rattle.paraid_plan.proofs.KeptLemmas.{soft_parked, stripe_block_is}
use Rattle.paraid_plan.proofs.LayLemmas.{cases_both, changed_at, changed_off, overlaid_blocks-append, lay_none, put, put_at, put_off}
use Rattle.paraid_plan.proofs.LiesLemmas.{fill_gear, lies_filled, lies_hard, lies_soft}
use Rattle.paraid_plan.proofs.StoredLemmas.{hard_is}
use Rattle.paraid_plan.proofs.StripeLemmas.{pads_written, stripes_left, stripes_written}
use Rattle.paraid_rack.specs.declared.call.Power.{Power}
use Rattle.paraid_record.specs.declared.meta.Meta.{Meta}
use Rattle.paraid_record.specs.Codes.{phase_to}
use Rattle.paraid_record.specs.Range.{IsInRange}
use Rattle.paraid_image.specs.Out.{is_out, named_out}
use Rattle.paraid_image.specs.Spot.{View, is_hard, rising_to}
use Rattle.paraid_image.specs.Standing.{Contents}

-- the part of what is stored that belongs to the region that is being filled
record Fills (power : ℕ → Power) (m : Meta) (out : Option ℕ) (block : Contents) (hard soft value : ℕ → ℕ → Block) (map : ℕ → Block) : Type 0 where
  filled : ℕ → ℕ → Block
  lies : Lies power m out block hard soft filled map
  fills : AreStripes m.setup.geometry.disks m.setup.geometry.rows (phase_to m.phase) m.fill (λ r d. true) value filled
  pads : ArePads m.setup.geometry.disks m.setup.geometry.rows (phase_to m.phase) m.fill filled

hard_after_by : (low rising dirty out : Bool) → ((low || (rising && not dirty)) || (rising && not out)) ≡ true → (low || (rising && not false)) ≡ true
hard_after_by true rising dirty out h = refl
hard_after_by false true dirty out h = refl
hard_after_by false false dirty out h = h

hard_after : (v : View) (r d : ℕ) → goes_hard v r d ≡ true → hard_at v.meta false d ≡ true
unfolding goes_hard is_hard hard_at
hard_after v r d h = hard_after_by (nat_lt d v.meta.gear) (nat_lt d (rising_to v.meta.phase)) (v.dirty r d) (is_out v.out d) h

first_false : (a b : Bool) → (a || b) ≡ false → a ≡ false
first_false true b h = absurd (true≢false h)
first_false false b h = refl

was_soft : (v : View) (r d : ℕ) → goes_hard v r d ≡ false → is_hard v r d ≡ false
unfolding goes_hard
was_soft v r d h = first_false (is_hard v r d) _ h

pub goes_parked : (v : View) (r d : ℕ) → not (goes_hard v r d) ≡ true → v.meta.gear ≤ d
goes_parked v r d h = elim (cases_Bool (goes_hard v r d)) [
  | inl is ↦ absurd (false≢true (sym (ap not is) ∙ h))
  | inr is ↦ soft_parked v r d (was_soft v r d is)
]

-- the dirty bits, after one of a cell that lies in the array
pub bits_changed : (m : Meta) (dirty : ℕ → ℕ → Bool) (r d : ℕ) (bit : Bool) → r < m.setup.geometry.rows → d < m.setup.geometry.disks
    → (bit ≡ true → m.gear ≤ d) → AreBits m dirty → AreBits m (table_with_bit dirty r d bit)
bits_changed m dirty r d bit lr ld low bits = record {
  rows = λ q e l h. elim (cases_both q r e d) [
    | inl is ↦ let i : q ≡ r = is.0 in omega arith
    | inr apart ↦ bits.rows q e l (sym (changed_off dirty r d bit q e apart) ∙ h)
  ];
  parked = λ q e l h. elim (cases_both q r e d) [
    | inl is ↦ let j : e ≡ d = is.1 in let b = low (sym (changed_at dirty r d bit q e is.0 is.1) ∙ h) in omega arith
    | inr apart ↦ bits.parked q e l (sym (changed_off dirty r d bit q e apart) ∙ h)
  ];
  disks = λ q e l h. elim (cases_both q r e d) [
    | inl is ↦ let j : e ≡ d = is.1 in omega arith
    | inr apart ↦ bits.disks q e l (sym (changed_off dirty r d bit q e apart) ∙ h)
  ];
}

module _ (power : ℕ → Power) (v : View) (val : ℕ → ℕ → Block) (map : ℕ → Block) (in_range : IsInRange v.meta) (named : v.out ≡ named_out v.meta.out)
    (st : StoresCells power v.meta v.out v.block v.dirty val map) (r d : ℕ) (old new : Block)
    (lr : r < v.meta.setup.geometry.rows) (ld : d < v.meta.setup.geometry.disks) (is_old : val r d ≡ old) where
  abbrev m : Meta
  m = v.meta

  abbrev g : Geometry
  g = v.meta.setup.geometry

  abbrev to : ℕ
  to = phase_to v.meta.phase

  abbrev value : ℕ → ℕ → Block
  value = put val r d new

  -- the copy in the region that is being filled

  module _ (block : Contents) (hard soft : ℕ → ℕ → Block) (l : Lies power v.meta v.out block hard soft st.filled map) where
    abbrev s : ℕ
    s = soft_stripe g.disks to r d

    abbrev fill_parity : Block
    fill_parity = xor (v.block (soft_parity_disk to s) (soft_place_of g to s)) (xor old new)

    abbrev fill_first : Contents
    fill_first = overlaid_blocks (target_if (is_filled v.meta r d) (soft_disk g.disks to r d) (soft_place_of g to s) new) block

    fill_laid : overlaid_blocks (fill_targets v r d old new) block
        ≡ overlaid_blocks (target_if (is_filled v.meta r d) (soft_parity_disk to s) (soft_place_of g to s) fill_parity) fill_first
    fill_laid = overlaid_blocks-append _ _ block

    fills_true : is_filled v.meta r d ≡ true → Fills power m v.out (overlaid_blocks (fill_targets v r d old new) block) hard soft value map
    fills_true h =
        let low : to ≤ d = filled_low (soft_stripe g.disks to r d) h in
        let ls : s < m.fill = filled_within (soft_stripe g.disks to r d) h in
        let gear = fill_gear m s in_range ls in
        let three = g.gears_low to gear.is_gear in
        let copy : ℕ = soft_disk g.disks to r d in
        let parity : ℕ = soft_parity_disk to s in
        let first = lies_filled power m v.out in_range named block hard soft st.filled map l (is_filled v.meta r d) s copy new h ls in
        let second = lies_filled power m v.out in_range named fill_first hard soft (put st.filled s copy new) map first (is_filled v.meta r d) s parity fill_parity h ls in
        record {
          filled = put (put st.filled s copy new) s parity fill_parity;
          lies = subst (λ (f : Contents). Lies power m v.out f hard soft (put (put st.filled s copy new) s parity fill_parity) map) (sym fill_laid) second;
          fills = stripes_written g.disks g.rows to m.fill r d old new fill_parity val st.filled three low ld (λ _ _. true) (λ _ _. true)
              (λ q e apart h. refl) lr ls refl is_old (ap (λ z. xor z (xor old new)) (st.lies.filled_blocks s parity ls (soft_parity_disk_below to s (omega arith)))) st.fills;
          pads = pads_written g.disks g.rows to m.fill r d old new fill_parity val st.filled three low ld lr st.pads;
        }
      where
        filled_low : (z : ℕ) → (nat_le to d && nat_lt z m.fill) ≡ true → to ≤ d
        filled_low z h = grind (arith, nat_tests)

        filled_within : (z : ℕ) → (nat_le to d && nat_lt z m.fill) ≡ true → z < m.fill
        filled_within z h = grind (arith, nat_tests)

    fills_false : is_filled v.meta r d ≡ false → Fills power m v.out (overlaid_blocks (fill_targets v r d old new) block) hard soft value map
    fills_false h = record {
      filled = st.filled;
      lies = subst (λ (f : Contents). Lies power m v.out f hard soft st.filled map)
          (sym (fill_laid ∙ lay_none (is_filled v.meta r d) _ _ fill_parity fill_first h ∙ lay_none (is_filled v.meta r d) _ _ new block h)) l;
      fills = stripes_left g.disks g.rows to m.fill r d new val st.filled (λ _ _. true) (λ _ _. true) (λ q e apart h. refl)
          (λ low ls _. not_filled (soft_stripe g.disks to r d) h low ls) st.fills;
      pads = st.pads;
    }
      where
        not_filled : (z : ℕ) → (nat_le to d && nat_lt z m.fill) ≡ false → to ≤ d → z < m.fill → ⊥
        not_filled z h low l = grind (arith, nat_tests)

    fills_after : Fills power m v.out (overlaid_blocks (fill_targets v r d old new) block) hard soft value map
    fills_after = elim (cases_Bool (is_filled v.meta r d)) [ inl h ↦ fills_true h | inr h ↦ fills_false h ]

  abbrev Stores : Contents → Bool → Type 0
  Stores block bit = StoresCells power v.meta v.out block (table_with_bit v.dirty r d bit) value map

  -- a cell is soft where it was, but for the one that is written
  same_soft : (bit : Bool) (q e : ℕ) → (q ≡ r → e ≡ d → ⊥) → not (hard_at m (table_with_bit v.dirty r d bit q e) e) ≡ true → not (hard_at m (v.dirty q e) e) ≡ true
  same_soft bit q e apart h = ap (λ (z : Bool). not (hard_at m z e)) (sym (changed_off v.dirty r d bit q e apart)) ∙ h

  -- a write to the hard place
  hard_stored : goes_hard v r d ≡ true → Stores (overlaid_blocks (hard_targets v r d new ++ fill_targets v r d old new) v.block) false
  hard_stored h =
      let first = lies_hard power m v.out in_range named v.block st.hard st.soft st.filled map st.lies r d new lr in
      let f = fills_after (overlaid_blocks (hard_targets v r d new) v.block) (put st.hard r d new) st.soft first in
      record {
        hard = put st.hard r d new;
        soft = st.soft;
        filled = f.filled;
        lies = subst (λ (b : Contents). Lies power m v.out b (put st.hard r d new) st.soft f.filled map) (sym (overlaid_blocks-append (hard_targets v r d new) (fill_targets v r d old new) v.block)) f.lies;
        clean = λ q e lq le c. elim (cases_both q r e d) [
          | inl is ↦ put_at st.hard r d new q e is.0 is.1 ∙ sym (put_at val r d new q e is.0 is.1)
          | inr apart ↦ put_off st.hard r d new q e apart ∙ st.clean q e lq le (sym (changed_off v.dirty r d false q e apart) ∙ c) ∙ sym (put_off val r d new q e apart)
        ];
        copies = stripes_left g.disks g.rows m.gear (soft_count m) r d new val st.soft
            (λ q e. not (hard_at m (v.dirty q e) e)) (λ q e. not (hard_at m (table_with_bit v.dirty r d false q e) e)) (same_soft false)
            (λ low ls here. false≢true (sym (ap not (ap (λ (z : Bool). hard_at m z d) (changed_at v.dirty r d false r d refl refl) ∙ hard_after v r d h)) ∙ here))
            st.copies;
        fills = f.fills;
        pads = f.pads;
      }

  -- a write to the copy
  soft_stored : goes_hard v r d ≡ false → Stores (overlaid_blocks (soft_targets v r d old new ++ fill_targets v r d old new) v.block) true
  soft_stored h =
      let soft_was = was_soft v r d h in
      let low = soft_parked v r d soft_was in
      let three = g.gears_low m.gear in_range.gear in
      let s : ℕ = soft_stripe g.disks m.gear r d in
      let copy : ℕ = soft_disk g.disks m.gear r d in
      let parity : ℕ = soft_parity_disk m.gear s in
      let place : ℕ = soft_place_of g m.gear s in
      let y : Block = xor (stripe_block_now v s parity) (xor old new) in
      let ls : s < soft_count m = soft_stripe_below g.disks m.gear r d g.rows (omega arith) low ld lr in
      let lp = soft_parity_disk_below m.gear s (omega arith) in
      let written : ℕ → Bool = λ e. is_written m.out e (g.rows + s) in
      let first = lies_soft power m v.out in_range named v.block st.hard st.soft st.filled map st.lies s copy new ls in
      let second = lies_soft power m v.out in_range named (overlaid_blocks (target_if (written copy) copy place new) v.block) st.hard (put st.soft s copy new) st.filled map first s parity y ls in
      let both = subst (λ (b : Contents). Lies power m v.out b st.hard (put (put st.soft s copy new) s parity y) st.filled map)
      (sym (overlaid_blocks-append (target_if (written copy) copy place new) (target_if (written parity) parity place y) v.block)) second in
      let f = fills_after (overlaid_blocks (soft_targets v r d old new) v.block) st.hard (put (put st.soft s copy new) s parity y) both in
      record {
        hard = st.hard;
        soft = put (put st.soft s copy new) s parity y;
        filled = f.filled;
        lies = subst (λ (b : Contents). Lies power m v.out b st.hard (put (put st.soft s copy new) s parity y) f.filled map)
            (sym (overlaid_blocks-append (soft_targets v r d old new) (fill_targets v r d old new) v.block)) f.lies;
        clean = λ q e lq le c. elim (cases_both q r e d) [
          | inl is ↦ absurd (true≢false (sym (changed_at v.dirty r d true q e is.0 is.1) ∙ c))
          | inr apart ↦ st.clean q e lq le (sym (changed_off v.dirty r d true q e apart) ∙ c) ∙ sym (put_off val r d new q e apart)
        ];
        copies = stripes_written g.disks g.rows m.gear (soft_count m) r d old new y val st.soft three low ld
            (λ q e. not (hard_at m (v.dirty q e) e)) (λ q e. not (hard_at m (table_with_bit v.dirty r d true q e) e)) (same_soft true)
            lr ls (ap not (sym (hard_is v r d) ∙ soft_was)) is_old
            (ap (λ z. xor z (xor old new)) (stripe_block_is power v val map in_range st s parity ls lp)) st.copies;
        fills = f.fills;
        pads = f.pads;
      }

  pub cell_stored : StoresCells power v.meta v.out (view_with_cell v r d old new).block (view_with_cell v r d old new).dirty (put val r d new) map
  cell_stored = elim (cases_Bool (goes_hard v r d)) [
    | inl h ↦ subst (λ (b : Bool). Stores (overlaid_blocks ((if b then hard_targets v r d new else soft_targets v r d old new) ++ fill_targets v r d old new) v.block) (not b)) (sym h) (hard_stored h)
    | inr h ↦ subst (λ (b : Bool). Stores (overlaid_blocks ((if b then hard_targets v r d new else soft_targets v r d old new) ++ fill_targets v r d old new) v.block) (not b)) (sym h) (soft_stored h)
  ]
