-- What copies into free places leave, and that they are the copies that the marks ask for.
use Rattle.std.specs.Prelude.{◌≡◌, ◌≢◌, ℕ, ◌+◌, ◌-◌, ◌*◌, ◌/◌, ◌<◌, ◌≤◌, ◌⊎◌, ◌==◌, ◌&&◌, nat_lt, Bool, true, false, Some, None, if◌then◌else◌}
use Rattle.std.proofs.Common.{refl, sym, ◌∙◌, ap, subst, arith, inl, inr}
use Rattle.std.proofs.lemmas.Bool.{cases_Bool, cases_eq, cases_lt}
use Rattle.std.proofs.lemmas.Bool.Decides.{nat_tests}
use Rattle.paraid_base.specs.declared.block.Block.{Block}
use Rattle.paraid_base.specs.declared.geometry.Geometry.{Geometry}
use Rattle.paraid_base.specs.declared.state.Out.TheVariants.{No, Fresh}
use Rattle.paraid_base.specs.History.{History}
use Rattle.paraid_base.specs.Log.{map_block_place}
use Rattle.paraid_base.specs.Regions.{hard_place_of, soft_place_of}
use Rattle.paraid_base.specs.Skips.{index_among, skip}
use Rattle.paraid_base.specs.Soft.{cell_number, disk_of_number, number_at, row_of_number, soft_disk, soft_parity_disk, soft_stripe}
use Rattle.paraid_base.specs.Sums.{without, xor_upto}
use Rattle.paraid_base.specs.Xor.{xor, zero_block}
use Rattle.paraid_base.proofs.SkipsLemmas.{index_among-skip, skip_below, skip_other}
use Rattle.paraid_base.proofs.SoftLemmas.{cell_number_below, disk_of_cell_number, row_of_cell_number, soft_disk_below, soft_disk_other, soft_parity_disk_below, soft_stripe_below}
use Rattle.paraid_base.proofs.SumsLemmas.{others_same, whole_from_others, xor_upto_same}
use Rattle.paraid_base.proofs.XorLemmas.{xor_self}
use Rattle.paraid_layout.specs.Pads.{IsPad}
use Rattle.paraid_layout.proofs.CopyLemmas.{number_at-copy}
use Rattle.paraid_rack.specs.declared.call.Power.{Power}
use Rattle.paraid_record.specs.declared.meta.Meta.{Meta}
use Rattle.paraid_record.specs.Codes.{phase_to}
use Rattle.paraid_record.specs.Range.{IsInRange}
use Rattle.paraid_image.specs.Free.{IsFree}
use Rattle.paraid_image.specs.Out.{named_out}
use Rattle.paraid_image.specs.Sound.{ContentOk, IsFilled, IsFresh}
use Rattle.paraid_image.specs.Spot.{View, is_hard, map_bit}
use Rattle.paraid_image.specs.Standing.{Contents}
use Rattle.paraid_image.specs.Value.{stripe, value}
use Rattle.paraid_image.proofs.AgreeLemmas.{AgreeSeen, content_agrees}
use Rattle.paraid_image.proofs.FreeLemmas.{free_agrees}
use Rattle.paraid_image.proofs.ViewLemmas.{map_bit_same}
use Rattle.paraid_moves.specs.MoveMetas.{AreCellsCopied, AreStripesCopied, copied_value, copies, copied_block}
use Rattle.paraid_moves.proofs.ValuesLemmas.{above_soft, clean_hard, value_hard, value_soft}

-- Blocks that differ from those of a view in free places alone
module _ (v : View) (power : ℕ → Power) (after : Contents) (in_range : IsInRange v.meta)
    (named : (e : ℕ) → named_out v.meta.out ≡ Some e → v.out ≡ Some e)
    (only : (x q : ℕ) → IsFree v x q ⊎ (after x q ≡ v.block x q)) where
  -- with the new bytes in one place
  abbrev one : ℕ → ℕ → Contents
  one x q = λ y z. if y == x && z == q then after x q else v.block y z

  one_is : (x q : ℕ) → one x q x q ≡ after x q
  one_is x q = let t : (x == x && q == q) ≡ true = grind (arith, nat_tests) in rw t refl

  one_else : (x q y z : ℕ) → (y ≡ x → z ≢ q) → one x q y z ≡ v.block y z
  one_else x q y z apart = elim (cases_eq y x) [
    | inl is ↦ let away = apart is in let t : (y == x && z == q) ≡ false = grind (arith, nat_tests) in rw t refl
    | inr not ↦ let t : (y == x && z == q) ≡ false = grind (arith, nat_tests) in rw t refl
  ]

  at : (x q : ℕ) → ((a : Contents) → AgreeSeen v power a → a x q ≡ v.block x q) → after x q ≡ v.block x q
  at x q field = elim (only x q) [
    | inl free ↦ sym (one_is x q) ∙ field (one x q) (free_agrees v power (one x q) x q (one_else x q) in_range named free)
    | inr same ↦ same
  ]

  pub free_places_agree : AgreeSeen v power after
  free_places_agree = record {
    map_blocks = λ x j lx lj there. at x (map_block_place v.meta.setup.geometry j) (λ a s. s.map_blocks x j lx lj there);
    hard = λ r e lr le there clean. at e (hard_place_of v.meta.setup.geometry r) (λ a s. s.hard r e lr le there clean);
    soft = λ s e ls le there. at e (soft_place_of v.meta.setup.geometry v.meta.gear s) (λ a t. t.soft s e ls le there);
    filled = λ s e none ls le. at e (soft_place_of v.meta.setup.geometry (phase_to v.meta.phase) s) (λ a t. t.filled s e none ls le);
    fresh_rows = λ e u r fresh lr lu clean. at e (hard_place_of v.meta.setup.geometry r) (λ a s. s.fresh_rows e u r fresh lr lu clean);
    fresh_stripes = λ e u s fresh ls lu. at e (soft_place_of v.meta.setup.geometry v.meta.gear s) (λ a t. t.fresh_stripes e u s fresh ls lu);
    fresh_map = λ e u j fresh le lj lu. at e (map_block_place v.meta.setup.geometry j) (λ a s. s.fresh_map e u j fresh le lj lu);
  }

-- The stripe that is computed is the one that is asked for.
module _ (v : View) (a s : ℕ) (low : 3 ≤ a) where
  abbrev n : ℕ
  n = v.meta.setup.geometry.disks

  abbrev p : ℕ
  p = soft_parity_disk a s

  copied_cell : (r d : ℕ) → r < v.meta.setup.geometry.rows → a ≤ d → d < n → (c : ℕ) → c ≡ cell_number n a r d
      → (if nat_lt c (v.meta.setup.geometry.rows * (n - a)) then value v (row_of_number n a c) (disk_of_number n a c) else zero_block) ≡ value v r d
  copied_cell r d lr la ld c is =
      let below = cell_number_below n a r d v.meta.setup.geometry.rows la ld lr in
      let t : nat_lt (cell_number n a r d) (v.meta.setup.geometry.rows * (n - a)) ≡ true = grind (arith, nat_tests) in
      rw (is, t, row_of_cell_number n a r d la ld, disk_of_cell_number n a r d la ld) refl

  pub copied_block-cell : (r d : ℕ) → r < v.meta.setup.geometry.rows → a ≤ d → d < n → soft_stripe n a r d ≡ s
      → copied_block v a s (soft_disk n a r d) ≡ value v r d
  unfolding copied_block copied_value
  copied_block-cell r d lr la ld is =
      let apart : soft_disk n a r d ≢ p = subst (λ (t : ℕ). soft_disk n a r d ≢ soft_parity_disk a t) is (soft_disk_other n a r d) in
      let t : (soft_disk n a r d == p) ≡ false = grind (arith, nat_tests) in
      let number : number_at a s (index_among p (soft_disk n a r d)) ≡ cell_number n a r d =
      subst (λ (t : ℕ). number_at a t (index_among (soft_parity_disk a t) (soft_disk n a r d)) ≡ cell_number n a r d) is (number_at-copy n a r d) in
      rw t (copied_cell r d lr la ld (number_at a s (index_among p (soft_disk n a r d))) number)

  pub copied_block-pad : (i : ℕ) → IsPad n v.meta.setup.geometry.rows a s i → copied_block v a s (skip p i) ≡ zero_block
  unfolding copied_block copied_value
  copied_block-pad i pad =
      let apart = skip_other p i in
      let t : (skip p i == p) ≡ false = grind (arith, nat_tests) in
      let past : nat_lt (number_at a s i) (v.meta.setup.geometry.rows * (n - a)) ≡ false = grind (arith, nat_tests) in
      rw (t, index_among-skip p i, past) refl

  pub copied_block-zero : xor_upto (copied_block v a s) a ≡ zero_block
  unfolding copied_block
  copied_block-zero =
      let lp : p < a = soft_parity_disk_below a s (omega arith) in
      let here : (p == p) ≡ true = grind (arith, nat_tests) in
      let rest = others_same (copied_block v a s) (copies v a s) p a (λ e le apart. off e apart) in
      whole_from_others (copied_block v a s) p a lp ∙ ap (λ (b : Block). xor b (copied_block v a s p)) rest
      ∙ ap (xor (xor_upto (without (copies v a s) p) a)) (rw here refl) ∙ xor_self (xor_upto (without (copies v a s) p) a)
    where
      off : (e : ℕ) → e ≢ p → copied_block v a s e ≡ copies v a s e
      off e apart = let t : (e == p) ≡ false = grind (arith, nat_tests) in rw t refl

-- With no disk out, blocks that agree in what is looked at.
module _ (m : Meta) (power : ℕ → Power) (block after : Contents) (in_range : IsInRange m) (all_in : m.out ≡ No) where
  abbrev g : Geometry
  g = m.setup.geometry

  abbrev pub before : View
  before = record { meta = m; dirty = map_bit g (block 0); out = None; block = block }

  abbrev pub laid : View
  laid = record { meta = m; dirty = map_bit g (after 0); out = None; block = after }

  module _ (agree : AgreeSeen before power after) where
    none_some : (e : ℕ) → None ≢ Some e
    none_some e is = cc

    pub dirty_agrees : (r e : ℕ) → r < g.rows → laid.dirty r e ≡ before.dirty r e
    dirty_agrees r e l = map_bit_same g (after 0) (block 0) r e (agree.map_blocks 0 (r / 512) (omega arith) (omega arith) (none_some 0))

    hard_agrees : (r e : ℕ) → r < g.rows → is_hard laid r e ≡ is_hard before r e
    unfolding is_hard
    hard_agrees r e l = rw (dirty_agrees r e l) refl

    pub value_agrees : (r e : ℕ) → r < g.rows → e < g.disks → value laid r e ≡ value before r e
    value_agrees r e lr le = elim (cases_Bool (is_hard before r e)) [
      | inl hard ↦
          value_hard laid r e refl (hard_agrees r e lr ∙ hard)
          ∙ agree.hard r e lr le (none_some e) (λ low. elim (clean_hard before r e hard) [
            | inl below ↦ absurd (omega arith)
            | inr clean ↦ clean.1
          ])
          ∙ sym (value_hard before r e refl hard)
      | inr soft ↦
          let low = g.gears_low m.gear in_range.gear in
          let here = soft_stripe_below g.disks m.gear r e g.rows (omega arith) (above_soft before r e soft) le lr in
          value_soft laid r e refl (hard_agrees r e lr ∙ soft)
          ∙ agree.soft (soft_stripe g.disks m.gear r e) (soft_disk g.disks m.gear r e) here (soft_disk_below g.disks m.gear r e low) (none_some (soft_disk g.disks m.gear r e))
          ∙ sym (value_soft before r e refl soft)
    ]

    none_fresh : (e rebuilt : ℕ) → IsFresh power m e rebuilt → None ≡ Some e
    none_fresh e rebuilt fresh = let k : No ≡ Fresh e rebuilt = sym all_in ∙ fresh.is in cc

    pub content_laid : (slots : ℕ) (size : ℕ → ℕ) (h : History) (k : ℕ) → ContentOk slots power size before h k → ContentOk slots power size laid h k
    content_laid slots size h k ok = content_agrees m None block after power in_range none_fresh agree slots size h k ok

    -- What was copied stays copied, and one cell more is.
    pub cell_copied : (cells cells_after : ℕ → ℕ → Bool) (q x : ℕ)
        → ((y z : ℕ) → (y ≡ x → z ≢ hard_place_of g q) → after y z ≡ block y z)
        → after x (hard_place_of g q) ≡ value before q x
        → ((r d : ℕ) → cells_after r d ≡ true → (cells r d ≡ true) ⊎ ((r ≡ q) × (d ≡ x)))
        → AreCellsCopied before cells → AreCellsCopied laid cells_after
    cell_copied cells cells_after q x same stored more was = λ r d lr ld bit is.
        elim (cases_eq r q) [
          | inl row ↦ elim (cases_eq d x) [
            | inl disk ↦
                ap (λ (e : ℕ). after e (hard_place_of g r)) disk ∙ ap (λ (e : ℕ). after x (hard_place_of g e)) row ∙ stored
                ∙ ap (λ (e : ℕ). value before e x) (sym row) ∙ ap (value before r) (sym disk) ∙ sym (value_agrees r d lr ld)
            | inr disk ↦ kept r d lr ld bit is (λ e. disk e.1) (λ e. absurd (disk e))
          ]
          | inr row ↦ kept r d lr ld bit is (λ e. row e.0) (λ e z. row (omega arith))
        ]
      where
        kept : (r d : ℕ) → r < g.rows → d < g.disks → laid.dirty r d ≡ true → cells_after r d ≡ true → ((r ≡ q) × (d ≡ x) → ⊥)
            → (d ≡ x → hard_place_of g r ≢ hard_place_of g q) → after d (hard_place_of g r) ≡ value laid r d
        kept r d lr ld bit is not apart = elim (more r d is) [
          | inl old ↦ same d (hard_place_of g r) apart ∙ was r d lr ld (sym (dirty_agrees r d lr) ∙ bit) old ∙ sym (value_agrees r d lr ld)
          | inr new ↦ absurd (not new)
        ]

    -- What was filled stays filled where its blocks are as they were.
    pub filled_stays : (a s : ℕ) → ((e : ℕ) → after e (soft_place_of g a s) ≡ block e (soft_place_of g a s)) → IsFilled before a s → IsFilled laid a s
    filled_stays a s same was = record {
      cells = λ r d lr low ld is. same (soft_disk g.disks a r d) ∙ was.cells r d lr low ld is ∙ sym (value_agrees r d lr ld);
      pads = λ i li pad. same (skip (soft_parity_disk a s) i) ∙ was.pads i li pad;
      zero = xor_upto_same (stripe g after a s) (stripe g block a s) a (λ e le. same e) ∙ was.zero;
    }

    -- A stripe is filled by the blocks that are computed for it.
    pub stripe_filled : (a s : ℕ) → 3 ≤ a → ((e : ℕ) → e < a → after e (soft_place_of g a s) ≡ copied_block before a s e) → IsFilled laid a s
    stripe_filled a s low stored = record {
      cells = λ r d lr la ld is.
          let lx = soft_disk_below g.disks a r d low in
          stored (soft_disk g.disks a r d) lx ∙ copied_block-cell before a s low r d lr la ld is ∙ sym (value_agrees r d lr ld);
      pads = λ i li pad.
          let lx : skip (soft_parity_disk a s) i < a = pad_below i li in
          stored (skip (soft_parity_disk a s) i) lx ∙ copied_block-pad before a s low i pad;
      zero = xor_upto_same (stripe g after a s) (copied_block before a s) a stored ∙ copied_block-zero before a s low;
    }
      where
        pad_below : (i : ℕ) → i < a - 1 → skip (soft_parity_disk a s) i < a
        pad_below i li = let b = skip_below (soft_parity_disk a s) i (a - 1) li in omega arith

    -- So one stripe more is copied.
    pub stripe_copied : (s : ℕ) → 3 ≤ phase_to m.phase
        → ((y z : ℕ) → z ≢ soft_place_of g (phase_to m.phase) s → after y z ≡ block y z)
        → ((e : ℕ) → e < phase_to m.phase → after e (soft_place_of g (phase_to m.phase) s) ≡ copied_block before (phase_to m.phase) s e)
        → AreStripesCopied before s → AreStripesCopied laid (s + 1)
    stripe_copied s low same stored was = λ t from l. elim (cases_lt t s) [
      | inl below ↦ filled_stays (phase_to m.phase) t (λ e. same e (soft_place_of g (phase_to m.phase) t) (λ is. absurd (omega arith))) (was t from below)
      | inr above ↦ let is : t ≡ s = omega arith in subst (IsFilled laid (phase_to m.phase)) (sym is) (stripe_filled (phase_to m.phase) s low stored)
    ]
