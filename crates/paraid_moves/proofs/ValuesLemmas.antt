-- When two views give each cell the same value, and what follows from that.
use Rattle.std.specs.Prelude.{◌≡◌, ℕ, ◌-◌, ◌*◌, ◌<◌, ◌≤◌, ◌⊎◌, ◌&&◌, ◌||◌, nat_lt, Bool, true, false, not, Option, None, if◌then◌else◌}
use Rattle.std.proofs.Common.{refl, sym, ◌∙◌, ap, arith, inl, inr}
use Rattle.std.proofs.lemmas.Bool.{cases_Bool, cases_lt, false≢true, true≢false}
use Rattle.std.proofs.lemmas.Bool.Decides.{nat_tests}
use Rattle.paraid_base.specs.declared.block.Block.{Block}
use Rattle.paraid_base.specs.Cells.{home_disk, home_row}
use Rattle.paraid_base.specs.History.{History, after}
use Rattle.paraid_base.specs.Regions.{hard_place_of}
use Rattle.paraid_base.specs.Soft.{soft_disk, soft_stripe}
use Rattle.paraid_base.proofs.CellsLemmas.{home_disk_below, home_row_below}
use Rattle.paraid_base.proofs.SumsLemmas.{others_same, xor_upto_same}
use Rattle.paraid_record.specs.declared.meta.Meta.{Meta}
use Rattle.paraid_image.specs.Content.{blocks_of}
use Rattle.paraid_image.specs.Out.{is_out}
use Rattle.paraid_image.specs.Sound.{AreRowsZero}
use Rattle.paraid_image.specs.Spot.{Spot, View, hard_spot, is_hard, rising_to, soft_spot, spot_of}
use Rattle.paraid_image.specs.Standing.{Contents}
use Rattle.paraid_image.specs.Value.{reconstructed_value, soft_value, stored_value, stripe, value}
use Rattle.paraid_image.proofs.SpotLemmas.{value_at_spot}

-- the test of where a value lives, by its parts

below_is_hard : (d a to : ℕ) (dirty : Bool) → d < a → (nat_lt d a || (nat_lt d to && not dirty)) ≡ true
below_is_hard d a to dirty l = grind (arith, nat_tests)

clean_is_hard : (d a to : ℕ) (dirty : Bool) → d < to → dirty ≡ false → (nat_lt d a || (nat_lt d to && not dirty)) ≡ true
clean_is_hard d a to true l e = absurd (true≢false e)
clean_is_hard d a to false l e = grind (arith, nat_tests)

above_is_soft : (d a to : ℕ) (dirty : Bool) → a ≤ d → to ≤ d → (nat_lt d a || (nat_lt d to && not dirty)) ≡ false
above_is_soft d a to true low high = grind (arith, nat_tests)
above_is_soft d a to false low high = grind (arith, nat_tests)

dirty_is_soft : (d a to : ℕ) (dirty : Bool) → a ≤ d → dirty ≡ true → (nat_lt d a || (nat_lt d to && not dirty)) ≡ false
dirty_is_soft d a to true low e = grind (arith, nat_tests)
dirty_is_soft d a to false low e = absurd (false≢true e)

soft_is_above : (d a : ℕ) (b : Bool) → (nat_lt d a || b) ≡ false → a ≤ d
soft_is_above d a b h = grind (arith, nat_tests)

soft_is_dirty : (d a to : ℕ) (dirty : Bool) → (nat_lt d a || (nat_lt d to && not dirty)) ≡ false → (to ≤ d) ⊎ (dirty ≡ true)
soft_is_dirty d a to true h = inr refl
soft_is_dirty d a to false h = elim (cases_lt d to) [
  | inl l ↦ absurd (true≢false (sym (clean_is_hard d a to false l refl) ∙ h))
  | inr l ↦ inl l
]

hard_is_clean : (d a to : ℕ) (dirty : Bool) → (nat_lt d a || (nat_lt d to && not dirty)) ≡ true → (d < a) ⊎ ((d < to) × (dirty ≡ false))
hard_is_clean d a to dirty h = elim (cases_lt d a) [
  | inl l ↦ inl l
  | inr low ↦ elim (cases_lt d to) [
    | inr high ↦ absurd (false≢true (sym (above_is_soft d a to dirty low high) ∙ h))
    | inl l ↦ elim (cases_Bool dirty) [
      | inl e ↦ absurd (false≢true (sym (dirty_is_soft d a to dirty low e) ∙ h))
      | inr e ↦ inr (l, e)
    ]
  ]
]

pub hard_below : (v : View) (r d : ℕ) → d < v.meta.gear → is_hard v r d ≡ true
unfolding is_hard
hard_below v r d l = below_is_hard d v.meta.gear (rising_to v.meta.phase) (v.dirty r d) l

pub hard_clean : (v : View) (r d : ℕ) → d < rising_to v.meta.phase → v.dirty r d ≡ false → is_hard v r d ≡ true
unfolding is_hard
hard_clean v r d l e = clean_is_hard d v.meta.gear (rising_to v.meta.phase) (v.dirty r d) l e

pub soft_above : (v : View) (r d : ℕ) → v.meta.gear ≤ d → rising_to v.meta.phase ≤ d → is_hard v r d ≡ false
unfolding is_hard
soft_above v r d low high = above_is_soft d v.meta.gear (rising_to v.meta.phase) (v.dirty r d) low high

pub soft_dirty : (v : View) (r d : ℕ) → v.meta.gear ≤ d → v.dirty r d ≡ true → is_hard v r d ≡ false
unfolding is_hard
soft_dirty v r d low e = dirty_is_soft d v.meta.gear (rising_to v.meta.phase) (v.dirty r d) low e

pub above_soft : (v : View) (r d : ℕ) → is_hard v r d ≡ false → v.meta.gear ≤ d
unfolding is_hard
above_soft v r d h = soft_is_above d v.meta.gear (nat_lt d (rising_to v.meta.phase) && not (v.dirty r d)) h

pub dirty_soft : (v : View) (r d : ℕ) → is_hard v r d ≡ false → (rising_to v.meta.phase ≤ d) ⊎ (v.dirty r d ≡ true)
unfolding is_hard
dirty_soft v r d h = soft_is_dirty d v.meta.gear (rising_to v.meta.phase) (v.dirty r d) h

pub clean_hard : (v : View) (r d : ℕ) → is_hard v r d ≡ true → (d < v.meta.gear) ⊎ ((d < rising_to v.meta.phase) × (v.dirty r d ≡ false))
unfolding is_hard
clean_hard v r d h = hard_is_clean d v.meta.gear (rising_to v.meta.phase) (v.dirty r d) h

-- the block at a spot
abbrev pub at_spot : Contents → Spot → Block
at_spot f s = f s.disk s.place

hard_spot_is : (v : View) (r d : ℕ) → is_hard v r d ≡ true → spot_of v r d ≡ hard_spot v.meta.setup.geometry r d
unfolding spot_of
hard_spot_is v r d h = rw h refl

soft_spot_is : (v : View) (r d : ℕ) → is_hard v r d ≡ false → spot_of v r d ≡ soft_spot v.meta.setup.geometry v.meta.gear r d
unfolding spot_of
soft_spot_is v r d h = rw h refl

-- where no disk is out a value is the block at its spot
value_none : (v : View) (r d : ℕ) → v.out ≡ None → value v r d ≡ at_spot v.block (spot_of v r d)
value_none v r d none = value_at_spot v r d (ap (λ (o : Option ℕ). is_out o (spot_of v r d).disk) none)

pub value_hard : (v : View) (r d : ℕ) → v.out ≡ None → is_hard v r d ≡ true → value v r d ≡ v.block d (hard_place_of v.meta.setup.geometry r)
value_hard v r d none h = value_none v r d none ∙ ap (at_spot v.block) (hard_spot_is v r d h)

pub value_soft : (v : View) (r d : ℕ) → v.out ≡ None → is_hard v r d ≡ false
    → value v r d ≡ stripe v.meta.setup.geometry v.block v.meta.gear (soft_stripe v.meta.setup.geometry.disks v.meta.gear r d) (soft_disk v.meta.setup.geometry.disks v.meta.gear r d)
value_soft v r d none h = value_none v r d none ∙ ap (at_spot v.block) (soft_spot_is v r d h)

-- the same where its spot is not on the out disk
pub hard_spot_at : (v : View) (r d : ℕ) → is_hard v r d ≡ true → is_out v.out d ≡ false → value v r d ≡ v.block d (hard_place_of v.meta.setup.geometry r)
hard_spot_at v r d h away =
    let is = hard_spot_is v r d h in
    value_at_spot v r d (ap (λ (s : Spot). is_out v.out s.disk) is ∙ away) ∙ ap (at_spot v.block) is

pub soft_spot_at : (v : View) (r d : ℕ) → is_hard v r d ≡ false → is_out v.out (soft_disk v.meta.setup.geometry.disks v.meta.gear r d) ≡ false
    → value v r d ≡ stripe v.meta.setup.geometry v.block v.meta.gear (soft_stripe v.meta.setup.geometry.disks v.meta.gear r d) (soft_disk v.meta.setup.geometry.disks v.meta.gear r d)
soft_spot_at v r d h away =
    let is = soft_spot_is v r d h in
    value_at_spot v r d (ap (λ (s : Spot). is_out v.out s.disk) is ∙ away) ∙ ap (at_spot v.block) is

-- Two views of one array.
module _ (m t : Meta) (dirty dirty_after : ℕ → ℕ → Bool) (o o_after : Option ℕ) (block block_after : Contents) where
  abbrev pub old : View
  old = record { meta = m; dirty = dirty; out = o; block = block }

  abbrev pub new : View
  new = record { meta = record t { setup = m.setup }; dirty = dirty_after; out = o_after; block = block_after }

  -- each cell has one value in both
  abbrev pub AreSame : Type 0
  AreSame = (r d : ℕ) → r < m.setup.geometry.rows → d < m.setup.geometry.disks → value new r d ≡ value old r d

  pub rows_carried : AreSame → AreRowsZero old → AreRowsZero new
  rows_carried same rows = λ r l. xor_upto_same (value new r) (value old r) m.setup.geometry.disks (λ d ld. same r d l ld) ∙ rows r l

  pub blocks_carried : (h : History) (k : ℕ) → AreSame
      → ((b : ℕ) → b < m.setup.geometry.rows * (m.setup.geometry.disks - 1) → blocks_of old b ≡ after h k b)
      → (b : ℕ) → b < m.setup.geometry.rows * (m.setup.geometry.disks - 1) → blocks_of new b ≡ after h k b
  blocks_carried h k same blocks b l =
      let n = m.setup.geometry.disks in
      let low = m.setup.geometry.disks_low in
      same (home_row n b) (home_disk n b) (home_row_below n b m.setup.geometry.rows (omega arith) l) (home_disk_below n b (omega arith))
      ∙ blocks b l

-- The same gear, out disk and blocks, and each value lives where it did.
module _ (m t : Meta) (dirty dirty_after : ℕ → ℕ → Bool) (o : Option ℕ) (block : Contents) where
  abbrev pub kept : View
  kept = record { meta = record t { setup = m.setup; gear = m.gear }; dirty = dirty_after; out = o; block = block }

  abbrev pub was : View
  was = record { meta = m; dirty = dirty; out = o; block = block }

  module _ (hard : (r d : ℕ) → r < m.setup.geometry.rows → is_hard kept r d ≡ is_hard was r d) where
    near_kept : (r d : ℕ) → r < m.setup.geometry.rows → stored_value kept r d ≡ stored_value was r d
    unfolding stored_value soft_value
    near_kept r d l = ap (λ (b : Bool). if b then block d (hard_place_of m.setup.geometry r) else soft_value was r d) (hard r d l)

    far_kept : (r d : ℕ) → r < m.setup.geometry.rows → reconstructed_value kept r d ≡ reconstructed_value was r d
    unfolding reconstructed_value
    far_kept r d l = others_same (stored_value kept r) (stored_value was r) d m.setup.geometry.disks (λ x lx apart. near_kept r x l)

    pub value_kept : (r d : ℕ) → r < m.setup.geometry.rows → value kept r d ≡ value was r d
    unfolding value
    value_kept r d l =
        ap (λ (b : Bool). if b && is_out o d then reconstructed_value kept r d else stored_value kept r d) (hard r d l) ∙ pick (is_hard was r d && is_out o d)
      where
        pick : (b : Bool) → (if b then reconstructed_value kept r d else stored_value kept r d) ≡ (if b then reconstructed_value was r d else stored_value was r d)
        pick true = far_kept r d l
        pick false = near_kept r d l
