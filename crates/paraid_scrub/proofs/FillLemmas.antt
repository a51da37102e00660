-- The cells whose copies a stripe stores.
use Rattle.std.specs.Prelude.{◌≡◌, ◌≢◌, ℕ, ◌+◌, ◌<◌, ◌≤◌, Bool, false, IsTrue}
use Rattle.std.proofs.lemmas.Bool.{false≢true}
use Rattle.std.proofs.Common.{refl, sym, ◌∙◌, ap, subst, arith, below_more}
use Rattle.paraid_base.specs.declared.block.Block.{Block}
use Rattle.paraid_base.specs.Skips.{index_among, skip}
use Rattle.paraid_base.specs.Soft.{cell_number, number_at, soft_disk, soft_index, soft_parity_disk, soft_stripe}
use Rattle.paraid_base.proofs.SkipsLemmas.{skip-index_among, skip_apart}
use Rattle.paraid_base.proofs.SoftLemmas.{cell_number_below, number_at_cell, soft_disk_below, soft_disk_other, soft_places_differ}
use Rattle.paraid_layout.specs.Pads.{IsPad}
use Rattle.paraid_record.specs.declared.meta.Meta.{Meta}
use Rattle.paraid_image.specs.Sound.{IsStripeZero}
use Rattle.paraid_image.specs.Spot.{View}
use Rattle.paraid_image.specs.Value.{stripe, value}
use Rattle.paraid_scrub.specs.Counts.{IsCopyRight, IsFillRight}

-- what is false by the one is false by the other
pub off_as : {P Q : Type 0} (off : Bool) → (P → Q) → (Q → P) → (IsTrue off → P → ⊥) × ((P → ⊥) → IsTrue off) → (IsTrue off → Q → ⊥) × ((Q → ⊥) → IsTrue off)
off_as off to from is = (λ t q. is.0 t (from q), λ no. is.1 (λ p. no (to p)))

-- what holds is not false
pub none_off : {P : Type 0} → P → (IsTrue false → P → ⊥) × ((P → ⊥) → IsTrue false)
none_off p = (λ t q. false≢true t, λ no. absurd (no p))

module _ (v : View) (m : Meta) (e : v.meta ≡ m) (a s disk : ℕ) where
  -- the parity is no copy
  pub parity_right : disk ≡ soft_parity_disk a s → IsCopyRight v a s disk
  parity_right is r d lr la ld es ed =
      absurd (soft_disk_other v.meta.setup.geometry.disks a r d (ed ∙ is ∙ ap (soft_parity_disk a) (sym es)))

  index_is : disk ≢ soft_parity_disk a s → (i n r d : ℕ) → i ≡ index_among (soft_parity_disk a s) disk → soft_stripe n a r d ≡ s → soft_disk n a r d ≡ disk → soft_index n a r d ≡ i
  index_is apart i n r d is es ed =
      skip_apart (soft_parity_disk a s) (soft_index n a r d) i
      (ap (λ (z : ℕ). skip (soft_parity_disk a z) (soft_index n a r d)) (sym es) ∙ ed ∙ sym (ap (skip (soft_parity_disk a s)) is ∙ skip-index_among (soft_parity_disk a s) disk apart))

  -- no cell has its copy in a pad
  pub pad_right : disk ≢ soft_parity_disk a s → (i : ℕ) → i ≡ index_among (soft_parity_disk a s) disk → IsPad m.setup.geometry.disks m.setup.geometry.rows a s i → IsCopyRight v a s disk
  pad_right apart i is pad r d lr la ld es ed =
      let n : ℕ = v.meta.setup.geometry.disks in
      let here : IsPad v.meta.setup.geometry.disks v.meta.setup.geometry.rows a s i = subst (λ (z : Meta). IsPad z.setup.geometry.disks z.setup.geometry.rows a s i) (sym e) pad in
      let number : number_at a s i ≡ cell_number n a r d = ap (λ (z : ℕ). number_at a z i) (sym es) ∙ ap (number_at a (soft_stripe n a r d)) (sym (index_is apart i n r d is es ed)) ∙ number_at_cell n a r d in
      let below = cell_number_below n a r d v.meta.setup.geometry.rows la ld lr in
      absurd (omega (arith, number, here, below))

  -- the one cell whose copy it is
  module _ (row home : ℕ) (low : row < m.setup.geometry.rows) (past : a ≤ home) (in_array : home < m.setup.geometry.disks) (stripe_is : soft_stripe m.setup.geometry.disks a row home ≡ s) (disk_is : soft_disk m.setup.geometry.disks a row home ≡ disk)
      (stored read : Block) (read_is : read ≡ value v row home) (stored_is : stored ≡ stripe m.setup.geometry v.block a s disk) where
    here_is : stored ≡ stripe v.meta.setup.geometry v.block a s disk
    here_is = stored_is ∙ ap (λ (z : Meta). stripe z.setup.geometry v.block a s disk) (sym e)

    same_right : read ≡ stored → IsCopyRight v a s disk
    same_right same r d lr la ld es ed =
        let n : ℕ = v.meta.setup.geometry.disks in
        let inside : home < n = subst (λ (z : Meta). home < z.setup.geometry.disks) (sym e) in_array in
        let at : soft_stripe n a row home ≡ s = ap (λ (z : Meta). soft_stripe z.setup.geometry.disks a row home) e ∙ stripe_is in
        let on : soft_disk n a row home ≡ disk = ap (λ (z : Meta). soft_disk z.setup.geometry.disks a row home) e ∙ disk_is in
        let cell = soft_places_differ n a r d row home la ld past inside (es ∙ sym at) (ed ∙ sym on) in
        sym here_is ∙ sym same ∙ read_is ∙ ap (λ (x : ℕ). value v x home) (sym cell.0) ∙ ap (value v r) (sym cell.1)

    right_same : IsCopyRight v a s disk → read ≡ stored
    right_same right =
        let is = right row home (subst (λ (z : Meta). row < z.setup.geometry.rows) (sym e) low) past (subst (λ (z : Meta). home < z.setup.geometry.disks) (sym e) in_array)
        (ap (λ (z : Meta). soft_stripe z.setup.geometry.disks a row home) e ∙ stripe_is) (ap (λ (z : Meta). soft_disk z.setup.geometry.disks a row home) e ∙ disk_is) in
        read_is ∙ sym is ∙ sym here_is

    pub copy_off : (off : Bool) → (IsTrue off → read ≢ stored) × (read ≢ stored → IsTrue off) → (IsTrue off → IsCopyRight v a s disk → ⊥) × ((IsCopyRight v a s disk → ⊥) → IsTrue off)
    copy_off off is = off_as {P = read ≡ stored} {Q = IsCopyRight v a s disk} off same_right right_same is

-- a stripe is right where each of its blocks is, and it sums to zero
module _ (v : View) (a s : ℕ) where
  pub fill_parts : IsFillRight v a s → ((x : ℕ) → x < a → IsCopyRight v a s x) × IsStripeZero v a s
  fill_parts right = (
    λ x l r d lr la ld es ed. subst (λ (y : ℕ). stripe v.meta.setup.geometry v.block a s y ≡ value v r d) ed (right.cells r d lr la ld es),
    right.zero,
  )

  pub fill_whole : 3 ≤ a → ((x : ℕ) → x < a → IsCopyRight v a s x) → IsStripeZero v a s → IsFillRight v a s
  fill_whole low right zero = record {
    cells = λ r d lr la ld es. right (soft_disk v.meta.setup.geometry.disks a r d) (soft_disk_below v.meta.setup.geometry.disks a r d low) r d lr la ld es refl;
    zero = zero;
  }

  pub all_parts : (n : ℕ) → ((x : ℕ) → x < n + 1 → IsCopyRight v a s x) → ((x : ℕ) → x < n → IsCopyRight v a s x) × IsCopyRight v a s n
  all_parts n all = (λ x l. all x (omega (arith, l)), all n (omega arith))

  pub all_more : (n : ℕ) → ((x : ℕ) → x < n → IsCopyRight v a s x) → IsCopyRight v a s n → (x : ℕ) → x < n + 1 → IsCopyRight v a s x
  all_more n all last = below_more (λ x. IsCopyRight v a s x) n all last
