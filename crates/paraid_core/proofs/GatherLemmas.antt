-- The copies of a stripe, read one by one.
use Rattle.std.specs.Prelude.{◌≡◌, ◌≢◌, ℕ, ◌-◌, ◌*◌, ◌<◌, ◌==◌, nat_lt, true, false}
use Rattle.std.proofs.Common.{refl, sym, ◌∙◌, ap, arith}
use Rattle.std.proofs.lemmas.Bool.Decides.{nat_tests}
use Rattle.paraid_base.specs.Soft.{disk_of_number, number_at, row_of_number, soft_parity_disk}
use Rattle.paraid_base.specs.Sums.{without, xor_upto}
use Rattle.paraid_base.specs.Xor.{zero_block}
use Rattle.paraid_base.specs.Skips.{index_among}
use Rattle.paraid_layout.specs.Pads.{IsPad}
use Rattle.paraid_image.specs.Spot.{View}
use Rattle.paraid_image.specs.Value.{value}
use Rattle.paraid_moves.specs.MoveMetas.{copied_value, copies, copied_block}

module _ (v : View) (a s : ℕ) where
  pub copies_pad : (e index : ℕ) → index ≡ index_among (soft_parity_disk a s) e → IsPad v.meta.setup.geometry.disks v.meta.setup.geometry.rows a s index → copies v a s e ≡ zero_block
  unfolding copied_value
  copies_pad e index is pad =
      let past : nat_lt (number_at a s index) (v.meta.setup.geometry.rows * (v.meta.setup.geometry.disks - a)) ≡ false = grind (arith, nat_tests) in
      rw (sym is, past) refl

  pub copies_cell : (e index r d : ℕ) → index ≡ index_among (soft_parity_disk a s) e → number_at a s index < v.meta.setup.geometry.rows * (v.meta.setup.geometry.disks - a)
      → r ≡ row_of_number v.meta.setup.geometry.disks a (number_at a s index) → d ≡ disk_of_number v.meta.setup.geometry.disks a (number_at a s index) → value v r d ≡ copies v a s e
  unfolding copied_value
  copies_cell e index r d is low row disk =
      let cell : nat_lt (number_at a s index) (v.meta.setup.geometry.rows * (v.meta.setup.geometry.disks - a)) ≡ true = grind (arith, nat_tests) in
      ap (λ (x : ℕ). value v x d) row ∙ ap (value v (row_of_number v.meta.setup.geometry.disks a (number_at a s index))) disk ∙ rw (sym is, cell) refl

  -- the parity is their XOR
  pub stripe_parity : (e : ℕ) → e ≡ soft_parity_disk a s → copied_block v a s e ≡ xor_upto (without (copies v a s) (soft_parity_disk a s)) a
  unfolding copied_block
  stripe_parity e is = let here : (e == soft_parity_disk a s) ≡ true = grind (arith, nat_tests) in rw here refl

  pub stripe_copy : (e : ℕ) → e ≢ soft_parity_disk a s → copied_block v a s e ≡ copies v a s e
  unfolding copied_block
  stripe_copy e apart = let off : (e == soft_parity_disk a s) ≡ false = grind (arith, nat_tests) in rw off refl
