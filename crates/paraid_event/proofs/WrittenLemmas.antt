-- The dirty bits after writes.
use Rattle.std.proofs.Common.{◌≡◌, ℕ, ◌<◌, Bool, refl, sym, ◌∙◌, ap, subst, inl, inr}
use Rattle.std.specs.Prelude.{[], ◌∷◌}
use Rattle.paraid_base.specs.Cells.{home_disk, home_row, parity_disk}
use Rattle.paraid_base.specs.History.{Entry}
use Rattle.paraid_image.specs.Power.{PowerState}
use Rattle.paraid_machine.specs.Machine.{blocks_named}
use Rattle.paraid_machine.specs.Moves.{all_written, bit_written, block_written, cell_written}
use Rattle.paraid_plan.specs.WrittenBits.{bit_after_write, bits_after_block, bits_after_cell, bits_after_writes}
use Rattle.paraid_plan.proofs.LayLemmas.{cases_both, changed_at, changed_off}
use Rattle.paraid_record.specs.declared.meta.Meta.{Meta}

-- the state has the gear, the phase and the disk that is out of this meta
pub record IsUnder (m : Meta) (s : PowerState) : Type 0 where
  pub gear : s.gear ≡ m.gear
  pub phase : s.phase ≡ m.phase
  pub out : s.out ≡ m.out

-- the bits of the first rows are those of the state
abbrev pub Agree : ℕ → (ℕ → ℕ → Bool) → PowerState → Type 0
Agree rows bits s = (q e : ℕ) → q < rows → bits q e ≡ s.dirty q e

same_bit : (m : Meta) (s : PowerState) (d : ℕ) (bit : Bool) → IsUnder m s → bit_after_write m d bit ≡ bit_written s d bit
same_bit m s d bit under = rw (under.gear, under.phase, under.out) refl

cell_agrees : (rows : ℕ) (m : Meta) (r d : ℕ) (bits : ℕ → ℕ → Bool) (s : PowerState) → IsUnder m s → Agree rows bits s → Agree rows (bits_after_cell m r d bits) (cell_written r d s)
unfolding bits_after_cell
cell_agrees rows m r d bits s under agree q e low = elim (cases_both q r e d) [
  | inl is ↦
      changed_at bits r d (bit_after_write m d (bits r d)) q e is.0 is.1 ∙ ap (bit_after_write m d) (agree r d (subst (λ (z : ℕ). z < rows) is.0 low))
      ∙ same_bit m s d (s.dirty r d) under ∙ sym (changed_at s.dirty r d (bit_written s d (s.dirty r d)) q e is.0 is.1)
  | inr apart ↦
      changed_off bits r d (bit_after_write m d (bits r d)) q e apart ∙ agree q e low ∙ sym (changed_off s.dirty r d (bit_written s d (s.dirty r d)) q e apart)
]

block_agrees : (rows : ℕ) (m : Meta) (b : ℕ) (bits : ℕ → ℕ → Bool) (s : PowerState) → IsUnder m s → Agree rows bits s → Agree rows (bits_after_block m b bits) (block_written m.setup.geometry.disks b s)
unfolding bits_after_block
block_agrees rows m b bits s under agree =
    let n = m.setup.geometry.disks in
    let r : ℕ = home_row n b in
    let d : ℕ = home_disk n b in
    cell_agrees rows m r (parity_disk n r) (bits_after_cell m r d bits) (cell_written r d s) (record { gear = under.gear; phase = under.phase; out = under.out }) (cell_agrees rows m r d bits s under agree)

-- one write after the other
pub writes_agree : (rows : ℕ) (m : Meta) (entry : Entry) (bits : ℕ → ℕ → Bool) (s : PowerState) → IsUnder m s → Agree rows bits s
    → Agree rows (bits_after_writes m entry bits) (all_written m.setup.geometry.disks (blocks_named entry) s)
writes_agree rows m [] bits s under agree = agree
writes_agree rows m (x ∷ entry) bits s under agree =
    writes_agree rows m entry (bits_after_block m x.0 bits) (block_written m.setup.geometry.disks x.0 s) (record { gear = under.gear; phase = under.phase; out = under.out })
    (block_agrees rows m x.0 bits s under agree)
