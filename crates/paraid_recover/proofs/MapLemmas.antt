-- Cells of a table that are changed one by one.
use Rattle.std.specs.Prelude.{◌≡◌, ◌≢◌, ℕ, ◌%◌, ◌<◌, ◌==◌, Bool, slice_index, Some, None}
use Rattle.std.proofs.Common.{arith, ap, sym, ◌∙◌, inl, inr}
use Rattle.std.proofs.lemmas.Bool.{cases_lt}
use Rattle.std.proofs.lemmas.Bool.Decides.{nat_tests}
use Rattle.std.proofs.lemmas.Nat.Bits.{bit_at_above}
use Rattle.paraid_base.specs.declared.block.Block.{Block}
use Rattle.paraid_base.specs.declared.geometry.Geometry.{Geometry}
use Rattle.paraid_base.specs.Regions.{map_place_of}
use Rattle.paraid_dirty.specs.Bits.{bit_of}
use Rattle.paraid_dirty.specs.Table.{table_with_bit}
use Rattle.paraid_image.specs.Spot.{map_bit}
use Rattle.paraid_recover.specs.Map.{IsNarrow, ShowsMap}

pub changed_here : (dirty : ℕ → ℕ → Bool) (r d : ℕ) (bit : Bool) (q e : ℕ) → q ≡ r → e ≡ d → table_with_bit dirty r d bit q e ≡ bit
changed_here dirty r d bit q e row disk = grind (arith, nat_tests)

pub changed_other : (dirty : ℕ → ℕ → Bool) (r d : ℕ) (bit : Bool) (q e : ℕ) → (q ≡ r → e ≢ d) → table_with_bit dirty r d bit q e ≡ dirty q e
changed_other dirty r d bit q e other = grind (arith, nat_tests)

-- what is read of each block of the map is the map
pub shows_map : (g : Geometry) (blocks : ℕ → Block) (dirty : ℕ → ℕ → Bool) → IsNarrow dirty
    → ((q d : ℕ) → q < g.rows → d < 8 → dirty q d ≡ bit_of (slice_index (blocks (map_place_of g q)).bytes (q % 512)) d) → ShowsMap g blocks dirty
unfolding map_bit
shows_map g blocks dirty narrow shows r d low = elim (cases_lt d 8) [
  | inl here ↦ shows r d low here
  | inr past ↦ narrow r d past ∙ sym (ap (λ (n : ℕ). n == 1) (bit_at_above (slice_index (blocks (map_place_of g r)).bytes (r % 512)) 8 d ((blocks (map_place_of g r)).small (r % 512)) past))
]

-- the disks of both reads
pub some_is : {d e : ℕ} → Some d ≡ Some e → d ≡ e
some_is is = cc

pub none_is_not : {d : ℕ} → None ≡ Some d → ⊥
none_is_not is = cc

pub first_apart : {d e : ℕ} → d ≡ 0 → e ≡ 1 → d ≢ e
first_apart zero one is = omega (arith, zero, one, is)
