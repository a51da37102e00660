-- The dirty bits that a write leaves.
use Rattle.std.specs.Prelude.{◌≡◌, ℕ, ◌&&◌, ◌||◌, not, nat_lt, Bool, true, false, if◌then◌else◌}
use Rattle.std.proofs.Common.{refl, ◌∙◌, ap}
use Rattle.paraid_dirty.specs.Table.{table_with_bit}
use Rattle.paraid_record.specs.declared.meta.Meta.{Meta}
use Rattle.paraid_image.specs.Out.{is_out, named_out}
use Rattle.paraid_image.specs.Sides.{Batch}
use Rattle.paraid_image.specs.Spot.{is_hard, rising_to}
use Rattle.paraid_plan.specs.Desk.{Desk, StagesMap, desk_with_bit, sees, with_targets}
use Rattle.paraid_plan.specs.WriteTargets.{goes_hard}
use Rattle.paraid_plan.specs.WrittenBits.{bit_after_write, bits_after_cell}

-- the four tests on which the bit depends
bit_by : (low rises out was : Bool) → not ((low || (rises && not was)) || (rises && not out)) ≡ (if low then false else (if rises then out && was else true))
bit_by true rises out was = refl
bit_by false false out was = refl
bit_by false true true true = refl
bit_by false true true false = refl
bit_by false true false true = refl
bit_by false true false false = refl

-- a cell is clean where its write goes to its hard place
pub bit_goes_hard : (m : Meta) (s : Desk) (r d : ℕ) → not (goes_hard (sees m s) r d) ≡ bit_after_write m d (s.dirty r d)
unfolding goes_hard is_hard
bit_goes_hard m s r d = bit_by (nat_lt d m.gear) (nat_lt d (rising_to m.phase)) (is_out (named_out m.out) d) (s.dirty r d)

pub laid_bits : (s t : Desk) (batch : Batch) → t ≡ with_targets s batch → t.dirty ≡ s.dirty
unfolding with_targets
laid_bits s t batch is = ap (λ (z : Desk). z.dirty) is

turned_bits : (s t : Desk) (r d : ℕ) (bit : Bool) → t ≡ desk_with_bit s r d bit → t.dirty ≡ table_with_bit s.dirty r d bit
unfolding desk_with_bit
turned_bits s t r d bit is = ap (λ (z : Desk). z.dirty) is

-- the write of a cell: reads, targets, and the bit
pub cell_bits : (m : Meta) (s s1 s2 s3 s4 s5 : Desk) (r d : ℕ) (hard : Bool) (a b : Batch) → s1.dirty ≡ s.dirty → s2.dirty ≡ s1.dirty → s3 ≡ with_targets s2 a → s4 ≡ with_targets s3 b
    → hard ≡ goes_hard (sees m s) r d → s5 ≡ desk_with_bit s4 r d (not hard) → s5.dirty ≡ bits_after_cell m r d s.dirty
unfolding bits_after_cell
cell_bits m s s1 s2 s3 s4 s5 r d hard a b first second near copy is set =
    turned_bits s4 s5 r d (not hard) set
    ∙ ap (λ (z : ℕ → ℕ → Bool). table_with_bit z r d (not hard)) (laid_bits s3 s4 b copy ∙ laid_bits s2 s3 a near ∙ second ∙ first)
    ∙ ap (table_with_bit s.dirty r d) (ap not is ∙ bit_goes_hard m s r d)

pub map_bits : (m : Meta) (s t : Desk) (j : ℕ) (staged : Bool) → StagesMap m s t j staged → t.dirty ≡ s.dirty
map_bits m s t j staged map = laid_bits s t _ map.is
