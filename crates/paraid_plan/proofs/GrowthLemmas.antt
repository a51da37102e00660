-- A write stages at least one target.
use Rattle.std.specs.Prelude.{◌≡◌, ◌≢◌, ℕ, ◌+◌, ◌≤◌, ◌++◌, ◌==◌, not, [], Bool, true, false, length, get_or, Some, if◌then◌else◌}
use Rattle.std.proofs.Common.{refl, sym, ◌∙◌, ap, arith, inl, inr}
use Rattle.std.proofs.lemmas.Bool.{cases_Bool, cases_eq}
use Rattle.std.proofs.lemmas.Bool.Decides.{nat_tests}
use Rattle.std.proofs.lemmas.List.{length-append}
use Rattle.paraid_base.specs.declared.block.Block.{Block}
use Rattle.paraid_base.specs.declared.pairs.Pairs.{Pairs}
use Rattle.paraid_base.specs.declared.state.Out.{Out}
use Rattle.paraid_base.specs.declared.state.Out.TheVariants.{No, Gone, Fresh}
use Rattle.paraid_base.specs.Cells.{home_row}
use Rattle.paraid_base.specs.Regions.{hard_place_of, soft_place_of}
use Rattle.paraid_base.specs.Soft.{soft_disk, soft_parity_disk, soft_stripe}
use Rattle.paraid_base.proofs.SoftLemmas.{soft_disk_other}
use Rattle.paraid_base.specs.Xor.{xor}
use Rattle.paraid_image.specs.Out.{named_out}
use Rattle.paraid_image.specs.Sides.{Batch}
use Rattle.paraid_image.specs.Spot.{View}
use Rattle.paraid_image.proofs.CallLemmas.{decide_some}
use Rattle.paraid_plan.specs.Desk.{Desk, StagesMap, cell_desk, desk_with_bit, sees, with_targets}
use Rattle.paraid_plan.specs.RowWrites.{AddsTargets, count_of_new_row, names_row, pairs_before}
use Rattle.paraid_plan.specs.WriteTargets.{cell_targets, fill_targets, goes_hard, hard_targets, is_written, map_targets, soft_targets, stripe_block_now, target_if}
use Rattle.paraid_plan.proofs.OutsLemmas.{only_out}
use Rattle.paraid_plan.proofs.PairLemmas.{before_none, new_row_some, pair_counted}
use Rattle.paraid_record.specs.declared.meta.Meta.{Meta}

-- a disk that is not out is written
written_apart : (o : Out) (d u : ℕ) → named_out o ≢ Some d → is_written o d u ≡ true
written_apart No d u apart = refl
written_apart (Gone x) d u apart = let off : d ≢ x = (λ is. apart (ap Some (sym is))) in grind (arith, nat_tests)
written_apart (Fresh x count) d u apart = let off : d ≢ x = (λ is. apart (ap Some (sym is))) in let no : (d == x) ≡ false = grind (arith, nat_tests) in rw no refl

one_target : (w : Bool) (d p : ℕ) (b : Block) → w ≡ true → length (target_if w d p b) ≡ 1
one_target true d p b is = refl
one_target false d p b is = cc

-- so is one of the two blocks of a copy
soft_some : (v : View) (r d : ℕ) (old new : Block) → 1 ≤ length (soft_targets v r d old new)
soft_some v r d old new =
    let g = v.meta.setup.geometry in
    let s : ℕ = soft_stripe g.disks v.meta.gear r d in
    let copy : ℕ = soft_disk g.disks v.meta.gear r d in
    let parity : ℕ = soft_parity_disk v.meta.gear s in
    let place : ℕ = soft_place_of g v.meta.gear s in
    let first : Batch = target_if (is_written v.meta.out copy (g.rows + s)) copy place new in
    let second : Batch = target_if (is_written v.meta.out parity (g.rows + s)) parity place (xor (stripe_block_now v s parity) (xor old new)) in
    let both : length (first ++ second) ≡ length first + length second = length-append first second in
    elim (decide_some (named_out v.meta.out) copy) [
      | inl at ↦
          let one : length second ≡ 1 = one_target (is_written v.meta.out parity (g.rows + s)) parity place (xor (stripe_block_now v s parity) (xor old new)) (written_apart v.meta.out parity (g.rows + s) (only_out (named_out v.meta.out) copy parity at (λ e. soft_disk_other g.disks v.meta.gear r d (sym e)))) in
          omega (arith, both, one)
      | inr off ↦ (let one : length first ≡ 1 = one_target (is_written v.meta.out copy (g.rows + s)) copy place new (written_apart v.meta.out copy (g.rows + s) off) in omega (arith, both, one))
    ]

place_some : (v : View) (r d : ℕ) (old new : Block) → named_out v.meta.out ≢ Some d → 1 ≤ length (if goes_hard v r d then hard_targets v r d new else soft_targets v r d old new)
place_some v r d old new apart = elim (cases_Bool (goes_hard v r d)) [
  | inl hard ↦
      rw hard
      (let one = one_target (is_written v.meta.out d r) d (hard_place_of v.meta.setup.geometry r) new (written_apart v.meta.out d r apart) in omega (arith, one))
  | inr soft ↦ rw soft (soft_some v r d old new)
]

cell_some : (v : View) (r d : ℕ) (old new : Block) → named_out v.meta.out ≢ Some d → 1 ≤ length (cell_targets v r d old new)
cell_some v r d old new apart =
    let both = length-append (if goes_hard v r d then hard_targets v r d new else soft_targets v r d old new) (fill_targets v r d old new) in
    let first = place_some v r d old new apart in
    omega (arith, both, first)

cell_length : (m : Meta) (s t : Desk) (r d : ℕ) (old new : Block) → t ≡ cell_desk m s r d old new → length t.staged ≡ length s.staged + length (cell_targets (sees m s) r d old new)
unfolding cell_desk desk_with_bit with_targets
cell_length m s t r d old new e = ap (λ (z : Desk). length z.staged) e ∙ length-append s.staged (cell_targets (sees m s) r d old new)

-- The write of a cell on a disk that is not out stages one target or more.
pub cell_grows : (m : Meta) (s t : Desk) (r d : ℕ) (old new : Block) → t ≡ cell_desk m s r d old new → named_out m.out ≢ Some d → length s.staged + 1 ≤ length t.staged
cell_grows m s t r d old new e apart = let long = cell_length m s t r d old new e in let some = cell_some (sees m s) r d old new apart in omega (arith, long, some)

-- nothing is taken away
pub targets_grow : (m : Meta) (a b : Desk) → AddsTargets m a b → length a.staged ≤ length b.staged
targets_grow m a b adds = let long = ap (λ (z : Batch). length z) adds.staged ∙ length-append a.staged adds.targets in omega (arith, long)

map_grows : (m : Meta) (a b : Desk) (j : ℕ) (staged : Bool) → StagesMap m a b j staged → length a.staged ≤ length b.staged
unfolding with_targets
map_grows m a b j staged map =
    let more : Batch = if staged then map_targets m j map.map else [] in
    let long = ap (λ (z : Desk). length z.staged) map.is ∙ length-append a.staged more in
    omega (arith, long)

-- A row is written: its cells, of which one is not on the disk that is out where the parity is, and the parity.
pub row_grows : (m : Meta) (s s1 s2 s3 s4 : Desk) (r p j count : ℕ) (old fixed : Block) (staged : Bool) → length s1.staged ≡ length s.staged → AddsTargets m s1 s2
    → (named_out m.out ≡ Some p → length s1.staged + count ≤ length s2.staged) → 1 ≤ count
    → s3 ≡ cell_desk m s2 r p old fixed → StagesMap m s3 s4 j staged → length s.staged + 1 ≤ length s4.staged
row_grows m s s1 s2 s3 s4 r p j count old fixed staged same adds cells some cell map =
    let last = map_grows m s3 s4 j staged map in
    let long = cell_length m s2 s3 r p old fixed cell in
    elim (decide_some (named_out m.out) p) [
      | inl at ↦ (let more = cells at in omega (arith, same, more, some, long, last))
      | inr off ↦ (let first = targets_grow m s1 s2 adds in let one = cell_grows m s2 s3 r p old fixed cell off in omega (arith, same, first, one, last))
    ]

-- a row that was named before brings no pair anew
pub old_row_none : (n : ℕ) (p : Pairs) (at : ℕ) → names_row n (pairs_before p at) (home_row n (get_or p.blocks at 0)) ≡ true → count_of_new_row n p at ≡ 0
unfolding count_of_new_row
old_row_none n p at h = rw h refl

-- the row of the first pair is new
first_row_some : (n : ℕ) (p : Pairs) (at : ℕ) → at ≡ 0 → 1 ≤ count_of_new_row n p at
unfolding names_row
first_row_some n p at first =
    let none : names_row n (pairs_before p at) (home_row n (get_or p.blocks at 0)) ≡ false = ap (λ (k : ℕ). names_row n (pairs_before p k) (home_row n (get_or p.blocks at 0))) first ∙ ap (λ z. names_row n z (home_row n (get_or p.blocks at 0))) (before_none p) in
    let is = new_row_some n p at none in
    let some = p.some in
    let counted = pair_counted n p at (omega (arith, first, some)) in
    omega (arith, is, counted)

-- one pair more
pub pair_grows : (n : ℕ) (p : Pairs) (at : ℕ) (m : Meta) (a b d : Desk) → AddsTargets m a b → AddsTargets m b d → (1 ≤ at → length a.staged + 1 ≤ length b.staged)
    → (1 ≤ count_of_new_row n p at → length b.staged + 1 ≤ length d.staged) → length a.staged + 1 ≤ length d.staged
pair_grows n p at m a b d first more was next =
    let before = targets_grow m a b first in
    let later = targets_grow m b d more in
    elim (cases_eq at 0) [
      | inl is ↦ (let one = next (first_row_some n p at is) in omega (arith, before, one))
      | inr not ↦ (let one = was (omega (arith, not)) in omega (arith, later, one))
    ]
