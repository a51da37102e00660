-- What the parts of a write stage, put together.
use Rattle.std.specs.Prelude.{◌≡◌, ◌≢◌, ℕ, ◌+◌, ◌<◌, ◌≤◌, ◌&&◌, ◌||◌, nat_le, nat_lt, Bool, true, false, not, List, [], ◌++◌, length, Option, if◌then◌else◌}
use Rattle.std.proofs.Common.{refl, sym, ◌∙◌, ap, arith, inl, inr}
use Rattle.std.proofs.lemmas.Bool.{cases_Bool, true≢false}
use Rattle.std.proofs.lemmas.Bool.Decides.{nat_tests}
use Rattle.std.proofs.lemmas.List.{append_assoc, append-nil, length-append}
use Rattle.paraid_base.specs.declared.block.Block.{Block}
use Rattle.paraid_base.specs.Log.{map_block_place}
use Rattle.paraid_base.specs.Regions.{hard_place_of, soft_place_of}
use Rattle.paraid_base.specs.Soft.{soft_disk, soft_parity_disk, soft_stripe}
use Rattle.paraid_base.specs.Xor.{xor}
use Rattle.paraid_base.proofs.XorLemmas.{xor_assoc}
use Rattle.paraid_plan.specs.Desk.{Desk, StagesMap, cell_desk, copy_targets, place_targets, sees, desk_with_bit, with_targets}
use Rattle.paraid_plan.specs.RowWrites.{HasRoom, has_soft}
use Rattle.paraid_plan.specs.WriteTargets.{cell_targets, fill_targets, goes_hard, hard_targets, is_filled, is_written, needs_new, needs_old, overlaid_blocks, map_targets, soft_count, soft_targets, stripe_block_now, target_if}
use Rattle.paraid_dirty.specs.Table.{ShowsBits}
use Rattle.paraid_plan.proofs.CellLemmas.{goes_parked}
use Rattle.paraid_plan.proofs.LayLemmas.{changed_off, overlaid_blocks-append}
use Rattle.paraid_record.specs.declared.meta.Meta.{Meta}
use Rattle.paraid_record.specs.Codes.{phase_to}
use Rattle.paraid_image.specs.Sides.{Batch}
use Rattle.paraid_image.specs.Out.{is_out, named_out}
use Rattle.paraid_image.specs.Spot.{View, is_hard, rising_to}

pub with_targets_none : (s : Desk) → s ≡ with_targets s []
unfolding with_targets overlaid_blocks
with_targets_none s = λ t. record { block = s.block; dirty = s.dirty; staged = sym (append-nil s.staged) t }

pub with_targets_append : (s : Desk) (a b : Batch) → with_targets (with_targets s a) b ≡ with_targets s (a ++ b)
unfolding with_targets
with_targets_append s a b = λ t. record { block = sym (overlaid_blocks-append a b s.block) t; dirty = s.dirty; staged = append_assoc s.staged a b t }

pub one_more : (s t : Desk) (d p : ℕ) (b : Block) → t ≡ with_targets s (target_if true d p b) → length t.staged ≤ length s.staged + 1
unfolding with_targets
one_more s t d p b e =
    let k : length t.staged ≡ length (s.staged ++ target_if true d p b) = ap (λ (z : Desk). length z.staged) e in
    let l : length (s.staged ++ target_if true d p b) ≡ length s.staged + 1 = length-append s.staged (target_if true d p b) in
    omega arith

-- one after the other
two_steps : (s s1 s2 : Desk) (a b : Batch) → s1 ≡ with_targets s a → s2 ≡ with_targets s1 b → s2 ≡ with_targets s (a ++ b)
two_steps s s1 s2 a b e f = f ∙ ap (λ (z : Desk). with_targets z b) e ∙ with_targets_append s a b

pub place_hard : (m : Meta) (s t : Desk) (hard w : Bool) (r d p : ℕ) (new y : Block) → hard ≡ true → w ≡ is_written m.out d r
    → p ≡ hard_place_of m.setup.geometry r → t ≡ with_targets s (target_if w d p new) → t ≡ with_targets s (place_targets m hard r d new y)
unfolding place_targets
place_hard m s t hard w r d p new y h ew ep e = e ∙ rw (h, ew, ep) refl

pub place_soft : (m : Meta) (s s1 s2 : Desk) (hard w1 w2 : Bool) (r d st copy place parity : ℕ) (new y : Block) → hard ≡ false
    → st ≡ soft_stripe m.setup.geometry.disks m.gear r d → copy ≡ soft_disk m.setup.geometry.disks m.gear r d
    → place ≡ soft_place_of m.setup.geometry m.gear st → parity ≡ soft_parity_disk m.gear st
    → w1 ≡ is_written m.out copy (m.setup.geometry.rows + st) → w2 ≡ is_written m.out parity (m.setup.geometry.rows + st)
    → s1 ≡ with_targets s (target_if w1 copy place new) → s2 ≡ with_targets s1 (target_if w2 parity place y)
    → s2 ≡ with_targets s (place_targets m hard r d new y)
unfolding place_targets
place_soft m s s1 s2 hard w1 w2 r d st copy place parity new y h es ec ep eq e1 e2 f1 f2 =
    two_steps s s1 s2 (target_if w1 copy place new) (target_if w2 parity place y) f1 f2 ∙ rw (h, e1, e2, ep, eq, ec, es) refl

pub copy_none : (m : Meta) (s : Desk) (filled : Bool) (r d : ℕ) (new y : Block) → filled ≡ false → s ≡ with_targets s (copy_targets m filled r d new y)
unfolding copy_targets
copy_none m s filled r d new y h = with_targets_none s ∙ rw h refl

pub copy_both : (m : Meta) (s s1 s2 : Desk) (filled : Bool) (r d to st copy place parity : ℕ) (new y : Block) → filled ≡ true
    → to ≡ phase_to m.phase → st ≡ soft_stripe m.setup.geometry.disks to r d → copy ≡ soft_disk m.setup.geometry.disks to r d
    → place ≡ soft_place_of m.setup.geometry to st → parity ≡ soft_parity_disk to st
    → s1 ≡ with_targets s (target_if true copy place new) → s2 ≡ with_targets s1 (target_if true parity place y)
    → s2 ≡ with_targets s (copy_targets m filled r d new y)
unfolding copy_targets
copy_both m s s1 s2 filled r d to st copy place parity new y h et es ec ep eq f1 f2 =
    two_steps s s1 s2 (target_if true copy place new) (target_if true parity place y) f1 f2 ∙ rw (h, ep, eq, ec, es, et) refl

pub parked_of : (v : View) (r d : ℕ) → goes_hard v r d ≡ false → v.meta.gear ≤ d
parked_of v r d h = goes_parked v r d (ap not h)

-- a block that is not written does not matter
target_same : (w : Bool) (d p : ℕ) (a b : Block) → (w ≡ true → a ≡ b) → target_if w d p a ≡ target_if w d p b
target_same true d p a b same = ap (target_if true d p) (same refl)
target_same false d p a b same = refl

module _ (m : Meta) (s : Desk) (hard filled : Bool) (r d : ℕ) (old new near copy : Block) where
  abbrev v : View
  v = sees m s

  place_by : (hard : Bool)
      → (hard ≡ false → is_written m.out (soft_parity_disk m.gear (soft_stripe m.setup.geometry.disks m.gear r d)) (m.setup.geometry.rows + soft_stripe m.setup.geometry.disks m.gear r d) ≡ true
      → near ≡ xor (xor (stripe_block_now v (soft_stripe m.setup.geometry.disks m.gear r d) (soft_parity_disk m.gear (soft_stripe m.setup.geometry.disks m.gear r d))) old) new)
      → place_targets m hard r d new near ≡ (if hard then hard_targets v r d new else soft_targets v r d old new)
  unfolding place_targets
  place_by true fact = refl
  place_by false fact =
      let g = m.setup.geometry in
      let st : ℕ = soft_stripe g.disks m.gear r d in
      let parity : ℕ = soft_parity_disk m.gear st in
      let place : ℕ = soft_place_of g m.gear st in
      ap (λ (z : Batch). target_if (is_written m.out (soft_disk g.disks m.gear r d) (g.rows + st)) (soft_disk g.disks m.gear r d) place new ++ z)
      (target_same (is_written m.out parity (g.rows + st)) parity place near (xor (stripe_block_now v st parity) (xor old new))
      (λ w. fact refl w ∙ xor_assoc (stripe_block_now v st parity) old new))

  copy_by : filled ≡ is_filled m r d
      → (filled ≡ true → copy ≡ xor (xor (s.block (soft_parity_disk (phase_to m.phase) (soft_stripe m.setup.geometry.disks (phase_to m.phase) r d))
      (soft_place_of m.setup.geometry (phase_to m.phase) (soft_stripe m.setup.geometry.disks (phase_to m.phase) r d))) old) new)
      → copy_targets m filled r d new copy ≡ fill_targets v r d old new
  unfolding copy_targets
  copy_by is fact =
      let g = m.setup.geometry in
      let to : ℕ = phase_to m.phase in
      let st : ℕ = soft_stripe g.disks to r d in
      let parity : ℕ = soft_parity_disk to st in
      let place : ℕ = soft_place_of g to st in
      ap (λ (z : Batch). target_if filled (soft_disk g.disks to r d) place new ++ z)
      (target_same filled parity place copy (xor (s.block parity place) (xor old new)) (λ w. fact w ∙ xor_assoc (s.block parity place) old new))
      ∙ ap (λ (f : Bool). target_if f (soft_disk g.disks to r d) place new ++ target_if f parity place (xor (s.block parity place) (xor old new))) is

  pub cell_desk_is : (s1 s2 s3 s4 s5 : Desk) → s1 ≡ s → s2 ≡ s1 → hard ≡ goes_hard v r d → filled ≡ is_filled m r d
      → (hard ≡ false → is_written m.out (soft_parity_disk m.gear (soft_stripe m.setup.geometry.disks m.gear r d)) (m.setup.geometry.rows + soft_stripe m.setup.geometry.disks m.gear r d) ≡ true
      → near ≡ xor (xor (stripe_block_now v (soft_stripe m.setup.geometry.disks m.gear r d) (soft_parity_disk m.gear (soft_stripe m.setup.geometry.disks m.gear r d))) old) new)
      → (filled ≡ true → copy ≡ xor (xor (s1.block (soft_parity_disk (phase_to m.phase) (soft_stripe m.setup.geometry.disks (phase_to m.phase) r d))
      (soft_place_of m.setup.geometry (phase_to m.phase) (soft_stripe m.setup.geometry.disks (phase_to m.phase) r d))) old) new)
      → s3 ≡ with_targets s2 (place_targets m hard r d new near) → s4 ≡ with_targets s3 (copy_targets m filled r d new copy)
      → s5 ≡ desk_with_bit s4 r d (not hard) → s5 ≡ cell_desk m s r d old new
  unfolding cell_desk
  cell_desk_is s1 s2 s3 s4 s5 e1 e2 is_hard is_filled near_is copy_is e3 e4 e5 =
      let place : Batch = place_targets m hard r d new near in
      let more : Batch = copy_targets m filled r d new copy in
      let to : ℕ = phase_to m.phase in
      let st : ℕ = soft_stripe m.setup.geometry.disks to r d in
      let first : place ≡ (if goes_hard v r d then hard_targets v r d new else soft_targets v r d old new) = place_by hard near_is
      ∙ ap (λ (h : Bool). if h then hard_targets v r d new else soft_targets v r d old new) is_hard in
      let second : more ≡ fill_targets v r d old new = copy_by is_filled
      (λ w. copy_is w ∙ ap (λ (z : Desk). xor (xor (z.block (soft_parity_disk to st) (soft_place_of m.setup.geometry to st)) old) new) e1) in
      let both : place ++ more ≡ cell_targets v r d old new = ap (λ (z : Batch). z ++ more) first
      ∙ ap (λ (z : Batch). (if goes_hard v r d then hard_targets v r d new else soft_targets v r d old new) ++ z) second in
      e5 ∙ ap (λ (z : Desk). desk_with_bit z r d (not hard)) (two_steps s2 s3 s4 place more e3 e4 ∙ ap (λ (z : Desk). with_targets z (place ++ more)) (e2 ∙ e1) ∙ ap (with_targets s) both)
      ∙ ap (λ (h : Bool). desk_with_bit (with_targets s (cell_targets v r d old new)) r d (not h)) is_hard

pub cell_room : (s s1 s2 s3 s4 s5 : Desk) (r d : ℕ) (bit : Bool) → length s1.staged ≡ length s.staged → length s2.staged ≡ length s1.staged → length s3.staged ≤ length s2.staged + 2
    → length s4.staged ≤ length s3.staged + 2 → s5 ≡ desk_with_bit s4 r d bit → length s5.staged ≤ length s.staged + 4
unfolding desk_with_bit
cell_room s s1 s2 s3 s4 s5 r d bit e1 e2 l3 l4 e5 =
    let k : length s5.staged ≡ length s4.staged = ap (λ (z : Desk). length z.staged) e5 in
    omega arith

-- the map

pub map_none : (m : Meta) (s : Desk) (j : ℕ) (staged : Bool) (b : Block) → staged ≡ false → StagesMap m s s j staged
map_none m s j staged b h = record {
  map = b;
  shows = λ is. absurd (true≢false (sym is ∙ h));
  is = with_targets_none s ∙ ap (λ (z : Bool). with_targets s (if z then map_targets m j b else [])) (sym h);
}

pub map_both : (m : Meta) (s s1 s2 s3 : Desk) (j : ℕ) (staged w1 w2 : Bool) (b : Block) → staged ≡ true → ShowsBits b j s.dirty → s1 ≡ s
    → w1 ≡ is_written m.out 0 (m.setup.geometry.rows + soft_count m + j) → w2 ≡ is_written m.out 1 (m.setup.geometry.rows + soft_count m + j)
    → s2 ≡ with_targets s1 (target_if w1 0 (map_block_place m.setup.geometry j) b) → s3 ≡ with_targets s2 (target_if w2 1 (map_block_place m.setup.geometry j) b) → StagesMap m s s3 j staged
map_both m s s1 s2 s3 j staged w1 w2 b h shows e1 ew1 ew2 e2 e3 = record {
  map = b;
  shows = λ is. shows;
  is = two_steps s1 s2 s3 (target_if w1 0 (map_block_place m.setup.geometry j) b) (target_if w2 1 (map_block_place m.setup.geometry j) b) e2 e3 ∙ rw (e1, ew1, ew2, h) refl;
}

-- what a block does not show does not matter

pub first_of_or : (a b : Bool) → (a || b) ≡ false → a ≡ false
first_of_or true b h = h
first_of_or false b h = refl

pub second_of_or : (a b : Bool) → (a || b) ≡ false → b ≡ false
second_of_or true b h = absurd (true≢false h)
second_of_or false b h = h

soft_same : (hard written : Bool) (v : View) (r d : ℕ) (old other new : Block) → (not hard && written) ≡ false
    → written ≡ is_written v.meta.out (soft_parity_disk v.meta.gear (soft_stripe v.meta.setup.geometry.disks v.meta.gear r d)) (v.meta.setup.geometry.rows + soft_stripe v.meta.setup.geometry.disks v.meta.gear r d)
    → (if hard then hard_targets v r d new else soft_targets v r d old new) ≡ (if hard then hard_targets v r d new else soft_targets v r d other new)
soft_same true written v r d old other new h is = refl
soft_same false true v r d old other new h is = absurd (true≢false h)
soft_same false false v r d old other new h is = rw (sym is) refl

fill_same : (v : View) (r d : ℕ) (old other new : Block) → is_filled v.meta r d ≡ false → fill_targets v r d old new ≡ fill_targets v r d other new
fill_same v r d old other new h = rw h refl

pub targets_without_old : (v : View) (r d : ℕ) (old other new : Block) → needs_old v r d ≡ false → cell_targets v r d old new ≡ cell_targets v r d other new
unfolding needs_old
targets_without_old v r d old other new h =
    ap (λ (z : Batch). z ++ fill_targets v r d old new) (soft_same (goes_hard v r d) _ v r d old other new (first_of_or _ (is_filled v.meta r d) h) refl)
    ∙ ap (λ (z : Batch). (if goes_hard v r d then hard_targets v r d new else soft_targets v r d other new) ++ z)
    (fill_same v r d old other new (second_of_or _ (is_filled v.meta r d) h))

hard_none : (hard written : Bool) (v : View) (r d : ℕ) (old new : Block) → (not hard || written) ≡ false → written ≡ is_written v.meta.out d r
    → (if hard then hard_targets v r d new else soft_targets v r d old new) ≡ []
hard_none true true v r d old new h is = absurd (true≢false h)
hard_none true false v r d old new h is = rw (sym is) refl
hard_none false written v r d old new h is = absurd (true≢false h)

fill_none : (v : View) (r d : ℕ) (old new : Block) → is_filled v.meta r d ≡ false → fill_targets v r d old new ≡ []
fill_none v r d old new h = rw h refl

pub targets_without_new : (v : View) (r d : ℕ) (old new : Block) → needs_new v r d ≡ false → cell_targets v r d old new ≡ []
unfolding needs_new
targets_without_new v r d old new h =
    ap (λ (z : Batch). z ++ fill_targets v r d old new) (hard_none (goes_hard v r d) _ v r d old new (first_of_or _ (is_filled v.meta r d) h) refl)
    ∙ fill_none v r d old new (second_of_or _ (is_filled v.meta r d) h)

-- an old value is needed only where there is room for it
not_both : (a : Bool) → (a && false) ≡ false
not_both true = refl
not_both false = refl

pub soft_needed : (m : Meta) (s : Desk) (r d : ℕ) → d < m.setup.geometry.disks → has_soft m ≡ false → needs_old (sees m s) r d ≡ false
unfolding has_soft needs_old goes_hard is_hard
soft_needed m s r d l h =
    let top : nat_lt m.gear m.setup.geometry.disks ≡ false = first_of_or _ (nat_lt 0 m.fill) h in
    let still : nat_lt 0 m.fill ≡ false = second_of_or _ (nat_lt 0 m.fill) h in
    let low : nat_lt d m.gear ≡ true = grind (arith, nat_tests) in
    let none : nat_lt (soft_stripe m.setup.geometry.disks (phase_to m.phase) r d) m.fill ≡ false = grind (arith, nat_tests) in
    rw (low, none) (not_both (nat_le (phase_to m.phase) d))

pub old_fits : (m : Meta) (s : Desk) (r d : ℕ) (olds : List (Option Block)) → d < m.setup.geometry.disks → HasRoom m olds → needs_old (sees m s) r d ≡ true → d < length olds
old_fits m s r d olds l room h = elim (cases_Bool (has_soft m)) [
  | inl soft ↦ (let high = m.setup.geometry.disks_high in let long = room soft in omega (arith, high, l, long))
  | inr none ↦ absurd (true≢false (sym h ∙ soft_needed m s r d l none))
]

-- the write of another cell of the row leaves what is needed of this one
hard_after : (m : Meta) (s : Desk) (r d p : ℕ) (old new : Block) → d ≢ p → goes_hard (sees m (cell_desk m s r d old new)) r p ≡ goes_hard (sees m s) r p
unfolding goes_hard is_hard cell_desk desk_with_bit with_targets
hard_after m s r d p old new apart =
    ap (λ (z : Bool). (nat_lt p m.gear || (nat_lt p (rising_to m.phase) && not z)) || (nat_lt p (rising_to m.phase) && not (is_out (named_out m.out) p)))
    (changed_off s.dirty r d (not (goes_hard (sees m s) r d)) r p (λ _ z. apart (sym z)))

pub needs_old_after : (m : Meta) (s : Desk) (r d p : ℕ) (old new : Block) → d ≢ p → needs_old (sees m (cell_desk m s r d old new)) r p ≡ needs_old (sees m s) r p
unfolding needs_old
needs_old_after m s r d p old new apart =
    ap (λ (z : Bool). (not z && is_written m.out (soft_parity_disk m.gear (soft_stripe m.setup.geometry.disks m.gear r p)) (m.setup.geometry.rows + soft_stripe m.setup.geometry.disks m.gear r p)) || is_filled m r p)
    (hard_after m s r d p old new apart)
