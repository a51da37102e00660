-- The dirty bits that a write leaves, row by row and pair by pair.
use Rattle.std.specs.Prelude.{◌≡◌, ◌≢◌, ℕ, ◌+◌, ◌<◌, ◌==◌, ◌&&◌, ◌||◌, nat_lt, not, Bool, true, false, [], ◌∷◌, ◌++◌, get_or, if◌then◌else◌}
use Rattle.std.proofs.Common.{refl, sym, ◌∙◌, ap, arith, inl, inr}
use Rattle.std.proofs.lemmas.Bool.{cases_Bool, cases_eq, true≢false}
use Rattle.std.proofs.lemmas.Bool.Decides.{nat_tests}
use Rattle.paraid_base.specs.declared.block.Block.{Block}
use Rattle.paraid_base.specs.declared.pairs.Pairs.{Pairs}
use Rattle.paraid_base.specs.Cells.{home_disk, home_row, parity_disk}
use Rattle.paraid_base.specs.History.{Entry}
use Rattle.paraid_base.specs.Pairs.{pairs_of}
use Rattle.paraid_base.specs.Xor.{zero_block}
use Rattle.paraid_image.specs.Out.{is_out, named_out}
use Rattle.paraid_image.specs.Spot.{rising_to}
use Rattle.paraid_plan.specs.RowBits.{TurnsBits, names_cell, turns_cell_of, turns_in_new_row}
use Rattle.paraid_plan.specs.RowWrites.{names_row, pairs_before}
use Rattle.paraid_plan.specs.WrittenBits.{bit_after_write, bits_after_block, bits_after_cell, bits_after_writes}
use Rattle.paraid_plan.proofs.LayLemmas.{cases_both, changed_at, changed_off}
use Rattle.paraid_plan.proofs.PairLemmas.{before_more, rows_append}
use Rattle.paraid_record.specs.declared.meta.Meta.{Meta}

-- a cell that is written twice has the bit of one write

twice_by : (low rises out was : Bool) → (if low then false else (if rises then out && (if low then false else (if rises then out && was else true)) else true)) ≡ (if low then false else (if rises then out && was else true))
twice_by true rises out was = refl
twice_by false false out was = refl
twice_by false true true was = refl
twice_by false true false was = refl

bit_twice : (m : Meta) (d : ℕ) (was : Bool) → bit_after_write m d (bit_after_write m d was) ≡ bit_after_write m d was
bit_twice m d was = twice_by (nat_lt d m.gear) (nat_lt d (rising_to m.phase)) (is_out (named_out m.out) d) was

then_by : (m : Meta) (e : ℕ) (f g x y z : Bool) → y ≡ (if f then bit_after_write m e x else x) → z ≡ (if g then bit_after_write m e y else y) → z ≡ (if f || g then bit_after_write m e x else x)
then_by m e true true x y z is_y is_z = is_z ∙ ap (bit_after_write m e) is_y ∙ bit_twice m e x
then_by m e true false x y z is_y is_z = is_z ∙ is_y
then_by m e false true x y z is_y is_z = is_z ∙ ap (bit_after_write m e) is_y
then_by m e false false x y z is_y is_z = is_z ∙ is_y

pub bits_then : (m : Meta) (a b c : ℕ → ℕ → Bool) (f g h : ℕ → ℕ → Bool) → ((q e : ℕ) → h q e ≡ (f q e || g q e)) → TurnsBits m a b f → TurnsBits m b c g → TurnsBits m a c h
bits_then m a b c f g h is p q = λ r e. then_by m e (f r e) (g r e) (a r e) (b r e) (c r e) (p r e) (q r e) ∙ ap (λ (z : Bool). if z then bit_after_write m e (a r e) else a r e) (sym (is r e))

-- the same bits, said in another way
pub bits_same : (m : Meta) (a b : ℕ → ℕ → Bool) (f g : ℕ → ℕ → Bool) → ((q e : ℕ) → g q e ≡ f q e) → TurnsBits m a b f → TurnsBits m a b g
bits_same m a b f g same p = λ q e. p q e ∙ ap (λ (z : Bool). if z then bit_after_write m e (a q e) else a q e) (sym (same q e))

pub bits_none : (m : Meta) (a b : ℕ → ℕ → Bool) (f : ℕ → ℕ → Bool) → b ≡ a → ((q e : ℕ) → f q e ≡ false) → TurnsBits m a b f
bits_none m a b f same none = λ q e. ap (λ (z : ℕ → ℕ → Bool). z q e) same ∙ ap (λ (z : Bool). if z then bit_after_write m e (a q e) else a q e) (sym (none q e))

-- the write of one cell
pub bits_cell : (m : Meta) (r d : ℕ) (a b : ℕ → ℕ → Bool) (f : ℕ → ℕ → Bool) → b ≡ bits_after_cell m r d a → ((q e : ℕ) → f q e ≡ (q == r && e == d)) → TurnsBits m a b f
unfolding bits_after_cell
bits_cell m r d a b f is same = λ q e. ap (λ (z : ℕ → ℕ → Bool). z q e) is ∙ elim (cases_both q r e d) [
  | inl i ↦
      let qr : q ≡ r = i.0 in
      let ed : e ≡ d = i.1 in
      let on : (q == r && e == d) ≡ true = grind (arith, nat_tests) in
      changed_at a r d (bit_after_write m d (a r d)) q e i.0 i.1
      ∙ ap (λ (z : ℕ). bit_after_write m z (a r z)) (sym ed) ∙ ap (λ (z : ℕ). bit_after_write m e (a z e)) (sym qr)
      ∙ ap (λ (z : Bool). if z then bit_after_write m e (a q e) else a q e) (sym (same q e ∙ on))
  | inr off ↦
      changed_off a r d (bit_after_write m d (a r d)) q e off
      ∙ ap (λ (z : Bool). if z then bit_after_write m e (a q e) else a q e) (sym (same q e ∙ away q e off))
]
  where
    away : (q e : ℕ) → (q ≡ r → e ≡ d → ⊥) → (q == r && e == d) ≡ false
    away q e off = elim (cases_eq q r) [
      | inl i ↦ (let j : e ≢ d = off i in grind (arith, nat_tests))
      | inr i ↦ grind (arith, nat_tests)
    ]

-- Bools

or_false : (a : Bool) → (a || false) ≡ a
or_false true = refl
or_false false = refl

pub and_false : (a : Bool) → (a && false) ≡ false
and_false true = refl
and_false false = refl

and_or : (a b c : Bool) → (a && (b || c)) ≡ ((a && b) || (a && c))
and_or true b c = refl
and_or false b c = refl

or_assoc : (a b c : Bool) → ((a || b) || c) ≡ (a || (b || c))
or_assoc true b c = refl
or_assoc false b c = refl

-- one pair

pub one_named : (n b r q d : ℕ) (x : Block) (e : ℕ) → q ≡ home_row n b → d ≡ home_disk n b → q ≡ r → names_cell n ((b, x) ∷ []) r e ≡ (e == d)
unfolding names_cell
one_named n b r q d x e row disk is =
    let on : (home_row n b == r) ≡ true = grind (arith, nat_tests) in
    or_false (home_row n b == r && e == home_disk n b) ∙ ap (λ (z : Bool). z && e == home_disk n b) on ∙ ap (λ (z : ℕ). e == z) (sym disk)

pub one_unnamed : (n b r q : ℕ) (x : Block) (e : ℕ) → q ≡ home_row n b → q ≢ r → names_cell n ((b, x) ∷ []) r e ≡ false
unfolding names_cell
one_unnamed n b r q x e row away =
    let off : (home_row n b == r) ≡ false = grind (arith, nat_tests) in
    or_false (home_row n b == r && e == home_disk n b) ∙ ap (λ (z : Bool). z && e == home_disk n b) off

cells_append : (n : ℕ) (ws : Entry) (w : ℕ × Block) (r e : ℕ) → names_cell n (ws ++ w ∷ []) r e ≡ (names_cell n ws r e || names_cell n (w ∷ []) r e)
unfolding names_cell
cells_append n [] w r e = refl
cells_append n (x ∷ ws) w r e =
    ap (λ (z : Bool). (home_row n x.0 == r && e == home_disk n x.0) || z) (cells_append n ws w r e)
    ∙ sym (or_assoc (home_row n x.0 == r && e == home_disk n x.0) (names_cell n ws r e) ((home_row n w.0 == r && e == home_disk n w.0) || false))

pub cells_none : (n : ℕ) (p : Pairs) (r q e : ℕ) → (q == r && names_cell n (pairs_before p 0) r e) ≡ false
unfolding names_cell pairs_before
cells_none n p r q e = and_false (q == r)

pub cells_next : (n : ℕ) (p : Pairs) (at r q e : ℕ) → at < p.count
    → (q == r && names_cell n (pairs_before p (at + 1)) r e)
    ≡ ((q == r && names_cell n (pairs_before p at) r e) || (q == r && names_cell n ((get_or p.blocks at 0, get_or p.bytes at zero_block) ∷ []) r e))
cells_next n p at r q e l =
    ap (λ (z : Entry). q == r && names_cell n z r e) (before_more p at l)
    ∙ ap (λ (z : Bool). q == r && z) (cells_append n (pairs_before p at) (get_or p.blocks at 0, get_or p.bytes at zero_block) r e)
    ∙ and_or (q == r) (names_cell n (pairs_before p at) r e) (names_cell n ((get_or p.blocks at 0, get_or p.bytes at zero_block) ∷ []) r e)

-- a row, with its parity
pub row_turns : (n : ℕ) (ws : Entry) (r p q e : ℕ) → p ≡ parity_disk n r → (q == r && turns_cell_of n ws r e) ≡ ((q == r && names_cell n ws r e) || (q == r && e == p))
unfolding turns_cell_of
row_turns n ws r p q e is = and_or (q == r) (names_cell n ws r e) (e == parity_disk n r) ∙ ap (λ (z : ℕ). (q == r && names_cell n ws r e) || (q == r && e == z)) (sym is)

-- the row of one pair

pub old_row_turns : (n : ℕ) (p : Pairs) (at q e : ℕ) → names_row n (pairs_before p at) (home_row n (get_or p.blocks at 0)) ≡ true → turns_in_new_row n p at q e ≡ false
unfolding turns_in_new_row
old_row_turns n p at q e h = rw h refl

pub new_row_turns : (n : ℕ) (p : Pairs) (at q e r : ℕ) → r ≡ home_row n (get_or p.blocks at 0) → names_row n (pairs_before p at) (home_row n (get_or p.blocks at 0)) ≡ false
    → turns_in_new_row n p at q e ≡ (q == r && turns_cell_of n (pairs_of p) r e)
unfolding turns_in_new_row
new_row_turns n p at q e r is h = rw h (ap (λ (z : ℕ). q == z && turns_cell_of n (pairs_of p) z e) (sym is))

-- all rows so far

next_by : (r q : ℕ) (new here cell cell_here : Bool) → (q ≡ r → here ≡ new) → (q ≡ r → cell ≡ cell_here)
    → ((here || r == q) && cell_here) ≡ ((here && cell_here) || (not new && (q == r && cell)))
next_by r q new here cell cell_here same cells = elim (cases_eq q r) [
  | inl i ↦
      let on : (q == r) ≡ true = grind (arith, nat_tests) in
      let no : (r == q) ≡ true = grind (arith, nat_tests) in
      rw (on, no, same i, cells i) (at_row new cell_here)
  | inr i ↦
      let on : (q == r) ≡ false = grind (arith, nat_tests) in
      let no : (r == q) ≡ false = grind (arith, nat_tests) in
      rw (on, no) (off_row new here cell_here)
]
  where
    at_row : (a c : Bool) → ((a || true) && c) ≡ ((a && c) || (not a && (true && c)))
    at_row true true = refl
    at_row true false = refl
    at_row false true = refl
    at_row false false = refl

    off_row : (a b c : Bool) → ((b || false) && c) ≡ ((b && c) || (not a && false))
    off_row true true true = refl
    off_row true true false = refl
    off_row true false c = refl
    off_row false true true = refl
    off_row false true false = refl
    off_row false false c = refl

pub rows_turn_none : (n : ℕ) (p : Pairs) (q e : ℕ) → (names_row n (pairs_before p 0) q && turns_cell_of n (pairs_of p) q e) ≡ false
unfolding names_row pairs_before
rows_turn_none n p q e = refl

pub rows_turn_next : (n : ℕ) (p : Pairs) (at q e : ℕ) → at < p.count
    → (names_row n (pairs_before p (at + 1)) q && turns_cell_of n (pairs_of p) q e)
    ≡ ((names_row n (pairs_before p at) q && turns_cell_of n (pairs_of p) q e) || turns_in_new_row n p at q e)
unfolding turns_in_new_row
rows_turn_next n p at q e l =
    let r : ℕ = home_row n (get_or p.blocks at 0) in
    let seen : Entry = pairs_before p at in
    ap (λ (z : Entry). names_row n z q && turns_cell_of n (pairs_of p) q e) (before_more p at l)
    ∙ ap (λ (z : Bool). z && turns_cell_of n (pairs_of p) q e) (rows_append n seen (get_or p.blocks at 0, get_or p.bytes at zero_block) q)
    ∙ next_by r q (names_row n seen r) (names_row n seen q) (turns_cell_of n (pairs_of p) r e) (turns_cell_of n (pairs_of p) q e)
    (λ i. ap (names_row n seen) i) (λ i. ap (λ (z : ℕ). turns_cell_of n (pairs_of p) z e) (sym i))

-- a block in a row names it
named_row : (n : ℕ) (ws : Entry) (q e : ℕ) → names_cell n ws q e ≡ true → names_row n ws q ≡ true
unfolding names_cell names_row
named_row n [] q e h = h
named_row n (w ∷ ws) q e h = elim (cases_Bool (home_row n w.0 == q)) [
  | inl on ↦ rw on refl
  | inr off ↦ rw off (named_row n ws q e (ap (λ (z : Bool). (z && e == home_disk n w.0) || names_cell n ws q e) (sym off) ∙ h))
]

-- the tests of one pair more
more_by : (a h y named cell : Bool) → (cell ≡ true → named ≡ true) → ((a || named) && (((a && h) || cell) || y)) ≡ ((named && (cell || y)) || (a && (h || y)))
more_by false h y named cell is = sym (or_false (named && (cell || y)))
more_by true true y true true is = refl
more_by true true y true false is = by y
  where
    by : (y : Bool) → true ≡ (y || true)
    by true = refl
    by false = refl
more_by true true y false cell is = refl
more_by true false true true true is = refl
more_by true false true true false is = refl
more_by true false true false true is = refl
more_by true false true false false is = refl
more_by true false false true true is = refl
more_by true false false true false is = refl
more_by true false false false true is = absurd (true≢false (sym (is refl)))
more_by true false false false false is = refl

or_swap : (a b : Bool) → (a || b) ≡ (b || a)
or_swap true true = refl
or_swap true false = refl
or_swap false true = refl
or_swap false false = refl

head_turns : (n : ℕ) (w : ℕ × Block) (ws : Entry) (q e : ℕ)
    → (names_row n (w ∷ ws) q && turns_cell_of n (w ∷ ws) q e)
    ≡ ((names_row n ws q && turns_cell_of n ws q e) || (home_row n w.0 == q && (e == home_disk n w.0 || e == parity_disk n q)))
unfolding names_row turns_cell_of names_cell
head_turns n w ws q e = more_by (home_row n w.0 == q) (e == home_disk n w.0) (e == parity_disk n q) (names_row n ws q) (names_cell n ws q e) (named_row n ws q e)

cell_split : (n b q e : ℕ) → (home_row n b == q && (e == home_disk n b || e == parity_disk n q))
    ≡ ((q == home_row n b && e == home_disk n b) || (q == home_row n b && e == parity_disk n (home_row n b)))
cell_split n b q e = elim (cases_eq q (home_row n b)) [
  | inl i ↦
      let on : (q == home_row n b) ≡ true = grind (arith, nat_tests) in
      let no : (home_row n b == q) ≡ true = grind (arith, nat_tests) in
      rw (on, no) (ap (λ (z : ℕ). e == home_disk n b || e == parity_disk n z) i)
  | inr i ↦
      let on : (q == home_row n b) ≡ false = grind (arith, nat_tests) in
      let no : (home_row n b == q) ≡ false = grind (arith, nat_tests) in
      rw (on, no) refl
]

block_turns : (m : Meta) (b : ℕ) (bits : ℕ → ℕ → Bool)
    → TurnsBits m bits (bits_after_block m b bits) (λ q e. home_row m.setup.geometry.disks b == q && (e == home_disk m.setup.geometry.disks b || e == parity_disk m.setup.geometry.disks q))
unfolding bits_after_block
block_turns m b bits =
    let n = m.setup.geometry.disks in
    let r : ℕ = home_row n b in
    let first : ℕ → ℕ → Bool = bits_after_cell m r (home_disk n b) bits in
    bits_then m bits first (bits_after_cell m r (parity_disk n r) first) (λ q e. q == home_row n b && e == home_disk n b) (λ q e. q == home_row n b && e == parity_disk n (home_row n b)) _
    (λ q e. cell_split n b q e)
    (bits_cell m r (home_disk n b) bits first _ refl (λ q e. refl))
    (bits_cell m r (parity_disk n r) first (bits_after_cell m r (parity_disk n r) first) _ refl (λ q e. refl))

-- one block after the other turns the bits of all rows that are named
pub writes_turn : (m : Meta) (ws : Entry) (bits : ℕ → ℕ → Bool) (q e : ℕ)
    → bits_after_writes m ws bits q e
    ≡ (if names_row m.setup.geometry.disks ws q && turns_cell_of m.setup.geometry.disks ws q e then bit_after_write m e (bits q e) else bits q e)
unfolding names_row
writes_turn m [] bits q e = refl
writes_turn m (w ∷ ws) bits q e =
    let n = m.setup.geometry.disks in
    then_by m e (home_row n w.0 == q && (e == home_disk n w.0 || e == parity_disk n q)) (names_row n ws q && turns_cell_of n ws q e) (bits q e) (bits_after_block m w.0 bits q e) (bits_after_writes m ws (bits_after_block m w.0 bits) q e)
    (block_turns m w.0 bits q e) (writes_turn m ws (bits_after_block m w.0 bits) q e)
    ∙ ap (λ (z : Bool). if z then bit_after_write m e (bits q e) else bits q e) (or_swap (home_row n w.0 == q && (e == home_disk n w.0 || e == parity_disk n q)) (names_row n ws q && turns_cell_of n ws q e) ∙ sym (head_turns n w ws q e))
