-- The parts that the cells of a row bring to its new parity, by either rule.
use Rattle.std.specs.Prelude.{◌≡◌, ◌≢◌, ℕ, ◌+◌, ◌==◌, ◌<◌, ◌≤◌, ◌&&◌, ◌||◌, Bool, true, false, not, List, Option, [], ◌∷◌, ◌++◌, get_or, if◌then◌else◌}
use Rattle.std.proofs.Common.{refl, sym, ◌∙◌, ap, subst, arith, inl, inr, zero, suc}
use Rattle.std.proofs.lemmas.Bool.{cases_Bool, cases_eq, true≢false}
use Rattle.std.proofs.lemmas.Bool.Decides.{nat_tests}
use Rattle.paraid_base.specs.declared.block.Block.{Block}
use Rattle.paraid_base.specs.declared.pairs.Pairs.{Pairs}
use Rattle.paraid_base.specs.Cells.{cell_block, home_disk, home_row, parity_disk}
use Rattle.paraid_base.specs.History.{Entry, last_of}
use Rattle.paraid_base.specs.Sums.{without, xor_upto}
use Rattle.paraid_base.specs.Xor.{xor, zero_block}
use Rattle.paraid_base.proofs.CellsLemmas.{home_disk-block_of, home_row-block_of}
use Rattle.paraid_base.proofs.HistoryLemmas.{last_of-append}
use Rattle.paraid_base.proofs.SumsLemmas.{whole_from_others, without_other, without_same, xor_upto_same}
use Rattle.paraid_base.proofs.XorLemmas.{xor_assoc, xor_self, xor_turn, xor_zero, xor_zero_right}
use Rattle.paraid_plan.specs.Desk.{Desk, cell_desk, sees}
use Rattle.paraid_plan.specs.RowWrites.{AreOldRead, IsOldOf, TurnsRow, given_row, is_changed, is_given, names_block, new_parity, pairs_before, parity_part}
use Rattle.paraid_plan.specs.WriteTargets.{needs_old}
use Rattle.paraid_plan.proofs.DeskLemmas.{needs_old_after}
use Rattle.paraid_plan.proofs.PairLemmas.{before_more, before_none, changed_data, changed_parity, given_data, given_parity, named_any, names_none}
use Rattle.paraid_plan.proofs.RowLemmas.{turns_cell, turns_none, turns_same}
use Rattle.paraid_rack.specs.Disks.{with_at}
use Rattle.paraid_rack.proofs.AtomsLemmas.{with_at_other, with_at_same}
use Rattle.paraid_record.specs.declared.meta.Meta.{Meta}
use Rattle.paraid_record.specs.Range.{IsInRange}

-- the sum of sums
xor_both : (a b c d : Block) → xor (xor a b) (xor c d) ≡ xor (xor a c) (xor b d)
xor_both a b c d = sym (xor_assoc (xor a b) c d) ∙ ap (λ (z : Block). xor z d) (xor_turn a b c) ∙ xor_assoc (xor a c) b d

xor_upto_both : (f g : ℕ → Block) (n : ℕ) → xor_upto (λ d. xor (f d) (g d)) n ≡ xor (xor_upto f n) (xor_upto g n)
unfolding xor_upto
xor_upto_both f g zero = sym (xor_self zero_block)
xor_upto_both f g (suc n) = ap (λ (z : Block). xor z (xor (f n) (g n))) (xor_upto_both f g n) ∙ xor_both (xor_upto f n) (xor_upto g n) (f n) (g n)

-- the values with the new bytes

pub given_at_parity : (n : ℕ) (ws : Entry) (r : ℕ) (row : ℕ → Block) (e : ℕ) → e ≡ parity_disk n r → given_row n ws r row e ≡ row e
unfolding given_row
given_at_parity n ws r row e is = let here : (e == parity_disk n r) ≡ true = grind (arith, nat_tests) in rw here refl

pub given_off_parity : (n : ℕ) (ws : Entry) (r : ℕ) (row : ℕ → Block) (e : ℕ) → e ≢ parity_disk n r → given_row n ws r row e ≡ last_of (cell_block n r e) (row e) ws
unfolding given_row
given_off_parity n ws r row e is = let off : (e == parity_disk n r) ≡ false = grind (arith, nat_tests) in rw off refl

pub given_none : (n r : ℕ) (row : ℕ → Block) (e : ℕ) → given_row n [] r row e ≡ row e
given_none n r row e = elim (cases_eq e (parity_disk n r)) [
  | inl is ↦ given_at_parity n [] r row e is
  | inr off ↦ given_off_parity n [] r row e off
]

pub given_more : (n : ℕ) (ws : Entry) (w : ℕ × Block) (r : ℕ) (row : ℕ → Block) (e : ℕ) → given_row n (ws ++ w ∷ []) r row e ≡ given_row n (w ∷ []) r (given_row n ws r row) e
given_more n ws w r row e = elim (cases_eq e (parity_disk n r)) [
  | inl is ↦ given_at_parity n (ws ++ w ∷ []) r row e is ∙ sym (given_at_parity n (w ∷ []) r (given_row n ws r row) e is ∙ given_at_parity n ws r row e is)
  | inr off ↦
      given_off_parity n (ws ++ w ∷ []) r row e off ∙ last_of-append (cell_block n r e) (row e) ws (w ∷ [])
      ∙ ap (λ (z : Block). last_of (cell_block n r e) z (w ∷ [])) (sym (given_off_parity n ws r row e off))
      ∙ sym (given_off_parity n (w ∷ []) r (given_row n ws r row) e off)
]

-- the parts

module _ (n : ℕ) (ws : Entry) (r : ℕ) (row : ℕ → Block) (e : ℕ) where
  abbrev c : ℕ
  c = cell_block n r e

  part_by : (anew changed given : Bool) → is_changed n ws r e ≡ changed → is_given n ws r e ≡ given
      → parity_part n ws r row anew e ≡ xor (if (if anew then not changed else changed) then row e else zero_block) (if given then last_of (cell_block n r e) zero_block ws else zero_block)
  unfolding parity_part
  part_by anew changed given is_changed is_given = rw (is_changed, is_given) refl

  rest_at : e ≡ parity_disk n r → without (given_row n ws r row) (parity_disk n r) e ≡ zero_block
  rest_at is = ap (without (given_row n ws r row) (parity_disk n r)) is ∙ without_same (given_row n ws r row) (parity_disk n r)

  rest_off : e ≢ parity_disk n r → without (given_row n ws r row) (parity_disk n r) e ≡ last_of (cell_block n r e) (row e) ws
  rest_off off = without_other (given_row n ws r row) (parity_disk n r) e off ∙ given_off_parity n ws r row e off

  data_given : e ≢ parity_disk n r → (b : Bool) → names_block ws (cell_block n r e) ≡ b → is_given n ws r e ≡ b
  data_given off b h = given_data n ws r e off ∙ h

  data_changed : e ≢ parity_disk n r → (b : Bool) → names_block ws (cell_block n r e) ≡ b → is_changed n ws r e ≡ b
  data_changed off b h = changed_data n ws r e off ∙ data_given off b h

  pub part_anew : parity_part n ws r row true e ≡ without (given_row n ws r row) (parity_disk n r) e
  part_anew = elim (cases_eq e (parity_disk n r)) [
    | inl is ↦ part_by true true false (changed_parity n ws r e is) (given_parity n ws r e is) ∙ xor_self zero_block ∙ sym (rest_at is)
    | inr off ↦ elim (cases_Bool (names_block ws (cell_block n r e))) [
      | inl h ↦ part_by true true true (data_changed off true h) (data_given off true h) ∙ xor_zero (last_of (cell_block n r e) zero_block ws) ∙ named_any c zero_block (row e) ws h ∙ sym (rest_off off)
      | inr h ↦ part_by true false false (data_changed off false h) (data_given off false h) ∙ xor_zero_right (row e) ∙ sym (rest_off off ∙ names_none c (row e) ws h)
    ]
  ]

  pub part_old : parity_part n ws r row false e ≡ xor (row e) (without (given_row n ws r row) (parity_disk n r) e)
  part_old = elim (cases_eq e (parity_disk n r)) [
    | inl is ↦ part_by false true false (changed_parity n ws r e is) (given_parity n ws r e is) ∙ ap (xor (row e)) (sym (rest_at is))
    | inr off ↦ elim (cases_Bool (names_block ws (cell_block n r e))) [
      | inl h ↦ part_by false true true (data_changed off true h) (data_given off true h) ∙ ap (xor (row e)) (named_any c zero_block (row e) ws h ∙ sym (rest_off off))
      | inr h ↦
          part_by false false false (data_changed off false h) (data_given off false h) ∙ xor_self zero_block
          ∙ sym (ap (xor (row e)) (rest_off off ∙ names_none c (row e) ws h) ∙ xor_self (row e))
    ]
  ]

-- either rule makes the new parity
pub parity_made : (n : ℕ) (ws : Entry) (r : ℕ) (row : ℕ → Block) (anew : Bool) → xor_upto row n ≡ zero_block → xor_upto (parity_part n ws r row anew) n ≡ new_parity n ws r row
unfolding new_parity
parity_made n ws r row true sums = xor_upto_same (parity_part n ws r row true) (without (given_row n ws r row) (parity_disk n r)) n (λ e le. part_anew n ws r row e)
parity_made n ws r row false sums =
    let rest : ℕ → Block = without (given_row n ws r row) (parity_disk n r) in
    xor_upto_same (parity_part n ws r row false) (λ e. xor (row e) (without (given_row n ws r row) (parity_disk n r) e)) n (λ e le. part_old n ws r row e)
    ∙ xor_upto_both row rest n ∙ ap (λ (z : Block). xor z (xor_upto rest n)) sums ∙ xor_zero (xor_upto rest n)

-- the part of a cell, from what was read of it
pub part_added : (n : ℕ) (ws : Entry) (r : ℕ) (row : ℕ → Block) (anew changed : Bool) (d : ℕ) (value sum mid sum_then : Block) → changed ≡ is_changed n ws r d
    → ((if anew then not changed else changed) ≡ true → value ≡ row d)
    → mid ≡ xor sum (if (if anew then not changed else changed) then value else zero_block)
    → sum_then ≡ xor mid (if is_given n ws r d then last_of (cell_block n r d) zero_block ws else zero_block)
    → sum_then ≡ xor sum (parity_part n ws r row anew d)
unfolding parity_part
part_added n ws r row anew changed d value sum mid sum_then is_changed is_value is_mid is_then =
    let last : Block = if is_given n ws r d then last_of (cell_block n r d) zero_block ws else zero_block in
    let part : (if (if anew then not changed else changed) then value else zero_block) ≡ (if (if anew then not changed else changed) then row d else zero_block) =
    by (if anew then not changed else changed) is_value in
    is_then ∙ ap (λ (z : Block). xor z last) is_mid ∙ xor_assoc sum _ last
    ∙ ap (λ (z : Block). xor sum (xor z last)) (part ∙ ap (λ (z : Bool). if (if anew then not z else z) then row d else zero_block) is_changed)
  where
    by : (b : Bool) → (b ≡ true → value ≡ row d) → (if b then value else zero_block) ≡ (if b then row d else zero_block)
    by true h = h refl
    by false h = refl

-- the same where the old value is no part
pub part_left : (n : ℕ) (ws : Entry) (r : ℕ) (row : ℕ → Block) (anew changed : Bool) (d : ℕ) (sum sum_then : Block) → changed ≡ is_changed n ws r d
    → (if anew then not changed else changed) ≡ false → sum_then ≡ xor sum (if is_given n ws r d then last_of (cell_block n r d) zero_block ws else zero_block)
    → sum_then ≡ xor sum (parity_part n ws r row anew d)
part_left n ws r row anew changed d sum sum_then is_changed none is_then =
    part_added n ws r row anew changed d zero_block sum sum sum_then is_changed (λ is. absurd (true≢false (sym is ∙ none)))
    (sym (xor_zero_right sum) ∙ ap (λ (z : Bool). xor sum (if z then zero_block else zero_block)) (sym none)) is_then

-- one pair, whose cell is in the row

one_here : (n b r d : ℕ) (x : Block) (row : ℕ → Block) (e : ℕ) → d ≢ parity_disk n r → cell_block n r d ≡ b → e ≡ d → given_row n ((b, x) ∷ []) r row e ≡ x
one_here n b r d x row e apart is j =
    let off : e ≢ parity_disk n r = (λ k. apart (sym j ∙ k)) in
    let same : cell_block n r e ≡ b = ap (cell_block n r) j ∙ is in
    let here : (b == cell_block n r e) ≡ true = grind (arith, nat_tests) in
    given_off_parity n ((b, x) ∷ []) r row e off ∙ rw here refl

one_other : (n b r d : ℕ) (x : Block) (row : ℕ → Block) (e : ℕ) → 2 ≤ n → d < n → e < n → d ≢ parity_disk n r → cell_block n r d ≡ b → e ≢ d → given_row n ((b, x) ∷ []) r row e ≡ row e
one_other n b r d x row e two ld le apart is j = elim (cases_eq e (parity_disk n r)) [
  | inl k ↦ given_at_parity n ((b, x) ∷ []) r row e k
  | inr k ↦
      let differ : cell_block n r e ≢ b = (λ z. j (sym (home_disk-block_of n r e two le k) ∙ ap (home_disk n) (z ∙ sym is) ∙ home_disk-block_of n r d two ld apart)) in
      let off : (b == cell_block n r e) ≡ false = grind (arith, nat_tests) in
      given_off_parity n ((b, x) ∷ []) r row e k ∙ rw off refl
]

-- one pair, whose block lies in another row
one_elsewhere : (n b r : ℕ) (x : Block) (row : ℕ → Block) (e : ℕ) → 2 ≤ n → e < n → home_row n b ≢ r → given_row n ((b, x) ∷ []) r row e ≡ row e
one_elsewhere n b r x row e two le away = elim (cases_eq e (parity_disk n r)) [
  | inl k ↦ given_at_parity n ((b, x) ∷ []) r row e k
  | inr k ↦
      let differ : cell_block n r e ≢ b = (λ z. away (ap (home_row n) (sym z) ∙ home_row-block_of n r e two le k)) in
      let off : (b == cell_block n r e) ≡ false = grind (arith, nat_tests) in
      given_off_parity n ((b, x) ∷ []) r row e k ∙ rw off refl
]

pub elsewhere_turns : (m : Meta) (s : Desk) (b r : ℕ) (x : Block) (row : ℕ → Block) → home_row m.setup.geometry.disks b ≢ r
    → TurnsRow m r s s row (given_row m.setup.geometry.disks ((b, x) ∷ []) r row)
elsewhere_turns m s b r x row away =
    let low = m.setup.geometry.disks_low in
    turns_same m r s s row row (given_row m.setup.geometry.disks ((b, x) ∷ []) r row) (λ e le. one_elsewhere m.setup.geometry.disks b r x row e (omega arith) le away) (turns_none m r s row)

pub elsewhere_old : (m : Meta) (s : Desk) (ws : Entry) (b r : ℕ) (x : Block) (olds : List (Option Block)) (row : ℕ → Block) → home_row m.setup.geometry.disks b ≢ r
    → AreOldRead m s ws r olds row → AreOldRead m s ws r olds (given_row m.setup.geometry.disks ((b, x) ∷ []) r row)
elsewhere_old m s ws b r x olds row away was = record {
  read = λ e le changed h. let low = m.setup.geometry.disks_low in subst (IsOldOf olds e) (sym (one_elsewhere m.setup.geometry.disks b r x row e (omega arith) le away)) (was.read e le changed h);
}

module _ (m : Meta) (s t : Desk) (ws : Entry) (b r d : ℕ) (x old : Block) (olds : List (Option Block)) (row : ℕ → Block)
    (in_range : IsInRange m) (lr : r < m.setup.geometry.rows) (ld : d < m.setup.geometry.disks) (apart : d ≢ parity_disk m.setup.geometry.disks r) (is : cell_block m.setup.geometry.disks r d ≡ b)
    (is_old : (z : Block) → IsOldOf olds d z → old ≡ z) (e : t ≡ cell_desk m s r d old x) (was : AreOldRead m s ws r olds row) where
  abbrev n : ℕ
  n = m.setup.geometry.disks

  abbrev given : ℕ → Block
  given = given_row m.setup.geometry.disks ((b, x) ∷ []) r row

  two : 2 ≤ n
  two = let low = m.setup.geometry.disks_low in omega arith

  pub pair_turns : names_block ws b ≡ true → TurnsRow m r s t row (given_row m.setup.geometry.disks ((b, x) ∷ []) r row)
  pair_turns named =
      let changed : is_changed n ws r d ≡ true = changed_data n ws r d apart ∙ given_data n ws r d apart ∙ ap (names_block ws) is ∙ named in
      turns_same m r s t row (with_at row d x) given
      (λ k lk. elim (cases_eq k d) [
        | inl j ↦ one_here n b r d x row k apart is j ∙ sym (with_at_same row d x k j)
        | inr j ↦ one_other n b r d x row k two ld lk apart is j ∙ sym (with_at_other row d x k j)
      ])
      (turns_cell m s r d old x x row in_range lr ld (λ h. is_old (row d) (was.read d ld changed h)) (λ _. refl) t e)

  pub pair_old : (olds_then : List (Option Block)) → (needs_old (sees m t) r d ≡ true → IsOldOf olds_then d x) → ((k : ℕ) (z : Block) → k ≢ d → IsOldOf olds k z → IsOldOf olds_then k z)
      → AreOldRead m t ws r olds_then (given_row m.setup.geometry.disks ((b, x) ∷ []) r row)
  pair_old olds_then here others = record {
    read = λ k lk changed h. elim (cases_eq k d) [
      | inl j ↦
          subst (IsOldOf olds_then k) (sym (one_here n b r d x row k apart is j))
          (subst (λ (z : ℕ). IsOldOf olds_then z x) (sym j) (here (ap (λ (z : ℕ). needs_old (sees m t) r z) (sym j) ∙ h)))
      | inr j ↦
          subst (IsOldOf olds_then k) (sym (one_other n b r d x row k two ld lk apart is j))
          (others k (row k) j (was.read k lk changed (sym (needs_old_after m s r d k old x (λ z. j (sym z))) ∙ ap (λ (z : Desk). needs_old (sees m z) r k) (sym e) ∙ h)))
    ];
  }

-- before the first pair
pub given_first : (n : ℕ) (p : Pairs) (r : ℕ) (row : ℕ → Block) (e : ℕ) → given_row n (pairs_before p 0) r row e ≡ row e
given_first n p r row e = ap (λ (z : Entry). given_row n z r row e) (before_none p) ∙ given_none n r row e

-- with one pair more
pub given_next : (n : ℕ) (p : Pairs) (at r : ℕ) (row : ℕ → Block) (e : ℕ) → at < p.count
    → given_row n (pairs_before p (at + 1)) r row e ≡ given_row n ((get_or p.blocks at 0, get_or p.bytes at zero_block) ∷ []) r (given_row n (pairs_before p at) r row) e
given_next n p at r row e l =
    ap (λ (z : Entry). given_row n z r row e) (before_more p at l) ∙ given_more n (pairs_before p at) (get_or p.blocks at 0, get_or p.bytes at zero_block) r row e

-- what is wanted
pub wanted_old : (a b c d : Bool) → c ≡ true → d ≡ true → ((a && b) || (c && d)) ≡ true
wanted_old true true c d hc hd = refl
wanted_old true false c d hc hd = rw (hc, hd) refl
wanted_old false b c d hc hd = rw (hc, hd) refl

pub wanted_part : (a b c d : Bool) → a ≡ true → b ≡ true → ((a && b) || (c && d)) ≡ true
wanted_part a b c d ha hb = rw (ha, hb) refl

pub both_so : (a b : Bool) → a ≡ true → b ≡ true → (a && b) ≡ true
both_so a b ha hb = rw (ha, hb) refl

pub both_second : (a b : Bool) → (a && b) ≡ true → b ≡ true
both_second true b h = h
both_second false b h = absurd (true≢false (sym h))

-- what is not wanted is no part
pub part_not : (a b c d : Bool) → a ≡ true → ((a && b) || (c && d)) ≡ false → b ≡ false
part_not true true c d ha h = absurd (true≢false h)
part_not true false c d ha h = refl
part_not false b c d ha h = absurd (true≢false (sym ha))

-- the last part is that of the parity
pub whole_part : (f : ℕ → Block) (p q n d : ℕ) (sum sum_then x : Block) → q ≡ p → p < n → d ≡ n → sum ≡ xor_upto (without f p) d → x ≡ f q → sum_then ≡ xor sum x → sum_then ≡ xor_upto f n
whole_part f p q n d sum sum_then x eq lp ed is_sum is_x is_then =
    is_then ∙ ap (λ (z : Block). xor z x) (is_sum ∙ ap (xor_upto (without f p)) ed) ∙ ap (xor (xor_upto (without f p) n)) (is_x ∙ ap f eq) ∙ sym (whole_from_others f p n lp)
