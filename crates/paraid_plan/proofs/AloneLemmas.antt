-- The new parity of a row in which one cell alone is given new bytes.
use Rattle.std.specs.Prelude.{◌≡◌, ◌≢◌, ℕ, ◌<◌, ◌&&◌, nat_lt, nat_le, Bool, true, false, List, Option, Some, None, get_or, length}
use Rattle.std.proofs.Common.{refl, sym, ◌∙◌, ap, arith, inl, inr, zero, suc, bit_xor}
use Rattle.std.proofs.lemmas.Bool.{cases_eq, true≢false}
use Rattle.std.proofs.lemmas.Bool.Decides.{nat_tests}
use Rattle.std.proofs.lemmas.Option.{none-some}
use Rattle.std.proofs.lemmas.Simd.{get_or-zip2}
use Rattle.paraid_base.specs.declared.block.Block.{Block}
use Rattle.paraid_base.specs.Cells.{cell_block, parity_disk}
use Rattle.paraid_base.specs.History.{Entry, last_of}
use Rattle.paraid_base.specs.Soft.{soft_stripe}
use Rattle.paraid_base.specs.Sums.{without, xor_upto}
use Rattle.paraid_base.specs.Xor.{xor, zero_block}
use Rattle.paraid_base.proofs.SumsLemmas.{whole_from_others, without_other, without_same}
use Rattle.paraid_base.proofs.XorLemmas.{xor_assoc, xor_comm, xor_self, xor_zero, xor_zero_right}
use Rattle.paraid_image.specs.Spot.{is_hard}
use Rattle.paraid_parity.proofs.BlockPlaces.{xor_from_places}
use Rattle.paraid_plan.specs.Alone.{IsWrittenAlone}
use Rattle.paraid_plan.specs.Desk.{Desk, sees}
use Rattle.paraid_plan.specs.RowWrites.{AreGivenBy, AreOldRead, is_changed, is_given, new_parity, parity_part}
use Rattle.paraid_plan.specs.WriteTargets.{goes_hard, needs_old}
use Rattle.paraid_plan.proofs.PairLemmas.{changed_data, changed_parity, given_parity, gives_not, gives_this}
use Rattle.paraid_plan.proofs.PartLemmas.{parity_made}
use Rattle.paraid_record.specs.declared.meta.Meta.{Meta}
use Rattle.paraid_record.specs.Codes.{phase_to}

-- three blocks

place_of_xor : (a b : Block) (k : ℕ) → k < 512 → get_or (xor a b).bytes k 0 ≡ bit_xor (get_or a.bytes k 0) (get_or b.bytes k 0)
unfolding xor
place_of_xor a b k l =
    let la : length a.bytes ≡ 512 = a.whole in
    let lb : length b.bytes ≡ 512 = b.whole in
    get_or-zip2 bit_xor a.bytes b.bytes k 0 0 0 (omega arith) (omega arith)

pub xor_from_three : (a b c s : Block) → ((k : ℕ) → k < 512 → get_or s.bytes k 0 ≡ bit_xor (get_or a.bytes k 0) (bit_xor (get_or b.bytes k 0) (get_or c.bytes k 0))) → s ≡ xor a (xor b c)
xor_from_three a b c s h = xor_from_places a (xor b c) s (λ k l. h k l ∙ ap (bit_xor (get_or a.bytes k 0)) (sym (place_of_xor b c k l)))

-- a row of zeros but for two
upto_zeros : (f : ℕ → Block) (n : ℕ) → ((e : ℕ) → e < n → f e ≡ zero_block) → xor_upto f n ≡ zero_block
unfolding xor_upto
upto_zeros f zero h = refl
upto_zeros f (suc n) h =
    ap (λ (z : Block). xor z (f n)) (upto_zeros f n (λ e l. h e (omega arith))) ∙ ap (xor zero_block) (h n (omega arith)) ∙ xor_self zero_block

upto_two : (f : ℕ → Block) (i j n : ℕ) → i < n → j < n → i ≢ j → ((e : ℕ) → e < n → e ≢ i → e ≢ j → f e ≡ zero_block) → xor_upto f n ≡ xor (f j) (f i)
upto_two f i j n li lj apart zeros =
    let rest : ℕ → Block = without (without f i) j in
    let none : xor_upto (without (without f i) j) n ≡ zero_block = upto_zeros rest n (λ e le. elim (cases_eq e j) [
      | inl is ↦ ap rest is ∙ without_same (without f i) j
      | inr off ↦ without_other (without f i) j e off ∙ elim (cases_eq e i) [
        | inl at ↦ ap (without f i) at ∙ without_same f i
        | inr away ↦ without_other f i e away ∙ zeros e le away off
      ]
    ]) in
    whole_from_others f i n li
    ∙ ap (λ (z : Block). xor z (f i)) (whole_from_others (without f i) j n lj ∙ ap (λ (z : Block). xor z (without f i j)) none ∙ xor_zero (without f i j) ∙ without_other f i j (λ is. apart (sym is)))

-- the parts of the cells

part_given : (n : ℕ) (ws : Entry) (r : ℕ) (row : ℕ → Block) (d : ℕ) → is_changed n ws r d ≡ true → is_given n ws r d ≡ true
    → parity_part n ws r row false d ≡ xor (row d) (last_of (cell_block n r d) zero_block ws)
unfolding parity_part
part_given n ws r row d changes gives = rw (changes, gives) refl

part_parity : (n : ℕ) (ws : Entry) (r : ℕ) (row : ℕ → Block) (p : ℕ) → is_changed n ws r p ≡ true → is_given n ws r p ≡ false → parity_part n ws r row false p ≡ row p
unfolding parity_part
part_parity n ws r row p changes gives = rw (changes, gives) (xor_zero_right (row p))

part_rest : (n : ℕ) (ws : Entry) (r : ℕ) (row : ℕ → Block) (e : ℕ) → is_changed n ws r e ≡ false → is_given n ws r e ≡ false → parity_part n ws r row false e ≡ zero_block
unfolding parity_part
part_rest n ws r row e changes gives = rw (changes, gives) (xor_self zero_block)

module _ (n : ℕ) (ws : Entry) (r p d at : ℕ) (bytes : List Block) (given : List (Option ℕ)) (parity : p ≡ parity_disk n r) (gives : AreGivenBy bytes n ws r given)
    (ld : d < n) (is : get_or given d None ≡ Some at) (others : (e : ℕ) → e < n → e ≢ d → get_or given e None ≡ None) where
  not_given : (e : ℕ) → e < n → e ≢ d → is_given n ws r e ≡ false
  not_given e le off = gives_not bytes n ws r e given le gives (λ k some. none-some k (sym (others e le off) ∙ some))

  pub not_changed : (e : ℕ) → e < n → e ≢ d → e ≢ p → is_changed n ws r e ≡ false
  not_changed e le off away = changed_data n ws r e (λ k. away (k ∙ sym parity)) ∙ not_given e le off

  is_data : d ≢ p
  is_data k = true≢false (sym (gives_this bytes n ws r d at given ld gives is).1 ∙ given_parity n ws r d (k ∙ parity))

  pub alone_made : (row : ℕ → Block) (sum : Block) → p < n → sum ≡ xor (row d) (xor (row p) (get_or bytes at zero_block)) → xor_upto row n ≡ zero_block → sum ≡ new_parity n ws r row
  alone_made row sum lp made sums =
      let here = gives_this bytes n ws r d at given ld gives is in
      let part : ℕ → Block = parity_part n ws r row false in
      let x : Block = get_or bytes at zero_block in
      let two : xor_upto part n ≡ xor (part p) (part d) = upto_two part d p n ld lp is_data (λ e le off away. part_rest n ws r row e (not_changed e le off away) (not_given e le off)) in
      let at_cell : part d ≡ xor (row d) x = part_given n ws r row d (changed_data n ws r d (λ k. is_data (k ∙ sym parity)) ∙ here.1) here.1 ∙ ap (xor (row d)) (here.2 zero_block) in
      let at_parity : part p ≡ row p = part_parity n ws r row p (changed_parity n ws r p parity) (given_parity n ws r p parity) in
      made ∙ sym (xor_assoc (row d) (row p) x) ∙ ap (λ (z : Block). xor z x) (xor_comm (row d) (row p)) ∙ xor_assoc (row p) (row d) x
      ∙ ap (λ (z : Block). xor z (xor (row d) x)) (sym at_parity) ∙ ap (xor (part p)) (sym at_cell) ∙ sym two ∙ parity_made n ws r row false sums

-- a cell without a copy

not_both : (b : Bool) → (b && false) ≡ false
not_both true = refl
not_both false = refl

plain_needs : (m : Meta) (s : Desk) (r d : ℕ) → d < m.gear → m.fill ≡ 0 → needs_old (sees m s) r d ≡ false
unfolding needs_old goes_hard is_hard
plain_needs m s r d l none =
    let low : nat_lt d m.gear ≡ true = grind (arith, nat_tests) in
    let still : nat_lt (soft_stripe m.setup.geometry.disks (phase_to m.phase) r d) m.fill ≡ false = grind (arith, nat_tests) in
    rw (low, still) (not_both (nat_le (phase_to m.phase) d))

-- so no old value is kept
pub alone_old : (m : Meta) (s : Desk) (ws : Entry) (r p d at : ℕ) (bytes : List Block) (given : List (Option ℕ)) (olds : List (Option Block)) (row : ℕ → Block) → p ≡ parity_disk m.setup.geometry.disks r
    → AreGivenBy bytes m.setup.geometry.disks ws r given → IsWrittenAlone m given p d at → AreOldRead m s ws r olds row
alone_old m s ws r p d at bytes given olds row parity gives alone = record {
  read = λ e le changed old. elim (cases_eq e d) [
    | inl here ↦ absurd (true≢false (sym old ∙ plain_needs m s r e (let low = alone.cell in omega (arith, here, low)) alone.unfilled))
    | inr off ↦ elim (cases_eq e p) [
      | inl here ↦ absurd (true≢false (sym old ∙ plain_needs m s r e (let low = alone.parity in omega (arith, here, low)) alone.unfilled))
      | inr away ↦ absurd (true≢false (sym changed ∙ not_changed m.setup.geometry.disks ws r p d at bytes given parity gives alone.disk alone.pair alone.others e le off away))
    ]
  ];
}
