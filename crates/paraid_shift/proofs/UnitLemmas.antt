-- The units of a shift that are left, and what moving some of them makes of the state.
use Rattle.std.specs.Prelude.{◌≡◌, ◌≢◌, ℕ, ◌+◌, ◌-◌, ◌*◌, ◌<◌, ◌≤◌, ◌⊎◌, ◌==◌, ◌&&◌, nat_le, Bool, true, false, List, Option, Some, None, min, if◌then◌else◌}
use Rattle.std.proofs.Common.{refl, sym, ◌∙◌, ap, subst, arith, inl, inr, zero, suc}
use Rattle.std.proofs.lemmas.Bool.{cases_eq, cases_lt}
use Rattle.std.proofs.lemmas.Bool.Decides.{nat_tests}
use Rattle.std.proofs.Math.Nat.{div-eq_of_lt, div-le_self, div-zero, mul_comm, mul-le-mul_right}
use Rattle.paraid_base.proofs.GearsLemmas.{first_from-none, first_from-some}
use Rattle.paraid_base.proofs.SoftLemmas.{cell_number_below, cell_number_of, disk_of_cell_number, disk_of_number_below, row_of_cell_number, row_of_number_below}
use Rattle.paraid_base.specs.Soft.{cell_number, disk_of_number, row_of_number, stripe_count}
use Rattle.paraid_base.specs.declared.state.Out.TheVariants.{No}
use Rattle.paraid_base.specs.declared.state.Phase.{Phase}
use Rattle.paraid_base.specs.declared.state.Phase.TheVariants.{Down, Steady, Up}
use Rattle.paraid_base.specs.States.{named_out, phase_beside, phase_to, rising_to}
use Rattle.paraid_dirty.specs.Table.{IsFirstDirty, cell_count, dirty_count, is_dirty, row_count, table_with_bit}
use Rattle.paraid_dirty.proofs.MaskLemmas.{sum_before_same}
use Rattle.paraid_image.specs.Power.{PowerState}
use Rattle.paraid_image.specs.Mark.{meta_with_lost}
use Rattle.paraid_machine.specs.Moves.{after_loss, after_unit, after_units, first_dirty, is_dirty_number, state_with_bit, units_left}
use Rattle.paraid_record.specs.declared.meta.Meta.{Meta}
use Rattle.paraid_record.specs.declared.meta.Setup.{Setup}
use Rattle.paraid_record.specs.Range.{IsInRange, IsPhaseInRange, fill_limit}
use Rattle.paraid_base.specs.declared.geometry.Geometry.{Geometry}
use Rattle.paraid_base.specs.Sums.{sum_before}
use Rattle.paraid_core.specs.Steps.{IsMarkedFrom}
use Rattle.paraid_event.specs.Moving.{GoesToState, MovesUnits}
use Rattle.paraid_event.specs.Service.{IsStateOf, Service}
use Rattle.paraid_shift.specs.Units.{AreUnitsDone, AreUnitsLeft, CountsMoved, TellsDone}

-- the state after a disk was lost, or none
abbrev pub state_with_lost : Option ℕ → PowerState → PowerState
state_with_lost None s = s
state_with_lost (Some d) s = after_loss s d

-- a cell with a smaller number lies in an earlier row, or before it in the same row
earlier : (n a r d q x : ℕ) → a ≤ d → d < n → a ≤ x → x < n → cell_number n a q x < cell_number n a r d → (q < r) ⊎ ((q ≡ r) × (x < d))
earlier n a r d q x low high xlow xhigh under = elim (cases_lt q r) [
  | inl less ↦ inl less
  | inr more ↦ elim (cases_eq q r) [
    | inl same ↦ (let rows = ap (λ (z : ℕ). z * (n - a)) same in inr (same, omega (arith, rows)))
    | inr apart ↦
        (let one : r + 1 ≤ q = omega arith in
        let rows = mul-le-mul_right (n - a) one in
        let split : (r + 1) * (n - a) ≡ r * (n - a) + (n - a) = omega arith in
        absurd (omega (arith, rows, split)))
  ]
]

-- the first dirty cell is the first one by its number
pub first_dirty-some : (setup : Setup) (s : PowerState) (r d : ℕ) → IsFirstDirty s.dirty s.gear (rising_to s.phase) r d → r < setup.geometry.rows
    → first_dirty setup s ≡ Some (cell_number (rising_to s.phase) s.gear r d)
first_dirty-some setup s r d first low =
    let n = rising_to s.phase in
    let a = s.gear in
    let c = cell_number n a r d in
    first_from-some (is_dirty_number s) 0 (setup.geometry.rows * (n - a)) c (omega arith)
    (let below = cell_number_below n a r d setup.geometry.rows first.low first.high low in omega (arith, below))
    (ap (λ (q : ℕ). s.dirty q (disk_of_number n a c)) (row_of_cell_number n a r d first.low first.high) ∙ ap (s.dirty r) (disk_of_cell_number n a r d first.low first.high) ∙ first.is)
    (λ e from under.
    let some : a < n = (let l = first.low in let h = first.high in omega arith) in
    let q = row_of_number n a e in
    let x = disk_of_number n a e in
    let xhigh = disk_of_number_below n a e some in
    let xlow : a ≤ x = omega arith in
    let number = cell_number_of n a e some in
    elim (earlier n a r d q x first.low first.high xlow xhigh (omega (arith, number, under))) [
      | inl row ↦ first.rows_before q x row xlow xhigh
      | inr disk ↦ ap (λ (z : ℕ). s.dirty z x) disk.0 ∙ first.disks_before x xlow disk.1
    ])

pub first_dirty-none : (setup : Setup) (s : PowerState) → ((r d : ℕ) → r < setup.geometry.rows → s.gear ≤ d → d < rising_to s.phase → s.dirty r d ≡ false)
    → first_dirty setup s ≡ None
first_dirty-none setup s clean =
    let n = rising_to s.phase in
    let a = s.gear in
    first_from-none (is_dirty_number s) 0 (setup.geometry.rows * (n - a)) (λ e from under. elim (cases_lt a n) [
      | inl some ↦
          clean (row_of_number n a e) (disk_of_number n a e) (row_of_number_below n a e setup.geometry.rows some (omega (arith, under))) (omega arith) (disk_of_number_below n a e some)
      | inr none ↦ (let width : n - a ≡ 0 = omega arith in let empty = ap (λ (z : ℕ). setup.geometry.rows * z) width in absurd (omega (arith, empty, under)))
    ])

-- so many units, and then so many more
pub after_units_then : (setup : Setup) (a b : ℕ) (s : PowerState) → after_units setup (a + b) s ≡ after_units setup b (after_units setup a s)
after_units_then setup zero b s = (let e : 0 + b ≡ b = omega arith in ap (λ (n : ℕ). after_units setup n s) e)
after_units_then setup (suc a) b s =
    let e : suc a + b ≡ suc (a + b) = omega arith in
    ap (λ (n : ℕ). after_units setup n s) e ∙ after_units_then setup a b (after_unit s (first_dirty setup s))

-- a cell
pub cell_unit : (setup : Setup) (s : PowerState) (r d : ℕ) → IsFirstDirty s.dirty s.gear (rising_to s.phase) r d → r < setup.geometry.rows
    → after_units setup 1 s ≡ state_with_bit s r d false
cell_unit setup s r d first low =
    let n = rising_to s.phase in
    let a = s.gear in
    let c = cell_number n a r d in
    ap (after_unit s) (first_dirty-some setup s r d first low)
    ∙ ap (λ (q : ℕ). state_with_bit s q (disk_of_number n a c) false) (row_of_cell_number n a r d first.low first.high)
    ∙ ap (λ (x : ℕ). state_with_bit s r x false) (disk_of_cell_number n a r d first.low first.high)

-- so many stripes, where no cell is dirty
pub stripe_units : (setup : Setup) (n : ℕ) (s : PowerState) → first_dirty setup s ≡ None → after_units setup n s ≡ record s { fill = s.fill + n }
stripe_units setup zero s none = (let e : s.fill ≡ s.fill + 0 = omega arith in ap (λ (f : ℕ). record s { fill = f }) e)
stripe_units setup (suc n) s none =
    let e : s.fill + 1 + n ≡ s.fill + suc n = omega arith in
    ap (λ (o : Option ℕ). after_units setup n (after_unit s o)) none ∙ stripe_units setup n (record s { fill = s.fill + 1 }) none
    ∙ ap (λ (f : ℕ). record s { fill = f }) e

-- one member of a sum is one less
sum_change : (f h : ℕ → ℕ) (i n : ℕ) → i < n → ((x : ℕ) → x < n → x ≢ i → f x ≡ h x) → f i ≡ h i + 1 → sum_before f n ≡ sum_before h n + 1
unfolding sum_before
sum_change f h i zero low same here = absurd (omega arith)
sum_change f h i (suc n) low same here = elim (cases_eq n i) [
  | inl is ↦
      (let before = sum_before_same f h n (λ x l. same x (omega arith) (λ k. absurd (omega arith))) in
      let at : f n ≡ h n + 1 = subst (λ (z : ℕ). f z ≡ h z + 1) (sym is) here in
      omega (arith, before, at))
  | inr apart ↦
      (let before = sum_change f h i n (omega arith) (λ x l k. same x (omega arith) k) here in
      let at = same n (omega arith) apart in
      omega (arith, before, at))
]

-- a dirty cell is cleaned
dirty_cleaned : (dirty : ℕ → ℕ → Bool) (rows lo hi r d : ℕ) → r < rows → lo ≤ d → d < hi → dirty r d ≡ true
    → dirty_count dirty rows lo hi ≡ dirty_count (table_with_bit dirty r d false) rows lo hi + 1
dirty_cleaned dirty rows lo hi r d row low high is =
    let after = table_with_bit dirty r d false in
    sum_change (row_count dirty lo hi) (row_count after lo hi) r rows row
    (λ q l apart. sum_before_same (cell_count dirty lo q) (cell_count after lo q) hi (λ e m. other q e (dirty q e) (nat_le lo e) apart))
    (sum_change (cell_count dirty lo r) (cell_count after lo r) d hi high (λ e m apart. beside e (dirty r e) (nat_le lo e) apart) (here (dirty r d) is))
  where
    other : (q e : ℕ) (b low_e : Bool) → q ≢ r → ◌≡◌ {A = ℕ} (if low_e && b then 1 else 0) (if low_e && (if q == r && e == d then false else b) then 1 else 0)
    other q e b low_e apart = grind (arith, nat_tests)

    beside : (e : ℕ) (b low_e : Bool) → e ≢ d → ◌≡◌ {A = ℕ} (if low_e && b then 1 else 0) (if low_e && (if r == r && e == d then false else b) then 1 else 0)
    beside e b low_e apart = grind (arith, nat_tests)

    here : (b : Bool) → b ≡ true → ◌≡◌ {A = ℕ} (if nat_le lo d && b then 1 else 0) ((if nat_le lo d && (if r == r && d == d then false else b) then 1 else 0) + 1)
    here b dirty_here = grind (arith, nat_tests)

-- no member of a sum is above 0
sum_none : (f : ℕ → ℕ) (n : ℕ) → ((x : ℕ) → x < n → f x ≡ 0) → sum_before f n ≡ 0
unfolding sum_before
sum_none f zero none = refl
sum_none f (suc n) none =
    let before = sum_none f n (λ x low. none x (omega arith)) in
    let here = none n (omega arith) in
    omega (arith, before, here)

none_summed : (f : ℕ → ℕ) (n : ℕ) → sum_before f n ≡ 0 → (x : ℕ) → x < n → f x ≡ 0
unfolding sum_before
none_summed f zero sum x low = absurd (omega arith)
none_summed f (suc n) sum x low = elim (cases_eq x n) [
  | inl is ↦ (let here : f x ≡ f n = ap f is in omega (arith, sum, here))
  | inr apart ↦ none_summed f n (omega (arith, sum)) x (omega arith)
]

-- none is dirty of these
clean_count : (dirty : ℕ → ℕ → Bool) (rows lo hi : ℕ) → ((r d : ℕ) → r < rows → lo ≤ d → d < hi → dirty r d ≡ false) → dirty_count dirty rows lo hi ≡ 0
clean_count dirty rows lo hi clean =
    sum_none (row_count dirty lo hi) rows (λ r low. sum_none (cell_count dirty lo r) hi (λ d high. by r d low high))
  where
    by : (r d : ℕ) → r < rows → d < hi → cell_count dirty lo r d ≡ 0
    by r d low high = elim (cases_lt d lo) [
      | inl under ↦ grind (arith, nat_tests)
      | inr from ↦ (let is = clean r d low (omega arith) high in rw is (grind (arith, nat_tests)))
    ]

count_clean : (dirty : ℕ → ℕ → Bool) (rows lo hi : ℕ) → dirty_count dirty rows lo hi ≡ 0 → (r d : ℕ) → r < rows → lo ≤ d → d < hi → dirty r d ≡ false
count_clean dirty rows lo hi none r d low from high =
    by (dirty r d) (none_summed (cell_count dirty lo r) hi (none_summed (row_count dirty lo hi) rows none r low) d high)
  where
    by : (b : Bool) → ◌≡◌ {A = ℕ} (if nat_le lo d && b then 1 else 0) 0 → b ≡ false
    by b is = grind (arith, nat_tests)

-- as many are dirty where the same are
count_same : (f h : ℕ → ℕ → Bool) (rows lo hi : ℕ) → ((r d : ℕ) → r < rows → f r d ≡ h r d) → dirty_count f rows lo hi ≡ dirty_count h rows lo hi
count_same f h rows lo hi same =
    sum_before_same (row_count f lo hi) (row_count h lo hi) rows
    (λ r low. sum_before_same (cell_count f lo r) (cell_count h lo r) hi (λ d l. ap (λ (b : Bool). if nat_le lo d && b then 1 else 0) (same r d low)))

both_same : (a b c d : ℕ) → a ≡ b → c ≡ d → a + c ≡ b + d
both_same a b c d first second = omega arith

-- what is left by the meta and the dirty cells
pub left_is : (k : Service) (s : PowerState) → IsStateOf k s
    → units_left k.meta.setup s ≡ dirty_count (is_dirty k.table) k.meta.setup.geometry.rows k.meta.gear (rising_to k.meta.phase)
    + (stripe_count k.meta.setup.geometry.disks k.meta.setup.geometry.rows (phase_to k.meta.phase) - k.meta.fill)
left_is k s is =
    let rows = k.meta.setup.geometry.rows in
    let disks = k.meta.setup.geometry.disks in
    both_same _ _ _ _
    (count_same s.dirty (is_dirty k.table) rows s.gear (rising_to s.phase) (λ r d low. is.dirty r d low)
    ∙ ap (λ (a : ℕ). dirty_count (is_dirty k.table) rows a (rising_to s.phase)) is.gear ∙ ap (λ (p : Phase). dirty_count (is_dirty k.table) rows k.meta.gear (rising_to p)) is.phase)
    (ap (λ (p : Phase). stripe_count disks rows (phase_to p) - s.fill) is.phase ∙ ap (λ (f : ℕ). stripe_count disks rows (phase_to k.meta.phase) - f) is.fill)

-- where no unit is left
pub done_left : (k : Service) → AreUnitsDone k.meta k.table → (s : PowerState) → IsStateOf k s → units_left k.meta.setup s ≡ 0
done_left k done s is =
    left_is k s is
    ∙ both_same _ 0 _ 0 (clean_count (is_dirty k.table) k.meta.setup.geometry.rows k.meta.gear (rising_to k.meta.phase) done.clean) (let f = done.filled in omega (arith, f))

pub left_done : (k : Service) (s : PowerState) → IsStateOf k s → k.meta.fill ≤ stripe_count k.meta.setup.geometry.disks k.meta.setup.geometry.rows (phase_to k.meta.phase) → units_left k.meta.setup s ≡ 0 → AreUnitsDone k.meta k.table
left_done k s is within none =
    let sum = sym (left_is k s is) ∙ none in
    record {
      filled = omega (arith, sum, within);
      clean = count_clean (is_dirty k.table) k.meta.setup.geometry.rows k.meta.gear (rising_to k.meta.phase) (omega (arith, sum));
    }

pub so_moved : (k k_then : Service) (units : ℕ) → k.meta.out ≡ No
    → ((s : PowerState) → IsStateOf k s → IsStateOf k_then (state_with_lost (named_out k_then.meta.out) (after_units k.meta.setup units s))) → MovesUnits k k_then units
so_moved k k_then units whole state = record {
  whole = whole;
  moved = λ s is. record {
    whole = λ none. subst (λ (o : Option ℕ). IsStateOf k_then (state_with_lost o (after_units k.meta.setup units s))) (ap named_out none) (state s is);
    lost = λ d gone. subst (λ (o : Option ℕ). IsStateOf k_then (state_with_lost o (after_units k.meta.setup units s))) gone (state s is);
  };
}

-- the state that is shown after the mark of a disk that was lost, or of none
pub marked_state : (k k_then : Service) (e : ℕ) (lost : Option ℕ) (s : PowerState) → IsStateOf k s → k.meta.out ≡ No → k_then.meta ≡ meta_with_lost lost (record k.meta { epoch = e }) → k_then.table ≡ k.table
    → k_then.samples ≡ k.samples → k_then.served ≡ k.served → IsStateOf k_then (state_with_lost (named_out k_then.meta.out) s)
marked_state k k_then e None s is whole meta table samples served =
    subst (λ (o : Option ℕ). IsStateOf k_then (state_with_lost o s)) (sym (ap (λ (m : Meta). named_out m.out) meta ∙ ap named_out whole))
    (record {
      gear = is.gear ∙ sym (ap (λ (m : Meta). m.gear) meta);
      phase = is.phase ∙ sym (ap (λ (m : Meta). m.phase) meta);
      fill = is.fill ∙ sym (ap (λ (m : Meta). m.fill) meta);
      out = is.out ∙ sym (ap (λ (m : Meta). m.out) meta);
      spins = is.spins ∙ sym (ap (λ (m : Meta). m.spins) meta);
      ticks = is.ticks ∙ sym (ap (λ (m : Meta). m.ticks) meta);
      dirty = λ r d low. is.dirty r d (subst (λ (m : Meta). r < m.setup.geometry.rows) meta low) ∙ sym (ap (λ (t : List (List Bool)). is_dirty t r d) table);
      samples = is.samples ∙ sym samples;
      served = is.served ∙ sym served;
    })
marked_state k k_then e (Some x) s is whole meta table samples served =
    subst (λ (o : Option ℕ). IsStateOf k_then (state_with_lost o s)) (sym (ap (λ (m : Meta). named_out m.out) meta))
    (record {
      gear = is.gear ∙ sym (ap (λ (m : Meta). m.gear) meta);
      phase = ap (phase_beside true) is.phase ∙ sym (ap (λ (m : Meta). m.phase) meta);
      fill = sym (ap (λ (m : Meta). m.fill) meta);
      out = sym (ap (λ (m : Meta). m.out) meta);
      spins = is.spins ∙ sym (ap (λ (m : Meta). m.spins) meta);
      ticks = is.ticks ∙ sym (ap (λ (m : Meta). m.ticks) meta);
      dirty = λ r d low. is.dirty r d (subst (λ (m : Meta). r < m.setup.geometry.rows) meta low) ∙ sym (ap (λ (t : List (List Bool)). is_dirty t r d) table);
      samples = is.samples ∙ sym samples;
      served = is.served ∙ sym served;
    })

-- a part that moves nothing: its marks are those of a disk that was lost, or none
pub moves_none : (k k_then : Service) (e : ℕ) → k.meta.out ≡ No → IsMarkedFrom (record k.meta { epoch = e }) k_then.meta → k_then.table ≡ k.table → k_then.samples ≡ k.samples → k_then.served ≡ k.served → CountsMoved k k_then 0
moves_none k k_then e whole marked table samples served = record {
  moved = so_moved k k_then 0 whole (λ s is. marked_state k k_then e marked.lost s is whole marked.is table samples served);
  counted = λ s is. omega arith;
}

-- two parts, with no disk lost in the first
pub moves_then : (k mid k_then : Service) (a b : ℕ) → CountsMoved k mid a → mid.meta.out ≡ No → mid.meta.setup ≡ k.meta.setup → CountsMoved mid k_then b → CountsMoved k k_then (a + b)
moves_then k mid k_then a b first whole setup second = record {
  moved = record {
    whole = first.moved.whole;
    moved = λ s is.
        subst (GoesToState k_then) (ap (λ (z : Setup). after_units z b (after_units k.meta.setup a s)) setup ∙ sym (after_units_then k.meta.setup a b s))
        (second.moved.moved (after_units k.meta.setup a s) (middle s is));
  };
  counted = λ s is.
      let one = first.counted s is in
      let two = second.counted (after_units k.meta.setup a s) (middle s is) in
      let same = ap (λ (z : Setup). units_left z (after_units z b (after_units k.meta.setup a s))) setup ∙ sym (ap (units_left k.meta.setup) (after_units_then k.meta.setup a b s)) in
      let was = ap (λ (z : Setup). units_left z (after_units k.meta.setup a s)) setup in
      counted_then _ _ _ _ _ a b one two same was;
}
  where
    middle : (s : PowerState) → IsStateOf k s → IsStateOf mid (after_units k.meta.setup a s)
    middle s is = (first.moved.moved s is).whole whole

    counted_then : (start half half_by end_by end a b : ℕ) → half + a ≡ start → end_by + b ≡ half_by → end_by ≡ end → half_by ≡ half → end + (a + b) ≡ start
    counted_then start half half_by end_by end a b one two same was = omega arith

-- the first dirty cell of a state is that of the table
shown_first : (k : Service) (s : PowerState) (r d : ℕ) → IsStateOf k s → IsFirstDirty (is_dirty k.table) k.meta.gear (rising_to k.meta.phase) r d → r < k.meta.setup.geometry.rows → IsFirstDirty s.dirty s.gear (rising_to s.phase) r d
shown_first k s r d is first row = record {
  low = (let same = is.gear in let low = first.low in omega (arith, same, low));
  high = (let same = ap rising_to is.phase in let high = first.high in omega (arith, same, high));
  is = is.dirty r d row ∙ first.is;
  rows_before = λ q e before low high.
      is.dirty q e (omega arith) ∙ first.rows_before q e before (let same = is.gear in omega (arith, same)) (let same = ap rising_to is.phase in omega (arith, same));
  disks_before = λ e low before. is.dirty r e row ∙ first.disks_before e (let same = is.gear in omega (arith, same)) before;
}

-- a cell is marked as clean
pub cell_moves : (k k_then : Service) (r d : ℕ) → k.meta.out ≡ No → k_then.meta ≡ k.meta → k_then.samples ≡ k.samples → k_then.served ≡ k.served
    → IsFirstDirty (is_dirty k.table) k.meta.gear (rising_to k.meta.phase) r d → r < k.meta.setup.geometry.rows → ((q e : ℕ) → is_dirty k_then.table q e ≡ table_with_bit (is_dirty k.table) r d false q e) → CountsMoved k k_then 1
cell_moves k k_then r d whole meta samples served first row table = record {
  moved = so_moved k k_then 1 whole (λ s is.
      subst (λ (o : Option ℕ). IsStateOf k_then (state_with_lost o (after_units k.meta.setup 1 s))) (sym (ap (λ (m : Meta). named_out m.out) meta ∙ ap named_out whole))
      (subst (IsStateOf k_then) (sym (cell_unit k.meta.setup s r d (shown_first k s r d is first row) row)) (marked s is)));
  counted = λ s is.
      let f = shown_first k s r d is first row in
      let cleaned = dirty_cleaned s.dirty k.meta.setup.geometry.rows s.gear (rising_to s.phase) r d row f.low f.high f.is in
      ap (λ (z : PowerState). units_left k.meta.setup z + 1) (cell_unit k.meta.setup s r d f row) ∙ one_less _ _ _ cleaned;
}
  where
    marked : (s : PowerState) → IsStateOf k s → IsStateOf k_then (state_with_bit s r d false)
    marked s is = record {
      gear = is.gear ∙ sym (ap (λ (m : Meta). m.gear) meta);
      phase = is.phase ∙ sym (ap (λ (m : Meta). m.phase) meta);
      fill = is.fill ∙ sym (ap (λ (m : Meta). m.fill) meta);
      out = is.out ∙ sym (ap (λ (m : Meta). m.out) meta);
      spins = is.spins ∙ sym (ap (λ (m : Meta). m.spins) meta);
      ticks = is.ticks ∙ sym (ap (λ (m : Meta). m.ticks) meta);
      dirty = λ q e low. ap (λ (b : Bool). if q == r && e == d then false else b) (is.dirty q e (subst (λ (m : Meta). q < m.setup.geometry.rows) meta low)) ∙ sym (table q e);
      samples = is.samples ∙ sym samples;
      served = is.served ∙ sym served;
    }

    one_less : (before after stripes : ℕ) → before ≡ after + 1 → after + stripes + 1 ≡ before + stripes
    one_less before after stripes is = omega arith

-- stripes are marked as filled
pub stripes_move : (k k_then : Service) (end : ℕ) → k.meta.out ≡ No → k_then.meta ≡ record k.meta { fill = end } → k_then.table ≡ k.table → k_then.samples ≡ k.samples → k_then.served ≡ k.served
    → k.meta.fill ≤ end → end ≤ stripe_count k.meta.setup.geometry.disks k.meta.setup.geometry.rows (phase_to k.meta.phase)
    → ((r d : ℕ) → r < k.meta.setup.geometry.rows → k.meta.gear ≤ d → d < rising_to k.meta.phase → is_dirty k.table r d ≡ false) → CountsMoved k k_then (end - k.meta.fill)
stripes_move k k_then end whole meta table samples served from within clean = record {
  moved = so_moved k k_then (end - k.meta.fill) whole (λ s is.
      subst (λ (o : Option ℕ). IsStateOf k_then (state_with_lost o (after_units k.meta.setup (end - k.meta.fill) s))) (sym (ap (λ (m : Meta). named_out m.out) meta ∙ ap named_out whole))
      (subst (IsStateOf k_then) (sym (stripe_units k.meta.setup (end - k.meta.fill) s (none s is))) (marked s is)));
  counted = λ s is.
      let all = ap (λ (p : Phase). stripe_count k.meta.setup.geometry.disks k.meta.setup.geometry.rows (phase_to p)) is.phase in
      ap (λ (z : PowerState). units_left k.meta.setup z + (end - k.meta.fill)) (stripe_units k.meta.setup (end - k.meta.fill) s (none s is))
      ∙ fewer _ _ s.fill end k.meta.fill is.fill from (omega (arith, all, within));
}
  where
    none : (s : PowerState) → IsStateOf k s → first_dirty k.meta.setup s ≡ None
    none s is =
        first_dirty-none k.meta.setup s
        (λ r d row low high. is.dirty r d row ∙ clean r d row (let same = is.gear in omega (arith, same)) (let same = ap rising_to is.phase in omega (arith, same)))

    marked : (s : PowerState) → IsStateOf k s → IsStateOf k_then (record s { fill = s.fill + (end - k.meta.fill) })
    marked s is = record {
      gear = is.gear ∙ sym (ap (λ (m : Meta). m.gear) meta);
      phase = is.phase ∙ sym (ap (λ (m : Meta). m.phase) meta);
      fill = (let f = is.fill in let to = ap (λ (m : Meta). m.fill) meta in omega (arith, f, to));
      out = is.out ∙ sym (ap (λ (m : Meta). m.out) meta);
      spins = is.spins ∙ sym (ap (λ (m : Meta). m.spins) meta);
      ticks = is.ticks ∙ sym (ap (λ (m : Meta). m.ticks) meta);
      dirty = λ q e low. is.dirty q e (subst (λ (m : Meta). q < m.setup.geometry.rows) meta low) ∙ sym (ap (λ (t : List (List Bool)). is_dirty t q e) table);
      samples = is.samples ∙ sym samples;
      served = is.served ∙ sym served;
    }

    fewer : (cells stripes fill end from : ℕ) → fill ≡ from → from ≤ end → end ≤ stripes → cells + (stripes - (fill + (end - from))) + (end - from) ≡ cells + (stripes - fill)
    fewer cells stripes fill end from same low high = omega arith

-- a sum of numbers of which each is 0 or 1, or at most 8
sum_of_ones : (f : ℕ → ℕ) (n : ℕ) → ((x : ℕ) → f x ≤ 1) → sum_before f n ≤ n
unfolding sum_before
sum_of_ones f zero each = omega arith
sum_of_ones f (suc n) each = (let before = sum_of_ones f n each in let here = each n in omega (arith, before, here))

sum_of_eights : (f : ℕ → ℕ) (n : ℕ) → ((x : ℕ) → f x ≤ 8) → sum_before f n ≤ 8 * n
unfolding sum_before
sum_of_eights f zero each = omega arith
sum_of_eights f (suc n) each = (let before = sum_of_eights f n each in let here = each n in omega (arith, before, here))

dirty_few : (dirty : ℕ → ℕ → Bool) (rows lo hi : ℕ) → hi ≤ 8 → dirty_count dirty rows lo hi ≤ 8 * rows
dirty_few dirty rows lo hi high =
    sum_of_eights (row_count dirty lo hi) rows (λ r. let row = sum_of_ones (cell_count dirty lo r) hi (λ d. one (nat_le lo d) (dirty r d)) in omega (arith, row, high))
  where
    one : (a b : Bool) → ◌≤◌ (if a && b then 1 else 0) 1
    one a b = grind (arith, nat_tests)

stripes_few : (n rows a : ℕ) → n ≤ 8 → a ≤ 8 → stripe_count n rows a ≤ 8 * rows + 8
stripes_few n rows a few low =
    let all = div-le_self (rows * (n - a) + (a - 2)) (a - 1) in
    let width = mul-le-mul_right rows (few_less n a few) in
    omega (arith, all, width, mul_comm rows (n - a))
  where
    few_less : (n a : ℕ) → n ≤ 8 → n - a ≤ 8
    few_less n a few = omega arith

-- so few that they fit
pub units_fit : (dirty : ℕ → ℕ → Bool) (n rows lo hi a fill : ℕ) → hi ≤ 8 → n ≤ 8 → a ≤ 8 → rows ≤ 65536 → dirty_count dirty rows lo hi + (stripe_count n rows a - fill) < 4294967295
units_fit dirty n rows lo hi a fill high few low small =
    let cells = dirty_few dirty rows lo hi high in
    let stripes = stripes_few n rows a few low in
    omega (arith, cells, stripes, small)

pub rises_within : (p : Phase) → rising_to p ≤ phase_to p
rises_within Steady = omega arith
rises_within (Down to) = omega arith
rises_within (Up to) = omega arith

-- no region has stripes below gear 2
pub no_stripes : (n rows : ℕ) → stripe_count n rows 0 ≡ 0
no_stripes n rows = div-zero (rows * (n - 0) + (0 - 2))

-- and none that of all disks
pub no_stripes_past : (n rows a : ℕ) → 3 ≤ n → n ≤ a → stripe_count n rows a ≡ 0
no_stripes_past n rows a some past =
    let width : n - a ≡ 0 = omega arith in
    let none = ap (λ (z : ℕ). rows * z) width in
    let zero_times : rows * 0 ≡ 0 = omega arith in
    let small : rows * (n - a) + (a - 2) < a - 1 = omega (arith, none, zero_times) in
    div-eq_of_lt small

-- what is left, as the core counts it
pub units_are_left : (k : Service) (units cells stripes : ℕ) → units ≡ cells + stripes
    → cells ≡ dirty_count (is_dirty k.table) k.meta.setup.geometry.rows k.meta.gear (rising_to k.meta.phase)
    → stripes ≡ stripe_count k.meta.setup.geometry.disks k.meta.setup.geometry.rows (phase_to k.meta.phase) - k.meta.fill → AreUnitsLeft k units
units_are_left k units cells stripes sum first second = record {
  left = λ s is. sum ∙ both_same _ _ _ _ first second ∙ sym (left_is k s is);
}

-- no cell is counted where none comes up
pub no_cells : (k : Service) → rising_to k.meta.phase ≤ k.meta.gear → ◌≡◌ {A = ℕ} 0 (dirty_count (is_dirty k.table) k.meta.setup.geometry.rows k.meta.gear (rising_to k.meta.phase))
no_cells k none = sym (clean_count (is_dirty k.table) k.meta.setup.geometry.rows k.meta.gear (rising_to k.meta.phase) (λ r d row low high. absurd (omega arith)))

-- with no shift under way
pub none_are_left : (k : Service) → phase_to k.meta.phase ≡ 0 → AreUnitsLeft k 0
none_are_left k steady =
    units_are_left k 0 0 0 refl (no_cells k (let rises = rises_within k.meta.phase in omega (arith, rises, steady)))
    (let none = ap (stripe_count k.meta.setup.geometry.disks k.meta.setup.geometry.rows) steady ∙ no_stripes k.meta.setup.geometry.disks k.meta.setup.geometry.rows in omega (arith, none))

-- what tells whether none is left
pub tells_none : (k : Service) → AreUnitsDone k.meta k.table → TellsDone k true
tells_none k done = record {
  none = λ is s shown. done_left k done s shown;
  some = λ is s shown. let z : true ≡ false = is in absurd cc;
}

pub tells_some : (k : Service) → k.meta.fill ≤ stripe_count k.meta.setup.geometry.disks k.meta.setup.geometry.rows (phase_to k.meta.phase) → (AreUnitsDone k.meta k.table → ⊥) → TellsDone k false
tells_some k within not = record {
  none = λ is s shown. let z : false ≡ true = is in absurd cc;
  some = λ is s shown zero_left. not (left_done k s shown within zero_left);
}

limit_within : (g : Geometry) (p : Phase) → fill_limit g p ≤ stripe_count g.disks g.rows (phase_to p)
limit_within g Steady = omega arith
limit_within g (Down to) = omega arith
limit_within g (Up to) = omega arith

-- where the region of the new gear has no stripes, all are filled
pub none_to_fill : (m : Meta) → m.fill ≤ fill_limit m.setup.geometry m.phase → stripe_count m.setup.geometry.disks m.setup.geometry.rows (phase_to m.phase) ≡ 0
    → m.fill ≡ stripe_count m.setup.geometry.disks m.setup.geometry.rows (phase_to m.phase)
none_to_fill m within none = let limit = limit_within m.setup.geometry m.phase in omega (arith, within, limit, none)

pub no_stripes_steady : (m : Meta) → phase_to m.phase ≡ 0 → stripe_count m.setup.geometry.disks m.setup.geometry.rows (phase_to m.phase) ≡ 0
no_stripes_steady m steady = ap (stripe_count m.setup.geometry.disks m.setup.geometry.rows) steady ∙ no_stripes m.setup.geometry.disks m.setup.geometry.rows

-- no unit is left of no shift
pub no_shift_done : (m : Meta) (table : List (List Bool)) → m.fill ≤ fill_limit m.setup.geometry m.phase → phase_to m.phase ≡ 0 → AreUnitsDone m table
no_shift_done m table within steady = record {
  filled = none_to_fill m within (no_stripes_steady m steady);
  clean = λ r d row low high. absurd (let rises = rises_within m.phase in omega (arith, rises, steady, high));
}

min_small : (a b : ℕ) → a < b → min a b ≡ a
min_small a b low = omega arith

phase_few : (g : Geometry) (gear : ℕ) (p : Phase) → IsPhaseInRange g gear p → phase_to p ≤ g.disks
phase_few g gear Steady is = omega arith
phase_few g gear (Down to) is = g.gears_high to is.lower_gear
phase_few g gear (Up to) is = g.gears_high to is.higher_gear

-- the sum of both counts, which fits
pub units_are_counted : (k : Service) → IsInRange k.meta → (units cells stripes : ℕ) → (k.meta.gear < rising_to k.meta.phase → cells ≡ dirty_count (is_dirty k.table) k.meta.setup.geometry.rows k.meta.gear (rising_to k.meta.phase))
    → (rising_to k.meta.phase ≤ k.meta.gear → cells ≡ 0) → stripes ≡ stripe_count k.meta.setup.geometry.disks k.meta.setup.geometry.rows (phase_to k.meta.phase) - k.meta.fill
    → units ≡ min (cells + stripes) 4294967295 → AreUnitsLeft k units
units_are_counted k range units cells stripes some none second sum =
    units_are_left k units cells stripes (sum ∙ min_small (cells + stripes) 4294967295 (omega (arith, fit, first, second))) first second
  where
    first : cells ≡ dirty_count (is_dirty k.table) k.meta.setup.geometry.rows k.meta.gear (rising_to k.meta.phase)
    first = elim (cases_lt k.meta.gear (rising_to k.meta.phase)) [ inl up ↦ some up | inr not ↦ none not ∙ no_cells k not ]

    to_few : phase_to k.meta.phase ≤ 8
    to_few = let to = phase_few k.meta.setup.geometry k.meta.gear k.meta.phase range.phase in let high = k.meta.setup.geometry.disks_high in omega (arith, to, high)

    fit : dirty_count (is_dirty k.table) k.meta.setup.geometry.rows k.meta.gear (rising_to k.meta.phase) + (stripe_count k.meta.setup.geometry.disks k.meta.setup.geometry.rows (phase_to k.meta.phase) - k.meta.fill) < 4294967295
    fit =
        units_fit (is_dirty k.table) k.meta.setup.geometry.disks k.meta.setup.geometry.rows k.meta.gear (rising_to k.meta.phase) (phase_to k.meta.phase) k.meta.fill
        (let rises = rises_within k.meta.phase in let few = to_few in omega (arith, rises, few)) k.meta.setup.geometry.disks_high to_few k.meta.setup.geometry.rows_high
