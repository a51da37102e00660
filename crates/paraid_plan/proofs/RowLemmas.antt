-- The cells of a row are written step by step, then its parity and the map.
use Rattle.std.specs.Prelude.{◌≡◌, ◌≢◌, ℕ, ◌*◌, ◌-◌, ◌/◌, ◌==◌, ◌<◌, ◌≤◌, ◌&&◌, ◌||◌, nat_lt, Bool, true, false, not, List, Option, [], ◌++◌, if◌then◌else◌}
use Rattle.std.proofs.Common.{refl, sym, ◌∙◌, ap, subst, arith, inl, inr}
use Rattle.std.proofs.lemmas.Bool.{cases_Bool, cases_eq, cases_lt}
use Rattle.std.proofs.lemmas.Bool.Decides.{nat_tests}
use Rattle.std.proofs.lemmas.List.{append_assoc, append-nil}
use Rattle.paraid_base.specs.declared.block.Block.{Block}
use Rattle.paraid_base.specs.Cells.{cell_block, home_disk, home_row, parity_disk}
use Rattle.paraid_base.specs.History.{Entry, last_of}
use Rattle.paraid_base.specs.Log.{log_least, map_block_place}
use Rattle.paraid_base.specs.Regions.{disk_size, map_count}
use Rattle.paraid_base.specs.Sums.{without, xor_upto}
use Rattle.paraid_base.specs.Xor.{xor, zero_block}
use Rattle.paraid_base.proofs.CellsLemmas.{cell_block-home, home_disk_below, home_disk_other, home_row_below, parity_disk_below}
use Rattle.paraid_base.proofs.SumsLemmas.{others_same, whole_from_others, xor_upto_same}
use Rattle.paraid_base.proofs.XorLemmas.{xor_self}
use Rattle.paraid_plan.specs.Desk.{Desk, IsKeptDesk, StagesMap, cell_desk, desk_with_bit, sees, with_targets}
use Rattle.paraid_plan.specs.RowWrites.{AddsTargets, AreOldRead, IsOldOf, StagesBlocks, TurnsRow, given_row, is_changed, new_parity, with_row}
use Rattle.paraid_plan.specs.WriteTargets.{cell_targets, goes_hard, is_filled, is_written, map_targets, needs_new, needs_old, overlaid_blocks}
use Rattle.paraid_plan.specs.StoredCells.{AreBits, IsUnitKept, StoresCells}
use Rattle.paraid_plan.proofs.CellLemmas.{bits_changed, cell_stored, goes_parked}
use Rattle.paraid_plan.proofs.CommitTargetLemmas.{cell_placed, map_placed_if, placed_append}
use Rattle.paraid_plan.proofs.DeskLemmas.{targets_without_new, targets_without_old}
use Rattle.paraid_plan.proofs.LayLemmas.{changed_off, lay_nil, overlaid_blocks-append, put, put_at, put_off}
use Rattle.paraid_plan.proofs.MapLemmas.{dirty_is, kept_now, value_now}
use Rattle.paraid_plan.proofs.StoredLemmas.{stored_of}
use Rattle.paraid_plan.proofs.WriteLemmas.{block_other, kept_other}
use Rattle.paraid_rack.specs.declared.call.Power.{Power}
use Rattle.paraid_rack.specs.Disks.{with_at}
use Rattle.paraid_rack.proofs.AtomsLemmas.{with_at_other, with_at_same}
use Rattle.paraid_record.specs.declared.meta.Meta.{Meta}
use Rattle.paraid_record.specs.Range.{IsInRange}
use Rattle.paraid_image.specs.Content.{blocks_of}
use Rattle.paraid_image.specs.Out.{is_out, named_out}
use Rattle.paraid_image.specs.Sides.{Batch}
use Rattle.paraid_image.specs.Sound.{IsWellKept}
use Rattle.paraid_image.specs.Spot.{View, is_hard, map_bit, map_disk, rising_to}
use Rattle.paraid_image.specs.Standing.{Contents}
use Rattle.paraid_image.specs.Value.{value}

-- targets

pub adds_none : (m : Meta) (s : Desk) → AddsTargets m s s
adds_none m s = record { targets = []; staged = sym (append-nil s.staged); block = sym (lay_nil s.block); placed = tt }

pub adds_same : (m : Meta) (s t : Desk) → t ≡ s → AddsTargets m s t
adds_same m s t e = subst (AddsTargets m s) (sym e) (adds_none m s)

pub adds_then : (m : Meta) (a b c : Desk) → AddsTargets m a b → AddsTargets m b c → AddsTargets m a c
adds_then m a b c p q = record {
  targets = p.targets ++ q.targets;
  staged = q.staged ∙ ap (λ (z : Batch). z ++ q.targets) p.staged ∙ append_assoc a.staged p.targets q.targets;
  block = q.block ∙ ap (overlaid_blocks q.targets) p.block ∙ sym (overlaid_blocks-append p.targets q.targets a.block);
  placed = placed_append m p.targets q.targets p.placed q.placed;
}

pub adds_cell : (m : Meta) (s t : Desk) (r d : ℕ) (old new : Block) → IsInRange m → r < m.setup.geometry.rows → d < m.setup.geometry.disks
    → t ≡ cell_desk m s r d old new → AddsTargets m s t
unfolding cell_desk desk_with_bit with_targets
adds_cell m s t r d old new in_range lr ld e = record {
  targets = cell_targets (sees m s) r d old new;
  staged = ap (λ (z : Desk). z.staged) e;
  block = ap (λ (z : Desk). z.block) e;
  placed = cell_placed (sees m s) in_range r d old new lr ld;
}

pub adds_map : (m : Meta) (s t : Desk) (r : ℕ) (staged : Bool) → IsInRange m → r < m.setup.geometry.rows → StagesMap m s t (r / 512) staged → AddsTargets m s t
unfolding with_targets
adds_map m s t r staged in_range lr map = record {
  targets = if staged then map_targets m (r / 512) map.map else [];
  staged = ap (λ (z : Desk). z.staged) map.is;
  block = ap (λ (z : Desk). z.block) map.is;
  placed = map_placed_if (sees m s) staged (r / 512) map.map in_range (omega arith);
}

-- values

pub with_row_at : (value : ℕ → ℕ → Block) (r : ℕ) (row : ℕ → Block) (q e : ℕ) → q ≡ r → with_row value r row q e ≡ row e
unfolding with_row
with_row_at value r row q e i = let here : (q == r) ≡ true = grind (arith, nat_tests) in rw here refl

pub with_row_off : (value : ℕ → ℕ → Block) (r : ℕ) (row : ℕ → Block) (q e : ℕ) → q ≢ r → with_row value r row q e ≡ value q e
unfolding with_row
with_row_off value r row q e i = let off : (q == r) ≡ false = grind (arith, nat_tests) in rw off refl

-- the values of the array's cells alone count
stored_values : (power : ℕ → Power) (m : Meta) (out : Option ℕ) (block : Contents) (dirty : ℕ → ℕ → Bool) (was now : ℕ → ℕ → Block) (map : ℕ → Block)
    → ((q e : ℕ) → q < m.setup.geometry.rows → e < m.setup.geometry.disks → now q e ≡ was q e) → StoresCells power m out block dirty was map → StoresCells power m out block dirty now map
stored_values power m out block dirty was now map same st = record {
  hard = st.hard;
  soft = st.soft;
  filled = st.filled;
  lies = st.lies;
  clean = λ q e lq le c. st.clean q e lq le c ∙ sym (same q e lq le);
  copies = record {
    cells = λ q e lq low le ls h. st.copies.cells q e lq low le ls h ∙ sym (same q e lq le);
    sums = st.copies.sums;
  };
  fills = record {
    cells = λ q e lq low le ls h. st.fills.cells q e lq low le ls h ∙ sym (same q e lq le);
    sums = st.fills.sums;
  };
  pads = st.pads;
}

-- the second values may be said in another way
pub turns_same : (m : Meta) (r : ℕ) (a b : Desk) (x y z : ℕ → Block) → ((e : ℕ) → e < m.setup.geometry.disks → z e ≡ y e) → TurnsRow m r a b x y → TurnsRow m r a b x z
turns_same m r a b x y z same p = record {
  others = p.others;
  bits = p.bits;
  stored = λ power val map st is.
      stored_values power m (named_out m.out) b.block b.dirty (with_row val r y) (with_row val r z) map
      (λ q e lq le. elim (cases_eq q r) [
        | inl i ↦ with_row_at val r z q e i ∙ same e le ∙ sym (with_row_at val r y q e i)
        | inr i ↦ with_row_off val r z q e i ∙ sym (with_row_off val r y q e i)
      ]) (p.stored power val map st is);
}

pub turns_none : (m : Meta) (r : ℕ) (s : Desk) (row : ℕ → Block) → TurnsRow m r s s row row
turns_none m r s row = record {
  others = λ q e off. refl;
  bits = λ bits. bits;
  stored = λ power val map st is.
      stored_values power m (named_out m.out) s.block s.dirty val (with_row val r row) map
      (λ q e lq le. elim (cases_eq q r) [
        | inl i ↦ with_row_at val r row q e i ∙ sym (ap (λ (z : ℕ). val z e) i ∙ is e le)
        | inr i ↦ with_row_off val r row q e i
      ]) st;
}

pub turns_then : (m : Meta) (r : ℕ) (a b c : Desk) (x y z : ℕ → Block) → TurnsRow m r a b x y → TurnsRow m r b c y z → TurnsRow m r a c x z
turns_then m r a b c x y z p q = record {
  others = λ k e off. q.others k e off ∙ p.others k e off;
  bits = λ bits. q.bits (p.bits bits);
  stored = λ power val map st is.
      stored_values power m (named_out m.out) c.block c.dirty (with_row (with_row val r y) r z) (with_row val r z) map
      (λ k e lk le. elim (cases_eq k r) [
        | inl i ↦ with_row_at val r z k e i ∙ sym (with_row_at (with_row val r y) r z k e i)
        | inr i ↦ with_row_off val r z k e i ∙ sym (with_row_off (with_row val r y) r z k e i ∙ with_row_off val r y k e i)
      ])
      (q.stored power (with_row val r y) map (p.stored power val map st is) (λ e le. with_row_at val r y r e refl));
}

-- what is staged of a cell depends on no more than is needed
targets_agree : (v : View) (r d : ℕ) (old new a b : Block) → (needs_old v r d ≡ true → old ≡ a) → (needs_new v r d ≡ true → new ≡ b)
    → cell_targets v r d old new ≡ cell_targets v r d a b
targets_agree v r d old new a b is_old is_new = elim (cases_Bool (needs_new v r d)) [
  | inl h ↦ ap (λ (z : Block). cell_targets v r d old z) (is_new h) ∙ elim (cases_Bool (needs_old v r d)) [
    | inl o ↦ ap (λ (z : Block). cell_targets v r d z b) (is_old o)
    | inr o ↦ targets_without_old v r d old a b o
  ]
  | inr h ↦ targets_without_new v r d old new h ∙ sym (targets_without_new v r d a b h)
]

module _ (m : Meta) (s : Desk) (r d : ℕ) (old new fixed : Block) (row : ℕ → Block) (in_range : IsInRange m) (lr : r < m.setup.geometry.rows) (ld : d < m.setup.geometry.disks)
    (is_old : needs_old (sees m s) r d ≡ true → old ≡ row d) (is_new : needs_new (sees m s) r d ≡ true → new ≡ fixed) where
  abbrev bit : Bool
  bit = not (goes_hard (sees m s) r d)

  stored_cell : (power : ℕ → Power) (val : ℕ → ℕ → Block) (map : ℕ → Block) → StoresCells power m (named_out m.out) s.block s.dirty val map
      → ((e : ℕ) → e < m.setup.geometry.disks → val r e ≡ row e)
      → StoresCells power m (named_out m.out) (cell_desk m s r d old new).block (cell_desk m s r d old new).dirty (with_row val r (with_at row d fixed)) map
  unfolding cell_desk desk_with_bit with_targets
  stored_cell power val map st is =
      let t : Desk = cell_desk m s r d old new in
      stored_values power m (named_out m.out) t.block t.dirty (put val r d fixed) (with_row val r (with_at row d fixed)) map
      (λ q e lq le. elim (cases_eq q r) [
        | inl i ↦ with_row_at val r (with_at row d fixed) q e i ∙ elim (cases_eq e d) [
          | inl j ↦ with_at_same row d fixed e j ∙ sym (put_at val r d fixed q e i j)
          | inr j ↦ with_at_other row d fixed e j ∙ sym (put_off val r d fixed q e (λ _ k. j k) ∙ ap (λ (z : ℕ). val z e) i ∙ is e le)
        ]
        | inr i ↦ with_row_off val r (with_at row d fixed) q e i ∙ sym (put_off val r d fixed q e (λ k _. i k))
      ])
      (subst (λ (b : Batch). StoresCells power m (named_out m.out) (overlaid_blocks b s.block) t.dirty (put val r d fixed) map)
      (sym (targets_agree (sees m s) r d old new (val r d) fixed (λ h. is_old h ∙ sym (is d ld)) is_new))
      (cell_stored power (sees m s) val map in_range refl st r d (val r d) fixed lr ld refl))

  turns_to : TurnsRow m r s (cell_desk m s r d old new) row (with_at row d fixed)
  unfolding cell_desk desk_with_bit with_targets
  turns_to = record {
    others = λ q e off. changed_off s.dirty r d bit q e (λ i j. off i (let l = ld in omega arith));
    bits = bits_changed m s.dirty r d bit lr ld (goes_parked (sees m s) r d);
    stored = stored_cell;
  }

  pub turns_cell : (t : Desk) → t ≡ cell_desk m s r d old new → TurnsRow m r s t row (with_at row d fixed)
  turns_cell t e = subst (λ (z : Desk). TurnsRow m r s z row (with_at row d fixed)) (sym e) turns_to

-- the bit of another cell of the row stays
pub cell_bit_off : (m : Meta) (s t : Desk) (r d e : ℕ) (old new : Block) → t ≡ cell_desk m s r d old new → e ≢ d → t.dirty r e ≡ s.dirty r e
unfolding cell_desk desk_with_bit with_targets
cell_bit_off m s t r d e old new is apart = ap (λ (z : Desk). z.dirty r e) is ∙ changed_off s.dirty r d (not (goes_hard (sees m s) r d)) r e (λ _ j. apart j)

pub old_same : (m : Meta) (s : Desk) (ws : Entry) (r : ℕ) (olds : List (Option Block)) (y z : ℕ → Block) → ((e : ℕ) → e < m.setup.geometry.disks → z e ≡ y e)
    → AreOldRead m s ws r olds y → AreOldRead m s ws r olds z
old_same m s ws r olds y z same was = record { read = λ e le changed h. subst (IsOldOf olds e) (sym (same e le)) (was.read e le changed h) }

-- what is needed of a cell depends on its own dirty bit alone
hard_by : (m : Meta) (s t : Desk) (r d : ℕ) → t.dirty r d ≡ s.dirty r d → goes_hard (sees m t) r d ≡ goes_hard (sees m s) r d
unfolding goes_hard is_hard
hard_by m s t r d e = ap (λ (z : Bool). (nat_lt d m.gear || (nat_lt d (rising_to m.phase) && not z)) || (nat_lt d (rising_to m.phase) && not (is_out (named_out m.out) d))) e

pub needs_new_by : (m : Meta) (s t : Desk) (r d : ℕ) → t.dirty r d ≡ s.dirty r d → needs_new (sees m t) r d ≡ needs_new (sees m s) r d
unfolding needs_new
needs_new_by m s t r d e = ap (λ (z : Bool). not z || is_written m.out d r || is_filled m r d) (hard_by m s t r d e)

-- what a sequence of such steps makes of the blocks

pub stages_none : (m : Meta) (s : Desk) → StagesBlocks m s s (λ c x. x)
stages_none m s = record { adds = adds_none m s; kept = λ slots power size desk. desk; blocks = λ slots power size desk c lc. refl }

pub stages_then : (m : Meta) (a b c : Desk) (f g : ℕ → Block → Block) → StagesBlocks m a b f → StagesBlocks m b c g → StagesBlocks m a c (λ i x. g i (f i x))
stages_then m a b c f g p q = record {
  adds = adds_then m a b c p.adds q.adds;
  kept = λ slots power size desk. q.kept slots power size (p.kept slots power size desk);
  blocks = λ slots power size desk i li. q.blocks slots power size (p.kept slots power size desk) i li ∙ ap (g i) (p.blocks slots power size desk i li);
}

pub stages_same : (m : Meta) (a b : Desk) (f g : ℕ → Block → Block) → ((c : ℕ) (x : Block) → g c x ≡ f c x) → StagesBlocks m a b f → StagesBlocks m a b g
stages_same m a b f g same p = record {
  adds = p.adds;
  kept = p.kept;
  blocks = λ slots power size desk c lc. p.blocks slots power size desk c lc ∙ sym (same c (blocks_of (sees m a) c));
}

-- a row is written: its cells, its parity and the map
module _ (m : Meta) (s t u : Desk) (r : ℕ) (ws : Entry) (staged : Bool) (in_range : IsInRange m) (lr : r < m.setup.geometry.rows)
    (adds : AddsTargets m s t)
    (turns : xor_upto (value (sees m s) r) m.setup.geometry.disks ≡ zero_block → TurnsRow m r s t (value (sees m s) r)
    (with_at (given_row m.setup.geometry.disks ws r (value (sees m s) r)) (parity_disk m.setup.geometry.disks r) (new_parity m.setup.geometry.disks ws r (value (sees m s) r))))
    (same : staged ≡ false → (e : ℕ) → e < m.setup.geometry.disks → t.dirty r e ≡ s.dirty r e)
    (map : StagesMap m t u (r / 512) staged) where
  abbrev n : ℕ
  n = m.setup.geometry.disks

  abbrev out : Option ℕ
  out = named_out m.out

  abbrev p : ℕ
  p = parity_disk m.setup.geometry.disks r

  lp : p < n
  lp = let low = m.setup.geometry.disks_low in parity_disk_below n r (omega arith)

  abbrev row : ℕ → Block
  row = value (sees m s) r

  abbrev given : ℕ → Block
  given = given_row m.setup.geometry.disks ws r (value (sees m s) r)

  abbrev fixed : Block
  fixed = new_parity m.setup.geometry.disks ws r (value (sees m s) r)

  abbrev ended : ℕ → Block
  ended = with_at (given_row m.setup.geometry.disks ws r (value (sees m s) r)) (parity_disk m.setup.geometry.disks r) (new_parity m.setup.geometry.disks ws r (value (sees m s) r))

  sums : xor_upto ended n ≡ zero_block
  unfolding new_parity
  sums =
      whole_from_others ended p n lp
      ∙ ap (λ (z : Block). xor z (ended p)) (others_same ended given p n (λ e le off. with_at_other given p fixed e off))
      ∙ ap (xor (xor_upto (without given p) n)) (with_at_same given p fixed p refl)
      ∙ xor_self (xor_upto (without given p) n)

  is_last : u.block ≡ overlaid_blocks (if staged then map_targets m (r / 512) map.map else []) t.block
  unfolding with_targets
  is_last = ap (λ (z : Desk). z.block) map.is

  same_bits : u.dirty ≡ t.dirty
  unfolding with_targets
  same_bits = ap (λ (z : Desk). z.dirty) map.is

  module _ (slots : ℕ) (power : ℕ → Power) (size : ℕ → ℕ) (desk : IsKeptDesk slots power size m s) where
    abbrev after : ℕ → ℕ → Block
    after = with_row (value (sees m s)) r ended

    abbrev map0 : ℕ → Block
    map0 j = s.block (map_disk out) (map_block_place m.setup.geometry j)

    turned : TurnsRow m r s t row ended
    turned = turns (desk.kept.rows r lr)

    stored : StoresCells power m out t.block t.dirty after map0
    stored = turned.stored power (value (sees m s)) map0 (stored_of slots power size (sees m s) in_range refl desk.kept) (λ e le. refl)

    rows : (q : ℕ) → q < m.setup.geometry.rows → xor_upto (after q) n ≡ zero_block
    rows q lq = elim (cases_eq q r) [
      | inl i ↦ xor_upto_same (after q) ended n (λ e le. with_row_at (value (sees m s)) r ended q e i) ∙ sums
      | inr i ↦ xor_upto_same (after q) (value (sees m s) q) n (λ e le. with_row_off (value (sees m s)) r ended q e i) ∙ desk.kept.rows q lq
    ]

    bits : AreBits m t.dirty
    bits = turned.bits (record { rows = desk.kept.map.rows; parked = desk.kept.map.parked; disks = desk.kept.map.disks })

    other_row : (q e : ℕ) → q ≢ r → t.dirty q e ≡ s.dirty q e
    other_row q e i = turned.others q e (λ j _. i j)

    same_row : staged ≡ false → (e : ℕ) → t.dirty r e ≡ s.dirty r e
    same_row h e = elim (cases_lt e n) [
      | inl le ↦ same h e le
      | inr past ↦ turned.others r e (λ _ le. absurd (omega arith))
    ]

    final_is : (x k q : ℕ) → x < n → IsUnitKept power m out x k → log_least ≤ q → q < disk_size m.setup.geometry
        → u.block x q ≡ overlaid_blocks (if staged then map_targets m (r / 512) map.map else []) t.block x q
    final_is x k q lx kept far near = ap (λ (f : Contents). f x q) is_last

    abbrev seen : View
    seen = record { meta = m; dirty = map_bit m.setup.geometry (u.block (map_disk (named_out m.out))); out = named_out m.out; block = u.block }

    now_kept : IsWellKept slots power size seen
    now_kept = kept_now slots power size m out s.dirty s.block in_range refl desk.shown desk.kept.disks r lr t.block t.dirty after stored rows bits other_row staged map.map map.shows same_row u.block final_is

    now_value : (q e : ℕ) → q < m.setup.geometry.rows → e < n → value seen q e ≡ after q e
    now_value = value_now slots power size m out s.dirty s.block in_range refl desk.shown desk.kept.disks r lr t.block t.dirty after stored rows bits other_row staged map.map map.shows same_row u.block final_is

    shown : (q e : ℕ) → q < 512 * map_count m.setup.geometry → u.dirty q e ≡ map_bit m.setup.geometry (u.block (map_disk out)) q e
    shown q e l =
        ap (λ (f : ℕ → ℕ → Bool). f q e) same_bits
        ∙ sym (dirty_is slots power size m out s.dirty s.block in_range refl desk.shown desk.kept.disks r lr t.block t.dirty after stored rows bits other_row staged map.map map.shows same_row u.block final_is q e l)

    kept : IsKeptDesk slots power size m u
    kept = record { shown = shown; kept = kept_other slots power size seen u.dirty in_range refl shown now_kept }

    held : (c : ℕ) → home_row n c ≡ r → ended (home_disk n c) ≡ last_of c (value (sees m s) (home_row n c) (home_disk n c)) ws
    unfolding given_row
    held c is =
        let e : ℕ = home_disk n c in
        let apart : e ≢ p = (λ j. home_disk_other n c (j ∙ ap (parity_disk n) (sym is))) in
        let off : (e == p) ≡ false = grind (arith, nat_tests) in
        with_at_other given p fixed e apart
        ∙ rw off refl
        ∙ ap (λ (z : ℕ). last_of z (value (sees m s) r e) ws) (ap (λ (z : ℕ). cell_block n z e) (sym is) ∙ cell_block-home n c)
        ∙ ap (λ (z : ℕ). last_of c (value (sees m s) z e) ws) (sym is)

    blocks : (c : ℕ) → c < m.setup.geometry.rows * (m.setup.geometry.disks - 1) → blocks_of (sees m u) c ≡ (if home_row m.setup.geometry.disks c == r then last_of c (blocks_of (sees m s) c) ws else blocks_of (sees m s) c)
    blocks c lc =
        let low = m.setup.geometry.disks_low in
        let q : ℕ = home_row n c in
        let e : ℕ = home_disk n c in
        block_other slots power size seen u.dirty in_range refl shown now_kept c lc
        ∙ now_value q e (home_row_below n c m.setup.geometry.rows (omega arith) lc) (home_disk_below n c (omega arith))
        ∙ elim (cases_eq q r) [
          | inl i ↦ (let here : (q == r) ≡ true = grind (arith, nat_tests) in with_row_at (value (sees m s)) r ended q e i ∙ held c i ∙ rw here refl)
          | inr i ↦ (let off : (q == r) ≡ false = grind (arith, nat_tests) in with_row_off (value (sees m s)) r ended q e i ∙ rw off refl)
        ]

  pub row_staged : StagesBlocks m s u (λ c x. if home_row m.setup.geometry.disks c == r then last_of c x ws else x)
  row_staged = record {
    adds = adds_then m s t u adds (adds_map m t u r staged in_range lr map);
    kept = kept;
    blocks = blocks;
  }

-- the same, over what the calls of the write of a row said
same_disk : (a b : ℕ) → a ≡ b → (a == b) ≡ true
same_disk a b e = grind (arith, nat_tests)

pub row_from_calls : (m : Meta) (s s1 s2 s3 s4 : Desk) (r p : ℕ) (ws : Entry) (olds olds_then : List (Option Block)) (old fixed : Block) (was : ℕ → Bool) (staged : Bool)
    → IsInRange m → r < m.setup.geometry.rows → p ≡ parity_disk m.setup.geometry.disks r → s1 ≡ s
    → AreOldRead m s ws r olds (value (sees m s) r)
    → (needs_new (sees m s) r p ≡ true → xor_upto (value (sees m s) r) m.setup.geometry.disks ≡ zero_block → fixed ≡ new_parity m.setup.geometry.disks ws r (value (sees m s) r))
    → ((e : ℕ) → e < m.setup.geometry.disks → was e ≡ s1.dirty r e)
    → AddsTargets m s1 s2
    → ((row : ℕ → Block) → AreOldRead m s1 ws r olds row → TurnsRow m r s1 s2 row (given_row m.setup.geometry.disks ws r row))
    → ((row : ℕ → Block) → AreOldRead m s1 ws r olds row → AreOldRead m s2 ws r olds_then (given_row m.setup.geometry.disks ws r row))
    → s2.dirty r (parity_disk m.setup.geometry.disks r) ≡ s1.dirty r (parity_disk m.setup.geometry.disks r)
    → ((z : Block) → IsOldOf olds_then p z → old ≡ z) → s3 ≡ cell_desk m s2 r p old fixed
    → (staged ≡ false → (e : ℕ) → e < m.setup.geometry.disks → s3.dirty r e ≡ was e)
    → StagesMap m s3 s4 (r / 512) staged
    → StagesBlocks m s s4 (λ c x. if home_row m.setup.geometry.disks c == r then last_of c x ws else x)
unfolding is_changed
row_from_calls m s s1 s2 s3 s4 r p ws olds olds_then old fixed was staged in_range lr ep e1 read is_fixed was_bits adds turns later parity_bit is_old e3 same map =
    let n : ℕ = m.setup.geometry.disks in
    let low = m.setup.geometry.disks_low in
    let row : ℕ → Block = value (sees m s) r in
    let lp : p < n = rw ep (parity_disk_below n r (omega arith)) in
    let here : (p == parity_disk n r) ≡ true = same_disk p (parity_disk n r) ep in
    let changed : is_changed n ws r p ≡ true = rw here refl in
    let first : AddsTargets m s s2 = subst (λ (z : Desk). AddsTargets m z s2) e1 adds in
    let read1 : AreOldRead m s1 ws r olds row = subst (λ (z : Desk). AreOldRead m z ws r olds row) (sym e1) read in
    let turned : TurnsRow m r s s2 row (given_row n ws r row) = subst (λ (z : Desk). TurnsRow m r z s2 row (given_row n ws r row)) e1 (turns row read1) in
    let bit : s2.dirty r p ≡ s.dirty r p = subst (λ (z : ℕ). s2.dirty r z ≡ s1.dirty r z) (sym ep) parity_bit ∙ ap (λ (z : Desk). z.dirty r p) e1 in
    row_staged m s s3 s4 r ws staged in_range lr
    (adds_then m s s2 s3 first (adds_cell m s2 s3 r p old fixed in_range lr lp e3))
    (λ zero. subst (λ (z : ℕ). TurnsRow m r s s3 row (with_at (given_row n ws r row) z (new_parity n ws r row))) ep
    (turns_then m r s s2 s3 row (given_row n ws r row) _ turned
    (turns_cell m s2 r p old fixed (new_parity n ws r row) (given_row n ws r row) in_range lr lp
    (λ h. is_old (given_row n ws r row p) ((later row read1).read p lp changed h)) (λ h. is_fixed (sym (needs_new_by m s s2 r p bit) ∙ h) zero) s3 e3)))
    (λ h e le. same h e le ∙ was_bits e le ∙ ap (λ (z : Desk). z.dirty r e) e1)
    map
