-- The units that calls of a core move, one call after the other.
use Rattle.std.specs.Prelude.{◌≡◌, ◌≢◌, ℕ, ◌+◌, ◌-◌, ◌<◌, ◌≤◌, ◌⊎◌, true, false, Bool, List, [], Option, Some, None, IfSome, length}
use Rattle.std.proofs.Common.{refl, sym, ◌∙◌, ap, subst, arith, inl, inr}
use Rattle.std.proofs.lemmas.Bool.{cases_eq}
use Rattle.paraid_base.specs.declared.state.Out.{Out}
use Rattle.paraid_base.specs.declared.state.Out.TheVariants.{Fresh, Gone, No}
use Rattle.paraid_base.specs.Soft.{stripe_count}
use Rattle.paraid_base.specs.States.{named_out, phase_to, rising_to}
use Rattle.paraid_dirty.specs.Table.{IsClean, IsCleanFrom, IsFirstDirty, IsFirstFrom, is_dirty, table_with_bit}
use Rattle.paraid_record.specs.declared.meta.Meta.{Meta}
use Rattle.paraid_core.specs.declared.staged.Core.{Core}
use Rattle.paraid_core.specs.Steps.{IsMarkedFrom}
use Rattle.paraid_core.proofs.StepLemmas.{unmarked}
use Rattle.paraid_event.specs.Service.{service_of}
use Rattle.paraid_shift.specs.Units.{AreCellsDone, AreUnitsDone, CoreCountsMoved, HasDirtyBefore, IsGroupOf, MovesUpTo}
use Rattle.paraid_event.proofs.CoreServingLemmas.{marked_named, marked_none}
use Rattle.paraid_shift.proofs.UnitLemmas.{cell_moves, moves_none, moves_then, stripes_move}

-- a disk that is out is named
pub out_named : (o : Out) → o ≢ No → (d : ℕ) × (named_out o ≡ Some d)
out_named No not = absurd (not refl)
out_named (Gone d) not = (d, refl)
out_named (Fresh d u) not = (d, refl)

pub named_not : (o : Out) (d : ℕ) → named_out o ≡ Some d → o ≢ No
named_not o d is none = let z : None ≡ Some d = sym (ap named_out none) ∙ is in absurd cc

-- where targets are staged, some are
pub staged_some : {A : Type 0} (batch : List A) (count : ℕ) → count ≡ length batch → count ≢ 0 → batch ≢ []
staged_some batch count is some none = some (is ∙ ap length none)

-- what holds of an answer leads on
pub some_more : {A : Type 0} (o : Option A) (P Q : A → Type 0) → ((x : A) → P x → Q x) → IfSome o P → IfSome o Q
some_more None P Q more is = tt
some_more (Some x) P Q more is = more x is

pub some_at : {A : Type 0} (o : Option A) (x : A) (P : A → Type 0) → o ≡ Some x → IfSome o P → P x
some_at {A = A} o x P is holds = subst (λ (z : Option A). IfSome z P) is holds

-- a disk that is out stays out
pub out_stays : (a b : Meta) → IsMarkedFrom a b → a.out ≢ No → b.out ≢ No
out_stays a b marked not = let o = out_named a.out not in named_not b.out o.0 (marked_named a b marked o.0 o.1)

module _ {R : Type 0} {g : _} (count : R → ℕ) where
  -- a call that moves nothing
  pub core_moves_none : (a b : Core R g) (e : ℕ) → a.meta.out ≡ No → IsMarkedFrom (record a.meta { epoch = e }) b.meta → b.dirty ≡ a.dirty → CoreCountsMoved count a b 0
  core_moves_none a b e whole marked table samples served energy =
      moves_none (service_of count a samples served energy) (service_of count b samples served energy) e whole marked table refl refl

  pub core_moves_same : (a : Core R g) → a.meta.out ≡ No → CoreCountsMoved count a a 0
  core_moves_same a whole = core_moves_none a a a.meta.epoch whole (marked_none a.meta) refl

  pub core_moves_then : (a b c : Core R g) (n m : ℕ) → CoreCountsMoved count a b n → b.meta.out ≡ No → b.meta.setup ≡ a.meta.setup → CoreCountsMoved count b c m → CoreCountsMoved count a c (n + m)
  core_moves_then a b c n m first whole setup second samples served energy =
      moves_then (service_of count a samples served energy) (service_of count b samples served energy) (service_of count c samples served energy) n m (first samples served energy) whole setup (second samples served energy)

  pub core_moves_so : (a b : Core R g) (n m : ℕ) → n ≡ m → CoreCountsMoved count a b n → CoreCountsMoved count a b m
  core_moves_so a b n m is = subst (CoreCountsMoved count a b) is

  pub core_cell_moves : (a b : Core R g) (r d : ℕ) → a.meta.out ≡ No → b.meta ≡ a.meta → IsFirstDirty (is_dirty a.dirty) a.meta.gear (rising_to a.meta.phase) r d → r < a.meta.setup.geometry.rows
      → ((q e : ℕ) → is_dirty b.dirty q e ≡ table_with_bit (is_dirty a.dirty) r d false q e) → CoreCountsMoved count a b 1
  core_cell_moves a b r d whole meta first row table samples served energy =
      cell_moves (service_of count a samples served energy) (service_of count b samples served energy) r d whole meta refl refl first row table

  -- parts that moved so many, with marks staged by the second one alone
  pub up_to_more : (a b c : Core R g) (left : Type 0) (most n m : ℕ) → CoreCountsMoved count a b n → b.meta.out ≡ No → b.meta.setup ≡ a.meta.setup → n ≤ most → MovesUpTo count b c left (most - n) m → MovesUpTo count a c left most (n + m)
  up_to_more a b c left most n m first whole setup within second = record {
    moves = core_moves_then a b c n m first whole setup second.moves;
    all = λ still. elim (second.all still) [
      | inl is ↦ inl (omega (arith, is, within))
      | inr done ↦ inr done
    ];
    ended = second.ended;
  }

-- a cell that comes before the first dirty one is no dirty one
pub none_before : (m : Meta) (table : List (List Bool)) (r d q e : ℕ) → IsFirstDirty (is_dirty table) m.gear (rising_to m.phase) q e → (r < q) ⊎ ((r ≡ q) × (d ≤ e)) → HasDirtyBefore m table r d → ⊥
none_before m table r d q e first past has =
    let low = has.low in
    let high = has.high in
    let none : is_dirty table has.row has.disk ≡ false =
    (elim past [
      | inl row ↦ first.rows_before has.row has.disk (elim has.before [ inl less ↦ omega (arith, row, less) | inr same ↦ omega (arith, row, same.0) ]) low high
      | inr same ↦ elim has.before [
        | inl less ↦ first.rows_before has.row has.disk (omega (arith, same.0, less)) low high
        | inr beside ↦
            (let row : has.row ≡ q = beside.0 ∙ same.0 in
            ap (λ (z : ℕ). is_dirty table z has.disk) row ∙ first.disks_before has.disk low (omega (arith, beside.1, same.1)))
      ]
    ]) in
    let z : true ≡ false = sym has.is ∙ none in
    absurd cc

-- a cell that was found lies before the end of its group
pub one_before : (a b : Meta) (table others : List (List Bool)) (r d q e row disk : ℕ) → row ≡ q → disk ≡ e + 1 → b ≡ a → others ≡ table → IsFirstFrom (is_dirty others) r d b.gear (rising_to b.phase) q e → HasDirtyBefore a table row disk
one_before a b table others r d q e row disk same next meta tables first = record {
  row = q;
  disk = e;
  low = (let is = ap (λ (m : Meta). m.gear) meta in let low = first.low in omega (arith, is, low));
  high = (let is = ap (λ (m : Meta). rising_to m.phase) meta in let high = first.high in omega (arith, is, high));
  is = ap (λ (t : List (List Bool)). is_dirty t q e) (sym tables) ∙ first.is;
  before = inr (sym same, omega (arith, next));
}

-- no cell is dirty
pub clean_done : (m : Meta) (table : List (List Bool)) → IsCleanFrom (is_dirty table) 0 0 m.gear (rising_to m.phase) → AreCellsDone m table
clean_done m table clean r d row low high = elim (cases_eq r 0) [
  | inl first ↦ clean.clean r d (inr (sym first, omega arith)) low high
  | inr later ↦ clean.clean r d (inl (omega (arith, later))) low high
]

-- so from the first cell on, of a core that is as it was but for the copies
pub clean_from : (m n : Meta) (table others : List (List Bool)) (r d : ℕ) → n ≡ m → others ≡ table → r ≡ 0 → d ≡ 0 → IsCleanFrom (is_dirty others) r d n.gear (rising_to n.phase) → AreCellsDone m table
clean_from m n table others r d meta tables row disk clean =
    clean_done m table
    (subst (λ (x : ℕ). IsCleanFrom (is_dirty table) 0 x m.gear (rising_to m.phase)) disk
    (subst (λ (x : ℕ). IsCleanFrom (is_dirty table) x d m.gear (rising_to m.phase)) row
    (subst (λ (t : List (List Bool)). IsCleanFrom (is_dirty t) r d m.gear (rising_to m.phase)) tables
    (subst (λ (z : Meta). IsCleanFrom (is_dirty others) r d z.gear (rising_to z.phase)) meta clean))))

-- a group of cells, of a core that is as it was but for the copies
pub group_same : (m n : Meta) (table others : List (List Bool)) (most units r d : ℕ) → n ≡ m → others ≡ table → IsGroupOf m table most units r d → IsGroupOf n others most units r d
group_same m n table others most units r d meta tables group =
    subst (λ (z : Meta). IsGroupOf z others most units r d) (sym meta) (subst (λ (t : List (List Bool)). IsGroupOf m t most units r d) (sym tables) group)

-- no cell comes before another where none is dirty
pub clean_none_before : (m : Meta) (table : List (List Bool)) (r d : ℕ) → IsClean (is_dirty table) m.gear (rising_to m.phase) → HasDirtyBefore m table r d → ⊥
clean_none_before m table r d clean has = let z : true ≡ false = sym has.is ∙ clean.clean has.row has.disk has.low has.high in absurd cc

module _ {R : Type 0} {g : _} (count : R → ℕ) (a b : Core R g) (end : ℕ) (meta : b.meta ≡ record a.meta { fill = end }) (table : b.dirty ≡ a.dirty) (clean : AreCellsDone a.meta a.dirty) where
  -- stripes are marked
  pub core_stripes_move : a.meta.out ≡ No → a.meta.fill ≤ end → end ≤ stripe_count a.meta.setup.geometry.disks a.meta.setup.geometry.rows (phase_to a.meta.phase) → CoreCountsMoved count a b (end - a.meta.fill)
  core_stripes_move whole from within samples served energy =
      stripes_move (service_of count a samples served energy) (service_of count b samples served energy) end whole meta table refl refl from within clean

  -- all of them
  pub stripes_done : end ≡ stripe_count a.meta.setup.geometry.disks a.meta.setup.geometry.rows (phase_to a.meta.phase) → AreUnitsDone b.meta b.dirty
  stripes_done all =
      subst (λ (m : Meta). AreUnitsDone m b.dirty) (sym meta) (subst (AreUnitsDone (record a.meta { fill = end })) (sym table) (record { filled = all; clean = clean }))

-- a commit in which no disk is lost leaves none
pub done_committed : (m n : Meta) (e : ℕ) (table others : List (List Bool)) → IsMarkedFrom (record m { epoch = e }) n → n.out ≡ No → others ≡ table → AreUnitsDone m table → AreUnitsDone n others
done_committed m n e table others marked whole tables done =
    subst (λ (z : Meta). AreUnitsDone z others) (sym (unmarked (record m { epoch = e }) n marked whole)) (subst (AreUnitsDone (record m { epoch = e })) (sym tables) (record { filled = done.filled; clean = done.clean }))

pub is_out_no : (o : Out) → (o ≡ No) ⊎ (o ≢ No)
is_out_no No = inl refl
is_out_no (Gone d) = inr (λ is. let z : Gone d ≡ No = is in absurd cc)
is_out_no (Fresh d u) = inr (λ is. let z : Fresh d u ≡ No = is in absurd cc)

-- what is moved after a commit, with a disk lost in it or not
pub moved_after : {R : Type 0} {g : _} (count : R → ℕ) (a b c : Core R g) (most n : ℕ) → CoreCountsMoved count a b 0 → b.meta.setup ≡ a.meta.setup → b.batch ≡ []
    → (b.meta.out ≡ No → MovesUpTo count b c (AreUnitsDone c.meta c.dirty) most n) → (b.meta.out ≢ No → (n ≡ 0) × (c ≡ b)) → MovesUpTo count a c (AreUnitsDone c.meta c.dirty) most n
moved_after count a b c most n first setup nothing moves idle = elim (is_out_no b.meta.out) [
  | inl whole ↦
      (let second = moves whole in
      record {
        moves = core_moves_so count a c (0 + n) n (omega arith) (core_moves_then count a b c 0 n first whole setup second.moves);
        all = second.all;
        ended = second.ended;
      })
  | inr lost ↦
      (let none = idle lost in
      record {
        moves = core_moves_so count a c 0 n (sym none.0) (subst (λ (z : _). CoreCountsMoved count a z 0) (sym none.1) first);
        all = λ still. absurd (lost (ap (λ (z : _). z.meta.out) (sym none.1) ∙ still));
        ended = λ some. absurd (some (ap (λ (z : _). z.batch) none.1 ∙ nothing));
      })
]
