use Rattle.std.specs.Prelude.{◌≡◌, ◌⊎◌, ℕ, ◌+◌, ◌*◌, ◌/◌, ◌<◌, ◌≤◌, ◌==◌, false, if◌then◌else◌, List, length, get_or}
use Rattle.std.proofs.Common.{arith, ap, sym, subst, ◌∙◌}
use Rattle.std.proofs.lemmas.List.{get_or_read, with_items_is}
use Rattle.std.specs.Vec.{with_items}
use Rattle.paraid_dirty.specs.Bits.{bit_in}
use Rattle.paraid_dirty.specs.Table.{IsDirtyTable}
use Rattle.paraid_dirty.proofs.TableLemmas.{cell_changed, cell_room, clear_table, rows_length, word_of_cell}
use Rattle.paraid_dirty.proofs.table.DirtyTable.clear.Goals as goal

pub clear_bit-requires : goal.clear_bit-requires
clear_bit-requires c =
    let words = c.self.inside.words.items in
    let row : c.args.r < c.self.inside.rows = omega (arith, ap length c.self.view_is, rows_length words c.self.inside.rows, c.requires.row) in
    rw c.deref_mut.ensures.value (cell_room words c.self.inside.marks.items c.self.inside.rows c.args.r c.args.d c.self.invariant row c.requires.disk).0

pub index-word-requires : goal.index-word-requires
index-word-requires c =
    let words = c.self.inside.words in
    let row : c.args.r < c.self.inside.rows = omega (arith, ap length c.self.view_is, rows_length words.items c.self.inside.rows, c.requires.row) in
    let room = (cell_room words.items c.self.inside.marks.items c.self.inside.rows c.args.r c.args.d c.self.invariant row c.requires.disk).0 in
    omega (arith, words.ok.0, room, word_of_cell c.args.r c.args.d c.requires.disk)

pub unmark-requires : goal.unmark-requires
unmark-requires c =
    let words = c.self.inside.words.items in
    let row : c.args.r < c.self.inside.rows = omega (arith, ap length c.self.view_is, rows_length words c.self.inside.rows, c.requires.row) in
    rw c.deref_mut-2.ensures.value (cell_room words c.self.inside.marks.items c.self.inside.rows c.args.r c.args.d c.self.invariant row c.requires.disk).1

pub invariant_of-self : goal.invariant_of-self
invariant_of-self c =
    let words = c.self.inside.words in
    let marks = c.self.inside.marks in
    let rows = c.self.inside.rows in
    let at = 8 * c.args.r + c.args.d in
    let row : c.args.r < rows = omega (arith, ap length c.self.view_is, rows_length words.items rows, c.requires.row) in
    let size = c.clear_bit.ensures.length ∙ ap length c.deref_mut.ensures.value in
    let marks_size = c.unmark.ensures.length ∙ ap length c.deref_mut-2.ensures.value in
    let written = with_items_is words c.clear_bit.new.words (size ∙ sym words.ok.0) in
    let room = (cell_room words.items marks.items rows c.args.r c.args.d c.self.invariant row c.requires.disk).0 in
    let inside : c.args.r / 8 < length (with_items words c.clear_bit.new.words).items =
    omega (arith, ap length written, size, room, word_of_cell c.args.r c.args.d c.requires.disk) in
    let word : c.index-word.result.now ≡ get_or c.clear_bit.new.words (c.args.r / 8) 0 =
    get_or_read (with_items words c.clear_bit.new.words).items (c.args.r / 8) c.index-word.result.now inside c.index-word.ensures 0
    ∙ ap (λ (ws : List ℕ). get_or ws (c.args.r / 8) 0) written in
    let Marked : List ℕ → Type 0 = λ ms. (w : ℕ) → bit_in c.unmark.new.marks w ≡ false → (bit_in ms w ≡ false) ⊎ ((w ≡ c.args.r / 8) × (c.index-word.result.now ≡ 0)) in
    let Lower : List ℕ → Type 0 = λ ws. (w : ℕ) → get_or c.clear_bit.new.words w 0 ≤ get_or ws w 0 in
    let table = clear_table words.items c.clear_bit.new.words marks.items c.unmark.new.marks rows c.args.r c.args.d c.index-word.result.now c.self.invariant row c.requires.disk
    size (λ k. c.clear_bit.ensures.bits k ∙ ap (λ (ws : List ℕ). if k == at then false else bit_in ws k) c.deref_mut.ensures.value)
    (subst Lower c.deref_mut.ensures.value c.clear_bit.ensures.lower) word
    marks_size (subst Marked c.deref_mut-2.ensures.value c.unmark.ensures.marks) in
    let half = subst (λ ws. IsDirtyTable ws c.unmark.new.marks rows) (sym written) table in
    subst (λ ms. IsDirtyTable (with_items words c.clear_bit.new.words).items ms rows) (sym (with_items_is marks c.unmark.new.marks (marks_size ∙ sym marks.ok.0))) half

pub returns-clause-cells : goal.returns-clause-cells
returns-clause-cells c =
    let words = c.self.inside.words in
    let at = 8 * c.args.r + c.args.d in
    let size = c.clear_bit.ensures.length ∙ ap length c.deref_mut.ensures.value in
    let written = with_items_is words c.clear_bit.new.words (size ∙ sym words.ok.0) in
    rw (← c.self.view_is) (cell_changed words.items _ c.self.inside.marks.items _ c.self.inside.rows c.args.r c.args.d false c.self.invariant (invariant_of-self c) c.requires.disk
    (λ k. ap (λ (ws : List ℕ). bit_in ws k) written ∙ c.clear_bit.ensures.bits k ∙ ap (λ (ws : List ℕ). if k == at then false else bit_in ws k) c.deref_mut.ensures.value))
