use Rattle.std.specs.Prelude.{ℕ, ◌+◌, ◌*◌, ◌/◌, ◌<◌, ◌==◌, true, if◌then◌else◌, List, length, get_or}
use Rattle.std.proofs.Common.{arith, ap, sym, subst, ◌∙◌}
use Rattle.std.proofs.lemmas.List.{with_items_is}
use Rattle.std.specs.Vec.{with_items}
use Rattle.paraid_dirty.specs.Bits.{bit_in}
use Rattle.paraid_dirty.specs.Table.{IsDirtyTable}
use Rattle.paraid_dirty.proofs.TableLemmas.{cell_changed, cell_room, rows_length, set_table}
use Rattle.paraid_dirty.proofs.table.DirtyTable.set.Goals as goal

pub set_bit-requires : goal.set_bit-requires
set_bit-requires c =
    let words = c.self.inside.words.items in
    let row : c.args.r < c.self.inside.rows = omega (arith, ap length c.self.view_is, rows_length words c.self.inside.rows, c.requires.row) in
    rw c.deref_mut.ensures.value (cell_room words c.self.inside.marks.items c.self.inside.rows c.args.r c.args.d c.self.invariant row c.requires.disk).0

pub set_bit-requires-2 : goal.set_bit-requires-2
set_bit-requires-2 c =
    let words = c.self.inside.words.items in
    let row : c.args.r < c.self.inside.rows = omega (arith, ap length c.self.view_is, rows_length words c.self.inside.rows, c.requires.row) in
    rw c.deref_mut-2.ensures.value (cell_room words c.self.inside.marks.items c.self.inside.rows c.args.r c.args.d c.self.invariant row c.requires.disk).1

pub invariant_of-self : goal.invariant_of-self
invariant_of-self c =
    let words = c.self.inside.words in
    let marks = c.self.inside.marks in
    let rows = c.self.inside.rows in
    let at = 8 * c.args.r + c.args.d in
    let row : c.args.r < rows = omega (arith, ap length c.self.view_is, rows_length words.items rows, c.requires.row) in
    let size = c.set_bit.ensures.length ∙ ap length c.deref_mut.ensures.value in
    let marks_size = c.set_bit-2.ensures.length ∙ ap length c.deref_mut-2.ensures.value in
    let table = set_table words.items c.set_bit.new.words marks.items c.set_bit-2.new.words rows c.args.r c.args.d c.self.invariant row c.requires.disk
    size (λ k. c.set_bit.ensures.bits k ∙ ap (λ (ws : List ℕ). if k == at then true else bit_in ws k) c.deref_mut.ensures.value)
    (λ w other. c.set_bit.ensures.others w other ∙ ap (λ (ws : List ℕ). get_or ws w 0) c.deref_mut.ensures.value)
    marks_size (λ k. c.set_bit-2.ensures.bits k ∙ ap (λ (ws : List ℕ). if k == c.args.r / 8 then true else bit_in ws k) c.deref_mut-2.ensures.value) in
    let first : List ℕ → Type 0 = λ ws. IsDirtyTable ws c.set_bit-2.new.words rows in
    let half = subst first (sym (with_items_is words c.set_bit.new.words (size ∙ sym words.ok.0))) table in
    subst (λ ms. IsDirtyTable (with_items words c.set_bit.new.words).items ms rows) (sym (with_items_is marks c.set_bit-2.new.words (marks_size ∙ sym marks.ok.0))) half

pub returns-clause-cells : goal.returns-clause-cells
returns-clause-cells c =
    let words = c.self.inside.words in
    let at = 8 * c.args.r + c.args.d in
    let size = c.set_bit.ensures.length ∙ ap length c.deref_mut.ensures.value in
    let written = with_items_is words c.set_bit.new.words (size ∙ sym words.ok.0) in
    rw (← c.self.view_is) (cell_changed words.items _ c.self.inside.marks.items _ c.self.inside.rows c.args.r c.args.d true c.self.invariant (invariant_of-self c) c.requires.disk
    (λ k. ap (λ (ws : List ℕ). bit_in ws k) written ∙ c.set_bit.ensures.bits k ∙ ap (λ (ws : List ℕ). if k == at then true else bit_in ws k) c.deref_mut.ensures.value))
