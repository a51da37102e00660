use Rattle.std.specs.Prelude.{ℕ, ◌+◌, ◌*◌, ◌<◌, List, length}
use Rattle.std.proofs.Common.{arith, ap, sym, ◌∙◌}
use Rattle.paraid_dirty.specs.Bits.{bit_in}
use Rattle.paraid_dirty.specs.Table.{is_dirty}
use Rattle.paraid_dirty.proofs.TableLemmas.{cell_room, is_dirty-bit, rows_length}
use Rattle.paraid_dirty.proofs.table.DirtyTable.has.Goals as goal

pub has_bit-requires : goal.has_bit-requires
has_bit-requires c =
    let words = c.self.inside.words.items in
    let row : c.args.r < c.self.inside.rows = omega (arith, ap length c.self.view_is, rows_length words c.self.inside.rows, c.requires.row) in
    rw c.deref.ensures.value (cell_room words c.self.inside.marks.items c.self.inside.rows c.args.r c.args.d c.self.invariant row c.requires.disk).0

pub returns : goal.returns
returns c =
    c.has_bit.ensures
    ∙ ap (λ (ws : List ℕ). bit_in ws (8 * c.args.r + c.args.d)) c.deref.ensures.value
    ∙ sym (is_dirty-bit c.self.inside.words.items c.self.inside.marks.items c.self.inside.rows c.args.r c.args.d c.self.invariant c.requires.disk)
    ∙ ap (λ t. is_dirty t c.args.r c.args.d) c.self.view_is
