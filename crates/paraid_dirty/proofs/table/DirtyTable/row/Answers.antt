use Rattle.std.specs.Prelude.{◌≡◌, ℕ, ◌*◌, ◌/◌, ◌%◌, ◌^◌, ◌<◌, length, get_or}
use Rattle.std.proofs.Common.{ap, arith, bit_and, ◌∙◌, rules}
use Rattle.std.proofs.lemmas.List.{get_or_read}
use Rattle.paraid_dirty.specs.Bits.{bit_of}
use Rattle.paraid_dirty.specs.Table.{is_dirty}
use Rattle.paraid_dirty.proofs.TableLemmas.{row_of_word, rows_length}
use Rattle.paraid_dirty.proofs.table.DirtyTable.row.Goals as goal

pub returns : goal.returns
returns c = λ d.
    let words = c.self.inside.words.items in
    let r = c.args.r in
    let rows = ap length c.self.view_is in
    let size = rows_length words c.self.inside.rows in
    let room : r / 8 < length words = omega (arith, c.self.invariant.room, rows, size, c.requires) in
    let read : c.index.result.now ≡ get_or words (r / 8) 0 = get_or_read words (r / 8) c.index.result.now room c.index.ensures 0 in
    ap (λ (x : ℕ). bit_of (bit_and (x / 2 ^ (8 * (r % 8))) 255) d) read
    ∙ row_of_word words c.self.inside.marks.items c.self.inside.rows r d c.self.invariant
    ∙ ap (λ t. is_dirty t r d) c.self.view_is

pub index-requires : goal.index-requires
index-requires c =
    let words = c.self.inside.words.items in
    let rows = ap length c.self.view_is in
    let size = rows_length words c.self.inside.rows in
    let room : c.args.r / 8 < length words = omega (arith, c.self.invariant.room, rows, size, c.requires) in
    search (rules, room)
