use Rattle.std.specs.Prelude.{ℕ, ◌≡◌, ◌<◌, ◌≤◌, ◌+◌, ◌*◌, ◌/◌, length, get_or}
use Rattle.std.proofs.Common.{ap, arith, ◌∙◌, rules, List}
use Rattle.std.specs.Int.{to_le_bytes, w64}
use Rattle.std.proofs.lemmas.List.{get_or_read}
use Rattle.paraid_dirty.specs.Bits.{bit_of}
use Rattle.paraid_dirty.specs.Table.{is_dirty}
use Rattle.paraid_dirty.proofs.TableLemmas.{row_of_byte, row_past, zeros_read}
use Rattle.paraid_dirty.proofs.table.DirtyTable.eight_rows.Goals as goal

pub returns-then-at-len-clause-bits : goal.returns-then-at-len-clause-bits
returns-then-at-len-clause-bits c = λ k d lt.
    let words = c.self.inside.words.items in
    let room : c.args.at < length words = search rules in
    let read : c.index.result.now ≡ get_or words c.args.at 0 = get_or_read words c.args.at c.index.result.now room c.index.ensures 0 in
    ap (λ (bytes : List ℕ). bit_of (get_or bytes k 0) d) (c.to_le_bytes.ensures ∙ ap (to_le_bytes w64) read)
    ∙ row_of_byte words c.self.inside.marks.items c.self.inside.rows c.args.at k d c.self.invariant lt
    ∙ ap (λ t. is_dirty t (8 * c.args.at + k) d) c.self.view_is

pub returns-else-at-len-clause-bits : goal.returns-else-at-len-clause-bits
returns-else-at-len-clause-bits c = λ k d lt.
    let words = c.self.inside.words.items in
    let past : length words ≤ (8 * c.args.at + k) / 8 = (let size : length words ≤ c.args.at = search rules in omega arith) in
    ap (λ x. bit_of x d) (zeros_read 8 k)
    ∙ row_past words c.self.inside.marks.items c.self.inside.rows (8 * c.args.at + k) d c.self.invariant past
    ∙ ap (λ t. is_dirty t (8 * c.args.at + k) d) c.self.view_is
