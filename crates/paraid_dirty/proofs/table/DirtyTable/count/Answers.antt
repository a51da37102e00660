use Rattle.std.specs.Prelude.{◌≡◌, ℕ, ◌-◌, ◌*◌, ◌^◌, ◌<◌, length, get_or}
use Rattle.std.proofs.Common.{arith, ap, bit_and, sym, ◌∙◌, rules}
use Rattle.std.specs.Int.Count.{ones}
use Rattle.std.proofs.lemmas.List.{get_or_read}
use Rattle.paraid_base.specs.Sums.{sum_before}
use Rattle.paraid_base.proofs.PlacesLemmas.{sum_before_none}
use Rattle.paraid_dirty.specs.Table.{dirty_count, is_dirty, rows_of}
use Rattle.paraid_dirty.proofs.CountLemmas.{all_counted, few_ones, flat, word_counted}
use Rattle.paraid_dirty.proofs.SearchLemmas.{masked}
use Rattle.paraid_dirty.proofs.TableLemmas.{rows_length}
use Rattle.paraid_dirty.proofs.table.DirtyTable.count.Goals as goal

pub loop-at-init : goal.loop-at-init
loop-at-init c = record { counted = sym (sum_before_none (flat c.self.inside.words.items c.args.lo c.args.hi)); small = omega arith }

pub loop-at-preserved : goal.loop-at-preserved
loop-at-preserved c =
    let words = c.self.inside.words.items in
    let at = c.loop-at.at in
    let room : at < length words = search rules in
    let read : c.index.result.now ≡ get_or words at 0 = get_or_read words at c.index.result.now room c.index.ensures 0 in
    let word : bit_and c.index.result.now c.pattern-pattern.result ≡ masked words at c.args.lo c.args.hi =
    ap (bit_and c.index.result.now) c.pattern-pattern.ensures ∙ ap (λ (w : ℕ). bit_and w ((2 ^ c.args.hi - 2 ^ c.args.lo) * 72340172838076673)) read in
    let here = ap ones word in
    let more = word_counted words at c.args.lo c.args.hi c.requires.high in
    let few = few_ones words at c.args.lo c.args.hi c.requires.high in
    let counted = c.loop-at.invariant.counted in
    let small = c.loop-at.invariant.small in
    record { counted = omega arith; small = omega arith }

pub returns : goal.returns
returns c =
    let words = c.self.inside.words.items in
    let rows = c.self.inside.rows in
    let end : c.loop-at.at ≡ length words = search rules in
    c.loop-at.invariant.counted
    ∙ ap (λ (n : ℕ). sum_before (flat words c.args.lo c.args.hi) (64 * n)) end
    ∙ all_counted words c.self.inside.marks.items rows c.args.lo c.args.hi c.self.invariant c.requires.high
    ∙ ap (λ (n : ℕ). dirty_count (is_dirty (rows_of words rows)) n c.args.lo c.args.hi) (sym (rows_length words rows))
    ∙ ap (λ t. dirty_count (is_dirty t) (length t) c.args.lo c.args.hi) c.self.view_is
