use Rattle.std.specs.Prelude.{◌≡◌, ◌≢◌}
use Rattle.std.proofs.Common.{ap, subst, sym, ◌∙◌}
use Rattle.std.proofs.lemmas.Bool.{false≢true}
use Rattle.paraid_record.specs.declared.meta.Meta.{Meta}
use Rattle.paraid_record.specs.Meta.{meta_bytes}
use Rattle.paraid_record.specs.Range.{IsInRange}
use Rattle.paraid_record.proofs.PartLemmas.{holds_if_none, meta-parts, not_some, same_some}
use Rattle.paraid_record.proofs.read.read_meta.Goals as goal
use Rattle.paraid_record.proofs.read.read_meta.Goals.{else-is_in_range-via-then-is_in_range+else-is_spelling, else-is_in_range-via-else-is_in_range}

pub returns-in_err-meta-clause-none : goal.returns-in_err-meta-clause-none
returns-in_err-meta-clause-none c =
    let none : (m : Meta) → IsInRange m → c.args.block.now.bytes ≢ meta_bytes m = λ m range e.
    not_some _ m (c.take_meta.ensures m _ range (c.new.ensures ∙ c.as_slice.ensures.value ∙ e ∙ meta-parts m)) c.in_err-meta.was in
    holds_if_none _ _ none

pub returns-else-is_in_range-clause-none : goal.returns-else-is_in_range-clause-none
returns-else-is_in_range-clause-none c = λ m range e.
    let read = c.take_meta.ensures m _ range (c.new.ensures ∙ c.as_slice.ensures.value ∙ e ∙ meta-parts m) in
    let same : m ≡ c.in_ok-meta.meta = same_some _ _ _ read c.in_ok-meta.was in
    elim c.else-is_in_range.branch [
      | else-is_in_range-via-then-is_in_range+else-is_spelling w ↦
          false≢true (sym w.if-is_spelling.false ∙ w.is_spelling.ensures.1 (e ∙ ap meta_bytes same))
      | else-is_in_range-via-else-is_in_range w ↦
          (let P : Meta → Type 0 = λ n. IsInRange n in
          false≢true (sym w.if-is_in_range.false ∙ c.is_in_range.ensures.1 (subst P same range)))
    ]

pub returns-in_err-meta-clause-value : goal.returns-in_err-meta-clause-value
returns-in_err-meta-clause-value c = λ m range e.
    absurd (not_some _ m (c.take_meta.ensures m _ range (c.new.ensures ∙ c.as_slice.ensures.value ∙ e ∙ meta-parts m)) c.in_err-meta.was)

pub returns-then-is_spelling-clause-value : goal.returns-then-is_spelling-clause-value
returns-then-is_spelling-clause-value c = λ m range e.
    let was = c.in_ok-meta.was in
    sym was ∙ c.take_meta.ensures m _ range (c.new.ensures ∙ c.as_slice.ensures.value ∙ e ∙ meta-parts m)

pub returns-else-is_in_range-clause-value : goal.returns-else-is_in_range-clause-value
returns-else-is_in_range-clause-value c = λ m range e. absurd (returns-else-is_in_range-clause-none c m range e)

pub returns-then-is_spelling-clause-some : goal.returns-then-is_spelling-clause-some
returns-then-is_spelling-clause-some c = (c.is_in_range.ensures.0 c.if-is_in_range.true, c.is_spelling.ensures.0 c.if-is_spelling.true)

pub is_spelling-requires : goal.is_spelling-requires
is_spelling-requires c = c.is_in_range.ensures.0 c.if-is_in_range.true
