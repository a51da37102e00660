use Rattle.std.specs.Prelude.{Err}
use Rattle.std.proofs.Common.{◌<◌, length, ap, arith, sym, ◌∙◌}
use Rattle.std.proofs.lemmas.Bool.{eqb-true}
use Rattle.paraid_base.proofs.ToldLemmas.{HasRisen-sooner}
use Rattle.paraid_planning.proofs.GatheredLemmas.{gathered_more, missed, no_room, read_none, source_failed, too_many, took_all}
use Rattle.paraid_planning.proofs.demand.read_demand.Goals as goal

pub returns-in-Ok-Other-clause-unread : goal.returns-in-Ok-Other-clause-unread
returns-in-Ok-Other-clause-unread g c = missed c.lines.invariant.gathered _ _ c.len.result (rw c.in-Ok-Other.field-0-is at c.in-Ok-Other.ensures.heard) (c.len.ensures ∙ c.lines.demand.ok.0)

pub returns-in-Err-Source-clause-unread : goal.returns-in-Err-Source-clause-unread
returns-in-Err-Source-clause-unread g c = source_failed c.lines.invariant.gathered _ _ c.in-Err-Source.ensures.heard (HasRisen-sooner _ _ _ (omega (arith, c.lines.invariant.still)) (c.in-Err-Source.ensures.cause (ap Err c.in-Err-Source.field-0-is)))

pub returns-in-Err-TooLong-clause-unread : goal.returns-in-Err-TooLong-clause-unread
returns-in-Err-TooLong-clause-unread g c = took_all c.lines.invariant.gathered _ _ c.in-Err-TooLong.ensures.heard (c.in-Err-TooLong.ensures.too_long c.in-Err-TooLong.field-0-0 (ap Err c.in-Err-TooLong.field-0-is))

pub returns-then-len-ge-MOST_PERIODS-clause-unread : goal.returns-then-len-ge-MOST_PERIODS-clause-unread
returns-then-len-ge-MOST_PERIODS-clause-unread g c = too_many c.lines.invariant.gathered _ _ (rw c.in-Ok-Number.field-0-is at c.in-Ok-Number.ensures.heard) (omega (arith, c.if-len-ge-MOST_PERIODS.true, c.len-in-lines.ensures, c.lines.demand.ok.0))

pub lines-preserved : goal.lines-preserved
lines-preserved g c =
    let i = c.lines.invariant in
    let room : length c.lines.demand.items < 1024 = omega (arith, c.if-len-ge-MOST_PERIODS.false, c.len-in-lines.ensures, c.lines.demand.ok.0) in
    rw c.in-Ok.ensures.items (record {
      gathered = gathered_more i.gathered (rw c.in-Ok-Number.field-0-is at c.in-Ok-Number.ensures.heard) c.in-Ok-Number.ensures.goes_on room;
      still = c.in-Ok-Number.ensures.still (λ is. cc) ∙ i.still;
    })

pub returns-in_default-clause-unread : goal.returns-in_default-clause-unread
returns-in_default-clause-unread g c = no_room c.lines.invariant.gathered _ _ c.in-Ok-Number.ensures.heard

pub returns-then-is_empty-clause-unread : goal.returns-then-is_empty-clause-unread
returns-then-is_empty-clause-unread g c = read_none c.lines.invariant.gathered _ _ (rw c.in-Ok-End.field-0-is at c.in-Ok-End.ensures.heard) (omega (arith, eqb-true _ _ (sym c.is_empty.ensures ∙ c.if-is_empty.true), c.lines.demand.ok.0))
