use Rattle.std.proofs.Common.{arith, refl}
use Rattle.std.specs.Prelude.{codes}
use Rattle.paraid_volume_lines.specs.Grammar.{init}
use Rattle.paraid_service.specs.VolumeForms.IsReplyToLine.{is_small as reply_small}
use Rattle.paraid_service.specs.VolumeLines.LineStep.{is_small}
use Rattle.paraid_service.proofs.ShelfLemmas.{on_bare, on_begun, on_refused}
use Rattle.paraid_service.proofs.shelf.begin_table.Goals as goal

pub returns-then-count-lt7 : goal.returns-then-count-lt7
returns-then-count-lt7 g c = on_bare g.B.Blocks c.args.blocks init (codes "small") c.tell_word.new.into c.tell_word.ensures (reply_small (let small = c.if-count-lt7.true in let is = c.blocks-count.ensures in omega (arith, small, is)))
    (is_small refl (let small = c.if-count-lt7.true in let is = c.blocks-count.ensures in omega (arith, small, is)))

pub returns-in-Ok : goal.returns-in-Ok
returns-in-Ok g c =
    let e = c.in-Ok.ensures in
    let is = c.blocks-count.ensures in
    on_begun g.B.Blocks c.args.blocks c.in-Ok.volumes c.tell_begun.new.into (let large = c.if-count-lt7.false in omega (arith, large, is)) e.ok e.went e.grown e.empty e.events (rw (c.extent_count.ensures.value, c.extent_size.ensures.value, is) at c.tell_begun.ensures) e.lived

pub returns-in-Err : goal.returns-in-Err
returns-in-Err g c =
    let e = c.in-Err.ensures in
    rw c.leave.ensures (on_refused g.B.Blocks c.args.blocks c.in-Err.refused.blocks c.in-Err.refused.fault c.tell_fault.new.into (let large = c.if-count-lt7.false in let is = c.blocks-count.ensures in omega (arith, large, is)) e.went_refused e.grown_refused e.found c.tell_fault.ensures e.refused)
