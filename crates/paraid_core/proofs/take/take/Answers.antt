use Rattle.std.proofs.Common.{◌<◌, length, arith}
use Rattle.paraid_core.proofs.TakeLemmas.{draft_more, next_room, none_taken}
use Rattle.paraid_core.proofs.take.take.Goals as goal

pub loop-at-init : goal.loop-at-init
loop-at-init c = record {
  taken = none_taken c.args.m.now c.args.batch.now c.requires.apart;
  names = λ d p is. is;
}

pub loop-at-preserved : goal.loop-at-preserved
loop-at-preserved c =
    let draft = c.args.draft.now in
    let test = c.loop-at-test.true in
    let count = c.count-at-end.ensures.value in
    let low : c.loop-at.at < length draft = omega arith in
    record {
      taken = draft_more c.args.m.now c.args.batch.now draft c.loop-at.batch c.take_one.new.batch c.loop-at.at c.target.result c.block.result.now low c.target.ensures c.block.ensures c.loop-at.invariant.taken c.take_one.ensures.taken;
      names = λ d p is. c.take_one.ensures.names d p (c.loop-at.invariant.names d p is);
    }

pub take_one-requires-clause-room : goal.take_one-requires-clause-room
take_one-requires-clause-room c =
    let draft = c.args.draft.now in
    let test = c.loop-at-test.true in
    let count = c.count-at-end.ensures.value in
    let low : c.loop-at.at < length draft = omega arith in
    next_room c.args.m.now c.args.batch.now draft c.loop-at.batch c.loop-at.at c.target.result low c.target.ensures c.requires.room c.loop-at.invariant.taken c.loop-at.invariant.names
