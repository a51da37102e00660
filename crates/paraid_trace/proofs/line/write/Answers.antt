use Rattle.std.proofs.Common.{◌+◌, ◌<◌, ◌≤◌, ◌∙◌, ap, arith, drop, length, sym}
use Rattle.paraid_trace.specs.LineEvents.{group_of, write_of}
use Rattle.paraid_trace.proofs.GroupSteps.{first_none, midway_end, midway_first, midway_full, midway_more, midway_none, room_left, to_end}
use Rattle.std.proofs.lemmas.Bool.{false≢true}
use Rattle.std.proofs.lemmas.List.{length-drop}
use Rattle.paraid_trace.proofs.line.write.Goals as goal

pub returns-in_default : goal.returns-in_default
returns-in_default c = sym (ap write_of (first_none c.args.text.now c.in_default.ensures.group))

pub loop-end-init : goal.loop-end-init
loop-end-init c = record {
  midway = midway_first c.args.text.now _ c.keep_first.new.self c.in-Some.ensures.group c.keep_first.ensures.pairs c.keep_first.ensures.count;
  within = c.in-Some.ensures.within;
}

pub returns-then-is_full : goal.returns-then-is_full
returns-then-is_full c = sym (ap write_of (midway_full c.args.text.now c.loop-end.pairs c.loop-end.end c.loop-end.invariant.midway (let before = c.loop-end-test.true in omega (arith, before)) (c.is_full.ensures.0 c.if-is_full.true)))

pub returns-in_default-group : goal.returns-in_default-group
returns-in_default-group c =
    let few = c.loop-end.pairs.few in
    let room : c.loop-end.pairs.count < 8 = room_left _ few (λ full. false≢true (sym c.if-is_full.false ∙ c.is_full.ensures.1 full)) in
    sym (ap write_of (midway_none c.args.text.now c.loop-end.pairs c.loop-end.end c.loop-end.invariant.midway (let before = c.loop-end-test.true in omega (arith, before)) room (ap group_of (sym (to_end (c.loop-end.end + 1) c.args.text.now)) ∙ c.in_default-group.ensures.group)))

pub loop-end-preserved : goal.loop-end-preserved
loop-end-preserved c =
    let few = c.loop-end.pairs.few in
    let before = c.loop-end-test.true in
    let inside : c.in-Some-group.length ≤ length (drop (c.loop-end.end + 1) c.args.text.now) = rw (to_end (c.loop-end.end + 1) c.args.text.now) at c.in-Some-group.ensures.within in
    let long = length-drop (c.loop-end.end + 1) c.args.text.now in
    let room : c.loop-end.pairs.count < 8 = room_left _ few (λ full. false≢true (sym c.if-is_full.false ∙ c.is_full.ensures.1 full)) in
    record {
      midway = midway_more c.args.text.now c.loop-end.pairs c.add.new.self c.loop-end.end _ _ c.loop-end.invariant.midway (omega (arith, before)) room (ap group_of (sym (to_end (c.loop-end.end + 1) c.args.text.now)) ∙ c.in-Some-group.ensures.group) c.add.ensures.pairs c.add.ensures.count (omega arith);
      within = omega (arith, before, inside, long);
    }

pub returns : goal.returns
returns c = sym (midway_end c.args.text.now c.loop-end.pairs c.loop-end.end c.loop-end.invariant.midway (let past = c.loop-end-test.false in omega (arith, past)))
