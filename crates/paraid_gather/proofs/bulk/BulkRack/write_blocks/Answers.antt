use Rattle.std.proofs.Common.{◌-◌, [], Some, sym, ◌∙◌, ap, arith}
use Rattle.std.proofs.lemmas.Option.{slice_get-get_or}
use Rattle.paraid_gather.proofs.BulkLemmas.{waiting_before, waiting_listed, waiting_within, written_calls, written_failed_calls, written_more, written_none}
use Rattle.paraid_gather.proofs.bulk.BulkRack.write_blocks.Goals as goal

pub loop-place-init : goal.loop-place-init
loop-place-init g c =
    let first = c.args.first in
    let blocks = c.args.blocks.now in
    (omega arith, omega arith, written_none c.args.disk (record { first = first; blocks = blocks }) g.Self.Rack c.args.self.now (waiting_before first blocks))

pub loop-place-preserved : goal.loop-place-preserved
loop-place-preserved g c =
    let first = c.args.first in
    let blocks = c.args.blocks.now in
    let k = c.loop-place.place in
    let it = c.loop-place.invariant in
    let below = c.in-Some.ensures.lookup.3.0 in
    let got = slice_get-get_or blocks (k - first) [] below ∙ ap Some (sym (c.in-Some.ensures.lookup.3.1 [])) in
    let here = waiting_listed first blocks k c.in-Some.bytes.now it.0 got ∙ ap Some (sym c.from_array.ensures) in (
      omega (arith, it.0),
      omega (arith, it.0, below),
      written_more c.args.disk (record { first = first; blocks = blocks }) g.Self.Rack c.args.self.now c.loop-place.self c.write.new.self k c.from_array.result it.2 here c.in-Ok.ensures.slots c.in-Ok.ensures.slot c.in-Ok.ensures.told,
    )

pub returns-in_default-clause-told : goal.returns-in_default-clause-told
returns-in_default-clause-told g c =
    let first = c.args.first in
    let blocks = c.args.blocks.now in
    let k = c.loop-place.place in
    let it = c.loop-place.invariant in
    let all = c.in_default.ensures.lookup.3 in
    written_calls c.args.disk (record { first = first; blocks = blocks }) g.Self.Rack c.args.self.now c.loop-place.self k it.2 (λ p b is. let below = waiting_within first blocks p b is in omega (arith, all, below, it.0))

pub returns-in_default-write-clause-told : goal.returns-in_default-write-clause-told
returns-in_default-write-clause-told g c =
    let first = c.args.first in
    let blocks = c.args.blocks.now in
    let k = c.loop-place.place in
    let it = c.loop-place.invariant in
    let got = slice_get-get_or blocks (k - first) [] c.in-Some.ensures.lookup.3.0 ∙ ap Some (sym (c.in-Some.ensures.lookup.3.1 [])) in
    let here = waiting_listed first blocks k c.in-Some.bytes.now it.0 got ∙ ap Some (sym c.from_array.ensures) in
    written_failed_calls c.args.disk (record { first = first; blocks = blocks }) g.Self.Rack c.args.self.now c.loop-place.self c.write.new.self k c.from_array.result it.2 here c.in_default-write.ensures.slots c.in_default-write.ensures.told

pub returns-clause-told : goal.returns-clause-told
returns-clause-told g c =
    let first = c.args.first in
    let blocks = c.args.blocks.now in
    let k = c.loop-place.place in
    let it = c.loop-place.invariant in
    written_calls c.args.disk (record { first = first; blocks = blocks }) g.Self.Rack c.args.self.now c.loop-place.self k it.2
    (λ p b is. let below = waiting_within first blocks p b is in omega (arith, below, c.loop-place-test.false, c.size-place-end.ensures, c.requires.within))
