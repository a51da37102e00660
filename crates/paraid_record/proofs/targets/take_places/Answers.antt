use Rattle.std.proofs.Common.{arith, ◌∙◌}
use Rattle.std.proofs.lemmas.List.{length-set}
use Rattle.paraid_record.proofs.TargetLemmas.{places_step, rest_step}
use Rattle.paraid_record.proofs.targets.take_places.Goals as goal

pub loop-at-preserved : goal.loop-at-preserved
loop-at-preserved c =
    let known = c.loop-at.invariant in
    record {
      room = omega (arith, known.room);
      long = length-set c.loop-at.list c.loop-at.at _ ∙ known.long;
      rest = rest_step c.loop-at.list c.loop-at.at _ (omega arith) known.rest;
      reads = λ ts rest' l fits e.
          let before = known.reads ts rest' l fits e in
          places_step ts c.loop-at.list rest' c.loop-at.reader c.take_u8-disk.new.self c.take_u32-place.new.self c.loop-at.at c.take_u8-disk.result c.take_u32-place.result
          (omega arith) (omega (arith, known.long)) fits c.take_u8-disk.ensures.reads c.take_u32-place.ensures.reads before.0 before.1;
    }
