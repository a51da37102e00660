use Rattle.std.proofs.Common.{arith}
use Rattle.std.proofs.lemmas.List.{append_assoc}
use Rattle.paraid_record.proofs.TargetLemmas.{places_bytes-more}
use Rattle.paraid_record.proofs.targets.put_places.Goals as goal

pub loop-target-preserved : goal.loop-target-preserved
loop-target-preserved c =
    let more = places_bytes-more c.args.targets.now c.loop-target.target-index (omega arith) in (
      rw (more, c.put_u32.ensures.value, c.put_u8.ensures.value, c.loop-target.invariant.0) (simp append_assoc),
      omega (arith, c.loop-target.invariant.1),
    )
