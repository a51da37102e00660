use Rattle.std.specs.Prelude.{◌≡◌, ◌+◌, ◌++◌, get_or, take}
use Rattle.std.proofs.Common.{arith}
use Rattle.std.proofs.lemmas.List.{append_assoc}
use Rattle.paraid_record.specs.Spelling.{big_endian, shorts}
use Rattle.paraid_record.proofs.SpellingLemmas.{shorts-more}
use Rattle.paraid_record.proofs.write.put_shorts.Goals as goal

pub loop-value-preserved : goal.loop-value-preserved
loop-value-preserved c =
    let more = shorts-more c.args.values.now c.loop-value.value-index (omega arith) in
    let written : c.put_u16.new.self ≡ c.args.pen.now ++ shorts (take (c.loop-value.value-index + 1) c.args.values.now) =
    rw (more, c.put_u16.ensures.value, c.loop-value.invariant.0) (append_assoc c.args.pen.now (shorts (take c.loop-value.value-index c.args.values.now)) (big_endian 2 (get_or c.args.values.now c.loop-value.value-index 0))) in
    (written, omega (arith, c.loop-value.invariant.1))
