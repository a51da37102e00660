use Rattle.std.proofs.Common.{arith, refl}
use Rattle.paraid_trace.proofs.RepeatsLemmas.{replicate_small}
use Rattle.paraid_trace.proofs.hexes.fill_with.Goals as goal

pub way_repeat-into : goal.way_repeat-into
way_repeat-into c = (refl, (replicate_small 512 c.args.byte c.ranges.byte.fits, tt))
