use Rattle.paraid_array.specs.Arrays.{slot_of_array}
use Rattle.paraid_array.specs.Laws.{begins_as}
use Rattle.paraid_session.proofs.FaultLemmas.{no_fall_counts}
use Rattle.paraid_program.proofs.arrays.ArraysOutsideArray.mount.Goals as goal

pub returns-in-Ok-clause-later : goal.returns-in-Ok-clause-later
returns-in-Ok-clause-later g c = no_fall_counts (g.R.Rack.slot c.args.rack) (slot_of_array g.R.Rack.slot c.in-Ok.array) c.in-Ok.ensures.later

pub returns-in-Ok-clause-served : goal.returns-in-Ok-clause-served
returns-in-Ok-clause-served g c =
    let it = c.in-Ok.ensures.served in
    record { epoch = _; disks = _; named = _; rows = _; servable = it.servable; mounted = it.mounted; session = it.session }

pub returns-in-Ok-clause-shown : goal.returns-in-Ok-clause-shown
returns-in-Ok-clause-shown g c = begins_as g.R.Rack.slot c.in-Ok.array c.in-Ok.ensures.setup c.in-Ok.ensures.counts.energy c.in-Ok.ensures.going c.in-Ok.ensures.counts.samples c.in-Ok.ensures.counts.requests c.in-Ok.ensures.nothing
