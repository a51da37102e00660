use Rattle.std.proofs.Common.{◌||◌, not, Bool, length, sym, ◌∙◌, ap}
use Rattle.paraid_gather.specs.Waiting.{run_of, waiting_at, waits}
use Rattle.paraid_gather.proofs.DoesLemmas.{not_not}
use Rattle.paraid_gather.proofs.WholeLemmas.{disk_within, waiting_here}
use Rattle.paraid_gather.proofs.gathered.GatheredRack.unsynced.Goals as goal

pub returns-then-unsynced : goal.returns-then-unsynced
returns-then-unsynced g c = c.if-unsynced.true ∙ ap (λ (z : Bool). z || waits (waiting_at c.args.self.now.runs.items c.args.disk)) c.if-unsynced.ensures

pub returns-else-unsynced : goal.returns-else-unsynced
returns-else-unsynced g c =
    let gathered = c.args.self.now in
    let within = disk_within _ c.args.disk (length gathered.runs.items) c.requires (g.met.R.Rack.slots_hold gathered.rack).few gathered.eight in
    ap not c.is_empty.ensures ∙ not_not (waits (run_of c.index.result.now)) ∙ ap waits (sym (waiting_here gathered.runs.items c.args.disk c.index.result.now within c.index.ensures))
    ∙ ap (λ (z : Bool). z || waits (waiting_at gathered.runs.items c.args.disk)) c.if-unsynced.ensures
