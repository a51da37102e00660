use Rattle.std.proofs.Common.{Bool, true, length, set, ◌∙◌, subst, is_ok}
use Rattle.std.proofs.lemmas.List.{length-set}
use Rattle.paraid_rack.specs.declared.call.Call.TheVariants.{Write}
use Rattle.paraid_rack.specs.Slots.{Slot}
use Rattle.paraid_rack.specs.Disks.{step}
use Rattle.paraid_rack.specs.Told.{GrowsByCall}
use Rattle.paraid_gather.specs.Waiting.{Waiting, Fits, Joins, run_of, waiting_at}
use Rattle.paraid_gather.proofs.StandsLemmas.{grows_above, stands_write}
use Rattle.paraid_gather.proofs.WholeLemmas.{does_whole, disk_within, waiting_here, with_this, with_new}
use Rattle.paraid_gather.proofs.gathered.GatheredRack.write.Goals as goal

pub write-result-requires-clause-fits : goal.write-result-requires-clause-fits
write-result-requires-clause-fits g c =
    let gathered = c.args.self.now in
    let within = disk_within _ c.args.disk (length gathered.runs.items) c.requires.exists (g.met.R.Rack.slots_hold gathered.rack).few gathered.eight in
    subst (λ (v : Waiting). Fits (g.R.Rack.slot gathered.rack c.args.disk) v) (waiting_here gathered.runs.items c.args.disk c.index_mut.result.now within c.index_mut.ensures.value) (gathered.fits c.args.disk)

pub invariant_of-self : goal.invariant_of-self
invariant_of-self g c =
    let gathered = c.args.self.now in
    let runs = gathered.runs.items in
    let d = c.args.disk in
    let y = c.index_mut.result.now in
    let x = c.write-result.new.run in
    let ok = is_ok c.write-result.result in
    let within = disk_within _ d (length runs) c.requires.exists (g.met.R.Rack.slots_hold gathered.rack).few gathered.eight in
    let whole = does_whole g.R.Rack gathered.rack c.write-result.new.rack d (run_of y) (run_of x) (waiting_at runs) (waiting_at (set runs d x)) (λ (z : Slot). record z { unsynced = true }) (λ (z : Slot). true) ok (step (Write d c.args.place c.args.block.now ok))
    (with_this runs d y within c.index_mut.ensures.value) (with_new runs d x within) (waiting_here runs d y within c.index_mut.ensures.value) gathered.fits c.write-result.ensures.does in
    let grows = subst (λ (v : Bool). GrowsByCall (g.L.Noted.noted gathered.log) (g.L.Noted.noted c.note_write.new.log) (Write d c.args.place c.args.block.now v)) c.is_ok.ensures.value c.note_write.ensures in
    record {
      eight = length-set _ _ _ ∙ gathered.eight;
      fits = whole.fits;
      stands = stands_write g.R.Rack gathered.rack c.write-result.new.rack d (waiting_at runs) (waiting_at (set runs d x)) (g.L.Noted.noted gathered.log) (g.L.Noted.noted c.note_write.new.log) (g.met.R.Rack.agrees c.write-result.new.rack) gathered.stands
          c.args.place c.args.block.now ok c.write-result.ensures.power_calls whole c.requires.spinning grows;
    }

pub returns : goal.returns
returns g c =
    let gathered = c.args.self.now in
    let runs = gathered.runs.items in
    let d = c.args.disk in
    let y = c.index_mut.result.now in
    let x = c.write-result.new.run in
    let ok = is_ok c.write-result.result in
    let within = disk_within _ d (length runs) c.requires.exists (g.met.R.Rack.slots_hold gathered.rack).few gathered.eight in
    let whole = does_whole g.R.Rack gathered.rack c.write-result.new.rack d (run_of y) (run_of x) (waiting_at runs) (waiting_at (set runs d x)) (λ (z : Slot). record z { unsynced = true }) (λ (z : Slot). true) ok (step (Write d c.args.place c.args.block.now ok))
    (with_this runs d y within c.index_mut.ensures.value) (with_new runs d x within) (waiting_here runs d y within c.index_mut.ensures.value) gathered.fits c.write-result.ensures.does in
    let grows = subst (λ (v : Bool). GrowsByCall (g.L.Noted.noted gathered.log) (g.L.Noted.noted c.note_write.new.log) (Write d c.args.place c.args.block.now v)) c.is_ok.ensures.value c.note_write.ensures in
    record {
      slots = whole.slots;
      slot = whole.slot;
      told = grows_above (g.R.Rack.told gathered.rack) (g.R.Rack.told c.write-result.new.rack) (g.L.Noted.noted gathered.log) (g.L.Noted.noted c.note_write.new.log) (waiting_at runs) (waiting_at (set runs d x)) (Write d c.args.place c.args.block.now ok) whole.told grows;
      above = whole.told;
      joined = λ j. c.write-result.ensures.joined (subst (λ (v : Waiting). Joins v c.args.place) (waiting_here runs d y within c.index_mut.ensures.value) j);
    }
