use Rattle.std.proofs.Common.{length, set, ap, sym, ◌∙◌, subst, is_ok, Bool}
use Rattle.std.proofs.lemmas.List.{length-set}
use Rattle.paraid_rack.specs.Slots.{Slot, ChangesOneSlot}
use Rattle.paraid_gather.specs.Waiting.{Waiting, Fits, run_of, waiting_at, waits}
use Rattle.paraid_gather.specs.Above.{TellsOut, slot_above}
use Rattle.paraid_gather.specs.Bulk.{left_by}
use Rattle.paraid_gather.proofs.StandsLemmas.{out_above, stands_written}
use Rattle.paraid_gather.proofs.WholeLemmas.{does_whole, disk_within, set_other, set_same, waiting_here, with_this, with_new}
use Rattle.paraid_gather.proofs.gathered.Gathered.write_out.Goals as goal

pub write_out-result-requires-clause-fits : goal.write_out-result-requires-clause-fits
write_out-result-requires-clause-fits g c =
    let gathered = c.args.self.now in
    let within = disk_within _ c.args.disk (length gathered.runs.items) c.requires.exists (g.met.R.Rack.slots_hold gathered.rack).few gathered.eight in
    subst (λ (v : Waiting). Fits (g.R.Rack.slot gathered.rack c.args.disk) v) (waiting_here gathered.runs.items c.args.disk c.index_mut.result.now within c.index_mut.ensures.value) (gathered.fits c.args.disk)

pub invariant_of-self : goal.invariant_of-self
invariant_of-self g c =
    let gathered = c.args.self.now in
    let runs = gathered.runs.items in
    let d = c.args.disk in
    let y = c.index_mut.result.now in
    let x = c.write_out-result.new.run in
    let ok = is_ok c.write_out-result.result in
    let within = disk_within _ d (length runs) c.requires.exists (g.met.R.Rack.slots_hold gathered.rack).few gathered.eight in
    let whole = does_whole g.R.Rack gathered.rack c.write_out-result.new.rack d (run_of y) (run_of x) (waiting_at runs) (waiting_at (set runs d x)) (λ (z : Slot). z) (λ (z : Slot). z.unsynced) ok (left_by ok d)
    (with_this runs d y within c.index_mut.ensures.value) (with_new runs d x within) (waiting_here runs d y within c.index_mut.ensures.value) gathered.fits c.write_out-result.ensures.does in
    record {
      eight = length-set _ _ _ ∙ gathered.eight;
      fits = whole.fits;
      stands = stands_written g.R.Rack gathered.rack c.write_out-result.new.rack d (waiting_at runs) (waiting_at (set runs d x)) (g.L.Noted.noted gathered.log) (g.L.Noted.noted c.note_out.new.log) (g.met.R.Rack.agrees c.write_out-result.new.rack) gathered.stands
          ok c.write_out-result.ensures.power_calls whole c.requires.spinning (subst (λ (v : Bool). TellsOut v d (g.L.Noted.noted gathered.log) (g.L.Noted.noted c.note_out.new.log)) c.is_ok.ensures.value c.note_out.ensures.told);
    }

pub returns : goal.returns
returns g c =
    let gathered = c.args.self.now in
    let runs = gathered.runs.items in
    let d = c.args.disk in
    let y = c.index_mut.result.now in
    let x = c.write_out-result.new.run in
    let ok = is_ok c.write_out-result.result in
    let within = disk_within _ d (length runs) c.requires.exists (g.met.R.Rack.slots_hold gathered.rack).few gathered.eight in
    let whole = does_whole g.R.Rack gathered.rack c.write_out-result.new.rack d (run_of y) (run_of x) (waiting_at runs) (waiting_at (set runs d x)) (λ (z : Slot). z) (λ (z : Slot). z.unsynced) ok (left_by ok d)
    (with_this runs d y within c.index_mut.ensures.value) (with_new runs d x within) (waiting_here runs d y within c.index_mut.ensures.value) gathered.fits c.write_out-result.ensures.does in
    let here = waiting_here runs d y within c.index_mut.ensures.value in
    record {
      slots = whole.slots;
      slot = whole.slot;
      above = whole.told;
      told = out_above g.R.Rack gathered.rack c.write_out-result.new.rack d (waiting_at runs) (waiting_at (set runs d x)) (g.L.Noted.noted gathered.log) (g.L.Noted.noted c.note_out.new.log) ok whole
          (subst (λ (v : Bool). TellsOut v d (g.L.Noted.noted gathered.log) (g.L.Noted.noted c.note_out.new.log)) c.is_ok.ensures.value c.note_out.ensures.told);
      noted = subst (λ (v : Bool). TellsOut v d (g.L.Noted.noted gathered.log) (g.L.Noted.noted c.note_out.new.log)) c.is_ok.ensures.value c.note_out.ensures.told;
      power_calls = c.write_out-result.ensures.power_calls;
      empty = λ is. ap waits (set_same runs d x within) ∙ c.write_out-result.ensures.empty is;
      others = set_other runs d x within;
      waited = λ is. ap waits here ∙ c.write_out-result.ensures.waited is;
      below = subst (λ (v : Waiting). ChangesOneSlot (g.R.Rack.slot gathered.rack) (g.R.Rack.slot c.write_out-result.new.rack) d (slot_above (g.R.Rack.slot gathered.rack d) v) (slot_above (g.R.Rack.slot gathered.rack d) v).unsynced ok) (sym here) c.write_out-result.ensures.slot;
      log = λ is. c.note_out.ensures.same (c.is_ok.ensures.value ∙ is);
      idle = λ none. c.write_out-result.ensures.idle (ap waits (sym here) ∙ none);
    }
