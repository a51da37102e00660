use Rattle.std.proofs.Common.{ℕ, Bool, IsSome, length, sym, subst, is_ok}
use Rattle.paraid_rack.specs.declared.call.Call.TheVariants.{Read}
use Rattle.paraid_rack.specs.Slots.{Slot}
use Rattle.paraid_rack.specs.Disks.{step}
use Rattle.paraid_rack.specs.Told.{GrowsByCall}
use Rattle.paraid_rack.specs.Trail.{now}
use Rattle.paraid_gather.specs.Above.{IsAbove}
use Rattle.paraid_gather.specs.Laws.{both_told}
use Rattle.paraid_gather.specs.Waiting.{Waiting, Fits, run_of, waiting, waiting_at}
use Rattle.paraid_gather.proofs.StandsLemmas.{grows_above, stands_read}
use Rattle.paraid_gather.proofs.WholeLemmas.{does_whole, disk_within, waiting_here, with_this, on_ok}
use Rattle.paraid_gather.proofs.gathered.GatheredRack.read.Goals as goal

pub read-result-requires-clause-fits : goal.read-result-requires-clause-fits
read-result-requires-clause-fits g c =
    let gathered = c.args.self.now in
    let within = disk_within _ c.args.disk (length gathered.runs.items) c.requires.exists (g.met.R.Rack.slots_hold gathered.rack).few gathered.eight in
    subst (λ (v : Waiting). Fits (g.R.Rack.slot gathered.rack c.args.disk) v) (waiting_here gathered.runs.items c.args.disk c.index.result.now within c.index.ensures) (gathered.fits c.args.disk)

pub invariant_of-self : goal.invariant_of-self
invariant_of-self g c =
    let gathered = c.args.self.now in
    let runs = gathered.runs.items in
    let d = c.args.disk in
    let y = c.index.result.now in
    let ok = is_ok c.read-result.result in
    let within = disk_within _ d (length runs) c.requires.exists (g.met.R.Rack.slots_hold gathered.rack).few gathered.eight in
    let whole = does_whole g.R.Rack gathered.rack c.read-result.new.rack d (run_of y) (run_of y) (waiting_at runs) (waiting_at runs) (λ (z : Slot). z) (λ (z : Slot). z.unsynced) ok (step (Read d c.args.place ok))
    (with_this runs d y within c.index.ensures) (with_this runs d y within c.index.ensures) (waiting_here runs d y within c.index.ensures) gathered.fits c.read-result.ensures.does in
    record {
      eight = gathered.eight;
      fits = whole.fits;
      stands = stands_read g.R.Rack gathered.rack c.read-result.new.rack d (waiting_at runs) (waiting_at runs) (g.L.Noted.noted gathered.log) (g.L.Noted.noted c.note.new.self) (g.met.R.Rack.agrees c.read-result.new.rack) gathered.stands
          c.args.place ok c.read-result.ensures.power_calls whole c.requires.spinning (subst (λ (x : Bool). GrowsByCall (g.L.Noted.noted gathered.log) (g.L.Noted.noted c.note.new.self) (Read d c.args.place x)) c.is_ok-done.ensures.value c.note.ensures);
    }

pub returns : goal.returns
returns g c =
    let gathered = c.args.self.now in
    let runs = gathered.runs.items in
    let d = c.args.disk in
    let y = c.index.result.now in
    let ok = is_ok c.read-result.result in
    let within = disk_within _ d (length runs) c.requires.exists (g.met.R.Rack.slots_hold gathered.rack).few gathered.eight in
    let whole = does_whole g.R.Rack gathered.rack c.read-result.new.rack d (run_of y) (run_of y) (waiting_at runs) (waiting_at runs) (λ (z : Slot). z) (λ (z : Slot). z.unsynced) ok (step (Read d c.args.place ok))
    (with_this runs d y within c.index.ensures) (with_this runs d y within c.index.ensures) (waiting_here runs d y within c.index.ensures) gathered.fits c.read-result.ensures.does in
    record {
      slots = whole.slots;
      slot = whole.slot;
      told = grows_above (g.R.Rack.told gathered.rack) (g.R.Rack.told c.read-result.new.rack) (g.L.Noted.noted gathered.log) (g.L.Noted.noted c.note.new.self) (waiting_at runs) (waiting_at runs) (Read d c.args.place ok) whole.told
          (subst (λ (x : Bool). GrowsByCall (g.L.Noted.noted gathered.log) (g.L.Noted.noted c.note.new.self) (Read d c.args.place x)) c.is_ok-done.ensures.value c.note.ensures);
      bytes = on_ok c.read-result.result (λ is t told.
          let both = both_told (g.R.Rack.told gathered.rack) (g.L.Noted.noted gathered.log) t told in
          c.read-result.ensures.bytes is both.0 (waiting_at runs) (now t) both.1
          (subst (λ (f : ℕ → Waiting). IsAbove (now both.0) f (now t)) (sym (with_this runs d y within c.index.ensures)) (gathered.stands both.0 t both.1 both.2).above));
      above = whole.told;
      bytes_above = λ is t s told a. c.read-result.ensures.bytes is t (waiting_at runs) s told (subst (λ (f : ℕ → Waiting). IsAbove (now t) f s) (sym (with_this runs d y within c.index.ensures)) a);
      held = λ h. c.read-result.ensures.held (subst (λ (v : Waiting). IsSome (waiting v c.args.place)) (waiting_here runs d y within c.index.ensures) h);
    }
