use Rattle.std.specs.Prelude.{◌≡◌, ◌≤◌, ◌<◌, ℕ}
use Rattle.paraid_rack.specs.Told.{Ran}
use Rattle.paraid_recover.specs.Attached.{AreFreshDisks, fresh_slot}
use Rattle.paraid_recover.specs.Calls.{AreAttaches}
use Rattle.paraid_recover.specs.Between.{RanBetween}
use Rattle.paraid_recover.proofs.attach.attach_all.Given as goal

abbrev pub invariant-loop-disk : goal.invariant-loop-disk
invariant-loop-disk g l = record {
  slots : g.R.Rack.slot_count l.rack ≡ g.R.Rack.slot_count l.fn.rack;
  fresh : (d : ℕ) → d < l.disk → g.R.Rack.slot l.rack d ≡ fresh_slot l.size (g.R.Rack.slot l.fn.rack d);
  others : (d : ℕ) → l.disk ≤ d → g.R.Rack.slot l.rack d ≡ g.R.Rack.slot l.fn.rack d;
  attached : RanBetween (g.R.Rack.told l.fn.rack) (g.R.Rack.told l.rack) (AreFreshDisks l.disk l.size);
  calls : Ran (g.R.Rack.told l.fn.rack) (g.R.Rack.told l.rack) (λ start calls. AreAttaches l.size 0 l.disk calls);
}
