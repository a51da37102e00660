use Rattle.std.specs.Prelude.{◌≡◌, true, Some, take}
use Rattle.paraid_rack.specs.Trail.{Trail, now}
use Rattle.paraid_record.specs.Targets.{targets_of}
use Rattle.paraid_recover.specs.HeardSides.{HasReadLog}
use Rattle.paraid_image.specs.Sides.{AreBlocksLogged, stored_block, targets}
use Rattle.paraid_recover.proofs.hearing.hear_body.Given as goal

abbrev pub invariant-loop-at : goal.invariant-loop-at
invariant-loop-at g l = record {
  reads : HasReadLog g.R.Rack l.disk l.at l.fn.rack l.rack true;
  named : targets l.batch ≡ take l.at (targets_of l.places);
  logged : (t : Trail) → g.R.Rack.told l.rack ≡ Some t → AreBlocksLogged (stored_block (now t) l.disk) 4 l.batch;
}
