-- A session between two events.
use Rattle.std.specs.Prelude.{ℕ, ◌≤◌}
use Rattle.paraid_record.specs.declared.meta.Setup.{Setup}
use Rattle.paraid_image.specs.Out.{named_out}
use Rattle.paraid_session.specs.Turn.{IsMark, Point, bounds_at}
use Rattle.paraid_session.specs.Watch.{HoldsWhileServing, Watch, down_from_out}
use Rattle.paraid_base.specs.Told.{counter_most}

-- the watch between two events
abbrev pub watch_at : Point → Watch
watch_at p = record {
  disks = p.disks;
  down = down_from_out (named_out p.state.out);
  spun = p.spun;
  awaited = p.awaited;
}

-- what an array gives of a point at which it stands
pub record IsResting (slots : ℕ) (setup : Setup) (p : Point) : Type 0 where
  pub mark : IsMark slots setup p
  pub kept : HoldsWhileServing slots p.history p.low (bounds_at setup p p.state) (watch_at p)
  pub energy : p.energy ≤ counter_most
