-- When a disk may be parked.
use Rattle.std.specs.Prelude.{◌≢◌, ℕ, ◌≤◌, Contains}
use Rattle.paraid_base.specs.declared.state.Out.TheVariants.{Fresh}
use Rattle.paraid_record.specs.declared.targets.Target.{Target}
use Rattle.paraid_image.specs.Sides.{LogState, targets}
use Rattle.paraid_image.specs.Spot.{rising_to}

-- By what a log disk says disk `d` need not spin: it is no log disk, is at or above the gear, and
-- in a shift up the new gear, is not being rebuilt, and no target is on it.
pub record MayPark (said : LogState) (d : ℕ) : Type 0 where
  pub no_log_disk : 2 ≤ d
  pub above_gear : said.meta.gear ≤ d
  pub above_new_gear : rising_to said.meta.phase ≤ d
  pub not_fresh : (rebuilt : ℕ) → said.meta.out ≢ Fresh d rebuilt
  pub no_target : (t : Target) → Contains (targets said.batch) t → t.disk ≢ d
