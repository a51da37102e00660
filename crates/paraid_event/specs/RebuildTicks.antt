-- What an array counts itself of a tick that rebuilds a disk.
use Rattle.std.specs.Prelude.{◌≡◌, ℕ}
use Rattle.paraid_base.specs.declared.state.Out.TheVariants.{Fresh}
use Rattle.paraid_image.specs.Mark.{meta_after_loss}
use Rattle.paraid_core.specs.CoreInvariant.{AreCopiesSynced}
use Rattle.paraid_moves.specs.MoveMetas.{meta_with_out}
use Rattle.paraid_event.specs.Service.{Service}
use Rattle.paraid_event.specs.Ticks.{CountsTick}
use Rattle.paraid_event.specs.Upshift.{IsCountedAs}

-- The tick is counted. After it the counts and the dirty cells are as they were then.
pub record CountsRebuild (k counted k_then : Service) : Type 0 where
  pub counts : CountsTick k counted
  pub counts_then : IsCountedAs counted k_then
  pub energy : k_then.energy ≡ counted.energy
  pub copies_synced : AreCopiesSynced k_then.meta.setup.geometry.disks k_then.copied

-- The units of disk `d` before `end` are rebuilt, and the marks are as they were but for that.
pub record MarksRebuilt (k k_then : Service) (d end : ℕ) : Type 0 where
  pub is : k_then.meta ≡ record (meta_with_out k.meta (Fresh d end)) {
    epoch = k_then.meta.epoch;
    writes = k_then.meta.writes;
  }

-- Disk `d` is marked as gone.
pub record MarksGoneAgain (k k_then : Service) (d : ℕ) : Type 0 where
  pub is : k_then.meta
      ≡ record (meta_after_loss k.meta d) { epoch = k_then.meta.epoch; writes = k_then.meta.writes }
