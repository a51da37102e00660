-- Which targets a commit can take.
use Rattle.std.specs.Prelude.{◌≢◌, ◌<◌, ◌⊎◌, Some}
use Rattle.std.specs.List.{AllByRecursion}
use Rattle.paraid_record.specs.declared.meta.Meta.{Meta}
use Rattle.paraid_record.specs.declared.targets.Target.{Target}
use Rattle.paraid_record.specs.Targets.{IsTargetInRange}
use Rattle.paraid_base.specs.States.{gone_out}
use Rattle.paraid_image.specs.Sides.{Batch, targets}
use Rattle.paraid_image.specs.Spot.{rising_to}

-- a target in range, on a disk that is powered and not gone
pub record IsPlaced (m : Meta) (t : Target) : Type 0 where
  pub in_range : IsTargetInRange m.setup.geometry t
  pub powered : (t.disk < m.gear) ⊎ (t.disk < rising_to m.phase)
  pub not_gone : gone_out m.out ≢ Some t.disk

-- each target of a batch is at a place of the array
abbrev pub ArePlaced : Meta → Batch → Type 0
ArePlaced m batch = AllByRecursion (IsPlaced m) (targets batch)
