-- What a mount does call by call, and the spin-ups that it may make.
use Rattle.std.specs.Prelude.{◌≡◌, ℕ, ◌+◌, ◌≤◌, Bool, false, Option, slice_index}
use Rattle.paraid_rack.specs.declared.call.Call.{Call}
use Rattle.paraid_rack.specs.declared.call.Call.TheVariants.{SpinUp}
use Rattle.paraid_rack.specs.Disks.{Disks}
use Rattle.paraid_rack.specs.Lawful.{IsLawful}
use Rattle.paraid_image.specs.Calls.{is_attach}
use Rattle.paraid_image.specs.Looked.{IsLooked}
use Rattle.paraid_image.specs.Sides.{LogState}
use Rattle.paraid_image.specs.Standing.{Stands}
use Rattle.paraid_session.specs.Watch.{IsServing, Watch}
use Rattle.paraid_recover.specs.MountCalls.{IsMountCall}

-- At this moment of a mount the call is lawful by the power of its disk and attaches none; and
-- while one disk at most is down it is a call of a mount of `n` disks.
pub record MakesMountCall (n : ℕ) (gone : Option ℕ) (w : Watch) (c : Call) : Type 0 where
  pub power : IsLawful w.disks c
  pub attaches : is_attach c ≡ false
  pub serving : IsServing w.down → IsMountCall n gone c

-- all that may stand has recorded the spin-up that is asked for
pub record IsSpinUpRecorded (w : Watch) (c : Call) : Type 0 where
  pub recorded : (d : ℕ) (done : Bool) → c ≡ SpinUp d done → IsServing w.down
      → (x : ℕ) (i : Disks) (said : LogState) → IsLooked w.disks i → Stands i x said
      → w.spun d + 1 ≤ slice_index said.meta.spins d
