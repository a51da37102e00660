-- Which meta stands at each moment of a mount, in each image that is looked at.
use Rattle.std.specs.Prelude.{◌≡◌, ℕ, ◌≤◌, ◌⊎◌, false, Option, Some}
use Rattle.paraid_base.specs.History.{History}
use Rattle.paraid_rack.specs.Disks.{Disks, is_present}
use Rattle.paraid_rack.specs.Told.{Ran}
use Rattle.paraid_rack.specs.Trail.{Trail, disks, moments, now}
use Rattle.paraid_rack.specs.Calls.{IsTransfer}
use Rattle.paraid_record.specs.declared.meta.Meta.{Meta}
use Rattle.paraid_image.specs.HeldAt.{IsHeld, MayLose}
use Rattle.paraid_image.specs.Looked.{IsLooked}
use Rattle.paraid_image.specs.Out.{IsWeak}
use Rattle.paraid_image.specs.Sides.{LogState, Says}
use Rattle.paraid_image.specs.Standing.{Stands, other_log}
use Rattle.paraid_recover.specs.HeldMoments.{EndsHeld, IsAbsentSince, IsOutAtEnd}
use Rattle.paraid_recover.specs.Powers.{IsPowerCall}
use Rattle.paraid_recover.specs.RecoveryMark.{with_mark}
use Rattle.paraid_txn.specs.Resume.{IsResumable}
use Rattle.paraid_txn.specs.Uses.{EachCall}

-- In image `i` this is the meta that stood; or that of the other log disk, where the one that stood
-- is absent and could be lost from the disks as they were; or that of the commit that marks a disk,
-- or brings it to version 2.
pub data StandsForeseen (s : Disks) (x : ℕ) (said : LogState) (i : Disks) (m : Meta) : Type 0 where
  same : m ≡ said.meta → StandsForeseen s x said i m
  without : (o : LogState) → is_present (i.power x) ≡ false
      → MayLose s x → Says s (other_log x) o → m ≡ o.meta → StandsForeseen s x said i m
  marked : (mark : Option ℕ) → m ≡ with_mark said.meta mark → StandsForeseen s x said i m

-- From disks with nothing loose on which a commit was interrupted, at each moment from the one
-- record to the other such a meta stands in each image that is looked at, where one disk at most is
-- absent or was weak.
abbrev pub StandsInMoments : ℕ → ℕ → LogState → Option Trail → Option Trail → Type 0
StandsInMoments slots x said old new = (t : Trail) → new ≡ Some t → (s : Trail)
    × (old ≡ Some s) × (moments s ≤ moments t) × ((h : History) (lo m : ℕ) (was down : Option ℕ)
    → IsResumable (now s) x said → IsHeld slots (now s) h lo was → moments s ≤ m
    → m ≤ moments t → IsAbsentSince said.meta.setup.geometry.disks t (moments s) m down
    → ((w : ℕ) → IsWeak (now s) w → down ≡ Some w) → (i : Disks) (z : ℕ) (o : LogState)
    → IsLooked (disks t m) i → Stands i z o → StandsForeseen (now s) x said i o.meta)

-- From `settled` on the disks are powered by the gear, at rest under the meta that stands, which is
-- the one that stood, with version 2 or with this disk marked.
pub record IsPoweredFrom (x : ℕ) (said : LogState) (read settled new : Option Trail) : Type 0 where
  pub mark : Option ℕ
  pub rests : (slots : ℕ) → EndsHeld slots x said (with_mark said.meta mark) read settled
  pub out : IsOutAtEnd said (with_mark said.meta mark) settled
  pub calls : Ran settled new (EachCall (IsPowerCall (with_mark said.meta mark)))

-- After the reads of the log disks a meta that is foreseen stands at each moment. Up to `settled`
-- there are only reads, writes and syncs; then the disks are powered, or the mount is refused
-- before.
pub record StandsThroughMount (x : ℕ) (said : LogState) (read new : Option Trail) : Type 0 where
  pub foreseen : (slots : ℕ) → StandsInMoments slots x said read new
  pub settled : Option Trail
  pub still : Ran read settled (EachCall IsTransfer)
  pub powers : (new ≡ settled) ⊎ IsPoweredFrom x said read settled new
