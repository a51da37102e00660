-- What the end of a mount keeps of what stood before it.
use Rattle.std.specs.Prelude.{◌≡◌, ℕ, ◌<◌, ◌≤◌, Option, Some}
use Rattle.paraid_base.specs.History.{History}
use Rattle.paraid_rack.specs.Trail.{Trail, disks, moments, now}
use Rattle.paraid_record.specs.declared.meta.Meta.{Meta}
use Rattle.paraid_image.specs.HeldAt.{IsHeld}
use Rattle.paraid_image.specs.Out.{IsWeak}
use Rattle.paraid_image.specs.Power.{initial_state}
use Rattle.paraid_image.specs.Sides.{LogState, closed_over}
use Rattle.paraid_recover.specs.HeldMoments.{IsAbsentSince}
use Rattle.paraid_recover.specs.RecoveryMark.{to_mark}
use Rattle.paraid_txn.specs.Resume.{IsResumable}

-- This is what the meta has to mark, by the powers at one of the moments from the one record to the
-- other.
abbrev pub IsMarkAtMoment : Meta → Option ℕ → Option Trail → Option Trail → Type 0
IsMarkAtMoment m mark old new = (t : Trail) → new ≡ Some t → (s : Trail) × (old ≡ Some s)
    × (k : ℕ) × (moments s ≤ k) × (k ≤ moments t) × (mark ≡ to_mark (disks t k).power m)

-- This is what the meta has to mark, by the powers where the record ends.
abbrev pub IsMarkAtEnd : Meta → Option ℕ → Option Trail → Type 0
IsMarkAtEnd m mark end = (t : Trail) → end ≡ Some t → mark ≡ to_mark (now t).power m

-- From disks with nothing loose on which a commit was interrupted to a rest under this meta, the
-- cells that are shown as dirty stay, where one disk at most is absent or was weak.
abbrev pub KeepsDirty : ℕ → ℕ → LogState → Meta → Option Trail → Option Trail → Type 0
KeepsDirty slots x said m old new = (t : Trail)
    → new ≡ Some t → (s : Trail) × (old ≡ Some s) × ((h : History) (lo : ℕ) (was down : Option ℕ)
    → IsResumable (now s) x said → IsHeld slots (now s) h lo was
    → IsAbsentSince said.meta.setup.geometry.disks t (moments s) (moments t) down
    → ((w : ℕ) → IsWeak (now s) w → down ≡ Some w) → (r d : ℕ) → r < said.meta.setup.geometry.rows
    → (initial_state (now t) (closed_over m)).dirty r d ≡ (initial_state (now s) said).dirty r d)
