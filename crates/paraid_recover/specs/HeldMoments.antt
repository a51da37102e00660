-- What is held at each moment of a part of a mount.
use Rattle.std.specs.Prelude.{◌≡◌, ℕ, ◌*◌, ◌<◌, ◌≤◌, ◌⊎◌, Bool, false, [], Option, Some, take}
use Rattle.paraid_base.specs.History.{History}
use Rattle.paraid_base.specs.Regions.{map_count}
use Rattle.paraid_image.specs.Content.{view_by}
use Rattle.paraid_image.specs.Standing.{contents}
use Rattle.paraid_rack.specs.Disks.{Disks, is_present}
use Rattle.paraid_rack.specs.Told.{Extends}
use Rattle.paraid_rack.specs.Trail.{Trail, disks, moments, now}
use Rattle.paraid_record.specs.declared.meta.Meta.{Meta}
use Rattle.paraid_image.specs.Rest.{IsAtRest}
use Rattle.paraid_image.specs.HeldAt.{IsHeld}
use Rattle.paraid_image.specs.Out.{IsWeak, named_out, out_disk}
use Rattle.paraid_txn.specs.Resume.{IsResumable}
use Rattle.paraid_image.specs.Sides.{LogState}

-- Of `n` disks this one is down: it is each that is absent from these disks.
abbrev pub IsAbsentOne : ℕ → Disks → Option ℕ → Type 0
IsAbsentOne n s down = (d : ℕ) → d < n → is_present (s.power d) ≡ false → down ≡ Some d

-- From disks of which `G` holds and that hold a first part of `h` of at least `lo` writes, each
-- moment from the one record to the other holds such a part, as long as one disk at most is absent.
abbrev pub KeepsHeld : (Disks → Type 0) → ℕ → ℕ → Option Trail → Option Trail → Type 0
KeepsHeld G slots n old new = (t : Trail) → new ≡ Some t → (s : Trail) × (old ≡ Some s)
    × (moments s ≤ moments t) × ((h : History) (lo m : ℕ) (was down : Option ℕ) → G (now s)
    → IsHeld slots (now s) h lo was → moments s ≤ m → m ≤ moments t → IsAbsentOne n (now s) down
    → IsAbsentOne n (disks t m) down → IsHeld slots (disks t m) h lo down)

-- Of `n` disks this one is down at each moment from `from` to `m`: it is each that is absent.
abbrev pub IsAbsentSince : ℕ → Trail → ℕ → ℕ → Option ℕ → Type 0
IsAbsentSince n t from m down = (j d : ℕ)
    → from ≤ j → j ≤ m → d < n → is_present ((disks t j).power d) ≡ false → down ≡ Some d

-- From disks with nothing loose on which a commit was interrupted, each moment from the one record
-- to the other holds what was held, where one disk at most is absent or was weak.
abbrev pub RecoversHeld : ℕ → ℕ → LogState → Option Trail → Option Trail → Type 0
RecoversHeld slots x said old new = (t : Trail) → new ≡ Some t → (s : Trail)
    × (old ≡ Some s) × (moments s ≤ moments t) × ((h : History) (lo m : ℕ) (was down : Option ℕ)
    → IsResumable (now s) x said → IsHeld slots (now s) h lo was → moments s ≤ m
    → m ≤ moments t → IsAbsentSince said.meta.setup.geometry.disks t (moments s) m down
    → ((w : ℕ) → IsWeak (now s) w → down ≡ Some w) → IsHeld slots (disks t m) h lo down)

-- At the end the disks are at rest under this meta and hold the writes that it counts, beside the
-- disk that is out by it; none of these writes can be lost.
abbrev pub EndsHeld : ℕ → ℕ → LogState → Meta → Option Trail → Option Trail → Type 0
EndsHeld slots x said m old new = (t : Trail)
    → new ≡ Some t → (s : Trail) × (old ≡ Some s) × ((h : History) (lo : ℕ) (was down : Option ℕ)
    → IsResumable (now s) x said → IsHeld slots (now s) h lo was
    → IsAbsentSince said.meta.setup.geometry.disks t (moments s) (moments t) down
    → ((w : ℕ) → IsWeak (now s) w → down ≡ Some w) → IsAtRest (now t) m
    × IsHeld slots (now t) (take m.writes h) m.writes (out_disk (now t).power m))

-- From the one record to the other, which is longer by some calls, what was held is held at each
-- moment, and at the end the meta that stood is kept.
pub record Recovers (slots x : ℕ) (said : LogState) (old new : Option Trail) : Type 0 where
  pub grows : Extends old new
  pub holds : RecoversHeld slots x said old new
  pub ends : EndsHeld slots x said said.meta old new

-- The disks are at rest under this meta and hold a first part of `h` of at least `lo` writes, where
-- one disk at most is absent or named out.
abbrev pub RestsBeside : ℕ → Meta → History → ℕ → Disks → Type 0
RestsBeside slots m h lo s = (down : Option ℕ)
    → ((d : ℕ) → d < m.setup.geometry.disks → is_present (s.power d) ≡ false → down ≡ Some d)
    → ((d : ℕ) → named_out m.out ≡ Some d → down ≡ Some d) → IsAtRest s m × IsHeld slots s h lo down

-- Each disk that this meta names out was named out before, or is absent where the record ends.
abbrev pub IsOutAtEnd : LogState → Meta → Option Trail → Type 0
IsOutAtEnd said m end = (t : Trail)
    → end ≡ Some t → (d : ℕ) → named_out m.out ≡ Some d → (named_out said.meta.out ≡ Some d)
    ⊎ ((d < said.meta.setup.geometry.disks) × (is_present ((now t).power d) ≡ false))

-- At the end these are the dirty bits of all that the disks hold under this meta.
abbrev pub ShowsAtEnd : ℕ
    → ℕ → LogState → Meta → (ℕ → ℕ → Bool) → Option Trail → Option Trail → Type 0
ShowsAtEnd slots x said m dirty old new = (t : Trail)
    → new ≡ Some t → (s : Trail) × (old ≡ Some s) × ((h : History) (lo : ℕ) (was down : Option ℕ)
    → IsResumable (now s) x said → IsHeld slots (now s) h lo was
    → IsAbsentSince said.meta.setup.geometry.disks t (moments s) (moments t) down → ((w : ℕ)
    → IsWeak (now s) w → down ≡ Some w) → (r d : ℕ) → r < 512 * map_count m.setup.geometry
    → dirty r d ≡ (view_by m (now t).power (contents (now t) [])).dirty r d)
