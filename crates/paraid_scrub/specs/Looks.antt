-- What some reads leave where no disk was lost in them.
use Rattle.std.specs.Prelude.{◌≡◌, ◌≢◌, ℕ, ◌<◌, ◌≤◌, ◌⊎◌, Bool, IsTrue, Some}
use Rattle.paraid_base.specs.declared.state.Out.TheVariants.{Fresh}
use Rattle.paraid_record.specs.declared.meta.Meta.{Meta}
use Rattle.paraid_image.specs.Out.{named_out}
use Rattle.paraid_image.specs.Spot.{View, rising_to}
use Rattle.paraid_scrub.specs.declared.kind.Kind.{Kind}
use Rattle.paraid_scrub.specs.Counts.{CountBelow, IsOff}

-- Disk `d` can be read: it is not out, and the gear or a shift up powers it; or it is being
-- rebuilt.
pub data IsReadable (m : Meta) (d : ℕ) : Type 0 where
  powered : (d < m.gear) ⊎ (d < rising_to m.phase) → named_out m.out ≢ Some d → IsReadable m d
  fresh : (u : ℕ) → m.out ≡ Fresh d u → IsReadable m d

-- The meta and the view are as before, it can be read on, and of the view this holds.
pub record KeepsView
    {C : Type 0} (meta : C → Meta) (usable tells : C → Type 0) (shows : C → View → Type 0)
    (leads : C → C → Type 0) (old new : C) (fact : View → Type 0) : Type 0 where
  pub goes : leads old new
  pub same : meta new ≡ meta old
  pub still : usable new
  pub shown : (v : View) → shows old v → tells new → shows new v × fact v

-- Of a part of so many members, the first were counted; all of them if the part is whole.
pub record PartCount (v : View) (kind : Kind) (size found : ℕ) (whole : Bool) : Type 0 where
  pub seen : ℕ
  pub within : seen ≤ size
  pub count : CountBelow (IsOff v kind) seen found
  pub all : IsTrue whole → seen ≡ size
