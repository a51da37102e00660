-- The point at which a session begins.
use Rattle.std.specs.Prelude.{◌≡◌, ℕ, ◌*◌, ◌<◌, ◌≤◌, Bool, [], Option, Some, None, length, take}
use Rattle.paraid_base.specs.History.{History}
use Rattle.paraid_base.specs.Regions.{map_count}
use Rattle.paraid_base.specs.States.{gone_out}
use Rattle.paraid_rack.specs.Disks.{Disks, IsPresent}
use Rattle.paraid_rack.specs.Trail.{Trail, now}
use Rattle.paraid_record.specs.declared.meta.Meta.{Meta}
use Rattle.paraid_image.specs.Content.{view_by}
use Rattle.paraid_image.specs.Power.{initial_state}
use Rattle.paraid_image.specs.Spins.{made_spin_ups}
use Rattle.paraid_image.specs.Standing.{contents}
use Rattle.paraid_image.specs.Sides.{closed_over}
use Rattle.paraid_session.specs.Turn.{Point}

-- After a mount of a rack that held `h`: the disks rest under this meta, and of the writes those
-- that it counts are kept.
abbrev pub first_point : Disks → Meta → History → (ℕ → ℕ) → Point
first_point s m h spun = record {
  disks = s;
  history = take m.writes h;
  low = m.writes;
  meta = m;
  state = initial_state s (closed_over m);
  energy = 0;
  spun = spun;
  awaited = gone_out (initial_state s (closed_over m)).out;
  halt = None;
}

-- The session begins at this point, where the record ends: the disks rest under this meta, which
-- counts the writes that are held, and has recorded the spin-ups of each disk that is there; and
-- these cells are dirty, which the map of the disks shows, past the last row too.
pub record IsFirstPoint
    (m : Meta) (dirty : ℕ → ℕ → Bool) (told : Option Trail) (p : Point) : Type 0 where
  pub history : History
  pub spun : ℕ → ℕ
  pub is : (t : Trail) → told ≡ Some t → p ≡ first_point (now t) m history spun
  pub recorded : (d : ℕ) → IsPresent p.disks d → spun d ≤ made_spin_ups m p.disks.power d
  pub writes : length p.history ≡ m.writes
  pub cells : (r d : ℕ) → r < m.setup.geometry.rows → dirty r d ≡ p.state.dirty r d
  pub map : (r d : ℕ) → r < 512 * map_count m.setup.geometry
      → dirty r d ≡ (view_by m p.disks.power (contents p.disks [])).dirty r d
