-- The record of a rack that gathers beside that of the rack below.
use Rattle.std.specs.Prelude.{◌≡◌, ◌≤◌, List, [], ◌∷◌, ◌++◌, length}
use Rattle.paraid_rack.specs.declared.call.Call.{Call}
use Rattle.paraid_rack.specs.Disks.{Disks, IsImage}
use Rattle.paraid_rack.specs.Told.{Through}
use Rattle.paraid_rack.specs.Trail.{Trail, run, now, extend}
use Rattle.paraid_gather.specs.Above.{LeavesImageOf}
use Rattle.paraid_gather.specs.PowerCalls.{power_calls}

-- One call above, or none where what waits is written out, and the calls below that are made for
-- it.
pub record CallGroup : Type 0 where
  pub above : List Call
  pub below : List Call

-- the calls above of these groups, one after another
abbrev pub calls_above : List CallGroup → List Call
calls_above [] = []
calls_above (g ∷ gs) = g.above ++ calls_above gs

-- the calls below of these groups, one after another
abbrev pub calls_below : List CallGroup → List Call
calls_below [] = []
calls_below (g ∷ gs) = g.below ++ calls_below gs

-- what a stop leaves of the disks below is an image of the disks `s` above
abbrev pub LeavesImage : Disks → Disks → Type 0
LeavesImage s below = (i : Disks) → IsImage below i → IsImage s i

-- These groups are called where the disks above are `s` and those below are `b`. Before each of
-- them and after the last one what a stop leaves is an image of the disks above. At each moment of
-- the calls below of a group it is one of the disks above before the group's call, or of those
-- after it. A group parks, spins up and attaches below what it does above.
abbrev pub AreGathered : Disks → Disks → List CallGroup → Type 0
AreGathered s b [] = LeavesImage s b
AreGathered s b (g ∷ gs) =
    LeavesImage s b × (length g.above ≤ 1) × (power_calls g.below ≡ power_calls g.above)
    × Through (LeavesImageOf s (run s g.above)) b g.below
    × AreGathered (run s g.above) (run b g.below) gs

-- What was called above was called below in groups, since a moment up to which both records are the
-- same.
pub record IsGathered (below above : Trail) : Type 0 where
  pub start : Trail
  pub groups : List CallGroup
  pub above_is : above ≡ extend start (calls_above groups)
  pub below_is : below ≡ extend start (calls_below groups)
  pub gathered : AreGathered (now start) (now start) groups
