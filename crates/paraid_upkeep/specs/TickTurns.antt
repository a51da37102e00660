-- What the parts of a tick of an array over a core say.
use Rattle.std.specs.Prelude.{◌≡◌, ℕ, true, false, Bool, List, Option, None}
use Rattle.paraid_base.specs.declared.fault.Two.{Two}
use Rattle.paraid_base.specs.History.{History}
use Rattle.paraid_rack.specs.Trail.{Trail}
use Rattle.paraid_image.specs.Power.{PowerState}
use Rattle.paraid_machine.specs.Moves.{units_of_tick}
use Rattle.paraid_txn.specs.Stores.{store_rack}
use Rattle.paraid_core.specs.declared.staged.Core.{Core}
use Rattle.paraid_event.specs.RebuildEnds.{FinishesRebuild, LosesFinishing, MarksRejoined, ParksBack}
use Rattle.paraid_event.specs.Service.{IsStateOf, service_of}

-- A tick of the shift that is under way moves so many units, by the state that this core shows.
abbrev pub AreUnitsOfTick : {R : Type 0} {g : _} → (R → ℕ) → Core R g → ℕ → Type 0
AreUnitsOfTick count core units = (samples : List ℕ) (served energy : ℕ) (s : PowerState)
    → IsStateOf (service_of count core samples served energy) s
    → units ≡ units_of_tick core.meta.setup s

-- Disk `d`, which has come back, spins on or is parked, or is lost in that.
abbrev pub CoreParksBack : {R : Type 0} {g : _}
    → (R → ℕ) → (R → Option Trail) → Core R g → Core R g → ℕ → Type 0
CoreParksBack count told old new d = (samples : List ℕ) (served energy : ℕ) (h : History) (lo : ℕ)
    → ParksBack (told (store_rack old.store)) (told (store_rack new.store))
    (service_of count old samples served energy) (service_of count new samples served energy) h lo d

-- The rebuild of disk `d` ends, and then it is parked where the gear does not need it; the core
-- between is as another one may be over a rack of this type.
pub record FinishesAndParks {R : Type 0}
    {g : _} (count : R → ℕ) (told : R → Option Trail) (old new : Core R g) (d : ℕ) : Type 0 where
  pub mid : Core R g
  pub finishes : (samples : List ℕ) (served energy : ℕ) (h : History) (lo : ℕ)
      → FinishesRebuild (told (store_rack old.store)) (told (store_rack mid.store)) (service_of
      count old samples served energy) (service_of count mid samples served energy) h lo d
  pub rejoined : (samples : List ℕ) (served energy : ℕ) → MarksRejoined
      (service_of count old samples served energy) (service_of count mid samples served energy)
  pub parks : CoreParksBack count told mid new d

-- It ends and is parked; or it is lost in either.
pub data CoreComesBack {R : Type 0} {g : _} (count : R → ℕ)
    (told : R → Option Trail) (old new : Core R g) (d : ℕ) (back : Bool) : Type 0 where
  ends : back ≡ true
      → FinishesAndParks count told old new d → CoreComesBack count told old new d back
  lost : back ≡ false → ((samples : List ℕ) (served energy : ℕ) (h : History) (lo : ℕ)
      → FinishesRebuild (told (store_rack old.store)) (told (store_rack new.store)) (service_of
      count old samples served energy) (service_of count new samples served energy) h lo d)
      → CoreComesBack count told old new d back
  lost_parked : back ≡ false
      → FinishesAndParks count told old new d → CoreComesBack count told old new d back

-- A second disk is lost as it ends; in the park none can be.
pub data CoreLosesComing {R : Type 0} {g : _} (count : R → ℕ)
    (told : R → Option Trail) (old new : Core R g) (d : ℕ) (two : Two) : Type 0 where
  finishing : ((samples : List ℕ) (served energy : ℕ) (h : History) (lo : ℕ)
      → LosesFinishing (told (store_rack old.store))
      (told (store_rack new.store)) (service_of count old samples served energy) h lo d two)
      → CoreLosesComing count told old new d two
  untold : told (store_rack new.store) ≡ None → CoreLosesComing count told old new d two
