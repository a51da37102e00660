-- What a call of a core answers of the disks that are lost in it.
use Rattle.std.specs.Prelude.{◌≡◌, ℕ, Bool, false, Option, Result, Ok, OnOk, IfErr}
use Rattle.paraid_base.specs.declared.fault.Two.{Two}
use Rattle.paraid_rack.specs.declared.rack.Rack.{Ghosts}
use Rattle.paraid_image.specs.Mark.{meta_after_loss}
use Rattle.paraid_txn.specs.Losses.{AreTwoDown, IsLostNow, OnlyLosesSlots}
use Rattle.paraid_txn.specs.Stores.{store_rack}
use Rattle.paraid_core.specs.declared.staged.Core.{Core}
use Rattle.paraid_core.specs.Cores.{core_down}
use Rattle.paraid_core.specs.Lost.{CoreMarksLost, CoreTellsLosses}

-- A slot changes only as it becomes absent. At most one disk was lost, and it is marked; else two
-- are down, and which of them was lost first is told, beside this one that was out.
pub record AnswersCoreLosses {R A : Type 0}
    {g : Ghosts R} (out : Option ℕ) (old new : Core R g) (result : Result A Two) : Type 0 where
  pub slots : g.slot_count (store_rack new.store) ≡ g.slot_count (store_rack old.store)
  pub spared : OnlyLosesSlots (g.slot (store_rack old.store)) (g.slot (store_rack new.store))
  pub two : IfErr result
      (AreTwoDown (core_down old) (g.slot (store_rack old.store)) (g.slot (store_rack new.store)))
  pub tells : IfErr result (CoreTellsLosses g.told out old new)
  -- A disk that failed is marked as out and absent, and no other one has failed.
  pub marks : OnOk result (CoreMarksLost g.slot old new)

-- Where it answers false, this disk has failed, and is gone.
pub record LosesGiven {R : Type 0}
    {g : Ghosts R} (disk : ℕ) (old new : Core R g) (result : Result Bool Two) : Type 0 where
  pub gone : result ≡ Ok false → new.meta ≡ meta_after_loss old.meta disk
  pub failed : result ≡ Ok false
      → IsLostNow (g.slot (store_rack old.store)) (g.slot (store_rack new.store)) disk
