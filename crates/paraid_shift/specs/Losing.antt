-- Calls of a core in a shift in which disks are lost.
use Rattle.std.specs.Prelude.{◌≡◌, ℕ, ◌+◌, ◌<◌, ◌≤◌, ◌⊎◌, List, Option, Some, slice_index}
use Rattle.paraid_base.specs.declared.fault.Two.{Two}
use Rattle.paraid_base.specs.declared.state.Phase.TheVariants.{Up}
use Rattle.paraid_base.specs.History.{History}
use Rattle.paraid_base.specs.States.{named_out}
use Rattle.paraid_rack.specs.Told.{Ran}
use Rattle.paraid_rack.specs.Trail.{Trail, now}
use Rattle.paraid_record.specs.declared.meta.Meta.{Meta}
use Rattle.paraid_image.specs.Lost.{BearsLoss}
use Rattle.paraid_moves.specs.MoveMetas.{meta_after_begin}
use Rattle.paraid_txn.specs.Stores.{store_rack}
use Rattle.paraid_core.specs.declared.staged.Core.{Core}
use Rattle.paraid_core.specs.Cores.{CoreStandsFor}
use Rattle.paraid_event.specs.Lost.{TellsTwo}
use Rattle.paraid_event.specs.Parts.{LosesInEvent}
use Rattle.paraid_event.specs.Service.{service_of}
use Rattle.paraid_event.specs.Stands.{ServiceStandsFor}

-- One disk at most is lost in the calls: where none was out, the one that is out now is the first
-- that failed, and one that was out is so still.
abbrev pub CoreBearsLoss : {R : Type 0} {g : _} → (R → Option Trail) → Core R g → Core R g → Type 0
CoreBearsLoss told old new = Ran (told (store_rack old.store)) (told (store_rack new.store))
    (λ s cs. BearsLoss (named_out old.meta.out) (named_out new.meta.out) cs)

-- This meta can wait in memory where the core stands, and a second disk is lost in the commit that
-- is to bring it.
pub record LosesMark {R : Type 0} {g : _} (count : R → ℕ)
    (told : R → Option Trail) (old new : Core R g) (m : Meta) (two : Two) : Type 0 where
  pub stands : (h : History) (lo : ℕ) (samples : List ℕ) (served energy : ℕ) (t : Trail)
      → told (store_rack old.store) ≡ Some t
      → CoreStandsFor count old h lo (now t) → ServiceStandsFor
      (record (service_of count old samples served energy) { meta = m }) h lo (now t)
  pub loses : (h : History) (lo : ℕ) (samples : List ℕ) (served energy : ℕ)
      → Ran (told (store_rack old.store)) (told (store_rack new.store)) (λ s cs.
      LosesInEvent (record (service_of count old samples served energy) { meta = m }) h lo s cs
      × TellsTwo (record (service_of count old samples served energy) { meta = m }) two s cs)

-- The same of a shift up, with a spin-up recorded of each disk that is to come up.
pub record LosesUp {R : Type 0} {g : _} (count : R → ℕ)
    (told : R → Option Trail) (old new : Core R g) (to : ℕ) (two : Two) : Type 0 where
  pub spins : List ℕ
  pub raised : (d : ℕ)
      → old.meta.gear ≤ d → d < to → slice_index spins d ≡ slice_index old.meta.spins d + 1
  pub others : (d : ℕ)
      → (d < old.meta.gear) ⊎ (to ≤ d) → slice_index spins d ≡ slice_index old.meta.spins d
  pub loses : LosesMark count told old new (meta_after_begin old.meta (Up to) spins) two
