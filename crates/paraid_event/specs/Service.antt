-- What an array in service knows.
use Rattle.std.specs.Prelude.{◌≡◌, ℕ, ◌<◌, Bool, List, Option}
use Rattle.paraid_dirty.specs.Table.{is_dirty}
use Rattle.paraid_image.specs.Power.{PowerState}
use Rattle.paraid_image.specs.Sides.{Batch}
use Rattle.paraid_record.specs.declared.meta.Meta.{Meta}
use Rattle.paraid_txn.specs.Stores.{named_of, store_rack}
use Rattle.paraid_core.specs.declared.staged.Core.{Core}

-- The number of slots of its rack; the disk that the last commit names out; what its core has
-- staged; and what it counts itself: the samples, the requests served since the last tick, and the
-- energy.
pub record Service : Type 0 where
  pub slots : ℕ
  pub named : Option ℕ
  pub meta : Meta
  pub table : List (List Bool)
  pub batch : Batch
  pub copied : List Bool
  pub samples : List ℕ
  pub served : ℕ
  pub energy : ℕ

-- of a core over a rack with so many slots, and these counts
abbrev pub service_of : {R : Type 0} {g : _} → (R → ℕ) → Core R g → List ℕ → ℕ → ℕ → Service
service_of count core samples served energy = record {
  slots = count (store_rack core.store);
  named = named_of core.store;
  meta = core.meta;
  table = core.dirty;
  batch = core.batch;
  copied = core.copied;
  samples = samples;
  served = served;
  energy = energy;
}

-- this is the state that its events see
pub record IsStateOf (k : Service) (s : PowerState) : Type 0 where
  pub gear : s.gear ≡ k.meta.gear
  pub phase : s.phase ≡ k.meta.phase
  pub fill : s.fill ≡ k.meta.fill
  pub out : s.out ≡ k.meta.out
  pub spins : s.spins ≡ k.meta.spins
  pub ticks : s.ticks ≡ k.meta.ticks
  pub dirty : (r d : ℕ) → r < k.meta.setup.geometry.rows → s.dirty r d ≡ is_dirty k.table r d
  pub samples : s.samples ≡ k.samples
  pub served : s.served ≡ k.served
