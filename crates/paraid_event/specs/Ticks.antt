-- What an array counts itself of a tick.
use Rattle.std.specs.Prelude.{Some, ◌≡◌, ℕ, ◌+◌, min, ◌++◌, ◌∷◌, []}
use Rattle.paraid_base.specs.declared.fault.Halt.{Halt}
use Rattle.paraid_base.specs.declared.state.Phase.TheVariants.{Down}
use Rattle.paraid_gear.specs.ThreeWindows.{sample_of}
use Rattle.paraid_image.specs.Power.{PowerState}
use Rattle.paraid_core.specs.CoreInvariant.{AreCopiesSynced}
use Rattle.paraid_machine.specs.Energy.{tick_energy}
use Rattle.paraid_moves.specs.MoveMetas.{meta_after_begin}
use Rattle.paraid_session.specs.Turn.{Point}
use Rattle.paraid_event.specs.Service.{IsStateOf, Service}
use Rattle.paraid_base.specs.Told.{counter_most}

-- a tick was counted, with a sample of what was served since the last one, and with so much energy
-- used
abbrev pub ticked : Service → ℕ → Service
ticked k used = record k {
  meta = record k.meta { ticks = min (k.meta.ticks + 1) counter_most };
  samples = k.samples ++ sample_of k.served ∷ [];
  served = 0;
  energy = used;
}

-- Nothing more has come of it, and what the disks use between two ticks was added.
pub record CountsTick (k k_then : Service) : Type 0 where
  pub is : k_then ≡ ticked k k_then.energy
  pub energy : (s : PowerState) → IsStateOf k s
      → k_then.energy ≡ min (k.energy + tick_energy k.meta.setup s) counter_most

-- A tick is counted and a shift down begins, by one commit with what was staged: the tick is
-- counted, the shift is marked, and the mark is committed.
pub record BeginsDownByTick (k counted begun k_then : Service) (to : ℕ) : Type 0 where
  pub counts : CountsTick k counted
  pub mark : begun
      ≡ record counted { meta = meta_after_begin counted.meta (Down to) counted.meta.spins }
  -- it is a commit
  pub epoch : k_then.meta.epoch ≡ begun.meta.epoch + 1
  pub slots : k_then.slots ≡ counted.slots
  pub table : k_then.table ≡ counted.table
  pub copies_synced : AreCopiesSynced k_then.meta.setup.geometry.disks k_then.copied
  pub samples : k_then.samples ≡ counted.samples
  pub served : k_then.served ≡ counted.served
  pub energy : k_then.energy ≡ counted.energy

-- the point is left as it was, but for the disks, the energy and the halt that has come
abbrev pub IsHaltedWith : Point → Halt → ℕ → Point → Type 0
IsHaltedWith p halt used q = q ≡ record p { disks = q.disks; energy = used; halt = Some halt }
