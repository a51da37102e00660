-- Where an array in service stands: between two calls of its core, and between two events.
use Rattle.std.specs.Prelude.{◌≡◌, ◌≢◌, ℕ, ◌<◌, ◌≤◌, false, Option, Some, None}
use Rattle.paraid_base.specs.declared.state.Out.TheVariants.{Fresh}
use Rattle.paraid_base.specs.History.{History}
use Rattle.paraid_base.specs.States.{gone_out, named_out}
use Rattle.paraid_rack.specs.Disks.{Disks, IsPresent, is_present}
use Rattle.paraid_rack.specs.Trail.{Trail, now}
use Rattle.paraid_record.specs.declared.meta.Meta.{Meta}
use Rattle.paraid_record.specs.declared.meta.Setup.{Setup}
use Rattle.paraid_image.specs.Spins.{made_spin_ups}
use Rattle.paraid_core.specs.CoreInvariant.{AreCopiesSynced, HoldsBetweenCalls}
use Rattle.paraid_session.specs.Turn.{Point}
use Rattle.paraid_session.specs.Watch.{IsAmongDown, Watch}
use Rattle.paraid_session.specs.Resting.{watch_at}
use Rattle.paraid_event.specs.Marks.{ArePoweredByGear, ShowsMeta}
use Rattle.paraid_event.specs.Service.{IsStateOf, Service}
use Rattle.paraid_base.specs.Told.{counter_most}

-- what its core stands for: these writes, of which no stop takes away the first `lo`
abbrev pub ServiceStandsFor : Service → History → ℕ → Disks → Type 0
ServiceStandsFor k h lo = HoldsBetweenCalls k.slots k.named k.meta k.table k.batch k.copied h lo

-- Of disk `d` the spin-ups that were made are recorded by this meta, unless the disk is gone by it.
abbrev pub IsRecordedBy : Meta → Watch → ℕ → Type 0
IsRecordedBy m w d = IsPresent w.disks d
    → gone_out m.out ≢ Some d → w.spun d ≤ made_spin_ups m w.disks.power d

-- Between two calls of its core, in an event: it stands for `h`, the meta `base` stands on the
-- disks, and each disk that is absent or named out is down.
pub record StandsIn (k : Service) (h : History) (lo : ℕ) (base : Meta) (w : Watch) : Type 0 where
  pub keeps : ServiceStandsFor k h lo w.disks
  pub is_base : keeps.base ≡ base
  pub absent_down : (d : ℕ) → d < k.meta.setup.geometry.disks
      → is_present (w.disks.power d) ≡ false → IsAmongDown w.down d
  pub named_down : (d : ℕ) → named_out k.meta.out ≡ Some d → IsAmongDown w.down d
  pub stays : (d : ℕ) → k.named ≡ Some d → named_out k.meta.out ≡ Some d
  pub recorded : (d : ℕ) → d < k.meta.setup.geometry.disks → IsRecordedBy base w d
  pub recorded_next : (d : ℕ) → d < k.meta.setup.geometry.disks → IsRecordedBy k.meta w d
  pub awaited : (d : ℕ) → w.awaited ≡ Some d → gone_out k.meta.out ≡ Some d
  pub ticks : base.ticks ≤ k.meta.ticks

-- Between two events, at this point of a session: the disks that its rack tells are those of the
-- point, all copies are synced, and the disks are powered and show the state.
pub record StandsAt (told : Option Trail) (k : Service) (setup : Setup) (p : Point) : Type 0 where
  pub disks : (t : Trail) → told ≡ Some t → now t ≡ p.disks
  pub stands : StandsIn k p.history p.low p.meta (watch_at p)
  pub copies_synced : AreCopiesSynced k.meta.setup.geometry.disks k.copied
  pub same_setup : k.meta.setup ≡ setup
  pub shown : ShowsMeta p.disks.power p.meta k.meta
  pub powered : ArePoweredByGear p.disks.power k.meta
  pub state : IsStateOf k p.state
  pub energy : p.energy ≡ k.energy
  pub fits : k.energy ≤ counter_most
  pub going : p.halt ≡ None

-- In the middle of an event: it stands, each disk that is absent is named out, one that is named
-- out is of the array, and one that is being rebuilt is there.
pub record IsMidway (k : Service) (h : History) (lo : ℕ) (base : Meta) (w : Watch) : Type 0 where
  pub stands : StandsIn k h lo base w
  pub named : (d : ℕ) → d < k.meta.setup.geometry.disks
      → is_present (w.disks.power d) ≡ false → named_out k.meta.out ≡ Some d
  pub low : (d : ℕ) → named_out k.meta.out ≡ Some d → d < k.meta.setup.geometry.disks
  pub fresh : (d rebuilt : ℕ) → k.meta.out ≡ Fresh d rebuilt → IsPresent w.disks d
