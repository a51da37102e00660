-- How the meta in memory goes with the disks and with the meta of the last commit.
use Rattle.std.specs.Prelude.{◌≡◌, ◌≢◌, ℕ, ◌<◌, true, false, Option, Some, if◌then◌else◌}
use Rattle.paraid_base.specs.declared.state.Out.TheVariants.{Fresh}
use Rattle.paraid_base.specs.States.{has_out, named_out, phase_beside}
use Rattle.paraid_rack.specs.declared.call.Power.{Power}
use Rattle.paraid_rack.specs.declared.call.Power.TheVariants.{Spinning}
use Rattle.paraid_rack.specs.Disks.{is_present}
use Rattle.paraid_record.specs.declared.meta.Meta.{Meta}
use Rattle.paraid_image.specs.Power.{out_state, power_by_gear}
use Rattle.paraid_image.specs.Mark.{meta_with_lost}

-- The meta is as it was, with its counts as they are now, but for the mark of a disk that was lost:
-- that one is absent. Each disk that is absent is named out, and one that is being rebuilt is
-- there.
pub record IsMarkedBy (power : ℕ → Power) (m new : Meta) : Type 0 where
  pub lost : Option ℕ
  pub is : new ≡ record (meta_with_lost lost m) { epoch = new.epoch; writes = new.writes }
  pub disk : (d : ℕ) → lost ≡ Some d → d < m.setup.geometry.disks
  pub alone : (d x : ℕ) → lost ≡ Some d → named_out m.out ≡ Some x → x ≡ d
  pub absent : (d : ℕ) → lost ≡ Some d → is_present (power d) ≡ false
  pub named : (d : ℕ)
      → d < m.setup.geometry.disks → is_present (power d) ≡ false → named_out new.out ≡ Some d
  pub fresh : (d rebuilt : ℕ) → new.out ≡ Fresh d rebuilt → is_present (power d) ≡ true

-- Disks with these powers under the meta of the last commit, `base`, show the meta in memory: its
-- gear, phase, fill mark and spin-ups, and as the disk that is out the one that it names.
pub record ShowsMeta (power : ℕ → Power) (base m : Meta) : Type 0 where
  pub gear : base.gear ≡ m.gear
  pub out : out_state power base ≡ m.out
  pub phase : phase_beside (has_out m.out) base.phase ≡ m.phase
  pub fill : (if has_out m.out then 0 else base.fill) ≡ m.fill
  pub spins : base.spins ≡ m.spins

-- Each disk that is not out is powered by the gear, and one that is being rebuilt spins.
pub record ArePoweredByGear (power : ℕ → Power) (m : Meta) : Type 0 where
  pub by_gear : (d : ℕ) → d < m.setup.geometry.disks
      → named_out m.out ≢ Some d → power d ≡ power_by_gear m.gear m.phase d
  pub fresh : (d rebuilt : ℕ) → m.out ≡ Fresh d rebuilt → power d ≡ Spinning
