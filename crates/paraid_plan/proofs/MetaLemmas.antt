-- What is kept well does not depend on the number of writes.
use Rattle.std.specs.Prelude.{◌≡◌, ℕ}
use Rattle.std.proofs.Common.{refl}
use Rattle.paraid_image.specs.Sound.{IsWellKept, AreRebuilt, IsFilled, IsFresh}
use Rattle.paraid_rack.specs.declared.call.Power.{Power}
use Rattle.paraid_record.specs.Codes.{phase_to}
use Rattle.paraid_image.specs.Spot.{View, is_hard}
use Rattle.paraid_image.specs.Value.{reconstructed_value, soft_value, stored_value, value}

abbrev pub with_writes : View → ℕ → View
with_writes v k = record v { meta = record v.meta { writes = k } }

pub value_writes : (v : View) (k r d : ℕ) → value (with_writes v k) r d ≡ value v r d
unfolding value reconstructed_value stored_value soft_value is_hard
value_writes v k r d = refl

module _ (slots : ℕ) (power : ℕ → Power) (size : ℕ → ℕ) (v : View) (k : ℕ) where
  was_fresh : (d count : ℕ) → IsFresh power (record v.meta { writes = k }) d count → IsFresh power v.meta d count
  was_fresh d count f = record { is = f.is; present = f.present }

  filled_writes : (s : ℕ) → IsFilled v (phase_to v.meta.phase) s → IsFilled (with_writes v k) (phase_to v.meta.phase) s
  unfolding value reconstructed_value stored_value soft_value is_hard
  filled_writes s f = record { cells = f.cells; pads = f.pads; zero = f.zero }

  rebuilt_writes : (d count : ℕ) → AreRebuilt v d count → AreRebuilt (with_writes v k) d count
  unfolding value reconstructed_value stored_value soft_value is_hard
  rebuilt_writes d count r = record { rows = r.rows; stripes = r.stripes; map_blocks = r.map_blocks }

  pub kept_writes : IsWellKept slots power size v → IsWellKept slots power size (with_writes v k)
  unfolding value reconstructed_value stored_value soft_value is_hard
  kept_writes w = record {
    rows = w.rows;
    stripes = w.stripes;
    filled = λ none s l. filled_writes s (w.filled none s l);
    clean = w.clean;
    rebuilt = λ d count fresh. rebuilt_writes d count (w.rebuilt d count (was_fresh d count fresh));
    map = record { mirrored = w.map.mirrored; rows = w.map.rows; parked = w.map.parked; disks = w.map.disks };
    disks = record {
      enough = w.disks.enough;
      log_disks = w.disks.log_disks;
      large = w.disks.large;
      fresh_large = λ d count fresh. w.disks.fresh_large d count (was_fresh d count fresh);
      below_gear = w.disks.below_gear;
      fresh_spins = λ d count fresh. w.disks.fresh_spins d count (was_fresh d count fresh);
      recorded = w.disks.recorded;
    };
  }
