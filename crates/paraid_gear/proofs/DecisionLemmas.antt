-- The decision at each way out of the code
use Rattle.std.proofs.Common.{◌≡◌, ℕ, ◌*◌, Bool, true, false, List, Option, Some, None, refl, if◌then◌else◌}
use Rattle.paraid_record.specs.declared.meta.Setup.{Setup}
use Rattle.paraid_gear.specs.declared.decision.Decision.{Decision}
use Rattle.paraid_gear.specs.declared.decision.Decision.TheVariants.{Stay, Up, Down}
use Rattle.paraid_base.specs.Gears.{next_higher, next_lower}
use Rattle.paraid_gear.specs.Window.{is_full, is_busy, is_low_and_even}
use Rattle.paraid_gear.specs.Decision.{in_every_window, gear_up_for, gear_down_for, first_of_both, decision}

pub gear_up_for-some : (setup : Setup) (gear : ℕ) (samples lengths : List ℕ) (next : Option ℕ) (to : ℕ) (busy : Bool) → next ≡ Some to → lengths ≡ setup.windows → busy ≡ in_every_window (is_busy (setup.up * setup.service * gear)) lengths samples → (if busy then Some to else None) ≡ gear_up_for setup gear samples next
gear_up_for-some setup gear samples lengths next to busy is same test = rw (is, ← same, ← test) refl

pub gear_down_for-some : (setup : Setup) (samples lengths : List ℕ) (next : Option ℕ) (to : ℕ) (quiet : Bool) → next ≡ Some to → lengths ≡ setup.windows → quiet ≡ in_every_window (is_low_and_even (setup.down * setup.service * to)) lengths samples → (if quiet then Some to else None) ≡ gear_down_for setup samples next
gear_down_for-some setup samples lengths next to quiet is same test = rw (is, ← same, ← test) refl

pub decision-not_full : (setup : Setup) (gear : ℕ) (samples lengths : List ℕ) → lengths ≡ setup.windows → in_every_window is_full lengths samples ≡ false → Stay ≡ decision setup gear samples
unfolding decision
decision-not_full setup gear samples lengths same full = rw (← same, full) refl

pub decision-up : (setup : Setup) (gear : ℕ) (samples lengths : List ℕ) (to : ℕ) → lengths ≡ setup.windows → in_every_window is_full lengths samples ≡ true → gear_up_for setup gear samples (next_higher setup.geometry gear) ≡ Some to → Up to ≡ decision setup gear samples
unfolding decision
decision-up setup gear samples lengths to same full up =
    let full_here : in_every_window is_full setup.windows samples ≡ true = rw (← same) full in
    rw (full_here, up) refl

pub decision-down : (setup : Setup) (gear : ℕ) (samples lengths : List ℕ) (to : ℕ) → lengths ≡ setup.windows → in_every_window is_full lengths samples ≡ true → gear_up_for setup gear samples (next_higher setup.geometry gear) ≡ None → gear_down_for setup samples (next_lower setup.geometry gear) ≡ Some to → Down to ≡ decision setup gear samples
unfolding decision
decision-down setup gear samples lengths to same full up down =
    let full_here : in_every_window is_full setup.windows samples ≡ true = rw (← same) full in
    rw (full_here, up, down) refl

pub decision-neither : (setup : Setup) (gear : ℕ) (samples lengths : List ℕ) → lengths ≡ setup.windows → gear_up_for setup gear samples (next_higher setup.geometry gear) ≡ None → gear_down_for setup samples (next_lower setup.geometry gear) ≡ None → Stay ≡ decision setup gear samples
unfolding decision
decision-neither setup gear samples lengths same up down =
    rw (up, down) (elim (in_every_window is_full setup.windows samples) as (λ full. ◌≡◌ {A = Decision} Stay (if full then first_of_both None None else Stay)) [ true ↦ refl | false ↦ refl ])
