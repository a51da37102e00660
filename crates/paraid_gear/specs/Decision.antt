-- Which gear the samples ask for
use Rattle.std.specs.Prelude.{ℕ, ◌*◌, Bool, List, Option, Some, None, if◌then◌else◌}
use Rattle.std.specs.List.{list_all}
use Rattle.circular_buffer.specs.Buffer.{keep_last}
use Rattle.paraid_record.specs.declared.meta.Setup.{Setup}
use Rattle.paraid_gear.specs.declared.decision.Decision.{Decision}
use Rattle.paraid_gear.specs.declared.decision.Decision.TheVariants.{Stay, Up, Down}
use Rattle.paraid_base.specs.Gears.{next_higher, next_lower}
use Rattle.paraid_gear.specs.Window.{is_full, is_busy, is_low_and_even}

-- A test holds of each length and its last samples. An unused window has length 0: it has no
-- sample, and meets each test.
abbrev pub in_every_window : (ℕ → List ℕ → Bool) → List ℕ → List ℕ → Bool
in_every_window test lengths samples = list_all (λ span. test span (keep_last span samples)) lengths

-- the next higher gear, if there is one and in every window the load on this gear is high
abbrev pub gear_up_for : Setup → ℕ → List ℕ → Option ℕ → Option ℕ
gear_up_for setup gear samples None = None
gear_up_for setup gear samples (Some to) =
    if in_every_window (is_busy (setup.up * setup.service * gear)) setup.windows samples
    then Some to else None

-- the next lower gear, if there is one and in every window the load on it would be low and even
abbrev pub gear_down_for : Setup → List ℕ → Option ℕ → Option ℕ
gear_down_for setup samples None = None
gear_down_for setup samples (Some to) =
    if in_every_window (is_low_and_even (setup.down * setup.service * to)) setup.windows samples
    then Some to else None

-- up, or else down, or else neither
abbrev pub first_of_both : Option ℕ → Option ℕ → Decision
first_of_both (Some to) down = Up to
first_of_both None (Some to) = Down to
first_of_both None None = Stay

-- what all samples since the start ask for in a gear; nothing until every window is full
unfoldable pub decision : Setup → ℕ → List ℕ → Decision
decision setup gear samples =
    if in_every_window is_full setup.windows samples
    then first_of_both
    (gear_up_for setup gear samples (next_higher setup.geometry gear))
    (gear_down_for setup samples (next_lower setup.geometry gear))
    else Stay
