-- The spin-ups of a session, by its answers.
use Rattle.std.specs.Prelude.{◌≡◌, ℕ, ◌≤◌, Bool, true, false, List, [], ◌∷◌, Option, Some, None}
use Rattle.paraid_base.specs.declared.event.Answer.{Answer}
use Rattle.paraid_base.specs.declared.event.Answer.TheVariants.{Halted}
use Rattle.paraid_base.specs.declared.event.Event.{Event}
use Rattle.paraid_base.specs.declared.event.Event.TheVariants.{Replace}
use Rattle.paraid_base.specs.declared.fault.Halt.TheVariants.{Two}
use Rattle.paraid_serve.specs.Stretch.{Turn}
use Rattle.paraid_spare.specs.Pools.{is_among, slot_spin_ups}
use Rattle.paraid_sparing.specs.Sparing.{spun_by}

-- one for each disk of this range, and none for the others
abbrev pub spun_count : Option (ℕ × ℕ) → ℕ → ℕ
spun_count None d = 0
spun_count (Some range) d = is_among range.0 range.1 d

-- how often an event that is answered so may spin up disk `d`: once where it begins a shift up that
-- brings it
abbrev pub may_spin : Event → Answer → ℕ → ℕ
may_spin (Replace e) answer d = 0
may_spin event answer d = spun_count (spun_by answer) d

-- the calls of each turn spin up no disk more often
abbrev pub AreSpunByAnswers : List Turn → Type 0
AreSpunByAnswers [] = Unit {0}
AreSpunByAnswers (t ∷ turns) =
    ((d : ℕ) → slot_spin_ups t.calls d ≤ may_spin t.event t.answer d) × AreSpunByAnswers turns

-- a second disk is lost
abbrev pub is_second_loss : Answer → Bool
is_second_loss (Halted (Two two)) = true
is_second_loss answer = false

-- while at most one disk is down: no turn is answered so
abbrev pub AreBesideOne : List Turn → Type 0
AreBesideOne [] = Unit {0}
AreBesideOne (t ∷ turns) = (is_second_loss t.answer ≡ false) × AreBesideOne turns
