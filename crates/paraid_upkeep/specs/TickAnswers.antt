-- What a tick answers that has counted itself.
use Rattle.std.specs.Prelude.{◌≡◌, ℕ, ◌+◌, ◌-◌, ◌<◌, ◌≤◌, ◌⊎◌, List, Option, Some, None}
use Rattle.paraid_base.specs.declared.state.Out.TheVariants.{Fresh, No}
use Rattle.paraid_base.specs.declared.state.Phase.TheVariants.{Down as PhaseDown}
use Rattle.paraid_base.specs.declared.state.TickEvent.{TickEvent}
use Rattle.paraid_base.specs.declared.state.TickEvent.TheVariants.{Begun, Flipped, Gone, Lost, Moving, Ration, Rebuilt, Steady, Waiting}
use Rattle.paraid_gear.specs.declared.decision.Decision.{Decision}
use Rattle.paraid_gear.specs.declared.decision.Decision.TheVariants.{Down, Stay, Up}
use Rattle.paraid_record.specs.declared.meta.Meta.{Meta}
use Rattle.paraid_record.specs.declared.meta.Setup.{Setup}
use Rattle.paraid_record.specs.Range.{rebuild_units}
use Rattle.paraid_image.specs.Mark.{meta_after_loss}
use Rattle.paraid_image.specs.Out.{named_out}
use Rattle.paraid_image.specs.Power.{PowerState}
use Rattle.paraid_machine.specs.Moves.{after_flip, after_loss, after_units, first_used_up, units_left, units_of_tick}
use Rattle.paraid_moves.specs.MoveMetas.{meta_after_begin}
use Rattle.paraid_core.specs.declared.staged.Core.{Core}
use Rattle.paraid_core.specs.Steps.{IsMarkedFrom}
use Rattle.paraid_event.specs.Moving.{GoesToState}
use Rattle.paraid_event.specs.Service.{IsStateOf, Service, service_of}
use Rattle.paraid_shift.specs.Rising.{HasBegunUp}
use Rattle.paraid_upkeep.specs.Refusals.{IsDownRefused, IsShiftStateOf, MayGoDown, MayGoUp}
use Rattle.paraid_upkeep.specs.declared.fault.ShiftFault.TheVariants.{Ration as Worn}

-- how many units of disk `d` are left, if `u` are rebuilt
abbrev pub units_unbuilt : Meta → ℕ → ℕ → ℕ
units_unbuilt m d u = rebuild_units m.setup.geometry m.gear d - u

-- A tick that rebuilds disk `d`, of which `u` units are rebuilt: it moves as many as the rate says
-- where more are left, or the last ones, and then the disk is back; or it is gone again. Nothing
-- else of the meta has changed but the epoch.
abbrev pub TellsRebuild : Meta → Meta → ℕ → ℕ → ℕ → TickEvent → Type 0
TellsRebuild m m_then d u count Steady = ⊥
TellsRebuild m m_then d u count Waiting = ⊥
TellsRebuild m m_then d u count Moving =
    (count ≡ m.setup.rate) × (m.setup.rate < units_unbuilt m d u)
    × (m_then ≡ record m { epoch = m_then.epoch; out = Fresh d (u + count) })
TellsRebuild m m_then d u count Flipped = ⊥
TellsRebuild m m_then d u count (Begun to) = ⊥
TellsRebuild m m_then d u count (Rebuilt e) = (e ≡ d) × (count ≡ units_unbuilt m d u)
    × (units_unbuilt m d u ≤ m.setup.rate) × (m_then ≡ record m { epoch = m_then.epoch; out = No })
TellsRebuild m m_then d u count (Gone e) =
    (e ≡ d) × (count ≡ 0) × (m_then ≡ record (meta_after_loss m d) { epoch = m_then.epoch })
TellsRebuild m m_then d u count (Lost e) = ⊥
TellsRebuild m m_then d u count (Ration e) = ⊥

-- a shift down that is due begins, unless a disk has used up its allowance
abbrev pub TellsUsedUp : Option ℕ → ℕ → TickEvent → Type 0
TellsUsedUp None to event = event ≡ Begun to
TellsUsedUp (Some d) to event = event ≡ Ration d

-- a tick at rest does what the samples ask for
abbrev pub TellsDecision : Setup → PowerState → Decision → TickEvent → Type 0
TellsDecision setup s Stay event = event ≡ Steady
TellsDecision setup s (Up to) event = event ≡ Begun to
TellsDecision setup s (Down to) event = TellsUsedUp (first_used_up setup s to) to event

-- such a tick that begins nothing
abbrev pub IsIdleTick : TickEvent → Type 0
IsIdleTick Steady = Unit {0}
IsIdleTick Waiting = ⊥
IsIdleTick Moving = ⊥
IsIdleTick Flipped = ⊥
IsIdleTick (Begun to) = ⊥
IsIdleTick (Rebuilt d) = ⊥
IsIdleTick (Gone d) = ⊥
IsIdleTick (Lost d) = ⊥
IsIdleTick (Ration d) = Unit {0}

-- a shift up to this gear might begin by the first meta, and has begun by the second
pub record HasTickedUp (m m_then : Meta) (to : ℕ) : Type 0 where
  pub could : (s : PowerState) → IsShiftStateOf m s → MayGoUp m.setup s to
  pub begun : HasBegunUp m m_then to

-- a shift down to this gear might begin by the first meta, and has begun by the second
pub record HasTickedDown (m m_then : Meta) (to : ℕ) : Type 0 where
  pub could : (s : PowerState) → IsShiftStateOf m s → MayGoDown m.setup s to
  pub begun : IsMarkedFrom
      (record (meta_after_begin m (PhaseDown to) m.spins) { epoch = m.epoch + 1 }) m_then

-- What a tick at rest may tell, whatever the samples are: nothing, that a shift has begun which
-- might, or the disk for whose allowance one down is refused.
abbrev pub TellsRest : Meta → Meta → TickEvent → Type 0
TellsRest m m_then Steady = Unit {0}
TellsRest m m_then Waiting = ⊥
TellsRest m m_then Moving = ⊥
TellsRest m m_then Flipped = ⊥
TellsRest m m_then (Begun to) = HasTickedUp m m_then to ⊎ HasTickedDown m m_then to
TellsRest m m_then (Rebuilt d) = ⊥
TellsRest m m_then (Gone d) = ⊥
TellsRest m m_then (Lost d) = ⊥
TellsRest m m_then (Ration d) = (s : PowerState)
    → IsShiftStateOf m s → IsDownRefused m.setup s (Worn d)

-- What a tick of a shift moves and tells, by the machine, from a state that was shown to the
-- service after it: units that do not end the shift; or the last ones, and it ends, after which a
-- disk may be lost; or a disk is lost after some of them.
abbrev pub TellsMove : Setup → PowerState → Service → ℕ → TickEvent → Type 0
TellsMove setup s k_then count Steady = ⊥
TellsMove setup s k_then count Waiting = ⊥
TellsMove setup s k_then count Moving = (count ≡ units_of_tick setup s)
    × (count < units_left setup s) × IsStateOf k_then (after_units setup count s)
TellsMove setup s k_then count Flipped =
    (count ≡ units_left setup s)
    × (count ≤ units_of_tick setup s) × GoesToState k_then (after_flip (after_units setup count s))
TellsMove setup s k_then count (Begun to) = ⊥
TellsMove setup s k_then count (Rebuilt d) = ⊥
TellsMove setup s k_then count (Gone d) = ⊥
TellsMove setup s k_then count (Lost d) =
    (count ≤ units_of_tick setup s) × (named_out k_then.meta.out ≡ Some d)
    × IsStateOf k_then (after_loss (after_units setup count s) d)
TellsMove setup s k_then count (Ration d) = ⊥

-- the same of a core, from each state that it shows
abbrev pub CoreMoves : {R : Type 0} {g : _} → (R → ℕ) → Core R g → Core R g → ℕ → TickEvent → Type 0
CoreMoves count old new moved event = (samples : List ℕ) (served energy : ℕ) (s : PowerState)
    → IsStateOf (service_of count old samples served energy) s
    → TellsMove old.meta.setup s (service_of count new samples served energy) moved event
