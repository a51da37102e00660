-- When a shift that is asked for begins, and why it is refused: the conditions of the machine, one
-- after the other.
use Rattle.std.specs.Prelude.{◌≡◌, ◌≢◌, ℕ, Some, None}
use Rattle.paraid_base.specs.declared.event.Answer.{Answer}
use Rattle.paraid_base.specs.declared.event.Answer.TheVariants.{Lowest as IsLowest, Out as IsOut, Ration as RationUsed, Shifting as IsShifting, Top as IsTop}
use Rattle.paraid_base.specs.declared.state.Out.{Out as OutState}
use Rattle.paraid_base.specs.declared.state.Out.TheVariants.{No}
use Rattle.paraid_base.specs.declared.state.Phase.{Phase}
use Rattle.paraid_base.specs.declared.state.Phase.TheVariants.{Down, Steady}
use Rattle.paraid_base.specs.Gears.{next_higher, next_lower}
use Rattle.paraid_base.specs.States.{named_out, phase_to}
use Rattle.paraid_record.specs.declared.meta.Meta.{Meta}
use Rattle.paraid_record.specs.declared.meta.Setup.{Setup}
use Rattle.paraid_image.specs.Power.{PowerState}
use Rattle.paraid_machine.specs.Moves.{first_used_up}
use Rattle.paraid_moves.specs.MoveMetas.{meta_after_begin}
use Rattle.paraid_core.specs.Steps.{IsMarkedFrom}
use Rattle.paraid_shift.specs.Rising.{HasBegunUp}
use Rattle.paraid_upkeep.specs.declared.asked.ShiftOutcome.{ShiftOutcome}
use Rattle.paraid_upkeep.specs.declared.asked.ShiftOutcome.TheVariants.{Begun, Refused}
use Rattle.paraid_upkeep.specs.declared.fault.ShiftFault.{ShiftFault}
use Rattle.paraid_upkeep.specs.declared.fault.ShiftFault.TheVariants.{Lowest, Out, Ration, Shifting, Top}

-- what a shift sees of the state is what this meta says
pub record IsShiftStateOf (m : Meta) (s : PowerState) : Type 0 where
  pub gear : s.gear ≡ m.gear
  pub phase : s.phase ≡ m.phase
  pub out : s.out ≡ m.out
  pub spins : s.spins ≡ m.spins
  pub ticks : s.ticks ≡ m.ticks

-- the answer that tells a refusal
abbrev pub fault_answer : ShiftFault → Answer
fault_answer Top = IsTop
fault_answer Lowest = IsLowest
fault_answer (Shifting to) = IsShifting to
fault_answer (Out d) = IsOut d
fault_answer (Ration d) = RationUsed d

-- no shift is under way, and no disk is out
pub record IsAtEase (phase : Phase) (out : OutState) : Type 0 where
  pub steady : phase ≡ Steady
  pub whole : out ≡ No

-- A shift that is under way hinders another one, and else the disk that is out.
abbrev pub IsHinderedBy : Phase → OutState → ShiftFault → Type 0
IsHinderedBy phase out Top = ⊥
IsHinderedBy phase out Lowest = ⊥
IsHinderedBy phase out (Shifting to) = (phase ≢ Steady) × (to ≡ phase_to phase)
IsHinderedBy phase out (Out d) = (phase ≡ Steady) × (named_out out ≡ Some d)
IsHinderedBy phase out (Ration d) = ⊥

-- a shift down to this gear may begin: it is the next lower one, nothing hinders it, and no disk
-- that it parks has used up its allowance
pub record MayGoDown (setup : Setup) (s : PowerState) (to : ℕ) : Type 0 where
  pub next : next_lower setup.geometry s.gear ≡ Some to
  pub at_ease : IsAtEase s.phase s.out
  pub unworn : first_used_up setup s to ≡ None

-- a shift up to this gear may begin
pub record MayGoUp (setup : Setup) (s : PowerState) (to : ℕ) : Type 0 where
  pub next : next_higher setup.geometry s.gear ≡ Some to
  pub at_ease : IsAtEase s.phase s.out

-- a shift down is refused so
abbrev pub IsDownRefused : Setup → PowerState → ShiftFault → Type 0
IsDownRefused setup s Top = ⊥
IsDownRefused setup s Lowest = next_lower setup.geometry s.gear ≡ None
IsDownRefused setup s (Shifting to) = (next : ℕ)
    × (next_lower setup.geometry s.gear ≡ Some next) × IsHinderedBy s.phase s.out (Shifting to)
IsDownRefused setup s (Out d) =
    (next : ℕ) × (next_lower setup.geometry s.gear ≡ Some next) × IsHinderedBy s.phase s.out (Out d)
IsDownRefused setup s (Ration d) = (next : ℕ) × (next_lower setup.geometry s.gear ≡ Some next)
    × IsAtEase s.phase s.out × (first_used_up setup s next ≡ Some d)

-- a shift up is refused so
abbrev pub IsUpRefused : Setup → PowerState → ShiftFault → Type 0
IsUpRefused setup s Top = next_higher setup.geometry s.gear ≡ None
IsUpRefused setup s Lowest = ⊥
IsUpRefused setup s (Shifting to) = (next : ℕ)
    × (next_higher setup.geometry s.gear ≡ Some next) × IsHinderedBy s.phase s.out (Shifting to)
IsUpRefused setup s (Out d) = (next : ℕ)
    × (next_higher setup.geometry s.gear ≡ Some next) × IsHinderedBy s.phase s.out (Out d)
IsUpRefused setup s (Ration d) = ⊥

-- A shift to gear `to` has begun; or it was refused, since a disk is out by the meta after it.
abbrev pub HasBegunOrLost : Meta → ℕ → ShiftOutcome → Type 0
HasBegunOrLost m_then to (Begun gear) = gear ≡ to
HasBegunOrLost m_then to (Refused fault) =
    (d : ℕ) × (fault ≡ Out d) × (named_out m_then.out ≡ Some d)

-- What a shift up that was asked for has left of the meta, so many commits later: where it has
-- begun its marks and the spin-ups of the disks that come up, and else the marks of a disk that was
-- lost with what was staged.
abbrev pub HasMarkedUp : Meta → Meta → ShiftOutcome → Type 0
HasMarkedUp m m_then (Begun to) = (epoch : ℕ) × HasBegunUp (record m { epoch = epoch }) m_then to
HasMarkedUp m m_then (Refused fault) =
    (epoch : ℕ) × IsMarkedFrom (record m { epoch = epoch }) m_then

-- the same of a shift down, which spins up no disk
abbrev pub HasMarkedDown : Meta → Meta → ShiftOutcome → Type 0
HasMarkedDown m m_then (Begun to) = (epoch : ℕ)
    × IsMarkedFrom (record (meta_after_begin m (Down to) m.spins) { epoch = epoch }) m_then
HasMarkedDown m m_then (Refused fault) =
    (epoch : ℕ) × IsMarkedFrom (record m { epoch = epoch }) m_then
