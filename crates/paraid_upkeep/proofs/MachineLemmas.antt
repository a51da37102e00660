-- What the machine answers to a shift that is asked for, with no disk lost.
use Rattle.std.proofs.Common.{◌≡◌, ◌≢◌, ℕ, Option, Some, None, [], ◌∷◌, refl, sym, ◌∙◌, ap}
use Rattle.paraid_base.specs.declared.event.Answer.{Answer}
use Rattle.paraid_base.specs.declared.event.Answer.TheVariants.{Out as IsOut, Shift, Shifting as IsShifting}
use Rattle.paraid_base.specs.declared.state.Out.{Out as OutState}
use Rattle.paraid_base.specs.declared.state.Out.TheVariants.{Fresh, Gone, No}
use Rattle.paraid_base.specs.declared.state.Phase.{Phase}
use Rattle.paraid_base.specs.declared.state.Phase.TheVariants.{Down, Steady, Up}
use Rattle.paraid_base.specs.Gears.{next_higher, next_lower}
use Rattle.paraid_base.specs.States.{named_out, phase_to}
use Rattle.paraid_record.specs.declared.meta.Setup.{Setup}
use Rattle.paraid_image.specs.Power.{PowerState}
use Rattle.paraid_machine.specs.Machine.{begin, go_down, go_up, out_refusal, ration_refusal, refusal_else, shift_refusal}
use Rattle.paraid_machine.specs.Moves.{begun_down, begun_up, first_used_up}
use Rattle.paraid_upkeep.specs.Refusals.{IsAtEase, IsDownRefused, IsUpRefused, MayGoDown, MayGoUp, fault_answer}
use Rattle.paraid_upkeep.specs.declared.fault.ShiftFault.{ShiftFault}
use Rattle.paraid_upkeep.specs.declared.fault.ShiftFault.TheVariants.{Lowest, Out, Ration, Shifting, Top}

at_ease : (phase : Phase) (out : OutState) → IsAtEase phase out → shift_refusal phase out ≡ None
at_ease phase out ease = ap (λ (z : Phase). shift_refusal z out) ease.steady ∙ ap out_refusal ease.whole

shifting : (phase : Phase) (out : OutState) (to : ℕ) → phase ≢ Steady → to ≡ phase_to phase → shift_refusal phase out ≡ Some (IsShifting to)
shifting Steady out to moves is = absurd (moves refl)
shifting (Down x) out to moves is = ap (λ (z : ℕ). Some (IsShifting z)) (sym is)
shifting (Up x) out to moves is = ap (λ (z : ℕ). Some (IsShifting z)) (sym is)

out_by : (out : OutState) (d : ℕ) → named_out out ≡ Some d → out_refusal out ≡ Some (IsOut d)
out_by No d is = let z : None ≡ Some d = is in cc
out_by (Gone x) d is = let z : Some x ≡ Some d = is in let y : x ≡ d = cc in ap (λ (k : ℕ). Some (IsOut k)) y
out_by (Fresh x u) d is = let z : Some x ≡ Some d = is in let y : x ≡ d = cc in ap (λ (k : ℕ). Some (IsOut k)) y

is_out : (phase : Phase) (out : OutState) (d : ℕ) → phase ≡ Steady → named_out out ≡ Some d → shift_refusal phase out ≡ Some (IsOut d)
is_out phase out d steady is = ap (λ (z : Phase). shift_refusal z out) steady ∙ out_by out d is

module _ (setup : Setup) (s : PowerState) where
  -- a shift down to this gear, by what refuses it first
  down_by : (to : ℕ) (first : Option Answer) → next_lower setup.geometry s.gear ≡ Some to → shift_refusal s.phase s.out ≡ first
      → go_down setup None s (next_lower setup.geometry s.gear) ≡ begin (refusal_else first (ration_refusal (first_used_up setup s to))) None s to (begun_down to s)
  down_by to first next is = ap (go_down setup None s) next ∙ ap (λ (z : Option Answer). begin (refusal_else z (ration_refusal (first_used_up setup s to))) None s to (begun_down to s)) is

  up_by : (to : ℕ) (first : Option Answer) → next_higher setup.geometry s.gear ≡ Some to → shift_refusal s.phase s.out ≡ first
      → go_up setup None s (next_higher setup.geometry s.gear) ≡ begin first None s to (begun_up to s)
  up_by to first next is = ap (go_up setup None s) next ∙ ap (λ (z : Option Answer). begin z None s to (begun_up to s)) is

  pub down_begins : (to : ℕ) → MayGoDown setup s to → go_down setup None s (next_lower setup.geometry s.gear) ≡ (Shift s.gear to, begun_down to s) ∷ []
  down_begins to may =
      down_by to None may.next (at_ease s.phase s.out may.at_ease)
      ∙ ap (λ (z : Option ℕ). begin (refusal_else None (ration_refusal z)) None s to (begun_down to s)) may.unworn

  pub up_begins : (to : ℕ) → MayGoUp setup s to → go_up setup None s (next_higher setup.geometry s.gear) ≡ (Shift s.gear to, begun_up to s) ∷ []
  up_begins to may = up_by to None may.next (at_ease s.phase s.out may.at_ease)

  pub down_stays : (fault : ShiftFault) → IsDownRefused setup s fault → go_down setup None s (next_lower setup.geometry s.gear) ≡ (fault_answer fault, s) ∷ []
  down_stays Top why = absurd why
  down_stays Lowest why = ap (go_down setup None s) why
  down_stays (Shifting to) why = down_by why.0 (Some (IsShifting to)) why.1 (shifting s.phase s.out to why.2.0 why.2.1)
  down_stays (Out d) why = down_by why.0 (Some (IsOut d)) why.1 (is_out s.phase s.out d why.2.0 why.2.1)
  down_stays (Ration d) why =
      down_by why.0 None why.1 (at_ease s.phase s.out why.2)
      ∙ ap (λ (z : Option ℕ). begin (refusal_else None (ration_refusal z)) None s why.0 (begun_down why.0 s)) why.3

  pub up_stays : (fault : ShiftFault) → IsUpRefused setup s fault → go_up setup None s (next_higher setup.geometry s.gear) ≡ (fault_answer fault, s) ∷ []
  up_stays Top why = ap (go_up setup None s) why
  up_stays Lowest why = absurd why
  up_stays (Shifting to) why = up_by why.0 (Some (IsShifting to)) why.1 (shifting s.phase s.out to why.2.0 why.2.1)
  up_stays (Out d) why = up_by why.0 (Some (IsOut d)) why.1 (is_out s.phase s.out d why.2.0 why.2.1)
  up_stays (Ration d) why = absurd why
