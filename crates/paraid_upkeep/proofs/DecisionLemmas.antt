-- What a tick at rest decides.
use Rattle.std.proofs.Common.{◌≡◌, ℕ, Bool, true, false, List, Option, Some, None, refl, sym, ◌∙◌, ap, subst}
use Rattle.std.specs.Prelude.{◌*◌, if◌then◌else◌}
use Rattle.paraid_base.specs.declared.state.TickEvent.{TickEvent}
use Rattle.paraid_base.specs.declared.state.TickEvent.TheVariants.{Begun, Flipped, Gone as GoneInTick, Lost, Moving, Ration as RationTick, Rebuilt, Steady as TickSteady, Waiting}
use Rattle.paraid_base.specs.Gears.{next_higher, next_lower}
use Rattle.paraid_base.specs.States.{named_out}
use Rattle.paraid_gear.specs.declared.decision.Decision.{Decision}
use Rattle.paraid_gear.specs.declared.decision.Decision.TheVariants.{Down, Stay, Up}
use Rattle.paraid_gear.specs.Decision.{decision, first_of_both, gear_down_for, gear_up_for, in_every_window}
use Rattle.paraid_gear.specs.Window.{is_busy, is_full, is_low_and_even}
use Rattle.paraid_record.specs.declared.meta.Setup.{Setup}
use Rattle.paraid_image.specs.Power.{PowerState}
use Rattle.paraid_machine.specs.Moves.{first_used_up}
use Rattle.paraid_record.specs.declared.meta.Meta.{Meta}
use Rattle.paraid_upkeep.specs.Refusals.{IsAtEase, IsDownRefused, IsShiftStateOf, IsUpRefused, MayGoDown, MayGoUp}
use Rattle.paraid_upkeep.specs.TickAnswers.{IsIdleTick, TellsDecision, TellsRest, TellsUsedUp}
use Rattle.paraid_upkeep.specs.declared.fault.ShiftFault.{ShiftFault}
use Rattle.paraid_upkeep.specs.declared.fault.ShiftFault.TheVariants.{Lowest, Out, Ration, Shifting, Top}

both_up : (full : Bool) (up down : Option ℕ) (to : ℕ) → (if full then first_of_both up down else Stay) ≡ Up to → up ≡ Some to
both_up false up down to is = let z : Stay ≡ Up to = is in cc
both_up true None None to is = let z : Stay ≡ Up to = is in cc
both_up true None (Some x) to is = let z : Down x ≡ Up to = is in cc
both_up true (Some x) down to is = let z : Up x ≡ Up to = is in let y : x ≡ to = cc in ap Some y

both_down : (full : Bool) (up down : Option ℕ) (to : ℕ) → (if full then first_of_both up down else Stay) ≡ Down to → down ≡ Some to
both_down false up down to is = let z : Stay ≡ Down to = is in cc
both_down true None None to is = let z : Stay ≡ Down to = is in cc
both_down true None (Some x) to is = let z : Down x ≡ Down to = is in let y : x ≡ to = cc in ap Some y
both_down true (Some x) down to is = let z : Up x ≡ Down to = is in cc

kept_if : (b : Bool) (x to : ℕ) → (if b then Some x else None) ≡ Some to → x ≡ to
kept_if true x to is = let z : Some x ≡ Some to = is in cc
kept_if false x to is = let z : None ≡ Some to = is in cc

up_next : (setup : Setup) (gear : ℕ) (samples : List ℕ) (next : Option ℕ) (to : ℕ) → gear_up_for setup gear samples next ≡ Some to → next ≡ Some to
up_next setup gear samples None to is = is
up_next setup gear samples (Some x) to is = ap Some (kept_if (in_every_window (is_busy (setup.up * setup.service * gear)) setup.windows samples) x to is)

down_next : (setup : Setup) (samples : List ℕ) (next : Option ℕ) (to : ℕ) → gear_down_for setup samples next ≡ Some to → next ≡ Some to
down_next setup samples None to is = is
down_next setup samples (Some x) to is = ap Some (kept_if (in_every_window (is_low_and_even (setup.down * setup.service * x)) setup.windows samples) x to is)

-- a gear that the samples ask for is the next one
pub decided_up : (setup : Setup) (gear : ℕ) (samples : List ℕ) (to : ℕ) → decision setup gear samples ≡ Up to → next_higher setup.geometry gear ≡ Some to
unfolding decision
decided_up setup gear samples to is =
    up_next setup gear samples (next_higher setup.geometry gear) to
    (both_up (in_every_window is_full setup.windows samples) (gear_up_for setup gear samples (next_higher setup.geometry gear)) (gear_down_for setup samples (next_lower setup.geometry gear)) to is)

pub decided_down : (setup : Setup) (gear : ℕ) (samples : List ℕ) (to : ℕ) → decision setup gear samples ≡ Down to → next_lower setup.geometry gear ≡ Some to
unfolding decision
decided_down setup gear samples to is =
    down_next setup samples (next_lower setup.geometry gear) to
    (both_down (in_every_window is_full setup.windows samples) (gear_up_for setup gear samples (next_higher setup.geometry gear)) (gear_down_for setup samples (next_lower setup.geometry gear)) to is)

some_of : (a b : ℕ) (o : Option ℕ) → o ≡ Some a → o ≡ Some b → a ≡ b
some_of a b o is was = let z : Some a ≡ Some b = sym is ∙ was in cc

module _ (setup : Setup) (s : PowerState) (made : Decision) (to : ℕ) where
  pub stays : made ≡ Stay → TellsDecision setup s made TickSteady
  stays is = subst (λ (z : Decision). TellsDecision setup s z TickSteady) (sym is) refl

  pub goes_up : (samples : List ℕ) (next : ℕ) → made ≡ decision setup s.gear samples → made ≡ Up to → MayGoUp setup s next → TellsDecision setup s made (Begun next)
  goes_up samples next by is may =
      subst (λ (z : Decision). TellsDecision setup s z (Begun next)) (sym is)
      (ap Begun (some_of next to (next_higher setup.geometry s.gear) may.next (decided_up setup s.gear samples to (sym by ∙ is))))

  pub goes_down : (samples : List ℕ) (next : ℕ) → made ≡ decision setup s.gear samples → made ≡ Down to → MayGoDown setup s next → TellsDecision setup s made (Begun next)
  goes_down samples next by is may =
      let same : next ≡ to = some_of next to (next_lower setup.geometry s.gear) may.next (decided_down setup s.gear samples to (sym by ∙ is)) in
      subst (λ (z : Decision). TellsDecision setup s z (Begun next)) (sym is)
      (subst (λ (z : Option ℕ). TellsUsedUp z to (Begun next)) (sym (ap (first_used_up setup s) (sym same) ∙ may.unworn)) (ap Begun same))

  -- in an array at rest a shift up that the samples ask for is not refused
  pub up_free : (samples : List ℕ) (fault : ShiftFault) → made ≡ decision setup s.gear samples → made ≡ Up to → IsAtEase s.phase s.out → IsUpRefused setup s fault → ⊥
  up_free samples Top by is ease why = let z : None ≡ Some to = sym why ∙ decided_up setup s.gear samples to (sym by ∙ is) in cc
  up_free samples Lowest by is ease why = why
  up_free samples (Shifting x) by is ease why = why.2.0 ease.steady
  up_free samples (Out d) by is ease why = let z : None ≡ Some d = ap named_out (sym ease.whole) ∙ why.2.1 in cc
  up_free samples (Ration d) by is ease why = why

  -- and a shift down only by a worn disk
  pub down_worn_only : (samples : List ℕ) (fault : ShiftFault) → made ≡ decision setup s.gear samples → made ≡ Down to → IsAtEase s.phase s.out → IsDownRefused setup s fault → (d : ℕ) × (fault ≡ Ration d)
  down_worn_only samples Top by is ease why = absurd why
  down_worn_only samples Lowest by is ease why = let z : None ≡ Some to = sym why ∙ decided_down setup s.gear samples to (sym by ∙ is) in cc
  down_worn_only samples (Shifting x) by is ease why = absurd (why.2.0 ease.steady)
  down_worn_only samples (Out d) by is ease why = let z : None ≡ Some d = ap named_out (sym ease.whole) ∙ why.2.1 in cc
  down_worn_only samples (Ration d) by is ease why = (d, refl)

  pub tells_worn : (samples : List ℕ) (d : ℕ) → made ≡ decision setup s.gear samples → made ≡ Down to → IsDownRefused setup s (Ration d) → TellsDecision setup s made (RationTick d)
  tells_worn samples d by is why =
      let same : why.0 ≡ to = some_of why.0 to (next_lower setup.geometry s.gear) why.1 (decided_down setup s.gear samples to (sym by ∙ is)) in
      subst (λ (z : Decision). TellsDecision setup s z (RationTick d)) (sym is)
      (subst (λ (z : Option ℕ). TellsUsedUp z to (RationTick d)) (sym (ap (first_used_up setup s) (sym same) ∙ why.3)) refl)

  -- what is told where it is refused
  pub tells_down : (samples : List ℕ) (fault : ShiftFault) (event : TickEvent) → made ≡ decision setup s.gear samples → made ≡ Down to → IsAtEase s.phase s.out → IsDownRefused setup s fault
      → ((d : ℕ) → fault ≡ Ration d → event ≡ RationTick d) → TellsDecision setup s made event
  tells_down samples fault event by is ease why told =
      let worn = down_worn_only samples fault by is ease why in
      subst (TellsDecision setup s made) (sym (told worn.0 worn.1)) (tells_worn samples worn.0 by is (subst (IsDownRefused setup s) worn.1 why))

-- what a tick tells that begins nothing, whatever the samples are
pub idle_rests : (m : Meta) (event : TickEvent) → IsIdleTick event → ((d : ℕ) → event ≡ RationTick d → (s : PowerState) → IsShiftStateOf m s → IsDownRefused m.setup s (Ration d)) → TellsRest m m event
idle_rests m TickSteady is worn = tt
idle_rests m Waiting is worn = is
idle_rests m Moving is worn = is
idle_rests m Flipped is worn = is
idle_rests m (Begun to) is worn = absurd is
idle_rests m (Rebuilt d) is worn = is
idle_rests m (GoneInTick d) is worn = is
idle_rests m (Lost d) is worn = is
idle_rests m (RationTick d) is worn = worn d refl
