-- Ticks move on, and end what is under way.
use Rattle.std.proofs.Common.{◌≡◌, ◌≢◌, ℕ, zero, suc, ◌+◌, ◌-◌, ◌*◌, ◌<◌, ◌≤◌, Bool, true, false, List, [], ◌∷◌, None, refl, sym, ap, ◌∙◌, subst, arith, inl, inr, if◌then◌else◌, min}
use Rattle.std.specs.Prelude.{◌==◌, Contains}
use Rattle.std.proofs.lemmas.Bool.{cases_lt, false≢true}
use Rattle.std.proofs.lemmas.Bool.Decides.{nat_tests}
use Rattle.paraid_base.specs.declared.event.Answer.{Answer}
use Rattle.paraid_base.specs.declared.event.Answer.TheVariants.{Ticked}
use Rattle.paraid_base.specs.declared.event.Event.{Event}
use Rattle.paraid_base.specs.declared.event.Event.TheVariants.{Read, Write, Flush, Tick, Up as AskUp, Down as AskDown, Fail, Replace, State as AskState, Energy as AskEnergy, Bad}
use Rattle.paraid_base.specs.declared.state.Out.{Out}
use Rattle.paraid_base.specs.declared.state.Out.TheVariants.{No, Fresh}
use Rattle.paraid_base.specs.declared.state.Phase.{Phase}
use Rattle.paraid_base.specs.declared.state.Phase.TheVariants.{Steady, Down, Up}
use Rattle.paraid_base.specs.declared.state.TickEvent.{TickEvent}
use Rattle.paraid_base.specs.declared.state.TickEvent.TheVariants.{Moving, Flipped, Rebuilt}
use Rattle.paraid_base.specs.History.{History}
use Rattle.paraid_base.specs.States.{phase_to}
use Rattle.paraid_image.specs.Power.{PowerState}
use Rattle.paraid_machine.specs.Machine.{IsEventStep, move, outcomes, report, tick_by_out, tick_by_phase}
use Rattle.paraid_machine.specs.Moves.{after_flip, after_units, state_with_tick, units_by, units_left, units_of_tick, units_to_rebuild}
use Rattle.paraid_record.specs.declared.meta.Mode.{Mode}
use Rattle.paraid_record.specs.declared.meta.Mode.TheVariants.{Whole, Access}
use Rattle.paraid_record.specs.Range.{rebuild_units}
use Rattle.paraid_record.specs.declared.meta.Setup.{Setup}
use Rattle.paraid_progress.specs.Progress.{AnswersEach, AnswersTell, AreMild, IsToldBy, TellsUnits, is_mild, counts_as_tick, ticks_in}
use Rattle.paraid_progress.proofs.MildLemmas.{event_calm, only}
use Rattle.paraid_progress.proofs.UnitLemmas.{KeepsShift, units_keep, units_moved}

-- What a tick of a shift does: it ends it; or it moves so many units, which are not all.
pub data TickOutcome (setup : Setup) (s : PowerState) (answer : Answer) (new : PowerState) : Type 0 where
  ends : IsToldBy Flipped answer → TickOutcome setup s answer new
  moves : IsToldBy Moving answer → KeepsShift s new → units_left setup new ≤ units_left setup s - units_of_tick setup s → units_of_tick setup s ≢ units_left setup s
      → TickOutcome setup s answer new

move_outcome : (setup : Setup) (s : PowerState) (b : Bool) → (units_of_tick setup s == units_left setup s) ≡ b → (it : Answer × PowerState) → Contains (move setup None (state_with_tick s) (units_of_tick setup s) b) it
    → TickOutcome setup s it.0 it.1
move_outcome setup s true is it among =
    let count = units_of_tick setup s in
    let end = after_flip (after_units setup count (state_with_tick s)) in
    subst (λ (x : Answer × PowerState). TickOutcome setup s x.0 x.1) (only (report end count Flipped) it among) (ends (end.gear, count, refl))
move_outcome setup s false is it among =
    let count = units_of_tick setup s in
    let t = state_with_tick s in
    let end = after_units setup count t in
    let kept = units_keep setup count t in
    subst (λ (x : Answer × PowerState). TickOutcome setup s x.0 x.1) (only (report end count Moving) it among)
    (moves (end.gear, count, refl) (record { gear = kept.gear; phase = kept.phase; out = kept.out }) (units_moved setup count t) (apart count (units_left setup s) is))
  where
    apart : (a b : ℕ) → (a == b) ≡ false → a ≢ b
    apart a b is same = grind (arith, nat_tests)

phase_outcome : (setup : Setup) (s : PowerState) (phase : Phase) → s.phase ≡ phase → 0 < phase_to phase → (it : Answer × PowerState) → Contains (tick_by_phase setup None (state_with_tick s) phase) it
    → TickOutcome setup s it.0 it.1
phase_outcome setup s Steady is some it among = absurd (omega arith)
phase_outcome setup s (Down to) is some it among = move_outcome setup s (units_of_tick setup s == units_left setup s) refl it among
phase_outcome setup s (Up to) is some it among = move_outcome setup s (units_of_tick setup s == units_left setup s) refl it among

pub shift_tick : (setup : Setup) (h : History) (used : ℕ) (s : PowerState) (answer : Answer) (new : PowerState) → s.out ≡ No → 0 < phase_to s.phase → IsEventStep setup h used s Tick None answer new
    → TickOutcome setup s answer new
unfolding outcomes
shift_tick setup h used s answer new whole some is =
    phase_outcome setup s s.phase refl some (answer, new)
    (subst (λ (o : Out). Contains (tick_by_out setup None (state_with_tick s) o) (answer, new)) whole is.among)

-- what a tick of a shift tells
move_tells : (setup : Setup) (s : PowerState) (b : Bool) → (units_of_tick setup s == units_left setup s) ≡ b → (it : Answer × PowerState) → Contains (move setup None (state_with_tick s) (units_of_tick setup s) b) it
    → TellsUnits (units_of_tick setup s) (units_left setup s) it.0
move_tells setup s true is it among =
    let count = units_of_tick setup s in
    let left = units_left setup s in
    let end = after_flip (after_units setup count (state_with_tick s)) in
    subst (λ (x : Answer × PowerState). TellsUnits count left x.0) (only (report end count Flipped) it among)
    (end.gear, ap (λ (b : Bool). Ticked (record { gear = end.gear; moved = count; event = if b then Flipped else Moving })) (sym is))
move_tells setup s false is it among =
    let count = units_of_tick setup s in
    let left = units_left setup s in
    let end = after_units setup count (state_with_tick s) in
    subst (λ (x : Answer × PowerState). TellsUnits count left x.0) (only (report end count Moving) it among)
    (end.gear, ap (λ (b : Bool). Ticked (record { gear = end.gear; moved = count; event = if b then Flipped else Moving })) (sym is))

phase_tells : (setup : Setup) (s : PowerState) (phase : Phase) → s.phase ≡ phase → 0 < phase_to phase → (it : Answer × PowerState) → Contains (tick_by_phase setup None (state_with_tick s) phase) it
    → TellsUnits (units_of_tick setup s) (units_left setup s) it.0
phase_tells setup s Steady is some it among = absurd (omega arith)
phase_tells setup s (Down to) is some it among = move_tells setup s (units_of_tick setup s == units_left setup s) refl it among
phase_tells setup s (Up to) is some it among = move_tells setup s (units_of_tick setup s == units_left setup s) refl it among

pub shift_tick_tells : (setup : Setup) (h : History) (used : ℕ) (s : PowerState) (answer : Answer) (new : PowerState) → s.out ≡ No → 0 < phase_to s.phase → IsEventStep setup h used s Tick None answer new
    → TellsUnits (units_of_tick setup s) (units_left setup s) answer
unfolding outcomes
shift_tick_tells setup h used s answer new whole some is =
    phase_tells setup s s.phase refl some (answer, new)
    (subst (λ (o : Out). Contains (tick_by_out setup None (state_with_tick s) o) (answer, new)) whole is.among)

-- a tick that does not move all moves as many as the rate
lesser_moved : (rate left : ℕ) → min rate left ≢ left → (min rate left ≡ rate) × (rate < left)
lesser_moved rate left apart = elim (cases_lt rate left) [ inl less ↦ (omega arith, less) | inr more ↦ absurd (apart (omega arith)) ]

rate_moved : (mode : Mode) (phase : Phase) (rate left : ℕ) → units_by mode phase rate left ≢ left → (units_by mode phase rate left ≡ rate) × (rate < left)
rate_moved Whole (Up to) rate left apart = absurd (apart refl)
rate_moved Whole (Down to) rate left apart = lesser_moved rate left apart
rate_moved Whole Steady rate left apart = lesser_moved rate left apart
rate_moved Access phase rate left apart = lesser_moved rate left apart

tick_is : (event : Event) → counts_as_tick event ≡ true → event ≡ Tick
tick_is (Read b) is = absurd (false≢true is)
tick_is (Write pairs) is = absurd (false≢true is)
tick_is Flush is = absurd (false≢true is)
tick_is Tick is = refl
tick_is AskUp is = absurd (false≢true is)
tick_is AskDown is = absurd (false≢true is)
tick_is (Fail d) is = absurd (false≢true is)
tick_is (Replace d) is = absurd (false≢true is)
tick_is AskState is = absurd (false≢true is)
tick_is AskEnergy is = absurd (false≢true is)
tick_is Bad is = absurd (false≢true is)

-- ticks that have room for more than one of them moves are more than one
more_ticks : (n left rate : ℕ) → left ≤ rate * (1 + n) → rate < left → 0 < n
more_ticks zero left rate room less = absurd (omega (arith, room, less))
more_ticks (suc n) left rate room less = omega arith

-- what the later events come to, if so much is left
abbrev Later : Setup → List (Event × Answer) → PowerState → Type 0
Later setup steps new = new.out ≡ No → 0 < phase_to new.phase → 0 < ticks_in steps → units_left setup new ≤ setup.rate * ticks_in steps → AnswersTell Flipped steps

after_tick : (setup : Setup) (step : Event × Answer) (steps : List (Event × Answer)) (s new : PowerState) → s.out ≡ No → 0 < phase_to s.phase → units_left setup s ≤ setup.rate * (1 + ticks_in steps)
    → Later setup steps new → TickOutcome setup s step.1 new → AnswersTell Flipped (step ∷ steps)
after_tick setup step steps s new whole some room later (ends told) = inl told
after_tick setup step steps s new whole some room later (moves told keeps left apart) =
    let rate = rate_moved setup.mode s.phase setup.rate (units_left setup s) apart in
    let moved = rate.0 in
    let split : setup.rate * (1 + ticks_in steps) ≡ setup.rate + setup.rate * ticks_in steps = omega arith in
    inr (later (keeps.out ∙ whole) (subst (λ (p : Phase). 0 < phase_to p) (sym keeps.phase) some) (more_ticks (ticks_in steps) (units_left setup s) setup.rate room rate.1)
    (omega (arith, left, moved, room, split)))

step_ends : (setup : Setup) (step : Event × Answer) (steps : List (Event × Answer)) (s new : PowerState) (h : History) (used : ℕ) → s.out ≡ No → 0 < phase_to s.phase → is_mild step.0 ≡ true
    → IsEventStep setup h used s step.0 None step.1 new → Later setup steps new → (b : Bool) → counts_as_tick step.0 ≡ b
    → 0 < (if b then 1 else 0) + ticks_in steps → units_left setup s ≤ setup.rate * ((if b then 1 else 0) + ticks_in steps) → AnswersTell Flipped (step ∷ steps)
step_ends setup step steps s new h used whole some mild came later true is ticks enough =
    after_tick setup step steps s new whole some enough later
    (shift_tick setup h used s step.1 new whole some (subst (λ (e : Event). IsEventStep setup h used s e None step.1 new) (tick_is step.0 is) came))
step_ends setup step steps s new h used whole some mild came later false is ticks enough =
    let calm = event_calm setup h used s step.0 step.1 new mild is came in
    let left = calm.left whole in
    inr (later (calm.keeps.out ∙ whole) (subst (λ (p : Phase). 0 < phase_to p) (sym calm.keeps.phase) some) (omega (arith, ticks)) (omega (arith, left, enough)))

pub shift_ends : (setup : Setup) (steps : List (Event × Answer)) (s : PowerState) → s.out ≡ No → 0 < phase_to s.phase → AnswersEach setup s steps → AreMild steps
    → 0 < ticks_in steps → units_left setup s ≤ setup.rate * ticks_in steps → AnswersTell Flipped steps
shift_ends setup [] s whole some each mild ticks enough = absurd (omega arith)
shift_ends setup (step ∷ steps) s whole some (h, used, new, came, each) mild ticks enough =
    step_ends setup step steps s new h used whole some mild.0 came (λ out phase. shift_ends setup steps new out phase each mild.1) (counts_as_tick step.0) refl ticks enough

-- a tick of a rebuild ends it, or moves as many units as the rate
pub data RebuildOutcome (setup : Setup) (s : PowerState) (d rebuilt : ℕ) (answer : Answer) (new : PowerState) : Type 0 where
  ends : IsToldBy (Rebuilt d) answer → RebuildOutcome setup s d rebuilt answer new
  moves : new.gear ≡ s.gear → new.out ≡ Fresh d (rebuilt + setup.rate) → setup.rate < units_to_rebuild setup s d rebuilt → RebuildOutcome setup s d rebuilt answer new

rebuild_outcome : (setup : Setup) (s : PowerState) (d rebuilt : ℕ) (b : Bool) → (min setup.rate (units_to_rebuild setup s d rebuilt) == units_to_rebuild setup s d rebuilt) ≡ b
    → (it : Answer × PowerState)
    → Contains
    ((let count = min setup.rate (units_to_rebuild setup s d rebuilt) in
    if b then report (record (state_with_tick s) { out = No }) count (Rebuilt d) else report (record (state_with_tick s) { out = Fresh d (rebuilt + count) }) count Moving)
    ∷ [])
    it
    → RebuildOutcome setup s d rebuilt it.0 it.1
rebuild_outcome setup s d rebuilt true is it among =
    let count = min setup.rate (units_to_rebuild setup s d rebuilt) in
    let end = record (state_with_tick s) { out = No } in
    subst (λ (x : Answer × PowerState). RebuildOutcome setup s d rebuilt x.0 x.1) (only (report end count (Rebuilt d)) it among) (ends (s.gear, count, refl))
rebuild_outcome setup s d rebuilt false is it among =
    let left = units_to_rebuild setup s d rebuilt in
    let count = min setup.rate left in
    let end = record (state_with_tick s) { out = Fresh d (rebuilt + count) } in
    let rate = lesser_moved setup.rate left (apart count left is) in
    subst (λ (x : Answer × PowerState). RebuildOutcome setup s d rebuilt x.0 x.1) (only (report end count Moving) it among)
    (moves refl (ap (λ (n : ℕ). Fresh d (rebuilt + n)) rate.0) rate.1)
  where
    apart : (a b : ℕ) → (a == b) ≡ false → a ≢ b
    apart a b is same = grind (arith, nat_tests)

rebuild_tick : (setup : Setup) (h : History) (used : ℕ) (s : PowerState) (d rebuilt : ℕ) (answer : Answer) (new : PowerState) → s.out ≡ Fresh d rebuilt → IsEventStep setup h used s Tick None answer new
    → RebuildOutcome setup s d rebuilt answer new
unfolding outcomes
rebuild_tick setup h used s d rebuilt answer new fresh is =
    let left = units_to_rebuild setup s d rebuilt in
    rebuild_outcome setup s d rebuilt (min setup.rate left == left) refl (answer, new)
    (subst (λ (o : Out). Contains (tick_by_out setup None (state_with_tick s) o) (answer, new)) fresh is.among)

abbrev LaterRebuilt : Setup → List (Event × Answer) → PowerState → ℕ → Type 0
LaterRebuilt setup steps new d =
    (rebuilt : ℕ) → new.out ≡ Fresh d rebuilt → 0 < ticks_in steps → units_to_rebuild setup new d rebuilt ≤ setup.rate * ticks_in steps → AnswersTell (Rebuilt d) steps

left_by : (setup : Setup) (s new : PowerState) (d rebuilt moved : ℕ) → new.gear ≡ s.gear → units_to_rebuild setup new d (rebuilt + moved) ≡ units_to_rebuild setup s d rebuilt - moved
left_by setup s new d rebuilt moved gear =
    let same = ap (λ (a : ℕ). rebuild_units setup.geometry a d) gear in
    omega (arith, same)

after_rebuild_tick : (setup : Setup) (step : Event × Answer) (steps : List (Event × Answer)) (s new : PowerState) (d rebuilt : ℕ) → units_to_rebuild setup s d rebuilt ≤ setup.rate * (1 + ticks_in steps)
    → LaterRebuilt setup steps new d → RebuildOutcome setup s d rebuilt step.1 new → AnswersTell (Rebuilt d) (step ∷ steps)
after_rebuild_tick setup step steps s new d rebuilt room later (ends told) = inl told
after_rebuild_tick setup step steps s new d rebuilt room later (moves gear out less) =
    let left = left_by setup s new d rebuilt setup.rate gear in
    let split : setup.rate * (1 + ticks_in steps) ≡ setup.rate + setup.rate * ticks_in steps = omega arith in
    inr (later (rebuilt + setup.rate) out (more_ticks (ticks_in steps) (units_to_rebuild setup s d rebuilt) setup.rate room less) (omega (arith, left, room, split)))

step_rebuilds : (setup : Setup) (step : Event × Answer) (steps : List (Event × Answer)) (s new : PowerState) (d rebuilt : ℕ) (h : History) (used : ℕ) → s.out ≡ Fresh d rebuilt → is_mild step.0 ≡ true
    → IsEventStep setup h used s step.0 None step.1 new → LaterRebuilt setup steps new d → (b : Bool) → counts_as_tick step.0 ≡ b
    → 0 < (if b then 1 else 0) + ticks_in steps → units_to_rebuild setup s d rebuilt ≤ setup.rate * ((if b then 1 else 0) + ticks_in steps) → AnswersTell (Rebuilt d) (step ∷ steps)
step_rebuilds setup step steps s new d rebuilt h used fresh mild came later true is ticks enough =
    after_rebuild_tick setup step steps s new d rebuilt enough later
    (rebuild_tick setup h used s d rebuilt step.1 new fresh (subst (λ (e : Event). IsEventStep setup h used s e None step.1 new) (tick_is step.0 is) came))
step_rebuilds setup step steps s new d rebuilt h used fresh mild came later false is ticks enough =
    let calm = event_calm setup h used s step.0 step.1 new mild is came in
    let same = ap (λ (a : ℕ). rebuild_units setup.geometry a d) calm.keeps.gear in
    inr (later rebuilt (calm.keeps.out ∙ fresh) (omega (arith, ticks)) (omega (arith, same, enough)))

pub rebuild_ends : (setup : Setup) (steps : List (Event × Answer)) (s : PowerState) (d rebuilt : ℕ) → s.out ≡ Fresh d rebuilt → AnswersEach setup s steps → AreMild steps
    → 0 < ticks_in steps → units_to_rebuild setup s d rebuilt ≤ setup.rate * ticks_in steps → AnswersTell (Rebuilt d) steps
rebuild_ends setup [] s d rebuilt fresh each mild ticks enough = absurd (omega arith)
rebuild_ends setup (step ∷ steps) s d rebuilt fresh (h, used, new, came, each) mild ticks enough =
    step_rebuilds setup step steps s new d rebuilt h used fresh mild.0 came (λ more out. rebuild_ends setup steps new d more out each mild.1) (counts_as_tick step.0) refl ticks enough

-- a tick that tells that it moves leaves at least so many fewer
pub tick_leaves_fewer : (setup : Setup) (s : PowerState) (answer : Answer) (new : PowerState) → TickOutcome setup s answer new → IsToldBy Moving answer
    → units_left setup new + units_of_tick setup s ≤ units_left setup s
tick_leaves_fewer setup s answer new (ends flipped) moving = absurd (apart (ap came (sym flipped.2 ∙ moving.2)))
  where
    came : Answer → TickEvent
    came (Ticked report) = report.event
    came other = Moving

    apart : ◌≡◌ {A = TickEvent} Flipped Moving → ⊥
    apart e = cc
tick_leaves_fewer setup s answer new (moves told keeps left apart) moving =
    let rate = rate_moved setup.mode s.phase setup.rate (units_left setup s) apart in
    let moved = rate.0 in
    let less = rate.1 in
    omega (arith, left, moved, less)
