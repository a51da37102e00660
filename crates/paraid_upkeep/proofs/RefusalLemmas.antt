-- Why a shift is refused.
use Rattle.std.proofs.Common.{◌≡◌, ℕ, ◌-◌, ◌<◌, ◌≤◌, true, false, List, Option, Some, None, refl, sym, ◌∙◌, ap, arith}
use Rattle.std.specs.Prelude.{nat_le, slice_index}
use Rattle.std.proofs.lemmas.Bool.Decides.{nat_tests}
use Rattle.paraid_base.specs.declared.state.Out.{Out as OutState}
use Rattle.paraid_base.specs.declared.state.Out.TheVariants.{No}
use Rattle.paraid_base.specs.declared.state.Phase.{Phase}
use Rattle.paraid_base.specs.declared.state.Phase.TheVariants.{Steady}
use Rattle.paraid_base.specs.Gears.{first_from, next_higher, next_lower}
use Rattle.paraid_base.specs.States.{named_out, phase_to}
use Rattle.paraid_base.proofs.GearsLemmas.{IsHigher, IsLower, first_from-none, first_from-some, next_higher-is, next_lower-is}
use Rattle.paraid_ration.specs.Ration.{IsFirstUsedUp, IsWithinAllowance}
use Rattle.paraid_record.specs.declared.meta.Meta.{Meta}
use Rattle.paraid_record.specs.declared.meta.Setup.{Setup}
use Rattle.paraid_record.specs.Range.{allowed_by, allowed_spins}
use Rattle.paraid_image.specs.Power.{PowerState}
use Rattle.paraid_machine.specs.Moves.{first_used_up}
use Rattle.paraid_upkeep.specs.Refusals.{IsAtEase, IsDownRefused, IsHinderedBy, IsShiftStateOf, IsUpRefused, MayGoDown, MayGoUp}
use Rattle.paraid_upkeep.specs.declared.fault.ShiftFault.{ShiftFault}
use Rattle.paraid_upkeep.specs.declared.fault.ShiftFault.TheVariants.{Lowest, Out, Ration, Shifting, Top}

module _ (m : Meta) (s : PowerState) (of : IsShiftStateOf m s) where
  lower_of : (answer : Option ℕ) → IsLower m.setup.geometry m.gear answer → next_lower m.setup.geometry s.gear ≡ answer
  lower_of answer is = ap (next_lower m.setup.geometry) of.gear ∙ next_lower-is m.setup.geometry m.gear answer is

  higher_of : (answer : Option ℕ) → IsHigher m.setup.geometry m.gear answer → next_higher m.setup.geometry s.gear ≡ answer
  higher_of answer is = ap (next_higher m.setup.geometry) of.gear ∙ next_higher-is m.setup.geometry m.gear answer is

  pub ease_of : m.phase ≡ Steady → m.out ≡ No → IsAtEase s.phase s.out
  ease_of steady whole = record { steady = of.phase ∙ steady; whole = of.out ∙ whole }

  hindered_of : (fault : ShiftFault) → IsHinderedBy m.phase m.out fault → IsHinderedBy s.phase s.out fault
  hindered_of Top h = h
  hindered_of Lowest h = h
  hindered_of (Shifting to) h = (λ is. h.0 (sym of.phase ∙ is), h.1 ∙ ap phase_to (sym of.phase))
  hindered_of (Out d) h = (of.phase ∙ h.0, ap named_out of.out ∙ h.1)
  hindered_of (Ration d) h = h

  pub lowest : (answer : Option ℕ) → answer ≡ None → IsLower m.setup.geometry m.gear answer → IsDownRefused m.setup s Lowest
  lowest answer none is = lower_of answer is ∙ none

  pub highest : (answer : Option ℕ) → answer ≡ None → IsHigher m.setup.geometry m.gear answer → IsUpRefused m.setup s Top
  highest answer none is = higher_of answer is ∙ none

  pub down_hindered : (answer : Option ℕ) (to : ℕ) (fault : ShiftFault) → answer ≡ Some to → IsLower m.setup.geometry m.gear answer → IsHinderedBy m.phase m.out fault → IsDownRefused m.setup s fault
  down_hindered answer to Top some is h = h
  down_hindered answer to Lowest some is h = absurd h
  down_hindered answer to (Shifting x) some is h = (to, lower_of answer is ∙ some, hindered_of (Shifting x) h)
  down_hindered answer to (Out d) some is h = (to, lower_of answer is ∙ some, hindered_of (Out d) h)
  down_hindered answer to (Ration d) some is h = absurd h

  pub up_hindered : (answer : Option ℕ) (to : ℕ) (fault : ShiftFault) → answer ≡ Some to → IsHigher m.setup.geometry m.gear answer → IsHinderedBy m.phase m.out fault → IsUpRefused m.setup s fault
  up_hindered answer to Top some is h = absurd h
  up_hindered answer to Lowest some is h = h
  up_hindered answer to (Shifting x) some is h = (to, higher_of answer is ∙ some, hindered_of (Shifting x) h)
  up_hindered answer to (Out d) some is h = (to, higher_of answer is ∙ some, hindered_of (Out d) h)
  up_hindered answer to (Ration d) some is h = h

  -- the first worn disk by the meta's own counts
  worn_is : (to : ℕ) → first_used_up m.setup s to ≡ first_from (λ d. nat_le (allowed_spins m) (slice_index m.spins d)) to (m.gear - to)
  worn_is to =
      ap (λ (z : ℕ). first_from (λ d. nat_le (allowed_by m.setup s.ticks) (slice_index s.spins d)) to (z - to)) of.gear
      ∙ ap (λ (z : List ℕ). first_from (λ d. nat_le (allowed_by m.setup s.ticks) (slice_index z d)) to (m.gear - to)) of.spins
      ∙ ap (λ (z : ℕ). first_from (λ d. nat_le (allowed_by m.setup z) (slice_index m.spins d)) to (m.gear - to)) of.ticks

  pub may_go_down : (answer : Option ℕ) (to : ℕ) → answer ≡ Some to → IsLower m.setup.geometry m.gear answer → m.phase ≡ Steady → m.out ≡ No → IsWithinAllowance m.spins (allowed_spins m) to m.gear → MayGoDown m.setup s to
  may_go_down answer to some is steady whole spared = record {
    next = lower_of answer is ∙ some;
    at_ease = ease_of steady whole;
    unworn =
        worn_is to
        ∙ first_from-none (λ d. nat_le (allowed_spins m) (slice_index m.spins d)) to (m.gear - to)
        (λ e low high. let below : slice_index m.spins e < allowed_spins m = spared.within e low (let h = high in let l = low in omega arith) in above (allowed_spins m) (slice_index m.spins e) below);
  }
    where
      above : (a b : ℕ) → b < a → nat_le a b ≡ false
      above a b l = grind (arith, nat_tests)

  pub down_worn : (answer : Option ℕ) (to d : ℕ) → answer ≡ Some to → IsLower m.setup.geometry m.gear answer → m.phase ≡ Steady → m.out ≡ No → IsFirstUsedUp m.spins (allowed_spins m) to m.gear d → IsDownRefused m.setup s (Ration d)
  down_worn answer to d some is steady whole used = (
    to,
    lower_of answer is ∙ some,
    ease_of steady whole,
    worn_is to
        ∙ first_from-some (λ e. nat_le (allowed_spins m) (slice_index m.spins e)) to (m.gear - to) d used.low (let h = used.high in let l = used.low in omega arith)
        (reached (allowed_spins m) (slice_index m.spins d) used.used_up)
        (λ e low high. above (allowed_spins m) (slice_index m.spins e) (used.before e low high)),
  )
    where
      above : (a b : ℕ) → b < a → nat_le a b ≡ false
      above a b l = grind (arith, nat_tests)

      reached : (a b : ℕ) → a ≤ b → nat_le a b ≡ true
      reached a b l = grind (arith, nat_tests)

  pub may_go_up : (answer : Option ℕ) (to : ℕ) → answer ≡ Some to → IsHigher m.setup.geometry m.gear answer → m.phase ≡ Steady → m.out ≡ No → MayGoUp m.setup s to
  may_go_up answer to some is steady whole = record { next = higher_of answer is ∙ some; at_ease = ease_of steady whole }

none_some : {a : Option ℕ} {x : ℕ} → a ≡ None → a ≡ Some x → ⊥
none_some {a} {x} none some = let z : None ≡ Some x = sym none ∙ some in cc

same_some : {a : Option ℕ} {x y : ℕ} → a ≡ Some x → a ≡ Some y → x ≡ y
same_some {a} {x} {y} first second = let z : Some x ≡ Some y = sym first ∙ second in cc

-- two faults that hinder a shift are the same
hindered_same : (phase : Phase) (out : OutState) (a b : ShiftFault) → IsHinderedBy phase out a → IsHinderedBy phase out b → a ≡ b
hindered_same phase out Top b first second = absurd first
hindered_same phase out Lowest b first second = absurd first
hindered_same phase out (Ration d) b first second = absurd first
hindered_same phase out (Shifting x) Top first second = absurd second
hindered_same phase out (Shifting x) Lowest first second = absurd second
hindered_same phase out (Shifting x) (Ration d) first second = absurd second
hindered_same phase out (Shifting x) (Shifting y) first second = ap Shifting (first.1 ∙ sym second.1)
hindered_same phase out (Shifting x) (Out d) first second = absurd (first.0 second.0)
hindered_same phase out (Out d) Top first second = absurd second
hindered_same phase out (Out d) Lowest first second = absurd second
hindered_same phase out (Out d) (Ration e) first second = absurd second
hindered_same phase out (Out d) (Shifting x) first second = absurd (second.0 first.0)
hindered_same phase out (Out d) (Out e) first second = ap Out (same_some first.1 second.1)

ease_hindered : (phase : Phase) (out : OutState) (fault : ShiftFault) → IsAtEase phase out → IsHinderedBy phase out fault → ⊥
ease_hindered phase out Top ease h = h
ease_hindered phase out Lowest ease h = h
ease_hindered phase out (Shifting x) ease h = h.0 ease.steady
ease_hindered phase out (Out d) ease h = none_some (ap named_out ease.whole) h.1
ease_hindered phase out (Ration d) ease h = h

-- a shift down has one refusal
pub down_refused_same : (setup : Setup) (s : PowerState) (a b : ShiftFault) → IsDownRefused setup s a → IsDownRefused setup s b → a ≡ b
down_refused_same setup s Top b first second = absurd first
down_refused_same setup s Lowest Top first second = absurd second
down_refused_same setup s Lowest Lowest first second = refl
down_refused_same setup s Lowest (Shifting y) first second = absurd (none_some first second.1)
down_refused_same setup s Lowest (Out e) first second = absurd (none_some first second.1)
down_refused_same setup s Lowest (Ration e) first second = absurd (none_some first second.1)
down_refused_same setup s (Shifting x) Top first second = absurd second
down_refused_same setup s (Shifting x) Lowest first second = absurd (none_some second first.1)
down_refused_same setup s (Shifting x) (Shifting y) first second = hindered_same s.phase s.out (Shifting x) (Shifting y) first.2 second.2
down_refused_same setup s (Shifting x) (Out e) first second = hindered_same s.phase s.out (Shifting x) (Out e) first.2 second.2
down_refused_same setup s (Shifting x) (Ration e) first second = absurd (ease_hindered s.phase s.out (Shifting x) second.2 first.2)
down_refused_same setup s (Out d) Top first second = absurd second
down_refused_same setup s (Out d) Lowest first second = absurd (none_some second first.1)
down_refused_same setup s (Out d) (Shifting y) first second = hindered_same s.phase s.out (Out d) (Shifting y) first.2 second.2
down_refused_same setup s (Out d) (Out e) first second = hindered_same s.phase s.out (Out d) (Out e) first.2 second.2
down_refused_same setup s (Out d) (Ration e) first second = absurd (ease_hindered s.phase s.out (Out d) second.2 first.2)
down_refused_same setup s (Ration d) Top first second = absurd second
down_refused_same setup s (Ration d) Lowest first second = absurd (none_some second first.1)
down_refused_same setup s (Ration d) (Shifting y) first second = absurd (ease_hindered s.phase s.out (Shifting y) first.2 second.2)
down_refused_same setup s (Ration d) (Out e) first second = absurd (ease_hindered s.phase s.out (Out e) first.2 second.2)
down_refused_same setup s (Ration d) (Ration e) first second =
    let next : first.0 ≡ second.0 = same_some first.1 second.1 in
    ap Ration (same_some first.3 (ap (first_used_up setup s) next ∙ second.3))

-- and none where it may begin
pub down_may_not : (setup : Setup) (s : PowerState) (to : ℕ) (fault : ShiftFault) → MayGoDown setup s to → IsDownRefused setup s fault → ⊥
down_may_not setup s to Top may why = why
down_may_not setup s to Lowest may why = none_some why may.next
down_may_not setup s to (Shifting x) may why = ease_hindered s.phase s.out (Shifting x) may.at_ease why.2
down_may_not setup s to (Out d) may why = ease_hindered s.phase s.out (Out d) may.at_ease why.2
down_may_not setup s to (Ration d) may why = none_some (ap (first_used_up setup s) (same_some why.1 may.next) ∙ may.unworn) why.3

pub up_refused_same : (setup : Setup) (s : PowerState) (a b : ShiftFault) → IsUpRefused setup s a → IsUpRefused setup s b → a ≡ b
up_refused_same setup s Lowest b first second = absurd first
up_refused_same setup s (Ration d) b first second = absurd first
up_refused_same setup s Top Lowest first second = absurd second
up_refused_same setup s Top (Ration e) first second = absurd second
up_refused_same setup s Top Top first second = refl
up_refused_same setup s Top (Shifting y) first second = absurd (none_some first second.1)
up_refused_same setup s Top (Out e) first second = absurd (none_some first second.1)
up_refused_same setup s (Shifting x) Lowest first second = absurd second
up_refused_same setup s (Shifting x) (Ration e) first second = absurd second
up_refused_same setup s (Shifting x) Top first second = absurd (none_some second first.1)
up_refused_same setup s (Shifting x) (Shifting y) first second = hindered_same s.phase s.out (Shifting x) (Shifting y) first.2 second.2
up_refused_same setup s (Shifting x) (Out e) first second = hindered_same s.phase s.out (Shifting x) (Out e) first.2 second.2
up_refused_same setup s (Out d) Lowest first second = absurd second
up_refused_same setup s (Out d) (Ration e) first second = absurd second
up_refused_same setup s (Out d) Top first second = absurd (none_some second first.1)
up_refused_same setup s (Out d) (Shifting y) first second = hindered_same s.phase s.out (Out d) (Shifting y) first.2 second.2
up_refused_same setup s (Out d) (Out e) first second = hindered_same s.phase s.out (Out d) (Out e) first.2 second.2

pub up_may_not : (setup : Setup) (s : PowerState) (to : ℕ) (fault : ShiftFault) → MayGoUp setup s to → IsUpRefused setup s fault → ⊥
up_may_not setup s to Top may why = none_some why may.next
up_may_not setup s to Lowest may why = why
up_may_not setup s to (Shifting x) may why = ease_hindered s.phase s.out (Shifting x) may.at_ease why.2
up_may_not setup s to (Out d) may why = ease_hindered s.phase s.out (Out d) may.at_ease why.2
up_may_not setup s to (Ration d) may why = why
