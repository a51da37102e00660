-- Events that make no call.
use Rattle.std.proofs.Common.{◌≡◌, ◌≢◌, ℕ, ◌<◌, ◌≤◌, true, false, [], ◌∷◌, Option, Some, None, refl, sym, ap, ◌∙◌, subst, arith}
use Rattle.std.specs.Prelude.{◌==◌, nat_lt, Contains}
use Rattle.std.proofs.lemmas.Bool.Decides.{nat_tests}
use Rattle.paraid_base.specs.declared.event.Answer.{Answer}
use Rattle.paraid_base.specs.declared.event.Answer.TheVariants.{NoBlock, Top, Lowest, Shifting, NoDisk, Out as IsOut, NotOut, Ration as RationUsed, Halted}
use Rattle.paraid_base.specs.declared.event.Event.{Event}
use Rattle.paraid_base.specs.declared.event.Event.TheVariants.{Read, Write, Up as AskUp, Down as AskDown, Fail, Replace, Bad}
use Rattle.paraid_base.specs.declared.fault.Halt.TheVariants.{Worn}
use Rattle.paraid_base.specs.declared.pairs.Pairs.{Pairs}
use Rattle.paraid_base.specs.declared.state.Out.{Out}
use Rattle.paraid_base.specs.declared.state.Out.TheVariants.{No, Gone, Fresh}
use Rattle.paraid_base.specs.declared.state.Phase.{Phase}
use Rattle.paraid_base.specs.declared.state.Phase.TheVariants.{Steady, Down, Up}
use Rattle.paraid_base.specs.Gears.{next_higher, next_lower}
use Rattle.paraid_base.specs.Log.{worn_at}
use Rattle.paraid_base.specs.Pairs.{pairs_of}
use Rattle.paraid_base.specs.States.{named_out}
use Rattle.paraid_rack.specs.Told.{Ran}
use Rattle.paraid_rack.specs.Trail.{Trail}
use Rattle.paraid_rack.proofs.TrailsLemmas.{Ran-none}
use Rattle.paraid_record.specs.declared.meta.Setup.{Setup}
use Rattle.paraid_record.specs.Codes.{phase_to}
use Rattle.paraid_image.specs.Power.{PowerState}
use Rattle.paraid_machine.specs.Machine.{IsEventStep, block_count, blocks_named, first_missing, outcomes, put_in, shift_refusal, take_out}
use Rattle.paraid_machine.specs.Moves.{first_used_up}
use Rattle.paraid_session.specs.Turn.{GoesOn, Point, may_halt, point_wear, with_halt}
use Rattle.paraid_session.specs.Turn.IsTurn.{worn}
use Rattle.paraid_event.proofs.ApartLemmas.{down_not_bad, fail_not_bad, no_one, read_not_bad, replace_not_bad, up_not_bad, write_not_bad}
use Rattle.paraid_event.specs.Service.{Service}
use Rattle.paraid_event.specs.Stands.{StandsAt}
use Rattle.paraid_event.proofs.EventLemmas.{asked_turn, no_call}

shift_named : (o : Out) (d : ℕ) → named_out o ≡ Some d → shift_refusal Steady o ≡ Some (IsOut d)
shift_named No d is = absurd (no_one is)
shift_named (Gone e) d is = ap (λ (x : ℕ). Some (IsOut x)) (let z : Some e ≡ Some d = is in let same : e ≡ d = cc in same)
shift_named (Fresh e u) d is = ap (λ (x : ℕ). Some (IsOut x)) (let z : Some e ≡ Some d = is in let same : e ≡ d = cc in same)

shifting_to : (phase : Phase) (o : Out) → phase ≢ Steady → shift_refusal phase o ≡ Some (Shifting (phase_to phase))
shifting_to Steady o not = absurd (not refl)
shifting_to (Down to) o not = refl
shifting_to (Up to) o not = refl

below_test : (a b : ℕ) → a < b → nat_lt a b ≡ true
below_test a b l = grind (arith, nat_tests)

past_test : (a b : ℕ) → b ≤ a → nat_lt a b ≡ false
past_test a b l = grind (arith, nat_tests)

module _ (told : Option Trail) (k : Service) (setup : Setup) (p : Point) (at : StandsAt told k setup p) (fit : point_wear p < worn_at) where
  abbrev Stays : Event → Answer → Type 0
  Stays event answer = Ran told told (GoesOn k.slots setup p event answer (StandsAt told k setup))

  -- a read or a write of a block that there is not
  pub read_missing : (block : ℕ) → block_count setup ≤ block → Stays (Read block) (NoBlock block)
  unfolding outcomes
  read_missing block past = no_call told k setup p at (Read block) (NoBlock block)
      (asked_turn told k setup p at (Read block) (NoBlock block) refl refl (λ a. refl) (λ e. read_not_bad e) (λ asked. fit) step refl refl refl refl (refl, refl))
    where
      missing : first_missing (block_count setup) (block ∷ []) ≡ Some block
      missing = rw (past_test block (block_count setup) past) refl

      step : IsEventStep setup p.history p.energy p.state (Read block) None (NoBlock block) p.state
      step = record { among = rw missing (0, omega arith, refl) }

  pub write_missing : (pairs : Pairs) (block : ℕ) → first_missing (block_count setup) (blocks_named (pairs_of pairs)) ≡ Some block → Stays (Write pairs) (NoBlock block)
  unfolding outcomes
  write_missing pairs block missing = no_call told k setup p at (Write pairs) (NoBlock block)
      (asked_turn told k setup p at (Write pairs) (NoBlock block) refl refl (λ a. refl) (λ e. write_not_bad e) (λ asked. fit) step refl refl refl refl (refl, refl))
    where
      step : IsEventStep setup p.history p.energy p.state (Write pairs) None (NoBlock block) p.state
      step = record { among = rw missing (0, omega arith, refl) }

  -- shifts that are refused
  pub up_top : next_higher setup.geometry p.state.gear ≡ None → Stays AskUp Top
  unfolding outcomes
  up_top none = no_call told k setup p at AskUp Top (asked_turn told k setup p at AskUp Top refl refl (λ a. refl) (λ e. up_not_bad e) (λ asked. fit) step refl refl refl refl (refl, refl))
    where
      step : IsEventStep setup p.history p.energy p.state AskUp None Top p.state
      step = record { among = rw none (0, omega arith, refl) }

  pub down_lowest : next_lower setup.geometry p.state.gear ≡ None → Stays AskDown Lowest
  unfolding outcomes
  down_lowest none = no_call told k setup p at AskDown Lowest (asked_turn told k setup p at AskDown Lowest refl refl (λ a. refl) (λ e. down_not_bad e) (λ asked. fit) step refl refl refl refl (refl, refl))
    where
      step : IsEventStep setup p.history p.energy p.state AskDown None Lowest p.state
      step = record { among = rw none (0, omega arith, refl) }

  pub up_shifting : (to : ℕ) → next_higher setup.geometry p.state.gear ≡ Some to → p.state.phase ≢ Steady → Stays AskUp (Shifting (phase_to p.state.phase))
  unfolding outcomes
  up_shifting to some not = no_call told k setup p at AskUp (Shifting (phase_to p.state.phase))
      (asked_turn told k setup p at AskUp (Shifting (phase_to p.state.phase)) refl refl (λ a. refl) (λ e. up_not_bad e) (λ asked. fit) step refl refl refl refl (refl, refl))
    where
      step : IsEventStep setup p.history p.energy p.state AskUp None (Shifting (phase_to p.state.phase)) p.state
      step = record { among = rw (some, shifting_to p.state.phase p.state.out not) (0, omega arith, refl) }

  pub down_shifting : (to : ℕ) → next_lower setup.geometry p.state.gear ≡ Some to → p.state.phase ≢ Steady → Stays AskDown (Shifting (phase_to p.state.phase))
  unfolding outcomes
  down_shifting to some not = no_call told k setup p at AskDown (Shifting (phase_to p.state.phase))
      (asked_turn told k setup p at AskDown (Shifting (phase_to p.state.phase)) refl refl (λ a. refl) (λ e. down_not_bad e) (λ asked. fit) step refl refl refl refl (refl, refl))
    where
      step : IsEventStep setup p.history p.energy p.state AskDown None (Shifting (phase_to p.state.phase)) p.state
      step = record { among = rw (some, shifting_to p.state.phase p.state.out not) (0, omega arith, refl) }

  pub up_out : (to d : ℕ) → next_higher setup.geometry p.state.gear ≡ Some to → p.state.phase ≡ Steady → named_out p.state.out ≡ Some d → Stays AskUp (IsOut d)
  unfolding outcomes
  up_out to d some steady out = no_call told k setup p at AskUp (IsOut d)
      (asked_turn told k setup p at AskUp (IsOut d) refl refl (λ a. refl) (λ e. up_not_bad e) (λ asked. fit) step refl refl refl refl (refl, refl))
    where
      step : IsEventStep setup p.history p.energy p.state AskUp None (IsOut d) p.state
      step = record { among = rw (some, ap (λ (x : Phase). shift_refusal x p.state.out) steady ∙ shift_named p.state.out d out) (0, omega arith, refl) }

  pub down_out : (to d : ℕ) → next_lower setup.geometry p.state.gear ≡ Some to → p.state.phase ≡ Steady → named_out p.state.out ≡ Some d → Stays AskDown (IsOut d)
  unfolding outcomes
  down_out to d some steady out = no_call told k setup p at AskDown (IsOut d)
      (asked_turn told k setup p at AskDown (IsOut d) refl refl (λ a. refl) (λ e. down_not_bad e) (λ asked. fit) step refl refl refl refl (refl, refl))
    where
      step : IsEventStep setup p.history p.energy p.state AskDown None (IsOut d) p.state
      step = record { among = rw (some, ap (λ (x : Phase). shift_refusal x p.state.out) steady ∙ shift_named p.state.out d out) (0, omega arith, refl) }

  pub down_ration : (to d : ℕ) → next_lower setup.geometry p.state.gear ≡ Some to → p.state.phase ≡ Steady → p.state.out ≡ No → first_used_up setup p.state to ≡ Some d → Stays AskDown (RationUsed d)
  unfolding outcomes
  down_ration to d some steady no_out used = no_call told k setup p at AskDown (RationUsed d)
      (asked_turn told k setup p at AskDown (RationUsed d) refl refl (λ a. refl) (λ e. down_not_bad e) (λ asked. fit) step refl refl refl refl (refl, refl))
    where
      free : shift_refusal p.state.phase p.state.out ≡ None
      free = ap (λ (x : Phase). shift_refusal x p.state.out) steady ∙ ap (λ (o : Out). shift_refusal Steady o) no_out

      step : IsEventStep setup p.history p.energy p.state AskDown None (RationUsed d) p.state
      step = record { among = rw (some, free, used) (0, omega arith, refl) }

  -- disks that are not there, or not out, or already out
  pub fail_no_disk : (d : ℕ) → setup.geometry.disks ≤ d → Stays (Fail d) (NoDisk d)
  unfolding outcomes
  fail_no_disk d past = no_call told k setup p at (Fail d) (NoDisk d)
      (asked_turn told k setup p at (Fail d) (NoDisk d) refl refl (λ a. refl) (λ e. fail_not_bad e) (λ asked. fit) step refl refl refl refl (refl, refl))
    where
      step : IsEventStep setup p.history p.energy p.state (Fail d) None (NoDisk d) p.state
      step = record { among = rw (past_test d setup.geometry.disks past) (0, omega arith, refl) }

  pub replace_no_disk : (d : ℕ) → setup.geometry.disks ≤ d → Stays (Replace d) (NoDisk d)
  unfolding outcomes
  replace_no_disk d past = no_call told k setup p at (Replace d) (NoDisk d)
      (asked_turn told k setup p at (Replace d) (NoDisk d) refl refl (λ a. refl) (λ e. replace_not_bad e) (λ asked. fit) step refl refl refl refl (refl, refl))
    where
      step : IsEventStep setup p.history p.energy p.state (Replace d) None (NoDisk d) p.state
      step = record { among = rw (past_test d setup.geometry.disks past) (0, omega arith, refl) }

  out_taken : (o : Out) (d e : ℕ) → named_out o ≡ Some e → Contains (take_out None p.state d o) (IsOut e, p.state)
  out_taken No d e is = absurd (no_one is)
  out_taken (Gone x) d e is = let z : Some x ≡ Some e = is in let same : x ≡ e = cc in subst (λ (y : ℕ). Contains {X = Answer × PowerState} ((IsOut x, p.state) ∷ []) (IsOut y, p.state)) same (0, omega arith, refl)
  out_taken (Fresh x u) d e is = let z : Some x ≡ Some e = is in let same : x ≡ e = cc in subst (λ (y : ℕ). Contains {X = Answer × PowerState} ((IsOut x, p.state) ∷ []) (IsOut y, p.state)) same (0, omega arith, refl)

  pub fail_out : (d e : ℕ) → d < setup.geometry.disks → named_out p.state.out ≡ Some e → Stays (Fail d) (IsOut e)
  unfolding outcomes
  fail_out d e low out = no_call told k setup p at (Fail d) (IsOut e)
      (asked_turn told k setup p at (Fail d) (IsOut e) refl refl (λ a. refl) (λ z. let y : Fail d ≡ Bad = z in cc) (λ asked. fit) step refl refl refl refl (refl, refl))
    where
      step : IsEventStep setup p.history p.energy p.state (Fail d) None (IsOut e) p.state
      step = record { among = rw (below_test d setup.geometry.disks low) (out_taken p.state.out d e out) }

  apart_test : (a b : ℕ) → a ≢ b → (a == b) ≡ false
  apart_test a b l = grind (arith, nat_tests)

  not_put : (o : Out) (d : ℕ) → named_out o ≢ Some d → Contains (put_in None p.state d o) (NotOut d, p.state)
  not_put No d not = (0, omega arith, refl)
  not_put (Gone x) d not = rw (apart_test d x (λ same. not (ap (λ (y : ℕ). Some y) (sym same)))) (0, omega arith, refl)
  not_put (Fresh x u) d not = rw (apart_test d x (λ same. not (ap (λ (y : ℕ). Some y) (sym same)))) (0, omega arith, refl)

  pub replace_not_out : (d : ℕ) → d < setup.geometry.disks → named_out p.state.out ≢ Some d → Stays (Replace d) (NotOut d)
  unfolding outcomes
  replace_not_out d low not = no_call told k setup p at (Replace d) (NotOut d)
      (asked_turn told k setup p at (Replace d) (NotOut d) refl refl (λ a. refl) (λ z. let y : Replace d ≡ Bad = z in cc) (λ asked. fit) step refl refl refl refl (refl, refl))
    where
      step : IsEventStep setup p.history p.energy p.state (Replace d) None (NotOut d) p.state
      step = record { among = rw (below_test d setup.geometry.disks low) (not_put p.state.out d not) }

-- an array that takes no more
pub worn_turn : (told : Option Trail) (k : Service) (setup : Setup) (p : Point) → StandsAt told k setup p → (event : Event) → event ≢ Bad → may_halt event ≡ true → worn_at ≤ point_wear p
    → Ran told told (GoesOn k.slots setup p event (Halted (Worn (point_wear p))) (λ q. q ≡ with_halt p (Worn (point_wear p))))
worn_turn told k setup p at event not_bad asked many =
    Ran-none (GoesOn k.slots setup p event (Halted (Worn (point_wear p))) (λ q. q ≡ with_halt p (Worn (point_wear p))))
    (λ s. (with_halt p (Worn (point_wear p)), worn (point_wear p) at.going not_bad refl (record { asked = asked; many = many; is = refl }) refl refl, refl)) told
