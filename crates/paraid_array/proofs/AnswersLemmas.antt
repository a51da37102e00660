-- What an array answers to an event.
use Rattle.std.specs.Prelude.{◌≡◌, ◌≢◌, ℕ, true, false, Option, Result, Ok, Err, OnOk, IfErr}
use Rattle.std.proofs.Common.{refl, sym, subst}
use Rattle.paraid_base.specs.declared.event.Answer.{Answer}
use Rattle.paraid_base.specs.declared.event.Answer.TheVariants.{Flushed, Halted}
use Rattle.paraid_base.specs.declared.event.Event.{Event}
use Rattle.paraid_base.specs.declared.event.Event.TheVariants.{Bad, Flush}
use Rattle.paraid_base.specs.declared.fault.Halt.{Halt}
use Rattle.paraid_base.specs.declared.pairs.Pairs.{Pairs}
use Rattle.paraid_rack.specs.Slots.{Slot}
use Rattle.paraid_rack.specs.Trail.{Trail}
use Rattle.paraid_scrub.specs.declared.kind.CheckReport.{CheckReport}
use Rattle.paraid_serve.specs.Causes.{HasCause}
use Rattle.paraid_session.specs.Turn.{may_halt}
use Rattle.paraid_trace.specs.Asked.{event_with}
use Rattle.paraid_trace.specs.declared.asked.Asked.{Asked}
use Rattle.paraid_upkeep.proofs.ToldLemmas.{extends_none}
use Rattle.paraid_array.specs.declared.array.Array.{Array}
use Rattle.paraid_array.specs.Arrays.{AnswersEvent, GoesOnByEvent, shown_of_array, told_of_array}
use Rattle.paraid_scrub.specs.Counts.{answer_to_check}

-- what may halt the array is a line of its own, and may be answered so
pub may_not_bad : (event : Event) → may_halt event ≡ true → event ≢ Bad
may_not_bad event asked is = let z : false ≡ true = subst (λ (e : Event). may_halt e ≡ true) is asked in cc

-- with no call, and it serves on
pub quiet_answers : {R : Type 0} {g : _} (count : R → ℕ) (slot : R → ℕ → Slot) (told : R → Option Trail) (a : Array R g) (event : Event) (answer : Answer) → GoesOnByEvent count told a a event answer → HasCause (shown_of_array slot a) event answer (shown_of_array slot a) → AnswersEvent count slot told a a event answer
quiet_answers count slot told a event answer turn cause = record {
  turn = turn;
  grows = extends_none (told_of_array told a);
  slots = refl;
  cause = cause;
}

-- what was asked for is an event
pub asked_answers : {R : Type 0} {g : _} (count : R → ℕ) (slot : R → ℕ → Slot) (told : R → Option Trail) (a b : Array R g) (x y : Asked) (pairs : Pairs) (answer : Answer) → x ≡ y → AnswersEvent count slot told a b (event_with y pairs) answer
    → AnswersEvent count slot told a b (event_with x pairs) answer
asked_answers count slot told a b x y pairs answer same it = subst (λ (z : Asked). AnswersEvent count slot told a b (event_with z pairs) answer) (sym same) it

-- a check is a flush
module _ {R : Type 0} {g : _} (count : R → ℕ) (slot : R → ℕ → Slot) (told : R → Option Trail) (a b : Array R g) (writes : ℕ) where
  pub check_turn : (r : Result CheckReport Halt) → AnswersEvent count slot told a b Flush (answer_to_check writes r) → OnOk r (GoesOnByEvent count told a b Flush (Flushed writes))
  check_turn (Ok report) it = it.turn
  check_turn (Err halt) it = tt

  pub check_ended : (r : Result CheckReport Halt) → AnswersEvent count slot told a b Flush (answer_to_check writes r) → IfErr r (λ halt. GoesOnByEvent count told a b Flush (Halted halt))
  check_ended (Ok report) it = tt
  check_ended (Err halt) it = it.turn
