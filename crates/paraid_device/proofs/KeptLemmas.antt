-- What a device kept, one event after the other.
use Rattle.std.proofs.Common.{◌≡◌, ℕ, List, [], ◌∷◌, ◌++◌, refl, ap, ◌∙◌, subst}
use Rattle.paraid_base.specs.declared.event.Answer.{Answer}
use Rattle.paraid_base.specs.declared.event.Event.{Event}
use Rattle.paraid_base.specs.BlockAnswers.{Answers}
use Rattle.paraid_rack.specs.declared.call.Call.{Call}
use Rattle.paraid_rack.specs.Told.{Ran}
use Rattle.paraid_record.specs.declared.meta.Setup.{Setup}
use Rattle.paraid_session.specs.Turn.{GoesOn, Point}
use Rattle.paraid_serve.specs.declared.serves.Serves.{Ghosts}
use Rattle.paraid_serve.specs.Causes.{HasCause, Shown}
use Rattle.paraid_serve.specs.Stretch.{Turn, turn_with}
use Rattle.paraid_serve.proofs.GrowsLemmas.{grows_then, told_then}
use Rattle.paraid_serve.proofs.StretchLemmas.{stretch_more}
use Rattle.paraid_device.specs.Asking.{AsksArray}
use Rattle.paraid_device.specs.Devices.{AreBlockEvents, HasAnswered, HaveAnswerCauses, IsBlockEvent, answers_in}

answers_in-push : (ts : List Turn) (e : Event) (a : Answer) (cs : List Call) → answers_in (ts ++ turn_with e a cs ∷ []) ≡ answers_in ts ++ (e, a) ∷ []
answers_in-push [] e a cs = refl
answers_in-push (t ∷ ts) e a cs = ap (λ (l : Answers). (t.event, t.answer) ∷ l) (answers_in-push ts e a cs)

causes_then : (old mid new : Shown) (events : Answers) (event : Event) (answer : Answer) → HaveAnswerCauses old events mid → HasCause mid event answer new → HaveAnswerCauses old (events ++ (event, answer) ∷ []) new
causes_then old mid new [] event answer all is = (new, subst (λ (x : Shown). HasCause x event answer new) all is, refl)
causes_then old mid new (e ∷ events) event answer all is = (all.0, all.1, causes_then all.0 mid new events event answer all.2 is)

kinds_then : (events : Answers) (event : Event) (answer : Answer) → AreBlockEvents events → IsBlockEvent event → AreBlockEvents (events ++ (event, answer) ∷ [])
kinds_then [] event answer all is = (is, tt)
kinds_then (e ∷ events) event answer all is = (all.0, kinds_then events event answer all.1 is)

module _ {A : Type 0} (g : Ghosts A) where
  -- one event more was answered, as it is said
  pub answered_more : (first old new : A) (events : Answers) (event : Event) (answer said : Answer) → HasAnswered g first old events → AsksArray g old new event answer
      → answer ≡ said → IsBlockEvent event → HasAnswered g first new (events ++ (event, said) ∷ [])
  answered_more first old new events event answer said before asks same is_kind = record {
    same_slots = asks.same_slots ∙ before.same_slots;
    same_setup = asks.same_setup ∙ before.same_setup;
    grows = grows_then (g.told first) (g.told old) (g.told new) before.grows asks.grows;
    kinds = kinds_then events event said before.kinds is_kind;
    causes = causes_then (g.shown first) (g.shown old) (g.shown new) events event said before.causes (subst (λ (x : Answer). HasCause (g.shown old) event x (g.shown new)) same asks.cause);
    since = λ start s. asks.since start (before.since start s);
    leads = λ is p at.
        let a = before.leads (told_then (g.told old) (g.told new) asks.grows is) p at in
        let goes : (q : Point) → g.stands old q → Ran (g.told old) (g.told new) (GoesOn (g.slots first) (g.setup first) q event answer (g.stands new)) =
        λ q at_q.
        subst (λ (n : ℕ). Ran (g.told old) (g.told new) (GoesOn n (g.setup first) q event answer (g.stands new))) before.same_slots
        (subst (λ (z : Setup). Ran (g.told old) (g.told new) (GoesOn (g.slots old) z q event answer (g.stands new))) before.same_setup (asks.turn q at_q)) in
        let more = stretch_more a.all (g.told new) event answer (g.stands old) (g.stands new) a.stands goes is in
        record {
          asked = a.asked ++ event ∷ [];
          all = more.all;
          answered = ap answers_in more.turns ∙ answers_in-push a.all.turns event answer more.calls ∙ ap (λ (l : Answers). l ++ (event, answer) ∷ []) a.answered
              ∙ ap (λ (x : Answer). events ++ (event, x) ∷ []) same;
          stands = more.stands;
        };
  }
