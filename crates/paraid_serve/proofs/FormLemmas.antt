-- To each line that is answered belongs one answer more.
use Rattle.std.proofs.Common.{◌≡◌, ◌≢◌, ℕ, ◌+◌, ◌≤◌, List, None, Some, [], ◌∷◌, ◌++◌, refl, sym, ap, ◌∙◌, subst, arith}
use Rattle.std.proofs.lemmas.List.{append_assoc, append-nil}
use Rattle.paraid_base.specs.declared.event.Answer.{Answer}
use Rattle.paraid_base.specs.declared.event.Answer.TheVariants.{Bad as IsBad, Halted}
use Rattle.paraid_base.specs.declared.event.Event.{Event}
use Rattle.paraid_base.specs.declared.event.Event.TheVariants.{Bad}
use Rattle.paraid_base.specs.declared.fault.Halt.{Halt}
use Rattle.paraid_base.specs.declared.pairs.Pairs.{Pairs}
use Rattle.paraid_trace.specs.Asked.{event_with}
use Rattle.paraid_trace.specs.declared.asked.Asked.{Asked}
use Rattle.paraid_trace.specs.declared.asked.Asked.TheVariants.{Read as AskRead, Write as AskWrite, Flush as AskFlush, Tick as AskTick, Up as AskUp, Down as AskDown, Fail as AskFail, Replace as AskReplace, State as AskTellState, Energy as AskTellEnergy, Bad as AskBad}
use Rattle.paraid_trace.specs.LineEvents.{event_of}
use Rattle.paraid_trace.specs.Replies.{reply_of}
use Rattle.paraid_serve.specs.Causes.{CommitsFew, HasCause, HaveCauses, Shown, most_commits}
use Rattle.paraid_serve.specs.Form.{HasAnswers, texts}
use Rattle.paraid_serve.specs.Causes.HasReason.{again as reason_again, bad as reason_bad}
use Rattle.paraid_session.proofs.FaultLemmas.{same_counts}
use Rattle.paraid_session.specs.Powers.{AreSlotsSynced, FitsSlots}
use Rattle.paraid_serve.specs.Stretch.{events_in}
use Rattle.paraid_serve.proofs.StretchLemmas.{events_in-push}

-- what is asked for is no event only where that is said
pub not_bad : (a : Asked) (p : Pairs) → (a ≡ AskBad → ⊥) → event_with a p ≢ Bad
not_bad (AskRead block) p good e = cc
not_bad AskWrite p good e = cc
not_bad AskFlush p good e = cc
not_bad AskTick p good e = cc
not_bad AskUp p good e = cc
not_bad AskDown p good e = cc
not_bad (AskFail disk) p good e = cc
not_bad (AskReplace disk) p good e = cc
not_bad AskTellState p good e = cc
not_bad AskTellEnergy p good e = cc
not_bad AskBad p good e = absurd (good refl)

texts_push : (answers : List Answer) (answer : Answer) → texts (answers ++ answer ∷ []) ≡ texts answers ++ reply_of answer
texts_push [] answer = append-nil (reply_of answer)
texts_push (a ∷ answers) answer = ap (λ (l : List ℕ). reply_of a ++ l) (texts_push answers answer) ∙ sym (append_assoc (reply_of a) (texts answers) (reply_of answer))

none_more : (n m : ℕ) → n ≤ n + m
none_more n m = omega arith

-- no commit was made
pub commits_none : (x : Shown) (most : ℕ) → CommitsFew x x most
commits_none x most = record { later = le_same x.meta.epoch; few = none_more x.meta.epoch most }
  where
    le_same : (n : ℕ) → n ≤ n
    le_same n = omega arith

-- with nothing done
pub bad_cause : (x : Shown) → (x.halt ≡ None → FitsSlots x.slot x.meta) → (x.halt ≡ None → AreSlotsSynced x.meta x.slot) → HasCause x Bad IsBad x
bad_cause x fits synced = record { reason = reason_bad refl refl refl; setup = refl; halt = λ not. absurd (not refl); gear = λ not. absurd (not refl); counts = record { samples = refl; served = refl }; commits = λ going. commits_none x 0; later = same_counts x.slot; fits = fits; synced = synced }

pub again_cause : (x : Shown) (event : Event) (halt : Halt) → event ≢ Bad → x.halt ≡ Some halt → HasCause x event (Halted halt) x
again_cause x event halt good is = record { reason = reason_again halt is good refl refl; setup = refl; halt = λ not. is; gear = λ not. refl; counts = tt; commits = λ going. commits_none x (most_commits x event); later = same_counts x.slot; fits = λ going. let z : None ≡ Some halt = sym going ∙ is in absurd cc; synced = λ going. let z : None ≡ Some halt = sym going ∙ is in absurd cc }

pub causes_push : (old mid new : Shown) (events : List Event) (answers : List Answer) (event : Event) (answer : Answer) → HaveCauses old events answers mid → HasCause mid event answer new
    → HaveCauses old (events ++ event ∷ []) (answers ++ answer ∷ []) new
causes_push old mid new [] [] event answer all is = (new, subst (λ (x : Shown). HasCause x event answer new) all is, refl)
causes_push old mid new [] (a ∷ answers) event answer all is = absurd all
causes_push old mid new (e ∷ events) [] event answer all is = absurd all
causes_push old mid new (e ∷ events) (a ∷ answers) event answer all is = (all.0, all.1, causes_push all.0 mid new events answers event answer all.2 is)

pub no_answers : (x : Shown) → HasAnswers x [] [] x
no_answers x = record { answers = []; causes = refl; is = refl }

pub answers_push : (old mid new : Shown) (lines : List (List ℕ)) (text line : List ℕ) (event : Event) (answer : Answer) → event ≡ event_of line → HasCause mid event answer new → HasAnswers old lines text mid
    → HasAnswers old (lines ++ line ∷ []) (text ++ reply_of answer) new
answers_push old mid new lines text line event answer same cause h = record {
  answers = h.answers ++ answer ∷ [];
  causes = subst (λ (es : List Event). HaveCauses old es (h.answers ++ answer ∷ []) new) (sym (events_in-push lines line))
      (causes_push old mid new (events_in lines) h.answers (event_of line) answer h.causes (subst (λ (e : Event). HasCause mid e answer new) same cause));
  is = ap (λ x. x ++ reply_of answer) h.is ∙ sym (texts_push h.answers answer);
}
