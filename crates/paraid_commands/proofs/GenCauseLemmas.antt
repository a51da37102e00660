-- From the causes of generated lines to those of the whole text of `gen`.
use Rattle.std.proofs.Common.{◌≡◌, ℕ, ◌+◌, List, [], ◌∷◌, ◌++◌, length, take, drop, Option, refl, sym, ap, ◌∙◌, inl, inr, arith, subst, take-append-drop, add-one}
use Rattle.std.proofs.lemmas.List.{take_all}
use Rattle.paraid_base.specs.declared.event.Answer.{Answer}
use Rattle.paraid_base.specs.declared.event.Answer.TheVariants.{Flushed, Halted}
use Rattle.paraid_base.specs.declared.event.Event.{Event}
use Rattle.paraid_base.specs.declared.event.Event.TheVariants.{Flush}
use Rattle.paraid_base.specs.declared.fault.Halt.{Halt}
use Rattle.paraid_machine.specs.Machine.{block_count}
use Rattle.paraid_serve.specs.Causes.{HasCause, HaveCauses, Shown}
use Rattle.paraid_serve.specs.Ending.{EndsWithLine, end_line, halt_line, mount_line, status_of_halt}
use Rattle.paraid_serve.specs.Output.{first_line}
use Rattle.paraid_serve.proofs.FormLemmas.{causes_push}
use Rattle.paraid_trace.specs.Generated.{generated_event}
use Rattle.paraid_commands.specs.declared.tally.Tally.{Tally}
use Rattle.paraid_commands.specs.GenCauses.{CountsCauses, GenCaused, HasGenCauses, TellsGenerated, tally_over}
use Rattle.paraid_commands.specs.GenCauses.GenCaused.{done, halted}
use Rattle.paraid_commands.specs.GenCauses.HasGenCauses.{at_first_line, before_flush, last_line, whole}
use Rattle.paraid_commands.specs.GenEvents.{generated_events, summary}
use Rattle.paraid_commands.specs.Tally.{empty_tally, tally_with_answer, tally_with_event}

tally_over-push : (t : Tally) (events : List Event) (answers : List Answer) (event : Event) (answer : Answer) (x y : Shown) → HaveCauses x events answers y
    → tally_over t (events ++ event ∷ []) (answers ++ answer ∷ []) ≡ tally_with_answer (tally_with_event (tally_over t events answers) event) answer
tally_over-push t [] [] event answer x y all = refl
tally_over-push t [] (a ∷ answers) event answer x y all = absurd all
tally_over-push t (e ∷ events) [] event answer x y all = absurd all
tally_over-push t (e ∷ events) (a ∷ answers) event answer x y all = tally_over-push (tally_with_answer (tally_with_event t e) a) events answers event answer all.0 y all.2

pub causes_none : (x : Shown) (number : ℕ) → CountsCauses x number 0 empty_tally x
causes_none x number = record { answers = []; causes = refl; counted = refl }

pub causes_more : {x mid : Shown} {number i : ℕ} {tally : Tally} (c : CountsCauses x number i tally mid)
    → (event : Event) (answer : Answer) (y : Shown) (blocks : ℕ) (new : Tally) → blocks ≡ block_count x.setup → event ≡ generated_event number i blocks → HasCause mid event answer y
    → new ≡ tally_with_answer (tally_with_event tally event) answer → CountsCauses x number (i + 1) new y
causes_more {x} {mid} {number} {i} {tally} c event answer y blocks new count is cause counts =
    let before = generated_events number (block_count x.setup) i in
    let asked : before ++ event ∷ [] ≡ generated_events number (block_count x.setup) (i + 1) = ap (λ (e : Event). before ++ e ∷ []) (is ∙ ap (generated_event number i) count) ∙ rw add-one refl in
    record {
      answers = c.answers ++ answer ∷ [];
      causes = subst (λ (es : List Event). HaveCauses x es (c.answers ++ answer ∷ []) y) asked (causes_push x mid y before c.answers event answer c.causes cause);
      counted = counts ∙ ap (λ (t : Tally). tally_with_answer (tally_with_event t event) answer) c.counted ∙ sym (tally_over-push empty_tally before c.answers event answer x mid c.causes)
          ∙ ap (λ (es : List Event). tally_over empty_tally es (c.answers ++ answer ∷ [])) asked;
    }

-- the lines before the flush
pub tells_generated : (x mid : Shown) (number count : ℕ) (tally : Tally) (writes gear gear_now energy : ℕ) → mount_line writes gear ≡ first_line x → CountsCauses x number count tally mid → gear_now ≡ mid.gear → energy ≡ mid.energy
    → TellsGenerated x number count (mount_line writes gear) (summary count tally gear_now energy) mid
tells_generated x mid number count tally writes gear gear_now energy shows counts geared used = record {
  tally = tally;
  counts = counts;
  begins = shows;
  sums = ap (λ (n : ℕ). summary count tally n energy) geared ∙ ap (λ (n : ℕ). summary count tally mid.gear n) used;
}

-- the last line, or a first part of it
pub gen_caused : (x y : Shown) (number count : ℕ) (text line : List ℕ) (before after : Option (List ℕ)) (code status : ℕ) → GenCaused x y number count code text line
    → (e : EndsWithLine before after line code status) → HasGenCauses x y number count status (text ++ take e.count line)
gen_caused x y number count text line before after code status out e = elim e.whole [
  | inl four ↦ last_line four code text line e.count out refl
  | inr all ↦ whole text line (subst (λ (k : ℕ). GenCaused x y number count k text line) (sym all.1) out)
      (ap (λ (l : List ℕ). text ++ l) (taken e.count line all.0))
]
  where
    taken : (n : ℕ) (line : List ℕ) → n ≡ length line → take n line ≡ line
    taken n line is = take_all n line (omega (arith, is))

pub flushed_caused : (x mid y : Shown) (number count : ℕ) (head rest : List ℕ) (writes : ℕ) → TellsGenerated x number count head rest mid → HasCause mid Flush (Flushed writes) y → GenCaused x y number count 0 (head ++ rest) (end_line writes)
flushed_caused x mid y number count head rest writes lines cause = done writes head rest mid lines cause

pub halt_caused : (x mid y : Shown) (number count : ℕ) (head rest : List ℕ) (halt : Halt) → TellsGenerated x number count head rest mid → HasCause mid Flush (Halted halt) y → GenCaused x y number count (status_of_halt halt) (head ++ rest) (halt_line halt)
halt_caused x mid y number count head rest halt lines cause = halted halt head rest mid lines cause

-- the sink failed within the summary, or at the first line
pub cut_summary : (x mid : Shown) (number count : ℕ) (head rest : List ℕ) (n : ℕ) → TellsGenerated x number count head rest mid → HasGenCauses x mid number count 4 (head ++ take n rest)
cut_summary x mid number count head rest n lines = before_flush refl head rest n lines refl

pub cut_first : (x : Shown) (number count : ℕ) (head : List ℕ) (n : ℕ) → head ≡ first_line x → HasGenCauses x x number count 4 (take n head)
cut_first x number count head n is = at_first_line refl refl (drop n head) (sym is ∙ sym (take-append-drop n head))
