-- Generated lines, one after the other.
use Rattle.std.proofs.Common.{◌≡◌, ℕ, ◌+◌, List, [], ◌∷◌, ◌++◌, Option, IsSome, refl, sym, ap, ◌∙◌, subst, add-one}
use Rattle.paraid_base.specs.declared.event.Answer.{Answer}
use Rattle.paraid_base.specs.declared.event.Event.{Event}
use Rattle.paraid_base.specs.declared.event.Event.TheVariants.{Flush}
use Rattle.paraid_rack.specs.declared.call.Call.{Call}
use Rattle.paraid_rack.specs.Told.{Ran}
use Rattle.paraid_rack.specs.Trail.{Trail}
use Rattle.paraid_record.specs.declared.meta.Setup.{Setup}
use Rattle.paraid_machine.specs.Machine.{block_count}
use Rattle.paraid_trace.specs.Generated.{generated_event}
use Rattle.paraid_serve.specs.Stretch.{Span, Stretch, span_of, turn_with}
use Rattle.paraid_session.specs.Turn.{GoesOn, Point}
use Rattle.paraid_serve.proofs.StretchLemmas.{More, stretch_more, stretch_none}
use Rattle.paraid_commands.specs.declared.tally.Tally.{Tally}
use Rattle.paraid_commands.specs.Generating.{AnswersGenerated}
use Rattle.paraid_commands.specs.GenEvents.{generated_events}
use Rattle.paraid_commands.specs.CountedLines.{CountsLines}
use Rattle.paraid_commands.specs.Tally.{empty_tally, tally_of, tally_with_answer, tally_with_event}
use Rattle.paraid_commands.proofs.TallyLemmas.{tally_of-push}

pub counted_none : (slots : ℕ) (setup : Setup) (start : Option Trail) (p : Point) (number : ℕ) (stood : Point → Type 0) → IsSome start → stood p → CountsLines (span_of slots setup start start) p number 0 empty_tally stood
counted_none slots setup start p number stood is at_p = record { all = stretch_none slots setup start p is; counts = refl; stands = at_p }

-- one event more, from the point where the array stands
one_more : {span : Span} {p : Point} {events : List Event} (c : Stretch span p events) (event : Event) (answer : Answer) (later : Option Trail) (stood new_stood : Point → Type 0)
    → stood c.end → (slots_now : ℕ) (setup_now : Setup) → slots_now ≡ span.slots → setup_now ≡ span.setup
    → ((q : Point) → stood q → Ran span.now later (GoesOn slots_now setup_now q event answer new_stood)) → IsSome later → More c later event answer new_stood
one_more {span} {p} {events} c event answer later stood new_stood at_end slots_now setup_now same_slots same_setup goes t =
    stretch_more c later event answer stood new_stood at_end
    (λ q is. subst (λ (k : ℕ). Ran span.now later (GoesOn k span.setup q event answer new_stood)) same_slots (subst (λ (u : Setup). Ran span.now later (GoesOn slots_now u q event answer new_stood)) same_setup (goes q is))) t

events-more : (number blocks i : ℕ) → generated_events number blocks (i + 1) ≡ generated_events number blocks i ++ generated_event number i blocks ∷ []
events-more number blocks i = rw add-one refl

pub counted_more : {span : Span} {p : Point} {number i : ℕ} {tally : Tally} {stood : Point → Type 0} (c : CountsLines span p number i tally stood)
    → (event : Event) (answer : Answer) (later : Option Trail) (new_stood : Point → Type 0) (slots_now : ℕ) (setup_now : Setup) (blocks : ℕ) (new : Tally)
    → slots_now ≡ span.slots → setup_now ≡ span.setup → blocks ≡ block_count span.setup → event ≡ generated_event number i blocks → new ≡ tally_with_answer (tally_with_event tally event) answer
    → ((q : Point) → stood q → Ran span.now later (GoesOn slots_now setup_now q event answer new_stood)) → IsSome later
    → CountsLines (record span { now = later }) p number (i + 1) new new_stood
counted_more {span} {p} {number} {i} {tally} {stood} c event answer later new_stood slots_now setup_now blocks new same_slots same_setup count is counts goes t =
    let more = one_more c.all event answer later stood new_stood c.stands slots_now setup_now same_slots same_setup goes t in
    let asked : generated_events number (block_count span.setup) i ++ event ∷ [] ≡ generated_events number (block_count span.setup) (i + 1) =
    ap (λ (e : Event). generated_events number (block_count span.setup) i ++ e ∷ []) (is ∙ ap (generated_event number i) count) ∙ sym (events-more number (block_count span.setup) i) in
    record {
      all = record {
        turns = more.all.turns;
        end = more.all.end;
        went = more.all.went;
        asked = more.all.asked ∙ asked;
        from = more.all.from;
        to = more.all.to;
        was = more.all.was;
        is = more.all.is;
        calls = more.all.calls;
      };
      counts = counts ∙ ap (λ (x : Tally). tally_with_answer (tally_with_event x event) answer) c.counts ∙ sym (tally_of-push empty_tally c.all.turns event answer more.calls) ∙ ap (tally_of empty_tally) (sym more.turns);
      stands = more.stands;
    }

-- a flush after some lines
pub record GenFlush {span : Span} {p : Point} (number count : ℕ) (lines : AnswersGenerated span p number count) (final : Option Trail) (answer : Answer) : Type 0 where
  pub all : Stretch (record span { now = final }) p (generated_events number (block_count span.setup) count ++ Flush ∷ [])
  pub calls : List Call
  pub turns : all.turns ≡ lines.turns ++ turn_with Flush answer calls ∷ []

pub flushes : {span : Span} {p : Point} {number i : ℕ} {tally : Tally} {stood : Point → Type 0} (c : CountsLines span p number i tally stood)
    → (answer : Answer) (later : Option Trail) (new_stood : Point → Type 0) (slots_now : ℕ) (setup_now : Setup) → slots_now ≡ span.slots → setup_now ≡ span.setup
    → ((q : Point) → stood q → Ran span.now later (GoesOn slots_now setup_now q Flush answer new_stood)) → IsSome later
    → GenFlush number i c.all later answer
flushes {span} {p} {number} {i} {tally} {stood} c answer later new_stood slots_now setup_now same_slots same_setup goes t =
    let more = one_more c.all Flush answer later stood new_stood c.stands slots_now setup_now same_slots same_setup goes t in
    record { all = more.all; calls = more.calls; turns = more.turns }
