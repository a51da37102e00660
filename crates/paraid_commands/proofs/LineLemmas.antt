-- Several lines, of which the last may be written in part.
use Rattle.std.proofs.Common.{◌≡◌, ℕ, ◌+◌, ◌<◌, ◌≤◌, List, ◌++◌, length, take, drop, Option, IsSome, refl, sym, ap, ◌∙◌, inl, inr, arith, subst, length-append, take-append-drop}
use Rattle.std.proofs.lemmas.List.{append_assoc, take-append-le, take_all}
use Rattle.std.proofs.Math.Seq.{take-append-add}
use Rattle.paraid_base.specs.declared.event.Answer.{Answer}
use Rattle.paraid_base.specs.declared.event.Answer.TheVariants.{Flushed, Halted, State as IsState}
use Rattle.paraid_base.specs.declared.event.Event.TheVariants.{Flush}
use Rattle.paraid_base.specs.declared.fault.Halt.{Halt}
use Rattle.paraid_base.specs.Told.{GrowsByBytes}
use Rattle.paraid_base.proofs.ToldLemmas.{GrowsByBytes-then}
use Rattle.paraid_rack.specs.Told.{Ran}
use Rattle.paraid_rack.specs.Trail.{Trail}
use Rattle.paraid_record.specs.declared.meta.Setup.{Setup}
use Rattle.paraid_base.specs.declared.state.Status.{Status}
use Rattle.paraid_machine.specs.Machine.{state_status as told_status}
use Rattle.paraid_trace.specs.Replies.{reply_of}
use Rattle.paraid_session.specs.Mount.{IsMountedFromEach}
use Rattle.paraid_serve.specs.Causes.{HasCause, Shown}
use Rattle.paraid_serve.specs.Stretch.{Span, span_of}
use Rattle.paraid_serve.specs.Uses.{SinkUse}
use Rattle.paraid_serve.specs.Ending.{EndsWithLine, end_line, halt_line, mount_line, status_of_halt}
use Rattle.paraid_serve.specs.Output.{begins_with, first_line as first_line_shown}
use Rattle.paraid_session.specs.Turn.{GoesOn, Point}
use Rattle.paraid_serve.proofs.ExitLemmas.{stretch_leaves}
use Rattle.paraid_session.proofs.MountLemmas.{IsMountedFromEach-follows}
use Rattle.paraid_commands.specs.declared.tally.Tally.{Tally}
use Rattle.paraid_commands.specs.Generating.{Flushes, GenFollows, GenHeadline, GenOutput, GenRun, GenStreams, GenWrote, first_lines}
use Rattle.paraid_commands.specs.GenEvents.{summary}
use Rattle.paraid_commands.specs.GenCauses.{GenCaused, TellsGenerated}
use Rattle.paraid_commands.specs.Generating.GenOutput.{done, halted}
use Rattle.paraid_commands.specs.Generating.GenWrote.{before_flush, first_line, last_line, whole}
use Rattle.paraid_commands.specs.CountedLines.{CountsLines}
use Rattle.paraid_commands.specs.Tally.{empty_tally, tally_of}
use Rattle.paraid_commands.specs.Telling.{state_line, state_lines}
use Rattle.paraid_commands.proofs.GenCauseLemmas.{cut_first, cut_summary, flushed_caused, gen_caused, halt_caused}
use Rattle.paraid_commands.proofs.GenLemmas.{flushes}

take-two : (n : ℕ) (xs ys : List ℕ) → take (length xs + n) (xs ++ ys) ≡ xs ++ take n ys
take-two n xs ys = take-append-add xs ys n

take-first : (n : ℕ) (xs ys : List ℕ) → n ≤ length xs → take n (xs ++ ys) ≡ take n xs
take-first n xs ys p = take-append-le n xs ys p

-- one line, and then the last one
pub ends_two : (a b c : Option (List ℕ)) (x y : List ℕ) (code status : ℕ) → GrowsByBytes a b x → EndsWithLine b c y code status → EndsWithLine a c (x ++ y) code status
ends_two a b c x y code status g e = record {
  count = length x + e.count;
  within = elim e.within [
    | inl short ↦ inl (omega (arith, short, length-append x y))
    | inr all ↦ inr (omega (arith, all.0, length-append x y), all.1)
  ];
  grows = subst (λ (t : List ℕ). GrowsByBytes a c t) (sym (take-two e.count x y)) (GrowsByBytes-then a b c x (take e.count y) g e.grows);
  whole = elim e.whole [
    | inl four ↦ inl four
    | inr all ↦ inr (omega (arith, all.0, length-append x y), all.1)
  ];
}

pub ends_part : (a b : Option (List ℕ)) (x y : List ℕ) (code : ℕ) → (n : ℕ) × (n < length x) × GrowsByBytes a b (take n x) → EndsWithLine a b (x ++ y) code 4
ends_part a b x y code part = record {
  count = part.0;
  within = inl (let short = part.1 in omega (arith, short, length-append x y));
  grows = subst (λ (t : List ℕ). GrowsByBytes a b t) (sym (take-first part.0 x y (let short = part.1 in omega (arith, short)))) part.2;
  whole = inl refl;
}

mount_is : (p : Point) (writes gear : ℕ) → writes ≡ length p.history → gear ≡ p.state.gear → mount_line writes gear ≡ begins_with p
mount_is p writes gear e f = ap (λ (w : ℕ). mount_line w gear) e ∙ ap (λ (g : ℕ). mount_line (length p.history) g) f

pub state_line_is : (setup : Setup) (p : Point) (status : Status) (disks : ℕ) → status ≡ told_status setup (length p.history) p.state → disks ≡ setup.geometry.disks → reply_of (IsState status disks) ≡ state_line setup p
state_line_is setup p status disks e f = rw (e, f) refl

-- the two lines of `status`
pub state_told : (setup : Setup) (p : Point) (a b c : Option (List ℕ)) (writes gear : ℕ) (line : List ℕ) (status : ℕ) → writes ≡ length p.history → gear ≡ p.state.gear → line ≡ state_line setup p
    → GrowsByBytes a b (mount_line writes gear) → EndsWithLine b c line 0 status → EndsWithLine a c (state_lines setup p) 0 status
state_told setup p a b c writes gear line status e f is g end =
    subst (λ (x : List ℕ). EndsWithLine a c (x ++ state_line setup p) 0 status) (mount_is p writes gear e f)
    (subst (λ (y : List ℕ). EndsWithLine a c (mount_line writes gear ++ y) 0 status) is (ends_two a b c (mount_line writes gear) line 0 status g end))

pub state_cut : (setup : Setup) (p : Point) (a b : Option (List ℕ)) (writes gear : ℕ) → writes ≡ length p.history → gear ≡ p.state.gear
    → (n : ℕ) × (n < length (mount_line writes gear)) × GrowsByBytes a b (take n (mount_line writes gear)) → EndsWithLine a b (state_lines setup p) 0 4
state_cut setup p a b writes gear e f part =
    subst (λ (x : List ℕ). EndsWithLine a b (x ++ state_line setup p) 0 4) (mount_is p writes gear e f) (ends_part a b (mount_line writes gear) (state_line setup p) 0 part)

wrote_last : (span : Span) (p : Point) (number count : ℕ) (text line : List ℕ) (before after : Option (List ℕ)) (code status : ℕ) → GenOutput span p number count code (text ++ line)
    → (e : EndsWithLine before after line code status) → GenWrote span p number count status (text ++ take e.count line)
wrote_last span p number count text line before after code status out e = elim e.whole [
  | inl four ↦ last_line four code (text ++ line) (drop e.count line) out
      (ap (λ x. text ++ x) (sym (take-append-drop e.count line)) ∙ sym (append_assoc text (take e.count line) (drop e.count line)))
  | inr all ↦ whole (subst (λ (k : ℕ). GenOutput span p number count k (text ++ take e.count line)) (sym all.1)
      (subst (λ (x : List ℕ). GenOutput span p number count code (text ++ x)) (sym (taken e.count line all.0)) out))
]
  where
    taken : (n : ℕ) (line : List ℕ) → n ≡ length line → take n line ≡ line
    taken n line is = take_all n line (omega (arith, is))

-- the sink failed at the first line
pub no_line_run : (seen : Shown) (slots : ℕ) (setup : Setup) (stood : Point → Type 0) (told : Option Trail) (kept : SinkUse) (writes gear number count : ℕ) → ((p : Point) → stood p → writes ≡ length p.history) → ((p : Point) → stood p → gear ≡ p.state.gear) → mount_line writes gear ≡ first_line_shown seen
    → (n : ℕ) × (n < length (mount_line writes gear)) × GrowsByBytes kept.written_before kept.written (take n (mount_line writes gear)) → GenRun seen seen (span_of slots setup told told) stood (record { number = number; count = count; sink = kept }) 4
no_line_run seen slots setup stood told kept writes gear number count counts in_gear shows part = record {
  text = take part.0 (mount_line writes gear);
  grows = part.2;
  causes = cut_first seen number count (mount_line writes gear) part.0 shows;
  wrote = λ t p at_p. first_line refl refl (drop part.0 (mount_line writes gear))
      (sym (mount_is p writes gear (counts p at_p) (in_gear p at_p)) ∙ sym (take-append-drop part.0 (mount_line writes gear)));
}

module _ (seen mid : Shown) (slots : ℕ) (setup : Setup) (stood : Point → Type 0) (start middle : Option Trail) (kept : SinkUse) (second : Option (List ℕ)) (writes gear number count : ℕ) (counts : (p : Point) → stood p → writes ≡ length p.history) (in_gear : (p : Point) → stood p → gear ≡ p.state.gear) (tally : Tally) (stands : Point → Type 0) (counted : IsSome middle → (p : Point) → stood p → CountsLines (span_of slots setup start middle) p number count tally stands) (gear_now energy : ℕ) (in_gear_now : (q : Point) → stands q → gear_now ≡ q.state.gear) (used : (q : Point) → stands q → energy ≡ q.energy) (caused : TellsGenerated seen number count (mount_line writes gear) (summary count tally gear_now energy) mid) (head : GrowsByBytes kept.written_before second (mount_line writes gear)) where
  summary_is : (p : Point) (c : CountsLines (span_of slots setup start middle) p number count tally stands) → summary count tally gear_now energy ≡ summary count (tally_of empty_tally c.all.turns) c.all.end.state.gear c.all.end.energy
  summary_is p c =
      ap (λ (t : Tally). summary count t gear_now energy) c.counts
      ∙ ap (λ (g : ℕ). summary count (tally_of empty_tally c.all.turns) g energy) (in_gear_now c.all.end c.stands)
      ∙ ap (λ (n : ℕ). summary count (tally_of empty_tally c.all.turns) c.all.end.state.gear n) (used c.all.end c.stands)

  lines_are : (p : Point) → stood p → (c : CountsLines (span_of slots setup start middle) p number count tally stands) → mount_line writes gear ++ summary count tally gear_now energy ≡ first_lines p count c.all.turns c.all.end
  lines_are p at_p c = ap (λ x. x ++ summary count tally gear_now energy) (mount_is p writes gear (counts p at_p) (in_gear p at_p)) ∙ ap (λ x. begins_with p ++ x) (summary_is p c)

  -- the sink failed within the summary
  pub no_summary_run : (n : ℕ) × (n < length (summary count tally gear_now energy)) × GrowsByBytes second kept.written (take n (summary count tally gear_now energy)) → GenRun seen mid (span_of slots setup start middle) stood (record { number = number; count = count; sink = kept }) 4
  no_summary_run part =
      let all = summary count tally gear_now energy in
      record {
        text = mount_line writes gear ++ take part.0 all;
        grows = GrowsByBytes-then kept.written_before second kept.written (mount_line writes gear) (take part.0 all) head part.2;
        causes = cut_summary seen mid number count (mount_line writes gear) all part.0 caused;
        wrote = λ t p at_p.
            let c = counted t p at_p in
            before_flush refl c.all (drop part.0 all)
            (sym (lines_are p at_p c) ∙ ap (λ x. mount_line writes gear ++ x) (sym (take-append-drop part.0 all)) ∙ sym (append_assoc (mount_line writes gear) (take part.0 all) (drop part.0 all)));
      }

  module _ (third : Option (List ℕ)) (told_lines : GrowsByBytes second third (summary count tally gear_now energy)) (final : Option Trail) (new_stood : Point → Type 0) (slots_now : ℕ) (setup_now : Setup) (same_slots : slots_now ≡ slots) (same_setup : setup_now ≡ setup) (tells : IsSome final → IsSome middle) (seen_now : Shown) (status : ℕ) where
    ends : (answer : Answer) (line : List ℕ) (code : ℕ) → ((q : Point) → stands q → Ran middle final (GoesOn slots_now setup_now q Flush answer new_stood))
        → EndsWithLine third kept.written line code status
        → ((p : Point) (e : Flushes (span_of slots setup start final) p number count answer) → GenOutput (span_of slots setup start final) p number count code (first_lines p count e.lines.turns e.lines.end ++ line))
        → GenCaused seen seen_now number count code (mount_line writes gear ++ summary count tally gear_now energy) line
        → GenRun seen seen_now (span_of slots setup start final) stood (record { number = number; count = count; sink = kept }) status
    ends answer line code goes end out full =
        let text = mount_line writes gear ++ summary count tally gear_now energy in
        record {
          text = text ++ take end.count line;
          grows = GrowsByBytes-then kept.written_before third kept.written text (take end.count line) (GrowsByBytes-then kept.written_before second third (mount_line writes gear) (summary count tally gear_now energy) head told_lines) end.grows;
          causes = gen_caused seen seen_now number count text line third kept.written code status full end;
          wrote = λ t p at_p.
              let c = counted (tells t) p at_p in
              let f = flushes c answer final new_stood slots_now setup_now same_slots same_setup goes t in
              subst (λ (x : List ℕ). GenWrote (span_of slots setup start final) p number count status (x ++ take end.count line)) (sym (lines_are p at_p c))
              (wrote_last (span_of slots setup start final) p number count (first_lines p count c.all.turns c.all.end) line third kept.written code status
              (out p (record { middle = middle; lines = c.all; all = f.all; calls = f.calls; turns = f.turns })) end);
        }

    pub done_gen : (writes_now : ℕ) → HasCause mid Flush (Flushed writes_now) seen_now → ((q : Point) → stands q → Ran middle final (GoesOn slots_now setup_now q Flush (Flushed writes_now) new_stood)) → EndsWithLine third kept.written (end_line writes_now) 0 status
        → GenRun seen seen_now (span_of slots setup start final) stood (record { number = number; count = count; sink = kept }) status
    done_gen writes_now cause goes end = ends (Flushed writes_now) (end_line writes_now) 0 goes end (λ p e. done writes_now e) (flushed_caused seen mid seen_now number count (mount_line writes gear) (summary count tally gear_now energy) writes_now caused cause)

    pub halted_gen : (halt : Halt) → HasCause mid Flush (Halted halt) seen_now → ((q : Point) → stands q → Ran middle final (GoesOn slots_now setup_now q Flush (Halted halt) new_stood)) → EndsWithLine third kept.written (halt_line halt) (status_of_halt halt) status
        → GenRun seen seen_now (span_of slots setup start final) stood (record { number = number; count = count; sink = kept }) status
    halted_gen halt cause goes end = ends (Halted halt) (halt_line halt) (status_of_halt halt) goes end (λ p e. halted halt e) (halt_caused seen mid seen_now number count (mount_line writes gear) (summary count tally gear_now energy) halt caused cause)

pub gen_headline : (seen seen_now : Shown) (span : Span) (began : ℕ) (stood : Point → Type 0) (gen : GenStreams) (status : ℕ)
    → IsMountedFromEach span.slots span.setup began span.start stood → GenRun seen seen_now span stood gen status → GenHeadline seen seen_now span began gen status
gen_headline seen seen_now span began stood gen status mounted r = record {
  text = r.text;
  grows = r.grows;
  causes = r.causes;
  said = λ t. IsMountedFromEach-follows span.slots span.setup began span.start stood (GenFollows span gen.number gen.count status r.text)
      (λ p mark here at_p. record {
        wrote = r.wrote t p at_p;
        left = λ mid events c. stretch_leaves (record span { now = mid }) p events c mark (here c.from c.was);
      }) mounted;
}
