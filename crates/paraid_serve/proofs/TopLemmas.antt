-- The whole text of a run.
use Rattle.std.proofs.Common.{◌≡◌, ◌≢◌, ℕ, ◌^◌, ◌<◌, ◌⊎◌, List, [], ◌++◌, length, take, codes, Option, IsSome, Result, Ok, Err, refl, sym, ap, ◌∙◌, inl, inr, arith, subst}
use Rattle.std.proofs.lemmas.List.{take_all}
use Rattle.paraid_base.specs.declared.fault.Halt.{Halt}
use Rattle.paraid_base.specs.declared.fault.Halt.TheVariants.{Two as HaltTwo, Worn}
use Rattle.paraid_base.specs.Told.{AtEnd, GrowsByBytes, stream_most}
use Rattle.paraid_base.proofs.ToldLemmas.{Gives-none, GrowsByBytes-then}
use Rattle.paraid_rack.specs.Trail.{Trail}
use Rattle.paraid_record.specs.declared.meta.Setup.{Setup}
use Rattle.paraid_serve.specs.declared.stop.Stop.{Stop}
use Rattle.paraid_serve.specs.declared.stop.Stop.TheVariants.{Source, TooLong, Sink, Halt as Halts}
use Rattle.paraid_serve.specs.Ending.{EndsWithLine, end_line, halt_line, mount_line, status_of_halt}
use Rattle.paraid_serve.specs.Output.{OutputForm, HasForm, IsWholeStatus, OutputText, ProgramRun, WritesOutput, begins_with, first_line}
use Rattle.paraid_serve.specs.Causes.{Shown}
use Rattle.paraid_serve.specs.Output.OutputText.{done, halted, source, too_long}
use Rattle.paraid_serve.specs.Output.WritesOutput.{answers, at_first_line, last_line, whole}
use Rattle.paraid_serve.specs.Output.OutputForm.{done as form_done, halted as form_halted, source as form_source, too_long as form_too_long}
use Rattle.paraid_serve.specs.Output.HasForm.{answers as form_answers, at_first_line as form_first, last_line as form_last_line, whole as form_whole}
use Rattle.paraid_serve.specs.Session.{ServesSession}
use Rattle.paraid_serve.specs.Streams.{streams_of}
use Rattle.paraid_serve.specs.Stretch.{Span, span_of}
use Rattle.paraid_serve.specs.Uses.{SinkUse, SourceUse}
use Rattle.paraid_session.specs.Turn.{Point}
use Rattle.paraid_serve.proofs.StatusLemmas.{cut_at}
use Rattle.paraid_serve.proofs.StretchLemmas.{stretch_none}

-- the first line tells what is seen
pub shown_line : (writes gear : ℕ) (x : Shown) → writes ≡ x.meta.writes → gear ≡ x.meta.gear → mount_line writes gear ≡ first_line x
shown_line writes gear x w e = rw (w, e) refl

-- what was written of the last line
wrote_last : (span : Span) (p : Point) (bytes text line : List ℕ) (before after : Option (List ℕ)) (code status : ℕ) → OutputText span p bytes code text line → (e : EndsWithLine before after line code status)
    → WritesOutput span p bytes status (text ++ take e.count line)
wrote_last span p bytes text line before after code status out e = elim e.within [
  | inl short ↦ last_line (cut_at before after line code status e short) code text line e.count out (short, refl)
  | inr all ↦ whole text line (subst (λ (k : ℕ). OutputText span p bytes k text line) (sym all.1) out)
      (ap (λ (x : List ℕ). text ++ x) (taken e.count line all.0))
]
  where
    taken : (n : ℕ) (line : List ℕ) → n ≡ length line → take n line ≡ line
    taken n line is = take_all n line (omega (arith, is))

-- and its form
form_last : (seen seen_now : Shown) (bytes text line : List ℕ) (before after : Option (List ℕ)) (code status : ℕ) → OutputForm seen seen_now bytes code text line → (e : EndsWithLine before after line code status) → HasForm seen seen_now bytes status (text ++ take e.count line)
form_last seen seen_now bytes text line before after code status out e = elim e.within [
  | inl short ↦ form_last_line (cut_at before after line code status e short) code text line e.count out (short, refl)
  | inr all ↦ form_whole text line (subst (λ (k : ℕ). OutputForm seen seen_now bytes k text line) (sym all.1) out)
      (ap (λ (x : List ℕ). text ++ x) (taken e.count line all.0))
]
  where
    taken : (n : ℕ) (line : List ℕ) → n ≡ length line → take n line ≡ line
    taken n line is = take_all n line (omega (arith, is))

-- a status other than 4 is that of the last line
the_code : (status code k n other : ℕ) → (status ≡ 4) ⊎ ((n ≡ k) × (status ≡ code)) → status ≡ other → other ≢ 4 → code ≡ other
the_code status code k n other e z apart = elim e [ inl four ↦ absurd (apart (sym z ∙ four)) | inr all ↦ sym all.1 ∙ z ]

-- a status of a run that did not take all of the source
partly : (status : ℕ) → status ≢ 0 → status ≢ 5 → status ≢ 12 → IsWholeStatus status → ⊥
partly status a b c (inl e) = a e
partly status a b c (inr (inl e)) = b e
partly status a b c (inr (inr e)) = c e

whole_code : (status code k n : ℕ) → (status ≡ 4) ⊎ ((n ≡ k) × (status ≡ code)) → IsWholeStatus status → IsWholeStatus code
whole_code status code k n either is = elim either [ inl four ↦ absurd (not_four status four is) | inr all ↦ subst IsWholeStatus all.1 is ]
  where
    not_four : (status : ℕ) → status ≡ 4 → IsWholeStatus status → ⊥
    not_four status four (inl e) = omega (arith, four, e)
    not_four status four (inr (inl e)) = omega (arith, four, e)
    not_four status four (inr (inr e)) = omega (arith, four, e)

-- the mount line is that of the point
first_line_is : (writes gear : ℕ) (stood : Point → Type 0) → ((p : Point) → stood p → writes ≡ length p.history) → ((p : Point) → stood p → gear ≡ p.state.gear) → (p : Point) → stood p → mount_line writes gear ≡ begins_with p
first_line_is writes gear stood counts in_gear p s = ap (λ (w : ℕ). mount_line w gear) (counts p s) ∙ ap (λ (g : ℕ). mount_line (length p.history) g) (in_gear p s)

-- the run writes to `sink`; the session, after the first line, to the same as it is `within`
module _ (seen seen_now : Shown) (span : Span) (stood : Point → Type 0) (source_is : SourceUse) (within sink : SinkUse) (writes gear : ℕ) (counts : (p : Point) → stood p → writes ≡ length p.history) (in_gear : (p : Point) → stood p → gear ≡ p.state.gear) (shows : mount_line writes gear ≡ first_line seen) where
  head_is : (p : Point) → stood p → mount_line writes gear ≡ begins_with p
  head_is p s = first_line_is writes gear stood counts in_gear p s

  -- A session after the first line, and the last line after it.
  finish : (result : Result ℕ Stop) (line : List ℕ) (code status : ℕ)
      → GrowsByBytes sink.written_before within.written_before (mount_line writes gear) → (s : ServesSession seen seen_now span stood (streams_of source_is within) result) → EndsWithLine within.written sink.written line code status
      → (IsSome span.now → (p : Point) → stood p → OutputText span p s.bytes code (begins_with p ++ s.text) line)
      → (code ≡ 10 → length s.bytes ≡ stream_most) → (IsWholeStatus code → (length s.bytes < stream_most) × AtEnd source_is.left)
      → OutputForm seen seen_now s.bytes code (first_line seen ++ s.text) line
      → ProgramRun seen seen_now span stood (streams_of source_is sink) status
  finish result line code status head s end out full all form = record {
    bytes = s.bytes;
    text = (mount_line writes gear ++ s.text) ++ take end.count line;
    given = s.given;
    grows = GrowsByBytes-then sink.written_before within.written sink.written (mount_line writes gear ++ s.text) (take end.count line) (GrowsByBytes-then sink.written_before within.written_before within.written (mount_line writes gear) s.text head s.grows) end.grows;
    full = λ ten. full (the_code status code (length line) end.count 10 end.whole ten (λ e. absurd (omega (arith, e))));
    form = form_last seen seen_now s.bytes (mount_line writes gear ++ s.text) line within.written sink.written code status (subst (λ (x : List ℕ). OutputForm seen seen_now s.bytes code (x ++ s.text) line) (sym shows) form) end;
    all = λ is. all (whole_code status code (length line) end.count end.whole is);
    wrote = λ t p at_p. subst (λ (x : List ℕ). WritesOutput span p s.bytes status ((x ++ s.text) ++ take end.count line)) (sym (head_is p at_p))
        (wrote_last span p s.bytes (begins_with p ++ s.text) line within.written sink.written code status
        (out t p at_p) end);
  }

  module _ (status : ℕ) (head : GrowsByBytes sink.written_before within.written_before (mount_line writes gear)) where
    pub done_run : (count : ℕ) → ServesSession seen seen_now span stood (streams_of source_is within) (Ok count) → EndsWithLine within.written sink.written (end_line count) 0 status
        → ProgramRun seen seen_now span stood (streams_of source_is sink) status
    done_run count s end = finish (Ok count) (end_line count) 0 status head s end
        (λ t p at_p. let a = s.answered t p at_p in rw a.1 (done count a.0))
        (λ e. absurd (omega (arith, e))) (λ is. s.full) (form_done count s.text s.form.0 s.form.1 s.form.2)

    pub halted_run : (halt : Halt) → ServesSession seen seen_now span stood (streams_of source_is within) (Err (Halts halt)) → EndsWithLine within.written sink.written (halt_line halt) (status_of_halt halt) status
        → ProgramRun seen seen_now span stood (streams_of source_is sink) status
    halted_run halt s end = finish (Err (Halts halt)) (halt_line halt) (status_of_halt halt) status head s end
        (λ t p at_p. let a = s.answered t p at_p in rw a.1 (halted halt a.0))
        (λ e. absurd (not_ten halt e)) (λ is. s.full) (form_halted halt s.text s.form.0 s.form.1 s.form.2)
      where
        not_ten : (h : Halt) → status_of_halt h ≢ 10
        not_ten (HaltTwo two) e = omega (arith, e)
        not_ten (Worn count) e = omega (arith, e)

    pub source_run : ServesSession seen seen_now span stood (streams_of source_is within) (Err Source) → EndsWithLine within.written sink.written (codes "source\n") 3 status
        → ProgramRun seen seen_now span stood (streams_of source_is sink) status
    source_run s end = finish (Err Source) (codes "source\n") 3 status head s end
        (λ t p at_p. let a = s.answered t p at_p in rw a.1 (source a.0))
        (λ e. absurd (omega (arith, e))) (λ is. absurd (partly 3 (λ e. omega (arith, e)) (λ e. omega (arith, e)) (λ e. omega (arith, e)) is)) (form_source s.text s.form)

    pub too_long_run : ServesSession seen seen_now span stood (streams_of source_is within) (Err TooLong) → EndsWithLine within.written sink.written (codes "toolong\n") 10 status
        → ProgramRun seen seen_now span stood (streams_of source_is sink) status
    too_long_run s end = finish (Err TooLong) (codes "toolong\n") 10 status head s end
        (λ t p at_p. let a = s.answered t p at_p in rw a.1 (too_long s.full a.0))
        (λ e. s.full) (λ is. absurd (partly 10 (λ e. omega (arith, e)) (λ e. omega (arith, e)) (λ e. omega (arith, e)) is)) (form_too_long s.text s.form)

  -- the sink failed within an answer
  pub sink_run : GrowsByBytes sink.written_before within.written_before (mount_line writes gear) → ServesSession seen seen_now span stood (streams_of source_is within) (Err Sink) → ProgramRun seen seen_now span stood (streams_of source_is (record within { written_before = sink.written_before; faults_before = sink.faults_before })) 4
  sink_run head s = record {
    bytes = s.bytes;
    text = mount_line writes gear ++ s.text;
    given = s.given;
    grows = GrowsByBytes-then sink.written_before within.written_before within.written (mount_line writes gear) s.text head s.grows;
    full = λ e. absurd (omega (arith, e));
    all = λ is. absurd (partly 4 (λ e. omega (arith, e)) (λ e. omega (arith, e)) (λ e. omega (arith, e)) is);
    form = form_answers refl s.text s.form (ap (λ (x : List ℕ). x ++ s.text) shows);
    wrote = λ t p at_p. answers refl s.text (s.answered t p at_p) (ap (λ (x : List ℕ). x ++ s.text) (head_is p at_p));
  }

-- the sink failed at the first line
pub no_mount_run : (seen : Shown) (slots : ℕ) (setup : Setup) (stood : Point → Type 0) (told : Option Trail) (left : Option (List ℕ)) (count : ℕ) (sink : SinkUse) (writes gear : ℕ) → ((p : Point) → stood p → writes ≡ length p.history) → ((p : Point) → stood p → gear ≡ p.state.gear) → mount_line writes gear ≡ first_line seen
    → (n : ℕ) × (n < length (mount_line writes gear)) × GrowsByBytes sink.written_before sink.written (take n (mount_line writes gear))
    → ProgramRun seen seen (span_of slots setup told told) stood (streams_of (record { left_before = left; left = left; faults_before = count; faults = count }) sink) 4
no_mount_run seen slots setup stood told left count sink writes gear counts in_gear shows part = record {
  bytes = [];
  text = take part.0 (mount_line writes gear);
  given = Gives-none left;
  grows = part.2;
  full = λ e. absurd (omega (arith, e));
  all = λ is. absurd (partly 4 (λ e. omega (arith, e)) (λ e. omega (arith, e)) (λ e. omega (arith, e)) is);
  form = form_first refl refl refl part.0 (subst (λ (x : List ℕ). part.0 < length x) shows part.1, ap (take part.0) shows);
  wrote = λ t p at_p.
      let is = first_line_is writes gear stood counts in_gear p at_p in
      at_first_line refl refl (stretch_none slots setup told p t) part.0 (subst (λ (x : List ℕ). part.0 < length x) is part.1, ap (take part.0) is);
}
