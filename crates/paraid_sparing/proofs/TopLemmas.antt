-- The whole text of a run with spares.
use Rattle.std.proofs.Common.{◌≡◌, ◌≢◌, ℕ, ◌^◌, ◌<◌, ◌≤◌, ◌⊎◌, List, [], ◌∷◌, ◌++◌, length, take, codes, Option, Some, None, IsSome, Result, Ok, Err, refl, sym, ap, ◌∙◌, inl, inr, arith, subst}
use Rattle.std.proofs.lemmas.List.{take_all}
use Rattle.paraid_base.specs.declared.event.Answer.{Answer}
use Rattle.paraid_base.specs.declared.event.Answer.TheVariants.{Bad as IsBad, Flushed, Halted}
use Rattle.paraid_base.specs.declared.event.Event.{Event}
use Rattle.paraid_base.specs.declared.event.Event.TheVariants.{Flush}
use Rattle.paraid_rack.specs.declared.call.Call.{Call}
use Rattle.paraid_base.specs.declared.fault.Halt.{Halt}
use Rattle.paraid_base.specs.declared.fault.Halt.TheVariants.{Two as HaltTwo, Worn}
use Rattle.paraid_base.specs.Told.{AtEnd, GrowsByBytes, stream_most}
use Rattle.paraid_base.proofs.ToldLemmas.{Gives-none, GrowsByBytes-then}
use Rattle.paraid_image.specs.Rest.{AreSynced}
use Rattle.paraid_rack.specs.Trail.{Trail, now}
use Rattle.paraid_record.specs.declared.meta.Setup.{Setup}
use Rattle.paraid_serve.specs.declared.stop.Stop.{Stop}
use Rattle.paraid_serve.specs.declared.stop.Stop.TheVariants.{Source, TooLong, Sink, Halt as Halts}
use Rattle.paraid_serve.specs.Causes.{Shown}
use Rattle.paraid_serve.specs.Ending.{EndsWithLine, end_line, halt_line, mount_line, status_of_halt}
use Rattle.paraid_serve.specs.Output.{IsWholeStatus, begins_with, first_line}
use Rattle.paraid_serve.specs.Output.IsLeftByStretch.{rests as left_rests, two_down as left_two}
use Rattle.paraid_serve.specs.Streams.{Streams, streams_of}
use Rattle.paraid_serve.specs.Stretch.{Span, Turn, TurnsLead, span_of, turn_with}
use Rattle.paraid_serve.specs.Uses.{SinkUse, SourceUse}
use Rattle.paraid_serve.proofs.ExitLemmas.{stretch_leaves}
use Rattle.paraid_serve.proofs.StatusLemmas.{cut_at}
use Rattle.paraid_serve.proofs.StretchLemmas.{stretch_none}
use Rattle.paraid_session.specs.Mount.{IsMountedFromEach}
use Rattle.paraid_session.specs.Turn.{IsMark, IsTurn, Point}
use Rattle.paraid_session.specs.Turn.IsTurn.{again as turn_again, answered as turn_answered, bad as turn_bad, two as turn_two, worn as turn_worn}
use Rattle.paraid_session.proofs.MountLemmas.{IsMountedFromEach-follows}
use Rattle.paraid_spare.specs.Pools.{left_of, spins_of}
use Rattle.paraid_spare.specs.declared.pool.Pool.{Pool}
use Rattle.paraid_sparing.specs.Output.{FollowsSpared, SparedHeadline, SparedRun, SparedText, WritesSpared}
use Rattle.paraid_sparing.specs.Texts.{spares_line}
use Rattle.paraid_sparing.specs.Output.SparedText.{done, halted, source, too_long}
use Rattle.paraid_sparing.specs.Output.WritesSpared.{answers, at_first_line, last_lines, whole}
use Rattle.paraid_sparing.specs.Serving.{Keeps}
use Rattle.paraid_sparing.specs.Session.{EndsSpared, ServesSpared}
use Rattle.paraid_sparing.specs.Sparing.{Stock, Supply, stock_line}
use Rattle.paraid_sparing.specs.SparedCauses.{CausedText}
use Rattle.paraid_sparing.proofs.SparedCauseLemmas.{done_caused, first_caused, halted_caused, last_caused, sink_caused, source_caused, too_long_caused}
use Rattle.paraid_sparing.proofs.TextLemmas.{line_alike}

-- what was written of the last lines
wrote_last : (span : Span) (supply : Supply) (p : Point) (bytes text line : List ℕ) (before after : Option (List ℕ)) (code status : ℕ) → SparedText span supply p bytes code text line → (e : EndsWithLine before after line code status)
    → WritesSpared span supply p bytes status (text ++ take e.count line)
wrote_last span supply p bytes text line before after code status out e = elim e.within [
  | inl short ↦ last_lines (cut_at before after line code status e short) code text line e.count out (short, refl)
  | inr all ↦ whole text line (subst (λ (n : ℕ). SparedText span supply p bytes n text line) (sym all.1) out)
      (ap (λ (x : List ℕ). text ++ x) (taken e.count line all.0))
]
  where
    taken : (n : ℕ) (line : List ℕ) → n ≡ length line → take n line ≡ line
    taken n line is = take_all n line (omega (arith, is))

the_code : (status code k n other : ℕ) → (status ≡ 4) ⊎ ((n ≡ k) × (status ≡ code)) → status ≡ other → other ≢ 4 → code ≡ other
the_code status code k n other e z apart = elim e [ inl four ↦ absurd (apart (sym z ∙ four)) | inr all ↦ sym all.1 ∙ z ]

partly : (status : ℕ) → status ≢ 0 → status ≢ 5 → status ≢ 12 → IsWholeStatus status → ⊥
partly status a b c (inl e) = a e
partly status a b c (inr (inl e)) = b e
partly status a b c (inr (inr e)) = c e

not_four : (status : ℕ) → status ≡ 4 → IsWholeStatus status → ⊥
not_four status four (inl e) = omega (arith, four, e)
not_four status four (inr (inl e)) = omega (arith, four, e)
not_four status four (inr (inr e)) = omega (arith, four, e)

whole_code : (status code k n : ℕ) → (status ≡ 4) ⊎ ((n ≡ k) × (status ≡ code)) → IsWholeStatus status → IsWholeStatus code
whole_code status code k n (inl four) is = absurd (not_four status four is)
whole_code status code k n (inr all) is = subst IsWholeStatus all.1 is

-- the line of a pool is that of the stock that it keeps
pool_line : (pool : Pool) (wait : ℕ) (k : Stock) (setup : Setup) (disks : ℕ) → Keeps pool wait k → disks ≡ setup.geometry.disks → spares_line (left_of pool) (spins_of pool) disks ≡ stock_line k setup
pool_line pool wait k setup disks keeps same = line_alike (left_of pool) k.left (spins_of pool) k.spins disks setup.geometry.disks keeps.left same (let high = setup.geometry.disks_high in omega (arith, same, high)) keeps.spins

-- the run writes to `sink`; the session, after the first line, to the same as it is `within`
module _ (seen seen_now : Shown) (span : Span) (supply : Supply) (stood : Point → Type 0) (source_is : SourceUse) (within sink : SinkUse) (pool : Pool) (writes gear : ℕ) (shows : mount_line writes gear ≡ first_line seen) (counts : (p : Point) → stood p → writes ≡ length p.history) (in_gear : (p : Point) → stood p → gear ≡ p.state.gear) where
  head_is : (p : Point) → stood p → mount_line writes gear ≡ begins_with p
  head_is p s = ap (λ (w : ℕ). mount_line w gear) (counts p s) ∙ ap (λ (g : ℕ). mount_line (length p.history) g) (in_gear p s)

  -- A session after the first line, and the last lines after it.
  finish : (result : Result ℕ Stop) (line : List ℕ) (code status : ℕ)
      → GrowsByBytes sink.written_before within.written_before (mount_line writes gear) → (s : ServesSpared seen seen_now span supply.wait supply.stock stood (streams_of source_is within) pool result) → EndsWithLine within.written sink.written line code status
      → (IsSome span.now → (p : Point) → stood p → SparedText span supply p s.bytes code (begins_with p ++ s.text) line)
      → (code ≡ 10 → length s.bytes ≡ stream_most) → (IsWholeStatus code → (length s.bytes < stream_most) × AtEnd source_is.left)
      → CausedText supply.wait seen supply.stock seen_now s.bytes code (mount_line writes gear ++ s.text) line
      → SparedRun seen seen_now span supply stood (streams_of source_is sink) status
  finish result line code status head s end out full all caused = record {
    bytes = s.bytes;
    text = (mount_line writes gear ++ s.text) ++ take end.count line;
    given = s.given;
    grows = GrowsByBytes-then sink.written_before within.written sink.written (mount_line writes gear ++ s.text) (take end.count line) (GrowsByBytes-then sink.written_before within.written_before within.written (mount_line writes gear) s.text head s.grows) end.grows;
    full = λ ten. full (the_code status code (length line) end.count 10 end.whole ten (λ e. absurd (omega (arith, e))));
    all = λ is. all (whole_code status code (length line) end.count end.whole is);
    causes = last_caused supply.wait seen supply.stock seen_now s.bytes (mount_line writes gear ++ s.text) line within.written sink.written code status caused end;
    wrote = λ t p at_p. subst (λ (x : List ℕ). WritesSpared span supply p s.bytes status ((x ++ s.text) ++ take end.count line)) (sym (head_is p at_p))
        (wrote_last span supply p s.bytes (begins_with p ++ s.text) line within.written sink.written code status (out t p at_p) end);
  }

  module _ (status : ℕ) (head : GrowsByBytes sink.written_before within.written_before (mount_line writes gear)) (disks : ℕ) (same : disks ≡ span.setup.geometry.disks) (seen_disks : disks ≡ seen.setup.geometry.disks) where
    pub done_run : (count : ℕ) → ServesSpared seen seen_now span supply.wait supply.stock stood (streams_of source_is within) pool (Ok count) → EndsWithLine within.written sink.written (spares_line (left_of pool) (spins_of pool) disks ++ end_line count) 0 status
        → SparedRun seen seen_now span supply stood (streams_of source_is sink) status
    done_run count s end = finish (Ok count) (spares_line (left_of pool) (spins_of pool) disks ++ end_line count) 0 status head s end
        (λ t p at_p. let a = s.answered t p at_p in
        subst (λ (x : List ℕ). SparedText span supply p s.bytes 0 (begins_with p ++ s.text) (x ++ end_line count)) (sym (pool_line pool supply.wait a.0.lines.stock span.setup disks a.1 same)) (done count s.text a.0))
        (λ e. absurd (omega (arith, e))) (λ is. s.full)
        (done_caused supply.wait seen supply.stock seen_now s.bytes pool disks seen_disks (mount_line writes gear) shows count s.text s.causes)

    pub halted_run : (halt : Halt) → ServesSpared seen seen_now span supply.wait supply.stock stood (streams_of source_is within) pool (Err (Halts halt)) → EndsWithLine within.written sink.written (spares_line (left_of pool) (spins_of pool) disks ++ halt_line halt) (status_of_halt halt) status
        → SparedRun seen seen_now span supply stood (streams_of source_is sink) status
    halted_run halt s end = finish (Err (Halts halt)) (spares_line (left_of pool) (spins_of pool) disks ++ halt_line halt) (status_of_halt halt) status head s end
        (λ t p at_p. let a = s.answered t p at_p in
        subst (λ (x : List ℕ). SparedText span supply p s.bytes (status_of_halt halt) (begins_with p ++ s.text) (x ++ halt_line halt)) (sym (pool_line pool supply.wait a.0.lines.stock span.setup disks a.1 same)) (halted halt s.text a.0))
        (λ e. absurd (not_ten halt e)) (λ is. s.full)
        (halted_caused supply.wait seen supply.stock seen_now s.bytes pool disks seen_disks (mount_line writes gear) shows halt s.text s.causes)
      where
        not_ten : (h : Halt) → status_of_halt h ≢ 10
        not_ten (HaltTwo two) e = omega (arith, e)
        not_ten (Worn count) e = omega (arith, e)

  module _ (status : ℕ) (head : GrowsByBytes sink.written_before within.written_before (mount_line writes gear)) where
    pub source_run : ServesSpared seen seen_now span supply.wait supply.stock stood (streams_of source_is within) pool (Err Source) → EndsWithLine within.written sink.written (codes "source\n") 3 status
        → SparedRun seen seen_now span supply stood (streams_of source_is sink) status
    source_run s end = finish (Err Source) (codes "source\n") 3 status head s end (λ t p at_p. source s.text (s.answered t p at_p))
        (λ e. absurd (omega (arith, e))) (λ is. absurd (partly 3 (λ e. omega (arith, e)) (λ e. omega (arith, e)) (λ e. omega (arith, e)) is))
        (source_caused supply.wait seen supply.stock seen_now s.bytes pool (mount_line writes gear) shows s.text s.causes)

    pub too_long_run : ServesSpared seen seen_now span supply.wait supply.stock stood (streams_of source_is within) pool (Err TooLong) → EndsWithLine within.written sink.written (codes "toolong\n") 10 status
        → SparedRun seen seen_now span supply stood (streams_of source_is sink) status
    too_long_run s end = finish (Err TooLong) (codes "toolong\n") 10 status head s end (λ t p at_p. too_long s.full s.text (s.answered t p at_p))
        (λ e. s.full) (λ is. absurd (partly 10 (λ e. omega (arith, e)) (λ e. omega (arith, e)) (λ e. omega (arith, e)) is))
        (too_long_caused supply.wait seen supply.stock seen_now s.bytes pool (mount_line writes gear) shows s.text s.causes)

  -- the sink failed within an answer
  pub sink_run : GrowsByBytes sink.written_before within.written_before (mount_line writes gear) → ServesSpared seen seen_now span supply.wait supply.stock stood (streams_of source_is within) pool (Err Sink) → SparedRun seen seen_now span supply stood (streams_of source_is (record within { written_before = sink.written_before; faults_before = sink.faults_before })) 4
  sink_run head s = record {
    bytes = s.bytes;
    text = mount_line writes gear ++ s.text;
    given = s.given;
    grows = GrowsByBytes-then sink.written_before within.written_before within.written (mount_line writes gear) s.text head s.grows;
    full = λ e. absurd (omega (arith, e));
    all = λ is. absurd (partly 4 (λ e. omega (arith, e)) (λ e. omega (arith, e)) (λ e. omega (arith, e)) is);
    causes = sink_caused supply.wait seen supply.stock seen_now s.bytes pool (mount_line writes gear) shows s.text s.causes.0;
    wrote = λ t p at_p. answers refl s.text (s.answered t p at_p) (ap (λ (x : List ℕ). x ++ s.text) (head_is p at_p));
  }

-- the sink failed at the first line
pub no_mount_run : (seen : Shown) (slots : ℕ) (setup : Setup) (wait : ℕ) (k : Stock) (stood : Point → Type 0) (told : Option Trail) (left : Option (List ℕ)) (count : ℕ) (sink : SinkUse) (writes gear : ℕ) → ((p : Point) → stood p → writes ≡ length p.history) → ((p : Point) → stood p → gear ≡ p.state.gear) → mount_line writes gear ≡ first_line seen
    → (n : ℕ) × (n < length (mount_line writes gear)) × GrowsByBytes sink.written_before sink.written (take n (mount_line writes gear))
    → SparedRun seen seen (span_of slots setup told told) (record { wait = wait; stock = k }) stood (streams_of (record { left_before = left; left = left; faults_before = count; faults = count }) sink) 4
no_mount_run seen slots setup wait k stood told left count sink writes gear counts in_gear shows part = record {
  bytes = [];
  text = take part.0 (mount_line writes gear);
  given = Gives-none left;
  grows = part.2;
  full = λ e. absurd (omega (arith, e));
  all = λ is. absurd (partly 4 (λ e. omega (arith, e)) (λ e. omega (arith, e)) (λ e. omega (arith, e)) is);
  causes = first_caused wait seen k (mount_line writes gear) part.0 part.1 shows;
  wrote = λ t p at_p.
      let is : mount_line writes gear ≡ begins_with p = ap (λ (w : ℕ). mount_line w gear) (counts p at_p) ∙ ap (λ (g : ℕ). mount_line (length p.history) g) (in_gear p at_p) in
      at_first_line refl refl (stretch_none slots setup told p t) part.0 (subst (λ (x : List ℕ). part.0 < length x) is part.1, ap (take part.0) is);
}

-- ---- after a run that ends well nothing is loose

-- the last turn of a session
last_turn : (slots : ℕ) (setup : Setup) (p q : Point) (ts : List Turn) (t : Turn) → TurnsLead slots setup p (ts ++ t ∷ []) q → (mid : Point) × IsTurn slots setup mid t.event t.answer t.calls q
last_turn slots setup p q [] t went = (p, subst (λ (x : Point). IsTurn slots setup p t.event t.answer t.calls x) (sym went.2) went.1)
last_turn slots setup p q (x ∷ ts) t went = last_turn slots setup went.0 q ts t went.2

-- after a flush that is answered there is no halt
flushed_going : (slots : ℕ) (setup : Setup) (p q : Point) (e : Event) (a : Answer) (cs : List Call) (writes : ℕ) → IsTurn slots setup p e a cs q → a ≡ Flushed writes → q.halt ≡ None
flushed_going slots setup p q e a cs writes (turn_answered going apart it) is = it.going
flushed_going slots setup p q e a cs writes (turn_two pair going apart by it) is = absurd (let z : Halted (HaltTwo pair) ≡ Flushed writes = sym by ∙ is in cc)
flushed_going slots setup p q e a cs writes (turn_worn count going apart by it none same) is = absurd (let z : Halted (Worn count) ≡ Flushed writes = sym by ∙ is in cc)
flushed_going slots setup p q e a cs writes (turn_again halt was apart by none same) is = absurd (let z : Halted halt ≡ Flushed writes = sym by ∙ is in cc)
flushed_going slots setup p q e a cs writes (turn_bad was by none same) is = absurd (let z : IsBad ≡ Flushed writes = sym by ∙ is in cc)

same_trail : (o : Option Trail) (a b : Trail) → o ≡ Some a → o ≡ Some b → a ≡ b
same_trail o a b e f = some_same a b (sym e ∙ f)
  where
    some_same : (a b : Trail) → Some a ≡ Some b → a ≡ b
    some_same a b e = cc

none_some : (o : Option Halt) (h : Halt) → o ≡ None → o ≡ Some h → ⊥
none_some o h e f = cc

module _ (span : Span) (supply : Supply) (p : Point) (mark : IsMark span.slots span.setup p) (here : (t : Trail) → span.start ≡ Some t → p.disks ≡ now t) where
  ends_synced : (events : List Event) (text : List ℕ) (writes : ℕ) (e : EndsSpared span supply.wait p supply.stock events text (Flushed writes)) → AreSynced (now e.all.to)
  ends_synced events text writes e =
      let last = last_turn span.slots span.setup p e.all.end e.lines.all.turns (turn_with Flush (Flushed writes) e.calls) (subst (λ (ts : List Turn). TurnsLead span.slots span.setup p ts e.all.end) e.turns e.all.went) in
      let going = flushed_going span.slots span.setup last.0 e.all.end Flush (Flushed writes) e.calls writes last.1 refl in
      elim (stretch_leaves span p (e.lines.put_in ++ Flush ∷ []) e.all mark (here e.all.from e.all.was)) [
        | left_two pair came ↦ absurd (none_some e.all.end.halt (HaltTwo pair) going came)
        | left_rests r ↦ r.synced
      ]

  text_synced : (bytes : List ℕ) (code : ℕ) (front last : List ℕ) → SparedText span supply p bytes code front last → code ≡ 0 → (t : Trail) → span.now ≡ Some t → AreSynced (now t)
  text_synced bytes code front last (done writes told e) zero t tells = subst (λ (u : Trail). AreSynced (now u)) (same_trail span.now e.all.to t e.all.is tells) (ends_synced _ told writes e)
  text_synced bytes code front last (halted (HaltTwo pair) told e) zero t tells = absurd (omega (arith, zero))
  text_synced bytes code front last (halted (Worn count) told e) zero t tells = absurd (omega (arith, zero))
  text_synced bytes code front last (source told c) zero t tells = absurd (omega (arith, zero))
  text_synced bytes code front last (too_long ten told c) zero t tells = absurd (omega (arith, zero))

  output_synced : (bytes : List ℕ) (status : ℕ) (text : List ℕ) → WritesSpared span supply p bytes status text → status ≡ 0 → (t : Trail) → span.now ≡ Some t → AreSynced (now t)
  output_synced bytes status text (whole front last out is) zero = text_synced bytes status front last out zero
  output_synced bytes status text (last_lines four code front last count out is) zero = absurd (omega (arith, four, zero))
  output_synced bytes status text (at_first_line four none c rest is) zero = absurd (omega (arith, four, zero))
  output_synced bytes status text (answers four part c is) zero = absurd (omega (arith, four, zero))

pub headline : (seen seen_now : Shown) (span : Span) (supply : Supply) (began : ℕ) (stood : Point → Type 0) (streams : Streams) (status : ℕ)
    → IsMountedFromEach span.slots span.setup began span.start stood → SparedRun seen seen_now span supply stood streams status → SparedHeadline seen seen_now span supply began streams status
headline seen seen_now span supply began stood streams status mounted r = record {
  bytes = r.bytes;
  text = r.text;
  given = r.given;
  grows = r.grows;
  full = r.full;
  all = r.all;
  causes = r.causes;
  said = λ t. IsMountedFromEach-follows span.slots span.setup began span.start stood (FollowsSpared span supply r.bytes status r.text)
      (λ p mark here at_p. record {
        wrote = r.wrote t p at_p;
        left = λ mid events c. stretch_leaves (record span { now = mid }) p events c mark (here c.from c.was);
        synced = output_synced span supply p mark here r.bytes status r.text (r.wrote t p at_p);
      }) mounted;
}
