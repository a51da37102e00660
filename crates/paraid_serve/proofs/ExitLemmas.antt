-- What a run leaves is a rack that held a history.
use Rattle.std.proofs.Common.{◌≡◌, ℕ, List, [], ◌∷◌, ◌++◌, Option, Some, None, sym, ap, ◌∙◌, subst, arith}
use Rattle.paraid_base.specs.declared.fault.Halt.{Halt}
use Rattle.paraid_base.specs.declared.fault.Halt.TheVariants.{Two as HaltTwo, Worn}
use Rattle.paraid_base.specs.declared.fault.Two.{Two}
use Rattle.paraid_base.specs.declared.event.Answer.{Answer}
use Rattle.paraid_base.specs.declared.event.Answer.TheVariants.{Bad as IsBad, Flushed, Halted}
use Rattle.paraid_base.specs.declared.event.Event.{Event}
use Rattle.paraid_base.specs.declared.event.Event.TheVariants.{Flush}
use Rattle.paraid_io.specs.Lines.{lines_of}
use Rattle.paraid_rack.specs.declared.call.Call.{Call}
use Rattle.paraid_rack.specs.Disks.{Disks}
use Rattle.paraid_rack.specs.Trail.{Trail, now, run}
use Rattle.paraid_rack.proofs.TrailsLemmas.{now-extend}
use Rattle.paraid_record.specs.declared.meta.Setup.{Setup}
use Rattle.paraid_image.specs.Out.{named_out}
use Rattle.paraid_image.specs.Rest.{AreSynced}
use Rattle.paraid_image.specs.RunStart.{IsRunStart}
use Rattle.paraid_session.proofs.MountLemmas.{IsMountedFromEach-follows, run-append}
use Rattle.paraid_session.proofs.RunStartLemmas.{mark_entry}
use Rattle.paraid_session.specs.Mount.{IsMountedFromEach}
use Rattle.paraid_serve.specs.Output.{FollowsFromPoint, Headline, IsLeftByStretch, OutputText, ProgramRun, WritesOutput}
use Rattle.paraid_serve.specs.Output.IsLeftByStretch.{two_down as left_two, rests as left_rests}
use Rattle.paraid_serve.specs.Output.OutputText.{done as text_done, halted as text_halted, source as text_source, too_long as text_long}
use Rattle.paraid_serve.specs.Output.WritesOutput.{answers as wrote_answers, at_first_line as wrote_first, last_line as wrote_last, whole as wrote_whole}
use Rattle.paraid_serve.specs.Causes.{Shown}
use Rattle.paraid_serve.specs.Streams.{Streams}
use Rattle.paraid_serve.specs.Stretch.{EndsStretch, Span, Stretch, Turn, TurnsLead, events_in, turn_calls}
use Rattle.paraid_session.specs.Turn.{IsMark, IsTurn, Point, with_halt}
use Rattle.paraid_session.specs.Turn.IsTurn.{again, answered, bad, two, worn}

-- two disks are down, or it is a mark
pub data IsOver (slots : ℕ) (setup : Setup) (p : Point) : Type 0 where
  two_down : (pair : Two) → p.halt ≡ Some (HaltTwo pair) → IsOver slots setup p
  rests : IsMark slots setup p → IsOver slots setup p

halted_mark : (slots : ℕ) (setup : Setup) (p : Point) (halt : Halt) → IsMark slots setup p → IsMark slots setup (with_halt p halt)
halted_mark slots setup p halt m = record {
  held = m.held;
  rest = m.rest;
  same_setup = m.same_setup;
  counted_ticks = m.counted_ticks;
  shown = m.shown;
  powers = m.powers;
  borne = m.borne;
}

none_some : (o : Option Halt) (h : Halt) → o ≡ None → o ≡ Some h → ⊥
none_some o h e f = cc

turn_over : (slots : ℕ) (setup : Setup) (p q : Point) (t : Turn) → IsOver slots setup p → IsTurn slots setup p t.event t.answer t.calls q → IsOver slots setup q
turn_over slots setup p q t over (answered going apart a) = rests a.mark
turn_over slots setup p q t over (two pair going apart is i) = two_down pair i.halted
turn_over slots setup p q t over (worn count going apart is w none same) = elim over [
  | two_down pair halted ↦ absurd (none_some p.halt (HaltTwo pair) going halted)
  | rests m ↦ subst (λ (x : Point). IsOver slots setup x) (sym same) (rests (halted_mark slots setup p (Worn count) m))
]
turn_over slots setup p q t over (again halt halted apart is none same) = subst (λ (x : Point). IsOver slots setup x) (sym same) over
turn_over slots setup p q t over (bad is a none same) = subst (λ (x : Point). IsOver slots setup x) (sym same) over

turn_disks : (slots : ℕ) (setup : Setup) (p q : Point) (t : Turn) → IsTurn slots setup p t.event t.answer t.calls q → q.disks ≡ run p.disks t.calls
turn_disks slots setup p q t (answered going apart a) = a.disks
turn_disks slots setup p q t (two pair going apart is i) = i.disks
turn_disks slots setup p q t (worn count going apart is w none same) = ap (λ (x : Point). x.disks) same ∙ ap (run p.disks) (sym none)
turn_disks slots setup p q t (again halt halted apart is none same) = ap (λ (x : Point). x.disks) same ∙ ap (run p.disks) (sym none)
turn_disks slots setup p q t (bad is a none same) = ap (λ (x : Point). x.disks) same ∙ ap (run p.disks) (sym none)

pub went_over : (slots : ℕ) (setup : Setup) (p q : Point) (ts : List Turn) → IsOver slots setup p → TurnsLead slots setup p ts q → IsOver slots setup q
went_over slots setup p q [] over went = subst (λ (x : Point). IsOver slots setup x) (sym went) over
went_over slots setup p q (t ∷ ts) over went = went_over slots setup went.0 q ts (turn_over slots setup p went.0 t over went.1) went.2

pub went_disks : (slots : ℕ) (setup : Setup) (p q : Point) (ts : List Turn) → TurnsLead slots setup p ts q → q.disks ≡ run p.disks (turn_calls ts)
went_disks slots setup p q [] went = ap (λ (x : Point). x.disks) went
went_disks slots setup p q (t ∷ ts) went =
    went_disks slots setup went.0 q ts went.2 ∙ ap (λ (s : Disks). run s (turn_calls ts)) (turn_disks slots setup p went.0 t went.1) ∙ sym (run-append p.disks t.calls (turn_calls ts))

-- A stretch from a mark ends on a rack that held the history of its end, unless two disks are down.
pub stretch_leaves : (span : Span) (p : Point) (events : List Event) (c : Stretch span p events) → IsMark span.slots span.setup p → p.disks ≡ now c.from → IsLeftByStretch c
stretch_leaves span p events c mark here =
    let there : c.end.disks ≡ now c.to = went_disks span.slots span.setup p c.end c.turns c.went ∙ ap (λ (s : Disks). run s (turn_calls c.turns)) here ∙ sym (now-extend c.from (turn_calls c.turns)) ∙ ap now (sym c.calls) in
    elim (went_over span.slots span.setup p c.end c.turns (rests mark) c.went) [
      | two_down pair halted ↦ left_two pair halted
      | rests m ↦ left_rests (subst (λ (s : Disks). IsRunStart span.slots s c.end.history c.end.low (named_out c.end.state.out)) there (mark_entry span.slots span.setup c.end m))
    ]

-- the last turn of a session
last_turn : (slots : ℕ) (setup : Setup) (p q : Point) (ts : List Turn) (t : Turn) → TurnsLead slots setup p (ts ++ t ∷ []) q → (mid : Point) × IsTurn slots setup mid t.event t.answer t.calls q
last_turn slots setup p q [] t went = (p, subst (λ (x : Point). IsTurn slots setup p t.event t.answer t.calls x) (sym went.2) went.1)
last_turn slots setup p q (x ∷ ts) t went = last_turn slots setup went.0 q ts t went.2

-- after a flush that is answered there is no halt
flushed_going : (slots : ℕ) (setup : Setup) (p q : Point) (e : Event) (a : Answer) (cs : List Call) (writes : ℕ) → IsTurn slots setup p e a cs q → a ≡ Flushed writes → q.halt ≡ None
flushed_going slots setup p q e a cs writes (answered going apart it) is = it.going
flushed_going slots setup p q e a cs writes (two pair going apart halted it) is = absurd (let z : Halted (HaltTwo pair) ≡ Flushed writes = sym halted ∙ is in cc)
flushed_going slots setup p q e a cs writes (worn count going apart halted it none same) is = absurd (let z : Halted (Worn count) ≡ Flushed writes = sym halted ∙ is in cc)
flushed_going slots setup p q e a cs writes (again halt was apart halted none same) is = absurd (let z : Halted halt ≡ Flushed writes = sym halted ∙ is in cc)
flushed_going slots setup p q e a cs writes (bad was isbad none same) is = absurd (let z : IsBad ≡ Flushed writes = sym isbad ∙ is in cc)

same_trail : (o : Option Trail) (a b : Trail) → o ≡ Some a → o ≡ Some b → a ≡ b
same_trail o a b e f = some_same a b (sym e ∙ f)
  where
    some_same : (a b : Trail) → Some a ≡ Some b → a ≡ b
    some_same a b e = cc

module _ (span : Span) (p : Point) (mark : IsMark span.slots span.setup p) (here : (t : Trail) → span.start ≡ Some t → p.disks ≡ now t) where
  -- where the last answer is that to a flush, nothing is loose
  ends_synced : (events : List Event) (writes : ℕ) (e : EndsStretch span p events (Flushed writes)) → AreSynced (now e.all.to)
  ends_synced events writes e =
      let last = last_turn span.slots span.setup p e.all.end e.before e.last (subst (λ (ts : List Turn). TurnsLead span.slots span.setup p ts e.all.end) e.split e.all.went) in
      let going = flushed_going span.slots span.setup last.0 e.all.end e.last.event e.last.answer e.last.calls writes last.1 e.answered in
      elim (stretch_leaves span p events e.all mark (here e.all.from e.all.was)) [
        | left_two pair halted ↦ absurd (none_some e.all.end.halt (HaltTwo pair) going halted)
        | left_rests r ↦ r.synced
      ]

  text_synced : (bytes : List ℕ) (code : ℕ) (front last : List ℕ) → OutputText span p bytes code front last → code ≡ 0 → (t : Trail) → span.now ≡ Some t → AreSynced (now t)
  text_synced bytes code front last (text_done writes e) zero t tells =
      subst (λ (u : Trail). AreSynced (now u)) (same_trail span.now e.all.to t e.all.is tells) (ends_synced (events_in (lines_of bytes) ++ Flush ∷ []) writes e)
  text_synced bytes code front last (text_halted (HaltTwo pair) e) zero t tells = absurd (omega (arith, zero))
  text_synced bytes code front last (text_halted (Worn count) e) zero t tells = absurd (omega (arith, zero))
  text_synced bytes code front last (text_source c) zero t tells = absurd (omega (arith, zero))
  text_synced bytes code front last (text_long ten c) zero t tells = absurd (omega (arith, zero))

  pub output_synced : (bytes : List ℕ) (status : ℕ) (text : List ℕ) → WritesOutput span p bytes status text → status ≡ 0 → (t : Trail) → span.now ≡ Some t → AreSynced (now t)
  output_synced bytes status text (wrote_whole front last out is) zero = text_synced bytes status front last out zero
  output_synced bytes status text (wrote_last four code front last count out is) zero = absurd (omega (arith, four, zero))
  output_synced bytes status text (wrote_first four none c rest is) zero = absurd (omega (arith, four, zero))
  output_synced bytes status text (wrote_answers four part c is) zero = absurd (omega (arith, four, zero))

pub headline : (seen seen_now : Shown) (span : Span) (began : ℕ) (stood : Point → Type 0) (streams : Streams) (status : ℕ)
    → IsMountedFromEach span.slots span.setup began span.start stood → ProgramRun seen seen_now span stood streams status → Headline seen seen_now span began streams status
headline seen seen_now span began stood streams status mounted r = record {
  bytes = r.bytes;
  text = r.text;
  given = r.given;
  grows = r.grows;
  full = r.full;
  all = r.all;
  form = r.form;
  said = λ t. IsMountedFromEach-follows span.slots span.setup began span.start stood (FollowsFromPoint span r.bytes status r.text)
      (λ p mark here at_p. record {
        wrote = r.wrote t p at_p;
        left = λ mid events c. stretch_leaves (record span { now = mid }) p events c mark (here c.from c.was);
        synced = output_synced span p mark here r.bytes status r.text (r.wrote t p at_p);
      }) mounted;
}
