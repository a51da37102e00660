use Rattle.std.specs.Prelude.{Err}
use Rattle.std.proofs.Common.{◌≡◌, ◌+◌, ◌<◌, ◌^◌, refl, sym, false, ap, ◌∙◌, subst, arith, rules}
use Rattle.paraid_io.specs.Lines.{NoNewline}
use Rattle.paraid_io.specs.Reading.{Reading}
use Rattle.paraid_base.proofs.ToldLemmas.{Gives-none}
use Rattle.paraid_io.proofs.Midway.{Midway, midway_start, held_dropped, held_same, midway_more, step_cut, step_last, step_fault, needs_a_call, scanned_within, scanned_plain}
use Rattle.paraid_io.proofs.reader.LineReader.read_line.Goals as goal
use Rattle.paraid_io.proofs.reader.LineReader.read_line.Goals.{then-held-gt-MAX_LINE, else-held-gt-MAX_LINE, After-room}
use Rattle.paraid_base.specs.Told.{stream_most}

pub loop-length-init : goal.loop-length-init
loop-length-init g c = record {
  midway = midway_start _ _ c.requires.well c.requires.held c.requires.limit;
  within = omega arith;
  plain = tt;
  quiet = λ n. refl;
  still = refl;
}

pub returns-in-Some-clause-step : goal.returns-in-Some-clause-step
returns-in-Some-clause-step g c =
    step_cut c.loop-length.invariant.midway c.line_of.result c.in-Some.length c.take_line.new.self c.line_of.ensures.whole c.line_of.ensures.long c.in-Some.ensures.found c.take_line.ensures.taken c.take_line.ensures.ended

pub returns-then-ended-clause-step : goal.returns-then-ended-clause-step
returns-then-ended-clause-step g c =
    let none = c.in_default.ensures.none in
    let m = subst (λ (r : Reading). Midway (g.S.Source.left c.args.source.now) (g.S.Source.left c.loop-length.source) c.args.self.now r c.loop-length.dropped) (sym none.1) c.loop-length.invariant.midway in
    let e = c.last_line_of.ensures in
    step_last m c.last_line_of.result c.take_rest-length.result c.take_rest-length.new.self e.end e.whole e.long
    (subst (λ (r : Reading). NoNewline r.rest) (sym none.1) none.0) (sym c.ended.ensures ∙ c.if-ended.true) c.take_rest-length.ensures.length c.take_rest-length.ensures.step

held_back : (g : _) (c : After-room g) → Midway (g.S.Source.left c.args.source.now) (g.S.Source.left c.loop-length.source) c.args.self.now c.if-held-gt-MAX_LINE.self c.if-held-gt-MAX_LINE.dropped
    × NoNewline c.if-held-gt-MAX_LINE.self.rest × (c.if-held-gt-MAX_LINE.self.ended ≡ c.take_line.new.self.ended)
held_back g c =
    let none = c.in_default.ensures.none in
    let m = subst (λ (r : Reading). Midway (g.S.Source.left c.args.source.now) (g.S.Source.left c.loop-length.source) c.args.self.now r c.loop-length.dropped) (sym none.1) c.loop-length.invariant.midway in
    let plain : NoNewline c.take_line.new.self.rest = subst (λ (r : Reading). NoNewline r.rest) (sym none.1) none.0 in
    elim c.if-held-gt-MAX_LINE.branch [
      | then-held-gt-MAX_LINE w ↦ held_dropped m plain (omega (arith, w.if-held-gt-MAX_LINE.true, c.held.ensures)) (w.self-is ∙ w.take_rest.ensures.step) (w.dropped-is ∙ ap (λ n. c.loop-length.dropped + n) w.take_rest.ensures.length)
      | else-held-gt-MAX_LINE w ↦ held_same m plain w.self-is w.dropped-is
    ]

unended : (g : _) (c : After-room g) → c.if-held-gt-MAX_LINE.self.ended ≡ false
unended g c = (held_back g c).2 ∙ sym c.ended.ensures ∙ c.if-ended.false

pub returns-then-room-eq0-clause-step : goal.returns-then-room-eq0-clause-step
returns-then-room-eq0-clause-step g c =
    let h = held_back g (goal.at.returns-then-room-eq0-clause-step g c).After-room in
    let k = c.fail.ensures.kept in
    rw c.fail.ensures.result (step_fault h.0 _ c.fail.new.self (Gives-none _) h.1 (ap (λ x. x.rest) k) (ap (λ x. x.taken) k) (ap (λ x. x.ended) k) (unended g (goal.at.returns-then-room-eq0-clause-step g c).After-room) (ap (λ x. x.fault) k))

pub loop-length-preserved : goal.loop-length-preserved
loop-length-preserved g c =
    let h = held_back g (goal.at.loop-length-preserved g c).After-room in
    let u = unended g (goal.at.loop-length-preserved g c).After-room in
    let e = c.in-Ok.ensures in
    let short : c.if-held-gt-MAX_LINE.self.taken < stream_most = omega (arith, h.0.limit, c.if-room-eq0.false, c.room.ensures) in
    record {
      midway = midway_more h.0 u short e.got e.ended e.fault;
      within = rw c.held-scanned.ensures (scanned_within e.got);
      plain = rw c.held-scanned.ensures (scanned_plain e.got h.1);
      quiet = λ n. absurd (needs_a_call h.0 u h.1 short n);
      still = e.still ∙ c.loop-length.invariant.still;
    }

pub returns-in_default-fill : goal.returns-in_default-fill
returns-in_default-fill g c = record {
  step =
      let h = held_back g (goal.at.returns-in_default-fill g c).After-room in
      let k = c.fail-in_default-fill.ensures.kept in
      let e = c.in_default-fill.ensures.keeps in
      rw c.fail-in_default-fill.ensures.result (step_fault h.0 _ c.fail-in_default-fill.new.self e.0 h.1 (ap (λ x. x.rest) k ∙ e.1) (ap (λ x. x.taken) k ∙ e.2) (ap (λ x. x.ended) k ∙ e.3) (unended g (goal.at.returns-in_default-fill g c).After-room) (ap (λ x. x.fault) k));
  cause = search rules;
  quiet =
      let h = held_back g (goal.at.returns-in_default-fill g c).After-room in
      let u = unended g (goal.at.returns-in_default-fill g c).After-room in
      λ n. absurd (needs_a_call h.0 u h.1 (omega (arith, h.0.limit, c.if-room-eq0.false, c.room.ensures)) n);
  later = search rules;
  still = λ n. absurd (n (ap Err c.fail-in_default-fill.ensures.result));
}
