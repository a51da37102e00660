-- A session that halts has come to a turn in which a second disk was lost, or to 2^62 commits or writes.
use Rattle.std.proofs.Common.{◌≡◌, ℕ, List, [], ◌∷◌, ◌++◌, Option, Some, None, refl, sym, ap, ◌∙◌, subst}
use Rattle.paraid_base.specs.declared.event.Answer.{Answer}
use Rattle.paraid_base.specs.declared.event.Answer.TheVariants.{Bad as IsBad, Halted}
use Rattle.paraid_base.specs.declared.event.Event.{Event}
use Rattle.paraid_base.specs.declared.fault.Halt.{Halt}
use Rattle.paraid_base.specs.declared.fault.Halt.TheVariants.{Two as HaltTwo, Worn}
use Rattle.paraid_base.specs.declared.fault.Two.{Two}
use Rattle.paraid_rack.specs.declared.call.Call.{Call}
use Rattle.paraid_rack.specs.Trail.{Trail}
use Rattle.paraid_record.specs.declared.meta.Setup.{Setup}
use Rattle.paraid_serve.specs.Stretch.{EndsStretch, Turn, TurnsLead, span_of, turn_calls}
use Rattle.paraid_session.specs.Turn.{IsTurn, IsWorn, LosesSecondDisk, Point, halt_told}
use Rattle.paraid_session.specs.Turn.IsTurn.{again, answered, bad, two, worn}
use Rattle.paraid_serve.proofs.OutcomeLemmas.{step_goes}

none_some : (o : Option Halt) (h : Halt) → o ≡ None → o ≡ Some h → ⊥
none_some o h e f = cc

same_halt : (o : Option Halt) (a b : Halt) → o ≡ Some a → o ≡ Some b → a ≡ b
same_halt o a b e f = let z : Some a ≡ Some b = sym e ∙ f in cc

-- why a session halts in a turn
pub data HaltsAt (slots : ℕ) (setup : Setup) (p : Point) (t : Turn) (q : Point) (halt : Halt) : Type 0 where
  lost : (pair : Two) → halt ≡ HaltTwo pair → LosesSecondDisk slots setup p t.event pair t.calls q → HaltsAt slots setup p t q halt
  worn_out : (count : ℕ) → halt ≡ Worn count → IsWorn p t.event count → HaltsAt slots setup p t q halt

-- the turn in which it halts, after which no call is made
pub record MeetsHalt (slots : ℕ) (setup : Setup) (p : Point) (turns : List Turn) (halt : Halt) : Type 0 where
  pub before : List Turn
  pub turn : Turn
  pub rest : List Turn
  pub split : turns ≡ before ++ turn ∷ rest
  pub from : Point
  pub went : TurnsLead slots setup p before from
  pub to : Point
  pub cause : HaltsAt slots setup from turn to halt
  pub silent : turn_calls rest ≡ []

module _ (slots : ℕ) (setup : Setup) where
  turn_stays : (p q : Point) (t : Turn) (halt : Halt) → p.halt ≡ Some halt → IsTurn slots setup p t.event t.answer t.calls q → q ≡ p
  turn_stays p q t halt is (answered going apart a) = absurd (none_some p.halt halt going is)
  turn_stays p q t halt is (two pair going apart told l) = absurd (none_some p.halt halt going is)
  turn_stays p q t halt is (worn count going apart told w none same) = absurd (none_some p.halt halt going is)
  turn_stays p q t halt is (again h was apart told none same) = same
  turn_stays p q t halt is (bad b told none same) = same

  -- after a halt the point stays
  halted_stays : (p q : Point) (ts : List Turn) (halt : Halt) → p.halt ≡ Some halt → TurnsLead slots setup p ts q → q ≡ p
  halted_stays p q [] halt is went = went
  halted_stays p q (t ∷ ts) halt is went =
      let same = turn_stays p went.0 t halt is went.1 in
      halted_stays went.0 q ts halt (ap (λ (z : Point). z.halt) same ∙ is) went.2 ∙ same

  turn_silent : (p q : Point) (t : Turn) (halt : Halt) → p.halt ≡ Some halt → IsTurn slots setup p t.event t.answer t.calls q → t.calls ≡ []
  turn_silent p q t halt is (answered going apart a) = absurd (none_some p.halt halt going is)
  turn_silent p q t halt is (two pair going apart told l) = absurd (none_some p.halt halt going is)
  turn_silent p q t halt is (worn count going apart told w none same) = none
  turn_silent p q t halt is (again h was apart told none same) = none
  turn_silent p q t halt is (bad b told none same) = none

  -- and no call is made
  halted_silent : (p q : Point) (ts : List Turn) (halt : Halt) → p.halt ≡ Some halt → TurnsLead slots setup p ts q → turn_calls ts ≡ []
  halted_silent p q [] halt is went = refl
  halted_silent p q (t ∷ ts) halt is went =
      let same = turn_stays p went.0 t halt is went.1 in
      ap (λ (cs : List Call). cs ++ turn_calls ts) (turn_silent p went.0 t halt is went.1) ∙ halted_silent went.0 q ts halt (ap (λ (z : Point). z.halt) same ∙ is) went.2

  one_before : (p mid : Point) (t : Turn) (ts : List Turn) (halt : Halt) → IsTurn slots setup p t.event t.answer t.calls mid → MeetsHalt slots setup mid ts halt → MeetsHalt slots setup p (t ∷ ts) halt
  one_before p mid t ts halt turn m = record {
    before = t ∷ m.before;
    turn = m.turn;
    rest = m.rest;
    split = ap (λ (l : List Turn). t ∷ l) m.split;
    from = m.from;
    went = (mid, turn, m.went);
    to = m.to;
    cause = m.cause;
    silent = m.silent;
  }

  at_once : (p mid q : Point) (t : Turn) (ts : List Turn) (own halt : Halt) → HaltsAt slots setup p t mid halt → mid.halt ≡ Some own → TurnsLead slots setup mid ts q → MeetsHalt slots setup p (t ∷ ts) halt
  at_once p mid q t ts own halt cause here went =
      record { before = []; turn = t; rest = ts; split = refl; from = p; went = refl; to = mid; cause = cause; silent = halted_silent mid q ts own here went }

  -- the halt that came in a turn is the last one
  kept_halt : (mid q : Point) (ts : List Turn) (own halt : Halt) → mid.halt ≡ Some own → TurnsLead slots setup mid ts q → q.halt ≡ Some halt → halt ≡ own
  kept_halt mid q ts own halt here went is = same_halt q.halt halt own is (ap (λ (z : Point). z.halt) (halted_stays mid q ts own here went) ∙ here)

  meets_by : (p mid q : Point) (t : Turn) (ts : List Turn) (halt : Halt) → p.halt ≡ None → IsTurn slots setup p t.event t.answer t.calls mid → TurnsLead slots setup mid ts q → q.halt ≡ Some halt
      → (mid.halt ≡ None → MeetsHalt slots setup mid ts halt) → MeetsHalt slots setup p (t ∷ ts) halt
  meets_by p mid q t ts halt none (answered going apart a) went is later = one_before p mid t ts halt (answered going apart a) (later a.going)
  meets_by p mid q t ts halt none (two pair going apart told l) went is later = at_once p mid q t ts (HaltTwo pair) halt (lost pair (kept_halt mid q ts (HaltTwo pair) halt l.halted went is) l) l.halted went
  meets_by p mid q t ts halt none (worn count going apart told w no_calls same) went is later =
      at_once p mid q t ts (Worn count) halt (worn_out count (kept_halt mid q ts (Worn count) halt (ap (λ (z : Point). z.halt) same) went is) w) (ap (λ (z : Point). z.halt) same) went
  meets_by p mid q t ts halt none (again h was apart told no_calls same) went is later = absurd (none_some p.halt h none was)
  meets_by p mid q t ts halt none (bad b told no_calls same) went is later = one_before p mid t ts halt (bad b told no_calls same) (later (ap (λ (z : Point). z.halt) same ∙ none))

  -- Turns that lead to a halt come to the turn in which it came.
  pub meets : (p q : Point) (ts : List Turn) (halt : Halt) → p.halt ≡ None → TurnsLead slots setup p ts q → q.halt ≡ Some halt → MeetsHalt slots setup p ts halt
  meets p q [] halt none went is = absurd (none_some q.halt halt (ap (λ (z : Point). z.halt) went ∙ none) is)
  meets p q (t ∷ ts) halt none went is = meets_by p went.0 q t ts halt none went.1 went.2 is (λ still. meets went.0 q ts halt still went.2 is)

  last_turn : (p q : Point) (ts : List Turn) (t : Turn) → TurnsLead slots setup p (ts ++ t ∷ []) q → (mid : Point) × IsTurn slots setup mid t.event t.answer t.calls q
  last_turn p q [] t went = (p, subst (λ (x : Point). IsTurn slots setup p t.event t.answer t.calls x) (sym went.2) went.1)
  last_turn p q (x ∷ ts) t went = last_turn went.0 q ts t went.2

  answer_halt : (a : Answer) (own halt : Halt) → a ≡ Halted own → a ≡ Halted halt → own ≡ halt
  answer_halt a own halt e f = let z : Halted own ≡ Halted halt = sym e ∙ f in cc

  -- a turn that is answered with a halt leads to that halt
  halted_by : (p q : Point) (e : Event) (a : Answer) (cs : List Call) (halt : Halt) → IsTurn slots setup p e a cs q → a ≡ Halted halt → q.halt ≡ Some halt
  halted_by p q e a cs halt (answered going apart it) is = absurd (none_some (halt_told a) halt (step_goes setup p.history p.energy p.state e _ a q.state it.machine) (ap halt_told is))
  halted_by p q e a cs halt (two pair going apart told l) is = l.halted ∙ ap (λ (h : Halt). Some h) (answer_halt a (HaltTwo pair) halt told is)
  halted_by p q e a cs halt (worn count going apart told w none same) is = ap (λ (z : Point). z.halt) same ∙ ap (λ (h : Halt). Some h) (answer_halt a (Worn count) halt told is)
  halted_by p q e a cs halt (again h was apart told none same) is = ap (λ (z : Point). z.halt) same ∙ was ∙ ap (λ (x : Halt). Some x) (answer_halt a h halt told is)
  halted_by p q e a cs halt (bad b told none same) is = absurd (let z : IsBad ≡ Halted halt = sym told ∙ is in cc)

  -- Events of which the last was answered with a halt come to the turn in which it came.
  pub ends_at_cause : (start final : Option Trail) (p : Point) (events : List Event) (halt : Halt) (e : EndsStretch (span_of slots setup start final) p events (Halted halt)) → p.halt ≡ None → MeetsHalt slots setup p e.all.turns halt
  ends_at_cause start final p events halt e none =
      let last = last_turn p e.all.end e.before e.last (subst (λ (ts : List Turn). TurnsLead slots setup p ts e.all.end) e.split e.all.went) in
      meets p e.all.end e.all.turns halt none e.all.went (halted_by last.0 e.all.end e.last.event e.last.answer e.last.calls halt last.1 e.answered)
