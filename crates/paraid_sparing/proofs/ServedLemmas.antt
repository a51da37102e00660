-- From the events of a line to the line.
use Rattle.std.proofs.Common.{◌≡◌, ℕ, ◌-◌, List, [], ◌∷◌, ◌++◌, Option, Some, None, refl, sym, ap, ◌∙◌, subst}
use Rattle.std.proofs.lemmas.List.{append-nil}
use Rattle.paraid_base.specs.declared.event.Answer.{Answer}
use Rattle.paraid_base.specs.declared.event.Event.{Event}
use Rattle.paraid_base.specs.declared.event.Event.TheVariants.{Replace}
use Rattle.paraid_rack.specs.declared.call.Call.{Call}
use Rattle.paraid_rack.specs.Told.{Came, Extends, Ran}
use Rattle.paraid_rack.specs.Trail.{Trail, extend}
use Rattle.paraid_rack.proofs.TrailsLemmas.{extend-extend}
use Rattle.paraid_record.specs.declared.meta.Setup.{Setup}
use Rattle.paraid_serve.specs.Stretch.{turn_with}
use Rattle.paraid_session.specs.Turn.{GoesOn, Point}
use Rattle.paraid_spare.specs.declared.pool.Pool.{Pool}
use Rattle.paraid_sparing.specs.Serving.{Keeps, ServesLine}
use Rattle.paraid_sparing.specs.Sparing.{Stock, due_when, spare_line, stock_when, used}
use Rattle.paraid_sparing.specs.Sparing.AnswersLine.{alone, spared}
use Rattle.paraid_trace.specs.Replies.{reply_of}

same_trail : (o : Option Trail) (a b : Trail) → o ≡ Some a → o ≡ Some b → a ≡ b
same_trail o a b e f = some_same a b (sym e ∙ f)
  where
    some_same : (a b : Trail) → Some a ≡ Some b → a ≡ b
    some_same a b e = cc

module _ (slots : ℕ) (setup : Setup) (wait : ℕ) (p : Point) (k : Stock) (event : Event) (line text : List ℕ) (answer : Answer) (stood : Point → Type 0) (pool : Pool) (told : text ≡ reply_of answer) where
  pub served_alone : (a b : Option Trail) → line ≡ [] → due_when wait k p.halt p.state.out event ≡ None → Ran a b (GoesOn slots setup p event answer stood) → ((q : Point) → stood q → Keeps pool wait (stock_when k answer q.halt q.state.out))
      → Ran a b (ServesLine slots setup wait p k event (line ++ text) stood pool)
  served_alone a b empty none goes kept t tells =
      let came = goes t tells in
      let q = came.holds.0 in
      record {
        from = came.from;
        was = came.was;
        calls = came.calls;
        is = came.is;
        holds = rw (empty, told) (record {
          turns = turn_with event answer came.calls ∷ [];
          end = q;
          stock = stock_when k answer q.halt q.state.out;
          answers = alone (turn_with event answer came.calls) q none refl came.holds.1;
          made = sym (append-nil came.calls);
          stood = came.holds.2;
          keeps = kept q came.holds.2;
        });
      }

  pub served_spared : (a b c : Option Trail) (d left slots_now : ℕ) (setup_now : Setup) (spare : Answer) (mid_stood : Point → Type 0) → slots_now ≡ slots → setup_now ≡ setup → left ≡ k.left → line ≡ spare_line spare (left - 1) → due_when wait k p.halt p.state.out event ≡ Some d
      → Ran a b (GoesOn slots setup p (Replace d) spare mid_stood) → Extends b c → ((q : Point) → mid_stood q → Ran b c (GoesOn slots_now setup_now q event answer stood)) → ((q : Point) → stood q → Keeps pool wait (stock_when (used k) answer q.halt q.state.out))
      → Ran a c (ServesLine slots setup wait p k event (line ++ text) stood pool)
  served_spared a b c d left slots_now setup_now spare mid_stood same_slots same_setup is_left line_is due first grows second kept t tells =
      let g = grows t tells in
      let one = first g.from g.was in
      let mid = one.holds.0 in
      let two = subst (λ (n : ℕ). Came b t (GoesOn n setup mid event answer stood)) same_slots (subst (λ (u : Setup). Came b t (GoesOn slots_now u mid event answer stood)) same_setup (second mid one.holds.2 t tells)) in
      let q = two.holds.0 in
      record {
        from = one.from;
        was = one.was;
        calls = one.calls ++ two.calls;
        is = two.is ∙ ap (λ (u : Trail). extend u two.calls) (same_trail b two.from g.from two.was g.was ∙ one.is) ∙ extend-extend one.from one.calls two.calls;
        holds = rw (line_is, told, is_left) (record {
          turns = turn_with (Replace d) spare one.calls ∷ turn_with event answer two.calls ∷ [];
          end = q;
          stock = stock_when (used k) answer q.halt q.state.out;
          answers = spared d (turn_with (Replace d) spare one.calls) (turn_with event answer two.calls) mid q due refl one.holds.1 refl two.holds.1;
          made = ap (λ (l : List Call). one.calls ++ l) (sym (append-nil two.calls));
          stood = two.holds.2;
          keeps = kept q two.holds.2;
        });
      }
