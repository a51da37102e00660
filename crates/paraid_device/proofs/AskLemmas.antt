-- One event that is asked of an array.
use Rattle.std.proofs.Common.{◌≡◌, ◌≢◌, Option, Some, None, IsSome, refl, ◌∙◌, subst}
use Rattle.std.proofs.lemmas.Bool.{false≢true}
use Rattle.paraid_base.specs.declared.event.Answer.{Answer}
use Rattle.paraid_base.specs.declared.event.Answer.TheVariants.{Halted}
use Rattle.paraid_base.specs.declared.event.Event.{Event}
use Rattle.paraid_base.specs.declared.event.Event.TheVariants.{Bad}
use Rattle.paraid_base.specs.declared.fault.Halt.{Halt}
use Rattle.paraid_rack.specs.Told.{Extends, Ran}
use Rattle.paraid_image.specs.Out.{named_out}
use Rattle.paraid_session.specs.Turn.{GoesOn, Point}
use Rattle.paraid_serve.specs.declared.serves.Serves.{Ghosts}
use Rattle.paraid_serve.specs.Causes.{HasCause, Shows}
use Rattle.paraid_serve.proofs.FormLemmas.{again_cause}
use Rattle.paraid_serve.proofs.GrowsLemmas.{grows_none}
use Rattle.paraid_serve.proofs.HaltLemmas.{served_more}
use Rattle.paraid_serve.proofs.OwedLemmas.{halt_owed, later_owed, setup_owed, two_owed}
use Rattle.paraid_serve.proofs.StretchLemmas.{again_turn}
use Rattle.paraid_device.specs.Asking.{AsksArray}

no_halt_yet : (o p : Option Halt) → o ≡ None → IsSome o → p ≡ o
no_halt_yet o p none some = absurd (false≢true (subst IsSome none some))

module _ {A : Type 0} (g : Ghosts A) where
  -- one that has halted gives its halt, with no call
  pub asks_halted : (a : A) (event : Event) (halt : Halt) → event ≢ Bad → g.halted a ≡ Some halt → ((p : Point) → g.stands a p → p.halt ≡ g.halted a) → (g.shown a).halt ≡ g.halted a → AsksArray g a a event (Halted halt)
  asks_halted a event halt apart is agrees shows = record {
    turn = λ p at. again_turn (g.slots a) (g.setup a) (g.told a) p (g.stands a) event halt apart (agrees p at ∙ is) at;
    grows = grows_none (g.told a);
    same_slots = refl;
    same_setup = refl;
    halt = is;
    again = λ some. refl;
    cause = again_cause (g.shown a) event halt apart (shows ∙ is);
    since = λ start s. s;
  }

  -- one that serves answers
  pub asks_served : (a b : A) (event : Event) (answer : Answer) → g.halted a ≡ None → ((p : Point) → g.stands a p → Ran (g.told a) (g.told b) (GoesOn (g.slots a) (g.setup a) p event answer (g.stands b)))
      → Extends (g.told a) (g.told b) → g.slots b ≡ g.slots a → event ≢ Bad
      → Shows (g.shown a) (g.setup a) (g.slot a) (g.halted a) → Shows (g.shown b) (g.setup b) (g.slot b) (g.halted b) → HasCause (g.shown a) event answer (g.shown b) → AsksArray g a b event answer
  asks_served a b event answer going turn grows slots good shows_a shows_b cause = record {
    turn = turn;
    grows = grows;
    same_slots = slots;
    same_setup = setup_owed g a b shows_a shows_b event answer cause;
    halt = halt_owed g a b shows_a shows_b event answer cause good;
    again = no_halt_yet (g.halted a) (g.halted b) going;
    cause = cause;
    since = λ start s.
        served_more start (g.slot a) (g.slot b) (g.halted a) (g.halted b) (named_out (g.shown a).meta.out) event (two_owed g a b shows_a shows_b event answer cause good going)
        (later_owed g a b shows_a shows_b event answer cause) s;
  }
