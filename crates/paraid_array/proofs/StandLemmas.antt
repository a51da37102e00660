-- Where an array stands, from one event to the next.
use Rattle.std.proofs.Common.{◌≡◌, ◌≢◌, ℕ, ◌<◌, ◌≤◌, true, false, List, [], length, Option, Some, None, refl, sym, ap, ◌∙◌, subst, arith}
use Rattle.std.specs.Prelude.{max, IsSome}
use Rattle.paraid_base.specs.declared.event.Answer.{Answer}
use Rattle.paraid_base.specs.declared.event.Answer.TheVariants.{Halted}
use Rattle.paraid_base.specs.declared.event.Event.{Event}
use Rattle.paraid_base.specs.declared.event.Event.TheVariants.{Bad}
use Rattle.paraid_base.specs.declared.fault.Halt.{Halt}
use Rattle.paraid_base.specs.declared.fault.Halt.TheVariants.{Worn}
use Rattle.paraid_base.specs.Log.{worn_at}
use Rattle.paraid_base.specs.BlockAnswers.{accepted_write}
use Rattle.paraid_gear.specs.ThreeWindows.{HoldLastSamples, sample_of}
use Rattle.paraid_rack.specs.declared.call.Call.{Call}
use Rattle.paraid_rack.specs.Disks.{Disks}
use Rattle.paraid_rack.specs.Told.{Ran}
use Rattle.paraid_rack.specs.Trail.{Trail}
use Rattle.paraid_record.specs.declared.meta.Meta.{Meta}
use Rattle.paraid_record.specs.declared.meta.Setup.{Setup}
use Rattle.paraid_core.specs.declared.staged.Core.{Core}
use Rattle.paraid_core.specs.Cores.{core_rack}
use Rattle.paraid_session.specs.Turn.{GoesOn, Point, halt_told, may_halt, point_wear, with_halt}
use Rattle.paraid_event.specs.Service.{Service, service_of}
use Rattle.paraid_event.specs.Stands.{StandsAt}
use Rattle.paraid_event.proofs.QuietLemmas.{worn_turn}
use Rattle.paraid_array.specs.declared.array.Array.{Array}
use Rattle.paraid_array.specs.declared.ended.HaltedAt.{HaltedAt}
use Rattle.paraid_array.specs.Arrays.{ArrayStandsAt, GoesOnByEvent, HasEndedAt, told_of_array}
use Rattle.paraid_array.specs.Lasting.{halt_of_end}

pub none_ended : (o : Option HaltedAt) → halt_of_end o ≡ None → o ≡ None
none_ended None e = refl
none_ended (Some x) e = let z : Some x.halt ≡ None = e in cc

pub none_some : {A : Type 0} {B : Type 0} (o : Option A) (x : A) → o ≡ None → o ≡ Some x → B
none_some o x none some = let z : None ≡ Some x = sym none ∙ some in absurd cc

-- how many commits or writes a core has made
pub wear_is : (told : Option Trail) (k : Service) (setup : Setup) (p : Point) → StandsAt told k setup p → point_wear p ≡ max k.meta.epoch k.meta.writes
wear_is told k setup p at =
    let epoch : p.meta.epoch ≡ k.meta.epoch = ap (λ (m : Meta). m.epoch) (sym at.stands.is_base) ∙ sym at.stands.keeps.epoch in
    let writes : length p.history ≡ k.meta.writes = sym at.stands.keeps.writes in
    rw (epoch, writes) refl

pub wear_fits : (told : Option Trail) (k : Service) (setup : Setup) (p : Point) → StandsAt told k setup p → k.meta.epoch < worn_at → k.meta.writes < worn_at → point_wear p < worn_at
wear_fits told k setup p at epoch writes = let is = wear_is told k setup p at in rw is (below (k.meta.epoch) (k.meta.writes) epoch writes)
  where
    below : (a b : ℕ) → a < worn_at → b < worn_at → max a b < worn_at
    below a b x y = grind (arith)

module _ {R : Type 0} {g : _} (count : R → ℕ) (told : R → Option Trail) where
  -- An event that was answered with no halt: the laws say where its core stands, and so much is counted beside it.
  pub served_on : (a b : Array R g) (p : Point) (event : Event) (answer : Answer) (samples : List ℕ) (requests : ℕ)
      → halt_told answer ≡ None → event ≢ Bad → b.ended ≡ None → b.setup ≡ a.setup
      → HoldLastSamples b.windows samples → b.served ≡ sample_of requests
      → Ran (told_of_array told a) (told_of_array told b) (GoesOn (count (core_rack a.core)) a.setup p event answer (StandsAt (told_of_array told b) (service_of count b.core samples requests b.ledger.total) a.setup))
      → Ran (told_of_array told a) (told_of_array told b) (GoesOn (count (core_rack a.core)) a.setup p event answer (ArrayStandsAt count told b))
  served_on a b p event answer samples requests no_halt not_bad going setup windows served ran t tells =
      let r = ran t tells in
      let q : Point = r.holds.0 in
      record {
        from = r.from;
        was = r.was;
        calls = r.calls;
        is = r.is;
        holds = (
          q,
          r.holds.1,
          record {
            serves = λ e. record {
              samples = samples;
              requests = requests;
              windows = windows;
              served = served;
              stands = subst (λ (z : Setup). StandsAt (told_of_array told b) (service_of count b.core samples requests b.ledger.total) z q) (sym setup) r.holds.2;
            };
            halted = λ e some. none_some b.ended e going some;
          },
        );
      }

  -- An event that was refused: nothing has changed.
  pub stays_on : (a : Array R g) (event : Event) (answer : Answer) → halt_of_end a.ended ≡ None → halt_told answer ≡ None → event ≢ Bad → accepted_write event answer ≡ []
      → ((p : Point) (samples : List ℕ) (requests : ℕ) → StandsAt (told_of_array told a) (service_of count a.core samples requests a.ledger.total) a.setup p
      → Ran (told_of_array told a) (told_of_array told a) (GoesOn (count (core_rack a.core)) a.setup p event answer (StandsAt (told_of_array told a) (service_of count a.core samples requests a.ledger.total) a.setup)))
      → GoesOnByEvent count told a a event answer
  stays_on a event answer going no_halt not_bad none law p at =
      let s = at.serves (none_ended a.ended going) in
      served_on a a p event answer s.samples s.requests no_halt not_bad (none_ended a.ended going) refl s.windows s.served
      (law p s.samples s.requests s.stands)

  -- So it is of one that an array takes which has made fewer commits and writes.
  pub refuses : (a : Array R g) (event : Event) (answer : Answer) → halt_of_end a.ended ≡ None → halt_told answer ≡ None → event ≢ Bad → accepted_write event answer ≡ []
      → a.core.meta.epoch < worn_at → a.core.meta.writes < worn_at
      → ((p : Point) (samples : List ℕ) (requests : ℕ) → StandsAt (told_of_array told a) (service_of count a.core samples requests a.ledger.total) a.setup p → point_wear p < worn_at
      → Ran (told_of_array told a) (told_of_array told a) (GoesOn (count (core_rack a.core)) a.setup p event answer (StandsAt (told_of_array told a) (service_of count a.core samples requests a.ledger.total) a.setup)))
      → GoesOnByEvent count told a a event answer
  refuses a event answer going no_halt not_bad none epoch writes law = stays_on a event answer going no_halt not_bad none
      (λ p samples requests at. law p samples requests at (wear_fits (told_of_array told a) (service_of count a.core samples requests a.ledger.total) a.setup p at epoch writes))

  -- An event that ended the service.
  pub ended_on : (a b : Array R g) (p : Point) (event : Event) (answer : Answer) (ended : HaltedAt) (P : Point → Type 0)
      → b.ended ≡ Some ended → ((q : Point) → P q → HasEndedAt ended b.ledger.total q)
      → Ran (told_of_array told a) (told_of_array told b) (GoesOn (count (core_rack a.core)) a.setup p event answer P)
      → Ran (told_of_array told a) (told_of_array told b) (GoesOn (count (core_rack a.core)) a.setup p event answer (ArrayStandsAt count told b))
  ended_on a b p event answer ended P is ends ran t tells =
      let r = ran t tells in
      record {
        from = r.from;
        was = r.was;
        calls = r.calls;
        is = r.is;
        holds = (
          r.holds.0,
          r.holds.1,
          record {
            serves = λ none. none_some b.ended ended none is;
            halted = λ e some. let same : Some ended ≡ Some e = sym is ∙ some in let one : ended ≡ e = cc in subst (λ (x : HaltedAt). HasEndedAt x b.ledger.total r.holds.0) one (ends r.holds.0 r.holds.2);
          },
        );
      }

abbrev pub end_by : Halt → ℕ → HaltedAt
end_by halt gear = record { halt = halt; gear = gear }

-- An array that takes no more ends its service.
module _ {R : Type 0} {g : _} (count : R → ℕ) (told : R → Option Trail) (a b : Array R g) (event : Event) (n : ℕ) (going : halt_of_end a.ended ≡ None) (not_bad : event ≢ Bad) (asked : may_halt event ≡ true) (many : worn_at ≤ n)
    (is : n ≡ max a.core.meta.epoch a.core.meta.writes) (core : b.core ≡ a.core) (energy : b.ledger.total ≡ a.ledger.total) (ended : b.ended ≡ Some (end_by (Worn n) a.core.meta.gear)) where
  pub worn_on : GoesOnByEvent count told a b event (Halted (Worn n))
  worn_on p at =
      let s = at.serves (none_ended a.ended going) in
      let wear : point_wear p ≡ n = wear_is (told_of_array told a) (service_of count a.core s.samples s.requests a.ledger.total) a.setup p s.stands ∙ sym is in
      let ran = worn_turn (told_of_array told a) (service_of count a.core s.samples s.requests a.ledger.total) a.setup p s.stands event not_bad asked (subst (λ (x : ℕ). worn_at ≤ x) (sym wear) many) in
      let named = subst (λ (x : ℕ). Ran (told_of_array told a) (told_of_array told a) (GoesOn (count (core_rack a.core)) a.setup p event (Halted (Worn x)) (λ q. q ≡ with_halt p (Worn x)))) wear ran in
      let moved = subst (λ (c : Core R g). Ran (told_of_array told a) (told (core_rack c)) (GoesOn (count (core_rack a.core)) a.setup p event (Halted (Worn n)) (λ q. q ≡ with_halt p (Worn n)))) (sym core) named in
      ended_on count told a b p event (Halted (Worn n)) (end_by (Worn n) a.core.meta.gear) (λ q. q ≡ with_halt p (Worn n)) ended
      (λ q e. record {
        halt = ap (λ (z : Point). z.halt) e;
        gear = ap (λ (z : Point). z.state.gear) e ∙ s.stands.state.gear;
        energy = ap (λ (z : Point). z.energy) e ∙ s.stands.energy ∙ sym energy;
      }) moved

-- what is told after calls was told before
pub told_before : (old new : Option Trail) (Q : Disks → List Call → Type 0) → Ran old new Q → IsSome new → IsSome old
told_before old (Some t) Q ran some = let r = ran t refl in subst (λ (o : Option Trail). IsSome o) (sym r.was) refl
told_before old None Q ran some = let z : false ≡ true = some in absurd cc

-- The slots are those of the rack, so it is a turn over them.
pub over_slots : {R : Type 0} {g : _} (count : R → ℕ) (told : R → Option Trail) (a b : Array R g) (event : Event) (answer : Answer) → count (core_rack a.core) ≡ a.slots → GoesOnByEvent count told a b event answer
    → (p : Point) → ArrayStandsAt count told a p → Ran (told_of_array told a) (told_of_array told b) (GoesOn a.slots a.setup p event answer (ArrayStandsAt count told b))
over_slots count told a b event answer same turn p at =
    subst (λ (n : ℕ). Ran (told_of_array told a) (told_of_array told b) (GoesOn n a.setup p event answer (ArrayStandsAt count told b))) same (turn p at)
