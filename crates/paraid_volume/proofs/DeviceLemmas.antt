-- Several calls of a device, one after the other.
use Rattle.std.proofs.Common.{ap, ◌≡◌, ℕ, ◌++◌, ◌∷◌, [], Option, Some, None, refl, sym, ◌∙◌, arith, subst, append_assoc}
use Rattle.std.specs.Prelude.{Bool, IsTrue, IsSome, IsNone}
use Rattle.std.proofs.lemmas.Bool.{false≢true}
use Rattle.std.proofs.lemmas.List.{append-nil}
use Rattle.paraid_base.specs.declared.event.Answer.{Answer}
use Rattle.paraid_base.specs.declared.event.Event.{Event}
use Rattle.paraid_base.specs.declared.event.Event.TheVariants.{Read as ReadEvent, Write as WriteEvent, Flush as FlushEvent, Tick, Up, Down, Fail, Replace, State, Energy, Bad}
use Rattle.paraid_base.specs.BlockAnswers.{Answers, accepted_write}
use Rattle.paraid_base.specs.declared.event.Answer.TheVariants.{Wrote}
use Rattle.paraid_base.specs.declared.pairs.Pairs.{Pairs}
use Rattle.paraid_base.specs.History.{Entry, History}
use Rattle.paraid_base.specs.Pairs.{pairs_of}
use Rattle.paraid_base.specs.declared.fault.Halt.{Halt}
use Rattle.paraid_base.specs.Told.{HasRisen}
use Rattle.paraid_base.proofs.ToldLemmas.{HasRisen-later, HasRisen-sooner}
use Rattle.paraid_volume.specs.Device.{DeviceGoesOn, DeviceHolds, SinceHistory, entries_in, AreAll, KeepsMore, IsReadEvent, IsWriteEvent, IsReadOrWrite}

pub DeviceGoesOn-none : {S : Type 0} (count halts : S → ℕ) (halted : S → Option Halt) (tells : S → Bool) (a : S) → DeviceGoesOn count halts halted tells a a
DeviceGoesOn-none count halts halted tells a = record {
  size = refl;
  later = omega arith;
  cause = both (halted a);
  again = λ s. refl;
  told = λ t. t;
}
  where
    both : (o : Option Halt) → IsNone o → IsSome o → HasRisen (halts a) (halts a)
    both None none some = absurd (false≢true some)
    both (Some halt) none some = cc

pub DeviceGoesOn-then : {S : Type 0} (count halts : S → ℕ) (halted : S → Option Halt) (tells : S → Bool) (a b c : S)
    → DeviceGoesOn count halts halted tells a b → DeviceGoesOn count halts halted tells b c → DeviceGoesOn count halts halted tells a c
DeviceGoesOn-then count halts halted tells a b c f g = record {
  size = g.size ∙ f.size;
  later = let l = f.later in let m = g.later in omega (arith, l, m);
  cause = cause (halted b) refl;
  again = λ some. let is = f.again some in let still : IsSome (halted b) = subst (λ (o : Option Halt). IsSome o) (sym is) some in g.again still ∙ is;
  told = λ t. f.told (g.told t);
}
  where
    cause : (o : Option Halt) → halted b ≡ o → IsNone (halted a) → IsSome (halted c) → HasRisen (halts a) (halts c)
    cause None is none some = HasRisen-sooner _ _ _ f.later (g.cause (subst (λ (o : Option Halt). IsNone o) (sym is) refl) some)
    cause (Some halt) is none some = HasRisen-later _ _ _ (f.cause none (subst (λ (o : Option Halt). IsSome o) (sym is) refl)) g.later

AreAll-append : (kind : Event → Type 0) (a b : Answers) → AreAll kind a → AreAll kind b → AreAll kind (a ++ b)
AreAll-append kind [] b f g = g
AreAll-append kind (e ∷ a) b f g = (f.0, AreAll-append kind a b f.1 g)

AreAll-weaker : (kind other : Event → Type 0) → ((e : Event) → kind e → other e) → (a : Answers) → AreAll kind a → AreAll other a
AreAll-weaker kind other into [] f = tt
AreAll-weaker kind other into (e ∷ a) f = (into e.0 f.0, AreAll-weaker kind other into a f.1)

-- no call was made
pub KeepsMore-none : {S : Type 0} (kept : S → S → Answers → Type 0) (tells : S → Bool) (kind : Event → Type 0) (a : S) → KeepsMore kept tells kind a a
KeepsMore-none kept tells kind a = record { grows = λ first events k. record { more = []; kept = subst (kept first a) (sym (append-nil events)) k; all = tt } }

-- one call was made
pub KeepsMore-one : {S : Type 0} (kept : S → S → Answers → Type 0) (tells : S → Bool) (kind : Event → Type 0) (a b : S) (e : Event) (answer : Answer)
    → ((first : S) (events : Answers) → kept first a events → kept first b (events ++ (e, answer) ∷ [])) → kind e → KeepsMore kept tells kind a b
KeepsMore-one kept tells kind a b e answer keeps is = record { grows = λ first events k. record { more = (e, answer) ∷ []; kept = keeps first events k; all = (is, tt) } }

-- some calls were made, and then others
pub KeepsMore-then : {S : Type 0} (kept : S → S → Answers → Type 0) (tells : S → Bool) (kind : Event → Type 0) (a b c : S) → (IsTrue (tells c) → IsTrue (tells b))
    → KeepsMore kept tells kind a b → KeepsMore kept tells kind b c → KeepsMore kept tells kind a c
KeepsMore-then kept tells kind a b c told f g = record {
  grows = λ first events k.
      let one = f.grows first events k in
      let second = g.grows first (events ++ one.more) one.kept in
      record {
        more = one.more ++ second.more;
        kept = subst (kept first c) (append_assoc events one.more second.more) second.kept;
        all = AreAll-append kind one.more second.more one.all second.all;
      };
}

pub KeepsMore-weaker : {S : Type 0} (kept : S → S → Answers → Type 0) (tells : S → Bool) (kind other : Event → Type 0) (a b : S) → ((e : Event) → kind e → other e)
    → KeepsMore kept tells kind a b → KeepsMore kept tells other a b
KeepsMore-weaker kept tells kind other a b into f = record {
  grows = λ first events k.
      let one = f.grows first events k in
      record { more = one.more; kept = one.kept; all = AreAll-weaker kind other into one.more one.all };
}

pub read_either : (e : Event) → IsReadEvent e → IsReadOrWrite e
read_either (ReadEvent block) is = tt
read_either (WriteEvent pairs) is = tt
read_either FlushEvent is = is
read_either Tick is = is
read_either Up is = is
read_either Down is = is
read_either (Fail disk) is = is
read_either (Replace disk) is = is
read_either State is = is
read_either Energy is = is
read_either Bad is = is

pub write_either : (e : Event) → IsWriteEvent e → IsReadOrWrite e
write_either (ReadEvent block) is = tt
write_either (WriteEvent pairs) is = tt
write_either FlushEvent is = is
write_either Tick is = is
write_either Up is = is
write_either Down is = is
write_either (Fail disk) is = is
write_either (Replace disk) is = is
write_either State is = is
write_either Energy is = is
write_either Bad is = is

pub entries_in-append : (a b : Answers) → entries_in (a ++ b) ≡ entries_in a ++ entries_in b
entries_in-append [] b = refl
entries_in-append (e ∷ a) b = ap (λ (x : History). accepted_write e.0 e.1 ++ x) (entries_in-append a b) ∙ sym (append_assoc (accepted_write e.0 e.1) (entries_in a) (entries_in b))

pub holds_stands : {S : Type 0} (stands : S → History → Type 0) (kept : S → S → Answers → Type 0) (from : SinceHistory S) (a : S) (h : History) → DeviceHolds stands kept from a h → stands a h
holds_stands stands kept None a h holds = holds
holds_stands stands kept (Some from) a h holds = holds.0

-- a call that is no write was made
pub holds_same : {S : Type 0} (stands : S → History → Type 0) (kept : S → S → Answers → Type 0) (from : SinceHistory S) (a b : S) (h : History) (e : Event) (answer : Answer)
    → (stands a h → stands b h) → ((first : S) (events : Answers) → kept first a events → kept first b (events ++ (e, answer) ∷ [])) → accepted_write e answer ≡ [] → DeviceHolds stands kept from a h → DeviceHolds stands kept from b h
holds_same stands kept None a b h e answer now keeps none holds = now holds
holds_same stands kept (Some from) a b h e answer now keeps none holds = (
  now holds.0,
  holds.1 ++ (e, answer) ∷ [],
  subst (kept from.0 b) (append_assoc from.2 holds.1 ((e, answer) ∷ [])) (keeps from.0 (from.2 ++ holds.1) holds.2),
  holds.3 ∙ ap (λ (x : History). from.1 ++ x) (sym same),
)
  where
    same : entries_in (holds.1 ++ (e, answer) ∷ []) ≡ entries_in holds.1
    same = entries_in-append holds.1 ((e, answer) ∷ []) ∙ ap (λ (x : History). entries_in holds.1 ++ (x ++ [])) none ∙ append-nil (entries_in holds.1)

-- a write was accepted
pub holds_write : {S : Type 0} (stands : S → History → Type 0) (kept : S → S → Answers → Type 0) (from : SinceHistory S) (a b : S) (h : History) (pairs : Pairs) (entry : Entry) (number : ℕ)
    → (stands a h → stands b (h ++ entry ∷ [])) → ((first : S) (events : Answers) → kept first a events → kept first b (events ++ (WriteEvent pairs, Wrote number) ∷ [])) → pairs_of pairs ≡ entry
    → DeviceHolds stands kept from a h → DeviceHolds stands kept from b (h ++ entry ∷ [])
holds_write stands kept None a b h pairs entry number now keeps is holds = now holds
holds_write stands kept (Some from) a b h pairs entry number now keeps is holds = (
  now holds.0,
  holds.1 ++ (WriteEvent pairs, Wrote number) ∷ [],
  subst (kept from.0 b) (append_assoc from.2 holds.1 ((WriteEvent pairs, Wrote number) ∷ [])) (keeps from.0 (from.2 ++ holds.1) holds.2),
  ap (λ (x : History). x ++ entry ∷ []) holds.3 ∙ append_assoc from.1 (entries_in holds.1) (entry ∷ []) ∙ ap (λ (x : History). from.1 ++ x) (sym more),
)
  where
    more : entries_in (holds.1 ++ (WriteEvent pairs, Wrote number) ∷ []) ≡ entries_in holds.1 ++ entry ∷ []
    more = entries_in-append holds.1 ((WriteEvent pairs, Wrote number) ∷ []) ∙ ap (λ (x : Entry). entries_in holds.1 ++ x ∷ []) is
