-- Spin-ups of turns, and the numbers of slots.
use Rattle.std.proofs.Common.{◌≡◌, ℕ, ◌+◌, ◌-◌, ◌^◌, ◌≤◌, Bool, true, false, List, [], ◌∷◌, ◌++◌, Option, Some, None, min, refl, sym, ap, ◌∙◌, subst, arith}
use Rattle.std.specs.Prelude.{◌&&◌, nat_le, nat_lt, if◌then◌else◌}
use Rattle.std.proofs.lemmas.List.{append_assoc}
use Rattle.paraid_base.specs.declared.event.Answer.{Answer}
use Rattle.paraid_base.specs.declared.event.Event.{Event}
use Rattle.paraid_base.specs.declared.event.Event.TheVariants.{Read, Write, Flush, Tick, Up, Down, Fail, Replace, State, Energy, Bad}
use Rattle.paraid_rack.specs.declared.call.Call.{Call}
use Rattle.paraid_record.specs.declared.meta.Setup.{Setup}
use Rattle.paraid_serve.specs.Stretch.{Turn, turn_calls}
use Rattle.paraid_session.specs.Turn.{Point}
use Rattle.paraid_spare.specs.Pools.{slot_spin_ups}
use Rattle.paraid_spare.proofs.SpinLemmas.{slot_spin_ups-append}
use Rattle.paraid_sparing.specs.Sparing.{AnswersLine, AnswersTrace, Stock, spins_after, spun_by}
use Rattle.paraid_sparing.specs.Sparing.AnswersLine.{alone, spared}
use Rattle.paraid_sparing.specs.Sparing.AnswersTrace.{more, none}
use Rattle.paraid_sparing.specs.Spinning.{AreSpunByAnswers, may_spin, spun_count}

pub calls_then : (ts us : List Turn) → turn_calls (ts ++ us) ≡ turn_calls ts ++ turn_calls us
calls_then [] us = refl
calls_then (t ∷ ts) us = ap (λ (l : List Call). t.calls ++ l) (calls_then ts us) ∙ sym (append_assoc t.calls (turn_calls ts) (turn_calls us))

split : (ts us : List Turn) → AreSpunByAnswers (ts ++ us) → AreSpunByAnswers ts × AreSpunByAnswers us
split [] us all = (tt, all)
split (t ∷ ts) us all = let rest = split ts us all.1 in ((all.0, rest.0), rest.1)

-- a count more, where it may be spun up
counts : (b : Bool) (n a c : ℕ) → min a (2 ^ 64 - 1) ≤ n → c ≤ (if b then 1 else 0) → min (a + c) (2 ^ 64 - 1) ≤ (if b then min (n + 1) (2 ^ 64 - 1) else n)
counts true n a c covers few = omega (arith, covers, few)
counts false n a c covers few = omega (arith, covers, few)

counts_by : (o : Option (ℕ × ℕ)) (spins : ℕ → ℕ) (d a c : ℕ) → min a (2 ^ 64 - 1) ≤ spins d → c ≤ spun_count o d → min (a + c) (2 ^ 64 - 1) ≤ spins_after o spins d
counts_by None spins d a c covers few = omega (arith, covers, few)
counts_by (Some range) spins d a c covers few = counts (nat_le range.0 d && nat_lt d range.1) (spins d) a c covers few

-- an event spins up no more than its answer says
within : (event : Event) (answer : Answer) (d c : ℕ) → c ≤ may_spin event answer d → c ≤ spun_count (spun_by answer) d
within (Read b) answer d c few = few
within (Write pairs) answer d c few = few
within Flush answer d c few = few
within Tick answer d c few = few
within Up answer d c few = few
within Down answer d c few = few
within (Fail e) answer d c few = few
within (Replace e) answer d c few = omega (arith, few)
within State answer d c few = few
within Energy answer d c few = few
within Bad answer d c few = few

no_more : (event : Event) (answer : Answer) (e d c : ℕ) → event ≡ Replace e → c ≤ may_spin event answer d → c ≤ 0
no_more event answer e d c is few = subst (λ (x : Event). c ≤ may_spin x answer d) is few

nothing : (d : ℕ) → slot_spin_ups [] d ≡ 0
unfolding slot_spin_ups
nothing d = refl

at_first : (n d : ℕ) → min (slot_spin_ups [] d) (2 ^ 64 - 1) ≤ n
at_first n d = let z = nothing d in omega (arith, z)

line_covers : (slots : ℕ) (setup : Setup) (wait : ℕ) (p : Point) (k : Stock) (event : Event) (ts : List Turn) (text : List ℕ) (q : Point) (j : Stock) → AnswersLine slots setup wait p k event ts text q j → AreSpunByAnswers ts
    → (d a : ℕ) → min a (2 ^ 64 - 1) ≤ k.spins d → min (a + slot_spin_ups (turn_calls ts) d) (2 ^ 64 - 1) ≤ j.spins d
line_covers slots setup wait p k event ts text q j (alone t end free is went) few d a covers =
    let c = slot_spin_ups-append t.calls [] d in
    let none_left : slot_spin_ups [] d ≡ 0 = nothing d in
    let n = counts_by (spun_by t.answer) k.spins d a (slot_spin_ups t.calls d) covers (within t.event t.answer d (slot_spin_ups t.calls d) (few.0 d)) in
    subst (λ (x : ℕ). min (a + x) (2 ^ 64 - 1) ≤ j.spins d) (sym (c ∙ ap (λ (x : ℕ). slot_spin_ups t.calls d + x) none_left ∙ plus_zero (slot_spin_ups t.calls d))) n
  where
    plus_zero : (n : ℕ) → n + 0 ≡ n
    plus_zero n = omega arith
line_covers slots setup wait p k event ts text q j (spared e s t mid end due is first same second) few d a covers =
    let c = slot_spin_ups-append s.calls (t.calls ++ []) d in
    let c2 = slot_spin_ups-append t.calls [] d in
    let none_left = nothing d in
    let zero_first = no_more s.event s.answer e d (slot_spin_ups s.calls d) is (few.0 d) in
    let n = counts_by (spun_by t.answer) k.spins d a (slot_spin_ups t.calls d) covers (within t.event t.answer d (slot_spin_ups t.calls d) (few.1.0 d)) in
    subst (λ (x : ℕ). min (a + x) (2 ^ 64 - 1) ≤ j.spins d) (together (slot_spin_ups t.calls d) (slot_spin_ups s.calls d) (slot_spin_ups (t.calls ++ []) d) (slot_spin_ups [] d) (slot_spin_ups (s.calls ++ (t.calls ++ [])) d) none_left c2 c zero_first) n
  where
    together : (t s tn z all : ℕ) → z ≡ 0 → tn ≡ t + z → all ≡ s + tn → s ≤ 0 → t ≡ all
    together t s tn z all a b c f = omega (arith, a, b, c, f)

pub trace_covers : (slots : ℕ) (setup : Setup) (wait : ℕ) (p : Point) (k : Stock) (events : List Event) (turns : List Turn) (text : List ℕ) (q : Point) (j : Stock) → AnswersTrace slots setup wait p k events turns text q j → AreSpunByAnswers turns
    → (d : ℕ) → k.spins d ≡ 0 → min (slot_spin_ups (turn_calls turns) d) (2 ^ 64 - 1) ≤ j.spins d
trace_covers slots setup wait p k events turns text q j none few d fresh = at_first (k.spins d) d
trace_covers slots setup wait p k events turns text q j (more es us tx mid i before event ts line end last l) few d fresh =
    let parts = split us ts few in
    let first = trace_covers slots setup wait p k es us tx mid i before parts.0 d fresh in
    let both = line_covers slots setup wait mid i event ts line end last l parts.1 d (slot_spin_ups (turn_calls us) d) first in
    subst (λ (n : ℕ). min n (2 ^ 64 - 1) ≤ last.spins d) (sym (ap (λ (cs : List Call). slot_spin_ups cs d) (calls_then us ts) ∙ slot_spin_ups-append (turn_calls us) (turn_calls ts) d)) both
