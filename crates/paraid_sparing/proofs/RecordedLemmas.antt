-- A turn spins up only the disks that its answer says, each at most once, unless a second disk is lost in it.
use Rattle.std.proofs.Common.{◌≡◌, ℕ, ◌+◌, ◌-◌, ◌<◌, ◌≤◌, Bool, true, false, List, [], ◌∷◌, ◌++◌, Option, None, refl, sym, ap, ◌∙◌, subst, arith, if◌then◌else◌}
use Rattle.std.specs.Prelude.{◌==◌, ◌^◌, nat_lt, min, slice_index}
use Rattle.std.proofs.lemmas.Bool.{false≢true}
use Rattle.std.proofs.lemmas.Bool.Decides.{nat_tests}
use Rattle.paraid_base.specs.declared.event.Answer.{Answer}
use Rattle.paraid_base.specs.declared.event.Event.{Event}
use Rattle.paraid_base.specs.declared.event.Event.TheVariants.{Read, Write, Flush, Tick, Up, Down, Fail, Replace, State, Energy, Bad}
use Rattle.paraid_rack.specs.declared.call.Call.{Call}
use Rattle.paraid_rack.specs.declared.call.Call.TheVariants.{Read as ReadCall, Write as WriteCall, Sync, Park, SpinUp, Attach}
use Rattle.paraid_record.specs.declared.meta.Setup.{Setup}
use Rattle.paraid_serve.specs.Stretch.{Turn, TurnsLead, turn_calls, turn_with}
use Rattle.paraid_session.specs.Turn.{IsAnswered, IsTurn, Point, replaced_by}
use Rattle.paraid_session.specs.Turn.IsTurn.{again, answered, bad, two as second_loss, worn}
use Rattle.paraid_session.specs.Ups.{spin_up_count}
use Rattle.paraid_session.specs.Watch.{Each, IsAllowed, Watch, watch}
use Rattle.paraid_spare.specs.Pools.{slot_spin_ups}
use Rattle.paraid_spare.proofs.SpinLemmas.{slot_spin_ups-append}
use Rattle.paraid_sparing.specs.Sparing.{AnswersLine, AnswersTrace, Stock, spun_by}
use Rattle.paraid_sparing.specs.Sparing.AnswersLine.{alone, spared}
use Rattle.paraid_sparing.specs.Sparing.AnswersTrace.{more, none}
use Rattle.paraid_sparing.specs.Spinning.{AreBesideOne, AreSpunByAnswers, is_second_loss, may_spin, spun_count}
use Rattle.paraid_sparing.proofs.MachineLemmas.{replace_less, step_grows}
use Rattle.paraid_sparing.proofs.SpinLemmas.{calls_then, trace_covers}

slots_are : (cs : List Call) (d : ℕ) → slot_spin_ups cs d ≡ spin_up_count d cs
unfolding slot_spin_ups
slots_are [] d = refl
slots_are (ReadCall e p done ∷ cs) d = let x = slots_are cs d in omega (arith, x)
slots_are (WriteCall e p b done ∷ cs) d = let x = slots_are cs d in omega (arith, x)
slots_are (Sync e done ∷ cs) d = let x = slots_are cs d in omega (arith, x)
slots_are (Park e done ∷ cs) d = let x = slots_are cs d in omega (arith, x)
slots_are (SpinUp e done ∷ cs) d = ap (λ (n : ℕ). (if e == d then 1 else 0) + n) (slots_are cs d)
slots_are (Attach e size done ∷ cs) d = let x = slots_are cs d in omega (arith, x)

other_disk : (e d n : ℕ) → e < n → n ≤ d → ◌≡◌ {A = ℕ} (if e == d then 1 else 0) 0
other_disk e d n low past = grind (arith, nat_tests)

-- no disk past those of the array is spun up
past_none : (P : Watch → Type 0) (setup : Setup) (asked : Option ℕ) (w : Watch) (cs : List Call) (d : ℕ) → Each P (IsAllowed setup asked) w cs → setup.geometry.disks ≤ d → spin_up_count d cs ≡ 0
past_none P setup asked w [] d each past = refl
past_none P setup asked w (ReadCall e p done ∷ cs) d each past = let x = past_none P setup asked (watch (ReadCall e p done) w) cs d each.2 past in omega (arith, x)
past_none P setup asked w (WriteCall e p b done ∷ cs) d each past = let x = past_none P setup asked (watch (WriteCall e p b done) w) cs d each.2 past in omega (arith, x)
past_none P setup asked w (Sync e done ∷ cs) d each past = let x = past_none P setup asked (watch (Sync e done) w) cs d each.2 past in omega (arith, x)
past_none P setup asked w (Park e done ∷ cs) d each past = let x = past_none P setup asked (watch (Park e done) w) cs d each.2 past in omega (arith, x)
past_none P setup asked w (SpinUp e done ∷ cs) d each past =
    let x = past_none P setup asked (watch (SpinUp e done) w) cs d each.2 past in
    let y = other_disk e d setup.geometry.disks each.1.disk past in
    omega (arith, x, y)
past_none P setup asked w (Attach e size done ∷ cs) d each past = let x = past_none P setup asked (watch (Attach e size done) w) cs d each.2 past in omega (arith, x)

below : (a b : ℕ) → nat_lt a b ≡ true → a < b
below a b t = grind (arith, nat_tests)

past_is : (a b : ℕ) → nat_lt a b ≡ false → b ≤ a
past_is a b t = grind (arith, nat_tests)

module _ (slots : ℕ) (setup : Setup) (p : Point) (event : Event) (answer : Answer) (calls : List Call) (q : Point) (a : IsAnswered slots setup p event answer calls q) (d : ℕ) where
  by_state : slot_spin_ups calls d ≤ slice_index q.state.spins d - slice_index p.state.spins d
  by_state = by (nat_lt d setup.geometry.disks) refl
    where
      by : (t : Bool) → nat_lt d setup.geometry.disks ≡ t → slot_spin_ups calls d ≤ slice_index q.state.spins d - slice_index p.state.spins d
      by true is = let u = a.ups d (below d setup.geometry.disks is) in let s = slots_are calls d in omega (arith, u, s)
      by false is = let u = past_none _ setup (replaced_by event) _ calls d a.moments (past_is d setup.geometry.disks is) in let s = slots_are calls d in omega (arith, u, s)

  by_answer : slot_spin_ups calls d ≤ spun_count (spun_by answer) d
  by_answer = let g = step_grows setup p.history p.energy p.state event _ answer q.state a.machine d in let u = by_state in omega (arith, g, u)

answered_spun : (slots : ℕ) (setup : Setup) (p : Point) (event : Event) (answer : Answer) (calls : List Call) (q : Point) → IsAnswered slots setup p event answer calls q → (d : ℕ) → slot_spin_ups calls d ≤ may_spin event answer d
answered_spun slots setup p (Read b) answer calls q a d = by_answer slots setup p (Read b) answer calls q a d
answered_spun slots setup p (Write pairs) answer calls q a d = by_answer slots setup p (Write pairs) answer calls q a d
answered_spun slots setup p Flush answer calls q a d = by_answer slots setup p Flush answer calls q a d
answered_spun slots setup p Tick answer calls q a d = by_answer slots setup p Tick answer calls q a d
answered_spun slots setup p Up answer calls q a d = by_answer slots setup p Up answer calls q a d
answered_spun slots setup p Down answer calls q a d = by_answer slots setup p Down answer calls q a d
answered_spun slots setup p (Fail e) answer calls q a d = by_answer slots setup p (Fail e) answer calls q a d
answered_spun slots setup p (Replace e) answer calls q a d =
    let l = replace_less setup p.history p.energy p.state e _ answer q.state a.machine d in
    let u = by_state slots setup p (Replace e) answer calls q a d in
    omega (arith, l, u)
answered_spun slots setup p State answer calls q a d = by_answer slots setup p State answer calls q a d
answered_spun slots setup p Energy answer calls q a d = by_answer slots setup p Energy answer calls q a d
answered_spun slots setup p Bad answer calls q a d = by_answer slots setup p Bad answer calls q a d

none_made : (d n : ℕ) (calls : List Call) → calls ≡ [] → slot_spin_ups calls d ≤ n
none_made d n calls is = let s = slots_are calls d in let z : spin_up_count d calls ≡ 0 = ap (spin_up_count d) is in omega (arith, s, z)

turn_spun : (slots : ℕ) (setup : Setup) (p : Point) (event : Event) (answer : Answer) (calls : List Call) (q : Point) → IsTurn slots setup p event answer calls q → is_second_loss answer ≡ false → (d : ℕ) → slot_spin_ups calls d ≤ may_spin event answer d
turn_spun slots setup p event answer calls q (answered going not_bad a) one d = answered_spun slots setup p event answer calls q a d
turn_spun slots setup p event answer calls q (second_loss two going not_bad is loses) one d = absurd (false≢true (sym one ∙ ap is_second_loss is))
turn_spun slots setup p event answer calls q (worn count going not_bad is many none_called same) one d = none_made d (may_spin event answer d) calls none_called
turn_spun slots setup p event answer calls q (again halt stood not_bad is none_called same) one d = none_made d (may_spin event answer d) calls none_called
turn_spun slots setup p event answer calls q (bad asked is none_called same) one d = none_made d (may_spin event answer d) calls none_called

beside_split : (ts us : List Turn) → AreBesideOne (ts ++ us) → AreBesideOne ts × AreBesideOne us
beside_split [] us all = (tt, all)
beside_split (t ∷ ts) us all = let rest = beside_split ts us all.1 in ((all.0, rest.0), rest.1)

spun_join : (ts us : List Turn) → AreSpunByAnswers ts → AreSpunByAnswers us → AreSpunByAnswers (ts ++ us)
spun_join [] us a b = b
spun_join (t ∷ ts) us a b = (a.0, spun_join ts us a.1 b)

line_spun : (slots : ℕ) (setup : Setup) (wait : ℕ) (p : Point) (k : Stock) (event : Event) (ts : List Turn) (text : List ℕ) (q : Point) (j : Stock) → AnswersLine slots setup wait p k event ts text q j → AreBesideOne ts → AreSpunByAnswers ts
line_spun slots setup wait p k event ts text q j (alone t end free is went) one = (turn_spun slots setup p t.event t.answer t.calls end went one.0, tt)
line_spun slots setup wait p k event ts text q j (spared e s t mid end due is first same second) one =
    (turn_spun slots setup p s.event s.answer s.calls mid first one.0, (turn_spun slots setup mid t.event t.answer t.calls end second one.1.0, tt))

pub trace_spun : (slots : ℕ) (setup : Setup) (wait : ℕ) (p : Point) (k : Stock) (events : List Event) (turns : List Turn) (text : List ℕ) (q : Point) (j : Stock) → AnswersTrace slots setup wait p k events turns text q j → AreBesideOne turns → AreSpunByAnswers turns
trace_spun slots setup wait p k events turns text q j none one = tt
trace_spun slots setup wait p k events turns text q j (more es us tx mid i before event ts line end last l) one =
    let parts = beside_split us ts one in
    spun_join us ts (trace_spun slots setup wait p k es us tx mid i before parts.0) (line_spun slots setup wait mid i event ts line end last l parts.1)

-- so the number of each slot is no less than its spin-ups
pub trace_counts : (slots : ℕ) (setup : Setup) (wait : ℕ) (p : Point) (k : Stock) (events : List Event) (turns : List Turn) (text : List ℕ) (q : Point) (j : Stock) → AnswersTrace slots setup wait p k events turns text q j
    → AreBesideOne turns → (d : ℕ) → d < 8 → k.spins d ≡ 0 → min (slot_spin_ups (turn_calls turns) d) (2 ^ 64 - 1) ≤ j.spins d
trace_counts slots setup wait p k events turns text q j answers one d low fresh =
    trace_covers slots setup wait p k events turns text q j answers (trace_spun slots setup wait p k events turns text q j answers one) d fresh

last_turn : (slots : ℕ) (setup : Setup) (p : Point) (ts : List Turn) (t : Turn) (q : Point) → TurnsLead slots setup p (ts ++ t ∷ []) q → (mid : Point) × (end : Point) × IsTurn slots setup mid t.event t.answer t.calls end
last_turn slots setup p [] t q went = (p, went.0, went.1)
last_turn slots setup p (s ∷ ts) t q went = last_turn slots setup went.0 ts t q went.2

few_by : (o : Option (ℕ × ℕ)) (d c : ℕ) → o ≡ None → c ≤ spun_count o d → c ≤ 0
few_by o d c is few = subst (λ (x : Option (ℕ × ℕ)). c ≤ spun_count x d) is few

-- and with the flush at last
pub ends_count : (slots : ℕ) (setup : Setup) (wait : ℕ) (p : Point) (k : Stock) (events : List Event) (ts : List Turn) (text : List ℕ) (mid : Point) (j : Stock) → AnswersTrace slots setup wait p k events ts text mid j
    → (answer : Answer) (calls : List Call) (all : List Turn) (q : Point) → TurnsLead slots setup p all q → all ≡ ts ++ turn_with Flush answer calls ∷ [] → spun_by answer ≡ None
    → AreBesideOne all → (d : ℕ) → d < 8 → k.spins d ≡ 0 → min (slot_spin_ups (turn_calls all) d) (2 ^ 64 - 1) ≤ j.spins d
ends_count slots setup wait p k events ts text mid j answers answer calls all q went is quiet one d low fresh =
    let t : Turn = turn_with Flush answer calls in
    let parts = beside_split ts (t ∷ []) (subst AreBesideOne is one) in
    let lines = trace_counts slots setup wait p k events ts text mid j answers parts.0 d low fresh in
    let turn = last_turn slots setup p ts t q (subst (λ (x : List Turn). TurnsLead slots setup p x q) is went) in
    let few = few_by (spun_by answer) d (slot_spin_ups calls d) quiet (turn_spun slots setup turn.0 Flush answer calls turn.1 turn.2 parts.1.0 d) in
    let split = ap (λ (x : List Turn). slot_spin_ups (turn_calls x) d) is ∙ ap (λ (cs : List Call). slot_spin_ups cs d) (calls_then ts (t ∷ [])) ∙ slot_spin_ups-append (turn_calls ts) (calls ++ []) d in
    let last = slot_spin_ups-append calls [] d in
    let none_left : slot_spin_ups [] d ≡ 0 = slots_are [] d in
    together (slot_spin_ups (turn_calls all) d) (slot_spin_ups (turn_calls ts) d) (slot_spin_ups (calls ++ []) d) (slot_spin_ups calls d) (slot_spin_ups [] d) (j.spins d) split last none_left few lines
  where
    together : (a b c e z n : ℕ) → a ≡ b + c → c ≡ e + z → z ≡ 0 → e ≤ 0 → min b (2 ^ 64 - 1) ≤ n → min a (2 ^ 64 - 1) ≤ n
    together a b c e z n f g h i l = omega (arith, f, g, h, i, l)
