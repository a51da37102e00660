-- No disk is spun up more often than is recorded: what calls make of the spin-ups that a meta has recorded and that were made.
use Rattle.std.proofs.Common.{◌≡◌, ◌≢◌, ℕ, ◌+◌, ◌-◌, ◌<◌, ◌≤◌, Bool, true, false, List, [], ◌∷◌, ◌++◌, Option, Some, None, refl, sym, ap, ◌∙◌, inl, inr, subst, arith, if◌then◌else◌}
use Rattle.std.specs.Prelude.{◌==◌, ◌&&◌, ◌||◌, nat_le, nat_lt, slice_index}
use Rattle.std.proofs.lemmas.Bool.{cases_eq, false≢true, le-leb, lt-ltb}
use Rattle.std.proofs.lemmas.Bool.Decides.{nat_tests}
use Rattle.paraid_base.specs.declared.state.Out.{Out}
use Rattle.paraid_base.specs.declared.state.Out.TheVariants.{No, Gone, Fresh}
use Rattle.paraid_base.specs.States.{gone_out, is_out, named_out, rising_to}
use Rattle.paraid_rack.specs.declared.call.Call.{Call}
use Rattle.paraid_rack.specs.declared.call.Call.TheVariants.{Read, Write, Sync, Park, SpinUp, Attach}
use Rattle.paraid_rack.specs.declared.call.Power.{Power}
use Rattle.paraid_rack.specs.declared.call.Power.TheVariants.{Absent, Parked, Spinning}
use Rattle.paraid_rack.specs.Disks.{Disks, is_parked, is_present, power_after, step}
use Rattle.paraid_rack.specs.Lawful.{IsLawful}
use Rattle.paraid_rack.specs.Trail.{run, Trail}
use Rattle.paraid_rack.proofs.AtomsLemmas.{with_at_other, with_at_same}
use Rattle.paraid_record.specs.declared.meta.Meta.{Meta}
use Rattle.paraid_record.specs.declared.meta.Setup.{Setup}
use Rattle.paraid_image.specs.Spins.{made_spin_ups}
use Rattle.paraid_core.specs.Calls.{IsTransferCall}
use Rattle.paraid_recover.specs.Powers.{IsPowerCall}
use Rattle.paraid_session.specs.Ups.{spin_up_count, spin_ups_by}
use Rattle.paraid_txn.specs.Uses.{EachCall}
use Rattle.paraid_rack.specs.Calls.{IsTransfer}
use Rattle.paraid_session.specs.Turn.{Point}
use Rattle.paraid_event.specs.Marks.{ArePoweredByGear}
use Rattle.paraid_event.specs.Service.{Service}
use Rattle.paraid_event.specs.Stands.{StandsAt}
use Rattle.paraid_event.specs.Steps.{made_by}
use Rattle.paraid_event.proofs.ApartLemmas.{no_one}

-- the spin-ups of calls and of others after them
pub up_append : (d : ℕ) (cs ds : List Call) → spin_up_count d (cs ++ ds) ≡ spin_up_count d cs + spin_up_count d ds
up_append d [] ds = omega arith
up_append d (c ∷ cs) ds = let e = up_append d cs ds in omega (arith, e)

transfer_ups : (d : ℕ) (c : Call) → IsTransfer c → spin_ups_by d c ≡ 0
transfer_ups d (Read e p done) is = refl
transfer_ups d (Write e p b done) is = refl
transfer_ups d (Sync e done) is = refl
transfer_ups d (Park e done) is = absurd is
transfer_ups d (SpinUp e done) is = absurd is
transfer_ups d (Attach e size done) is = absurd is

-- calls of a commit, or between two, make none
pub none_up : (n : ℕ) (o : Option ℕ) (s : Disks) (cs : List Call) (d : ℕ) → EachCall (IsTransferCall n o) s cs → spin_up_count d cs ≡ 0
none_up n o s [] d each = refl
none_up n o s (c ∷ cs) d each = let a = transfer_ups d c each.1.2 in let b = none_up n o (step c s) cs d each.2 in omega (arith, a, b)

-- at most what is recorded
pub used_least : (m : Meta) (p : ℕ → Power) (d : ℕ) → made_spin_ups m p d ≤ slice_index m.spins d
used_least m p d = omega arith

not_parked : (was : Power) → is_present was ≡ false → is_parked was ≡ false
not_parked Absent is = refl
not_parked Parked is = absurd (false≢true (sym is))
not_parked Spinning is = absurd (false≢true (sym is))

by_less : (x y z u : Bool) (n : ℕ) → u ≡ false → n - (if (x && y && z) then 1 else 0) ≤ n - (if (x && y && u) then 1 else 0)
by_less true true true false n is = omega arith
by_less true true false false n is = omega arith
by_less true false z u n is = omega arith
by_less false y z u n is = omega arith
by_less x y z true n is = absurd (false≢true (sym is))

-- a disk that is not parked has used all that is recorded
pub used_all : (m : Meta) (p v : ℕ → Power) (d : ℕ) → is_parked (v d) ≡ false → made_spin_ups m p d ≤ made_spin_ups m v d
used_all m p v d is = by_less (nat_le m.gear d) (nat_lt d (rising_to m.phase)) (is_parked (p d)) (is_parked (v d)) (slice_index m.spins d) is

-- where a disk has the same power, or is absent, no less is used
pub used_later : (m : Meta) (p v : ℕ → Power) (d : ℕ) → (is_present (v d) ≡ true → v d ≡ p d) → made_spin_ups m p d ≤ made_spin_ups m v d
used_later m p v d same = by (is_present (v d)) refl
  where
    by : (t : Bool) → is_present (v d) ≡ t → made_spin_ups m p d ≤ made_spin_ups m v d
    by true here = subst (λ (z : Power). made_spin_ups m p d ≤ made_spin_ups m (λ e. z) d) (sym (same here)) (omega arith)
    by false gone = used_all m p v d (not_parked (v d) gone)

-- Disks that are powered by a meta that has recorded what is made.
by_up : (x y z u : Bool) (n : ℕ) → x ≡ true → y ≡ true → z ≡ true → u ≡ false → 1 ≤ n → 1 + (n - (if (x && y && z) then 1 else 0)) ≤ n - (if (x && y && u) then 1 else 0)
by_up true true true false n a b c e one = omega (arith, one)
by_up true true true true n a b c e one = absurd (false≢true (sym e))
by_up true true false u n a b c e one = absurd (false≢true c)
by_up true false z u n a b c e one = absurd (false≢true b)
by_up false y z u n a b c e one = absurd (false≢true a)

by_past : (x y z u : Bool) (n : ℕ) → y ≡ false → n - (if (x && y && z) then 1 else 0) ≤ n - (if (x && y && u) then 1 else 0)
by_past true true z u n is = absurd (false≢true (sym is))
by_past true false z u n is = omega arith
by_past false y z u n is = omega arith

past_test : (a b : ℕ) → b ≤ a → nat_lt a b ≡ false
past_test a b l = grind (arith, nat_tests)

up_power : (done : Bool) → is_parked (power_after done Spinning) ≡ false
up_power true = refl
up_power false = refl

ups_here : (e d : ℕ) → d ≡ e → ◌≡◌ {A = ℕ} (if e == d then 1 else 0) 1
ups_here e d same = grind (arith, nat_tests)

ups_other : (e d : ℕ) → d ≢ e → ◌≡◌ {A = ℕ} (if e == d then 1 else 0) 0
ups_other e d apart = grind (arith, nat_tests)

same_used : (m : Meta) (p v : ℕ → Power) (d : ℕ) → v d ≡ p d → made_spin_ups m p d ≤ made_spin_ups m v d
same_used m p v d same = used_later m p v d (λ here. same)

step_used : (m : Meta) → ((d : ℕ) → m.gear ≤ d → d < rising_to m.phase → 1 ≤ slice_index m.spins d) → (s : Disks) (c : Call) (d : ℕ) → IsLawful s c → IsPowerCall m c
    → spin_ups_by d c + made_spin_ups m s.power d ≤ made_spin_ups m (step c s).power d
unfolding step
step_used m has s (Read e p done) d lawful is = absurd is
step_used m has s (Write e p b done) d lawful is = absurd is
step_used m has s (Sync e done) d lawful is = absurd is
step_used m has s (Park e done) d lawful is = elim (cases_eq d e) [
  | inl same ↦
      let past = is.2 in
      let kept = by_past (nat_le m.gear d) (nat_lt d (rising_to m.phase)) (is_parked (s.power d)) (is_parked ((step (Park e done) s).power d)) (slice_index m.spins d) (past_test d (rising_to m.phase) (omega (arith, past, same))) in
      omega (arith, kept)
  | inr apart ↦
      let kept = same_used m s.power (step (Park e done) s).power d (with_at_other s.power e (power_after done Parked) d apart) in
      omega (arith, kept)
]
step_used m has s (SpinUp e done) d lawful is = elim (cases_eq d e) [
  | inl same ↦
      let from : m.gear ≤ d = (let l = is.1 in omega (arith, l, same)) in
      let low : d < rising_to m.phase = (let l = is.2 in omega (arith, l, same)) in
      let now = ap is_parked (with_at_same s.power e (power_after done Spinning) d same) ∙ up_power done in
      let was = ap is_parked (ap s.power same ∙ lawful) in
      let more = by_up (nat_le m.gear d) (nat_lt d (rising_to m.phase)) (is_parked (s.power d)) (is_parked ((step (SpinUp e done) s).power d)) (slice_index m.spins d) (le-leb _ _ from) (lt-ltb _ _ low) was now (has d from low) in
      let one = ups_here e d same in
      omega (arith, more, one)
  | inr apart ↦
      let more = same_used m s.power (step (SpinUp e done) s).power d (with_at_other s.power e (power_after done Spinning) d apart) in
      let none = ups_other e d apart in
      omega (arith, more, none)
]
step_used m has s (Attach e size done) d lawful is = absurd is

pub raised_used : (m : Meta) → ((d : ℕ) → m.gear ≤ d → d < rising_to m.phase → 1 ≤ slice_index m.spins d) → (s : Disks) (cs : List Call) (d : ℕ) → EachCall (IsPowerCall m) s cs
    → spin_up_count d cs + made_spin_ups m s.power d ≤ made_spin_ups m (run s cs).power d
raised_used m has s [] d each = omega arith
raised_used m has s (c ∷ cs) d each = let a = step_used m has s c d each.0 each.1 in let b = raised_used m has (step c s) cs d each.2 in omega (arith, a, b)

power_ups : (m : Meta) (c : Call) (d : ℕ) → named_out m.out ≡ Some d → IsPowerCall m c → spin_ups_by d c ≡ 0
power_ups m (Read e p done) d named is = absurd is
power_ups m (Write e p b done) d named is = absurd is
power_ups m (Sync e done) d named is = absurd is
power_ups m (Park e done) d named is = refl
power_ups m (SpinUp e done) d named is = elim (cases_eq d e) [
  | inl same ↦ absurd (is.3 (named ∙ ap (λ (x : ℕ). Some x) same))
  | inr apart ↦ ups_other e d apart
]
power_ups m (Attach e size done) d named is = absurd is

-- a disk that is named out is not spun up
pub none_raised : (m : Meta) (s : Disks) (cs : List Call) (d : ℕ) → named_out m.out ≡ Some d → EachCall (IsPowerCall m) s cs → spin_up_count d cs ≡ 0
none_raised m s [] d named each = refl
none_raised m s (c ∷ cs) d named each = let a = power_ups m c d named each.1 in let b = none_raised m (step c s) cs d named each.2 in omega (arith, a, b)

-- Of the disks, but for one that is gone.
out_is : (o : Option ℕ) (d : ℕ) → is_out o d ≡ true → o ≡ Some d
out_is None d is = absurd (false≢true is)
out_is (Some e) d is = ap (λ (x : ℕ). Some x) (sym (equal d e is))
  where
    equal : (a b : ℕ) → (a == b) ≡ true → a ≡ b
    equal a b t = grind (arith, nat_tests)

self_test : (d : ℕ) → (d == d) ≡ true
self_test d = grind (arith, nat_tests)

is_out_by : (o : Option ℕ) (d : ℕ) → o ≡ Some d → is_out o d ≡ true
is_out_by o d is = ap (λ (x : Option ℕ). is_out x d) is ∙ self_test d

pub made_most : (m : Meta) (p : ℕ → Power) (d : ℕ) → made_by m p d ≤ slice_index m.spins d
made_most m p d = by (is_out (gone_out m.out) d)
  where
    by : (t : Bool) → (if t then slice_index m.spins d else made_spin_ups m p d) ≤ slice_index m.spins d
    by true = omega arith
    by false = used_least m p d

used_made : (m : Meta) (p : ℕ → Power) (d : ℕ) → made_spin_ups m p d ≤ made_by m p d
used_made m p d = by (is_out (gone_out m.out) d)
  where
    by : (t : Bool) → made_spin_ups m p d ≤ (if t then slice_index m.spins d else made_spin_ups m p d)
    by true = used_least m p d
    by false = omega arith

-- by what is so of all disks
pub made_step : (u : ℕ) (m n : Meta) (p v : ℕ → Power) (d : ℕ) → (gone_out m.out ≡ Some d → (gone_out n.out ≡ Some d) × (u ≡ 0)) → slice_index m.spins d ≤ slice_index n.spins d → u + made_spin_ups m p d ≤ made_spin_ups n v d
    → u + made_by m p d ≤ made_by n v d
made_step u m n p v d gone spins used = by (is_out (gone_out m.out) d) refl
  where
    by : (t : Bool) → is_out (gone_out m.out) d ≡ t → u + (if t then slice_index m.spins d else made_spin_ups m p d) ≤ made_by n v d
    by true is =
        let g = gone (out_is (gone_out m.out) d is) in
        let z = g.1 in
        subst (λ (t : Bool). u + slice_index m.spins d ≤ (if t then slice_index n.spins d else made_spin_ups n v d)) (sym (is_out_by (gone_out n.out) d g.0)) (omega (arith, z, spins))
    by false is = let l = used_made n v d in omega (arith, used, l)

by_rest : (x y z : Bool) (n : ℕ) → (y ≡ true → z ≡ false) → n ≤ n - (if (x && y && z) then 1 else 0)
by_rest true true true n f = absurd (false≢true (sym (f refl)))
by_rest true true false n f = omega arith
by_rest true false z n f = omega arith
by_rest false y z n f = omega arith

-- where no disk is to be spun up all was made
pub rest_used : (m : Meta) (p : ℕ → Power) (d : ℕ) → (nat_lt d (rising_to m.phase) ≡ true → is_parked (p d) ≡ false) → slice_index m.spins d ≤ made_spin_ups m p d
rest_used m p d up = by_rest (nat_le m.gear d) (nat_lt d (rising_to m.phase)) (is_parked (p d)) (slice_index m.spins d) up

spins_by : (x y : Bool) → y ≡ true → is_parked (if x || y then Spinning else Parked) ≡ false
spins_by true y is = refl
spins_by false true is = refl
spins_by false false is = absurd (false≢true is)

pub rest_made : (m : Meta) (p : ℕ → Power) → ArePoweredByGear p m → (d : ℕ) → d < m.setup.geometry.disks → slice_index m.spins d ≤ made_by m p d
rest_made m p powered d low = split m.out refl
  where
    made : (nat_lt d (rising_to m.phase) ≡ true → is_parked (p d) ≡ false) → slice_index m.spins d ≤ made_by m p d
    made up = let a = rest_used m p d up in let b = used_made m p d in omega (arith, a, b)

    geared : (named_out m.out ≢ Some d) → slice_index m.spins d ≤ made_by m p d
    geared not = made (λ rising. ap is_parked (powered.by_gear d low not) ∙ spins_by (nat_lt d m.gear) (nat_lt d (rising_to m.phase)) rising)

    other : (e : ℕ) → d ≢ e → Some e ≡ Some d → ⊥
    other e apart is = apart (let z : Some e ≡ Some d = is in let same : d ≡ e = cc in same)

    split : (o : Out) → m.out ≡ o → slice_index m.spins d ≤ made_by m p d
    split No out = geared (λ named. no_one (sym (ap named_out out) ∙ named))
    split (Gone e) out = elim (cases_eq d e) [
      | inl same ↦ subst (λ (t : Bool). slice_index m.spins d ≤ (if t then slice_index m.spins d else made_spin_ups m p d))
          (sym (is_out_by (gone_out m.out) d (ap gone_out out ∙ ap (λ (x : ℕ). Some x) (sym same)))) (omega arith)
      | inr apart ↦ geared (λ named. other e apart (sym (ap named_out out) ∙ named))
    ]
    split (Fresh e u) out = elim (cases_eq d e) [
      | inl same ↦ made (λ rising. ap is_parked (ap p same ∙ powered.fresh e u out))
      | inr apart ↦ geared (λ named. other e apart (sym (ap named_out out) ∙ named))
    ]

-- so it is between two events
pub stands_made : (told : Option Trail) (k : Service) (setup : Setup) (p : Point) → StandsAt told k setup p → (d : ℕ) → d < setup.geometry.disks → slice_index p.state.spins d ≤ made_by k.meta p.disks.power d
stands_made told k setup p at d low =
    let r = rest_made k.meta p.disks.power at.powered d (subst (λ (z : Setup). d < z.geometry.disks) (sym at.same_setup) low) in
    let e = ap (λ (l : List ℕ). slice_index l d) at.state.spins in
    omega (arith, r, e)
