-- Spin-ups that come while at most one disk is down.
use Rattle.std.proofs.Common.{◌≡◌, ℕ, ◌≤◌, ◌==◌, Bool, true, false, List, [], ◌∷◌, ◌++◌, Option, Some, None, refl, subst, arith, if◌then◌else◌}
use Rattle.std.proofs.lemmas.Bool.Decides.{nat_tests}
use Rattle.paraid_base.specs.States.{rising_to}
use Rattle.paraid_rack.specs.declared.call.Call.{Call}
use Rattle.paraid_rack.specs.declared.call.Call.TheVariants.{Read, Write, Sync, Park, SpinUp, Attach}
use Rattle.paraid_rack.specs.Disks.{Disks, step}
use Rattle.paraid_record.specs.declared.meta.Meta.{Meta}
use Rattle.paraid_image.specs.Calls.{disk_of, is_done}
use Rattle.paraid_session.specs.Watch.{Down, IsServing, Watch, down_after, down_from_out, fails_on, nobody, only, several, watch, watch_all, with_down}
use Rattle.paraid_recover.specs.Powers.{IsPowerCall}
use Rattle.paraid_txn.specs.Uses.{EachCall}
use Rattle.paraid_event.specs.Powering.{SpinsWhileServing}
use Rattle.paraid_event.specs.Steps.{IsOnly}
use Rattle.paraid_event.proofs.EndLemmas.{only_end}

-- where the one is down the other is
abbrev IsLess : Down → Down → Type 0
IsLess nobody down = Unit {0}
IsLess (only d) nobody = ⊥
IsLess (only d) (only e) = d ≡ e
IsLess (only d) several = Unit {0}
IsLess several nobody = ⊥
IsLess several (only e) = ⊥
IsLess several several = Unit {0}

less_self : (down : Down) → IsLess down down
less_self nobody = tt
less_self (only d) = refl
less_self several = tt

less_several : (down : Down) → IsLess down several
less_several nobody = tt
less_several (only d) = tt
less_several several = tt

serving_less : (low high : Down) → IsLess low high → IsServing high → IsServing low
serving_less nobody high less serving = tt
serving_less (only d) high less serving = tt
serving_less several nobody less serving = absurd less
serving_less several (only e) less serving = absurd less
serving_less several several less serving = serving

one_less : (d e : ℕ) (t : Bool) → (d == e) ≡ t → IsLess (only d) (if t then only e else several)
one_less d e true is = equal d e is
  where
    equal : (a b : ℕ) → (a == b) ≡ true → a ≡ b
    equal a b t = grind (arith, nat_tests)
one_less d e false is = tt

less_with : (d : ℕ) (low high : Down) → IsLess low high → IsLess (with_down d low) (with_down d high)
less_with d nobody nobody less = refl
less_with d nobody (only e) less = one_less d e (d == e) refl
less_with d nobody several less = tt
less_with d (only x) nobody less = absurd less
less_with d (only x) (only e) less = subst (λ (z : ℕ). IsLess (with_down d (only x)) (with_down d (only z))) less (less_self (with_down d (only x)))
less_with d (only x) several less = less_several (with_down d (only x))
less_with d several nobody less = absurd less
less_with d several (only e) less = absurd less
less_with d several several less = tt

less_after : (c : Call) (low high : Down) → IsLess low high → IsLess (down_after low c) (down_after high c)
less_after c low high less = by (is_done c)
  where
    by : (t : Bool) → IsLess (if t then low else with_down (disk_of c) low) (if t then high else with_down (disk_of c) high)
    by true = less
    by false = less_with (disk_of c) low high less

spins_low : (low high : Down) (cs : List Call) → IsLess low high → SpinsWhileServing high cs → SpinsWhileServing low cs
spins_low low high [] less spins = tt
spins_low low high (c ∷ cs) less spins = ((λ d done is. serving_less low high less (spins.0 d done is)), spins_low (down_after low c) (down_after high c) cs (less_after c low high less) spins.1)

only_less : (o : Option ℕ) (down : Down) → IsOnly o down → IsLess down (down_from_out o)
only_less o nobody is = tt
only_less None (only d) is = let z : None ≡ Some d = is in absurd cc
only_less (Some e) (only d) is = let z : Some e ≡ Some d = is in cc
only_less o several is = absurd is

-- so where fewer disks are down
pub spins_only : (o : Option ℕ) (down : Down) (cs : List Call) → IsOnly o down → SpinsWhileServing (down_from_out o) cs → SpinsWhileServing down cs
spins_only o down cs is spins = spins_low down (down_from_out o) cs (only_less o down is) spins

spins_append : (w : Watch) (cs ds : List Call) → SpinsWhileServing w.down cs → SpinsWhileServing (watch_all cs w).down ds → SpinsWhileServing w.down (cs ++ ds)
spins_append w [] ds first second = second
spins_append w (c ∷ cs) ds first second = (first.0, spins_append (watch c w) cs ds first.1 second)

only_before : (o p : Option ℕ) → ((d : ℕ) → o ≡ Some d → p ≡ Some d) → IsOnly p (down_from_out o)
only_before None p stays = tt
only_before (Some d) p stays = stays d refl

-- One part after the other: each disk that fails in the first is the one that is out then.
pub spins_then : (o p : Option ℕ) (s : Disks) (cs ds : List Call) → ((d : ℕ) → o ≡ Some d → p ≡ Some d) → ((e : ℕ) → fails_on e cs ≡ true → p ≡ Some e)
    → SpinsWhileServing (down_from_out o) cs → SpinsWhileServing (down_from_out p) ds → SpinsWhileServing (down_from_out o) (cs ++ ds)
spins_then o p s cs ds stays failed first second =
    let w : Watch = record { disks = s; down = down_from_out o; spun = λ d. 0; awaited = None } in
    spins_append w cs ds first (spins_only p (watch_all cs w).down ds (only_end p w cs (only_before o p stays) failed) second)

serving_out : (o : Option ℕ) → IsServing (down_from_out o)
serving_out None = tt
serving_out (Some d) = tt

-- one call is made while at most the disk is down that is out
pub spins_once : (o : Option ℕ) (c : Call) → SpinsWhileServing (down_from_out o) (c ∷ [])
spins_once o c = ((λ d done is. serving_out o), tt)

no_spin : (m : Meta) (c : Call) → rising_to m.phase ≤ m.gear → IsPowerCall m c → (d : ℕ) (done : Bool) → c ≡ SpinUp d done → ⊥
no_spin m (Read e p ok) low is d done made = absurd is
no_spin m (Write e p b ok) low is d done made = absurd is
no_spin m (Sync e ok) low is d done made = absurd is
no_spin m (Park e ok) low is d done made = let z : Park e ok ≡ SpinUp d done = made in cc
no_spin m (SpinUp e ok) low is d done made = let past = is.1 in let rises = is.2 in absurd (omega (arith, low, past, rises))
no_spin m (Attach e size ok) low is d done made = absurd is

-- no disk is spun up where none comes up
pub spins_none : (m : Meta) (down : Down) (s : Disks) (cs : List Call) → rising_to m.phase ≤ m.gear → EachCall (IsPowerCall m) s cs → SpinsWhileServing down cs
spins_none m down s [] low each = tt
spins_none m down s (c ∷ cs) low each = ((λ d done is. absurd (no_spin m c low each.1 d done is)), spins_none m (down_after down c) (step c s) cs low each.2)
