-- What is told after calls is what was told before, longer by some calls.
use Rattle.std.proofs.Common.{◌≡◌, ◌≤◌, arith, inl, inr, ℕ, [], List, Option, refl, subst, ◌∙◌}
use Rattle.paraid_rack.specs.declared.call.Call.{Call}
use Rattle.paraid_rack.specs.Disks.{Disks}
use Rattle.paraid_rack.specs.Slots.{Slot}
use Rattle.paraid_rack.specs.Told.{Extends, Ran}
use Rattle.paraid_rack.specs.Trail.{Trail}
use Rattle.paraid_rack.proofs.TrailsLemmas.{Ran-none, Ran-then}
use Rattle.paraid_recover.proofs.MountedLemmas.{ran_extends}
use Rattle.paraid_txn.specs.Stores.{store_rack}
use Rattle.paraid_core.specs.declared.staged.Core.{Core}
use Rattle.paraid_core.specs.Cores.{core_rack}
use Rattle.paraid_shift.specs.Steps.{StepsOrWaits}
use Rattle.paraid_upkeep.specs.Service.{MakesCalls}

-- no call
pub extends_none : (told : Option Trail) → Extends told told
extends_none told = Ran-none (λ _ _. Unit {0}) (λ _. tt) told

-- calls, then calls
pub extends_then : (old mid new : Option Trail) → Extends old mid → Extends mid new → Extends old new
extends_then old mid new first second = Ran-then (λ _ _. Unit {0}) (λ s cs ds a b. tt) old mid new first second

module _ {R : Type 0} {g : _} (told : R → Option Trail) where
  -- calls from a core that has the store of another
  pub extends_store : (a b c : Core R g) → b.store ≡ a.store → Extends (told (core_rack b)) (told (core_rack c)) → Extends (told (core_rack a)) (told (core_rack c))
  extends_store a b c same then = subst (λ (x : _). Extends (told (store_rack x)) (told (core_rack c))) same then

  -- calls of which more is told
  pub extends_core : (a b : Core R g) (Q : Disks → List Call → Type 0) → Ran (told (core_rack a)) (told (core_rack b)) Q → Extends (told (core_rack a)) (told (core_rack b))
  extends_core a b Q ran = ran_extends Q (told (core_rack a)) (told (core_rack b)) ran

  -- calls, then calls
  pub extends_cores : (a b c : Core R g) → Extends (told (core_rack a)) (told (core_rack b)) → Extends (told (core_rack b)) (told (core_rack c)) → Extends (told (core_rack a)) (told (core_rack c))
  extends_cores a b c first second = extends_then (told (core_rack a)) (told (core_rack b)) (told (core_rack c)) first second

  -- the calls of the units that a shift moved
  pub extends_steps : (count : R → ℕ) (a b : Core R g) (most : ℕ) → StepsOrWaits count told a b most → Extends (told (core_rack a)) (told (core_rack b))
  extends_steps count a b most (inl steps) = extends_core a b _ (steps [] 0 [] 0 0)
  extends_steps count a b most (inr (is, waits)) = extends_core a b _ (waits [] 0 [] 0 0)

-- counts of faults that do not fall in two calls
pub no_fall_then : (a b c : ℕ → Slot) → ((d : ℕ) → (a d).faults ≤ (b d).faults) → ((d : ℕ) → (b d).faults ≤ (c d).faults) → (d : ℕ) → (a d).faults ≤ (c d).faults
no_fall_then a b c first second d =
    let one = first d in
    let two = second d in
    omega (arith, one, two)

module _ {R : Type 0} {g : _} (count : R → ℕ) (slot : R → ℕ → Slot) (told : R → Option Trail) where
  pub calls_none : (a : Core R g) → MakesCalls count slot told a a
  calls_none a = record { slots = refl; no_fall = λ d. omega arith; grows = extends_none (told (core_rack a)) }

  -- by what is told of them
  pub calls_told : (a b : Core R g) (Q : Disks → List Call → Type 0) → count (core_rack b) ≡ count (core_rack a) → ((d : ℕ) → (slot (core_rack a) d).faults ≤ (slot (core_rack b) d).faults) → Ran (told (core_rack a)) (told (core_rack b)) Q → MakesCalls count slot told a b
  calls_told a b Q slots kept ran = record { slots = slots; no_fall = kept; grows = extends_core told a b Q ran }

  pub calls_then : (a b c : Core R g) → MakesCalls count slot told a b → MakesCalls count slot told b c → MakesCalls count slot told a c
  calls_then a b c first second = record {
    slots = second.slots ∙ first.slots;
    no_fall = no_fall_then (slot (core_rack a)) (slot (core_rack b)) (slot (core_rack c)) first.no_fall second.no_fall;
    grows = extends_cores told a b c first.grows second.grows;
  }
