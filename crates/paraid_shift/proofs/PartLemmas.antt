-- What calls of a core leave of the rack, one after the other, and what they tell where a second disk is lost.
use Rattle.std.specs.Prelude.{◌≡◌, ℕ, ◌+◌, ◌≤◌, Result, Ok, Err, IsErrAnd}
use Rattle.std.proofs.Common.{sym, ◌∙◌, subst}
use Rattle.paraid_base.specs.declared.fault.Two.{Two}
use Rattle.paraid_rack.specs.declared.rack.Rack.{Ghosts}
use Rattle.paraid_image.specs.Out.{named_out}
use Rattle.paraid_txn.specs.Losses.{AreTwoDown, OnlyLosesSlots}
use Rattle.paraid_txn.specs.Stores.{store_rack}
use Rattle.paraid_core.specs.declared.staged.Core.{Core}
use Rattle.paraid_core.specs.Cores.{core_down}
use Rattle.paraid_core.specs.Lost.{CoreTellsLosses}
use Rattle.paraid_core.specs.Steps.{LeavesCore}
use Rattle.paraid_shift.specs.Outcomes.{PowersDisks}
use Rattle.paraid_shift.specs.Parts.{KeepsRack, SparesRack}
use Rattle.paraid_event.specs.CoreServing.{LeavesArray}
use Rattle.paraid_shift.specs.Steps.{CoreLosesInSteps, CoreStepsInEvent}
use Rattle.paraid_shift.proofs.LossLemmas.{core_tells_after}
use Rattle.paraid_shift.proofs.MovedLossLemmas.{core_loses_then, core_loses_within}
use Rattle.paraid_shift.proofs.OutcomeLemmas.{no_fall_then}
use Rattle.paraid_event.proofs.CoreServingLemmas.{two_array}

-- a call that ended well
pub keeps_done : {R A : Type 0} {g : Ghosts R} {a b : Core R g} {Told : Two → Type 0} {it : A} → LeavesArray g.slot_count g.slot a b → KeepsRack a b Told (Ok it)
keeps_done leaves = record { slots = leaves.slots; no_fall = leaves.turned.no_fall; two = tt; loses = tt }

pub spares_done : {R A : Type 0} {g : Ghosts R} {a b : Core R g} {Told : Two → Type 0} {it : A} → LeavesCore g.slot_count g.slot a b → SparesRack a b Told (Ok it)
spares_done leaves = record { slots = leaves.slots; spared = leaves.spared; two = tt; loses = tt }

-- a call that hands on the two disks of an error
pub keeps_failed : {R A : Type 0} {g : Ghosts R} {a b : Core R g} {Told : Two → Type 0} {two : Two} (result : Result A Two) → IsErrAnd result (λ x. x ≡ two)
    → g.slot_count (store_rack b.store) ≡ g.slot_count (store_rack a.store) → ((d : ℕ) → (g.slot (store_rack a.store) d).faults ≤ (g.slot (store_rack b.store) d).faults)
    → AreTwoDown (core_down a) (g.slot (store_rack a.store)) (g.slot (store_rack b.store)) two → Told two → KeepsRack a b Told result
keeps_failed (Ok it) is slots no_fall down told = absurd is
keeps_failed {g = g} {a = a} {b = b} {Told = Told} (Err other) is slots no_fall down told = record {
  slots = slots;
  no_fall = no_fall;
  two = subst (AreTwoDown (core_down a) (g.slot (store_rack a.store)) (g.slot (store_rack b.store))) (sym is) down;
  loses = subst Told (sym is) told;
}

pub spares_failed : {R A : Type 0} {g : Ghosts R} {a b : Core R g} {Told : Two → Type 0} {two : Two} (result : Result A Two) → IsErrAnd result (λ x. x ≡ two)
    → g.slot_count (store_rack b.store) ≡ g.slot_count (store_rack a.store) → OnlyLosesSlots (g.slot (store_rack a.store)) (g.slot (store_rack b.store))
    → AreTwoDown (core_down a) (g.slot (store_rack a.store)) (g.slot (store_rack b.store)) two → Told two → SparesRack a b Told result
spares_failed (Ok it) is slots spared down told = absurd is
spares_failed {g = g} {a = a} {b = b} {Told = Told} (Err other) is slots spared down told = record {
  slots = slots;
  spared = spared;
  two = subst (AreTwoDown (core_down a) (g.slot (store_rack a.store)) (g.slot (store_rack b.store))) (sym is) down;
  loses = subst Told (sym is) told;
}

-- the same of a call that is the only one, with what more is told of the two
pub keeps_raised : {R A B : Type 0} {g : Ghosts R} {a b : Core R g} {P Q : Two → Type 0} {two : Two} (result : Result B Two) → IsErrAnd result (λ x. x ≡ two)
    → KeepsRack {A = A} a b P (Err two) → Q two → KeepsRack a b Q result
keeps_raised result is rack told = keeps_failed result is rack.slots rack.no_fall rack.two told

pub spares_raised : {R A B : Type 0} {g : Ghosts R} {a b : Core R g} {P Q : Two → Type 0} {two : Two} (result : Result B Two) → IsErrAnd result (λ x. x ≡ two)
    → SparesRack {A = A} a b P (Err two) → Q two → SparesRack a b Q result
spares_raised result is rack told = spares_failed result is rack.slots rack.spared rack.two told

-- a call that turns no disk
pub keeps_spared : {R A : Type 0} {g : Ghosts R} {a b : Core R g} {P : Two → Type 0} {result : Result A Two} → SparesRack a b P result → KeepsRack a b P result
keeps_spared rack = record { slots = rack.slots; no_fall = rack.spared.no_fall; two = rack.two; loses = rack.loses }

-- what is told of the two tells more
pub keeps_as : {R A : Type 0} {g : Ghosts R} {a b : Core R g} {P Q : Two → Type 0} (result : Result A Two) → ((two : Two) → P two → Q two) → KeepsRack a b P result → KeepsRack a b Q result
keeps_as (Ok it) more rack = record { slots = rack.slots; no_fall = rack.no_fall; two = tt; loses = tt }
keeps_as (Err two) more rack = record { slots = rack.slots; no_fall = rack.no_fall; two = rack.two; loses = more two rack.loses }

-- the two are lost in the later one of two calls
pub keeps_later : {R A B : Type 0} {g : Ghosts R} (a b c : Core R g) {P Q : Two → Type 0} {two : Two} (result : Result B Two) → IsErrAnd result (λ x. x ≡ two)
    → LeavesArray g.slot_count g.slot a b → KeepsRack {A = A} b c P (Err two) → Q two → KeepsRack a c Q result
keeps_later {g = g} a b c {two = two} result is leaves rack told =
    keeps_failed result is (rack.slots ∙ leaves.slots) (no_fall_then g.slot a b c leaves.turned.no_fall rack.no_fall) (two_array g.slot_count g.slot a b c leaves rack.no_fall two rack.two) told

-- in parts of an event
pub keeps_stepped : {R A B : Type 0} {g : Ghosts R} (a b c : Core R g) (n m bound : ℕ) {two : Two} (result : Result B Two) → IsErrAnd result (λ x. x ≡ two) → n + m ≤ bound
    → LeavesArray g.slot_count g.slot a b → CoreStepsInEvent g.slot_count g.told a b n → KeepsRack {A = A} b c (CoreLosesInSteps g.slot_count g.told b c m) (Err two)
    → KeepsRack a c (CoreLosesInSteps g.slot_count g.told a c bound) result
keeps_stepped {g = g} a b c n m bound {two} result is le leaves steps rack =
    keeps_later a b c result is leaves rack (core_loses_within g.slot_count g.told a c (n + m) bound two le (core_loses_then g.slot_count g.told a b c n m two steps rack.loses))

-- after disks that were powered
pub keeps_powered : {R A B : Type 0} {g : Ghosts R} (a b c : Core R g) {two : Two} (result : Result B Two) → IsErrAnd result (λ x. x ≡ two)
    → PowersDisks g.slot_count g.slot g.told a b → KeepsRack {A = A} b c (CoreTellsLosses g.told (named_out b.meta.out) b c) (Err two)
    → KeepsRack a c (CoreTellsLosses g.told (named_out a.meta.out) a c) result
keeps_powered {g = g} a b c {two} result is first rack =
    keeps_later a b c result is first.leaves rack (core_tells_after g.slot_count g.slot g.told a b c two first.bears rack.loses)
