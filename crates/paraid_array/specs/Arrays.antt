-- What contracts see of an array, and where it stands in a session.
use Rattle.std.specs.Prelude.{◌≡◌, ℕ, ◌<◌, Bool, List, [], length, Option, Some, None}
use Rattle.paraid_base.specs.declared.event.Answer.{Answer}
use Rattle.paraid_base.specs.declared.event.Event.{Event}
use Rattle.paraid_base.specs.declared.fault.Halt.{Halt}
use Rattle.paraid_dirty.specs.Table.{is_dirty}
use Rattle.paraid_image.specs.Power.{PowerState}
use Rattle.paraid_gear.specs.ThreeWindows.{HoldLastSamples, sample_of}
use Rattle.paraid_rack.specs.Slots.{Slot}
use Rattle.paraid_rack.specs.Told.{Extends, Ran}
use Rattle.paraid_rack.specs.Trail.{Trail}
use Rattle.paraid_record.specs.declared.meta.Meta.{Meta}
use Rattle.paraid_record.specs.declared.meta.Setup.{Setup}
use Rattle.paraid_core.specs.declared.staged.Core.{Core}
use Rattle.paraid_core.specs.Cores.{core_rack}
use Rattle.paraid_serve.specs.Causes.{HasCause, Shown}
use Rattle.paraid_session.specs.Turn.{GoesOn, Point}
use Rattle.paraid_event.specs.Counts.{with_counts_of}
use Rattle.paraid_event.specs.Service.{IsStateOf, service_of}
use Rattle.paraid_event.specs.Stands.{StandsAt}
use Rattle.paraid_array.specs.declared.array.Array.{Array}
use Rattle.paraid_array.specs.declared.ended.HaltedAt.{HaltedAt}
use Rattle.paraid_array.specs.Lasting.{gear_of_end, halt_of_end, samples_held}

-- its core
abbrev pub core_of_array : {R : Type 0} {g : _} → Array R g → Core R g
core_of_array array = array.core

-- the record of its rack, where it is told
abbrev pub told_of_array : {R : Type 0} {g : _} → (R → Option Trail) → Array R g → Option Trail
told_of_array told array = told (core_rack array.core)

-- the number of slots of its rack
abbrev pub slots_of_array : {R : Type 0} {g : _} → Array R g → ℕ
slots_of_array array = array.slots

-- what it is configured to be
abbrev pub setup_of_array : {R : Type 0} {g : _} → Array R g → Setup
setup_of_array array = array.setup

-- what is always told of the slots of its rack
abbrev pub slot_of_array : {R : Type 0} {g : _} → (R → ℕ → Slot) → Array R g → ℕ → Slot
slot_of_array slot array = slot (core_rack array.core)

-- the meta under which it serves
abbrev pub meta_of_array : {R : Type 0} {g : _} → Array R g → Meta
meta_of_array array = array.core.meta

-- its dirty cells
abbrev pub dirty_of_array : {R : Type 0} {g : _} → Array R g → ℕ → ℕ → Bool
dirty_of_array array = is_dirty array.core.dirty

-- nothing is staged
abbrev pub HasNothingStaged : {R : Type 0} {g : _} → Array R g → Type 0
HasNothingStaged array = array.core.batch ≡ []

-- what has ended its service
abbrev pub end_of_array : {R : Type 0} {g : _} → Array R g → Option HaltedAt
end_of_array array = array.ended

-- the halt that has ended its service
abbrev pub halt_of_array : {R : Type 0} {g : _} → Array R g → Option Halt
halt_of_array array = halt_of_end array.ended

-- the energy that it has used since its mount
abbrev pub energy_of_array : {R : Type 0} {g : _} → Array R g → ℕ
energy_of_array array = array.ledger.total

-- the last samples, as many as its longest window has
abbrev pub samples_of_array : {R : Type 0} {g : _} → Array R g → List ℕ
samples_of_array array = samples_held array.windows

-- the requests since the last tick, no more than a sample may have
abbrev pub served_of_array : {R : Type 0} {g : _} → Array R g → ℕ
served_of_array array = sample_of array.served

-- Nothing is counted yet: no energy is used, no sample is taken, and no request was heard.
pub record CountsNothing {R : Type 0} {g : _} (array : Array R g) : Type 0 where
  pub energy : ◌≡◌ {A = ℕ} (energy_of_array array) 0
  pub samples : samples_of_array array ≡ []
  pub requests : ◌≡◌ {A = ℕ} (served_of_array array) 0

-- what is seen of it over every rack
abbrev pub shown_of_array : {R : Type 0} {g : _} → (R → ℕ → Slot) → Array R g → Shown
shown_of_array slot array = record {
  setup = array.setup;
  meta = array.core.meta;
  dirty = is_dirty array.core.dirty;
  staged = length array.core.batch;
  slot = slot (core_rack array.core);
  gear = gear_of_end array.ended array.core.meta.gear;
  energy = array.ledger.total;
  samples = samples_held array.windows;
  served = sample_of array.served;
  halt = halt_of_end array.ended;
}

-- It serves, and stands at this point of a session: by all samples since its mount, of which its
-- windows hold the last, and all requests since the last tick, of which it counts no more than a
-- sample may have.
pub record ServesAt {R : Type 0}
    {g : _} (count : R → ℕ) (told : R → Option Trail) (array : Array R g) (p : Point) : Type 0 where
  pub samples : List ℕ
  pub requests : ℕ
  pub windows : HoldLastSamples array.windows samples
  pub served : array.served ≡ sample_of requests
  pub stands : StandsAt (told_of_array told array)
      (service_of count array.core samples requests array.ledger.total) array.setup p

-- Its service has ended: the point tells the halt, the gear before it, and so much energy.
pub record HasEndedAt (ended : HaltedAt) (used : ℕ) (p : Point) : Type 0 where
  pub halt : p.halt ≡ Some ended.halt
  pub gear : p.state.gear ≡ ended.gear
  pub energy : p.energy ≡ used

-- where an array stands in a session, also after a halt
pub record ArrayStandsAt {R : Type 0}
    {g : _} (count : R → ℕ) (told : R → Option Trail) (array : Array R g) (p : Point) : Type 0 where
  pub serves : array.ended ≡ None → ServesAt count told array p
  pub halted : (ended : HaltedAt) → array.ended ≡ Some ended → HasEndedAt ended array.ledger.total p

-- An event takes each point at which the array stood to one at which it stands then.
abbrev pub GoesOnByEvent : {R : Type 0} {g : _}
    → (R → ℕ) → (R → Option Trail) → Array R g → Array R g → Event → Answer → Type 0
GoesOnByEvent count told old new event answer = (p : Point) → ArrayStandsAt count told old p
    → Ran (told_of_array told old) (told_of_array told new)
    (GoesOn (count (core_rack old.core)) old.setup p event answer (ArrayStandsAt count told new))

-- The array answers an event, over the same slots: each point at which it stood goes to one at
-- which it stands, what is told is longer by its calls, and the answer has its cause.
pub record AnswersEvent {R : Type 0} {g : _} (count : R → ℕ) (slot : R → ℕ → Slot)
    (told : R → Option Trail) (old new : Array R g) (event : Event) (answer : Answer) : Type 0 where
  pub turn : GoesOnByEvent count told old new event answer
  pub grows : Extends (told_of_array told old) (told_of_array told new)
  pub slots : new.slots ≡ old.slots
  pub cause : HasCause (shown_of_array slot old) event answer (shown_of_array slot new)

-- The dirty cells are then those that this change makes of each state that the array showed, by its
-- meta as it is then.
abbrev pub ChangesCellsBy : {R : Type 0} {g : _}
    → (R → ℕ) → Array R g → Array R g → (PowerState → PowerState) → Type 0
ChangesCellsBy count old new change = (samples : List ℕ) (requests : ℕ) (s : PowerState)
    → IsStateOf (with_counts_of (service_of count new.core samples requests new.ledger.total)
    (service_of count old.core samples requests old.ledger.total)) s → (r d : ℕ)
    → r < new.core.meta.setup.geometry.rows → is_dirty new.core.dirty r d ≡ (change s).dirty r d
