-- The events of an array over a core as turns of a session.
use Rattle.std.specs.Prelude.{◌≡◌, ℕ, ◌<◌, ◌+◌, min, length, List, Option, Some, None}
use Rattle.paraid_base.specs.History.{History}
use Rattle.paraid_base.specs.Log.{worn_at}
use Rattle.paraid_base.specs.declared.event.Answer.{Answer}
use Rattle.paraid_base.specs.declared.event.Answer.TheVariants.{Failed, Halted, NoDisk, NoFresh, NotOut, Out as IsOut, Replaced, Shift, Ticked}
use Rattle.paraid_base.specs.declared.event.Event.{Event}
use Rattle.paraid_base.specs.declared.event.Event.TheVariants.{Tick}
use Rattle.paraid_base.specs.declared.fault.Halt.TheVariants.{Two as HaltTwo}
use Rattle.paraid_base.specs.declared.fault.Two.{Two}
use Rattle.paraid_base.specs.declared.state.GearReport.{GearReport}
use Rattle.paraid_gear.specs.ThreeWindows.{HoldLastSamples}
use Rattle.paraid_gear.specs.declared.three_windows.Windows.{Windows}
use Rattle.paraid_rack.specs.Told.{Ran}
use Rattle.paraid_rack.specs.Trail.{Trail, now}
use Rattle.paraid_record.specs.declared.meta.Setup.{Setup}
use Rattle.paraid_image.specs.Mark.{meta_after_loss}
use Rattle.paraid_core.specs.declared.staged.Core.{Core}
use Rattle.paraid_core.specs.Cores.{core_rack}
use Rattle.paraid_machine.specs.Energy.{begun_energy, energy_after}
use Rattle.paraid_session.specs.Turn.{GoesOn, Point, point_wear}
use Rattle.paraid_event.specs.Lost.{IsHaltedFrom, TellsTwo}
use Rattle.paraid_event.specs.Parts.{LosesInEvent, ServesEvent}
use Rattle.paraid_event.specs.Service.{Service, service_of}
use Rattle.paraid_event.specs.Stands.{ServiceStandsFor, StandsAt}
use Rattle.paraid_event.specs.Ticks.{CountsTick, IsHaltedWith}
use Rattle.paraid_upkeep.specs.Refusals.{fault_answer}
use Rattle.paraid_upkeep.specs.declared.asked.ShiftOutcome.{ShiftOutcome}
use Rattle.paraid_upkeep.specs.declared.asked.ShiftOutcome.TheVariants.{Begun, Refused}
use Rattle.paraid_upkeep.specs.declared.fault.FailFault.{FailFault}
use Rattle.paraid_upkeep.specs.declared.fault.FailFault.TheVariants.{NoDisk as FailNoDisk, Out as FailOut}
use Rattle.paraid_upkeep.specs.declared.fault.ReplaceFault.{ReplaceFault}
use Rattle.paraid_upkeep.specs.declared.fault.ReplaceFault.TheVariants.{NoDisk as ReplaceNoDisk, NoFresh as ReplaceNoFresh, NotOut as ReplaceNotOut}
use Rattle.paraid_base.specs.Told.{counter_most}

-- The event takes each point at which the core stood, with any counts, to one at which it stands
-- then, with the energy that it has used.
abbrev pub CoreGoesOn : {R : Type 0} {g : _}
    → (R → ℕ) → (R → Option Trail) → Core R g → Core R g → Event → Answer → Type 0
CoreGoesOn count told old new event answer =
    (setup : Setup) (p : Point) (samples : List ℕ) (served energy : ℕ)
    → StandsAt (told (core_rack old)) (service_of count old samples served energy) setup p
    → point_wear p < worn_at → Ran (told (core_rack old)) (told (core_rack new))
    (GoesOn (count (core_rack old)) setup p event answer (StandsAt (told (core_rack new))
    (service_of count new samples served (energy_after setup energy p.state answer)) setup))

-- A second disk is lost in the event, and ends the service.
abbrev pub CoreHalts : {R : Type 0} {g : _}
    → (R → ℕ) → (R → Option Trail) → Core R g → Core R g → Event → Two → Type 0
CoreHalts count told old new event two =
    (setup : Setup) (p : Point) (samples : List ℕ) (served energy : ℕ)
    → StandsAt (told (core_rack old)) (service_of count old samples served energy) setup p
    → point_wear p < worn_at → Ran (told (core_rack old)) (told (core_rack new)) (GoesOn
    (count (core_rack old)) setup p event (Halted (HaltTwo two)) (IsHaltedFrom p (HaltTwo two)))

-- A tick that has counted itself, with its sample in these windows and its own energy used, takes
-- each point at which the array stood before it to one at which it stands then; a shift up that it
-- begins uses the energy of its spin-ups.
abbrev pub CoreTicks : {R : Type 0} {g : _}
    → (R → ℕ) → (R → Option Trail) → Windows → Core R g → Core R g → GearReport → Type 0
CoreTicks count told windows old new report =
    (k : Service) (setup : Setup) (p : Point) (samples : List ℕ) (served energy : ℕ)
    → HoldLastSamples windows samples → StandsAt (told (core_rack old)) k setup p
    → point_wear p < worn_at → CountsTick k (service_of count old samples served energy)
    → Ran (told (core_rack old)) (told (core_rack new)) (GoesOn (count (core_rack old)) setup p Tick
    (Ticked report) (StandsAt (told (core_rack new)) (service_of count new samples served
    (min (energy + begun_energy setup p.state.gear report.event) counter_most)) setup))

-- A second disk is lost in it, and ends the service with the energy of the tick used.
abbrev pub CoreTickHalts : {R : Type 0} {g : _}
    → (R → ℕ) → (R → Option Trail) → Windows → Core R g → Core R g → Two → Type 0
CoreTickHalts count told windows old new two =
    (k : Service) (setup : Setup) (p : Point) (samples : List ℕ) (served energy : ℕ)
    → HoldLastSamples windows samples → StandsAt (told (core_rack old)) k setup p
    → point_wear p < worn_at → CountsTick k (service_of count old samples served energy)
    → Ran (told (core_rack old)) (told (core_rack new)) (GoesOn (count (core_rack old)) setup p Tick
    (Halted (HaltTwo two)) (IsHaltedWith p (HaltTwo two) energy))

-- the answer that tells that disk `d` was taken out, or why not
abbrev pub fail_answer : ℕ → Option FailFault → Answer
fail_answer d None = Failed d
fail_answer d (Some (FailNoDisk e)) = NoDisk e
fail_answer d (Some (FailOut e)) = IsOut e

-- the answer that tells that disk `d` was replaced, or why not
abbrev pub replace_answer : ℕ → Option ReplaceFault → Answer
replace_answer d None = Replaced d
replace_answer d (Some (ReplaceNoDisk e)) = NoDisk e
replace_answer d (Some (ReplaceNotOut e)) = NotOut e
replace_answer d (Some (ReplaceNoFresh e)) = NoFresh e

-- the answer that tells that a shift from this gear has begun, or why not
abbrev pub asked_answer : ℕ → ShiftOutcome → Answer
asked_answer gear (Begun to) = Shift gear to
asked_answer gear (Refused fault) = fault_answer fault

-- In an event all writes are kept by the call, in which a disk may be lost.
abbrev pub CoreCommits : {R : Type 0} {g : _}
    → (R → ℕ) → (R → Option Trail) → Core R g → Core R g → Type 0
CoreCommits count told old new = (setup : Setup) (p : Point) (samples : List ℕ) (served energy : ℕ)
    → StandsAt (told (core_rack old)) (service_of count old samples served energy) setup p
    → Ran (told (core_rack old))
    (told (core_rack new)) (ServesEvent (service_of count old samples served energy)
    (service_of count new samples served energy) p.history p.low p.history (length p.history))

-- A second disk is lost in it.
abbrev pub CoreLosesCommit : {R : Type 0} {g : _}
    → (R → ℕ) → (R → Option Trail) → Core R g → Core R g → Two → Type 0
CoreLosesCommit count told old new two =
    (h : History) (lo : ℕ) (samples : List ℕ) (served energy : ℕ)
    → Ran (told (core_rack old)) (told (core_rack new)) (λ s cs.
    LosesInEvent (service_of count old samples served energy) h lo s cs
    × TellsTwo (service_of count old samples served energy) two s cs)

-- a service with the mark that disk `d` is gone
abbrev pub with_taken : Service → ℕ → Service
with_taken k d = record k { meta = meta_after_loss k.meta d }

-- Where the core stands, it does so with this mark too.
abbrev pub CanMarkTaken : {R : Type 0} {g : _}
    → (R → ℕ) → (R → Option Trail) → Core R g → ℕ → Type 0
CanMarkTaken count told core d =
    (h : History) (lo : ℕ) (samples : List ℕ) (served energy : ℕ) (t : Trail)
    → told (core_rack core) ≡ Some t
    → ServiceStandsFor (service_of count core samples served energy) h lo (now t)
    → ServiceStandsFor (with_taken (service_of count core samples served energy) d) h lo (now t)

-- From there the mark is committed, with all that is staged.
abbrev pub CoreCommitsTaken : {R : Type 0} {g : _}
    → (R → ℕ) → (R → Option Trail) → Core R g → Core R g → ℕ → Type 0
CoreCommitsTaken count told old new d =
    (h : History) (lo : ℕ) (samples : List ℕ) (served energy : ℕ) → Ran (told (core_rack old))
    (told (core_rack new)) (ServesEvent (with_taken (service_of count old samples served energy) d)
    (service_of count new samples served energy) h lo h (length h))

-- A second disk is lost in that.
abbrev pub CoreLosesTaken : {R : Type 0} {g : _}
    → (R → ℕ) → (R → Option Trail) → Core R g → Core R g → ℕ → Two → Type 0
CoreLosesTaken count told old new d two =
    (h : History) (lo : ℕ) (samples : List ℕ) (served energy : ℕ)
    → Ran (told (core_rack old)) (told (core_rack new)) (λ s cs.
    LosesInEvent (with_taken (service_of count old samples served energy) d) h lo s cs
    × TellsTwo (with_taken (service_of count old samples served energy) d) two s cs)
