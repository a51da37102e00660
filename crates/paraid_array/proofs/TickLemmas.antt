-- A tick of an array.
use Rattle.std.proofs.Common.{◌≡◌, ℕ, ◌+◌, ◌<◌, Bool, List, [], ◌∷◌, ◌++◌, Option, Some, None, refl, sym, ap, ◌∙◌, subst, arith, min}
use Rattle.paraid_base.specs.declared.event.Answer.TheVariants.{Halted, Ticked}
use Rattle.paraid_base.specs.declared.event.Event.TheVariants.{Bad, Tick}
use Rattle.paraid_base.specs.declared.fault.Halt.TheVariants.{Two as HaltTwo}
use Rattle.paraid_base.specs.declared.fault.Two.{Two}
use Rattle.paraid_base.specs.declared.state.GearReport.{GearReport}
use Rattle.paraid_base.specs.Log.{worn_at}
use Rattle.paraid_energy.specs.Account.{Account, HasFigures, after_tick}
use Rattle.paraid_gear.specs.ThreeWindows.{HoldLastSamples, sample_of}
use Rattle.paraid_rack.specs.declared.call.Power.TheVariants.{Parked, Spinning}
use Rattle.paraid_rack.specs.Told.{Ran}
use Rattle.paraid_rack.specs.Trail.{Trail}
use Rattle.paraid_record.specs.declared.meta.Meta.{Meta}
use Rattle.paraid_record.specs.declared.meta.Setup.{Setup}
use Rattle.paraid_image.specs.Power.{PowerState}
use Rattle.paraid_image.specs.Sides.{Batch}
use Rattle.paraid_core.specs.declared.staged.Core.{Core}
use Rattle.paraid_core.specs.Cores.{core_rack}
use Rattle.paraid_machine.specs.Energy.{begun_energy, tick_energy}
use Rattle.paraid_session.specs.Turn.{GoesOn, Point, point_wear}
use Rattle.paraid_txn.specs.declared.store.Store.{Store}
use Rattle.paraid_txn.specs.Stores.{named_of, store_rack}
use Rattle.paraid_event.specs.Service.{Service, service_of}
use Rattle.paraid_event.specs.Stands.{StandsAt}
use Rattle.paraid_event.specs.Ticks.{CountsTick, IsHaltedWith}
use Rattle.paraid_upkeep.specs.Turns.{CoreTickHalts, CoreTicks}
use Rattle.paraid_array.specs.declared.array.Array.{Array}
use Rattle.paraid_array.specs.Arrays.{GoesOnByEvent, ServesAt, told_of_array}
use Rattle.paraid_array.specs.Used.{disks_with}
use Rattle.paraid_array.proofs.CountedLemmas.{with_tick}
use Rattle.paraid_array.proofs.EnergyLemmas.{ticked_total}
use Rattle.paraid_array.proofs.StandLemmas.{end_by, ended_on, served_on, wear_fits}

-- a count that was cut is cut no more
pub cut_twice : (n : ℕ) → sample_of (sample_of n) ≡ sample_of n
cut_twice n = grind (arith)

abbrev service_by : ℕ → Option ℕ → Meta → List (List Bool) → Batch → List Bool → List ℕ → ℕ → ℕ → Service
service_by slots named meta table batch copied samples served energy =
    record { slots = slots; named = named; meta = meta; table = table; batch = batch; copied = copied; samples = samples; served = served; energy = energy }

same_service : (slots slots' : ℕ) (named named' : Option ℕ) (meta meta' : Meta) (table table' : List (List Bool)) (batch batch' : Batch) (copied copied' : List Bool) (samples : List ℕ) (served energy : ℕ)
    → slots ≡ slots' → named ≡ named' → meta ≡ meta' → table ≡ table' → batch ≡ batch' → copied ≡ copied'
    → service_by slots named meta table batch copied samples served energy ≡ service_by slots' named' meta' table' batch' copied' samples served energy
same_service slots slots' named named' meta meta' table table' batch batch' copied copied' samples served energy e1 e2 e3 e4 e5 e6 = rw (e1, e2, e3, e4, e5, e6) refl

-- the ledger of an array counts in a tick what the machine says
pub array_ticked : {R : Type 0} {g : _} (a : Array R g) (m : Meta) (new : Account) → a.core.meta.setup ≡ a.setup → m ≡ a.core.meta → new ≡ after_tick a.ledger (disks_with m Spinning) (disks_with m Parked)
    → (s : PowerState) → s.gear ≡ a.core.meta.gear → s.phase ≡ a.core.meta.phase → s.out ≡ a.core.meta.out → new.total ≡ min (a.ledger.total + tick_energy a.core.meta.setup s) 18446744073709551615
array_ticked a m new same is counted = ticked_total a.core.meta a.ledger new (subst (λ (z : Setup). HasFigures z a.ledger) (sym same) a.priced)
    (counted ∙ ap (λ (n : Meta). after_tick a.ledger (disks_with n Spinning) (disks_with n Parked)) is)

-- `c` is the core of `a` that has counted the tick, with so much energy used; `b` is the array after it.
module _ {R : Type 0} {g : _} (count : R → ℕ) (told : R → Option Trail) (a b : Array R g) (c : Core R g) (going : a.ended ≡ None) (epoch : a.core.meta.epoch < worn_at) (writes : a.core.meta.writes < worn_at)
    (store : c.store ≡ a.core.store) (meta : c.meta ≡ with_tick a.core.meta) (table : c.dirty ≡ a.core.dirty) (batch : c.batch ≡ a.core.batch) (copied : c.copied ≡ a.core.copied) (used : ℕ)
    (own : (s : PowerState) → s.gear ≡ a.core.meta.gear → s.phase ≡ a.core.meta.phase → s.out ≡ a.core.meta.out → used ≡ min (a.ledger.total + tick_energy a.core.meta.setup s) 18446744073709551615) where
  counts : (samples : List ℕ) (requests : ℕ) → CountsTick (service_of count a.core samples requests a.ledger.total) (service_of count c (samples ++ sample_of requests ∷ []) 0 used)
  counts samples requests = record {
    is = same_service (count (store_rack c.store)) (count (store_rack a.core.store)) (named_of c.store) (named_of a.core.store) c.meta (with_tick a.core.meta) c.dirty a.core.dirty c.batch a.core.batch c.copied a.core.copied
        (samples ++ sample_of requests ∷ []) 0 used (ap (λ (x : Store R g). count (store_rack x)) store) (ap (λ (x : Store R g). named_of x) store) meta table batch copied;
    energy = λ s of. own s of.gear of.phase of.out;
  }

  module _ (windows : (samples : List ℕ) → HoldLastSamples a.windows samples → HoldLastSamples b.windows (samples ++ sample_of a.served ∷ [])) where
    windows_then : (samples : List ℕ) (requests : ℕ) → HoldLastSamples a.windows samples → a.served ≡ sample_of requests → HoldLastSamples b.windows (samples ++ sample_of requests ∷ [])
    windows_then samples requests held served =
        subst (λ (n : ℕ). HoldLastSamples b.windows (samples ++ n ∷ [])) (ap sample_of served ∙ cut_twice requests) (windows samples held)

    -- it was answered
    pub ticks_on : (report : GearReport) → CoreTicks count told b.windows c b.core report
        → b.ended ≡ None → b.setup ≡ a.setup → b.served ≡ 0 → b.ledger.total ≡ min (used + begun_energy a.setup a.core.meta.gear report.event) 18446744073709551615
        → GoesOnByEvent count told a b Tick (Ticked report)
    ticks_on report turn ended setup served energy p at =
        let s : ServesAt count told a p = at.serves going in
        let k : Service = service_of count a.core s.samples s.requests a.ledger.total in
        let fit : point_wear p < worn_at = wear_fits (told_of_array told a) k a.setup p s.stands epoch writes in
        let samples : List ℕ = s.samples ++ sample_of s.requests ∷ [] in
        let held : HoldLastSamples b.windows samples = windows_then s.samples s.requests s.windows s.served in
        let all : ℕ = min (used + begun_energy a.setup p.state.gear report.event) 18446744073709551615 in
        let is : b.ledger.total ≡ all = energy ∙ ap (λ (n : ℕ). min (used + begun_energy a.setup n report.event) 18446744073709551615) (sym s.stands.state.gear) in
        let law : Ran (told_of_array told a) (told_of_array told b) (GoesOn (count (core_rack a.core)) a.setup p Tick (Ticked report) (StandsAt (told_of_array told b) (service_of count b.core samples 0 all) a.setup)) =
        subst (λ (x : Store R g). Ran (told (store_rack x)) (told_of_array told b) (GoesOn (count (store_rack x)) a.setup p Tick (Ticked report) (StandsAt (told_of_array told b) (service_of count b.core samples 0 all) a.setup))) store
        (turn k a.setup p samples 0 used held (subst (λ (x : Store R g). StandsAt (told (store_rack x)) k a.setup p) (sym store) s.stands) fit (counts s.samples s.requests)) in
        served_on count told a b p Tick (Ticked report) samples 0 refl (λ e. let z : Tick ≡ Bad = e in cc) ended setup held served
        (subst (λ (n : ℕ). Ran (told_of_array told a) (told_of_array told b) (GoesOn (count (core_rack a.core)) a.setup p Tick (Ticked report) (StandsAt (told_of_array told b) (service_of count b.core samples 0 n) a.setup))) (sym is) law)

    -- a second disk was lost in it
    pub tick_halts : (x : Two) → CoreTickHalts count told b.windows c b.core x → b.ledger.total ≡ used → b.ended ≡ Some (end_by (HaltTwo x) a.core.meta.gear) → GoesOnByEvent count told a b Tick (Halted (HaltTwo x))
    tick_halts x halts energy ended p at =
        let s : ServesAt count told a p = at.serves going in
        let k : Service = service_of count a.core s.samples s.requests a.ledger.total in
        let fit : point_wear p < worn_at = wear_fits (told_of_array told a) k a.setup p s.stands epoch writes in
        let samples : List ℕ = s.samples ++ sample_of s.requests ∷ [] in
        ended_on count told a b p Tick (Halted (HaltTwo x)) (end_by (HaltTwo x) a.core.meta.gear) (IsHaltedWith p (HaltTwo x) used) ended
        (λ q is. record {
          halt = ap (λ (z : Point). z.halt) is;
          gear = ap (λ (z : Point). z.state.gear) is ∙ s.stands.state.gear;
          energy = ap (λ (z : Point). z.energy) is ∙ sym energy;
        })
        (subst (λ (y : Store R g). Ran (told (store_rack y)) (told_of_array told b) (GoesOn (count (store_rack y)) a.setup p Tick (Halted (HaltTwo x)) (IsHaltedWith p (HaltTwo x) used))) store
        (halts k a.setup p samples 0 used (windows_then s.samples s.requests s.windows s.served) (subst (λ (y : Store R g). StandsAt (told (store_rack y)) k a.setup p) (sym store) s.stands) fit (counts s.samples s.requests)))
