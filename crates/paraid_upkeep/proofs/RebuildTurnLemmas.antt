-- The ticks of a rebuild over a core, as turns of a session.
use Rattle.std.specs.Prelude.{◌≡◌, ℕ, ◌+◌, ◌-◌, ◌^◌, ◌<◌, ◌≤◌, Bool, true, false, List, [], ◌∷◌, Option, Some, None}
use Rattle.std.proofs.Common.{refl, sym, ◌∙◌, ap, subst, arith}
use Rattle.paraid_base.specs.declared.event.Answer.TheVariants.{Ticked}
use Rattle.paraid_base.specs.declared.event.Event.TheVariants.{Tick}
use Rattle.paraid_base.specs.declared.fault.Two.{Two}
use Rattle.paraid_base.specs.declared.state.Out.TheVariants.{Fresh, Gone, No}
use Rattle.paraid_base.specs.declared.state.TickEvent.TheVariants.{Gone as GoneAgain, Moving, Rebuilt}
use Rattle.paraid_base.specs.History.{History}
use Rattle.paraid_base.specs.Log.{worn_at}
use Rattle.paraid_base.specs.States.{named_out}
use Rattle.paraid_rack.specs.declared.call.Call.TheVariants.{Park}
use Rattle.paraid_rack.specs.declared.call.Power.TheVariants.{Absent, Parked}
use Rattle.paraid_rack.specs.Disks.{Disks, is_present, power_after, step}
use Rattle.paraid_rack.specs.Slots.{Agrees, Slot}
use Rattle.paraid_rack.specs.Told.{CrashTriple, Ran}
use Rattle.paraid_rack.specs.Trail.{Trail, now, run}
use Rattle.paraid_rack.proofs.AtomsLemmas.{with_at_same}
use Rattle.paraid_rack.proofs.TrailsLemmas.{now-extend, weaker}
use Rattle.paraid_record.specs.declared.meta.Meta.{Meta}
use Rattle.paraid_record.specs.declared.meta.Setup.{Setup}
use Rattle.paraid_record.specs.Range.{rebuild_units}
use Rattle.paraid_image.specs.Lost.{TellsLosses}
use Rattle.paraid_image.specs.Mark.{meta_after_loss, meta_with_lost}
use Rattle.paraid_image.specs.Power.{PowerState}
use Rattle.paraid_image.specs.Sides.{Batch}
use Rattle.paraid_moves.specs.MoveMetas.{meta_with_out}
use Rattle.paraid_txn.specs.Stores.{named_of, store_rack}
use Rattle.paraid_core.specs.declared.staged.Core.{Core}
use Rattle.paraid_core.specs.Calls.{IsOneCall, MakesOneCall}
use Rattle.paraid_core.specs.Cores.{CoreStandsFor, IsCoreHeldSinceCommit}
use Rattle.paraid_core.specs.CoreInvariant.{AreCopiesSynced, HoldsBetweenCalls, IsHeldWithOneMissing}
use Rattle.paraid_core.specs.Steps.{IsMarkedFrom}
use Rattle.paraid_core.specs.Fills.{Filled}
use Rattle.paraid_core.proofs.CommitLemmas.{both_of}
use Rattle.paraid_machine.specs.Moves.{state_with_tick, units_to_rebuild}
use Rattle.paraid_session.specs.Turn.{GoesOn, Point, point_wear}
use Rattle.paraid_event.specs.Powering.{ServiceRests}
use Rattle.paraid_event.specs.RebuildEnds.{MarksRejoined, ParksInEvent}
use Rattle.paraid_event.specs.RebuildTicks.{CountsRebuild}
use Rattle.paraid_event.specs.Service.{Service, service_of}
use Rattle.paraid_event.specs.Stands.{ServiceStandsFor, StandsAt}
use Rattle.paraid_event.specs.Steps.{LosesInSteps, StepsInEvent}
use Rattle.paraid_event.specs.Ticks.{CountsTick}
use Rattle.paraid_event.proofs.RebuildFinishLemmas.{back_turn, finish_gone_steps, finish_loses_turn, one_call_loses_one, park_failed_steps}
use Rattle.paraid_event.proofs.RebuildTickLemmas.{gone_told, moving_told, rebuild_loses}
use Rattle.paraid_upkeep.specs.TickAnswers.{units_unbuilt}
use Rattle.paraid_upkeep.specs.TickTurns.{CoreComesBack, CoreLosesComing, FinishesAndParks}
use Rattle.paraid_upkeep.specs.TickTurns.CoreComesBack.{ends, lost, lost_parked}
use Rattle.paraid_upkeep.specs.TickTurns.CoreLosesComing.{finishing, untold}
use Rattle.paraid_upkeep.proofs.TickTurnLemmas.{Goes, Halts, goes_so, halts_so, setup_is, shows}

-- a meta with its counts as they are
recounted : (m new : Meta) → new ≡ record m { epoch = new.epoch } → new ≡ record m { epoch = new.epoch; writes = new.writes }
recounted m new is = is ∙ ap (λ (w : ℕ). record m { epoch = new.epoch; writes = w }) (sym (ap (λ (z : Meta). z.writes) is))

pub own_epoch : (m new : Meta) (e : ℕ) → new ≡ record m { epoch = e } → new ≡ record m { epoch = new.epoch }
own_epoch m new e is = is ∙ ap (λ (x : ℕ). record m { epoch = x }) (sym (ap (λ (z : Meta). z.epoch) is))

-- one that goes on as it is
pub kept_epoch : (f : ℕ → Meta) (mid new : Meta) → mid ≡ f mid.epoch → new ≡ mid → new ≡ f new.epoch
kept_epoch f mid new is same = same ∙ is ∙ ap f (sym (ap (λ (z : Meta). z.epoch) same))

-- a disk that had come back is lost
pub lost_epoch : (m mid new : Meta) (d : ℕ) → mid ≡ record m { epoch = mid.epoch; out = No } → new ≡ meta_after_loss mid d → new ≡ record (meta_after_loss m d) { epoch = new.epoch }
lost_epoch m mid new d is gone =
    gone ∙ ap (λ (z : Meta). meta_after_loss z d) is ∙ ap (λ (e : ℕ). record (meta_after_loss m d) { epoch = e }) (sym (ap (λ (z : Meta). z.epoch) gone))

-- the meta of one that had come back in so many commits, and is parked or lost in that
pub few_parked : (m mid new : Meta) (d : ℕ) (back : Bool) → mid.epoch ≤ m.epoch + 1 → (back ≡ true → new ≡ mid) → (back ≡ false → new ≡ meta_after_loss mid d) → new.epoch ≤ m.epoch + 1
few_parked m mid new d true few same gone = let e = ap (λ (z : Meta). z.epoch) (same refl) in omega (arith, few, e)
few_parked m mid new d false few same gone = let e = ap (λ (z : Meta). z.epoch) (gone refl) in omega (arith, few, e)

-- a disk that was lost where none was out
pub lost_marked : (m new : Meta) (d : ℕ) → IsMarkedFrom m new → m.out ≡ No → new.out ≡ Gone d → new ≡ meta_after_loss m d
lost_marked m new d marked whole gone = by marked.lost refl
  where
    by : (o : Option ℕ) → marked.lost ≡ o → new ≡ meta_after_loss m d
    by None is = let z : No ≡ Gone d = sym whole ∙ sym (ap (λ (y : Meta). y.out) (marked.is ∙ ap (λ (l : Option ℕ). meta_with_lost l m) is)) ∙ gone in absurd cc
    by (Some x) is =
        let same : new ≡ meta_after_loss m x = marked.is ∙ ap (λ (l : Option ℕ). meta_with_lost l m) is in
        let z : Gone x ≡ Gone d = sym (ap (λ (y : Meta). y.out) same) ∙ gone in
        let one : x ≡ d = cc in
        same ∙ ap (meta_after_loss m) one

-- no second disk is lost in a park
pub park_alone : (told told_then : Option Trail) (d : ℕ) (out : Option ℕ) (two : Two) → out ≡ None → Ran told told_then (IsOneCall (λ (done : Bool). Park d done)) → Ran told told_then (λ s cs. TellsLosses out two cs) → told_then ≡ None
park_alone told told_then d out two none calls tells =
    one_call_loses_one told told_then d two calls (subst (λ (o : Option ℕ). Ran told told_then (λ s cs. TellsLosses o two cs)) none tells)

-- what is left is as it was counted
pub left_is : (m m1 m2 : Meta) (d u count : ℕ) → m1 ≡ m → m2 ≡ m → count ≡ rebuild_units m1.setup.geometry m2.gear d → count - u ≡ units_unbuilt m d u
left_is m m1 m2 d u count first second is =
    ap (λ (n : ℕ). n - u) (is ∙ ap (λ (z : Meta). rebuild_units z.setup.geometry m2.gear d) first ∙ ap (λ (z : Meta). rebuild_units m.setup.geometry z.gear d) second)

-- A tick is counted of a service that stood at a point, and disk `d` is being rebuilt.
module _ {R : Type 0} {g : _} (count : R → ℕ) (told : R → Option Trail) (a : Core R g) (k : Service) (setup : Setup) (p : Point) (samples : List ℕ) (served energy : ℕ)
    (at : StandsAt (told (store_rack a.store)) k setup p) (fit : point_wear p < worn_at) (counts : CountsTick k (service_of count a samples served energy)) (b : Core R g) (d rebuilt : ℕ) (fresh : a.meta.out ≡ Fresh d rebuilt) where
  abbrev counted : Service
  counted = service_of count a samples served energy

  abbrev s1 : PowerState
  s1 = state_with_tick p.state

  abbrev k2 : Service
  k2 = service_of count b samples served energy

  abbrev ta : Option Trail
  ta = told (store_rack a.store)

  abbrev tb : Option Trail
  tb = told (store_rack b.store)

  shown : p.state.out ≡ Fresh d rebuilt
  shown = (shows count told a k setup p samples served energy at fit counts).out ∙ fresh

  gear_is : p.state.gear ≡ a.meta.gear
  gear_is = (shows count told a k setup p samples served energy at fit counts).gear

  same_setup : a.meta.setup ≡ setup
  same_setup = setup_is count told a k setup p samples served energy at fit counts

  pub part_halts : (most : ℕ) (two : Two) → most ≤ 2 ^ 20 → Ran ta tb (LosesInSteps counted p.history p.low most two) → Ran ta tb (Halts count told a k setup p samples served energy at fit counts two)
  part_halts most two few loses =
      halts_so count told a k setup p samples served energy at fit counts b two
      (rebuild_loses ta k counted setup p at d rebuilt shown counts fit most few two tb loses)

  -- what is left is as the machine counts it
  pub unbuilt_is : units_unbuilt a.meta d rebuilt ≡ units_to_rebuild setup s1 d rebuilt
  unbuilt_is = ap (λ (n : ℕ). rebuild_units a.meta.setup.geometry n d - rebuilt) (sym gear_is) ∙ ap (λ (z : Setup). units_to_rebuild z s1 d rebuilt) same_setup

  module _ (slots : count (store_rack b.store) ≡ count (store_rack a.store)) (table : b.dirty ≡ a.dirty) (synced : AreCopiesSynced b.meta.setup.geometry.disks b.copied) where
    pub counts_on : CountsRebuild k counted k2
    counts_on = record { counts = counts; counts_then = record { slots = slots; table = table; samples = refl; served = refl }; energy = refl; copies_synced = synced }

    -- units are moved, and more are left
    pub rebuild_moved : (end most : ℕ) → end ≡ rebuilt + a.meta.setup.rate → a.meta.setup.rate < units_unbuilt a.meta d rebuilt → b.meta ≡ record a.meta { epoch = b.meta.epoch; out = Fresh d end } → most ≤ 2 ^ 20
        → Ran ta tb (StepsInEvent counted k2 p.history p.low most)
        → Ran ta tb (Goes count told a k setup p samples served energy at fit counts b (record { gear = b.meta.gear; moved = a.meta.setup.rate; event = Moving }))
    rebuild_moved end most all less moved few steps =
        let meta : b.meta ≡ record (meta_with_out a.meta (Fresh d (rebuilt + setup.rate))) { epoch = b.meta.epoch } =
        moved ∙ ap (λ (e : ℕ). record a.meta { epoch = b.meta.epoch; out = Fresh d e }) (all ∙ ap (λ (z : Setup). rebuilt + z.rate) same_setup) in
        let left : setup.rate < units_to_rebuild setup s1 d rebuilt =
        subst (λ (z : Setup). z.rate < units_to_rebuild setup s1 d rebuilt) same_setup (subst (λ (n : ℕ). a.meta.setup.rate < n) unbuilt_is less) in
        let gear : p.state.gear ≡ b.meta.gear = gear_is ∙ sym (ap (λ (z : Meta). z.gear) moved) in
        goes_so count told a k setup p samples served energy at fit counts b (record { gear = b.meta.gear; moved = a.meta.setup.rate; event = Moving }) refl
        (subst (λ (n : ℕ). Ran ta tb (GoesOn k.slots setup p Tick (Ticked (record { gear = n; moved = a.meta.setup.rate; event = Moving })) (StandsAt tb k2 setup))) gear
        (subst (λ (z : Setup). Ran ta tb (GoesOn k.slots setup p Tick (Ticked (record { gear = p.state.gear; moved = z.rate; event = Moving })) (StandsAt tb k2 setup))) (sym same_setup)
        (moving_told ta k counted setup p at d rebuilt shown counts fit most few k2 counts_on
        (record { is = recounted (meta_with_out a.meta (Fresh d (rebuilt + setup.rate))) b.meta meta }) left tb steps)))

    -- the disk is gone again
    pub rebuild_gone : (slot_then : ℕ → Slot) (most : ℕ) → ((t : Trail) → tb ≡ Some t → Agrees (now t) slot_then) → (slot_then d).power ≡ Absent → b.meta ≡ record (meta_after_loss a.meta d) { epoch = b.meta.epoch } → most ≤ 2 ^ 20
        → Ran ta tb (StepsInEvent counted k2 p.history p.low most)
        → Ran ta tb (Goes count told a k setup p samples served energy at fit counts b (record { gear = b.meta.gear; moved = 0; event = GoneAgain d }))
    rebuild_gone slot_then most agrees away gone few steps =
        let gear : p.state.gear ≡ b.meta.gear = gear_is ∙ sym (ap (λ (z : Meta). z.gear) gone) in
        goes_so count told a k setup p samples served energy at fit counts b (record { gear = b.meta.gear; moved = 0; event = GoneAgain d }) refl
        (subst (λ (n : ℕ). Ran ta tb (GoesOn k.slots setup p Tick (Ticked (record { gear = n; moved = 0; event = GoneAgain d })) (StandsAt tb k2 setup))) gear
        (gone_told ta k counted setup p at d rebuilt shown counts fit most few k2 counts_on (record { is = recounted (meta_after_loss a.meta d) b.meta gone }) tb
        (λ t tells. ap is_present ((agrees t tells).power d ∙ away)) steps))

-- The one call of a park, of which it is known whether it was done.
module _ (told told_then : Option Trail) (k k_then : Service) (h : History) (lo d : ℕ) (done : Bool) (slot_then : ℕ → Slot) (agrees : (t : Trail) → told_then ≡ Some t → Agrees (now t) slot_then) (power : is_present (slot_then d).power ≡ done) where
  power_then : (s : Disks) (made : Bool) → is_present ((step (Park d made) s).power d) ≡ made
  unfolding step
  power_then s true = ap is_present (with_at_same s.power d (power_after true Parked) d refl)
  power_then s false = ap is_present (with_at_same s.power d (power_after false Parked) d refl)

  abbrev Held : Disks → Type 0
  Held = IsHeldWithOneMissing k.slots k.meta.setup.geometry.disks k.named h lo

  park_told : Ran told told_then (IsOneCall (λ (made : Bool). Park d made)) → Ran told told_then (CrashTriple Held (ServiceRests k h lo) (ServiceStandsFor k_then h lo)) → Ran told told_then (ParksInEvent k k_then h lo d done)
  park_told calls stands t tells =
      let r = both_of (IsOneCall (λ (made : Bool). Park d made)) (CrashTriple Held (ServiceRests k h lo) (ServiceStandsFor k_then h lo)) told told_then calls stands t tells in
      let made = r.holds.0.0 in
      let is : r.calls ≡ Park d made ∷ [] = r.holds.0.1 in
      let end : now t ≡ step (Park d made) (now r.from) = ap now r.is ∙ now-extend r.from r.calls ∙ ap (run (now r.from)) is in
      let same_done : made ≡ done = sym (power_then (now r.from) made) ∙ ap (λ (s : Disks). is_present (s.power d)) (sym end) ∙ ap is_present ((agrees t tells).power d) ∙ power in
      record {
        from = r.from;
        was = r.was;
        calls = r.calls;
        is = r.is;
        holds = λ rests. let both = r.holds.1.goes rests in (record { is = is ∙ ap (λ (b : Bool). Park d b ∷ []) same_done; lawful = r.holds.0.2; held = both.0 }, both.1);
      }

module _ {R : Type 0} {g : _} (count : R → ℕ) (told : R → Option Trail) (a b : Core R g) (nothing : a.batch ≡ []) (batch : b.batch ≡ a.batch) (d : ℕ) (calls : MakesOneCall told (λ (done : Bool). Park d done) a b) (slot_then : ℕ → Slot)
    (agrees : (t : Trail) → told (store_rack b.store) ≡ Some t → Agrees (now t) slot_then) where
  stands_by : (core : Core R g) (h : History) (lo end : ℕ) (s : Disks) → core.batch ≡ [] → Filled count core h lo end s → CoreStandsFor count core h lo s
  stands_by core h lo end s none filled = subst (λ (z : Batch). HoldsBetweenCalls (count (store_rack core.store)) (named_of core.store) core.meta core.dirty z core.copied h lo s) (sym none) filled.keeps

  pub core_parks : is_present (slot_then d).power ≡ true
      → ((h : History) (lo : ℕ) → Ran (told (store_rack a.store)) (told (store_rack b.store)) (CrashTriple (IsCoreHeldSinceCommit count a h lo) (Filled count a h lo a.meta.fill) (Filled count b h lo a.meta.fill)))
      → (samples : List ℕ) (served energy : ℕ) (h : History) (lo : ℕ)
      → Ran (told (store_rack a.store)) (told (store_rack b.store)) (ParksInEvent (service_of count a samples served energy) (service_of count b samples served energy) h lo d true)
  core_parks power filled samples served energy h lo =
      let k = service_of count a samples served energy in
      let k_then = service_of count b samples served energy in
      park_told (told (store_rack a.store)) (told (store_rack b.store)) k k_then h lo d true slot_then agrees power calls
      (weaker (IsCoreHeldSinceCommit count a h lo) (Filled count a h lo a.meta.fill) (Filled count a h lo a.meta.fill) (Filled count b h lo a.meta.fill) (CoreStandsFor count b h lo) (told (store_rack a.store)) (told (store_rack b.store)) (λ s z. z)
      (λ s z. stands_by b h lo a.meta.fill s (batch ∙ nothing) z) (filled h lo))

  pub core_fails : is_present (slot_then d).power ≡ false
      → ((h : History) (lo : ℕ) → Ran (told (store_rack a.store)) (told (store_rack b.store)) (CrashTriple (IsCoreHeldSinceCommit count a h lo) (CoreStandsFor count a h lo) (CoreStandsFor count b h lo)))
      → (samples : List ℕ) (served energy : ℕ) (h : History) (lo : ℕ)
      → Ran (told (store_rack a.store)) (told (store_rack b.store)) (ParksInEvent (service_of count a samples served energy) (service_of count b samples served energy) h lo d false)
  core_fails power stands samples served energy h lo =
      let k = service_of count a samples served energy in
      let k_then = service_of count b samples served energy in
      park_told (told (store_rack a.store)) (told (store_rack b.store)) k k_then h lo d false slot_then agrees power calls
      (weaker (IsCoreHeldSinceCommit count a h lo) (CoreStandsFor count a h lo) (Filled count a h lo a.meta.fill) (CoreStandsFor count b h lo) (CoreStandsFor count b h lo) (told (store_rack a.store)) (told (store_rack b.store))
      (λ s z. stands_by a h lo a.meta.fill s nothing z) (λ s z. z) (stands h lo))

pub comes_by : {R : Type 0} {g : _} (count : R → ℕ) (told : R → Option Trail) (a b : Core R g) (d : ℕ) (back : Bool) → FinishesAndParks count told a b d → CoreComesBack count told a b d back
comes_by count told a b d true it = ends refl it
comes_by count told a b d false it = lost_parked refl it

-- the disk is back by this meta
pub rejoined_mid : {R : Type 0} {g : _} (count : R → ℕ) (a b : Core R g) → b.meta ≡ record a.meta { epoch = b.meta.epoch; out = No }
    → (samples : List ℕ) (served energy : ℕ) → MarksRejoined (service_of count a samples served energy) (service_of count b samples served energy)
rejoined_mid count a b back samples served energy = record { is = recounted (meta_with_out a.meta No) b.meta back }

-- The last tick of a rebuild: what was staged is committed, the rebuild ends, and the disk is parked.
module _ {R : Type 0} {g : _} (count : R → ℕ) (told : R → Option Trail) (a : Core R g) (k : Service) (setup : Setup) (p : Point) (samples : List ℕ) (served energy : ℕ)
    (at : StandsAt (told (store_rack a.store)) k setup p) (fit : point_wear p < worn_at) (counts : CountsTick k (service_of count a samples served energy)) (m b : Core R g) (d rebuilt : ℕ) (fresh : a.meta.out ≡ Fresh d rebuilt)
    (same : m.meta ≡ record a.meta { epoch = m.meta.epoch }) (steps : Ran (told (store_rack a.store)) (told (store_rack m.store)) (StepsInEvent (service_of count a samples served energy) (service_of count m samples served energy) p.history p.low 1)) where
  abbrev start : Service
  start = service_of count a samples served energy

  abbrev staged : Service
  staged = service_of count m samples served energy

  abbrev last : Service
  last = service_of count b samples served energy

  abbrev told_a : Option Trail
  told_a = told (store_rack a.store)

  abbrev told_m : Option Trail
  told_m = told (store_rack m.store)

  abbrev told_b : Option Trail
  told_b = told (store_rack b.store)

  fresh_shown : p.state.out ≡ Fresh d rebuilt
  fresh_shown = (shows count told a k setup p samples served energy at fit counts).out ∙ fresh

  gear_shown : p.state.gear ≡ a.meta.gear
  gear_shown = (shows count told a k setup p samples served energy at fit counts).gear

  marks_back : (c : Core R g) → c.meta ≡ record m.meta { epoch = c.meta.epoch; out = No } → MarksRejoined start (service_of count c samples served energy)
  marks_back c back = record {
    is = recounted (meta_with_out a.meta No) c.meta (back ∙ ap (λ (z : Meta). record z { epoch = c.meta.epoch; out = No }) same);
  }

  pub ended_halts : (two : Two) → CoreLosesComing count told m b d two → Ran told_a told_b (Halts count told a k setup p samples served energy at fit counts two)
  ended_halts two (finishing loses) =
      halts_so count told a k setup p samples served energy at fit counts b two
      (finish_loses_turn told_a k start setup p at d rebuilt fresh_shown counts fit told_m told_b staged 1 (omega arith) steps two (loses samples served energy p.history p.low))
  ended_halts two (untold none) = λ t tells. let z : None ≡ Some t = sym none ∙ tells in absurd cc

  module _ (counted_on : CountsRebuild k start last) where
    ended_back : FinishesAndParks count told m b d → b.meta ≡ record m.meta { epoch = b.meta.epoch; out = No } → units_unbuilt a.meta d rebuilt ≤ a.meta.setup.rate
        → Ran told_a told_b (Goes count told a k setup p samples served energy at fit counts b (record { gear = b.meta.gear; moved = units_unbuilt a.meta d rebuilt; event = Rebuilt d }))
    ended_back it back few =
        let is : units_unbuilt a.meta d rebuilt ≡ units_to_rebuild setup (state_with_tick p.state) d rebuilt = unbuilt_is count told a k setup p samples served energy at fit counts b d rebuilt fresh in
        let within : units_to_rebuild setup (state_with_tick p.state) d rebuilt ≤ setup.rate =
        subst (λ (z : Setup). units_to_rebuild setup (state_with_tick p.state) d rebuilt ≤ z.rate) (setup_is count told a k setup p samples served energy at fit counts) (subst (λ (n : ℕ). n ≤ a.meta.setup.rate) is few) in
        let gear : p.state.gear ≡ b.meta.gear = gear_shown ∙ sym (ap (λ (z : Meta). z.gear) same) ∙ sym (ap (λ (z : Meta). z.gear) back) in
        goes_so count told a k setup p samples served energy at fit counts b (record { gear = b.meta.gear; moved = units_unbuilt a.meta d rebuilt; event = Rebuilt d }) refl
        (subst (λ (n : ℕ). Ran told_a told_b (GoesOn k.slots setup p Tick (Ticked (record { gear = n; moved = units_unbuilt a.meta d rebuilt; event = Rebuilt d })) (StandsAt told_b last setup))) gear
        (subst (λ (n : ℕ). Ran told_a told_b (GoesOn k.slots setup p Tick (Ticked (record { gear = p.state.gear; moved = n; event = Rebuilt d })) (StandsAt told_b last setup))) (sym is)
        (back_turn told_a k start setup p at d rebuilt fresh_shown counts fit told_m (told (store_rack it.mid.store)) told_b staged (service_of count it.mid samples served energy) last 1 (omega arith) counted_on steps (marks_back b back) within
        (it.finishes samples served energy p.history p.low) (it.parks samples served energy p.history p.low))))

    -- so it is told where the disk is back
    pub ended_told : (back : Bool) → back ≡ true → CoreComesBack count told m b d back → b.meta ≡ record m.meta { epoch = b.meta.epoch; out = No } → units_unbuilt a.meta d rebuilt ≤ a.meta.setup.rate
        → Ran told_a told_b (Goes count told a k setup p samples served energy at fit counts b (record { gear = b.meta.gear; moved = units_unbuilt a.meta d rebuilt; event = Rebuilt d }))
    ended_told back came (ends is it) rejoined few = ended_back it rejoined few
    ended_told back came (lost is it) rejoined few = let z : true ≡ false = sym came ∙ is in absurd cc
    ended_told back came (lost_parked is it) rejoined few = let z : true ≡ false = sym came ∙ is in absurd cc

-- Where the disk is lost, that is so far parts of the tick.
module _ {R : Type 0} {g : _} (count : R → ℕ) (told : R → Option Trail) (a m b : Core R g) (d : ℕ) (samples : List ℕ) (served energy : ℕ) (h : History) (lo : ℕ) (named : named_out a.meta.out ≡ Some d) (gone : b.meta.out ≡ Gone d)
    (steps : Ran (told (store_rack a.store)) (told (store_rack m.store)) (StepsInEvent (service_of count a samples served energy) (service_of count m samples served energy) h lo 1)) where
  pub ended_lost : (back : Bool) → back ≡ false → CoreComesBack count told m b d back → Ran (told (store_rack a.store)) (told (store_rack b.store)) (StepsInEvent (service_of count a samples served energy) (service_of count b samples served energy) h lo 2)
  ended_lost back away (ends is it) = let z : true ≡ false = sym is ∙ away in absurd cc
  ended_lost back away (lost is it) =
      finish_gone_steps (told (store_rack a.store)) (told (store_rack m.store)) (told (store_rack b.store)) (service_of count a samples served energy) (service_of count m samples served energy) (service_of count b samples served energy) h lo 1 d steps
      named gone (it samples served energy h lo)
  ended_lost back away (lost_parked is it) =
      park_failed_steps (told (store_rack a.store)) (told (store_rack m.store)) (told (store_rack it.mid.store)) (service_of count a samples served energy) (service_of count m samples served energy) (service_of count it.mid samples served energy) h lo 1 d steps
      (told (store_rack b.store)) (service_of count b samples served energy) named (ap (λ (z : Meta). z.out) (it.rejoined samples served energy).is) gone (it.finishes samples served energy h lo) (it.parks samples served energy h lo)
