-- Why a tick of an array is answered so, by the clauses of its core.
use Rattle.std.proofs.Common.{◌≡◌, ◌≢◌, ℕ, ◌+◌, ◌<◌, ◌≤◌, ◌⊎◌, Bool, List, Option, Some, None, Result, Err, Ok, refl, sym, ap, ◌∙◌, subst, inl, inr, arith, min}
use Rattle.std.specs.Prelude.{length, slice_index}
use Rattle.paraid_base.specs.declared.event.Answer.TheVariants.{Ticked}
use Rattle.paraid_base.specs.declared.fault.Two.{Two}
use Rattle.paraid_base.specs.declared.state.GearReport.{GearReport}
use Rattle.paraid_base.specs.declared.state.Out.{Out}
use Rattle.paraid_base.specs.declared.state.Out.TheVariants.{Fresh, Gone, No}
use Rattle.paraid_base.specs.declared.state.Phase.{Phase}
use Rattle.paraid_base.specs.declared.state.Phase.TheVariants.{Down as DownPhase, Steady, Up as UpPhase}
use Rattle.paraid_base.specs.declared.state.TickEvent.{TickEvent}
use Rattle.paraid_base.specs.declared.state.TickEvent.TheVariants.{Begun as TickBegun, Flipped, Gone as GoneAgain, Lost, Moving, Ration as TickRation, Rebuilt, Steady as TickSteady, Waiting}
use Rattle.paraid_base.specs.Gears.{next_higher, next_lower}
use Rattle.paraid_base.specs.Told.{HasRisen}
use Rattle.paraid_gear.specs.declared.decision.Decision.{Decision}
use Rattle.paraid_gear.specs.declared.decision.Decision.TheVariants.{Down as DecideDown, Stay, Up as DecideUp}
use Rattle.paraid_rack.specs.Slots.{Slot}
use Rattle.paraid_record.specs.declared.meta.Meta.{Meta}
use Rattle.paraid_record.specs.declared.meta.Setup.{Setup}
use Rattle.paraid_dirty.specs.Table.{is_dirty}
use Rattle.paraid_image.specs.Sides.{Batch}
use Rattle.paraid_image.specs.Out.{named_out, or_else}
use Rattle.paraid_image.specs.Power.{PowerState}
use Rattle.paraid_moves.specs.MoveMetas.{meta_after_begin}
use Rattle.paraid_machine.specs.Energy.{begun_energy, energy_after, tick_energy}
use Rattle.paraid_machine.specs.Moves.{after_loss, first_used_up, units_of_tick, units_to_rebuild}
use Rattle.paraid_txn.specs.declared.store.Store.{Store}
use Rattle.paraid_txn.specs.Stores.{store_rack}
use Rattle.paraid_core.specs.declared.staged.Core.{Core}
use Rattle.paraid_core.specs.Cores.{core_rack}
use Rattle.paraid_core.specs.Down.{IsDownAfter}
use Rattle.paraid_core.specs.Steps.{IsMarkedFrom}
use Rattle.paraid_event.specs.Moving.{GoesToState}
use Rattle.paraid_event.specs.Service.{IsStateOf, service_of}
use Rattle.paraid_upkeep.proofs.DecisionLemmas.{decided_down, decided_up}
use Rattle.paraid_upkeep.specs.Events.{CommitsInTick}
use Rattle.paraid_upkeep.specs.Refusals.{IsDownRefused, IsShiftStateOf, MayGoDown, MayGoUp}
use Rattle.paraid_upkeep.specs.TickAnswers.{HasTickedDown, HasTickedUp, IsIdleTick, TellsDecision, TellsMove, TellsRebuild, TellsRest, TellsUsedUp, units_unbuilt}
use Rattle.paraid_upkeep.specs.declared.fault.ShiftFault.TheVariants.{Ration}
use Rattle.paraid_serve.specs.Causes.{Begins, CommitsFew, Decides, GoesDown, HasFailed, IsAsBefore, MovesBy, MovesOn, Reaches, ReachesOrLoses, Rebuilds, Shown, TicksBy, decision_shown, shown_ticked, spins_up, state_shown}
use Rattle.paraid_array.specs.declared.array.Array.{Array}
use Rattle.paraid_array.specs.Arrays.{shown_of_array}
use Rattle.paraid_array.proofs.CauseLemmas.{begun_meta, begun_spins, named_lost, plus_none, raised_by, shown_with}
use Rattle.paraid_array.proofs.CountedLemmas.{with_tick}
use Rattle.paraid_array.proofs.SampleLemmas.{next_apart}

-- what has begun by the meta
begins_from : (x y : Shown) (phase : Phase) (spins : List ℕ) (epoch : ℕ) (raised : ℕ → ℕ) → IsMarkedFrom (record (meta_after_begin x.meta phase spins) { epoch = epoch }) y.meta
    → ((d : ℕ) → named_out y.meta.out ≡ Some d → HasFailed x y d) → ((d : ℕ) → slice_index spins d ≡ slice_index x.meta.spins d + raised d) → y.dirty ≡ x.dirty → Begins x y phase raised
begins_from x y phase spins epoch raised marked failed counts dirty = record {
  lost = marked.lost;
  is = begun_meta marked.lost x.meta y.meta phase spins epoch marked.is;
  failed = λ d some. failed d (named_lost (record (meta_after_begin x.meta phase spins) { epoch = epoch }) y.meta marked.lost marked.is d some);
  spins = λ d. ap (λ (l : List ℕ). slice_index l d) (begun_spins marked.lost (record (meta_after_begin x.meta phase spins) { epoch = epoch }) y.meta marked.is) ∙ counts d;
  dirty = dirty;
}

-- The meta that shows a state is that state and what was kept of the meta before.
meta_is : (m n : Meta) (s : PowerState) → n.setup ≡ m.setup → n.version ≡ m.version → n.writes ≡ m.writes → s.gear ≡ n.gear → s.phase ≡ n.phase → s.fill ≡ n.fill → s.out ≡ n.out → s.spins ≡ n.spins → s.ticks ≡ n.ticks
    → n ≡ record m { epoch = n.epoch; gear = s.gear; phase = s.phase; fill = s.fill; out = s.out; spins = s.spins; ticks = s.ticks }
meta_is m n s setup version writes gear phase fill out spins ticks = λ u. record {
  setup = setup u;
  version = version u;
  epoch = n.epoch;
  writes = writes u;
  ticks = (sym ticks) u;
  gear = (sym gear) u;
  phase = (sym phase) u;
  fill = (sym fill) u;
  out = (sym out) u;
  spins = (sym spins) u;
}

-- what a tick uses, with its begin
two_sums : (used own begun most : ℕ) → min (min (used + own) most + begun) most ≡ min (used + (own + begun)) most
two_sums used own begun most = grind (arith)

-- what a shift sees of an array as it has counted a tick
pub ticked_state : {R : Type 0} {g : _} (slot : R → ℕ → Slot) (a : Array R g) → IsShiftStateOf (with_tick a.core.meta) (state_shown (shown_ticked (shown_of_array slot a)))
ticked_state slot a = record { gear = refl; phase = refl; out = refl; spins = refl; ticks = refl }

-- A core that has counted a tick of the array.
module _ {R : Type 0} {g : _} (slots : R → ℕ) (slot : R → ℕ → Slot) (a : Array R g) (mid : Core R g) (meta : mid.meta ≡ with_tick a.core.meta) (table : mid.dirty ≡ a.core.dirty) where
  -- it shows the state that the array then has
  pub ticked_service : IsStateOf (service_of slots mid (shown_ticked (shown_of_array slot a)).samples 0 0) (state_shown (shown_ticked (shown_of_array slot a)))
  ticked_service = record {
    gear = ap (λ (m : Meta). m.gear) (sym meta);
    phase = ap (λ (m : Meta). m.phase) (sym meta);
    fill = ap (λ (m : Meta). m.fill) (sym meta);
    out = ap (λ (m : Meta). m.out) (sym meta);
    spins = ap (λ (m : Meta). m.spins) (sym meta);
    ticks = ap (λ (m : Meta). m.ticks) (sym meta);
    dirty = λ r d low. ap (λ (t : List (List Bool)). is_dirty t r d) (sym table);
    samples = refl;
    served = refl;
  }

  -- how many commits are made from there
  pub tick_commits : (new : Core R g) (sum : ℕ) (kept : List ℕ) → a.core.meta.setup ≡ a.setup → CommitsInTick slots mid new
      → CommitsFew (shown_of_array slot a) (shown_with slot a.setup new sum kept 0 a.ended) (units_of_tick a.setup (state_shown (shown_ticked (shown_of_array slot a))) + 3)
  tick_commits new sum kept same_setup it = record {
    later = subst (λ (m : Meta). m.epoch ≤ new.meta.epoch) meta it.later;
    few =
        let s : PowerState = state_shown (shown_ticked (shown_of_array slot a)) in
        subst (λ (z : Setup). new.meta.epoch ≤ a.core.meta.epoch + (units_of_tick z s + 3)) same_setup
        (subst (λ (m : Meta). new.meta.epoch ≤ m.epoch + (units_of_tick m.setup s + 3)) meta (it.few s.samples 0 0 s ticked_service));
  }

  -- where it is left as it was, so is what is seen of it
  pub idle_core : mid.store ≡ a.core.store → mid.batch ≡ a.core.batch → (new : Core R g) → new ≡ mid → (new.meta ≡ with_tick a.core.meta) × (new.dirty ≡ a.core.dirty) × (slot (core_rack new) ≡ slot (core_rack a.core)) × (length new.batch ≡ length a.core.batch)
  idle_core store batch new same = (
    ap (λ (z : Core R g). z.meta) same ∙ meta,
    ap (λ (z : Core R g). z.dirty) same ∙ table,
    ap (λ (z : Core R g). slot (store_rack z.store)) same ∙ ap (λ (y : Store R g). slot (store_rack y)) store,
    ap (λ (z : Core R g). length z.batch) same ∙ ap (λ (b : Batch). length b) batch,
  )

-- A tick, by the clauses of what it does after it has counted itself.
module _ {R : Type 0} {g : _} (slots : R → ℕ) (slot : R → ℕ → Slot) (a : Array R g) (new : Core R g) (sum : ℕ) (kept : List ℕ) (same_setup : a.core.meta.setup ≡ a.setup) (count : ℕ) (event : TickEvent)
    (failed : named_out a.core.meta.out ≡ None → (d : ℕ) → named_out new.meta.out ≡ Some d → HasRisen (slot (core_rack a.core) d).faults (slot (core_rack new) d).faults) where
  -- the array as it has counted itself, and after the tick
  abbrev before : Shown
  before = shown_ticked (shown_of_array slot a)

  abbrev after : Shown
  after = shown_with slot a.setup new sum kept 0 a.ended

  abbrev rebuild_left : ℕ → ℕ → ℕ
  rebuild_left d u = units_to_rebuild a.setup (state_shown before) d u

  left_is : (d u : ℕ) → units_unbuilt (with_tick a.core.meta) d u ≡ rebuild_left d u
  left_is d u = ap (λ (z : Setup). units_to_rebuild z (state_shown before) d u) same_setup

  rate_is : a.core.meta.setup.rate ≡ a.setup.rate
  rate_is = ap (λ (z : Setup). z.rate) same_setup

  -- no cell has become dirty or clean
  cells_are : new.dirty ≡ a.core.dirty → (r d : ℕ) → r < a.setup.geometry.rows → is_dirty new.dirty r d ≡ is_dirty a.core.dirty r d
  cells_are table r d low = ap (λ (t : List (List Bool)). is_dirty t r d) table

  -- one that rebuilds disk `d`
  rebuild_by : (d u : ℕ) (e : TickEvent) → event ≡ e → TellsRebuild (with_tick a.core.meta) new.meta d u count e → new.dirty ≡ a.core.dirty
      → (e ≡ GoneAgain d → HasRisen (slot (core_rack a.core) d).faults (slot (core_rack new) d).faults) → Rebuilds d u before after count e
  rebuild_by d u TickSteady is w table gone = w
  rebuild_by d u Waiting is w table gone = w
  rebuild_by d u Moving is w table gone = (w.0 ∙ rate_is, subst (λ (r : ℕ). r < rebuild_left d u) rate_is (subst (λ (l : ℕ). a.core.meta.setup.rate < l) (left_is d u) w.1), record { meta = w.2; dirty = cells_are table })
  rebuild_by d u Flipped is w table gone = w
  rebuild_by d u (TickBegun to) is w table gone = w
  rebuild_by d u (Rebuilt e) is w table gone =
      let all : count ≡ rebuild_left d u = w.1 ∙ left_is d u in
      (w.0, all, subst (λ (n : ℕ). n ≤ a.setup.rate) (sym all) (subst (λ (r : ℕ). rebuild_left d u ≤ r) rate_is (subst (λ (l : ℕ). l ≤ a.core.meta.setup.rate) (left_is d u) w.2)), record { meta = w.3; dirty = cells_are table })
  rebuild_by d u (GoneAgain e) is w table gone = (w.0, w.1, gone (ap (λ (x : ℕ). GoneAgain x) w.0), record { meta = w.2; dirty = cells_are table })
  rebuild_by d u (Lost e) is w table gone = w
  rebuild_by d u (TickRation e) is w table gone = w

  -- one of a shift, where the setup, the spelling and the writes were kept
  module _ (setup : new.meta.setup ≡ a.core.meta.setup) (version : new.meta.version ≡ a.core.meta.version) (writes : new.meta.writes ≡ a.core.meta.writes) (none : named_out a.core.meta.out ≡ None) where
    reaches : (s : PowerState) → IsStateOf (service_of slots new before.samples 0 0) s → Reaches before after s
    reaches s of = record {
      meta = meta_is before.meta new.meta s setup version writes of.gear of.phase of.fill of.out of.spins of.ticks;
      dirty = λ r d low. sym (of.dirty r d (subst (λ (z : Setup). r < z.geometry.rows) (sym same_setup ∙ sym setup) low));
    }

    reaches_or_loses : (o : Out) → new.meta.out ≡ o → (s : PowerState) → GoesToState (service_of slots new before.samples 0 0) s → (lost : Option ℕ) × ReachesOrLoses before after s lost
    reaches_or_loses No is s to = (None, reaches s (to.whole is))
    reaches_or_loses (Gone d) is s to = (Some d, (failed none d (ap named_out is), reaches (after_loss s d) (to.lost d (ap named_out is))))
    reaches_or_loses (Fresh d u) is s to = (Some d, (failed none d (ap named_out is), reaches (after_loss s d) (to.lost d (ap named_out is))))

    moves_by : (e : TickEvent) → TellsMove a.setup (state_shown before) (service_of slots new before.samples 0 0) count e → MovesOn before after count e
    moves_by TickSteady w = w
    moves_by Waiting w = w
    moves_by Moving w = (w.0, w.1, reaches _ w.2)
    moves_by Flipped w = (w.0, w.1, reaches_or_loses new.meta.out refl _ w.2)
    moves_by (TickBegun to) w = w
    moves_by (Rebuilt e) w = w
    moves_by (GoneAgain e) w = w
    moves_by (Lost d) w = (w.0, failed none d w.1, reaches _ w.2)
    moves_by (TickRation e) w = w

  begins_up : (to : ℕ) → named_out a.core.meta.out ≡ None → new.dirty ≡ a.core.dirty → HasTickedUp (with_tick a.core.meta) new.meta to
      → (next_higher a.setup.geometry a.core.meta.gear ≡ Some to) × Begins before after (UpPhase to) (spins_up a.core.meta.gear to)
  begins_up to none table w =
      let may = subst (λ (z : Setup). MayGoUp z (state_shown before) to) same_setup (w.could (state_shown before) (ticked_state slot a)) in (
        may.next,
        begins_from before after (UpPhase to) w.begun.spins (a.core.meta.epoch + 1) (spins_up a.core.meta.gear to) w.begun.is (failed none)
            (λ d. raised_by a.core.meta.gear to d (slice_index w.begun.spins d) (slice_index a.core.meta.spins d) (w.begun.raised d) (w.begun.others d)) (ap is_dirty table),
      )

  begins_down : (to : ℕ) → named_out a.core.meta.out ≡ None → new.dirty ≡ a.core.dirty → HasTickedDown (with_tick a.core.meta) new.meta to
      → (next_lower a.setup.geometry a.core.meta.gear ≡ Some to) × (first_used_up a.setup (state_shown before) to ≡ None) × Begins before after (DownPhase to) (λ d. 0)
  begins_down to none table w =
      let may = subst (λ (z : Setup). MayGoDown z (state_shown before) to) same_setup (w.could (state_shown before) (ticked_state slot a)) in (
        may.next,
        may.unworn,
        begins_from before after (DownPhase to) a.core.meta.spins (a.core.meta.epoch + 1) (λ d. 0) w.begun (failed none) (λ d. plus_none (slice_index a.core.meta.spins d)) (ap is_dirty table),
      )

  tells_worn : (d : ℕ) → ((s : PowerState) → IsShiftStateOf (with_tick a.core.meta) s → IsDownRefused a.core.meta.setup s (Ration d)) → IsAsBefore before after
      → (to : ℕ) × (next_lower a.setup.geometry a.core.meta.gear ≡ Some to) × (first_used_up a.setup (state_shown before) to ≡ Some d) × IsAsBefore before after
  tells_worn d w same =
      let why = subst (λ (z : Setup). IsDownRefused z (state_shown before) (Ration d)) same_setup (w (state_shown before) (ticked_state slot a)) in
      (why.0, why.1, why.3, same)

  -- one that begins a shift to the next higher gear begins none to the next lower one
  begun_up_only : (to : ℕ) → named_out a.core.meta.out ≡ None → new.dirty ≡ a.core.dirty → next_higher a.setup.geometry a.core.meta.gear ≡ Some to
      → HasTickedUp (with_tick a.core.meta) new.meta to ⊎ HasTickedDown (with_tick a.core.meta) new.meta to → Begins before after (UpPhase to) (spins_up a.core.meta.gear to)
  begun_up_only to none table next w = elim w [
    | inl up ↦ (begins_up to none table up).1
    | inr down ↦ absurd (next_apart a.setup.geometry a.core.meta.gear to next (begins_down to none table down).0)
  ]

  begun_down_only : (to : ℕ) → named_out a.core.meta.out ≡ None → new.dirty ≡ a.core.dirty → next_lower a.setup.geometry a.core.meta.gear ≡ Some to
      → HasTickedUp (with_tick a.core.meta) new.meta to ⊎ HasTickedDown (with_tick a.core.meta) new.meta to → Begins before after (DownPhase to) (λ d. 0)
  begun_down_only to none table next w = elim w [
    | inl up ↦ absurd (next_apart a.setup.geometry a.core.meta.gear to (begins_up to none table up).0 next)
    | inr down ↦ (begins_down to none table down).2
  ]

  -- what the samples ask for
  abbrev asked_for : Decision
  asked_for = decision_shown before

  -- one of an array at rest
  decides_by : (made : Decision) → asked_for ≡ made → (e : TickEvent) → named_out a.core.meta.out ≡ None → new.dirty ≡ a.core.dirty → TellsDecision a.setup (state_shown before) made e → TellsRest (with_tick a.core.meta) new.meta e
      → (IsIdleTick e → IsAsBefore before after) → Decides made before after e
  decides_by Stay is e none table tells w idle = (tells, idle (subst IsIdleTick (sym tells) tt))
  decides_by (DecideUp to) is e none table tells w idle = (tells, begun_up_only to none table (decided_up a.setup a.core.meta.gear before.samples to is) (subst (TellsRest (with_tick a.core.meta) new.meta) tells w))
  decides_by (DecideDown to) is e none table tells w idle = by (first_used_up a.setup (state_shown before) to) tells
    where
      by : (worn : Option ℕ) → TellsUsedUp worn to e → GoesDown worn to before after e
      by None tells = (tells, begun_down_only to none table (decided_down a.setup a.core.meta.gear before.samples to is) (subst (TellsRest (with_tick a.core.meta) new.meta) tells w))
      by (Some d) tells = (tells, idle (subst IsIdleTick (sym tells) tt))

  abbrev IsIdleCore : Type 0
  IsIdleCore = (new.meta ≡ with_tick a.core.meta) × (new.dirty ≡ a.core.dirty) × (slot (core_rack new) ≡ slot (core_rack a.core)) × (length new.batch ≡ length a.core.batch)

  idle_is : IsIdleCore → IsAsBefore before after
  idle_is same = record { meta = same.0; dirty = ap is_dirty same.1; slot = same.2; staged = same.3 }

  shifts_by : (phase : Phase) → a.core.meta.phase ≡ phase → named_out a.core.meta.out ≡ None → (a.core.meta.phase ≢ Steady → MovesOn before after count event)
      → (a.core.meta.phase ≡ Steady → (count ≡ 0) × TellsRest (with_tick a.core.meta) new.meta event × TellsDecision a.setup (state_shown before) asked_for event)
      → (a.core.meta.phase ≡ Steady → IsIdleTick event → IsIdleCore) → (a.core.meta.phase ≡ Steady → new.dirty ≡ a.core.dirty) → MovesBy phase before after count event
  shifts_by Steady is none moves rests idle table = let w = rests is in (w.0, decides_by asked_for refl event none (table is) w.2 w.1 (λ e. idle_is (idle is e)))
  shifts_by (DownPhase to) is none moves rests idle table = moves (λ z. let y : Steady ≡ DownPhase to = sym z ∙ is in cc)
  shifts_by (UpPhase to) is none moves rests idle table = moves (λ z. let y : Steady ≡ UpPhase to = sym z ∙ is in cc)

  pub ticks_by : (out : Out) → a.core.meta.out ≡ out
      → ((d : ℕ) → a.core.meta.out ≡ Gone d → (count ≡ 0) × (event ≡ Waiting) × (new.meta ≡ with_tick a.core.meta) × (new.dirty ≡ a.core.dirty) × (slot (core_rack new) ≡ slot (core_rack a.core)) × (length new.batch ≡ length a.core.batch))
      → ((d u : ℕ) → a.core.meta.out ≡ Fresh d u → TellsRebuild (with_tick a.core.meta) new.meta d u count event)
      → ((d u : ℕ) → a.core.meta.out ≡ Fresh d u → new.dirty ≡ a.core.dirty)
      → ((d u : ℕ) → a.core.meta.out ≡ Fresh d u → event ≡ GoneAgain d → HasRisen (slot (core_rack a.core) d).faults (slot (core_rack new) d).faults)
      → new.meta.setup ≡ a.core.meta.setup → new.meta.version ≡ a.core.meta.version → new.meta.writes ≡ a.core.meta.writes
      → (a.core.meta.out ≡ No → a.core.meta.phase ≢ Steady → TellsMove a.setup (state_shown (shown_ticked (shown_of_array slot a))) (service_of slots new (shown_ticked (shown_of_array slot a)).samples 0 0) count event)
      → (a.core.meta.out ≡ No → a.core.meta.phase ≡ Steady → (count ≡ 0) × TellsRest (with_tick a.core.meta) new.meta event × TellsDecision a.setup (state_shown (shown_ticked (shown_of_array slot a))) (decision_shown (shown_ticked (shown_of_array slot a))) event)
      → (a.core.meta.out ≡ No → a.core.meta.phase ≡ Steady → IsIdleTick event → (new.meta ≡ with_tick a.core.meta) × (new.dirty ≡ a.core.dirty) × (slot (core_rack new) ≡ slot (core_rack a.core)) × (length new.batch ≡ length a.core.batch))
      → (a.core.meta.out ≡ No → a.core.meta.phase ≡ Steady → new.dirty ≡ a.core.dirty)
      → TicksBy out (shown_ticked (shown_of_array slot a)) (shown_with slot a.setup new sum kept 0 a.ended) count event
  ticks_by No is waits rebuilds cells gone setup version writes moves rests idle table =
      shifts_by a.core.meta.phase refl (ap named_out is) (λ shifts. moves_by setup version writes (ap named_out is) event (moves is shifts)) (rests is) (idle is) (table is)
  ticks_by (Gone d) is waits rebuilds cells gone setup version writes moves rests idle table = let w = waits d is in (w.0, w.1, idle_is (w.2, w.3, w.4, w.5))
  ticks_by (Fresh d u) is waits rebuilds cells gone setup version writes moves rests idle table = rebuild_by d u event refl (rebuilds d u is) (cells d u is) (gone d u is)

-- what it uses
pub tick_sum : (setup : Setup) (used : ℕ) (s : PowerState) (own sum : ℕ) (report : GearReport) → own ≡ min (used + tick_energy setup s) 18446744073709551615
    → sum ≡ min (own + begun_energy setup s.gear report.event) 18446744073709551615 → sum ≡ energy_after setup used s (Ticked report)
tick_sum setup used s own sum report own_is sum_is =
    sum_is ∙ ap (λ (n : ℕ). min (n + begun_energy setup s.gear report.event) 18446744073709551615) own_is
    ∙ two_sums used (tick_energy setup s) (begun_energy setup s.gear report.event) 18446744073709551615

-- what a tick has moved and did, where it was done
abbrev done_or : Result (ℕ × TickEvent) Two → ℕ × TickEvent
done_or (Ok done) = done
done_or (Err two) = (0, Waiting)

pub ok_moved : (count : ℕ) (event : TickEvent) → ◌≡◌ {A = Result (ℕ × TickEvent) Two} (Ok (count, event)) (Ok (0, Waiting)) → count ≡ 0
ok_moved count event is = ap (λ (r : Result (ℕ × TickEvent) Two). (done_or r).0) is

pub ok_event : (count : ℕ) (event : TickEvent) → ◌≡◌ {A = Result (ℕ × TickEvent) Two} (Ok (count, event)) (Ok (0, Waiting)) → event ≡ Waiting
ok_event count event is = ap (λ (r : Result (ℕ × TickEvent) Two). (done_or r).1) is

-- the disk that is down by the last commit or the meta is the one that is out by the meta
known_out : (named out : Option ℕ) → ((d : ℕ) → named ≡ Some d → out ≡ Some d) → (x : ℕ) → or_else named out ≡ Some x → out ≡ Some x
known_out None out stays x is = is
known_out (Some d) out stays x is = stays x is

known_down : (named out : Option ℕ) → ((d : ℕ) → named ≡ Some d → out ≡ Some d) → (x : ℕ) → out ≡ Some x → or_else named out ≡ Some x
known_down None out stays x is = is
known_down (Some d) out stays x is = sym (stays d refl) ∙ is

-- one that is out was so before, or has failed
pub out_then : (old new : ℕ → Slot) (was now was_named now_named : Option ℕ) → ((d : ℕ) → was_named ≡ Some d → was ≡ Some d) → ((d : ℕ) → now_named ≡ Some d → now ≡ Some d)
    → IsDownAfter (or_else was_named was) (or_else now_named now) old new → (d : ℕ) → now ≡ Some d → (was ≡ Some d) ⊎ HasRisen (old d).faults (new d).faults
out_then old new was now was_named now_named was_stays now_stays down d is = elim (down.known d (known_down now_named now now_stays d is)) [
  | inl before ↦ inl (known_out was_named was was_stays d before)
  | inr risen ↦ inr risen
]
