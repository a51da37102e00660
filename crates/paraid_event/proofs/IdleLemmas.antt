-- Ticks that have nothing to do, and the answers after a halt.
use Rattle.std.proofs.Common.{◌≡◌, ◌≢◌, ℕ, ◌+◌, ◌^◌, ◌<◌, ◌≤◌, [], length, Option, Some, None, refl, sym, ap, ◌∙◌, subst, arith, min, false}
use Rattle.std.proofs.lemmas.Bool.{false≢true}
use Rattle.std.proofs.lemmas.List.{append-nil}
use Rattle.paraid_base.specs.declared.event.Answer.{Answer}
use Rattle.paraid_base.specs.declared.event.Answer.TheVariants.{Bad as IsBad, Halted}
use Rattle.paraid_base.specs.declared.event.Event.{Event}
use Rattle.paraid_base.specs.declared.event.Event.TheVariants.{Bad, Tick}
use Rattle.paraid_base.specs.declared.fault.Halt.{Halt}
use Rattle.paraid_base.specs.declared.state.Out.TheVariants.{Gone, No}
use Rattle.paraid_base.specs.declared.state.Phase.TheVariants.{Steady as PhaseSteady}
use Rattle.paraid_base.specs.declared.state.TickEvent.{TickEvent}
use Rattle.paraid_base.specs.declared.state.TickEvent.TheVariants.{Ration, Steady, Waiting}
use Rattle.paraid_base.specs.Log.{worn_at}
use Rattle.paraid_base.specs.States.{named_out}
use Rattle.paraid_gear.specs.declared.decision.Decision.TheVariants.{Down as DecideDown, Stay}
use Rattle.paraid_gear.specs.Decision.{decision}
use Rattle.paraid_rack.specs.Told.{Ran}
use Rattle.paraid_rack.specs.Trail.{Trail}
use Rattle.paraid_rack.proofs.TrailsLemmas.{Ran-none}
use Rattle.paraid_record.specs.declared.meta.Meta.{Meta}
use Rattle.paraid_record.specs.declared.meta.Setup.{Setup}
use Rattle.paraid_record.specs.Range.{IsInRange}
use Rattle.paraid_image.specs.Power.{PowerState}
use Rattle.paraid_image.specs.Standing.{contents}
use Rattle.paraid_moves.proofs.MoveLemmas.{fits_later}
use Rattle.paraid_core.proofs.MarkLemmas.{keeps_restaged}
use Rattle.paraid_core.proofs.MomentLemmas.{base_in_range}
use Rattle.paraid_machine.specs.Energy.{begun_energy, energy_after, tick_energy}
use Rattle.paraid_machine.specs.Machine.{IsEventStep, outcomes, report}
use Rattle.paraid_machine.specs.Moves.{first_used_up, state_with_tick}
use Rattle.paraid_session.specs.Turn.{GoesOn, Point, bounds_at, point_wear, is_begun}
use Rattle.paraid_session.specs.Turn.IsTurn.{again, answered, bad}
use Rattle.paraid_session.specs.Watch.{HoldsWhileServing, IsServing, down_from_out}
use Rattle.paraid_session.specs.Resting.{watch_at}
use Rattle.paraid_recover.proofs.RestLemmas.{rest_only}
use Rattle.paraid_event.proofs.ApartLemmas.{tick_not_bad}
use Rattle.paraid_event.specs.Service.{IsStateOf, Service}
use Rattle.paraid_event.specs.Stands.{ServiceStandsFor, StandsAt, StandsIn}
use Rattle.paraid_event.specs.Ticks.{CountsTick, ticked}
use Rattle.paraid_event.proofs.PointLemmas.{rest, stands_mark, stands_resting}
use Rattle.paraid_event.proofs.TurnLemmas.{out_low}
use Rattle.paraid_event.proofs.PreludeLemmas.{same_base}

within_count : (a b : ℕ) → a ≤ b → a < 2 ^ 64 → a ≤ min (b + 1) 18446744073709551615
within_count a b l f = grind (arith)

capped_sum : (a b t z x : ℕ) → a ≡ b → z ≡ 0 → x ≡ min (b + t) 18446744073709551615 → min (a + (t + z)) 18446744073709551615 ≡ x
capped_sum a b t z x same none is = grind (arith)

under_cap : (x a : ℕ) → x ≡ min a 18446744073709551615 → x ≤ 18446744073709551615
under_cap x a is = grind (arith)

module _ (told : Option Trail) (k k_then : Service) (setup : Setup) (p : Point) (at : StandsAt told k setup p) (counts : CountsTick k k_then) (fit : point_wear p < worn_at) where
  abbrev j : Service
  j = ticked k k_then.energy

  abbrev s_then : PowerState
  s_then = state_with_tick p.state

  meta_fits : p.meta.ticks < 2 ^ 64
  meta_fits =
      let z = at.stands.keeps in
      let range : IsInRange p.meta = subst IsInRange at.stands.is_base (base_in_range k.slots z.base z.held p.history p.low p.disks z.copies) in
      range.counters.ticks_fit

  -- the core stands with one tick more
  keeps_then : ServiceStandsFor j p.history p.low p.disks
  keeps_then = keeps_restaged k.meta k.meta.gear k.meta.phase k.meta.fill (min (k.meta.ticks + 1) 18446744073709551615) k.meta.spins k.slots k.named k.table k.batch k.copied p.history p.low p.disks
      (fits_later k.slots p.disks.power p.disks.size p.history (length p.history) k.meta (record k.meta { ticks = min (k.meta.ticks + 1) 18446744073709551615 }) (contents p.disks k.batch)
      (record { setup = refl; gear = refl; phase = refl; fill = refl; out = refl; spins = refl })
      (λ d u fresh. out_low told k setup p at d (ap named_out fresh.is)) at.stands.keeps.staged) at.stands.keeps

  pub stands_in : StandsIn j p.history p.low p.meta (watch_at p)
  stands_in = record {
    keeps = keeps_then;
    is_base = same_base k j p.history p.history p.low p.low p.disks at.stands.keeps keeps_then ∙ at.stands.is_base;
    absent_down = at.stands.absent_down;
    named_down = at.stands.named_down;
    stays = at.stands.stays;
    recorded = at.stands.recorded;
    recorded_next = at.stands.recorded_next;
    awaited = at.stands.awaited;
    ticks = within_count p.meta.ticks k.meta.ticks at.stands.ticks meta_fits;
  }

  pub state_then : IsStateOf j s_then
  state_then = record {
    gear = at.state.gear;
    phase = at.state.phase;
    fill = at.state.fill;
    out = at.state.out;
    spins = at.state.spins;
    ticks = ap (λ (t : ℕ). min (t + 1) 18446744073709551615) at.state.ticks;
    dirty = at.state.dirty;
    samples = rw (at.state.samples, at.state.served) refl;
    served = refl;
  }

  pub used : k_then.energy ≡ min (k.energy + tick_energy setup p.state) 18446744073709551615
  used = counts.energy p.state at.state ∙ ap (λ (z : Setup). min (k.energy + tick_energy z p.state) 18446744073709551615) at.same_setup

  module _ (event : TickEvent) (no_begin : begun_energy setup p.state.gear event ≡ 0) (not_begun : is_begun event ≡ false) where
    abbrev answer : Answer
    answer = (report p.state 0 event).0

    abbrev q : Point
    q = record p { state = s_then; energy = energy_after setup p.energy p.state answer }

    there : StandsAt told j setup q
    there = record {
      disks = at.disks;
      stands = stands_in;
      copies_synced = at.copies_synced;
      same_setup = at.same_setup;
      shown = record { gear = at.shown.gear; out = at.shown.out; phase = at.shown.phase; fill = at.shown.fill; spins = at.shown.spins };
      powered = record { by_gear = at.powered.by_gear; fresh = at.powered.fresh };
      state = state_then;
      energy = capped_sum p.energy k.energy (tick_energy setup p.state) (begun_energy setup p.state.gear event) k_then.energy at.energy no_begin used;
      fits = under_cap k_then.energy (k.energy + tick_energy setup p.state) used;
      going = at.going;
    }

    kept : HoldsWhileServing k.slots p.history p.low (bounds_at setup p s_then) (watch_at p)
    kept = let rests = stands_resting told k setup p at in record {
      held = rests.kept.held;
      within = λ serving x i said looked stands.
          let w = rests.kept.within serving x i said looked stands in
          let is : said.meta ≡ p.meta = rest_only p.disks p.meta (rest told k setup p at) x i said looked stands in
          record {
            same_setup = w.same_setup;
            in_time = w.in_time;
            counted_ticks = within_count said.meta.ticks p.state.ticks w.counted_ticks (subst (λ (m : Meta). m.ticks < 2 ^ 64) (sym is) meta_fits);
            recorded = w.recorded;
          };
    }

    serving_from : (o : Option ℕ) → IsServing (down_from_out o)
    serving_from None = tt
    serving_from (Some d) = tt

    idle_turn : IsEventStep setup p.history p.energy p.state Tick None answer s_then → GoesOn k.slots setup p Tick answer (StandsAt told j setup) p.disks []
    idle_turn machine = (
      q,
      answered at.going (λ e. tick_not_bad e) (record {
        fit = λ asked. fit;
        machine = machine;
        moments = kept;
        once = omega arith;
        attached = λ is. absurd (false≢true is);
        ups = λ d low. omega arith;
        quiet = λ still none. refl;
        serving = serving_from (named_out p.state.out);
        mark = stands_mark told j setup q there;
        carried = λ is none. absurd (false≢true (sym not_begun ∙ is));
        brought = λ moved. absurd (moved refl);
        named = λ d was is moved. absurd (moved refl);
        flushed = λ f. absurd (false≢true f);
        disks = refl;
        history = sym (append-nil p.history);
        low = refl;
        energy = refl;
        spun = refl;
        awaited = refl;
        going = at.going;
      }),
      there,
    )

    idle_told : IsEventStep setup p.history p.energy p.state Tick None answer s_then → Ran told told (GoesOn k.slots setup p Tick answer (StandsAt told k_then setup))
    idle_told machine = Ran-none (GoesOn k.slots setup p Tick answer (StandsAt told k_then setup))
        (λ s. subst (λ (z : Service). GoesOn k.slots setup p Tick answer (StandsAt told z setup) p.disks []) (sym counts.is) (idle_turn machine)) told

  pub steady_turn : p.state.out ≡ No → p.state.phase ≡ PhaseSteady → decision setup p.state.gear s_then.samples ≡ Stay → Ran told told (GoesOn k.slots setup p Tick (report p.state 0 Steady).0 (StandsAt told k_then setup))
  unfolding outcomes
  steady_turn no_out steady stay = idle_told Steady refl refl step
    where
      step : IsEventStep setup p.history p.energy p.state Tick None (report p.state 0 Steady).0 s_then
      step = record { among = rw (no_out, steady, stay) (0, omega arith, refl) }

  pub waiting_turn : (d : ℕ) → p.state.out ≡ Gone d → Ran told told (GoesOn k.slots setup p Tick (report p.state 0 Waiting).0 (StandsAt told k_then setup))
  unfolding outcomes
  waiting_turn d out = idle_told Waiting refl refl step
    where
      step : IsEventStep setup p.history p.energy p.state Tick None (report p.state 0 Waiting).0 s_then
      step = record { among = rw out (0, omega arith, refl) }

  pub ration_turn : p.state.out ≡ No → p.state.phase ≡ PhaseSteady → (to d : ℕ) → decision setup p.state.gear s_then.samples ≡ DecideDown to → first_used_up setup s_then to ≡ Some d → Ran told told (GoesOn k.slots setup p Tick (report p.state 0 (Ration d)).0 (StandsAt told k_then setup))
  unfolding outcomes
  ration_turn no_out steady to d down worn = idle_told (Ration d) refl refl step
    where
      step : IsEventStep setup p.history p.energy p.state Tick None (report p.state 0 (Ration d)).0 s_then
      step = record { among = rw (no_out, steady, down, worn) (0, omega arith, refl) }

-- after a halt
pub again_turn : (told : Option Trail) (slots : ℕ) (setup : Setup) (p : Point) (event : Event) (halt : Halt) → p.halt ≡ Some halt → event ≢ Bad → Ran told told (GoesOn slots setup p event (Halted halt) (λ q. q ≡ p))
again_turn told slots setup p event halt halted not_bad = Ran-none (GoesOn slots setup p event (Halted halt) (λ q. q ≡ p)) (λ s. (p, again halt halted not_bad refl refl refl, refl)) told

pub bad_turn : (told : Option Trail) (slots : ℕ) (setup : Setup) (p : Point) → Ran told told (GoesOn slots setup p Bad IsBad (λ q. q ≡ p))
bad_turn told slots setup p = Ran-none (GoesOn slots setup p Bad IsBad (λ q. q ≡ p)) (λ s. (p, bad refl refl refl refl, refl)) told
