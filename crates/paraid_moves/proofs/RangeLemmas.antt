-- The metas that a shift and a rebuild bring are in range.
use Rattle.paraid_image.specs.Mark.{meta_after_loss}
use Rattle.std.specs.Prelude.{◌≡◌, ◌≢◌, ℕ, ◌+◌, ◌<◌, ◌≤◌, ◌⊎◌, true, false, List, length, slice_index}
use Rattle.std.proofs.Common.{refl, sym, ◌∙◌, ap, subst, arith, inl, inr}
use Rattle.std.proofs.lemmas.Bool.{cases_lt, false≢true}
use Rattle.paraid_base.specs.declared.geometry.Geometry.{Geometry}
use Rattle.paraid_base.specs.declared.state.Out.{Out}
use Rattle.paraid_base.specs.declared.state.Out.TheVariants.{No, Fresh}
use Rattle.paraid_base.specs.declared.state.Phase.{Phase}
use Rattle.paraid_base.specs.declared.state.Phase.TheVariants.{Steady, Down, Up}
use Rattle.paraid_base.specs.Regions.{IsGear}
use Rattle.paraid_record.specs.declared.meta.Meta.{Meta}
use Rattle.paraid_record.specs.Codes.{phase_to}
use Rattle.paraid_record.specs.Range.{AreCountersInRange, AreNextGears, IsInRange, IsOutInRange, IsPhaseInRange, IsVersionInRange, allowed_spins, fill_limit, first_parked, has_out, is_down, rebuild_units}
use Rattle.paraid_ration.proofs.AllowanceLemmas.{allowance-grows}
use Rattle.paraid_moves.specs.MoveMetas.{IsAs, meta_after_begin, filled_to, meta_flipped_to, meta_with_out}
use Rattle.paraid_base.specs.States.{phase_beside}
use Rattle.paraid_moves.proofs.MoveLemmas.{is_later}

no_has_out : (o : Out) → o ≡ No → has_out o ≡ false
no_has_out o is = ap has_out is

no_out_in_range : (g : Geometry) (gear : ℕ) (o : Out) → o ≡ No → IsOutInRange g gear o
no_out_in_range g gear o is = subst (IsOutInRange g gear) (sym is) tt

-- A shift down begins, within the ration.
pub down_in_range : (m : Meta) (to : ℕ) → IsInRange m → m.out ≡ No → m.phase ≡ Steady → AreNextGears m.setup.geometry to m.gear
    → ((d : ℕ) → to ≤ d → d < m.gear → slice_index m.spins d < allowed_spins m) → IsInRange (meta_after_begin m (Down to) m.spins)
down_in_range m to r none steady next ration = record {
  setup = r.setup;
  version = r.version;
  counters = r.counters;
  gear = r.gear;
  phase = next;
  out = r.out;
  shift = record { fill = omega arith; down = λ is. no_has_out m.out none; still = λ is. refl };
  eight = r.eight;
  spins = λ d l. let was = r.spins d l in record {
    within = was.within;
    parked = λ low high. elim (cases_lt d m.gear) [
      | inl below ↦ ration d low below
      | inr above ↦ was.parked (rw steady above) high
    ];
    unused = was.unused;
  };
}

-- A shift up begins, with a spin-up recorded for each disk that it spins up.
pub up_in_range : (m : Meta) (to : ℕ) (spins : List ℕ) → IsInRange m → m.out ≡ No → m.phase ≡ Steady → AreNextGears m.setup.geometry m.gear to
    → length spins ≡ 8
    → ((d : ℕ) → m.gear ≤ d → d < to → slice_index spins d ≡ slice_index m.spins d + 1)
    → ((d : ℕ) → (d < m.gear) ⊎ (to ≤ d) → slice_index spins d ≡ slice_index m.spins d) → IsInRange (meta_after_begin m (Up to) spins)
up_in_range m to spins r none steady next eight more same = record {
  setup = r.setup;
  version = r.version;
  counters = r.counters;
  gear = r.gear;
  phase = next;
  out = r.out;
  shift = record { fill = omega arith; down = λ is. no_has_out m.out none; still = λ is. refl };
  eight = eight;
  spins = λ d l.
      let was = r.spins d l in
      let below = next.below in
      let high_gear = m.setup.geometry.gears_high to next.higher_gear in
      let parked_was : m.gear ≤ d → d < m.setup.geometry.disks → slice_index m.spins d < allowed_spins m = (λ low high. was.parked (rw steady low) high) in
      record {
        within = elim (cases_lt d m.gear) [
          | inl lower ↦ let e = same d (inl lower) in let w = was.within in omega arith
          | inr low ↦ elim (cases_lt d to) [
            | inr higher ↦ let e = same d (inr higher) in let w = was.within in omega arith
            | inl rises ↦ let e = more d low rises in let w = parked_was low (omega arith) in omega arith
          ]
        ];
        parked = λ low high. let e = same d (inr low) in let w = parked_was (omega arith) high in omega arith;
        unused = λ past. let e = same d (inr (omega arith)) in let w = was.unused past in omega arith;
      };
}

-- More stripes are filled.
pub filled_in_range : (m : Meta) (end : ℕ) → IsInRange m → m.out ≡ No → end ≤ fill_limit m.setup.geometry m.phase → IsInRange (filled_to m end)
filled_in_range m end r none limit = record {
  setup = r.setup;
  version = r.version;
  counters = r.counters;
  gear = r.gear;
  phase = r.phase;
  out = r.out;
  shift = record { fill = limit; down = r.shift.down; still = λ is. absurd (false≢true (sym (no_has_out m.out none) ∙ is)) };
  eight = r.eight;
  spins = λ d l. let was = r.spins d l in record { within = was.within; parked = was.parked; unused = was.unused };
}

shift_parks : (gear : ℕ) (p : Phase) → p ≢ Steady → first_parked gear p ≡ phase_to p
shift_parks gear Steady not = absurd (not refl)
shift_parks gear (Down to) not = refl
shift_parks gear (Up to) not = refl

-- A shift ends.
pub flip_in_range : (m : Meta) (to : ℕ) → IsInRange m → m.out ≡ No → m.phase ≢ Steady → phase_to m.phase ≡ to → IsInRange (meta_flipped_to m to)
flip_in_range m to r none shifts is = record {
  setup = r.setup;
  version = r.version;
  counters = r.counters;
  gear = subst (λ (a : ℕ). IsTheGear a) is (to_gear m.phase r.phase shifts);
  phase = tt;
  out = no_out_in_range m.setup.geometry to m.out none;
  shift = record { fill = omega arith; down = λ down. absurd (false≢true down); still = λ out. refl };
  eight = r.eight;
  spins = λ d l. let was = r.spins d l in record {
    within = was.within;
    parked = λ low high. was.parked (rw (shift_parks m.gear m.phase shifts, is) low) high;
    unused = was.unused;
  };
}
  where
    IsTheGear : ℕ → Type 0
    IsTheGear a = IsGear m.setup.geometry a

    to_gear : (p : Phase) → IsPhaseInRange m.setup.geometry m.gear p → p ≢ Steady → IsGear m.setup.geometry (phase_to p)
    to_gear Steady range not = absurd (not refl)
    to_gear (Down low) range not = range.lower_gear
    to_gear (Up high) range not = range.higher_gear

left_in_range : (g : Geometry) (gear : ℕ) (p : Phase) → IsPhaseInRange g gear p → IsPhaseInRange g gear (phase_beside true p)
left_in_range g gear Steady range = tt
left_in_range g gear (Down to) range = tt
left_in_range g gear (Up to) range = range

left_up : (p : Phase) → is_down (phase_beside true p) ≡ false
left_up Steady = refl
left_up (Down to) = refl
left_up (Up to) = refl

left_parks : (g : Geometry) (gear : ℕ) (p : Phase) → IsPhaseInRange g gear p → first_parked gear p ≤ first_parked gear (phase_beside true p)
left_parks g gear Steady range = omega arith
left_parks g gear (Down to) range = let l = range.below in omega arith
left_parks g gear (Up to) range = omega arith

-- A disk goes out, with its spins as they were or less.
pub out_in_range : (m : Meta) (d : ℕ) (spins : List ℕ) → IsInRange m → d < m.setup.geometry.disks → length spins ≡ 8
    → ((e : ℕ) → slice_index spins e ≤ slice_index m.spins e) → IsInRange (record (meta_after_loss m d) { spins = spins })
out_in_range m d spins r ld eight less = record {
  setup = r.setup;
  version = r.version;
  counters = r.counters;
  gear = r.gear;
  phase = left_in_range m.setup.geometry m.gear m.phase r.phase;
  out = ld;
  shift = record { fill = omega arith; down = λ is. absurd (false≢true (sym (left_up m.phase) ∙ is)); still = λ is. refl };
  eight = eight;
  spins = λ e l. let was = r.spins e l in let w = less e in record {
    within = let x = was.within in omega arith;
    parked = λ low high. let p = left_parks m.setup.geometry m.gear m.phase r.phase in let x = was.parked (omega arith) high in omega arith;
    unused = λ past. let x = was.unused past in omega arith;
  };
}

-- Units of a disk that is out are rebuilt.
pub units_in_range : (m : Meta) (d units : ℕ) → IsInRange m → has_out m.out ≡ true → d < m.setup.geometry.disks → units ≤ rebuild_units m.setup.geometry m.gear d
    → IsInRange (meta_with_out m (Fresh d units))
units_in_range m d units r out ld limit = record {
  setup = r.setup;
  version = r.version;
  counters = r.counters;
  gear = r.gear;
  phase = r.phase;
  out = (ld, limit);
  shift = record { fill = r.shift.fill; down = λ is. absurd (false≢true (sym (r.shift.down is) ∙ out)); still = λ is. r.shift.still out };
  eight = r.eight;
  spins = λ e l. let was = r.spins e l in record { within = was.within; parked = was.parked; unused = was.unused };
}

-- It joins again.
pub join_in_range : (m : Meta) → IsInRange m → IsInRange (meta_with_out m No)
join_in_range m r = record {
  setup = r.setup;
  version = r.version;
  counters = r.counters;
  gear = r.gear;
  phase = r.phase;
  out = tt;
  shift = record { fill = r.shift.fill; down = λ is. refl; still = λ is. absurd (false≢true is) };
  eight = r.eight;
  spins = λ e l. let was = r.spins e l in record { within = was.within; parked = was.parked; unused = was.unused };
}

-- The version, the epoch and the numbers of writes and of ticks may be others; with more ticks as
-- many spin-ups are allowed, or more.
later_range : (m : Meta) (version epoch writes ticks : ℕ) → IsInRange m → IsVersionInRange version m.setup → AreCountersInRange epoch writes ticks → m.ticks ≤ ticks
    → IsInRange (record m { version = version; epoch = epoch; writes = writes; ticks = ticks })
later_range m version epoch writes ticks r known counters more =
    let grows = allowance-grows m.setup.ration m.setup.burst m.setup.period m.ticks ticks r.setup.period.0 more in
    record {
      setup = r.setup;
      version = known;
      counters = counters;
      gear = r.gear;
      phase = r.phase;
      out = r.out;
      shift = record { fill = r.shift.fill; down = r.shift.down; still = r.shift.still };
      eight = r.eight;
      spins = λ d l. let was = r.spins d l in record {
        within = let w = was.within in omega arith;
        parked = λ low high. let w = was.parked low high in omega arith;
        unused = was.unused;
      };
    }

pub later_in_range : (m t : Meta) → IsInRange m → IsAs m t → IsVersionInRange t.version t.setup → AreCountersInRange t.epoch t.writes t.ticks → m.ticks ≤ t.ticks
    → IsInRange t
later_in_range m t r is known counters more =
    subst IsInRange (is_later m t is)
    (later_range m t.version t.epoch t.writes t.ticks r (subst (IsVersionInRange t.version) is.setup known) counters more)
