-- Events that the program answers with no call of the array.
use Rattle.std.proofs.Common.{◌≡◌, ◌≢◌, ℕ, ◌+◌, ◌≤◌, [], length, Option, Some, None, refl, sym, arith, min}
use Rattle.std.proofs.lemmas.List.{append-nil}
use Rattle.std.proofs.lemmas.Bool.{false≢true}
use Rattle.paraid_base.specs.declared.event.Answer.TheVariants.{State as IsState, Energy as EnergyUsed}
use Rattle.paraid_base.specs.declared.event.Event.TheVariants.{State as AskState, Energy as AskEnergy, Bad}
use Rattle.paraid_record.specs.declared.meta.Setup.{Setup}
use Rattle.paraid_machine.specs.Machine.{IsEventStep, outcomes, state_status}
use Rattle.paraid_base.specs.declared.state.Status.{Status}
use Rattle.paraid_rack.specs.Told.{Ran}
use Rattle.paraid_rack.specs.Trail.{Trail}
use Rattle.paraid_rack.proofs.TrailsLemmas.{Ran-none}
use Rattle.paraid_image.specs.Out.{named_out}
use Rattle.paraid_session.specs.Resting.{IsResting}
use Rattle.paraid_session.specs.Turn.{GoesOn, IsMark, IsTurn, Point, bounds_at, watch_of}
use Rattle.paraid_session.specs.Turn.IsTurn.{answered}
use Rattle.paraid_session.specs.Watch.{HoldsWhileServing, IsServing, down_from_out}

pub used_nothing : (n : ℕ) → n ≤ 18446744073709551615 → n ≡ min (n + 0) 18446744073709551615
used_nothing n small = grind (arith)

state_step : (setup : Setup) (p : Point) → IsEventStep setup p.history p.energy p.state AskState None (IsState (state_status setup (length p.history) p.state) setup.geometry.disks) p.state
unfolding outcomes
state_step setup p = record { among = (0, omega arith, refl) }

energy_step : (setup : Setup) (p : Point) → IsEventStep setup p.history p.energy p.state AskEnergy None (EnergyUsed p.energy) p.state
unfolding outcomes
energy_step setup p = record { among = (0, omega arith, refl) }

apart_state : AskState ≢ Bad
apart_state e = cc

apart_energy : AskEnergy ≢ Bad
apart_energy e = cc

serving_of : (out : Option ℕ) → IsServing (down_from_out out)
serving_of None = tt
serving_of (Some d) = tt

-- At a mark the state is told with no call, and nothing changes.
pub state_turn : (slots : ℕ) (setup : Setup) (p : Point) → p.halt ≡ None → IsMark slots setup p → HoldsWhileServing slots p.history p.low (bounds_at setup p p.state) (watch_of p AskState (IsState (state_status setup (length p.history) p.state) setup.geometry.disks))
    → p.energy ≤ 18446744073709551615 → IsTurn slots setup p AskState (IsState (state_status setup (length p.history) p.state) setup.geometry.disks) [] p
state_turn slots setup p going mark kept small = answered going apart_state (record {
  fit = λ e. absurd (false≢true e);
  machine = state_step setup p;
  moments = kept;
  once = omega arith;
  attached = λ is. absurd (false≢true is);
  ups = λ d low. omega arith;
  quiet = λ q none. refl;
  serving = serving_of (named_out p.state.out);
  mark = mark;
  carried = λ is none. absurd (false≢true is);
  brought = λ moved. absurd (moved refl);
  named = λ d was is moved. absurd (moved refl);
  flushed = λ f. absurd (false≢true f);
  disks = refl;
  history = sym (append-nil p.history);
  low = refl;
  energy = used_nothing p.energy small;
  spun = refl;
  awaited = refl;
  going = going;
})

pub energy_turn : (slots : ℕ) (setup : Setup) (p : Point) → p.halt ≡ None → IsMark slots setup p → HoldsWhileServing slots p.history p.low (bounds_at setup p p.state) (watch_of p AskEnergy (EnergyUsed p.energy))
    → p.energy ≤ 18446744073709551615 → IsTurn slots setup p AskEnergy (EnergyUsed p.energy) [] p
energy_turn slots setup p going mark kept small = answered going apart_energy (record {
  fit = λ e. absurd (false≢true e);
  machine = energy_step setup p;
  moments = kept;
  once = omega arith;
  attached = λ is. absurd (false≢true is);
  ups = λ d low. omega arith;
  quiet = λ q none. refl;
  serving = serving_of (named_out p.state.out);
  mark = mark;
  carried = λ is none. absurd (false≢true is);
  brought = λ moved. absurd (moved refl);
  named = λ d was is moved. absurd (moved refl);
  flushed = λ f. absurd (false≢true f);
  disks = refl;
  history = sym (append-nil p.history);
  low = refl;
  energy = used_nothing p.energy small;
  spun = refl;
  awaited = refl;
  going = going;
})

-- the state that an array tells at a point at which it stands
pub state_ran : (slots : ℕ) (setup : Setup) (told : Option Trail) (p : Point) (stands : Point → Type 0) (status : Status) (disks : ℕ) → status ≡ state_status setup (length p.history) p.state → disks ≡ setup.geometry.disks
    → p.halt ≡ None → IsResting slots setup p → stands p → Ran told told (GoesOn slots setup p AskState (IsState status disks) stands)
state_ran slots setup told p stands status disks is many going resting at_p = rw (is, many)
    (Ran-none (GoesOn slots setup p AskState (IsState (state_status setup (length p.history) p.state) setup.geometry.disks) stands) (λ s. (p, state_turn slots setup p going resting.mark resting.kept resting.energy, at_p)) told)
