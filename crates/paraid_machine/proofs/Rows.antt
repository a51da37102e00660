-- The machine on the worked rows, by evaluation.
use Rattle.std.specs.Prelude.{◌≡◌, ℕ, ◌≤◌, Bool, true, false, List, [], ◌∷◌, Option, Some, None, slice_index_or, refl}
use Rattle.std.proofs.Common.{zero, suc, arith}
use Rattle.std.proofs.lemmas.Bool.{false≢true}
use Rattle.paraid_base.specs.declared.event.Answer.{Answer}
use Rattle.paraid_base.specs.declared.event.Answer.TheVariants.{Value, Wrote, Ticked, Shift, Failed, Replaced, NoDisk, Out as IsOut, NotOut, NoFresh, Ration as RationUsed, State as IsState, Energy as EnergyUsed, Bad as IsBad}
use Rattle.paraid_base.specs.declared.event.Event.{Event}
use Rattle.paraid_base.specs.declared.event.Event.TheVariants.{Read, Write, Tick, Up as AskUp, Down as AskDown, Fail, Replace, State as AskState, Energy as AskEnergy}
use Rattle.paraid_base.specs.declared.geometry.Geometry.{Geometry}
use Rattle.paraid_base.specs.declared.state.Out.{Out}
use Rattle.paraid_base.specs.declared.state.Out.TheVariants.{No, Gone}
use Rattle.paraid_base.specs.declared.state.Phase.{Phase}
use Rattle.paraid_base.specs.declared.state.Phase.TheVariants.{Steady, Up}
use Rattle.paraid_base.specs.declared.state.TickEvent.{TickEvent}
use Rattle.paraid_base.specs.declared.state.TickEvent.TheVariants.{Steady as TickSteady, Waiting, Moving, Flipped, Begun, Rebuilt, Gone as GoneAgain, Lost}
use Rattle.paraid_base.specs.Xor.{zero_block}
use Rattle.paraid_record.specs.declared.meta.Mode.{Mode}
use Rattle.paraid_record.specs.declared.meta.Mode.TheVariants.{Whole, Access}
use Rattle.paraid_record.specs.declared.meta.Setup.{Setup}
use Rattle.paraid_image.specs.Power.{PowerState}
use Rattle.paraid_machine.specs.Machine.{Outcomes, outcomes}
use Rattle.paraid_machine.specs.Energy.{energy_after}
use Rattle.paraid_base.specs.History.{after_all}
use Rattle.paraid_base.specs.Pairs as Pairs
use Rattle.paraid_base.specs.Pairs.{single_pair}
use Rattle.paraid_base.specs.Gears as Gears
use Rattle.paraid_gear.specs.Decision as Decision
use Rattle.paraid_base.specs.Sums as Sums
use Rattle.paraid_ration.specs.Ration as Ration

abbrev flags : List Bool
flags = false ∷ false ∷ false ∷ false ∷ true ∷ true ∷ false ∷ false ∷ false ∷ []

low : (a : ℕ) → slice_index_or flags a false ≡ true → 3 ≤ a
low zero e = absurd (false≢true e)
low (suc zero) e = absurd (false≢true e)
low (suc (suc zero)) e = absurd (false≢true e)
low (suc (suc (suc a))) e = omega arith

high : (a : ℕ) → slice_index_or flags a false ≡ true → a ≤ 5
high zero e = omega arith
high (suc zero) e = omega arith
high (suc (suc zero)) e = omega arith
high (suc (suc (suc zero))) e = omega arith
high (suc (suc (suc (suc zero)))) e = omega arith
high (suc (suc (suc (suc (suc zero))))) e = omega arith
high (suc (suc (suc (suc (suc (suc zero)))))) e = absurd (false≢true e)
high (suc (suc (suc (suc (suc (suc (suc zero))))))) e = absurd (false≢true e)
high (suc (suc (suc (suc (suc (suc (suc (suc zero)))))))) e = absurd (false≢true e)
high (suc (suc (suc (suc (suc (suc (suc (suc (suc a))))))))) e = absurd (false≢true e)

abbrev geometry : Geometry
geometry = record {
  disks = 5;
  rows = 5;
  gears = flags;
  disks_low = omega arith;
  disks_high = omega arith;
  rows_low = omega arith;
  rows_high = omega arith;
  long = refl;
  gears_low = low;
  gears_high = high;
  last = refl;
}

-- configuration A, with this mode, service, length of a window and ration
abbrev setup : Mode → ℕ → ℕ → ℕ → Setup
setup mode service span ration = record {
  geometry = geometry;
  mode = mode;
  rate = 1;
  service = service;
  up = 80;
  down = 60;
  windows = span ∷ 0 ∷ 0 ∷ [];
  ration = ration;
  burst = ration;
  period = 1;
  spinning_mj = 9000;
  parked_mj = 900;
  spinup_mj = 60000;
}

abbrev start : PowerState
start = record {
  gear = 5;
  phase = Steady;
  dirty = λ r d. false;
  fill = 0;
  out = No;
  spins = 0 ∷ 0 ∷ 0 ∷ 0 ∷ 0 ∷ 0 ∷ 0 ∷ 0 ∷ [];
  ticks = 0;
  samples = [];
  served = 0;
}

-- the first outcome
abbrev first : Outcomes → Answer × PowerState
first [] = (IsBad, start)
first (it ∷ others) = it

-- the answers where each event has its first outcome
abbrev answers : Setup → ℕ → PowerState → List (Event × Option ℕ) → List Answer
answers a used s [] = []
answers a used s (it ∷ events) =
    let next = first (outcomes a [] used s it.0 it.1) in
    next.0 ∷ answers a (energy_after a used s next.0) next.1 events

abbrev state_after : Setup → PowerState → List (Event × Option ℕ) → PowerState
state_after a s [] = s
state_after a s (it ∷ events) = state_after a (first (outcomes a [] 0 s it.0 it.1)).1 events

abbrev plain : List Event → List (Event × Option ℕ)
plain [] = []
plain (e ∷ events) = (e, None) ∷ plain events

abbrev tick : ℕ → ℕ → TickEvent → Answer
tick gear count event = Ticked (record { gear = gear; moved = count; event = event })

abbrev whole : Setup
whole = setup Whole 100 1000 100

abbrev status : ℕ → ℕ → Phase → ℕ → ℕ → Out → ℕ → Answer
status ticks gear phase dirty fill out last_spins = IsState
    (record {
      writes = 0;
      ticks = ticks;
      gear = gear;
      phase = phase;
      dirty = dirty;
      fill = fill;
      out = out;
      spins = 0 ∷ 0 ∷ 0 ∷ 0 ∷ last_spins ∷ 0 ∷ 0 ∷ 0 ∷ [];
      halt = None;
    }) 5

abbrev times : {A : Type 0} → ℕ → A → List A → List A
times zero a more = more
times (suc n) a more = a ∷ times n a more

row_6 : answers (whole) 0 (start) (plain (AskDown ∷ Tick ∷ Tick ∷ AskState ∷ AskEnergy ∷ Tick ∷ AskEnergy ∷ [])) ≡ Shift 5 4 ∷ tick 5 1 Moving ∷ tick 4 1 Flipped ∷ status 2 4 Steady 0 0 No 0 ∷ EnergyUsed 90000 ∷ tick 4 0 TickSteady ∷ EnergyUsed 126900 ∷ []
unfolding outcomes Ration.allowance Pairs.pairs_of Pairs.single_pair Gears.last_below Gears.first_from Sums.sum_before Decision.decision
row_6 = refl

row_8_and_10 : answers (whole) 0 (start) (plain (AskDown ∷ Tick ∷ Tick ∷ Write (single_pair 7 zero_block) ∷ AskState ∷ Write (single_pair 0 zero_block) ∷ AskState ∷ AskUp ∷ Tick ∷ AskState ∷ [])) ≡ Shift 5 4 ∷ tick 5 1 Moving ∷ tick 4 1 Flipped ∷ Wrote 1 ∷ status 2 4 Steady 1 0 No 0 ∷ Wrote 1 ∷ status 2 4 Steady 2 0 No 0 ∷ Shift 4 5 ∷ tick 5 2 Flipped ∷ status 3 5 Steady 0 0 No 1 ∷ []
unfolding outcomes Ration.allowance Pairs.pairs_of Pairs.single_pair Gears.last_below Gears.first_from Sums.sum_before Decision.decision
row_8_and_10 = refl

row_11 : answers (setup Access 100 1000 100) 0 (start) (plain (AskDown ∷ Tick ∷ Tick ∷ Write (single_pair 7 zero_block) ∷ Write (single_pair 0 zero_block) ∷ AskUp ∷ Read 7 ∷ AskState ∷ Tick ∷ [])) ≡ Shift 5 4 ∷ tick 5 1 Moving ∷ tick 4 1 Flipped ∷ Wrote 1 ∷ Wrote 1 ∷ Shift 4 5 ∷ Value 7 (after_all [] 7) ∷ status 2 4 (Up 5) 1 0 No 1 ∷ tick 5 1 Flipped ∷ []
unfolding outcomes Ration.allowance Pairs.pairs_of Pairs.single_pair Gears.last_below Gears.first_from Sums.sum_before Decision.decision
row_11 = refl

row_14 : answers (whole) 0 (start) (plain (Fail 2 ∷ Fail 3 ∷ Fail 2 ∷ Replace 3 ∷ Replace 5 ∷ Tick ∷ AskDown ∷ [])) ≡ Failed 2 ∷ IsOut 2 ∷ IsOut 2 ∷ NotOut 3 ∷ NoDisk 5 ∷ tick 5 0 Waiting ∷ IsOut 2 ∷ []
unfolding outcomes Ration.allowance Pairs.pairs_of Pairs.single_pair Gears.last_below Gears.first_from Sums.sum_before Decision.decision
row_14 = refl

row_16 : answers (setup Whole 100 1000 1) 0 (start) (plain (AskDown ∷ Tick ∷ Tick ∷ AskUp ∷ Tick ∷ AskDown ∷ [])) ≡ Shift 5 4 ∷ tick 5 1 Moving ∷ tick 4 1 Flipped ∷ Shift 4 5 ∷ tick 5 0 Flipped ∷ RationUsed 4 ∷ []
unfolding outcomes Ration.allowance Pairs.pairs_of Pairs.single_pair Gears.last_below Gears.first_from Sums.sum_before Decision.decision
row_16 = refl

-- a disk that may spin up once at once, and once more for each four ticks
row_of_the_allowance : answers (record (setup Whole 100 1000 100) { burst = 1; period = 4 }) 0 (start) (plain (AskDown ∷ Tick ∷ Tick ∷ AskUp ∷ Tick ∷ AskDown ∷ Tick ∷ AskDown ∷ [])) ≡ Shift 5 4 ∷ tick 5 1 Moving ∷ tick 4 1 Flipped ∷ Shift 4 5 ∷ tick 5 0 Flipped ∷ RationUsed 4 ∷ tick 5 0 TickSteady ∷ Shift 5 4 ∷ []
unfolding outcomes Ration.allowance Pairs.pairs_of Pairs.single_pair Gears.last_below Gears.first_from Sums.sum_before Decision.decision
row_of_the_allowance = refl

row_9 : answers (whole) 0 (start) (plain (AskDown ∷ Tick ∷ Tick ∷ Write (single_pair 7 zero_block) ∷ Fail 1 ∷ Read 7 ∷ AskState ∷ [])) ≡ Shift 5 4 ∷ tick 5 1 Moving ∷ tick 4 1 Flipped ∷ Wrote 1 ∷ Failed 1 ∷ Value 7 (after_all [] 7) ∷ status 2 4 Steady 1 0 (Gone 1) 0 ∷ []
unfolding outcomes Ration.allowance Pairs.pairs_of Pairs.single_pair Gears.last_below Gears.first_from Sums.sum_before Decision.decision
row_9 = refl

row_17 : answers (whole) 0 (start) (plain (AskDown ∷ Tick ∷ Tick ∷ Write (single_pair 7 zero_block) ∷ Fail 0 ∷ Replace 0 ∷ times 8 Tick (Fail 1 ∷ []))) ≡ Shift 5 4 ∷ tick 5 1 Moving ∷ tick 4 1 Flipped ∷ Wrote 1 ∷ Failed 0 ∷ Replaced 0 ∷ times 7 (tick 4 1 Moving) (tick 4 1 (Rebuilt 0) ∷ Failed 1 ∷ [])
unfolding outcomes Ration.allowance Pairs.pairs_of Pairs.single_pair Gears.last_below Gears.first_from Sums.sum_before Decision.decision
row_17 = refl

row_18 : answers (whole) 0 (start) (plain (AskDown ∷ Tick ∷ Tick ∷ Fail 4 ∷ Replace 4 ∷ times 5 Tick (AskState ∷ []))) ≡ Shift 5 4 ∷ tick 5 1 Moving ∷ tick 4 1 Flipped ∷ Failed 4 ∷ Replaced 4 ∷ times 4 (tick 4 1 Moving) (tick 4 1 (Rebuilt 4) ∷ status 7 4 Steady 0 0 No 0 ∷ [])
unfolding outcomes Ration.allowance Pairs.pairs_of Pairs.single_pair Gears.last_below Gears.first_from Sums.sum_before Decision.decision
row_18 = refl

row_19 : answers (whole) 0 (start) ((Fail 2, None) ∷ (Replace 2, None) ∷ (Tick, Some 2) ∷ (Read 2, None) ∷ []) ≡ Failed 2 ∷ Replaced 2 ∷ tick 5 0 (GoneAgain 2) ∷ Value 2 (after_all [] 2) ∷ []
unfolding outcomes Ration.allowance Pairs.pairs_of Pairs.single_pair Gears.last_below Gears.first_from Sums.sum_before Decision.decision
row_19 = refl

row_19_with_no_disk : answers (whole) 0 (start) ((Fail 2, None) ∷ (Replace 2, Some 2) ∷ (AskState, None) ∷ []) ≡ Failed 2 ∷ NoFresh 2 ∷ status 0 5 Steady 0 0 (Gone 2) 0 ∷ []
unfolding outcomes Ration.allowance Pairs.pairs_of Pairs.single_pair Gears.last_below Gears.first_from Sums.sum_before Decision.decision
row_19_with_no_disk = refl

row_20 : answers (setup Whole 1 2 100) 0 (start) (plain (times 4 Tick (times 7 (Read 0) (Tick ∷ Tick ∷ [])))) ≡ tick 5 0 TickSteady ∷ tick 5 0 (Begun 4) ∷ tick 5 1 Moving ∷ tick 4 1 Flipped ∷ times 7 (Value 0 (after_all [] 0)) (tick 4 0 (Begun 5) ∷ tick 5 0 Flipped ∷ [])
unfolding outcomes Ration.allowance Pairs.pairs_of Pairs.single_pair Gears.last_below Gears.first_from Sums.sum_before Decision.decision
row_20 = refl

row_20_with_six : answers (setup Whole 1 2 100) 0 (start) (plain (times 4 Tick (times 6 (Read 0) (Tick ∷ [])))) ≡ tick 5 0 TickSteady ∷ tick 5 0 (Begun 4) ∷ tick 5 1 Moving ∷ tick 4 1 Flipped ∷ times 6 (Value 0 (after_all [] 0)) (tick 4 0 TickSteady ∷ [])
unfolding outcomes Ration.allowance Pairs.pairs_of Pairs.single_pair Gears.last_below Gears.first_from Sums.sum_before Decision.decision
row_20_with_six = refl

row_21 : answers (setup Whole 1 2 100) 0 (start) (plain (Tick ∷ times 4 (Read 0) (Tick ∷ []))) ≡ tick 5 0 TickSteady ∷ times 4 (Value 0 (after_all [] 0)) (tick 5 0 TickSteady ∷ [])
unfolding outcomes Ration.allowance Pairs.pairs_of Pairs.single_pair Gears.last_below Gears.first_from Sums.sum_before Decision.decision
row_21 = refl

row_21_spread : answers (setup Whole 1 2 100) 0 (start) (plain (Read 0 ∷ Read 0 ∷ Tick ∷ Read 0 ∷ Read 0 ∷ Tick ∷ [])) ≡ Value 0 (after_all [] 0) ∷ Value 0 (after_all [] 0) ∷ tick 5 0 TickSteady ∷ Value 0 (after_all [] 0) ∷ Value 0 (after_all [] 0) ∷ tick 5 0 (Begun 4) ∷ []
unfolding outcomes Ration.allowance Pairs.pairs_of Pairs.single_pair Gears.last_below Gears.first_from Sums.sum_before Decision.decision
row_21_spread = refl

-- the answers of all outcomes of one event
abbrev all_answers : Outcomes → List Answer
all_answers [] = []
all_answers (it ∷ others) = it.0 ∷ all_answers others

-- a loss in a tick that flips may have come before a unit was moved, after one, or after the flip
a_loss_in_a_flip : all_answers (outcomes whole [] 0 (state_after whole start (plain (AskDown ∷ Tick ∷ []))) Tick (Some 3)) ≡ tick 4 1 Flipped ∷ tick 5 1 (Lost 3) ∷ tick 5 0 (Lost 3) ∷ []
unfolding outcomes Ration.allowance Pairs.pairs_of Pairs.single_pair Gears.last_below Gears.first_from Sums.sum_before Decision.decision
a_loss_in_a_flip = refl
