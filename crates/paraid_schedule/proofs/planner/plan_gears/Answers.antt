use Rattle.std.proofs.Common.{◌≡◌, ℕ, ◌+◌, ◌<◌, length, slice_index, arith, sym, ◌∙◌, ap}
use Rattle.std.proofs.Math.Nat.{le_trans}
use Rattle.std.proofs.lemmas.Grind.{get_or_default_zero}
use Rattle.paraid_schedule.specs.Plan.{IsCertified, IsPlanFault}
use Rattle.paraid_schedule.specs.Bounds.{bound}
use Rattle.paraid_schedule.proofs.RowLemmas.{row_start-end}
use Rattle.paraid_schedule.proofs.CertificateLemmas.{start_bounds_cost, spin_ups_few}
use Rattle.paraid_schedule.proofs.ExitLemmas.{none_done_if, handed}
use Rattle.paraid_schedule.proofs.RoomLemmas.{gear_low, place_fits}
use Rattle.paraid_schedule.proofs.planner.plan_gears.Goals as goal

pub returns-in_err-test_demand : goal.returns-in_err-test_demand
returns-in_err-test_demand c =
    let handed_on = c.from_residual.ensures.1 in
    record {
      certified = none_done_if _ c.from_residual.result _ handed_on;
      least = none_done_if _ c.from_residual.result _ handed_on;
      lowest = none_done_if _ c.from_residual.result _ handed_on;
      spins = none_done_if _ c.from_residual.result _ handed_on;
      ration = none_done_if _ c.from_residual.result _ handed_on;
      demand = none_done_if _ c.from_residual.result _ handed_on;
      err = handed (IsPlanFault c.args.demand.now) c.from_residual.result _ handed_on c.in_err-test_demand.ensures.err;
    }

pub solve-requires : goal.solve-requires
solve-requires c = record { ups = c.requires.few; periods = c.in_ok-test_demand.ensures.ok.few }

pub returns-in_default : goal.returns-in_default
returns-in_default c = record { certified = tt; least = tt; lowest = tt; spins = tt; ration = tt; demand = tt; err = c.in_ok-test_demand.ensures.ok }

pub follow-requires : goal.follow-requires
follow-requires c = record {
  demand = c.in_ok-test_demand.ensures.ok;
  ups = c.requires.few;
  right = rw c.deref.ensures.value c.in-Ok.ensures.right;
  solved = rw c.deref.ensures.value c.in-Ok.ensures.solved;
}

pub returns-in_default-follow : goal.returns-in_default-follow
returns-in_default-follow c = record { certified = tt; least = tt; lowest = tt; spins = tt; ration = tt; demand = tt; err = c.in_ok-test_demand.ensures.ok }

pub place-requires : goal.place-requires
place-requires c = record { ups = c.requires.few; period = omega arith; gear = gear_low c.args.setup.now.geometry c.args.setup.now.geometry.disks c.args.setup.now.geometry.last }

pub overflow_add-place : goal.overflow_add-place
overflow_add-place c = place_fits c.place.result c.args.ups c.args.ups c.place.ensures.small (omega arith) c.requires.few

pub index-cost-requires : goal.index-cost-requires
index-cost-requires c =
    let g = c.args.setup.now.geometry in
    omega (arith, c.place.ensures.value, c.deref.ensures.len, ap length c.deref.ensures.value, c.in-Ok.ensures.right.count, row_start-end g c.args.ups 0 (length c.args.demand.now) g.disks g.last (omega arith))

-- what stands at the start of the bounds
start_is : goal.After-from_parts → Type 0
start_is c = c.index-cost.result.now ≡ bound c.args.setup.now.geometry c.args.ups c.in-Ok.bounds.items 0 c.args.setup.now.geometry.disks c.args.ups

start : (c : goal.After-from_parts) → start_is c
unfolding start_is
start c =
    let g = c.args.setup.now.geometry in
    let within : c.place.result + c.args.ups < length c.in-Ok.bounds.items = omega (arith, c.place.ensures.value, c.in-Ok.ensures.right.count, row_start-end g c.args.ups 0 (length c.args.demand.now) g.disks g.last (omega arith)) in
    c.index-cost.ensures ∙ get_or_default_zero c.in-Ok.bounds.items (c.place.result + c.args.ups) c.index-cost.result.now within
    ∙ ap (λ k. slice_index c.in-Ok.bounds.items (k + c.args.ups)) c.place.ensures.value

certified : (c : goal.After-from_parts) → IsCertified c.args.setup.now c.args.demand.now c.args.ups c.from_parts.result
unfolding start_is
certified c =
    let value = start c in
    rw c.from_parts.ensures
    record {
      schedule = c.in-Ok-follow.ensures.schedule;
      cost = value ∙ sym (rw c.deref.ensures.value at c.in-Ok-follow.ensures.cost);
      bounds = c.in-Ok.ensures.right;
      start = value;
    }

pub returns : goal.returns
returns c =
    let s = c.args.setup.now in
    let sure = certified c in
    let demanded = c.in_ok-test_demand.ensures.ok in
    let few = λ (d : ℕ). spin_ups_few s c.args.demand.now c.args.ups c.from_parts.result.gears sure.schedule d in
    record {
      certified = sure;
      least = λ gears is. rw sure.start (start_bounds_cost s c.args.demand.now c.args.ups gears is c.from_parts.result.bounds demanded sure.bounds);
      lowest = rw c.from_parts.ensures c.in-Ok-follow.ensures.lowest;
      spins = few;
      ration = λ d. le_trans (few d) c.requires.ration;
      demand = demanded;
      err = tt;
    }
