use Rattle.std.proofs.Common.{◌≡◌, ℕ, ◌++◌, List, length, take, drop, arith}
use Rattle.std.proofs.Math.Seq.{take-append_seam}
use Rattle.paraid_schedule.proofs.NumberLemmas.{top_low, counts_fit, count_fits, bound_count-is}
use Rattle.paraid_schedule.proofs.RoomLemmas.{ups_fit}
use Rattle.paraid_schedule.proofs.planner.solve.Goals as goal

written_back : (count : ℕ) (new old : List ℕ) → count ≡ length new → take count (new ++ drop (length new) old) ≡ new
written_back count new old long = rw long (take-append_seam new (drop (length new) old))

pub gears_below-gears-requires : goal.gears_below-gears-requires
gears_below-gears-requires c = top_low _ c.args.setup.now.geometry.disks_high

pub overflow_mul-count : goal.overflow_mul-count
overflow_mul-count c = counts_fit _ _ _ c.args.setup.now.geometry.disks_high c.gears_below-gears.ensures.few c.requires.periods

pub overflow_add-count-2 : goal.overflow_add-count-2
overflow_add-count-2 c = ups_fit c.args.ups c.requires.ups

pub overflow_mul-count-2 : goal.overflow_mul-count-2
overflow_mul-count-2 c = count_fits _ _ _ c.args.setup.now.geometry.disks_high c.gears_below-gears.ensures.few c.requires.periods _ c.requires.ups

pub solve_periods-requires-clause-count : goal.solve_periods-requires-clause-count
solve_periods-requires-clause-count c =
    let count = c.in-Ok.ensures.len in
    let same = c.deref_mut.ensures.len in
    omega (arith, count, same, bound_count-is c.args.setup.now.geometry c.args.ups (length c.args.demand.now) c.gears_below-gears.result c.gears_below-gears.ensures.value)

pub solve_periods-requires-clause-ups : goal.solve_periods-requires-clause-ups
solve_periods-requires-clause-ups c = c.requires.ups

pub solve_periods-requires-clause-periods : goal.solve_periods-requires-clause-periods
solve_periods-requires-clause-periods c = c.requires.periods

pub returns-in_default : goal.returns-in_default
returns-in_default c = record { right = tt; solved = tt }

pub returns : goal.returns
returns c =
    let solved = c.solve_periods.ensures.solved in
    let back = written_back c.in-Ok.bounds.len c.solve_periods.new.bounds c.in-Ok.bounds.items (omega (arith, c.deref_mut.ensures.len, c.solve_periods.auto.bounds)) in
    record {
      right = rw back
          record {
            count = c.solve_periods.ensures.count;
            most = c.solve_periods.ensures.most;
            end = c.solve_periods.ensures.end;
            each = λ t a low is. (solved t (omega arith) low a is).right;
          };
      solved = rw back solved;
    }
