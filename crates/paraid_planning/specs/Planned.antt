-- The plan of a demand that was read, and its lines.
use Rattle.std.specs.Prelude.{◌≡◌, ℕ, ◌≤◌, List, ◌++◌, codes, decimal, min, Option}
use Rattle.paraid_trace.specs.StateTexts.{numbers_text}
use Rattle.paraid_record.specs.declared.meta.Setup.{Setup}
use Rattle.paraid_schedule.specs.Cost.{schedule_cost, spin_ups}
use Rattle.paraid_schedule.specs.Plan.{AreLowest, IsLeastCost}
use Rattle.paraid_schedule.specs.Schedule.{IsSchedule}
use Rattle.paraid_planning.specs.Demand.{ReadsDemand}
use Rattle.paraid_planning.specs.declared.unplanned.Unplanned.{Unplanned}
use Rattle.paraid_planning.specs.declared.unplanned.Unplanned.TheVariants.{Source, TooLong, NoMemory, Demand}

-- the lines of gears and what they cost
abbrev pub plan_lines : ℕ → List ℕ → List ℕ
plan_lines cost gears =
    codes "plan cost " ++ decimal cost ++ codes "\ngears" ++ numbers_text gears ++ codes "\n"

-- Of the demand that the source gave, these are the lines of a schedule with at most `ups` steps
-- up, and no more than the ration. No such schedule costs less, and of those that cost as little it
-- has the lowest gears.
pub record IsPlanned
    (before left : Option (List ℕ)) (setup : Setup) (ups : ℕ) (text : List ℕ) : Type 0 where
  pub demand : List ℕ
  pub gears : List ℕ
  pub read : ReadsDemand before left demand
  pub schedule : IsSchedule setup demand (min ups setup.ration) gears
  pub least : IsLeastCost setup demand (min ups setup.ration) (schedule_cost setup gears)
  pub lowest : AreLowest setup demand (min ups setup.ration) gears
  pub ration : (d : ℕ) → spin_ups gears d ≤ setup.ration
  pub lines : text ≡ plan_lines (schedule_cost setup gears) gears

-- why there is no plan, as the last line tells it
abbrev pub unplanned_line : Unplanned → List ℕ
unplanned_line Source = codes "source\n"
unplanned_line TooLong = codes "toolong\n"
unplanned_line NoMemory = codes "nomemory\n"
unplanned_line (Demand at) = codes "demand " ++ decimal at ++ codes "\n"
