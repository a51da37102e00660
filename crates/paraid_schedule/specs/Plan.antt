-- What a plan claims, and when its claim is certified
use Rattle.std.specs.Prelude.{◌≡◌, ℕ, ◌+◌, ◌-◌, ◌^◌, ◌<◌, ◌≤◌, List, length, slice_index, min}
use Rattle.paraid_record.specs.declared.meta.Setup.{Setup}
use Rattle.paraid_schedule.specs.declared.plan.PlanFault.{PlanFault}
use Rattle.paraid_schedule.specs.declared.plan.PlanFault.TheVariants.{NoMemory, Length, Demand}
use Rattle.paraid_schedule.specs.Schedule.{IsDemand, IsSchedule, demand_most}
use Rattle.paraid_schedule.specs.Cost.{schedule_cost}
use Rattle.paraid_schedule.specs.Bounds.{bound, AreRight}

-- a schedule, what it costs, and the bounds that show that none costs less
pub record Claim : Type 0 where
  pub gears : List ℕ
  pub cost : ℕ
  pub bounds : List ℕ

-- the four points that a check asks of a claim
pub record IsCertified (s : Setup) (demand : List ℕ) (ups : ℕ) (claim : Claim) : Type 0 where
  pub schedule : IsSchedule s demand ups claim.gears
  pub cost : claim.cost ≡ schedule_cost s claim.gears
  pub bounds : AreRight s demand ups claim.bounds
  pub start : claim.cost ≡ bound s.geometry ups claim.bounds 0 s.geometry.disks ups

-- no schedule costs less
abbrev pub IsLeastCost : Setup → List ℕ → ℕ → ℕ → Type 0
IsLeastCost s demand ups cost = (gears : List ℕ)
    → IsSchedule s demand ups gears → cost ≤ schedule_cost s gears

-- Of the schedules that cost as little, these are the lowest gears: no other goes on to a lower
-- gear after the same ones up to a period.
abbrev pub AreLowest : Setup → List ℕ → ℕ → List ℕ → Type 0
AreLowest s demand ups gears =
    (others : List ℕ) (t : ℕ) → IsSchedule s demand ups others
    → schedule_cost s others ≡ schedule_cost s gears → t + 1 < length gears
    → ((k : ℕ) → k ≤ t → slice_index others k ≡ slice_index gears k)
    → slice_index gears (t + 1) ≤ slice_index others (t + 1)

-- Why there is no plan: the demand has not 1 to 1,024 periods, or the first one above 1,048,576 is
-- named, or no memory was found. A length that a u32 cannot carry is given as the greatest u32.
abbrev pub IsPlanFault : List ℕ → PlanFault → Type 0
IsPlanFault demand NoMemory = IsDemand demand
IsPlanFault demand (Length long) =
    (long ≡ min (length demand) (2 ^ 32 - 1)) × (1 ≤ length demand → length demand ≤ 1024 → ⊥)
IsPlanFault demand (Demand at) =
    (length demand ≤ 1024) × (at < length demand)
    × (demand_most < slice_index demand at)
    × ((t : ℕ) → t < at → slice_index demand t ≤ demand_most)
