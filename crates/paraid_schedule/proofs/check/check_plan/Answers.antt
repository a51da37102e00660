use Rattle.std.proofs.Common.{◌≡◌, ◌↔◌, ◌≤◌, ℕ, IsTrue, List, length, slice_index, eqb, ap, sym, subst, ◌∙◌}
use Rattle.std.proofs.lemmas.Bool.{eqb-true, eq-eqb, false≢true}
use Rattle.paraid_schedule.specs.Schedule.{IsSchedule}
use Rattle.paraid_record.specs.declared.meta.Setup.{Setup}
use Rattle.paraid_schedule.specs.Bounds.{bound, bound_count, AreRight}
use Rattle.paraid_schedule.specs.Cost.{schedule_cost}
use Rattle.paraid_schedule.specs.Plan.{Claim, IsCertified}
use Rattle.paraid_schedule.proofs.CertificateLemmas.{gear_at, start_bounds_cost}
use Rattle.paraid_schedule.proofs.RoomLemmas.{none_low}
use Rattle.paraid_schedule.proofs.RowLemmas.{bound_count-more}
use Rattle.paraid_schedule.proofs.TestLemmas.{refused}
use Rattle.paraid_schedule.proofs.check.check_plan.Goals as goal

pub is_schedule-requires : goal.is_schedule-requires
is_schedule-requires c = c.requires.demand

pub returns-then-not-is_schedule : goal.returns-then-not-is_schedule
returns-then-not-is_schedule c = record {
  exact =
      refused _ c.is_schedule.result c.is_schedule.ensures c.if-not-is_schedule.true
      (λ certified. subst (λ (gears : List ℕ). IsSchedule c.args.setup.now c.args.demand.now c.args.ups gears) (sym c.gears-gears.ensures) certified.schedule);
  least = λ is. absurd (false≢true is);
}

pub are_right-requires : goal.are_right-requires
are_right-requires c = record { ups = c.requires.few; demand = c.requires.demand }

pub returns-then-not-are_right : goal.returns-then-not-are_right
returns-then-not-are_right c = record {
  exact =
      refused _ c.are_right.result c.are_right.ensures c.if-not-are_right.true
      (λ certified. subst (λ (bounds : List ℕ). AreRight c.args.setup.now c.args.demand.now c.args.ups bounds) (sym c.bounds-bounds.ensures) certified.bounds);
  least = λ is. absurd (false≢true is);
}

pub cost_of-requires : goal.cost_of-requires
cost_of-requires c =
    let s = c.args.setup.now in
    let gears = c.gears-gears.result.now in
    let is : IsSchedule s c.args.demand.now c.args.ups gears = c.is_schedule.ensures.0 c.if-not-is_schedule.false in
    record {
      some = subst (λ (n : ℕ). 1 ≤ n) (sym is.periods) c.requires.demand.some;
      few = subst (λ (n : ℕ). n ≤ 1024) (sym is.periods) c.requires.demand.few;
      gears = λ t low. s.geometry.gears_high (slice_index gears t) (gear_at s c.args.demand.now c.args.ups gears is t low);
    }

pub start_of-requires : goal.start_of-requires
start_of-requires c =
    let right : AreRight c.args.setup.now c.args.demand.now c.args.ups c.bounds-bounds.result.now = c.are_right.ensures.0 c.if-not-are_right.false in
    record {
      ups = c.requires.few;
      room = subst (λ (n : ℕ). bound_count c.args.setup.now.geometry c.args.ups 0 ≤ n) (sym right.count) (bound_count-more c.args.setup.now.geometry c.args.ups 0 (length c.args.demand.now) (none_low _));
    }

-- what the two tests of the cost say of a claim
module _ (s : Setup) (demand : List ℕ) (ups : ℕ) (claim : Claim) (gears : List ℕ) (counted told : ℕ) (same_gears : gears ≡ claim.gears) (cost : counted ≡ schedule_cost s gears) (told_is : told ≡ claim.cost) where
  other_cost : (counted ≡ told → ⊥) → IsTrue (eqb counted told) ↔ IsCertified s demand ups claim
  other_cost not = (
    λ is. absurd (not (eqb-true counted told is)),
    λ certified. absurd (not (cost ∙ ap (schedule_cost s) same_gears ∙ sym certified.cost ∙ sym told_is)),
  )

  module _ (bounds : List ℕ) (start again : ℕ) (same_bounds : bounds ≡ claim.bounds) (at : start ≡ bound s.geometry ups bounds 0 s.geometry.disks ups) (again_is : again ≡ claim.cost) where
    begins : start ≡ bound s.geometry ups claim.bounds 0 s.geometry.disks ups
    begins = at ∙ ap (λ (b : List ℕ). bound s.geometry ups b 0 s.geometry.disks ups) same_bounds

    by_start : IsSchedule s demand ups gears → AreRight s demand ups bounds → counted ≡ told → IsTrue (eqb start again) ↔ IsCertified s demand ups claim
    by_start schedule right equal = (
      λ is. record {
        schedule = subst (λ (g : List ℕ). IsSchedule s demand ups g) same_gears schedule;
        cost = sym told_is ∙ sym equal ∙ cost ∙ ap (schedule_cost s) same_gears;
        bounds = subst (λ (b : List ℕ). AreRight s demand ups b) same_bounds right;
        start = sym again_is ∙ sym (eqb-true start again is) ∙ begins;
      },
      λ certified. eq-eqb start again (begins ∙ sym certified.start ∙ sym again_is),
    )

pub returns-else-cost_of-cost : goal.returns-else-cost_of-cost
returns-else-cost_of-cost c = record {
  exact =
      other_cost c.args.setup.now c.args.demand.now c.args.ups c.args.plan.now c.gears-gears.result.now c.cost_of.result c.cost.result
      c.gears-gears.ensures c.cost_of.ensures c.cost.ensures c.if-cost_of-cost.false;
  least = λ is. absurd (c.if-cost_of-cost.false (eqb-true _ _ is));
}

pub returns-then-cost_of-cost : goal.returns-then-cost_of-cost
returns-then-cost_of-cost c =
    let s = c.args.setup.now in
    let right : AreRight s c.args.demand.now c.args.ups c.bounds-bounds.result.now = c.are_right.ensures.0 c.if-not-are_right.false in
    let claimed = c.cost-then-cost_of-cost in
    record {
      exact =
          by_start s c.args.demand.now c.args.ups c.args.plan.now c.gears-gears.result.now c.cost_of.result c.cost.result
          c.gears-gears.ensures c.cost_of.ensures c.cost.ensures c.bounds-bounds.result.now c.start_of.result claimed.result
          c.bounds-bounds.ensures c.start_of.ensures claimed.ensures
          (c.is_schedule.ensures.0 c.if-not-is_schedule.false) right c.if-cost_of-cost.true;
      least = λ is gears schedule.
          subst (λ (n : ℕ). n ≤ schedule_cost s gears) (sym c.start_of.ensures ∙ eqb-true c.start_of.result claimed.result is ∙ claimed.ensures)
          (start_bounds_cost s c.args.demand.now c.args.ups gears schedule c.bounds-bounds.result.now c.requires.demand right);
    }
