-- A walk by steps that meet the bounds is a schedule of the start's cost
use Rattle.std.proofs.Common.{◌≡◌, ℕ, zero, suc, ◌+◌, ◌-◌, ◌*◌, ◌^◌, ◌<◌, ◌≤◌, List, [], ◌∷◌, ◌++◌, length, slice_index, inl, inr, refl, sym, ◌∙◌, subst, arith}
use Rattle.std.proofs.Math.ListN.{get_or-append}
use Rattle.std.proofs.lemmas.List.{get_or_push, length-append}
use Rattle.std.proofs.lemmas.Bool.{cases_lt, cases_eq}
use Rattle.std.proofs.lemmas.Nat.{mul-le}
use Rattle.paraid_base.specs.Regions.{IsGear}
use Rattle.paraid_base.specs.Sums.{sum_before}
use Rattle.paraid_record.specs.declared.meta.Setup.{Setup}
use Rattle.paraid_schedule.specs.Schedule.{IsDemand, IsSchedule, IsGearStep, GearServes, rise, rises_before}
use Rattle.paraid_schedule.specs.Cost.{period_cost, step_cost, cost_before, schedule_cost}
use Rattle.paraid_schedule.specs.Bounds.{no_bound, bound, onward, AreRight, IsRightAt}
use Rattle.paraid_schedule.specs.Solved.{AreSolvedFrom, IsWalk}
use Rattle.paraid_schedule.specs.Plan.{AreLowest}
use Rattle.paraid_schedule.proofs.CertificateLemmas.{rises_before-none, rises_before-more, cost_before-none, cost_before-more, gear_at, rest_costs}
use Rattle.paraid_schedule.proofs.OnwardLemmas.{onward-fall, step_free}
use Rattle.paraid_schedule.proofs.EnergyLemmas.{product_few}

pub sum_before-same : (f g : ℕ → ℕ) (n : ℕ) → ((k : ℕ) → k < n → f k ≡ g k) → sum_before f n ≡ sum_before g n
unfolding sum_before
sum_before-same f g zero same = refl
sum_before-same f g (suc n) same = omega (arith, same n (omega arith), sum_before-same f g n (λ k low. same k (omega arith)))

module _ (gears : List ℕ) (b : ℕ) where
  -- the members before the new one, and the new one
  at_old : (k : ℕ) → k < length gears → slice_index (gears ++ b ∷ []) k ≡ slice_index gears k
  at_old k low = get_or-append gears (b ∷ []) 0 k low

  at_new : (k : ℕ) → k ≡ length gears → slice_index (gears ++ b ∷ []) k ≡ b
  at_new k is = get_or_push gears b 0 k (sym is)

  rises_before-push : (t : ℕ) → t + 1 ≤ length gears → rises_before (gears ++ b ∷ []) t ≡ rises_before gears t
  rises_before-push t low =
      sum_before-same (λ k. rise (slice_index (gears ++ b ∷ []) k) (slice_index (gears ++ b ∷ []) (k + 1))) (λ k. rise (slice_index gears k) (slice_index gears (k + 1))) t
      (λ k few. rw (at_old k (omega arith), at_old (k + 1) (omega arith)) refl)

  cost_before-push : (s : Setup) (t : ℕ) → t + 1 ≤ length gears → cost_before s (gears ++ b ∷ []) t ≡ cost_before s gears t
  cost_before-push s t low =
      sum_before-same (λ k. period_cost s (slice_index (gears ++ b ∷ []) k) + step_cost s (slice_index (gears ++ b ∷ []) k) (slice_index (gears ++ b ∷ []) (k + 1))) (λ k. period_cost s (slice_index gears k) + step_cost s (slice_index gears k) (slice_index gears (k + 1))) t
      (λ k few. rw (at_old k (omega arith), at_old (k + 1) (omega arith)) refl)

-- the last gear alone, with all rises left
pub IsWalk-start : (s : Setup) (demand : List ℕ) (ups : ℕ) (bounds : List ℕ) → IsWalk s demand ups bounds (s.geometry.disks ∷ []) s.geometry.disks ups
IsWalk-start s demand ups bounds = record {
  some = omega arith;
  first = refl;
  last = refl;
  served = λ t low. (let is : 0 ≡ t = omega arith in rw (← is) (inl refl));
  steps = λ t low. absurd (omega arith);
  risen = rw (rises_before-none (s.geometry.disks ∷ [])) (omega arith);
  paid = rw (cost_before-none s (s.geometry.disks ∷ [])) (omega arith);
  lowest = λ others t is same low. absurd (omega arith);
}

-- another schedule, with the same gears up to a period
module _ (gears others : List ℕ) (t : ℕ) (agree : (k : ℕ) → k ≤ t → slice_index others k ≡ slice_index gears k) where
  same_rises : rises_before others t ≡ rises_before gears t
  same_rises =
      sum_before-same (λ k. rise (slice_index others k) (slice_index others (k + 1))) (λ k. rise (slice_index gears k) (slice_index gears (k + 1))) t
      (λ k few. rw (agree k (omega arith), agree (k + 1) (omega arith)) refl)

  same_cost : (s : Setup) → cost_before s others t ≡ cost_before s gears t
  same_cost s =
      sum_before-same (λ k. period_cost s (slice_index others k) + step_cost s (slice_index others k) (slice_index others (k + 1))) (λ k. period_cost s (slice_index gears k) + step_cost s (slice_index gears k) (slice_index gears (k + 1))) t
      (λ k few. rw (agree k (omega arith), agree (k + 1) (omega arith)) refl)

-- the step of another schedule of the start's cost meets the bound, where its gears were the same so far
other_meets : (s : Setup) (demand : List ℕ) (ups : ℕ) (bounds gears others : List ℕ) (gear left t : ℕ) → AreRight s demand ups bounds → IsWalk s demand ups bounds gears gear left
    → t + 1 ≡ length gears → length gears < length demand → IsSchedule s demand ups others → schedule_cost s others ≡ bound s.geometry ups bounds 0 s.geometry.disks ups
    → ((k : ℕ) → k ≤ t → slice_index others k ≡ slice_index gears k)
    → IsGearStep s.geometry gear (slice_index others (t + 1)) × (rise gear (slice_index others (t + 1)) ≤ left)
    × (bound s.geometry ups bounds t gear left ≡ onward s ups bounds t gear left (slice_index others (t + 1)))
other_meets s demand ups bounds gears others gear left t right walk next low is costs agree =
    let b = slice_index others (t + 1) in
    let periods = is.periods in
    let end : length gears - 1 ≡ t = omega arith in
    let here : slice_index others t ≡ gear = agree t (omega arith) ∙ (rw end at walk.last) in
    let risen = rw end at walk.risen in
    let paid = rw end at walk.paid in
    let rises_same = same_rises gears others t agree in
    let cost_same = same_cost gears others t agree s in
    let step : IsGearStep s.geometry gear b = rw here at (is.steps t (omega arith)) in
    let rises_now : rises_before others (t + 1) ≡ rises_before gears t + rise gear b = rises_before-more others t ∙ rw (here, rises_same) refl in
    let cost_now : cost_before s others (t + 1) ≡ cost_before s gears t + (period_cost s gear + step_cost s gear b) = cost_before-more s others t ∙ rw (here, cost_same) refl in
    let rest = rest_costs s demand ups others is bounds right (length others - (t + 2)) (t + 1) (omega arith) in
    let few = rest.0 in
    let after = rest.1 in
    let room : rise gear b ≤ left = omega (arith, few, rises_now, risen) in
    let left_now : ups - rises_before others (t + 1) ≡ left - rise gear b = omega (arith, rises_now, risen, few) in
    let most = rw left_now at after in
    let served = rw here at (is.served t (omega arith)) in
    let gear_is = rw here at (gear_at s demand ups others is t (omega arith)) in
    let least = (right.each t gear (omega arith) gear_is).steps served left b (omega (arith, risen)) step room in
    (step, room, omega (arith, most, least, cost_now, paid, costs))

pub IsWalk-push : (s : Setup) (demand : List ℕ) (ups : ℕ) (bounds gears : List ℕ) (gear left b t left_now : ℕ) → IsWalk s demand ups bounds gears gear left
    → t + 1 ≡ length gears → IsGearStep s.geometry gear b → rise gear b ≤ left → left_now ≡ left - rise gear b
    → bound s.geometry ups bounds t gear left ≡ onward s ups bounds t gear left b
    → GearServes s (slice_index demand (length gears)) b
    → AreRight s demand ups bounds → length gears < length demand
    → ((e : ℕ) → IsGearStep s.geometry gear e → rise gear e ≤ left → bound s.geometry ups bounds t gear left ≡ onward s ups bounds t gear left e → b ≤ e)
    → IsWalk s demand ups bounds (gears ++ b ∷ []) b left_now
IsWalk-push s demand ups bounds gears gear left b t left_now walk next step room left_is met serves right few least =
    let some = walk.some in
    let old = at_old gears b in
    let long : length (gears ++ b ∷ []) ≡ length gears + 1 = length-append gears (b ∷ []) in
    let last : length (gears ++ b ∷ []) - 1 ≡ length gears = omega arith in
    let end : length gears - 1 ≡ t = omega arith in
    let more_rises = rises_before-more (gears ++ b ∷ []) t in
    let more_cost = cost_before-more s (gears ++ b ∷ []) t in
    let same_rises = rises_before-push gears b t (omega arith) in
    let same_cost = cost_before-push gears b s t (omega arith) in
    let here : slice_index (gears ++ b ∷ []) t ≡ gear = old t (omega arith) ∙ (rw end at walk.last) in
    let there : slice_index (gears ++ b ∷ []) (t + 1) ≡ b = at_new gears b (t + 1) next in
    let risen_here = rw end at walk.risen in
    let paid_here = rw end at walk.paid in
    let rises_now : rises_before (gears ++ b ∷ []) (t + 1) ≡ rises_before gears t + rise gear b = more_rises ∙ rw (here, there, same_rises) refl in
    let cost_now : cost_before s (gears ++ b ∷ []) (t + 1) ≡ cost_before s gears t + (period_cost s gear + step_cost s gear b) = more_cost ∙ rw (here, there, same_cost) refl in
    record {
      some = omega arith;
      first = old 0 (omega arith) ∙ walk.first;
      last = at_new gears b (length (gears ++ b ∷ []) - 1) last;
      served = λ u low.
          elim (cases_lt u (length gears)) [
            | inl before ↦ rw (old u before) (walk.served u before)
            | inr after ↦ (let is : u ≡ length gears = omega arith in rw (at_new gears b u is, is) serves)
          ];
      steps = λ u low.
          elim (cases_lt (u + 1) (length gears)) [
            | inl before ↦ rw (old u (omega arith), old (u + 1) before) (walk.steps u before)
            | inr after ↦ (let is : u ≡ t = omega arith in rw (is, here, there) step)
          ];
      risen = rw (last, ← next, left_is) (omega arith);
      paid = rw (last, ← next, left_is) (omega arith);
      lowest = λ others u is costs low agree.
          let so_far : (k : ℕ) → k ≤ u → slice_index others k ≡ slice_index gears k = λ k high. agree k high ∙ old k (omega arith) in
          elim (cases_lt (u + 1) (length gears)) [
            | inl before ↦ rw (old (u + 1) before) (walk.lowest others u is costs before so_far)
            | inr after ↦
                let same : u ≡ t = omega arith in
                let at = other_meets s demand ups bounds gears others gear left u right walk (omega arith) few is costs so_far in
                rw (at_new gears b (u + 1) (omega arith)) (least (slice_index others (u + 1)) at.0 at.1 (subst (λ (x : ℕ). bound s.geometry ups bounds x gear left ≡ onward s ups bounds x gear left (slice_index others (u + 1))) same at.2))
          ];
    }

-- where a bound is not none, the gear serves the demand
pub serves-bound : (s : Setup) (demanded ups : ℕ) (bounds : List ℕ) (t a left : ℕ) → IsRightAt s demanded ups bounds t a → left ≤ ups → bound s.geometry ups bounds t a left < no_bound → GearServes s demanded a
serves-bound s demanded ups bounds t a left right few low =
    elim (cases_eq a s.geometry.disks) [
      | inl is ↦ inl is
      | inr other ↦ elim (cases_lt (100 * demanded) (s.up * s.service * a)) [
        | inl less ↦ inr less
        | inr more ↦
            let is_none = right.unserved (λ serves. elim serves [ inl is ↦ other is | inr less ↦ absurd (omega arith) ]) left few in
            absurd (omega arith)
      ]
    ]

-- the bound of the start is not none, since the last gear serves each demand
module _ (s : Setup) (demand : List ℕ) (ups : ℕ) (bounds : List ℕ) (right : AreRight s demand ups bounds) where
  top_bound : (k t : ℕ) → t + k ≡ length demand → bound s.geometry ups bounds t s.geometry.disks ups ≤ k * period_cost s s.geometry.disks
  top_bound zero t is =
      let end = right.end s.geometry.disks ups s.geometry.last (omega arith) in
      let here : t ≡ length demand = omega arith in
      rw here (omega arith)
  top_bound (suc k) t is =
      let n = s.geometry.disks in
      let before = top_bound k (t + 1) (omega arith) in
      let step = (right.each t n (omega arith) s.geometry.last).steps (inl refl) ups n (omega arith) (inl refl) (omega arith) in
      let on = onward-fall s ups bounds t n ups n (omega arith) in
      omega arith

  pub start_bound : IsDemand demand → s.spinning_mj < 2 ^ 32 → bound s.geometry ups bounds 0 s.geometry.disks ups < no_bound
  start_bound demanded small =
      let top = top_bound (length demand) 0 (omega arith) in
      let disks = s.geometry.disks_high in
      let few = demanded.few in
      let spin = product_few s.geometry.disks s.spinning_mj (omega arith) small in
      let all = mul-le (length demand) (period_cost s s.geometry.disks) 1024 (2 ^ 35) (omega arith) (let free : (s.geometry.disks - s.geometry.disks) * s.parked_mj ≡ 0 = step_free (s.geometry.disks - s.geometry.disks) s.parked_mj (omega arith) in omega arith) in
      omega arith

  -- a walk over all periods is a schedule, and costs what the bound of the start says
  pub walk-schedule : (gears : List ℕ) (gear left : ℕ) → IsWalk s demand ups bounds gears gear left → length gears ≡ length demand → IsSchedule s demand ups gears
  walk-schedule gears gear left walk periods = record {
    periods = periods;
    first = walk.first;
    served = walk.served;
    steps = walk.steps;
    within = (let risen = walk.risen in omega arith);
  }

  pub walk-lowest : (gears : List ℕ) (gear left : ℕ) → IsWalk s demand ups bounds gears gear left → schedule_cost s gears ≡ bound s.geometry ups bounds 0 s.geometry.disks ups → AreLowest s demand ups gears
  walk-lowest gears gear left walk costs = λ others t is same. walk.lowest others t is (same ∙ costs)

  pub walk-some : (gears : List ℕ) (gear left t : ℕ) → IsDemand demand → s.spinning_mj < 2 ^ 32 → IsWalk s demand ups bounds gears gear left → t + 1 ≡ length gears → bound s.geometry ups bounds t gear left < no_bound
  walk-some gears gear left t demanded small walk next =
      let end : length gears - 1 ≡ t = omega arith in
      let paid = rw end at walk.paid in
      let start = start_bound demanded small in
      omega arith

  pub walk-more : (gears : List ℕ) (gear left t b left_now : ℕ) → IsDemand demand → s.spinning_mj < 2 ^ 32 → IsWalk s demand ups bounds gears gear left → t + 1 ≡ length gears → length gears < length demand
      → IsGear s.geometry b → IsGearStep s.geometry gear b → rise gear b ≤ left → left_now ≡ left - rise gear b → left ≤ ups
      → bound s.geometry ups bounds t gear left ≡ onward s ups bounds t gear left b
      → ((e : ℕ) → IsGearStep s.geometry gear e → rise gear e ≤ left → bound s.geometry ups bounds t gear left ≡ onward s ups bounds t gear left e → b ≤ e)
      → IsWalk s demand ups bounds (gears ++ b ∷ []) b left_now
  walk-more gears gear left t b left_now demanded small walk next low is step room left_is few met least =
      let some = walk-some gears gear left t demanded small walk next in
      let less : bound s.geometry ups bounds (t + 1) b left_now < no_bound = rw left_is (omega arith) in
      let serves : GearServes s (slice_index demand (length gears)) b =
      rw (← next) (serves-bound s (slice_index demand (t + 1)) ups bounds (t + 1) b left_now (right.each (t + 1) b (omega arith) is) (omega arith) less) in
      IsWalk-push s demand ups bounds gears gear left b t left_now walk next step room left_is met serves right low least

  pub walk-cost : IsDemand demand → s.spinning_mj < 2 ^ 32 → AreSolvedFrom 0 s demand ups bounds → (gears : List ℕ) (gear left : ℕ) → IsGear s.geometry gear → IsWalk s demand ups bounds gears gear left → length gears ≡ length demand → schedule_cost s gears ≡ bound s.geometry ups bounds 0 s.geometry.disks ups
  walk-cost demanded small solved gears gear left is walk periods =
      let some = walk.some in
      let risen = walk.risen in
      let t = length gears - 1 in
      let next : t + 1 ≡ length gears = omega arith in
      let below = walk-some gears gear left t demanded small walk next in
      let at = solved t (omega arith) (omega arith) gear is in
      let served : GearServes s (slice_index demand t) gear = rw walk.last at (walk.served t (omega arith)) in
      let stay = at.right.steps served left gear (omega arith) (inl refl) (omega arith) in
      let on = onward-fall s ups bounds t gear left gear (omega arith) in
      let whole : t + 1 ≡ length demand = omega arith in
      let end = rw (← whole) at (right.end gear left is (omega arith)) in
      let most : bound s.geometry ups bounds t gear left ≤ period_cost s gear = omega arith in
      let least : period_cost s gear ≤ bound s.geometry ups bounds t gear left =
      elim (at.met left (omega arith)) [
        | inl is_none ↦ absurd (omega arith)
        | inr found ↦ (let value = found.3 in omega arith)
      ] in
      let paid = walk.paid in
      rw walk.last (omega arith)
