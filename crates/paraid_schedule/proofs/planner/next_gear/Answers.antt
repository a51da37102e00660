use Rattle.std.proofs.Common.{◌≡◌, ℕ, ◌<◌, ◌≤◌, List, inl, inr, subst, sym, refl, ◌∙◌, arith}
use Rattle.std.proofs.lemmas.Bool.{false≢true}
use Rattle.paraid_record.specs.declared.meta.Setup.{Setup}
use Rattle.paraid_record.specs.Range.{AreNextGears}
use Rattle.paraid_schedule.specs.Schedule.{IsGearStep, rise}
use Rattle.paraid_schedule.specs.Bounds.{bound, no_bound}
use Rattle.paraid_schedule.specs.Solved.{IsMetBy, IsSolvedAt}
use Rattle.paraid_schedule.proofs.GearStepLemmas.{next_higher-is, next_higher-none, next_higher-one, next_lower-one}
use Rattle.paraid_schedule.proofs.planner.next_gear.Goals as goal

below_itself : (x n : ℕ) → x < n → x ≡ n → ⊥
below_itself x n low same = omega (arith, low, same)

fall_rises : (a b left : ℕ) → b < a → rise a b ≤ left
fall_rises a b left low = omega (arith, low)

stay_rises : (a left : ℕ) → rise a a ≤ left
stay_rises a left = omega arith

-- where neither a fall nor a stay meets the bound, a rise does
risen : (s : Setup) (demanded ups : ℕ) (bounds : List ℕ) (t a left : ℕ) → left ≤ ups → IsSolvedAt s demanded ups bounds t a → bound s.geometry ups bounds t a left < no_bound
    → ((b : ℕ) → AreNextGears s.geometry b a → IsMetBy s ups bounds t a left b → ⊥) → (IsMetBy s ups bounds t a left a → ⊥)
    → (b : ℕ) × AreNextGears s.geometry a b × (rise a b ≤ left) × IsMetBy s ups bounds t a left b
risen s demanded ups bounds t a left within solved some no_fall no_stay =
    elim (solved.met left within) [
      | inl none ↦ absurd (below_itself (bound s.geometry ups bounds t a left) no_bound some none)
      | inr w ↦ elim w.1 [
        | inl same ↦ absurd (no_stay (subst (λ (b : ℕ). IsMetBy s ups bounds t a left b) same w.3))
        | inr moved ↦ elim moved [
          | inl fall ↦ absurd (no_fall w.0 fall w.3)
          | inr up ↦ (w.0, up, w.2, w.3)
        ]
      ]
    ]

same_high : (x y : ℕ) → x ≡ y → x ≤ y
same_high x y same = omega (arith, same)

not_above : (x y z : ℕ) → x < y → y < z → x ≤ z
not_above x y z low high = omega (arith, low, high)

-- a fall that meets the bound leads to no higher gear than another step
fall_lowest : (s : Setup) (a fall b : ℕ) → AreNextGears s.geometry fall a → IsGearStep s.geometry a b → fall ≤ b
fall_lowest s a fall b is (inl same) = (let low = is.below in omega (arith, low, same))
fall_lowest s a fall b is (inr (inl down)) = same_high fall b (next_lower-one s.geometry a fall b is down)
fall_lowest s a fall b is (inr (inr up)) = not_above fall a b is.below up.below

-- where no fall meets the bound, no step that does leads below the gear
stay_lowest : (s : Setup) (ups : ℕ) (bounds : List ℕ) (t a left b : ℕ) → ((e : ℕ) → AreNextGears s.geometry e a → IsMetBy s ups bounds t a left e → ⊥)
    → IsGearStep s.geometry a b → IsMetBy s ups bounds t a left b → a ≤ b
stay_lowest s ups bounds t a left b no_fall (inl same) met = same_high a b (sym same)
stay_lowest s ups bounds t a left b no_fall (inr (inl down)) met = absurd (no_fall b down met)
stay_lowest s ups bounds t a left b no_fall (inr (inr up)) met = (let low = up.below in omega (arith, low))

-- where staying does not meet it either, none does but the rise
rise_lowest : (s : Setup) (ups : ℕ) (bounds : List ℕ) (t a left up b : ℕ) → ((e : ℕ) → AreNextGears s.geometry e a → IsMetBy s ups bounds t a left e → ⊥) → (IsMetBy s ups bounds t a left a → ⊥)
    → AreNextGears s.geometry a up → IsGearStep s.geometry a b → IsMetBy s ups bounds t a left b → up ≤ b
rise_lowest s ups bounds t a left up b no_fall no_stay is (inl same) met = absurd (no_stay (subst (λ (x : ℕ). IsMetBy s ups bounds t a left x) same met))
rise_lowest s ups bounds t a left up b no_fall no_stay is (inr (inl down)) met = absurd (no_fall b down met)
rise_lowest s ups bounds t a left up b no_fall no_stay is (inr (inr other)) met = same_high up b (next_higher-one s.geometry a up b is other)

pub returns-in-Some : goal.returns-in-Some
returns-in-Some c =
    let fall = c.in-Some.ensures in
    record { step = inr (inl fall.0); permitted = fall_rises c.args.a c.in-Some.b c.args.left fall.0.below; met = fall.1; lowest = λ b step room met. fall_lowest c.args.setup.now c.args.a c.in-Some.b b fall.0 step }

pub returns-then-stay_meets : goal.returns-then-stay_meets
returns-then-stay_meets c =
    record { step = inl refl; permitted = stay_rises c.args.a c.args.left; met = c.stay_meets.ensures.0 c.if-stay_meets.true; lowest = λ b step room met. stay_lowest c.args.setup.now c.args.ups c.args.bounds.now c.args.t c.args.a c.args.left b c.in_default.ensures step met }

pub returns-in-Some-higher : goal.returns-in-Some-higher
returns-in-Some-higher c =
    let s = c.args.setup.now in
    let a = c.args.a in
    let b = c.in-Some-higher.b in
    let w = risen s c.args.demanded c.args.ups c.args.bounds.now c.args.t a c.args.left c.requires.left c.requires.solved c.requires.some c.in_default.ensures
    (λ met. false≢true (sym c.if-stay_meets.false ∙ c.stay_meets.ensures.1 met)) in
    let next = next_higher-is s.geometry a b c.requires.row.gear c.in-Some-higher.ensures in
    let same = next_higher-one s.geometry a w.0 b w.1 next in
    record {
      step = inr (inr next);
      permitted = subst (λ (x : ℕ). rise a x ≤ c.args.left) same w.2;
      met = subst (λ (x : ℕ). IsMetBy s c.args.ups c.args.bounds.now c.args.t a c.args.left x) same w.3;
      lowest = λ e step room met. rise_lowest s c.args.ups c.args.bounds.now c.args.t a c.args.left b e c.in_default.ensures (λ m. false≢true (sym c.if-stay_meets.false ∙ c.stay_meets.ensures.1 m)) next step met;
    }

pub returns-in-None : goal.returns-in-None
returns-in-None c =
    let s = c.args.setup.now in
    let a = c.args.a in
    let w = risen s c.args.demanded c.args.ups c.args.bounds.now c.args.t a c.args.left c.requires.left c.requires.solved c.requires.some c.in_default.ensures
    (λ met. false≢true (sym c.if-stay_meets.false ∙ c.stay_meets.ensures.1 met)) in
    absurd (next_higher-none s.geometry a w.0 c.in-None.ensures w.1)
