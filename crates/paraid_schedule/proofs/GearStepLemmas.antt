-- Next gears, and what a geometry answers
use Rattle.std.proofs.Common.{◌≡◌, ℕ, ◌<◌, true, false, inl, inr, sym, ◌∙◌, arith, slice_index_or}
use Rattle.std.proofs.lemmas.Bool.{cases_lt}
use Rattle.paraid_base.specs.declared.geometry.Geometry.{Geometry}
use Rattle.paraid_base.specs.Regions.{IsGear}
use Rattle.paraid_record.specs.Range.{AreNextGears}
use Rattle.paraid_schedule.specs.Schedule.{IsGearStep}

both : (x : ℕ) (g : Geometry) → slice_index_or g.gears x false ≡ true → slice_index_or g.gears x false ≡ false → ⊥
both x g is not = let e : true ≡ false = sym is ∙ not in cc

-- there is one next higher gear
pub next_higher-one : (g : Geometry) (a b c : ℕ) → AreNextGears g a b → AreNextGears g a c → b ≡ c
next_higher-one g a b c x y =
    elim (cases_lt b c) [
      | inl low ↦ absurd (both b g x.higher_gear (y.between b x.below low))
      | inr high ↦ elim (cases_lt c b) [
        | inl low ↦ absurd (both c g y.higher_gear (x.between c y.below low))
        | inr same ↦ omega arith
      ]
    ]

pub next_lower-one : (g : Geometry) (a b c : ℕ) → AreNextGears g b a → AreNextGears g c a → b ≡ c
next_lower-one g a b c x y =
    elim (cases_lt b c) [
      | inl low ↦ absurd (both c g y.lower_gear (x.between c low y.below))
      | inr high ↦ elim (cases_lt c b) [
        | inl low ↦ absurd (both b g x.lower_gear (y.between b low x.below))
        | inr same ↦ omega arith
      ]
    ]

-- no gear stands above where `higher` answers None, and none below where `lower` does
pub next_higher-none : (g : Geometry) (a b : ℕ) → ((e : ℕ) → a < e → slice_index_or g.gears e false ≡ false) → AreNextGears g a b → ⊥
next_higher-none g a b none x = both b g x.higher_gear (none b x.below)

pub next_lower-none : (g : Geometry) (a b : ℕ) → ((e : ℕ) → e < a → slice_index_or g.gears e false ≡ false) → AreNextGears g b a → ⊥
next_lower-none g a b none x = both b g x.lower_gear (none b x.below)

-- a step leads from a gear to a gear
pub step_gear : (g : Geometry) (a b : ℕ) → IsGear g a → IsGearStep g a b → IsGear g b
step_gear g a b is (inl same) = rw same is
step_gear g a b is (inr (inl fall)) = fall.lower_gear
step_gear g a b is (inr (inr up_step)) = up_step.higher_gear

-- what `lower` and `higher` answer are the next gears
pub next_lower-is : (g : Geometry) (a b : ℕ) → IsGear g a → (b < a) × IsGear g b × ((e : ℕ) → b < e → e < a → slice_index_or g.gears e false ≡ false) → AreNextGears g b a
next_lower-is g a b is next = record { below = next.0; lower_gear = next.1; higher_gear = is; between = next.2 }

pub next_higher-is : (g : Geometry) (a b : ℕ) → IsGear g a → (a < b) × IsGear g b × ((e : ℕ) → a < e → e < b → slice_index_or g.gears e false ≡ false) → AreNextGears g a b
next_higher-is g a b is next = record { below = next.0; lower_gear = is; higher_gear = next.1; between = next.2 }
