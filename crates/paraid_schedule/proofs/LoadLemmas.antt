-- That a load fits
use Rattle.std.proofs.Common.{◌≡◌, ◌↔◌, ℕ, ◌+◌, ◌-◌, ◌*◌, ◌^◌, ◌<◌, ◌≤◌, Fits, w64, IsTrue, ltb, inl, inr, arith}
use Rattle.std.proofs.lemmas.Bool.{ltb-true, lt-ltb}
use Rattle.std.proofs.lemmas.Nat.{mul-le}
use Rattle.paraid_record.specs.declared.meta.Setup.{Setup}
use Rattle.paraid_schedule.specs.Schedule.{GearServes}
use Rattle.paraid_schedule.specs.Cost.{period_cost}

product_small : (a b : ℕ) → a < 256 → b < 4294967296 → a * b ≤ 1095216660225
product_small a b few small = mul-le a b 255 4294967295 (omega arith) (omega arith)

pub product_fits : (a b : ℕ) → a < 256 → b < 4294967296 → Fits w64 (a * b)
product_fits a b few small = let low = product_small a b few small in omega (arith, low)

pub load_fits : (a b e : ℕ) → a < 256 → b < 4294967296 → e < 256 → Fits w64 (a * b * e)
load_fits a b e few small gear =
    let low = mul-le (a * b) e 1095216660225 255 (product_small a b few small) (omega arith) in
    omega (arith, low)

pub demand_fits : (n : ℕ) → n < 4294967296 → Fits w64 (100 * n)
demand_fits n small = omega (arith, small)

-- what the test of a gear that is not the last one shows
pub served_test : (s : Setup) (demanded a : ℕ) → (a ≡ s.geometry.disks → ⊥) → IsTrue (ltb (100 * demanded) (s.up * s.service * a)) ↔ GearServes s demanded a
served_test s demanded a other = (
  λ is. inr (ltb-true (100 * demanded) (s.up * s.service * a) is),
  λ serves. elim serves [
    | inl last ↦ absurd (other last)
    | inr low ↦ lt-ltb (100 * demanded) (s.up * s.service * a) low
  ],
)

-- what a period and a step cost fits
module _ (a b x y : ℕ) (few : a < 256) (less : b < 256) (one : x < 4294967296) (two : y < 4294967296) where
  pub sum_fits : Fits w64 (a * x + b * y)
  sum_fits =
      let first = product_small a x few one in
      let second = product_small b y less two in
      omega (arith, first, second)

pub product_low : (a b : ℕ) → a < 256 → b < 4294967296 → a * b < 2 ^ 40
product_low a b few small = let low = product_small a b few small in omega (arith, low)

pub period_cost_low : (s : Setup) (a : ℕ) → a ≤ s.geometry.disks → s.spinning_mj < 4294967296 → s.parked_mj < 4294967296 → period_cost s a < 2 ^ 40
period_cost_low s a low one two =
    let high = s.geometry.disks_high in
    let first = mul-le a s.spinning_mj 8 4294967295 (omega (arith, low, high)) (omega (arith, one)) in
    let second = mul-le (s.geometry.disks - a) s.parked_mj 8 4294967295 (omega (arith, high)) (omega (arith, two)) in
    omega (arith, first, second)
