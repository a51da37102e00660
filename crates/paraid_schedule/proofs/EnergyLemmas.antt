-- What a ledger with the figures of a setup counts
use Rattle.std.proofs.Common.{◌≡◌, ℕ, ◌+◌, ◌-◌, ◌*◌, ◌^◌, ◌<◌, ◌≤◌, min, ap, arith}
use Rattle.std.proofs.lemmas.Nat.{mul-le}
use Rattle.paraid_energy.specs.Account.{Account, HasFigures, after_tick, after_spin_ups}
use Rattle.paraid_record.specs.declared.meta.Setup.{Setup}
use Rattle.paraid_schedule.specs.Cost.{period_cost, step_cost}

pub product_small : (n x : ℕ) → n ≤ 255 → x < 2 ^ 32 → n * x ≤ 2 ^ 40 - 2 ^ 32
product_small n x few small = omega (arith, mul-le n x 255 (2 ^ 32 - 1) few (omega arith))

pub product_few : (n x : ℕ) → n ≤ 8 → x < 2 ^ 32 → n * x ≤ 2 ^ 35
product_few n x few small = omega (arith, mul-le n x 8 (2 ^ 32) few (omega arith))

pub period_small : (s : Setup) (gear : ℕ) → gear ≤ s.geometry.disks → s.spinning_mj < 2 ^ 32 → s.parked_mj < 2 ^ 32 → period_cost s gear ≤ 2 ^ 36
period_small s gear low spinning parked =
    let disks = s.geometry.disks_high in
    omega (arith, product_few gear s.spinning_mj (omega arith) spinning, product_few (s.geometry.disks - gear) s.parked_mj (omega arith) parked)

pub ticked_total : (s : Setup) (old new : Account) (gear : ℕ) → HasFigures s old → new ≡ after_tick old gear (s.geometry.disks - gear) → old.total < 2 ^ 60 → period_cost s gear ≤ 2 ^ 36 → new.total ≡ old.total + period_cost s gear
ticked_total s old new gear figures is room small =
    let total : new.total ≡ min (old.total + (old.spinning_mj * gear + old.parked_mj * (s.geometry.disks - gear))) (2 ^ 64 - 1) = ap (λ a. a.total) is in
    let priced : new.total ≡ min (old.total + (s.spinning_mj * gear + s.parked_mj * (s.geometry.disks - gear))) (2 ^ 64 - 1) = rw (figures.spinning, figures.parked) at total in
    omega arith

pub spun_up_total : (s : Setup) (old new : Account) (from to disks : ℕ) → HasFigures s old → new ≡ after_spin_ups old disks → disks ≡ to - from → old.total < 2 ^ 60 → disks ≤ 255 → s.spinup_mj < 2 ^ 32 → (new.total ≡ old.total + step_cost s from to) × (step_cost s from to ≤ 2 ^ 40)
spun_up_total s old new from to disks figures is same room few small =
    let total : new.total ≡ min (old.total + old.spinup_mj * disks) (2 ^ 64 - 1) = ap (λ a. a.total) is in
    let priced : new.total ≡ min (old.total + s.spinup_mj * disks) (2 ^ 64 - 1) = rw figures.spinup at total in
    let product = product_small disks s.spinup_mj few small in
    let total_here : new.total ≡ old.total + disks * s.spinup_mj = omega arith in
    let small_here : disks * s.spinup_mj ≤ 2 ^ 40 = omega arith in
    rw (← same) (total_here, small_here)

-- what has been counted before period `t` leaves room
pub counted_room : (total t n : ℕ) → total ≤ t * 2 ^ 41 → t ≤ n → n ≤ 1024 → total < 2 ^ 60
counted_room total t n small low few = omega (arith, small, low, few)

pub counted_room-after : (total then t n : ℕ) → then ≤ total + 2 ^ 40 → total ≤ t * 2 ^ 41 → t ≤ n → n ≤ 1024 → then < 2 ^ 60
counted_room-after total then t n more small low few = omega (arith, more, small, low, few)

pub counted_small : (total then last t : ℕ) → total ≤ t * 2 ^ 41 → then ≤ total + 2 ^ 40 → last ≤ then + 2 ^ 40 → last ≤ (t + 1) * 2 ^ 41
counted_small total then last t small more again = omega (arith, small, more, again)

pub counted_more : (total then last before after period step : ℕ) → total ≡ before → then ≡ total + period → last ≡ then + step → after ≡ before + (period + step) → last ≡ after
counted_more total then last before after period step is first second whole = omega (arith, is, first, second, whole)
