-- What an allowance is at least and at most
use Rattle.std.specs.Prelude.{◌≡◌, ℕ, ◌/◌, ◌≤◌}
use Rattle.std.proofs.Common.{arith}
use Rattle.std.proofs.Math.Nat.{div-mul-le_self}
use Rattle.std.proofs.lemmas.Nat.{le-div}
use Rattle.paraid_ration.specs.Ration.{allowance}

-- never more than the ration
pub allowance-le : (ration burst period ticks : ℕ) → allowance ration burst period ticks ≤ ration
unfolding allowance
allowance-le ration burst period ticks = omega (arith)

-- it grows with the ticks
pub allowance-grows : (ration burst period before after : ℕ) → 1 ≤ period → before ≤ after
    → allowance ration burst period before ≤ allowance ration burst period after
unfolding allowance
allowance-grows ration burst period before after p l =
    let least = div-mul-le_self before period in
    let more = le-div (before / period) after period p (omega arith) in
    omega arith

-- a burst of the whole ration allows it from the start
pub allowance-whole : (ration period ticks : ℕ) → allowance ration ration period ticks ≡ ration
unfolding allowance
allowance-whole ration period ticks = omega (arith)

-- each disk may spin up once
pub allowance-positive : (ration burst period ticks : ℕ) → 1 ≤ burst → burst ≤ ration → 1 ≤ allowance ration burst period ticks
unfolding allowance
allowance-positive ration burst period ticks l r = omega (arith)
