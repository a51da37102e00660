-- The rows of bounds lie apart and within the table
use Rattle.std.proofs.Common.{ℕ, ◌+◌, ◌*◌, ◌<◌, ◌≤◌, arith}
use Rattle.std.proofs.lemmas.Nat.{mul-le}
use Rattle.paraid_base.specs.declared.geometry.Geometry.{Geometry}
use Rattle.paraid_base.specs.Regions.{IsGear}
use Rattle.paraid_schedule.specs.Bounds.{rank, gear_count, row_start, bound_count}
use Rattle.paraid_schedule.proofs.RankLemmas.{rank-less, rank-top}

-- the row of number `t * c + r` ends where the next one begins
place_after : (p q w : ℕ) → p < q → p * w + w ≤ q * w
place_after p q w low = omega (arith, mul-le (p + 1) w q w (omega arith) (omega arith))

number_below : (t u c r : ℕ) → r + 1 ≤ c → t < u → t * c + r < u * c
number_below t u c r small low = omega (arith, mul-le (t + 1) c u c (omega arith) (omega arith))

pub row_start-end : (g : Geometry) (ups t periods a : ℕ) → IsGear g a → t ≤ periods → row_start g ups t a + (ups + 1) ≤ bound_count g ups periods
unfolding row_start bound_count
row_start-end g ups t periods a is low =
    place_after (t * gear_count g + rank g a) ((periods + 1) * gear_count g) (ups + 1)
    (number_below t (periods + 1) (gear_count g) (rank g a) (rank-top g a is) (omega arith))

pub rows-periods : (g : Geometry) (ups t u a b : ℕ) → IsGear g a → t < u → row_start g ups t a + (ups + 1) ≤ row_start g ups u b
unfolding row_start
rows-periods g ups t u a b is low =
    let number = number_below t u (gear_count g) (rank g a) (rank-top g a is) low in
    place_after (t * gear_count g + rank g a) (u * gear_count g + rank g b) (ups + 1) (omega arith)

pub rows-gears : (g : Geometry) (ups t a b : ℕ) → IsGear g a → a < b → row_start g ups t a + (ups + 1) ≤ row_start g ups t b
unfolding row_start
rows-gears g ups t a b is low =
    let ranks = rank-less g a b is low in
    place_after (t * gear_count g + rank g a) (t * gear_count g + rank g b) (ups + 1) (omega arith)

pub bound_count-more : (g : Geometry) (ups t periods : ℕ) → t ≤ periods → bound_count g ups t ≤ bound_count g ups periods
unfolding bound_count
bound_count-more g ups t periods low =
    let rows = mul-le (t + 1) (gear_count g) (periods + 1) (gear_count g) (omega arith) (omega arith) in
    mul-le ((t + 1) * gear_count g) (ups + 1) ((periods + 1) * gear_count g) (ups + 1) rows (omega arith)
