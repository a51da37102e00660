-- What a pool keeps is a stock, and what the calls of a line leave.
use Rattle.std.specs.Prelude.{◌≡◌, ℕ, ◌<◌, List}
use Rattle.paraid_base.specs.declared.event.Event.{Event}
use Rattle.paraid_rack.specs.declared.call.Call.{Call}
use Rattle.paraid_rack.specs.Disks.{Disks}
use Rattle.paraid_record.specs.declared.meta.Setup.{Setup}
use Rattle.paraid_serve.specs.Stretch.{Turn, turn_calls}
use Rattle.paraid_session.specs.Turn.{Point}
use Rattle.paraid_spare.specs.Pools.{left_of, spins_of, wait_of, waits_of}
use Rattle.paraid_spare.specs.declared.pool.Pool.{Pool}
use Rattle.paraid_sparing.specs.Sparing.{AnswersLine, Stock}

-- the pool keeps this stock
pub record Keeps (pool : Pool) (wait : ℕ) (k : Stock) : Type 0 where
  pub left : left_of pool ≡ k.left
  pub wait_is : wait_of pool ≡ wait
  pub waits : (d : ℕ) → waits_of pool d ≡ k.waits d
  pub spins : (d : ℕ) → d < 8 → spins_of pool d ≡ k.spins d

-- A line is answered by these calls. The array then stands at the point at which it ends, and the
-- pool keeps the stock.
pub record ServesLine
    (slots : ℕ) (setup : Setup) (wait : ℕ) (p : Point) (k : Stock) (event : Event) (text : List ℕ)
    (stands : Point → Type 0) (pool : Pool) (start : Disks) (calls : List Call) : Type 0 where
  pub turns : List Turn
  pub end : Point
  pub stock : Stock
  pub answers : AnswersLine slots setup wait p k event turns text end stock
  pub made : calls ≡ turn_calls turns
  pub stood : stands end
  pub keeps : Keeps pool wait stock
