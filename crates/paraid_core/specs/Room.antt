-- When a write, or a read that cleans a cell, commits first.
use Rattle.std.specs.Prelude.{ℕ, ◌-◌, Bool, length, nat_lt}
use Rattle.paraid_base.specs.Log.{batch_room}
use Rattle.paraid_image.specs.Sides.{Batch}

-- more is staged than leaves room for so many targets
abbrev pub commits_first : Batch → ℕ → Bool
commits_first batch targets = nat_lt (batch_room - targets) (length batch)
