-- What a command is given, as it found it and as it left it: a source, a sink and a rack.
use Rattle.std.specs.Prelude.{ℕ, List, Option}
use Rattle.paraid_rack.specs.Slots.{Slot}
use Rattle.paraid_rack.specs.Trail.{Trail}

-- A source: what was left of it, where it tells that, and how many of its reads had failed.
pub record SourceUse : Type 0 where
  pub left_before : Option (List ℕ)
  pub left : Option (List ℕ)
  pub faults_before : ℕ
  pub faults : ℕ

-- A sink: what had been written to it, where it tells that, and how many of its writes had failed.
pub record SinkUse : Type 0 where
  pub written_before : Option (List ℕ)
  pub written : Option (List ℕ)
  pub faults_before : ℕ
  pub faults : ℕ

-- A rack: how many slots it has, what is always told of them, and its record, where it is told.
pub record RackUse : Type 0 where
  pub slots : ℕ
  pub old : ℕ → Slot
  pub new : ℕ → Slot
  pub before : Option Trail
  pub after : Option Trail
