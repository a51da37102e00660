-- What was taken from a source, and why no more came
use Rattle.std.specs.Prelude.{◌≡◌, ℕ, ◌+◌, ◌<◌, ◌^◌, List, length, Option}
use Rattle.paraid_base.specs.Told.{Gives, AtEnd, HasRisen, stream_most}
use Rattle.paraid_nbd.specs.declared.ending.NbdEnd.{NbdEnd}
use Rattle.paraid_nbd.specs.declared.ending.NbdEnd.TheVariants.{Done, Aborted, Closed, Protocol, TooLong, Source, Sink, NoMemory}

-- These bytes were taken, and counted.
pub record Takes (before after : Option (List ℕ)) (old new : ℕ) (got : List ℕ) : Type 0 where
  pub given : Gives before after got
  pub count : new ≡ old + length got

-- no more bytes come: the source gave its end, all that may be taken was taken, or a call failed
abbrev pub IsCut : NbdEnd → Option (List ℕ) → ℕ → ℕ → ℕ → Type 0
IsCut Closed after taken faults now = AtEnd after × (taken < stream_most)
IsCut (TooLong bytes) after taken faults now = (bytes ≡ stream_most) × (taken ≡ stream_most)
IsCut Source after taken faults now = HasRisen faults now × (taken < stream_most)
IsCut Done after taken faults now = ⊥
IsCut Aborted after taken faults now = ⊥
IsCut (Protocol at) after taken faults now = ⊥
IsCut Sink after taken faults now = ⊥
IsCut NoMemory after taken faults now = ⊥

-- Fewer than so many bytes were taken, and no more come.
pub record Lacks
    (before after : Option (List ℕ)) (old new most faults now : ℕ) (end : NbdEnd) : Type 0 where
  pub got : List ℕ
  pub takes : Takes before after old new got
  pub few : length got < most
  pub cause : IsCut end after new faults now
