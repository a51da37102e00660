-- What marks and what a cleaned cell leave of a core: they are staged, without a call.
use Rattle.std.specs.Prelude.{◌≡◌, []}
use Rattle.paraid_rack.specs.declared.rack.Rack.{Ghosts}
use Rattle.paraid_core.specs.declared.staged.Core.{Core}
use Rattle.paraid_core.specs.Cores.{CanCoreServe, IsCoreReady}

-- What is staged is as it was.
pub record KeepsStaged {R : Type 0} {g : Ghosts R} (old new : Core R g) : Type 0 where
  pub table : new.dirty ≡ old.dirty
  pub batch : new.batch ≡ old.batch
  pub copied : new.copied ≡ old.copied
  pub draft : new.draft ≡ old.draft

-- Only the meta is another one, and the core can be used.
pub record OnlyMarks {R : Type 0} {g : Ghosts R} (old new : Core R g) : Type 0 where
  pub store : new.store ≡ old.store
  pub staged : KeepsStaged old new
  pub ready : IsCoreReady g.slot_count g.slot new

-- Only the batch and the dirty table are others, and cells can be read and written.
pub record OnlyStages {R : Type 0} {g : Ghosts R} (old new : Core R g) : Type 0 where
  pub store : new.store ≡ old.store
  pub meta : new.meta ≡ old.meta
  pub copied : new.copied ≡ old.copied
  pub draft : new.draft ≡ []
  pub ready : IsCoreReady g.slot_count g.slot new
  pub serves : CanCoreServe g.slot new
