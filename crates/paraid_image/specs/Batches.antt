-- What a batch holds.
use Rattle.std.specs.Prelude.{ℕ, ◌==◌, ◌&&◌, Bool, List, [], ◌∷◌, if◌then◌else◌}
use Rattle.std.specs.List.{list_any}
use Rattle.paraid_base.specs.declared.block.Block.{Block}
use Rattle.paraid_record.specs.declared.targets.Target.{Target}
use Rattle.paraid_image.specs.Sides.{Batch}

-- the batch with this block at this target, in place of the one that it has there, or at its end
abbrev pub with_target : Batch → Target → Block → Batch
with_target [] t b = (t, b) ∷ []
with_target (w ∷ batch) t b =
    if w.0.disk == t.disk && w.0.place == t.place
    then (w.0, b) ∷ batch else w ∷ with_target batch t b

-- the blocks of a batch, in the order of its targets
abbrev pub batch_blocks : Batch → List Block
batch_blocks [] = []
batch_blocks (w ∷ batch) = w.1 ∷ batch_blocks batch

-- whether a target is on this disk
abbrev pub names_disk : Batch → ℕ → Bool
names_disk batch d = list_any (λ (w : Target × Block). w.0.disk == d) batch
