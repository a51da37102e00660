-- Batches that are the same target by target and block by block.
use Rattle.std.specs.Prelude.{◌≡◌, ℕ, ◌<◌, [], ◌∷◌, length, get_or}
use Rattle.std.proofs.Common.{refl, ◌∙◌, ap, arith, suc}
use Rattle.paraid_base.specs.Xor.{zero_block}
use Rattle.paraid_record.specs.Targets.{no_target}
use Rattle.paraid_image.specs.Sides.{Batch, targets}
use Rattle.paraid_image.specs.Batches.{batch_blocks}

pub same_batch : (a b : Batch) → length a ≡ length b
    → ((k : ℕ) → k < length a → get_or (targets a) k no_target ≡ get_or (targets b) k no_target)
    → ((k : ℕ) → k < length a → get_or (batch_blocks a) k zero_block ≡ get_or (batch_blocks b) k zero_block) → a ≡ b
same_batch [] [] size at block = refl
same_batch [] (w ∷ b) size at block = absurd (omega arith)
same_batch (v ∷ a) [] size at block = absurd (omega arith)
same_batch (v ∷ a) (w ∷ b) size at block =
    ap (λ t. (t, v.1) ∷ a) (at 0 (omega arith)) ∙ ap (λ c. (w.0, c) ∷ a) (block 0 (omega arith))
    ∙ ap (λ (l : Batch). w ∷ l) (same_batch a b (omega arith) (λ k low. at (suc k) (omega arith)) (λ k low. block (suc k) (omega arith)))
