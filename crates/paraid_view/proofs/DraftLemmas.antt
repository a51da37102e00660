-- What a draft holds, by the place of a target in its order.
use Rattle.std.proofs.Common.{◌≡◌, ◌≢◌, ℕ, zero, suc, ◌<◌, ◌&&◌, List, [], ◌∷◌, ◌++◌, length, get_or, map, refl, sym, ◌∙◌, ap, arith}
use Rattle.std.specs.Prelude.{◌==◌, if◌then◌else◌, MatchOption, Option, Some, None}
use Rattle.std.proofs.lemmas.List.{length-map, map_push}
use Rattle.paraid_base.specs.declared.block.Block.{Block}
use Rattle.paraid_base.specs.Xor.{zero_block}
use Rattle.paraid_record.specs.declared.targets.Target.{Target}
use Rattle.paraid_record.specs.Targets.{no_target}
use Rattle.paraid_image.specs.Sides.{Batch, targets}
use Rattle.paraid_image.specs.Standing.{overlaid_block}
use Rattle.paraid_image.specs.Batches.{batch_blocks}
use Rattle.paraid_image.proofs.BatchesLemmas.{is_same-false, is_same-true}
use Rattle.paraid_view.specs.declared.draft.Drafted.{Drafted}

abbrev pub drafts : List Drafted → Batch
drafts items = map (λ s. (s.target, s.block)) items

pub length-drafts : (items : List Drafted) → length (drafts items) ≡ length items
length-drafts items = length-map items (λ s. (s.target, s.block))

targets-drafts : (items : List Drafted) (at : ℕ) (d : Drafted) (e : Target) → at < length items → get_or (targets (drafts items)) at e ≡ (get_or items at d).target
targets-drafts [] at d e below = absurd (omega arith)
targets-drafts (s ∷ items) zero d e below = refl
targets-drafts (s ∷ items) (suc at) d e below = targets-drafts items at d e (omega arith)

batch_blocks-drafts : (items : List Drafted) (at : ℕ) (d : Drafted) (e : Block) → at < length items → get_or (batch_blocks (drafts items)) at e ≡ (get_or items at d).block
batch_blocks-drafts [] at d e below = absurd (omega arith)
batch_blocks-drafts (s ∷ items) zero d e below = refl
batch_blocks-drafts (s ∷ items) (suc at) d e below = batch_blocks-drafts items at d e (omega arith)

module _ (items : List Drafted) (b : Batch) (view : drafts items ≡ b) where
  pub drafts_long : length items ≡ length b
  drafts_long = sym (length-drafts items) ∙ ap length view

  pub drafted_target : (at : ℕ) (s : Drafted) → at < length items → s ≡ get_or items at s → get_or (targets b) at no_target ≡ s.target
  drafted_target at s below read =
      ap (λ (w : Batch). get_or (targets w) at no_target) (sym view) ∙ targets-drafts items at s no_target below ∙ ap (λ (x : Drafted). x.target) (sym read)

  pub drafted_block : (at : ℕ) (s : Drafted) → at < length items → s ≡ get_or items at s → get_or (batch_blocks b) at zero_block ≡ s.block
  drafted_block at s below read =
      ap (λ (w : Batch). get_or (batch_blocks w) at zero_block) (sym view) ∙ batch_blocks-drafts items at s zero_block below ∙ ap (λ (x : Drafted). x.block) (sym read)

  pub drafted_push : (s : Drafted) → drafts (items ++ s ∷ []) ≡ b ++ (s.target, s.block) ∷ []
  drafted_push s = map_push (λ (z : Drafted). (z.target, z.block)) items s ∙ ap (λ (w : Batch). w ++ (s.target, s.block) ∷ []) view

-- a target that no block has leaves what is read there
pub laid_off : (b : Batch) (t : Target) (any : Block) → ((k : ℕ) → k < length b → get_or (targets b) k no_target ≢ t) → overlaid_block b t.disk t.place any ≡ any
laid_off [] t any off = refl
laid_off (w ∷ b) t any off =
    rw (is_same-false w.0 t (off zero (omega arith))) (laid_off b t any (λ k below. off (suc k) (omega arith)))

-- the last block of a target is read there
pub laid_last : (b : Batch) (at : ℕ) (t : Target) (any : Block) → at < length b → get_or (targets b) at no_target ≡ t
    → ((k : ℕ) → at < k → k < length b → get_or (targets b) k no_target ≢ t) → overlaid_block b t.disk t.place any ≡ get_or (batch_blocks b) at zero_block
laid_last [] at t any below is off = absurd (omega arith)
laid_last (w ∷ b) zero t any below is off = rw (is_same-true w.0 t is) (laid_off b t w.1 (λ k l. off (suc k) (omega arith) (omega arith)))
laid_last (w ∷ b) (suc at) t any below is off = laid_last b at t _ (omega arith) is (λ k low l. off (suc k) (omega arith) (omega arith))

-- a batch over another
pub laid_both : (a b : Batch) (d p : ℕ) (x : Block) → overlaid_block (a ++ b) d p x ≡ overlaid_block b d p (overlaid_block a d p x)
laid_both [] b d p x = refl
laid_both (w ∷ a) b d p x = laid_both a b d p (if w.0.disk == d && w.0.place == p then w.1 else x)

pub option_map : {A : Type 0} {N M : Type 0} {P Q : A → Type 0} (o : Option A) → (N → M) → ((a : A) → P a → Q a) → MatchOption o N P → MatchOption o M Q
option_map None none some m = none m
option_map (Some a) none some m = some a m
