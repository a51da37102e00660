-- The batch that a list of staged blocks stands for.
use Rattle.std.proofs.Common.{◌≡◌, ◌≢◌, ℕ, zero, suc, ◌<◌, Bool, true, false, ◌||◌, List, [], ◌∷◌, ◌++◌, length, get_or, set, map, refl, sym, ◌∙◌, ap, arith}
use Rattle.std.specs.Prelude.{◌==◌, AllPairs}
use Rattle.std.specs.List.{list_any}
use Rattle.std.proofs.lemmas.Bool.{true≢false}
use Rattle.std.proofs.lemmas.List.{length-map, map-set, map_push}
use Rattle.std.proofs.lemmas.List.Quantifiers.{all_pairs_push}
use Rattle.paraid_base.specs.declared.block.Block.{Block}
use Rattle.paraid_base.specs.Xor.{zero_block}
use Rattle.paraid_record.specs.declared.targets.Target.{Target}
use Rattle.paraid_record.specs.Targets.{no_target}
use Rattle.paraid_txn.specs.declared.batch.Staged.{Staged}
use Rattle.paraid_image.specs.Neutral.{names_place}
use Rattle.paraid_image.proofs.NeutralLemmas.{length-targets}
use Rattle.paraid_image.specs.Sides.{Batch, targets}
use Rattle.paraid_image.specs.Batches.{batch_blocks, names_disk, with_target}
use Rattle.paraid_image.proofs.BatchesLemmas.{AreApart, names_place-at, with_target-at, with_target-new}

-- as the program keeps a batch

abbrev pub AreHeldApart : List Staged → Type 0
AreHeldApart = AllPairs (λ s t. s.target ≢ t.target)

abbrev pub held : List Staged → Batch
held items = map (λ s. (s.target, s.block)) items

pub length-held : (items : List Staged) → length (held items) ≡ length items
length-held items = length-map items (λ s. (s.target, s.block))

pub targets-held : (items : List Staged) (at : ℕ) (d : Staged) (e : Target) → at < length items
    → get_or (targets (held items)) at e ≡ (get_or items at d).target
targets-held [] at d e below = absurd (omega arith)
targets-held (s ∷ items) zero d e below = refl
targets-held (s ∷ items) (suc at) d e below = targets-held items at d e (omega arith)

pub batch_blocks-held : (items : List Staged) (at : ℕ) (d : Staged) (e : Block) → at < length items
    → get_or (batch_blocks (held items)) at e ≡ (get_or items at d).block
batch_blocks-held [] at d e below = absurd (omega arith)
batch_blocks-held (s ∷ items) zero d e below = refl
batch_blocks-held (s ∷ items) (suc at) d e below = batch_blocks-held items at d e (omega arith)

pub names_disk-held : (items : List Staged) (d : ℕ) → names_disk (held items) d ≡ list_any (λ s. s.target.disk == d) items
names_disk-held [] d = refl
names_disk-held (s ∷ items) d = ap (λ (b : Bool). s.target.disk == d || b) (names_disk-held items d)

-- what is read of the list that stands for batch `b`
module _ (items : List Staged) (b : Batch) (view : held items ≡ b) where
  pub length-view : length items ≡ length b
  length-view = sym (length-held items) ∙ ap length view

  pub target-read : (at : ℕ) (s : Staged) → at < length items → s ≡ get_or items at s → get_or (targets b) at no_target ≡ s.target
  target-read at s below read =
      ap (λ (w : Batch). get_or (targets w) at no_target) (sym view) ∙ targets-held items at s no_target below ∙ ap (λ (x : Staged). x.target) (sym read)

  pub block-read : (at : ℕ) (s : Staged) → at < length items → s ≡ get_or items at s → get_or (batch_blocks b) at zero_block ≡ s.block
  block-read at s below read =
      ap (λ (w : Batch). get_or (batch_blocks w) at zero_block) (sym view) ∙ batch_blocks-held items at s zero_block below ∙ ap (λ (x : Staged). x.block) (sym read)

  pub targets-apart : AreHeldApart items → AreApart (targets b)
  targets-apart apart i j d low high e =
      let all = length-targets b in
      let below : j < length items = omega (arith, length-view) in
      let s : Staged = record { target = d; block = zero_block } in
      apart i j s low below (sym (targets-held items i s d (omega arith))
      ∙ ap (λ (w : Batch). get_or (targets w) i d) view ∙ e ∙ ap (λ (w : Batch). get_or (targets w) j d) (sym view)
      ∙ targets-held items j s d below)

  -- the block of a held target is replaced
  pub held-set : (at : ℕ) (s : Staged) (t : Target) (x : Block) → AreHeldApart items → at < length items
      → s ≡ get_or items at s → get_or (targets b) at no_target ≡ t
      → held (set items at (record { target = s.target; block = x })) ≡ with_target b t x
  held-set at s t x apart below read is =
      map-set (λ (z : Staged). (z.target, z.block)) items at (record { target = s.target; block = x })
      ∙ ap (λ (w : Batch). set w at (s.target, x)) view
      ∙ ap (λ (u : Target). set b at (u, x)) (sym (target-read at s below read) ∙ is)
      ∙ sym (with_target-at b at t x (omega (arith, length-view)) is (targets-apart apart))

  -- a new target
  pub held-push : (s : Staged) → names_place b s.target.disk s.target.place ≡ false → held (items ++ s ∷ []) ≡ with_target b s.target s.block
  held-push s new = map_push (λ (z : Staged). (z.target, z.block)) items s ∙ ap (λ (w : Batch). w ++ (s.target, s.block) ∷ []) view
      ∙ sym (with_target-new b s.target s.block new)

  pub apart-push : (s : Staged) → AreHeldApart items → names_place b s.target.disk s.target.place ≡ false
      → AreHeldApart (items ++ s ∷ [])
  apart-push s apart new = all_pairs_push (λ s t. s.target ≢ t.target) items s apart
      (λ k d below e. true≢false (sym (names_place-read k d below e) ∙ new))
    where
      names_place-read : (k : ℕ) (d : Staged) → k < length items → (get_or items k d).target ≡ s.target → names_place b s.target.disk s.target.place ≡ true
      names_place-read k d below e = names_place-at b k s.target (omega (arith, length-view))
          (ap (λ (w : Batch). get_or (targets w) k no_target) (sym view) ∙ targets-held items k d no_target below ∙ e)
