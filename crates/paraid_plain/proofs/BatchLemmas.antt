-- When two logs say the same batch.
use Rattle.std.specs.Prelude.{◌≡◌, ℕ, ◌+◌, ◌<◌, List, [], ◌∷◌, length, get_or, All, Contains}
use Rattle.std.proofs.Common.{refl, sym, ◌∙◌, ap, subst, arith, zero, suc}
use Rattle.std.proofs.lemmas.List.{get_or-take, length-take-le}
use Rattle.paraid_base.specs.declared.block.Block.{Block}
use Rattle.paraid_record.specs.declared.targets.Target.{Target}
use Rattle.paraid_record.specs.Targets.{no_target, targets_of}
use Rattle.std.proofs.lemmas.List.Elements.{All-contains, All-contains_itself}
use Rattle.paraid_image.specs.Sides.{stored_block, targets}
use Rattle.paraid_plain.proofs.StatementLemmas.{targets-batch_at}
use Rattle.paraid_plain.specs.declared.image.Image.{Image}
use Rattle.paraid_plain.specs.declared.statement.Statement.{Statement}
use Rattle.paraid_plain.specs.Images.{disks_in}
use Rattle.paraid_plain.specs.LogParts.{IsSameTarget}
use Rattle.paraid_plain.specs.Statements.{batch_from, batch_in}

-- target `k` and its block are the same
abbrev IsSameAt : (ℕ → Block) → (ℕ → Block) → ℕ → List Target → List Target → ℕ → Type 0
IsSameAt log other p ts us k = (get_or ts k no_target ≡ get_or us k no_target) × (log (p + k) ≡ other (p + k))

module _ (log other : ℕ → Block) where
  batch_from-length : (p : ℕ) (ts us : List Target) → batch_from log p ts ≡ batch_from other p us → length ts ≡ length us
  batch_from-length p [] [] e = refl
  batch_from-length p [] (u ∷ us) e = cc
  batch_from-length p (t ∷ ts) [] e = cc
  batch_from-length p (t ∷ ts) (u ∷ us) e =
      let rest : batch_from log (suc p) ts ≡ batch_from other (suc p) us = cc in
      ap suc (batch_from-length (suc p) ts us rest)

  batch_from-parts : (p : ℕ) (ts us : List Target) → batch_from log p ts ≡ batch_from other p us → (k : ℕ) → k < length ts → IsSameAt log other p ts us k
  batch_from-parts p [] us e k l = absurd (omega arith)
  batch_from-parts p (t ∷ ts) [] e k l = cc
  batch_from-parts p (t ∷ ts) (u ∷ us) e zero l =
      let place : p + 0 ≡ p = omega arith in
      let head : ◌≡◌ {A = Target × Block} (t, log p) (u, other p) = cc in
      let target : t ≡ u = ap (λ (w : Target × Block). w.0) head in
      let block : log p ≡ other p = ap (λ (w : Target × Block). w.1) head in
      (target, ap log place ∙ block ∙ ap other (sym place))
  batch_from-parts p (t ∷ ts) (u ∷ us) e (suc k) l =
      let place : p + suc k ≡ suc p + k = omega arith in
      let rest : batch_from log (suc p) ts ≡ batch_from other (suc p) us = cc in
      let part = batch_from-parts (suc p) ts us rest k (omega arith) in
      (part.0, ap log place ∙ part.1 ∙ ap other (sym place))

  batch_from-from : (p : ℕ) (ts us : List Target) → length ts ≡ length us → ((k : ℕ) → k < length ts → IsSameAt log other p ts us k) → batch_from log p ts ≡ batch_from other p us
  batch_from-from p [] [] e f = refl
  batch_from-from p [] (u ∷ us) e f = absurd (omega arith)
  batch_from-from p (t ∷ ts) [] e f = absurd (omega arith)
  batch_from-from p (t ∷ ts) (u ∷ us) e f =
      let place : p + 0 ≡ p = omega arith in
      let first = f 0 (omega arith) in
      let target : t ≡ u = first.0 in
      let block : log p ≡ other p = ap log (sym place) ∙ first.1 ∙ ap other place in
      let rest = batch_from-from (suc p) ts us (omega arith) (λ k l.
      let next : p + suc k ≡ suc p + k = omega arith in
      let part = f (suc k) (omega arith) in
      (part.0, ap log (sym next) ∙ part.1 ∙ ap other next)) in
      λ i. (target i, block i) ∷ rest i

module _ (image : Image) (a b : Statement) where
  abbrev log_of : Statement → ℕ → Block
  log_of s = stored_block (disks_in image) s.disk

  targets-length : (s : Statement) → length (targets_of s.targets) ≡ s.targets.count
  targets-length s =
      let few = s.few in
      let long = s.long in
      length-take-le s.targets.count s.targets.list (omega arith)

  targets-at : (s : Statement) (k : ℕ) → k < s.targets.count → get_or (targets_of s.targets) k no_target ≡ get_or s.targets.list k no_target
  targets-at s k l = get_or-take s.targets.count s.targets.list k no_target l

  pub batch_in-count : batch_in image a ≡ batch_in image b → a.targets.count ≡ b.targets.count
  unfolding batch_in
  batch_in-count e =
      let same = batch_from-length (log_of a) (log_of b) 4 (targets_of a.targets) (targets_of b.targets) e in
      sym (targets-length a) ∙ same ∙ targets-length b

  pub batch_in-parts : batch_in image a ≡ batch_in image b → (k : ℕ) → k < a.targets.count → IsSameTarget image a b k
  unfolding batch_in
  batch_in-parts e k l =
      let count = batch_in-count e in
      let long = targets-length a in
      let part = batch_from-parts (log_of a) (log_of b) 4 (targets_of a.targets) (targets_of b.targets) e k (omega arith) in
      (sym (targets-at a k l) ∙ part.0 ∙ targets-at b k (omega arith), part.1)

  pub batch_in-from : a.targets.count ≡ b.targets.count → ((k : ℕ) → k < a.targets.count → IsSameTarget image a b k) → batch_in image a ≡ batch_in image b
  unfolding batch_in
  batch_in-from count f =
      let long = targets-length a in
      batch_from-from (log_of a) (log_of b) 4 (targets_of a.targets) (targets_of b.targets)
      (targets-length a ∙ count ∙ sym (targets-length b))
      (λ k l.
      let below : k < a.targets.count = omega arith in
      let part = f k below in
      (targets-at a k below ∙ part.0 ∙ sym (targets-at b k (omega arith)), part.1))

-- what holds of each target of a statement
module _ (image : Image) (s : Statement) (P : Target → Type 0) where
  same_targets : targets (batch_in image s) ≡ targets_of s.targets
  unfolding batch_in
  same_targets = targets-batch_at (stored_block (disks_in image) s.disk) 4 (targets_of s.targets)

  pub targets_each : All P (targets_of s.targets) → (t : Target) → Contains (targets (batch_in image s)) t → P t
  targets_each all t here = All-contains P (targets_of s.targets) t all (subst (λ (l : List Target). Contains l t) same_targets here)

  pub targets_all : ((t : Target) → Contains (targets (batch_in image s)) t → P t) → All P (targets_of s.targets)
  targets_all each k d l =
      each (get_or (targets_of s.targets) k d)
      (subst (λ (l : List Target). Contains l (get_or (targets_of s.targets) k d)) (sym same_targets) (All-contains_itself (targets_of s.targets) k d l))
