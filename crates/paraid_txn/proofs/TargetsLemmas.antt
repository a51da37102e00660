-- The targets of a batch, one after the other.
use Rattle.std.specs.Prelude.{◌≡◌, ◌≢◌, ℕ, ◌+◌, ◌<◌, ◌≤◌, ◌==◌, ◌&&◌, ◌||◌, Bool, true, false, [], ◌∷◌, All, length, take, get_or, if◌then◌else◌}
use Rattle.std.proofs.Common.{zero, suc, refl, sym, ap, ◌∙◌, inl, inr, arith}
use Rattle.std.proofs.lemmas.Bool.{and_from, and_parts, cases_Bool, cases_lt, eq-eqb, eqb-true, false≢true, ne_eqb, or_from}
use Rattle.std.proofs.lemmas.List.Elements.{All-head, All-tail}
use Rattle.paraid_base.specs.declared.block.Block.{Block}
use Rattle.paraid_base.specs.Xor.{zero_block}
use Rattle.paraid_record.specs.declared.targets.Target.{Target}
use Rattle.paraid_record.specs.Targets.{no_target}
use Rattle.paraid_image.specs.Neutral.{names_place}
use Rattle.paraid_image.specs.Sides.{Batch, targets}
use Rattle.paraid_image.specs.Batches.{batch_blocks, names_disk}
use Rattle.paraid_image.specs.Standing.{overlaid_block}
use Rattle.paraid_image.proofs.BatchesLemmas.{names_disk-named}

abbrev pub target_at : Batch → ℕ → Target
target_at batch n = get_or (targets batch) n no_target

is_at : (d0 p0 d p : ℕ) → d ≡ d0 → p ≡ p0 → (d0 == d && p0 == p) ≡ true
is_at d0 p0 d p is at = and_from (d0 == d) (p0 == p) (eq-eqb d0 d (sym is)) (eq-eqb p0 p (sym at))

is_not_at : (d0 p0 d p : ℕ) → (d ≡ d0 → p ≢ p0) → (d0 == d && p0 == p) ≡ false
is_not_at d0 p0 d p apart = elim (cases_Bool (d0 == d && p0 == p)) [
  | inl on ↦ let parts = and_parts (d0 == d) (p0 == p) on in
      absurd (apart (sym (eqb-true d0 d parts.0)) (sym (eqb-true p0 p parts.1)))
  | inr off ↦ off
]

-- one more target is laid over what the first ones leave
overlaid_block-next : (batch : Batch) (n d p : ℕ) (b : Block) → n < length batch
    → overlaid_block (take (suc n) batch) d p b ≡ (if (target_at batch n).disk == d && (target_at batch n).place == p
    then get_or (batch_blocks batch) n zero_block else overlaid_block (take n batch) d p b)
overlaid_block-next [] n d p b lt = absurd (omega arith)
overlaid_block-next (w ∷ batch) zero d p b lt = refl
overlaid_block-next (w ∷ batch) (suc n) d p b lt = overlaid_block-next batch n d p (if w.0.disk == d && w.0.place == p then w.1 else b) (omega arith)

pub overlaid_block-next_here : (batch : Batch) (n d p : ℕ) (b : Block) → n < length batch
    → d ≡ (target_at batch n).disk → p ≡ (target_at batch n).place
    → overlaid_block (take (n + 1) batch) d p b ≡ get_or (batch_blocks batch) n zero_block
overlaid_block-next_here batch n d p b lt is at =
    let t = target_at batch n in
    let more : n + 1 ≡ suc n = omega arith in
    ap (λ (k : ℕ). overlaid_block (take k batch) d p b) more ∙ overlaid_block-next batch n d p b lt
    ∙ ap (λ (c : Bool). if c then get_or (batch_blocks batch) n zero_block else overlaid_block (take n batch) d p b) (is_at t.disk t.place d p is at)

pub overlaid_block-next_else : (batch : Batch) (n d p : ℕ) (b : Block) → n < length batch
    → (d ≡ (target_at batch n).disk → p ≢ (target_at batch n).place)
    → overlaid_block (take (n + 1) batch) d p b ≡ overlaid_block (take n batch) d p b
overlaid_block-next_else batch n d p b lt apart =
    let t = target_at batch n in
    let more : n + 1 ≡ suc n = omega arith in
    ap (λ (k : ℕ). overlaid_block (take k batch) d p b) more ∙ overlaid_block-next batch n d p b lt
    ∙ ap (λ (c : Bool). if c then get_or (batch_blocks batch) n zero_block else overlaid_block (take n batch) d p b) (is_not_at t.disk t.place d p apart)

-- a disk that has no target
pub names_place-no_disk : (batch : Batch) (d p : ℕ) → names_disk batch d ≡ false → names_place batch d p ≡ false
names_place-no_disk batch d p off = elim (cases_Bool (names_place batch d p)) [
  | inl on ↦ absurd (false≢true (sym off ∙ names_disk-named batch d p on))
  | inr none ↦ none
]

-- all targets are on the first `n` disks
pub names_disk-above : (batch : Batch) (n d : ℕ) → All (λ (t : Target). t.disk < n) (targets batch) → n ≤ d → names_disk batch d ≡ false
names_disk-above [] n d below le = refl
names_disk-above (w ∷ batch) n d below le =
    let P = λ (t : Target). t.disk < n in
    let low : w.0.disk < n = All-head P w.0 (targets batch) below in
    or_from (w.0.disk == d) (names_disk batch d) (ne_eqb w.0.disk d (λ is. omega arith))
    (names_disk-above batch n d (All-tail P w.0 (targets batch) below) le)

pub names_disk-below : (batch : Batch) (n d : ℕ) → All (λ (t : Target). t.disk < n) (targets batch) → names_disk batch d ≡ true → d < n
names_disk-below batch n d below on = elim (cases_lt d n) [
  | inl lt ↦ lt
  | inr le ↦ absurd (false≢true (sym (names_disk-above batch n d below le) ∙ on))
]

-- what holds of all targets holds of one on each disk that has targets
pub target_on : (P : Target → Type 0) (batch : Batch) (d : ℕ) → All P (targets batch) → names_disk batch d ≡ true → (t : Target) × (t.disk ≡ d) × P t
target_on P [] d all on = absurd (false≢true on)
target_on P (w ∷ batch) d all on = elim (cases_Bool (w.0.disk == d)) [
  | inl is ↦ (w.0, eqb-true w.0.disk d is, All-head P w.0 (targets batch) all)
  | inr not ↦ target_on P batch d (All-tail P w.0 (targets batch) all) (ap (λ (b : Bool). b || names_disk batch d) (sym not) ∙ on)
]
