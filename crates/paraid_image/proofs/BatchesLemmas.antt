-- What a batch holds, by the place of a target in its order and by the target.
use Rattle.std.proofs.Common.{◌≡◌, ◌≢◌, ℕ, zero, suc, ◌<◌, Bool, true, false, ◌&&◌, ◌||◌, List, [], ◌∷◌, ◌++◌, length, get_or, set, map, refl, sym, ◌∙◌, ap, subst, inl, inr, arith}
use Rattle.std.specs.Prelude.{◌==◌, AllPairs, Contains}
use Rattle.std.specs.List.{list_any}
use Rattle.std.proofs.lemmas.Bool.{and_from, and_parts, eq-eqb, eqb-true, false_from_ne_true, or_cases, or_from, or_left, or_parts, or_right, true≢false}
use Rattle.std.proofs.lemmas.List.{length-map, map-set, map_push}
use Rattle.std.proofs.lemmas.List.Elements.{Contains-get_or}
use Rattle.std.proofs.lemmas.List.Quantifiers.{all_pairs_push}
use Rattle.paraid_base.specs.declared.block.Block.{Block}
use Rattle.paraid_base.specs.Xor.{zero_block}
use Rattle.paraid_record.specs.declared.targets.Target.{Target}
use Rattle.paraid_record.specs.Targets.{no_target}
use Rattle.paraid_image.specs.Neutral.{names_place}
use Rattle.paraid_image.proofs.NeutralLemmas.{length-targets}
use Rattle.paraid_image.specs.Sides.{Batch, targets}
use Rattle.paraid_image.specs.Batches.{batch_blocks, names_disk, with_target}
use Rattle.paraid_image.specs.Standing.{overlaid_block}

-- whether two targets are the same, as the definitions test it
abbrev pub is_same : Target → Target → Bool
is_same s t = s.disk == t.disk && s.place == t.place

pub same_target : (s t : Target) → is_same s t ≡ true → s ≡ t
same_target s t h =
    let both = and_parts (s.disk == t.disk) (s.place == t.place) h in
    λ u. record { disk = eqb-true s.disk t.disk both.0 u; place = eqb-true s.place t.place both.1 u }

pub is_same-true : (s t : Target) → s ≡ t → is_same s t ≡ true
is_same-true s t e = and_from (s.disk == t.disk) (s.place == t.place)
    (eq-eqb s.disk t.disk (ap (λ (x : Target). x.disk) e)) (eq-eqb s.place t.place (ap (λ (x : Target). x.place) e))

pub is_same-false : (s t : Target) → s ≢ t → is_same s t ≡ false
is_same-false s t not = false_from_ne_true (is_same s t) (λ h. not (same_target s t h))

pub other_target : (s t : Target) → is_same s t ≡ false → s ≢ t
other_target s t h e = true≢false (sym (is_same-true s t e) ∙ h)

-- the lists of targets and blocks are maps

pub targets-map : (b : Batch) → targets b ≡ map (λ w. w.0) b
targets-map [] = refl
targets-map (w ∷ b) = ap (λ l. w.0 ∷ l) (targets-map b)

pub batch_blocks-map : (b : Batch) → batch_blocks b ≡ map (λ w. w.1) b
batch_blocks-map [] = refl
batch_blocks-map (w ∷ b) = ap (λ l. w.1 ∷ l) (batch_blocks-map b)

pub length-blocks : (b : Batch) → length (batch_blocks b) ≡ length b
length-blocks [] = refl
length-blocks (w ∷ b) = ap suc (length-blocks b)

-- a batch that does not name a target

pub names_place-off : (b : Batch) (t : Target) → ((k : ℕ) → k < length b → get_or (targets b) k no_target ≢ t) → names_place b t.disk t.place ≡ false
names_place-off [] t off = refl
names_place-off (w ∷ b) t off = or_from (is_same w.0 t) (names_place b t.disk t.place)
    (is_same-false w.0 t (off zero (omega arith)))
    (names_place-off b t (λ k below. off (suc k) (omega arith)))

-- no target stands twice
abbrev pub AreApart : List Target → Type 0
AreApart = AllPairs (λ s t. s ≢ t)

pub AreApart-rest : (w : Target × Block) (b : Batch) → AreApart (targets (w ∷ b)) → AreApart (targets b)
AreApart-rest w b apart i j d low high = apart (suc i) (suc j) d (omega arith) (omega arith)

-- none of the others is the first
pub names_place-rest : (w : Target × Block) (b : Batch) → AreApart (targets (w ∷ b)) → names_place b w.0.disk w.0.place ≡ false
names_place-rest w b apart = names_place-off b w.0 (λ k below e.
    let far : suc k < length (targets (w ∷ b)) = (let same = length-targets b in omega arith) in
    apart zero (suc k) no_target (omega arith) far (sym e))

pub names_place-at : (b : Batch) (at : ℕ) (t : Target) → at < length b → get_or (targets b) at no_target ≡ t → names_place b t.disk t.place ≡ true
names_place-at [] at t below is = absurd (omega arith)
names_place-at (w ∷ b) zero t below is = or_left (is_same w.0 t) (names_place b t.disk t.place) (is_same-true w.0 t is)
names_place-at (w ∷ b) (suc at) t below is = or_right (is_same w.0 t) (names_place b t.disk t.place) (names_place-at b at t (omega arith) is)

-- and so is its block
pub target_block-at : (b : Batch) (at : ℕ) → at < length b → Contains b (get_or (targets b) at no_target, get_or (batch_blocks b) at zero_block)
target_block-at b at below = subst (Contains b) (staged_at b at) (Contains-get_or b at (no_target, zero_block) below)
  where
    staged_at : (b : Batch) (at : ℕ) → get_or b at (no_target, zero_block) ≡ (get_or (targets b) at no_target, get_or (batch_blocks b) at zero_block)
    staged_at [] at = refl
    staged_at (w ∷ b) zero = refl
    staged_at (w ∷ b) (suc at) = staged_at b at

-- a place that is named is that of some target
pub names_place-found : (b : Batch) (d p : ℕ) → names_place b d p ≡ true
    → (k : ℕ) × (k < length b) × (get_or (targets b) k no_target ≡ record { disk = d; place = p })
names_place-found [] d p named = absurd (true≢false (sym named))
names_place-found (w ∷ b) d p named = elim (or_cases (w.0.disk == d && w.0.place == p) (names_place b d p) named) [
  | inl here ↦ (zero, omega arith, same_target w.0 (record { disk = d; place = p }) here)
  | inr there ↦ let found = names_place-found b d p there in (suc found.0, omega (arith, found.1), found.2)
]

-- whether a target is on a disk

pub names_disk-at : (b : Batch) (at : ℕ) → at < length b → names_disk b (get_or (targets b) at no_target).disk ≡ true
names_disk-at [] at below = absurd (omega arith)
names_disk-at (w ∷ b) zero below = or_left (w.0.disk == w.0.disk) (names_disk b w.0.disk) (eq-eqb w.0.disk w.0.disk refl)
names_disk-at (w ∷ b) (suc at) below =
    let d = (get_or (targets b) at no_target).disk in
    or_right (w.0.disk == d) (names_disk b d) (names_disk-at b at (omega arith))

pub names_disk-named : (b : Batch) (d p : ℕ) → names_place b d p ≡ true → names_disk b d ≡ true
names_disk-named b d p named =
    let found = names_place-found b d p named in
    subst (λ (t : Target). names_disk b t.disk ≡ true) found.2 (names_disk-at b found.0 found.1)

-- a later target is not the first
first-differs : (w : Target × Block) (b : Batch) (at : ℕ) (t : Target) → at < length b → get_or (targets b) at no_target ≡ t
    → AreApart (targets (w ∷ b)) → is_same w.0 t ≡ false
first-differs w b at t below is apart = is_same-false w.0 t (λ e.
    let high : suc at < length (targets (w ∷ b)) = (let same = length-targets b in omega arith) in
    apart zero (suc at) no_target (omega arith) high (e ∙ sym is))

-- with the block of a target

pub with_target-at : (b : Batch) (at : ℕ) (t : Target) (x : Block) → at < length b → get_or (targets b) at no_target ≡ t
    → AreApart (targets b) → with_target b t x ≡ set b at (t, x)
with_target-at [] at t x below is apart = absurd (omega arith)
with_target-at (w ∷ b) zero t x below is apart = rw (is_same-true w.0 t is) (ap (λ (s : Target). (s, x) ∷ b) is)
with_target-at (w ∷ b) (suc at) t x below is apart =
    rw (first-differs w b at t (omega arith) is apart) (ap (λ (l : Batch). w ∷ l) (with_target-at b at t x (omega arith) is (AreApart-rest w b apart)))

pub with_target-new : (b : Batch) (t : Target) (x : Block) → names_place b t.disk t.place ≡ false → with_target b t x ≡ b ++ (t, x) ∷ []
with_target-new [] t x not = refl
with_target-new (w ∷ b) t x not =
    let parts = or_parts (is_same w.0 t) (names_place b t.disk t.place) not in
    rw parts.0 (ap (λ (l : Batch). w ∷ l) (with_target-new b t x parts.1))

-- what is laid

pub overlaid_block-other : (b : Batch) (d p : ℕ) (below : Block) → names_place b d p ≡ false → overlaid_block b d p below ≡ below
overlaid_block-other [] d p below not = refl
overlaid_block-other (w ∷ b) d p below not =
    let parts = or_parts (w.0.disk == d && w.0.place == p) (names_place b d p) not in
    rw parts.0 (overlaid_block-other b d p below parts.1)

pub overlaid_block-at : (b : Batch) (at : ℕ) (t : Target) (any : Block) → at < length b → get_or (targets b) at no_target ≡ t
    → AreApart (targets b) → overlaid_block b t.disk t.place any ≡ get_or (batch_blocks b) at zero_block
overlaid_block-at [] at t any below is apart = absurd (omega arith)
overlaid_block-at (w ∷ b) zero t any below is apart =
    let not : names_place b t.disk t.place ≡ false = subst (λ (s : Target). names_place b s.disk s.place ≡ false) is (names_place-rest w b apart) in
    rw (is_same-true w.0 t is) (overlaid_block-other b t.disk t.place w.1 not)
overlaid_block-at (w ∷ b) (suc at) t any below is apart =
    rw (first-differs w b at t (omega arith) is apart) (overlaid_block-at b at t any (omega arith) is (AreApart-rest w b apart))
