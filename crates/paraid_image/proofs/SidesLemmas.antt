-- A log disk says one thing.
use Rattle.std.specs.Prelude.{◌≡◌, ◌≢◌, ℕ, ◌+◌, ◌*◌, ◌<◌, ◌≤◌, ◌^◌, Bool, true, false, List, [], ◌∷◌, slice_index, slice_index_or}
use Rattle.std.proofs.Common.{refl, sym, ◌∙◌, ap, subst, arith, inl, inr, zero, suc}
use Rattle.std.proofs.lemmas.Bool.{cases_Bool, false≢true}
use Rattle.paraid_base.specs.declared.block.Block.{Block}
use Rattle.paraid_base.specs.declared.geometry.Geometry.{Geometry}
use Rattle.paraid_base.specs.Regions.{disk_size, region_size}
use Rattle.paraid_base.specs.Xor.{zero_block}
use Rattle.paraid_base.specs.Sums.{sum_before}
use Rattle.paraid_base.proofs.RegionsLemmas.{region_size_gear, region_size_none, stripe_count_small}
use Rattle.paraid_rack.specs.Disks.{Disks}
use Rattle.paraid_record.specs.declared.meta.Meta.{Meta}
use Rattle.paraid_record.specs.Meta.{meta_bytes, heading_bytes}
use Rattle.paraid_record.specs.Spelling.{zero_filled}
use Rattle.paraid_record.proofs.OneSpelling.{meta_bytes-cancel, targets_bytes-cancel}
use Rattle.paraid_record.proofs.TargetLemmas.{All-fits}
use Rattle.paraid_image.specs.Sides.{AreBlocksLogged, Batch, IsSide, LogState, Says, SaysBy, Side, Spells, is_open, stored_block, targets}
use Rattle.paraid_image.specs.Sides.Side.{absent, blank, bad, formed}

sum_before-most : (f : ℕ → ℕ) (c n : ℕ) → ((k : ℕ) → k < n → f k ≤ c) → sum_before f n ≤ n * c
unfolding sum_before
sum_before-most f c zero h = omega arith
sum_before-most f c (suc n) h =
    let before = sum_before-most f c n (λ k l. h k (omega arith)) in
    let last = h n (omega arith) in
    let more : suc n * c ≡ n * c + c = grind arith in
    omega arith

region_size-small : (g : Geometry) (a : ℕ) → region_size g a ≤ 400000
region_size-small g a = elim (cases_Bool (slice_index_or g.gears a false)) [
  | inl is ↦
      let low = g.gears_low a is in
      let high = g.gears_high a is in
      let few = g.disks_high in
      let rows = g.rows_high in
      let size = region_size_gear g a is in
      let small = stripe_count_small g.disks g.rows a low high few rows in
      omega arith
  | inr not ↦ let size = region_size_none g a not in omega arith
]

pub disk_size-small : (g : Geometry) → disk_size g < 2 ^ 32
disk_size-small g =
    let few = g.disks_high in
    let rows = g.rows_high in
    let sum = sum_before-most (region_size g) 400000 (g.disks + 1) (λ k l. region_size-small g k) in
    omega arith

Spells-same : (b : Block) (m n : Meta) → Spells b m → Spells b n → m ≡ n
Spells-same b m n p q = meta_bytes-cancel m n p.in_range q.in_range (sym p.bytes ∙ q.bytes)

AreBlocksLogged-same : (log : ℕ → Block) (p : ℕ) (a b : Batch) → targets a ≡ targets b → AreBlocksLogged log p a → AreBlocksLogged log p b → a ≡ b
AreBlocksLogged-same log p [] [] e x y = refl
AreBlocksLogged-same log p [] (w ∷ b) e x y = cc
AreBlocksLogged-same log p (v ∷ a) [] e x y = cc
AreBlocksLogged-same log p (v ∷ a) (w ∷ b) e x y =
    let target : v.0 ≡ w.0 = cc in
    let others : targets a ≡ targets b = cc in
    let block = sym x.0 ∙ y.0 in
    let rest = AreBlocksLogged-same log (suc p) a b others x.1 y.1 in
    λ t. (target t, block t) ∷ rest t

SaysBy-same : (opened : Bool) (log : ℕ → Block) (m n : Meta) (a b : Batch) → SaysBy opened log m a → SaysBy opened log n b → (m ≡ n) × (a ≡ b)
SaysBy-same false log m n a b p q = (Spells-same (log 1) m n p.meta q.meta, p.empty ∙ sym q.empty)
SaysBy-same true log m n a b p q =
    let fits = All-fits m.setup.geometry (targets a) p.in_range (disk_size-small m.setup.geometry) in
    let fits_too = All-fits n.setup.geometry (targets b) q.in_range (disk_size-small n.setup.geometry) in
    let same = targets_bytes-cancel (targets a) (targets b) p.in_range.few q.in_range.few fits fits_too (sym p.list ∙ q.list) in
    (Spells-same (log 2) m n p.meta q.meta, AreBlocksLogged-same log 4 a b same p.blocks q.blocks)

-- a log disk says one thing
pub Says-same : (i : Disks) (x : ℕ) (a b : LogState) → Says i x a → Says i x b → a ≡ b
Says-same i x a b p q =
    let opened : a.opened ≡ b.opened = sym p.gate ∙ q.gate in
    let log = subst (λ (o : Bool). SaysBy o (stored_block i x) b.meta b.batch) (sym opened) q.log in
    let same = SaysBy-same a.opened (stored_block i x) a.meta b.meta a.batch b.batch p.log log in
    λ t. record { opened = opened t; meta = same.0 t; batch = same.1 t }

meta_bytes-first : (m : Meta) → slice_index (meta_bytes m) 0 ≡ 80
unfolding meta_bytes zero_filled heading_bytes
meta_bytes-first m = refl

zero_block-first : slice_index zero_block.bytes 0 ≡ 0
unfolding zero_block
zero_block-first = refl

Spells-not_zeroed : (b : Block) (m : Meta) → Spells b m → b ≢ zero_block
Spells-not_zeroed b m p e =
    let first = meta_bytes-first m in
    let zero_first = zero_block-first in
    let same : slice_index (meta_bytes m) 0 ≡ slice_index zero_block.bytes 0 = ap (λ (xs : List ℕ). slice_index xs 0) (sym p.bytes ∙ ap (λ (c : Block). c.bytes) e) in
    omega arith

pub blank_says_nothing : (i : Disks) (x : ℕ) (said : LogState) → is_open (stored_block i x 0) ≡ false → stored_block i x 1 ≡ zero_block → Says i x said → ⊥
blank_says_nothing i x said shut zero_meta p =
    let closed : said.opened ≡ false = sym p.gate ∙ shut in
    let log = subst (λ (o : Bool). SaysBy o (stored_block i x) said.meta said.batch) closed p.log in
    Spells-not_zeroed (stored_block i x 1) said.meta log.meta zero_meta

abbrev pub is_formed : Side → Bool
is_formed absent = false
is_formed blank = false
is_formed bad = false
is_formed (formed said) = true

-- a side that is not well formed says nothing
pub says_nothing : (i : Disks) (x : ℕ) (s : Side) → IsSide i x s → is_formed s ≡ false → (said : LogState) → Says i x said → ⊥
says_nothing i x absent is not said p = false≢true (sym is ∙ p.present)
says_nothing i x blank is not said p = blank_says_nothing i x said is.1 is.2 p
says_nothing i x bad is not said p = is.silent said p
says_nothing i x (formed other) is not said p = absurd (false≢true (sym not))
