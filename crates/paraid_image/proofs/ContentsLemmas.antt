-- What the blocks past the log are at one place.
use Rattle.std.specs.Prelude.{◌≡◌, ℕ, ◌≤◌, nat_lt, Bool, true, false, if◌then◌else◌}
use Rattle.std.proofs.Common.{refl, ◌∙◌, ap, arith}
use Rattle.std.proofs.lemmas.Bool.Decides.{nat_tests}
use Rattle.paraid_base.specs.Log.{log_least}
use Rattle.paraid_base.specs.Xor.{zero_block}
use Rattle.paraid_rack.specs.Disks.{Disks}
use Rattle.paraid_image.specs.Sides.{Batch, has_place}
use Rattle.paraid_image.specs.Standing.{contents, overlaid_block}

-- a place past the log that is there
pub contents_here : (i : Disks) (batch : Batch) (d p : ℕ) → log_least ≤ p → has_place i d p ≡ true → contents i batch d p ≡ overlaid_block batch d p (i.block d p)
unfolding contents
contents_here i batch d p far there =
    let past : nat_lt p log_least ≡ false = grind (arith, nat_tests) in
    ap (λ (t : Bool). if t then zero_block else (if has_place i d p then overlaid_block batch d p (i.block d p) else zero_block)) past
    ∙ ap (λ (t : Bool). if t then overlaid_block batch d p (i.block d p) else zero_block) there

-- a place that is not there
pub contents_none : (i : Disks) (batch : Batch) (d p : ℕ) → has_place i d p ≡ false → contents i batch d p ≡ zero_block
unfolding contents
contents_none i batch d p none = go (nat_lt p log_least)
  where
    go : (b : Bool) → (if b then zero_block else (if has_place i d p then overlaid_block batch d p (i.block d p) else zero_block)) ≡ zero_block
    go true = refl
    go false = ap (λ (t : Bool). if t then overlaid_block batch d p (i.block d p) else zero_block) none
