-- A batch laid target by target.
use Rattle.std.specs.Prelude.{◌≡◌, ℕ, ◌+◌, ◌%◌, ◌<◌, ◌≤◌, ◌==◌, ◌&&◌, nat_lt, Bool, true, false, List, ◌∷◌, length, take, slice_index, if◌then◌else◌}
use Rattle.std.proofs.Common.{refl, sym, ◌∙◌, ap, arith, add-one, drop, drop-cons, get_or, suc}
use Rattle.std.proofs.lemmas.Bool.Decides.{nat_tests}
use Rattle.std.proofs.lemmas.List.{drop_all, get_or-take, get_or_default, length-take, length-take-le}
use Rattle.paraid_record.specs.Targets.{no_target}
use Rattle.paraid_base.specs.declared.block.Block.{Block}
use Rattle.paraid_record.specs.declared.targets.Target.{Target}
use Rattle.paraid_rack.specs.Disks.{Disks}
use Rattle.paraid_image.specs.Sides.{Batch, has_place, stored_block}
use Rattle.paraid_image.specs.Standing.{contents, overlaid_block}
use Rattle.paraid_base.specs.Log.{batch_room, body_place, log_least}
use Rattle.paraid_base.specs.Regions.{map_place_of}
use Rattle.paraid_image.specs.Spot.{map_bit, map_disk}
use Rattle.std.proofs.lemmas.Nat.Bits.{bit_at_above}
use Rattle.paraid_plain.specs.declared.image.Image.{Image}
use Rattle.paraid_plain.specs.declared.statement.Statement.{Statement}
use Rattle.paraid_plain.specs.Statements.{batch_from}
use Rattle.paraid_plain.specs.Views.{block_at, dirty_at, out_at}

-- the batch from its target `at` on, laid over a block
abbrev pub laid_from : (ℕ → Block) → List Target → ℕ → ℕ → ℕ → Block → Block
laid_from log ts d p at b = overlaid_block (batch_from log (body_place at) (drop at ts)) d p b

laid_from-more : (log : ℕ → Block) (ts : List Target) (d p at : ℕ) (t : Target) (b : Block) → at < length ts → t ≡ get_or ts at t
    → laid_from log ts d p at b ≡ laid_from log ts d p (at + 1) (if t.disk == d && t.place == p then log (body_place at) else b)
laid_from-more log ts d p at t b within is =
    let cut : drop at ts ≡ t ∷ drop (suc at) ts = drop-cons ts at t within ∙ ap (λ (x : Target). x ∷ drop (suc at) ts) (sym is) in
    let next : at + 1 ≡ suc at = add-one at in
    let place : body_place (at + 1) ≡ suc (body_place at) = omega arith in
    ap (λ (l : List Target). overlaid_block (batch_from log (body_place at) l) d p b) cut
    ∙ ap (λ (q : ℕ). overlaid_block (batch_from log q (drop (suc at) ts)) d p (if t.disk == d && t.place == p then log (body_place at) else b)) (sym place)
    ∙ ap (λ (n : ℕ). overlaid_block (batch_from log (body_place (at + 1)) (drop n ts)) d p (if t.disk == d && t.place == p then log (body_place at) else b)) (sym next)

laid_from-all : (log : ℕ → Block) (ts : List Target) (d p at : ℕ) (b : Block) → length ts ≤ at → laid_from log ts d p at b ≡ b
laid_from-all log ts d p at b past = ap (λ (l : List Target). overlaid_block (batch_from log (body_place at) l) d p b) (drop_all at ts past)

-- a loop over the first `count` targets of a list
module _ (log : ℕ → Block) (list : List Target) (count d p : ℕ) (long : length list ≡ batch_room) (few : count ≤ batch_room) where
  module _ (at : ℕ) (b new : Block) (l : at < count) where
    abbrev t : Target
    t = get_or list at no_target

    laid_next : (test : Bool) → (t.disk == d && t.place == p) ≡ test → new ≡ (if test then log (body_place at) else b)
        → laid_from log (take count list) d p at b ≡ laid_from log (take count list) d p (at + 1) new
    laid_next test is becomes =
        let whole = length-take-le count list (omega arith) in
        let found : t ≡ get_or (take count list) at t = sym (get_or-take count list at t l ∙ get_or_default list at t no_target (omega arith)) in
        laid_from-more log (take count list) d p at t b (omega arith) found
        ∙ ap (laid_from log (take count list) d p (at + 1)) (rw is (sym becomes))

    pub laid_hit : (test : Bool) → test ≡ (t.disk == d && t.place == p) → test ≡ true → new ≡ log (body_place at)
        → laid_from log (take count list) d p at b ≡ laid_from log (take count list) d p (at + 1) new
    laid_hit test is hit becomes = laid_next true (sym is ∙ hit) becomes

    pub laid_miss : (test : Bool) → test ≡ (t.disk == d && t.place == p) → test ≡ false → new ≡ b
        → laid_from log (take count list) d p at b ≡ laid_from log (take count list) d p (at + 1) new
    laid_miss test is miss becomes = laid_next false (sym is ∙ miss) becomes

pub laid_end : (log : ℕ → Block) (list : List Target) (count d p at : ℕ) (b : Block) → count ≤ at → laid_from log (take count list) d p at b ≡ b
laid_end log list count d p at b past =
    let short = length-take count list in
    laid_from-all log (take count list) d p at b (omega arith)

-- a place past the log that is there
pub contents-there : (i : Disks) (batch : Batch) (d p : ℕ) → log_least ≤ p → has_place i d p ≡ true → contents i batch d p ≡ overlaid_block batch d p (stored_block i d p)
unfolding contents stored_block
contents-there i batch d p past has = let not : nat_lt p log_least ≡ false = grind (arith, nat_tests) in rw (not, has) refl

-- a byte has eight bits
pub dirty_at-above : (image : Image) (says : Statement) (r d : ℕ) → 8 ≤ d → dirty_at image says r d ≡ false
unfolding dirty_at map_bit
dirty_at-above image says r d above =
    let map : Block = block_at image says (map_disk (out_at image says)) (map_place_of says.meta.setup.geometry r) in
    ap (λ (n : ℕ). n == 1) (bit_at_above (slice_index map.bytes (r % 512)) 8 d (map.small (r % 512)) above)
