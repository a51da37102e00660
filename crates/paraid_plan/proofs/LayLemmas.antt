-- One place of a table of blocks that is changed, and batches that are laid.
use Rattle.std.specs.Prelude.{◌≡◌, ◌≢◌, ℕ, ◌==◌, ◌&&◌, ◌⊎◌, Bool, true, false, [], ◌∷◌, ◌++◌, if◌then◌else◌}
use Rattle.std.proofs.Common.{refl, sym, arith, inl, inr}
use Rattle.std.proofs.lemmas.Bool.{cases_eq}
use Rattle.std.proofs.lemmas.Bool.Decides.{nat_tests}
use Rattle.paraid_base.specs.declared.block.Block.{Block}
use Rattle.paraid_dirty.specs.Table.{table_with_bit}
use Rattle.paraid_plan.specs.WriteTargets.{overlaid_blocks, target_if}
use Rattle.paraid_image.specs.Sides.{Batch}
use Rattle.paraid_image.specs.Standing.{Contents, overlaid_block}

unfoldable pub put : (ℕ → ℕ → Block) → ℕ → ℕ → Block → ℕ → ℕ → Block
put f x y b p q = if p == x && q == y then b else f p q

pub cases_both : (q r e d : ℕ) → ((q ≡ r) × (e ≡ d)) ⊎ (q ≡ r → e ≡ d → ⊥)
cases_both q r e d = elim (cases_eq q r) [
  | inl i ↦ elim (cases_eq e d) [ inl j ↦ inl (i, j) | inr j ↦ inr (λ _ k. j k) ]
  | inr i ↦ inr (λ k _. i k)
]

test_at : {A : Type 0} (a b : A) (p x q y : ℕ) → p ≡ x → q ≡ y → (if p == x && q == y then a else b) ≡ a
test_at a b p x q y i j = grind (arith, nat_tests)

test_off : {A : Type 0} (a b : A) (p x q y : ℕ) → (p ≡ x → q ≡ y → ⊥) → (if p == x && q == y then a else b) ≡ b
test_off a b p x q y not = elim (cases_eq p x) [
  | inl i ↦ let j : q ≢ y = not i in grind (arith, nat_tests)
  | inr i ↦ grind (arith, nat_tests)
]

pub put_at : (f : ℕ → ℕ → Block) (x y : ℕ) (b : Block) (p q : ℕ) → p ≡ x → q ≡ y → put f x y b p q ≡ b
unfolding put
put_at f x y b p q i j = test_at b (f p q) p x q y i j

pub put_off : (f : ℕ → ℕ → Block) (x y : ℕ) (b : Block) (p q : ℕ) → (p ≡ x → q ≡ y → ⊥) → put f x y b p q ≡ f p q
unfolding put
put_off f x y b p q not = test_off b (f p q) p x q y not

pub changed_at : (dirty : ℕ → ℕ → Bool) (r d : ℕ) (bit : Bool) (q e : ℕ) → q ≡ r → e ≡ d → table_with_bit dirty r d bit q e ≡ bit
changed_at dirty r d bit q e i j = test_at bit (dirty q e) q r e d i j

pub changed_off : (dirty : ℕ → ℕ → Bool) (r d : ℕ) (bit : Bool) (q e : ℕ) → (q ≡ r → e ≡ d → ⊥) → table_with_bit dirty r d bit q e ≡ dirty q e
changed_off dirty r d bit q e not = test_off bit (dirty q e) q r e d not

pub lay_at : (written : Bool) (x y : ℕ) (b : Block) (f : Contents) (d p : ℕ) → written ≡ true → d ≡ x → p ≡ y → overlaid_blocks (target_if written x y b) f d p ≡ b
unfolding overlaid_blocks
lay_at true x y b f d p is i j = test_at b (f d p) x d y p (sym i) (sym j)
lay_at false x y b f d p is i j = cc

pub lay_off : (written : Bool) (x y : ℕ) (b : Block) (f : Contents) (d p : ℕ) → (d ≡ x → p ≡ y → ⊥) → overlaid_blocks (target_if written x y b) f d p ≡ f d p
unfolding overlaid_blocks
lay_off true x y b f d p not = test_off b (f d p) x d y p (λ i j. not (sym i) (sym j))
lay_off false x y b f d p not = refl

pub lay_none : (written : Bool) (x y : ℕ) (b : Block) (f : Contents) → written ≡ false → overlaid_blocks (target_if written x y b) f ≡ f
unfolding overlaid_blocks
lay_none true x y b f is = cc
lay_none false x y b f is = refl

pub laid_append : (first second : Batch) (d p : ℕ) (b : Block) → overlaid_block (first ++ second) d p b ≡ overlaid_block second d p (overlaid_block first d p b)
laid_append [] second d p b = refl
laid_append (w ∷ first) second d p b = laid_append first second d p _

pub overlaid_blocks-append : (first second : Batch) (f : Contents) → overlaid_blocks (first ++ second) f ≡ overlaid_blocks second (overlaid_blocks first f)
unfolding overlaid_blocks
overlaid_blocks-append first second f = λ t. λ d p. (laid_append first second d p (f d p)) t

pub lay_nil : (f : Contents) → overlaid_blocks [] f ≡ f
unfolding overlaid_blocks
lay_nil f = refl
