-- What was asked of a device for its table, from one call to several.
use Rattle.std.proofs.Common.{◌≡◌, ℕ, ◌+◌, ◌-◌, ◌*◌, ◌<◌, ◌≤◌, ◌++◌, ◌∷◌, [], List, zero, suc, refl, sym, ◌∙◌, ap, subst, arith, append_assoc}
use Rattle.std.specs.Prelude.{◌==◌, if◌then◌else◌}
use Rattle.std.specs.List.{range_with_len}
use Rattle.std.proofs.lemmas.Bool.Decides.{nat_tests}
use Rattle.std.proofs.lemmas.List.{append-nil}
use Rattle.paraid_base.specs.declared.block.Block.{Block}
use Rattle.paraid_base.specs.declared.event.Answer.{Answer}
use Rattle.paraid_base.specs.declared.event.Answer.TheVariants.{Value, Halted}
use Rattle.paraid_base.specs.declared.event.Event.{Event}
use Rattle.paraid_base.specs.declared.event.Event.TheVariants.{Read}
use Rattle.paraid_base.specs.declared.fault.Halt.{Halt}
use Rattle.paraid_base.specs.BlockAnswers.{Answers}
use Rattle.paraid_volume.specs.TableCalls.{AreHaltedReads, AreZerosTo, KeepsThen, owned_blocks, table_reads}

pub one_more : (n : ℕ) → suc n ≡ n + 1
one_more n = omega arith

module _ {S : Type 0} (kept : S → S → Answers → Type 0) where
  -- no call was made
  pub KeepsThen-none : (are : Answers → Type 0) (a : S) → are [] → KeepsThen kept are a a
  KeepsThen-none are a is = record { made = []; all = is; grows = λ first events k. subst (kept first a) (sym (append-nil events)) k }

  -- one call was made
  pub KeepsThen-one : (are : Answers → Type 0) (a b : S) (e : Event) (answer : Answer) → are ((e, answer) ∷ [])
      → ((first : S) (events : Answers) → kept first a events → kept first b (events ++ (e, answer) ∷ [])) → KeepsThen kept are a b
  KeepsThen-one are a b e answer is keeps = record { made = (e, answer) ∷ []; all = is; grows = keeps }

  -- some calls were made, and then others
  pub KeepsThen-then : (one two both : Answers → Type 0) (a b c : S) → ((x y : Answers) → one x → two y → both (x ++ y))
      → KeepsThen kept one a b → KeepsThen kept two b c → KeepsThen kept both a c
  KeepsThen-then one two both a b c join f g = record {
    made = f.made ++ g.made;
    all = join f.made g.made f.all g.all;
    grows = λ first events k. subst (kept first c) (append_assoc events f.made g.made) (g.grows first (events ++ f.made) (f.grows first events k));
  }

  pub KeepsThen-weaker : (one other : Answers → Type 0) (a b : S) → ((x : Answers) → one x → other x) → KeepsThen kept one a b → KeepsThen kept other a b
  KeepsThen-weaker one other a b into f = record { made = f.made; all = into f.made f.all; grows = f.grows }

  -- these calls were made
  pub KeepsThen-all : (are : Answers → Type 0) (a b : S) (made : Answers) → are made → ((first : S) (events : Answers) → kept first a events → kept first b (events ++ made)) → KeepsThen kept are a b
  KeepsThen-all are a b made is keeps = record { made = made; all = is; grows = keeps }

  -- reads of a table, and then one more
  pub reads_more : (old new : ℕ → Block) (n : ℕ) (a b c : S) → ((k : ℕ) → k < n → new k ≡ old k)
      → ((first : S) (events : Answers) → kept first a events → kept first b (events ++ table_reads old n))
      → ((first : S) (events : Answers) → kept first b events → kept first c (events ++ (Read n, Value n (new n)) ∷ []))
      → (first : S) (events : Answers) → kept first a events → kept first c (events ++ table_reads new (n + 1))
  reads_more old new n a b c same f g first events k =
      subst (λ (m : ℕ). kept first c (events ++ table_reads new m)) (one_more n) (subst (λ (x : Answers). kept first c (events ++ (x ++ (Read n, Value n (new n)) ∷ []))) (sym (reads_same new old n same))
      (subst (kept first c) (append_assoc events (table_reads old n) ((Read n, Value n (new n)) ∷ [])) (g first (events ++ table_reads old n) (f first events k))))
    where
      reads_same : (x y : ℕ → Block) (m : ℕ) → ((k : ℕ) → k < m → x k ≡ y k) → table_reads x m ≡ table_reads y m
      reads_same x y zero each = refl
      reads_same x y (suc m) each =
          ap (λ (z : Answers). z ++ (Read m, Value m (x m)) ∷ []) (reads_same x y m (λ k l. each k (omega (arith, l))))
          ∙ ap (λ (z : Block). table_reads y m ++ (Read m, Value m z) ∷ []) (each m (omega arith))

  -- reads of a table, and then one that gave a halt
  pub reads_halted : (content : ℕ → Block) (n : ℕ) (halt : Halt) (a b c : S) → n < 6
      → ((first : S) (events : Answers) → kept first a events → kept first b (events ++ table_reads content n))
      → ((first : S) (events : Answers) → kept first b events → kept first c (events ++ (Read n, Halted halt) ∷ []))
      → KeepsThen kept (AreHaltedReads halt) a c
  reads_halted content n halt a b c below f g = record {
    made = table_reads content n ++ (Read n, Halted halt) ∷ [];
    all = record { content = content; number = n; below = below; are = refl };
    grows = λ first events k. subst (kept first c) (append_assoc events (table_reads content n) ((Read n, Halted halt) ∷ [])) (g first (events ++ table_reads content n) (f first events k));
  }

-- ---- zeros

pub zeros_joined : (a b : List ℕ) (x y : Answers) → AreZerosTo a x → AreZerosTo b y → AreZerosTo (a ++ b) (x ++ y)
zeros_joined [] b [] y f g = g
zeros_joined [] b (e ∷ x) y f g = absurd f
zeros_joined (block ∷ a) b [] y f g = absurd f
zeros_joined (block ∷ a) b (e ∷ x) y f g = (f.0, f.1, zeros_joined a b x y f.2 g)

range_more : (a n j : ℕ) → a + n ≡ j → range_with_len a n ++ j ∷ [] ≡ range_with_len a (suc n)
range_more a zero j is = ap (λ (x : ℕ). x ∷ []) (let e = is in omega (arith, e))
range_more a (suc n) j is = ap (λ (x : List ℕ). a ∷ x) (range_more (a + 1) n j (let e = is in omega (arith, e)))

-- zeros to blocks up to `at`, and then to `at`
pub zeros_more : (start at : ℕ) → start ≤ at → (x y : Answers) → AreZerosTo (range_with_len start (at - start)) x → AreZerosTo (at ∷ []) y → AreZerosTo (range_with_len start (at + 1 - start)) (x ++ y)
zeros_more start at order x y f g =
    let long : suc (at - start) ≡ at + 1 - start = omega (arith, order) in
    let end : start + (at - start) ≡ at = omega (arith, order) in
    subst (λ (n : ℕ). AreZerosTo (range_with_len start n) (x ++ y)) long
    (subst (λ (blocks : List ℕ). AreZerosTo blocks (x ++ y)) (range_more start (at - start) at end) (zeros_joined (range_with_len start (at - start)) (at ∷ []) x y f g))

pub zeros_none : (n : ℕ) → AreZerosTo (range_with_len n (n - n)) []
zeros_none n = let none : 0 ≡ n - n = omega arith in subst (λ (k : ℕ). AreZerosTo (range_with_len n k) []) none tt

-- an extent of this owner, or of another
chosen : (owner id : ℕ) (blocks : List ℕ) → owner ≡ id → ◌≡◌ {A = List ℕ} (if owner == id then blocks else []) blocks
chosen owner id blocks is = grind (arith, nat_tests, is)

left_out : (owner id : ℕ) (blocks : List ℕ) → (owner ≡ id → ⊥) → ◌≡◌ {A = List ℕ} (if owner == id then blocks else []) []
left_out owner id blocks not = grind (arith, nat_tests, not)

pub zeros_extents : (owner : ℕ → ℕ) (id size n : ℕ) (x y : Answers) → AreZerosTo (owned_blocks owner id size n) x → AreZerosTo (if owner n == id then range_with_len (6 + n * size) size else []) y
    → AreZerosTo (owned_blocks owner id size (n + 1)) (x ++ y)
zeros_extents owner id size n x y f g =
    subst (λ (m : ℕ). AreZerosTo (owned_blocks owner id size m) (x ++ y)) (one_more n) (zeros_joined (owned_blocks owner id size n) (if owner n == id then range_with_len (6 + n * size) size else []) x y f g)

pub span_size : (start size : ℕ) → start + size - start ≡ size
span_size start size = omega arith

pub zeros_owned : (owner id start size long : ℕ) (x : Answers) → owner ≡ id → long ≡ size → AreZerosTo (range_with_len start long) x → AreZerosTo (if owner == id then range_with_len start size else []) x
zeros_owned owner id start size long x owned same f =
    subst (λ (blocks : List ℕ). AreZerosTo blocks x) (sym (chosen owner id (range_with_len start size) owned)) (subst (λ (n : ℕ). AreZerosTo (range_with_len start n) x) same f)

pub zeros_other : (owner id : ℕ) (blocks : List ℕ) → (owner ≡ id → ⊥) → AreZerosTo (if owner == id then blocks else []) []
zeros_other owner id blocks not = subst (λ (x : List ℕ). AreZerosTo x []) (sym (left_out owner id blocks not)) tt
