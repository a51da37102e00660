-- The least period of a block
use Rattle.std.proofs.Common.{◌≡◌, ℕ, zero, suc, ◌+◌, ◌-◌, ◌%◌, ◌<◌, ◌≤◌, List, length, take, drop, get_or, Bool, true, false, sym, ap, ◌∙◌, arith, inl, inr, length-drop}
use Rattle.std.specs.Prelude.{◌≢◌, slice_index}
use Rattle.std.proofs.lemmas.Bool.{both_ways, cases_Bool, cases_lt, cases_order, eq-eqb, cond-false, cond-true}
use Rattle.std.proofs.lemmas.List.{get_or-drop, get_or-take, length-take-le}
use Rattle.std.proofs.lemmas.Slice.Eq.{bytes_eq-Decides}
use Rattle.std.proofs.Math.Nat.{add-mod_left, mod-eq-sub-mod, mod-eq_of_lt}
use Rattle.std.proofs.lemmas.Nat.{mod_below}
use Rattle.paraid_base.specs.declared.block.Block.{Block}
use Rattle.paraid_trace.specs.BlockTexts.{IsBlockText, block_text, is_period, least_from, period_of}
use Rattle.memchr.specs.Find.{Nowhere, Passes, is_byte}
use Rattle.hex.specs.Hex.{encode_lower}
use Rattle.paraid_trace.specs.Repeats.{Repeats}
use Rattle.paraid_trace.proofs.RepeatsLemmas.{same_list}

-- no number from 1 up to `p` is a period
abbrev pub NoneBelow : List ℕ → ℕ → Type 0
NoneBelow bytes p = (q : ℕ) → 1 ≤ q → q < p → is_period bytes q ≡ false

least_from-is : (test : ℕ → Bool) (p n m : ℕ) → p ≤ m → m ≤ p + n → ((q : ℕ) → p ≤ q → q < m → test q ≡ false) → (m < p + n → test m ≡ true) → least_from test p n ≡ m
least_from-is test p zero m low high none here = omega arith
least_from-is test p (suc n) m low high none here =
    elim (cases_lt p m) [
      | inl below ↦ cond-false _ _ _ (none p (omega arith) below)
          ∙ least_from-is test (p + 1) n m (omega arith) (omega arith) (λ q le lt. none q (omega arith) lt) (λ lt. here (omega arith))
      | inr at ↦
          let e : p ≡ m = omega arith in
          let passes : test p ≡ true = ap test e ∙ here (omega arith) in
          cond-true _ _ _ passes ∙ e
    ]

pub period_of-is : (bytes : List ℕ) (p : ℕ) → 1 ≤ p → p ≤ 512 → NoneBelow bytes p → (p < 512 → is_period bytes p ≡ true) → p ≡ period_of bytes
unfolding period_of
period_of-is bytes p low high none here = sym (least_from-is (is_period bytes) 1 511 p low (omega arith) none (λ lt. here (omega arith)))

-- a period carries each byte to the place that many before it
carried : (bytes : List ℕ) (p k : ℕ) → is_period bytes p ≡ true → p ≤ k → k < 512 → get_or bytes k 0 ≡ get_or bytes (k - p) 0
carried bytes p k h le lt =
    let same = (bytes_eq-Decides (drop p bytes) (take (512 - p) bytes)).0 h in
    let at = ap (λ l. get_or l (k - p) 0) same in
    let there : p + (k - p) ≡ k = omega arith in
    let front = get_or-take (512 - p) bytes (k - p) 0 (omega arith) in
    let back = get_or-drop p bytes (k - p) 0 in
    sym (ap (λ i. get_or bytes i 0) there) ∙ sym back ∙ at ∙ front

-- a place whose byte is not the first one is no period
pub no_period : (bytes : List ℕ) (p : ℕ) → p < 512 → get_or bytes p 0 ≢ get_or bytes 0 0 → false ≡ is_period bytes p
no_period bytes p lt differs = elim (cases_Bool (is_period bytes p)) [
  | inl yes' ↦ absurd (differs (carried bytes p p yes' (omega arith) lt ∙ ap (λ i. get_or bytes i 0) (omega arith)))
  | inr no' ↦ sym no'
]

-- places that a search for the first byte has passed are no periods
pub passed_place : (bytes : List ℕ) (p n more q : ℕ) → Nowhere (Passes (is_byte (get_or bytes 0 0)) (take n (drop p bytes))) 0 more
    → more ≤ n → p ≤ q → q < p + more → q < 512 → is_period bytes q ≡ false
passed_place bytes p n more q nowhere within from below lt =
    let there : p + (q - p) ≡ q = omega arith in
    let read = get_or-take n (drop p bytes) (q - p) 0 (omega arith) ∙ get_or-drop p bytes (q - p) 0 ∙ ap (λ i. get_or bytes i 0) there in
    sym (no_period bytes q lt (λ same. nowhere (q - p) (omega arith) (omega arith) (eq-eqb _ _ (read ∙ same))))

pub NoneBelow-next : (bytes : List ℕ) (p next : ℕ) → is_period bytes p ≡ false → ((q : ℕ) → p + 1 ≤ q → q < next → is_period bytes q ≡ false) → NoneBelow bytes p → NoneBelow bytes next
NoneBelow-next bytes p next fails passed none q from below = elim (cases_order q p) [
  | inl same ↦ ap (is_period bytes) same ∙ fails
  | inr (inl before) ↦ none q from before
  | inr (inr after) ↦ passed q (omega arith) below
]

reduced : (bytes : List ℕ) (p n k : ℕ) → 1 ≤ p → is_period bytes p ≡ true → k < n → k < 512 → get_or bytes k 0 ≡ get_or bytes (k % p) 0
reduced bytes p zero k low h within lt = absurd (omega arith)
reduced bytes p (suc n) k low h within lt = elim (cases_lt k p) [
  | inl below ↦ ap (λ i. get_or bytes i 0) (sym (mod-eq_of_lt below))
  | inr above ↦
      let again = reduced bytes p n (k - p) low h (omega arith) (omega arith) in
      carried bytes p k h above lt ∙ again ∙ ap (λ i. get_or bytes i 0) (sym (mod-eq-sub-mod above))
]

-- the first bytes of a period repeat to the block
pub Repeats-period : (block : Block) (p : ℕ) → 1 ≤ p → p ≤ 512 → (p < 512 → is_period block.bytes p ≡ true) → Repeats (take p block.bytes) block
Repeats-period block p low high h = record { each = each }
  where
    front : length (take p block.bytes) ≡ p
    front = length-take-le p block.bytes (omega (arith, block.whole))

    place : (k : ℕ) → k < 512 → get_or block.bytes k 0 ≡ get_or block.bytes (k % p) 0
    place k lt = elim (cases_lt p 512) [
      | inl short ↦ reduced block.bytes p (suc k) k low (h short) (omega arith) lt
      | inr long ↦ ap (λ i. get_or block.bytes i 0) (sym (mod-eq_of_lt (omega arith)))
    ]

    each : (k : ℕ) → k < 512 → slice_index block.bytes k ≡ slice_index (take p block.bytes) (k % length (take p block.bytes))
    each k lt = rw front (place k lt ∙ sym (get_or-take p block.bytes (k % p) 0 (mod_below k p low)))

-- 1 is a period where all bytes are the first one, and only there
pub one_byte_tested : (bytes : List ℕ) (test : Bool) → length bytes ≡ 512 → (test ≡ true → (k : ℕ) → k < 512 → get_or bytes k 0 ≡ get_or bytes 0 0)
    → (((k : ℕ) → k < 512 → get_or bytes k 0 ≡ get_or bytes 0 0) → test ≡ true) → test ≡ is_period bytes 1
one_byte_tested bytes test size same one = elim (cases_Bool (is_period bytes 1)) [
  | inl yes' ↦ one (λ k lt. reduced bytes 1 (suc k) k (omega arith) yes' (omega arith) lt ∙ ap (λ i. get_or bytes i 0) (omega arith)) ∙ sym yes'
  | inr no' ↦ elim (cases_Bool test) [
    | inl passes ↦ absurd (both_ways _ no' (period (same passes)))
    | inr fails ↦ fails ∙ sym no'
  ]
]
  where
    front : length (take (512 - 1) bytes) ≡ 512 - 1
    front = length-take-le (512 - 1) bytes (omega (arith, size))

    each : ((k : ℕ) → k < 512 → get_or bytes k 0 ≡ get_or bytes 0 0) → (k : ℕ) → k < length (take (512 - 1) bytes) → get_or (drop 1 bytes) k 0 ≡ get_or (take (512 - 1) bytes) k 0
    each all k lt =
        let below : k < 512 - 1 = omega (arith, lt, front) in
        get_or-drop 1 bytes k 0 ∙ all (1 + k) (omega arith) ∙ sym (all k (omega arith)) ∙ sym (get_or-take (512 - 1) bytes k 0 below)

    period : ((k : ℕ) → k < 512 → get_or bytes k 0 ≡ get_or bytes 0 0) → is_period bytes 1 ≡ true
    period all = (bytes_eq-Decides (drop 1 bytes) (take (512 - 1) bytes)).1 (same_list _ _ (omega (arith, size, front, length-drop 1 bytes)) (each all))

-- the length of a list that repeats to the block is a period
pub period-from_Repeats : (block : Block) (other : List ℕ) → 0 < length other → length other ≤ 512 → Repeats other block → is_period block.bytes (length other) ≡ true
period-from_Repeats block other some high h =
    (bytes_eq-Decides (drop (length other) block.bytes) (take (512 - length other) block.bytes)).1 (same_list _ _ sizes each)
  where
    front : length (take (512 - length other) block.bytes) ≡ 512 - length other
    front = length-take-le (512 - length other) block.bytes (omega (arith, block.whole))

    sizes : length (drop (length other) block.bytes) ≡ length (take (512 - length other) block.bytes)
    sizes = omega (arith, block.whole, front, length-drop (length other) block.bytes)

    each : (k : ℕ) → k < length (take (512 - length other) block.bytes) → get_or (drop (length other) block.bytes) k 0 ≡ get_or (take (512 - length other) block.bytes) k 0
    each k lt =
        let below : k < 512 - length other = omega (arith, front) in
        let far = h.each (length other + k) (omega arith) in
        let near = h.each k (omega arith) in
        let turn = ap (λ i. get_or other i 0) (add-mod_left (length other) k) in
        get_or-drop (length other) block.bytes k 0 ∙ far ∙ turn ∙ sym near ∙ sym (get_or-take (512 - length other) block.bytes k 0 below)

-- no shorter list repeats to the block
pub Repeats-long : (block : Block) (p : ℕ) → p ≤ 512 → NoneBelow block.bytes p → (other : List ℕ) → 0 < length other → Repeats other block → p ≤ length other
Repeats-long block p high none other some h = elim (cases_lt (length other) p) [
  | inl short ↦
      let yes' = period-from_Repeats block other some (omega arith) h in
      let no' = none (length other) (omega arith) short in
      absurd (both_ways _ no' yes')
  | inr long ↦ long
]

pub block_text-is : (block : Block) (p : ℕ) → p ≡ period_of block.bytes → block_text block ≡ encode_lower (take p block.bytes)
unfolding block_text
block_text-is block p e = ap (λ n. encode_lower (take n block.bytes)) (sym e)

pub IsBlockText-period : (block : Block) (p : ℕ) → p ≡ period_of block.bytes → 1 ≤ p → p ≤ 512 → Repeats (take p block.bytes) block
    → ((other : List ℕ) → 0 < length other → Repeats other block → p ≤ length other) → IsBlockText (block_text block) block
IsBlockText-period block p e low high repeats least =
    let front = length-take-le p block.bytes (omega (arith, block.whole)) in
    record {
      pattern = take p block.bytes;
      spelt = block_text-is block p e;
      some = omega arith;
      repeats = repeats;
      shortest = λ other some h. rw front (least other some h);
    }
