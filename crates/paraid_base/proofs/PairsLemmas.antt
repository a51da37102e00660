-- Writes of several blocks, and of one.
use Rattle.std.proofs.Common.{◌≡◌, ℕ, ◌+◌, ◌≤◌, ◌<◌, [], ◌∷◌, ◌++◌, List, length, take, Result, Ok, Err, refl, sym, ◌∙◌, ap, arith, zero, suc, get_or, drop, set, inl, inr}
use Rattle.std.specs.Prelude.{All, map, min}
use Rattle.std.proofs.Math.Seq.{drop-cons}
use Rattle.std.proofs.lemmas.List.{ext_get_or, take_more, take-append-drop, get_or-take, length-take, take-take}
use Rattle.paraid_base.proofs.HistoryLemmas.{last_of-append}
use Rattle.std.proofs.lemmas.Bool.{cases_lt}
use Rattle.std.proofs.Props.{props}
use mathlib.Core.HLevel.{is_prop→PathP}
use Rattle.std.proofs.lemmas.List.Elements.{All-head}
use Rattle.paraid_base.specs.declared.block.Block.{Block}
use Rattle.paraid_base.specs.declared.fault.BlockFault.{BlockFault}
use Rattle.paraid_base.specs.declared.fault.BlockFault.TheVariants.{NoBlock as BlockMissing, Halt as BlockHalt}
use Rattle.paraid_base.specs.declared.pairs.Pairs.{Pairs}
use Rattle.paraid_base.specs.BlockAnswers.{RefusesMany, RefusesMissing}
use Rattle.paraid_base.specs.History.{Entry, joined_entries, last_of}
use Rattle.paraid_base.specs.Pairs.{pad_to, pairs_of, pairs_with, single_pair, numbered_blocks}
use Rattle.paraid_base.specs.Xor.{zero_block}

pub same_pairs : (p q : Pairs) → p.count ≡ q.count → p.blocks ≡ q.blocks → p.bytes ≡ q.bytes → p ≡ q
same_pairs p q a b c = λ i. record {
  count = a i;
  blocks = b i;
  bytes = c i;
  some = is_prop→PathP (λ j. 1 ≤ a j) (λ j. hlevel props) p.some q.some i;
  few = is_prop→PathP (λ j. a j ≤ 8) (λ j. hlevel props) p.few q.few i;
  blocks_whole = is_prop→PathP (λ j. length (b j) ≡ 8) (λ j. hlevel props) p.blocks_whole q.blocks_whole i;
  bytes_whole = is_prop→PathP (λ j. length (c j) ≡ 8) (λ j. hlevel props) p.bytes_whole q.bytes_whole i;
  blocks_rest = is_prop→PathP (λ j. (k : ℕ) → a j ≤ k → get_or (b j) k 0 ≡ 0) (λ j. hlevel props) p.blocks_rest q.blocks_rest i;
  bytes_rest = is_prop→PathP (λ j. (k : ℕ) → a j ≤ k → get_or (c j) k zero_block ≡ zero_block) (λ j. hlevel props) p.bytes_rest q.bytes_rest i;
}

pub pairs_of-one : (b : ℕ) (x : Block) → pairs_of (single_pair b x) ≡ (b, x) ∷ []
unfolding pairs_of single_pair
pairs_of-one b x = refl

first_of_one : (count b : ℕ) (x : Block) (before : Entry) (missing : ℕ) (y : Block) (rest : Entry)
    → (b, x) ∷ [] ≡ before ++ (missing, y) ∷ rest → missing ≡ b
first_of_one count b x [] missing y rest e = sym (ap (λ (l : Entry). (get_or l 0 (b, x)).0) e)
first_of_one count b x (p ∷ []) missing y rest e = cc
first_of_one count b x (p ∷ q ∷ ps) missing y rest e = cc

pub refuses_one : {A : Type 0} (count b : ℕ) (x : Block) (result : Result A BlockFault) → RefusesMany count ((b, x) ∷ []) result → RefusesMissing count b result
refuses_one count b x (Ok value) all = All-head (λ (pair : ℕ × Block). pair.0 < count) (b, x) [] all
refuses_one count b x (Err (BlockMissing missing)) first =
    let same = first_of_one count b x first.before missing first.bytes first.rest first.is in
    let m = first.missing in (same, omega (arith, m, same))
refuses_one count b x (Err (BlockHalt halt)) u = u

pub length-zipped : (blocks : List ℕ) (bytes : List Block) → length blocks ≡ length bytes → length (numbered_blocks blocks bytes) ≡ length blocks
length-zipped [] bytes e = refl
length-zipped (b ∷ blocks) [] e = cc
length-zipped (b ∷ blocks) (x ∷ bytes) e = ap suc (length-zipped blocks bytes (omega arith))

pub get_or-zipped : (blocks : List ℕ) (bytes : List Block) (i b : ℕ) (x : Block) → length blocks ≡ length bytes → get_or (numbered_blocks blocks bytes) i (b, x) ≡ (get_or blocks i b, get_or bytes i x)
get_or-zipped [] [] i b x e = refl
get_or-zipped [] (y ∷ bytes) i b x e = cc
get_or-zipped (c ∷ blocks) [] i b x e = cc
get_or-zipped (c ∷ blocks) (y ∷ bytes) zero b x e = refl
get_or-zipped (c ∷ blocks) (y ∷ bytes) (suc i) b x e = get_or-zipped blocks bytes i b x (omega arith)

pub all_one : {X : Type 0} (P : X → Type 0) (x : X) → P x → All P (x ∷ [])
all_one P x holds zero d l = holds
all_one P x holds (suc k) d l = let no : ⊥ = omega (arith, l) in absurd no

-- one pair more
pub take-zipped : (blocks : List ℕ) (bytes : List Block) (i b : ℕ) (x : Block) → length blocks ≡ length bytes → i < length blocks
    → take (i + 1) (numbered_blocks blocks bytes) ≡ take i (numbered_blocks blocks bytes) ++ (get_or blocks i b, get_or bytes i x) ∷ []
take-zipped blocks bytes i b x e l =
    let long = length-zipped blocks bytes e in
    take_more (numbered_blocks blocks bytes) i (b, x) (omega (arith, long))
    ∙ ap (λ (p : ℕ × Block). take i (numbered_blocks blocks bytes) ++ p ∷ []) (get_or-zipped blocks bytes i b x e)

-- a pair written at the end of those that count is one more
zipped_set : (blocks : List ℕ) (bytes : List Block) (i b : ℕ) (x : Block) → length blocks ≡ length bytes → i < length blocks
    → take (suc i) (numbered_blocks (set blocks i b) (set bytes i x)) ≡ take i (numbered_blocks blocks bytes) ++ (b, x) ∷ []
zipped_set [] bytes i b x e l = let no : ⊥ = omega arith in absurd no
zipped_set (c ∷ blocks) [] i b x e l = let no : ⊥ = omega arith in absurd no
zipped_set (c ∷ blocks) (y ∷ bytes) zero b x e l = refl
zipped_set (c ∷ blocks) (y ∷ bytes) (suc i) b x e l = ap (λ (p : Entry). (c, y) ∷ p) (zipped_set blocks bytes i b x (omega arith) (omega arith))

pub take-zipped-set : (blocks : List ℕ) (bytes : List Block) (i b : ℕ) (x : Block) → length blocks ≡ length bytes → i < length blocks
    → take (i + 1) (numbered_blocks (set blocks i b) (set bytes i x)) ≡ take i (numbered_blocks blocks bytes) ++ (b, x) ∷ []
take-zipped-set blocks bytes i b x e l =
    let next : i + 1 ≡ suc i = omega arith in
    ap (λ (n : ℕ). take n (numbered_blocks (set blocks i b) (set bytes i x))) next ∙ zipped_set blocks bytes i b x e l

-- what the writes from number `i` on do is what that write does and then the rest
pub last_of-drop : (b : ℕ) (bytes : Block) (writes : List Pairs) (i : ℕ) (d : Pairs) → i < length writes
    → last_of b bytes (joined_entries (map pairs_of (drop i writes))) ≡ last_of b (last_of b bytes (pairs_of (get_or writes i d))) (joined_entries (map pairs_of (drop (i + 1) writes)))
last_of-drop b bytes writes i d l =
    let next : suc i ≡ i + 1 = omega arith in
    ap (λ (x : List Pairs). last_of b bytes (joined_entries (map pairs_of x))) (drop-cons writes i d l)
    ∙ last_of-append b bytes (pairs_of (get_or writes i d)) (joined_entries (map pairs_of (drop (suc i) writes)))
    ∙ ap (λ (n : ℕ). last_of b (last_of b bytes (pairs_of (get_or writes i d))) (joined_entries (map pairs_of (drop n writes)))) next

-- the pair at place `i` between those before it and those after it
pub split-zipped : (blocks : List ℕ) (bytes : List Block) (n i b : ℕ) (x : Block) → length blocks ≡ length bytes → n ≤ length blocks → i < n
    → take n (numbered_blocks blocks bytes) ≡ take i (numbered_blocks blocks bytes) ++ (get_or blocks i b, get_or bytes i x) ∷ drop (suc i) (take n (numbered_blocks blocks bytes))
split-zipped blocks bytes n i b x e few l =
    let z = numbered_blocks blocks bytes in
    let long = length-zipped blocks bytes e in
    let inside : i < length (take n (numbered_blocks blocks bytes)) = rw (length-take n (numbered_blocks blocks bytes)) (omega (arith, long, few, l)) in
    sym (take-append-drop i (take n z))
    ∙ ap (λ (p : Entry). p ++ drop i (take n z)) (take-take i n z (omega (arith, l)))
    ∙ ap (λ (p : Entry). take i z ++ p) (drop-cons (take n z) i (b, x) inside)
    ∙ ap (λ (p : ℕ × Block). take i z ++ p ∷ drop (suc i) (take n z)) (get_or-take n z i (b, x) l ∙ get_or-zipped blocks bytes i b x e)

-- of each member that counts, the pair is read off the entry
pair_of : (p : Pairs) (i : ℕ) → i < p.count → get_or (pairs_of p) i (0, zero_block) ≡ (get_or p.blocks i 0, get_or p.bytes i zero_block)
unfolding pairs_of
pair_of p i l = get_or-take p.count (numbered_blocks p.blocks p.bytes) i (0, zero_block) l ∙ get_or-zipped p.blocks p.bytes i 0 zero_block (p.blocks_whole ∙ sym p.bytes_whole)

pub length-pairs_of : (p : Pairs) → length (pairs_of p) ≡ p.count
unfolding pairs_of
length-pairs_of p =
    let long = length-zipped p.blocks p.bytes (p.blocks_whole ∙ sym p.bytes_whole) in
    let whole = p.blocks_whole in
    let few = p.few in
    length-take p.count (numbered_blocks p.blocks p.bytes) ∙ omega (arith, long, whole, few)

-- values with the same pairs are equal
pub pairs_decide : (p q : Pairs) → pairs_of p ≡ pairs_of q → p ≡ q
pairs_decide p q e =
    let count : p.count ≡ q.count = sym (length-pairs_of p) ∙ ap (λ (x : Entry). length x) e ∙ length-pairs_of q in
    let same : (i : ℕ) → i < p.count → (get_or p.blocks i 0, get_or p.bytes i zero_block) ≡ (get_or q.blocks i 0, get_or q.bytes i zero_block) =
    λ i l. sym (pair_of p i l) ∙ ap (λ (x : Entry). get_or x i (0, zero_block)) e ∙ pair_of q i (omega (arith, l, count)) in
    same_pairs p q count
    (ext_get_or 0 p.blocks q.blocks (p.blocks_whole ∙ sym q.blocks_whole) (λ i l.
    elim (cases_lt i p.count) [
      | inl inside ↦ ap (λ (x : ℕ × Block). x.0) (same i inside)
      | inr past ↦ p.blocks_rest i past ∙ sym (q.blocks_rest i (omega (arith, past, count)))
    ]))
    (ext_get_or zero_block p.bytes q.bytes (p.bytes_whole ∙ sym q.bytes_whole) (λ i l.
    elim (cases_lt i p.count) [
      | inl inside ↦ ap (λ (x : ℕ × Block). x.1) (same i inside)
      | inr past ↦ p.bytes_rest i past ∙ sym (q.bytes_rest i (omega (arith, past, count)))
    ]))

numbered_blocks-padded : (n : ℕ) (e : Entry) → length e ≤ n → take (length e) (numbered_blocks (pad_to 0 n (map (λ (p : ℕ × Block). p.0) e)) (pad_to zero_block n (map (λ (p : ℕ × Block). p.1) e))) ≡ e
numbered_blocks-padded n [] l = refl
numbered_blocks-padded zero (p ∷ ps) l = let no : ⊥ = omega (arith, l) in absurd no
numbered_blocks-padded (suc n) (p ∷ ps) l = ap (λ (x : Entry). p ∷ x) (numbered_blocks-padded n ps (omega (arith, l)))

-- the value of an entry has its pairs
pub pairs_of-with : (e : Entry) → 1 ≤ length e → length e ≤ 8 → pairs_of (pairs_with e) ≡ e
unfolding pairs_of pairs_with
pairs_of-with [] some few = let no : ⊥ = omega (arith, some) in absurd no
pairs_of-with (p ∷ ps) some few =
    let eight : min 8 (length (p ∷ ps)) ≡ length (p ∷ ps) = omega (arith, few) in
    ap (λ (n : ℕ). take n (numbered_blocks (pad_to 0 8 (map (λ (x : ℕ × Block). x.0) (p ∷ ps))) (pad_to zero_block 8 (map (λ (x : ℕ × Block). x.1) (p ∷ ps))))) eight
    ∙ numbered_blocks-padded 8 (p ∷ ps) few

-- a value is that of its pairs
pub pairs_with-pairs_of : (p : Pairs) → pairs_with (pairs_of p) ≡ p
pairs_with-pairs_of p =
    let n = length-pairs_of p in
    let some = p.some in
    let few = p.few in
    pairs_decide _ _ (pairs_of-with (pairs_of p) (omega (arith, n, some)) (omega (arith, n, few)))

-- a value of one pair
pub one_from_pairs : (p : Pairs) (b : ℕ) (x : Block) → pairs_of p ≡ (b, x) ∷ [] → p ≡ single_pair b x
one_from_pairs p b x e = pairs_decide p (single_pair b x) (e ∙ sym (pairs_of-one b x))

-- the pairs of a value whose first member alone counts
pub pairs_of-first : (p : Pairs) (b : ℕ) (x : Block) → p.count ≡ 1 → get_or p.blocks 0 0 ≡ b → get_or p.bytes 0 zero_block ≡ x → pairs_of p ≡ (b, x) ∷ []
unfolding pairs_of
pairs_of-first p b x count block bytes =
    let whole = p.blocks_whole in
    ap (λ (n : ℕ). take n (numbered_blocks p.blocks p.bytes)) count
    ∙ take-zipped p.blocks p.bytes 0 0 zero_block (p.blocks_whole ∙ sym p.bytes_whole) (omega (arith, whole))
    ∙ ap (λ (n : ℕ). (n, get_or p.bytes 0 zero_block) ∷ []) block ∙ ap (λ (y : Block). (b, y) ∷ []) bytes
