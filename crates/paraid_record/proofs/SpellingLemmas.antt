-- Numbers in bytes, read back and told apart
use Rattle.std.specs.Prelude.{◌≡◌, ℕ, ◌+◌, ◌-◌, ◌^◌, ◌<◌, List, [], ◌∷◌, ◌++◌, length, take, drop, get_or, refl, set}
use Rattle.std.proofs.Common.{arith, ap, sym, ◌∙◌, zero, suc, add-one}
use Rattle.std.proofs.lemmas.List.{append_assoc, append-nil, length-append, take_all, take_more, take_more_set}
use Rattle.byteorder.specs.Endian.{big_number}
use Rattle.byteorder.specs.Numbers.{big_number-reads_back, length-bytes_high_first}
use Rattle.paraid_record.specs.Spelling.{big_endian, shorts, ReadsNumber}
use Rattle.paraid_record.specs.Meta.{heading_bytes}

pub length-big_endian : (width x : ℕ) → length (big_endian width x) ≡ width
unfolding big_endian
length-big_endian width x = length-bytes_high_first width x

pub drop-append_front : (xs ys : List ℕ) → drop (length xs) (xs ++ ys) ≡ ys
drop-append_front [] ys = refl
drop-append_front (x ∷ xs) ys = drop-append_front xs ys

pub drop-big_endian : (width x : ℕ) (rest : List ℕ) → drop width (big_endian width x ++ rest) ≡ rest
drop-big_endian width x rest =
    ap (λ (n : ℕ). drop n (big_endian width x ++ rest)) (sym (length-big_endian width x)) ∙ drop-append_front (big_endian width x) rest

pub number-big_endian : (width x : ℕ) (rest : List ℕ) → x < 256 ^ width → big_number width (big_endian width x ++ rest) ≡ x
unfolding big_endian
number-big_endian width x rest fits = big_number-reads_back width x rest fits

pub big_endian-cancel : (width x y : ℕ) (r s : List ℕ) → x < 256 ^ width → y < 256 ^ width
    → big_endian width x ++ r ≡ big_endian width y ++ s → (x ≡ y) × (r ≡ s)
big_endian-cancel width x y r s fx fy e = (
  sym (number-big_endian width x r fx) ∙ ap (big_number width) e ∙ number-big_endian width y s fy,
  sym (drop-big_endian width x r) ∙ ap (drop width) e ∙ drop-big_endian width y s,
)

pub reads_back : (width : ℕ) (bytes : List ℕ) → ReadsNumber width bytes (take (length bytes - width) (drop width bytes)) (big_number width bytes)
reads_back width bytes x rest fits e =
    let value : big_number width bytes ≡ x = ap (big_number width) e ∙ number-big_endian width x rest fits in
    let left : drop width bytes ≡ rest = ap (drop width) e ∙ drop-big_endian width x rest in
    let long : length bytes ≡ width + length rest = ap length e ∙ length-append (big_endian width x) rest ∙ ap (λ (n : ℕ). n + length rest) (length-big_endian width x) in
    (value, rw left (take_all _ rest (omega arith)))

pub big_endian-byte : (x : ℕ) → x < 256 → big_endian 1 x ≡ x ∷ []
unfolding big_endian
big_endian-byte x fits = let e : x ≡ 0 + x = omega arith in grind arith

pub ruleset byte_steps = (big_endian-byte, length-big_endian)

pub shorts-append : (xs ys : List ℕ) → shorts (xs ++ ys) ≡ shorts xs ++ shorts ys
shorts-append [] ys = refl
shorts-append (x ∷ xs) ys = ap (λ (s : List ℕ). big_endian 2 x ++ s) (shorts-append xs ys) ∙ sym (append_assoc (big_endian 2 x) (shorts xs) (shorts ys))

pub shorts-more : (xs : List ℕ) (i : ℕ) → i < length xs → shorts (take (i + 1) xs) ≡ shorts (take i xs) ++ big_endian 2 (get_or xs i 0)
shorts-more xs i l =
    ap shorts (take_more xs i 0 l) ∙ shorts-append (take i xs) (get_or xs i 0 ∷ []) ∙ ap (λ (s : List ℕ). shorts (take i xs) ++ s) (append-nil _)

pub heading-dropped : (version : ℕ) (rest : List ℕ) → drop 8 (heading_bytes version ++ rest) ≡ big_endian 2 version ++ rest
unfolding heading_bytes
heading-dropped version rest = ap (λ (s : List ℕ). s ++ rest) (append-nil (big_endian 2 version))

pub shorts-drop : (xs : List ℕ) (i : ℕ) → i < length xs → shorts (drop i xs) ≡ big_endian 2 (get_or xs i 0) ++ shorts (drop (suc i) xs)
shorts-drop [] i l = absurd (omega arith)
shorts-drop (x ∷ xs) zero l = refl
shorts-drop (x ∷ xs) (suc i) l = shorts-drop xs i (omega arith)

-- one more number of two bytes is read into a list
pub shorts_step : (xs rest bytes left into : List ℕ) (i value : ℕ) → i < length xs → length into ≡ length xs
    → get_or xs i 0 < 256 ^ 2 → ReadsNumber 2 bytes left value
    → bytes ≡ shorts (drop i xs) ++ rest → take i into ≡ take i xs
    → (left ≡ shorts (drop (i + 1) xs) ++ rest) × (take (i + 1) (set into i value) ≡ take (i + 1) xs)
shorts_step xs rest bytes left into i value l same fits reads e f =
    let next : bytes ≡ big_endian 2 (get_or xs i 0) ++ (shorts (drop (suc i) xs) ++ rest) =
    e ∙ ap (λ (s : List ℕ). s ++ rest) (shorts-drop xs i l) ∙ append_assoc (big_endian 2 (get_or xs i 0)) (shorts (drop (suc i) xs)) rest in
    let read = reads (get_or xs i 0) (shorts (drop (suc i) xs) ++ rest) fits next in (
      read.1 ∙ ap (λ (n : ℕ). shorts (drop n xs) ++ rest) (sym (add-one i)),
      take_more_set into i value (omega arith) ∙ ap (λ (s : List ℕ). s ++ value ∷ []) f ∙ ap (λ (n : ℕ). take i xs ++ n ∷ []) read.0 ∙ sym (take_more xs i 0 l),
    )
