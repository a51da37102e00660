use Rattle.std.proofs.Common.{◌≡◌, ◌++◌, [], List, ℕ, Bool, true, false, if◌then◌else◌, arith, sym, ap, ◌∙◌, append_assoc}
use Rattle.std.proofs.lemmas.List.{append-nil, length-replicate}
use Rattle.paraid_nbd.proofs.options.put_export.Goals as goal

-- three fields, put one after the other
with_zeros : (a x y z b d e : List ℕ) (short : Bool) → b ≡ a ++ x → d ≡ b ++ y → e ≡ d ++ z → short ≡ false → e ≡ a ++ (x ++ (y ++ (if short then [] else z)))
with_zeros a x y z b d e short first second third is =
    rw is (third ∙ ap (λ (w : List ℕ). w ++ z) (second ∙ ap (λ (w : List ℕ). w ++ y) first) ∙ append_assoc (a ++ x) y z ∙ append_assoc a x (y ++ z))

-- two of them
with_none : (a x y z b d : List ℕ) (short : Bool) → b ≡ a ++ x → d ≡ b ++ y → short ≡ true → d ≡ a ++ (x ++ (y ++ (if short then [] else z)))
with_none a x y z b d short first second is = rw is (second ∙ ap (λ (w : List ℕ). w ++ y) first ∙ append_assoc a x y ∙ ap (λ (w : List ℕ). a ++ (x ++ w)) (sym (append-nil y)))

pub put_u64-requires : goal.put_u64-requires
put_u64-requires c = let room = c.requires in omega (arith, room)

pub put_u16-requires : goal.put_u16-requires
put_u16-requires c = let room = c.requires in let first = c.put_u64.ensures.length in omega (arith, room, first)

pub put_bytes-requires : goal.put_bytes-requires
put_bytes-requires c =
    let room = c.requires in
    let first = c.put_u64.ensures.length in
    let second = c.put_u16.ensures.length in
    let zeros = length-replicate {A = ℕ} 124 0 in
    omega (arith, room, first, second, zeros)

pub returns-then-not-no_zeros-clause-value : goal.returns-then-not-no_zeros-clause-value
returns-then-not-no_zeros-clause-value c = with_zeros _ _ _ _ _ _ _ _ c.put_u64.ensures.value c.put_u16.ensures.value c.put_bytes.ensures.value c.if-not-no_zeros.true

pub returns-then-not-no_zeros-clause-length : goal.returns-then-not-no_zeros-clause-length
returns-then-not-no_zeros-clause-length c =
    let first = c.put_u64.ensures.length in
    let second = c.put_u16.ensures.length in
    let third = c.put_bytes.ensures.length in
    let zeros = length-replicate {A = ℕ} 124 0 in
    omega (arith, first, second, third, zeros)

pub returns-else-not-no_zeros-clause-value : goal.returns-else-not-no_zeros-clause-value
returns-else-not-no_zeros-clause-value c = with_none _ _ _ _ _ _ _ c.put_u64.ensures.value c.put_u16.ensures.value c.if-not-no_zeros.false

pub returns-else-not-no_zeros-clause-length : goal.returns-else-not-no_zeros-clause-length
returns-else-not-no_zeros-clause-length c =
    let first = c.put_u64.ensures.length in
    let second = c.put_u16.ensures.length in
    omega (arith, first, second)
