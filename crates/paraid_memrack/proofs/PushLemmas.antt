-- A list that is filled by pushes, one for each element of another list.
use Rattle.std.proofs.Common.{◌≡◌, ℕ, zero, suc, ◌+◌, ◌<◌, ◌≤◌, List, [], ◌∷◌, ◌++◌, length, map, take, get_or, replicate, refl, sym, ◌∙◌, ap, add-one}
use Rattle.std.proofs.lemmas.List.{length_push, length-map, length-take-le, map_push, map_more, take_more}

pub length_pushed : {A : Type 0} (xs ys : List A) (x : A) → ys ≡ xs ++ x ∷ [] → length ys ≡ length xs + 1
length_pushed xs ys x is = ap length is ∙ length_push xs x

pub map_pushed : {A B : Type 0} (f : A → B) (xs ys : List A) (x : A) (y : B) → ys ≡ xs ++ x ∷ [] → f x ≡ y → map f ys ≡ map f xs ++ y ∷ []
map_pushed {A} {B} f xs ys x y is same = ap (map f) is ∙ map_push f xs x ∙ ap (λ (z : B). map f xs ++ z ∷ []) same

-- one more push, of what has the value of the next element
pub map_goes_on : {A B C : Type 0} (f : A → B) (g : C → B) (xs ys : List A) (x : A) (zs : List C) (i : ℕ) (z : C) → ys ≡ xs ++ x ∷ [] → f x ≡ g z → i < length zs → z ≡ get_or zs i z
    → map f xs ≡ map g (take i zs) → map f ys ≡ map g (take (i + 1) zs)
map_goes_on {A} {B} {C} f g xs ys x zs i z is same within read before =
    map_pushed f xs ys x (g z) is same
    ∙ ap (λ (l : List B). l ++ g z ∷ []) before
    ∙ ap (λ (c : C). map g (take i zs) ++ g c ∷ []) read
    ∙ sym (map_more g zs i z within)

-- how many were pushed
pub length_so_far : {A B : Type 0} (g : A → B) (ys : List B) (zs : List A) (i : ℕ) → i ≤ length zs → ys ≡ map g (take i zs) → length ys ≡ i
length_so_far g ys zs i within is = ap length is ∙ length-map (take i zs) g ∙ length-take-le i zs within

pub length_made : {A B C : Type 0} (f : A → B) (g : C → B) (xs : List A) (zs : List C) (i : ℕ) → i ≤ length zs → map f xs ≡ map g (take i zs) → length xs ≡ i
length_made f g xs zs i within is = sym (length-map xs f) ∙ length_so_far g (map f xs) zs i within is

-- one more push, of the next element itself
pub goes_on : {A : Type 0} (xs ys : List A) (x : A) (zs : List A) (i : ℕ) (z : A) → ys ≡ xs ++ x ∷ [] → x ≡ z → i < length zs → z ≡ get_or zs i z → xs ≡ take i zs → ys ≡ take (i + 1) zs
goes_on {A} xs ys x zs i z is same within read before =
    is ∙ ap (λ (l : List A). l ++ x ∷ []) before ∙ ap (λ (y : A). take i zs ++ y ∷ []) (same ∙ read) ∙ sym (take_more zs i z within)

-- one more push, of what is made of the next element
pub made_goes_on : {A B : Type 0} (g : A → B) (xs ys : List B) (x : B) (zs : List A) (i : ℕ) (z : A) → ys ≡ xs ++ x ∷ [] → x ≡ g z → i < length zs → z ≡ get_or zs i z
    → xs ≡ map g (take i zs) → ys ≡ map g (take (i + 1) zs)
made_goes_on {A} {B} g xs ys x zs i z is same within read before =
    is
    ∙ ap (λ (l : List B). l ++ x ∷ []) before
    ∙ ap (λ (y : B). map g (take i zs) ++ y ∷ []) (same ∙ ap g read)
    ∙ sym (map_more g zs i z within)

replicate_end : {A : Type 0} (n : ℕ) (x : A) → replicate n x ++ x ∷ [] ≡ replicate (suc n) x
replicate_end zero x = refl
replicate_end {A} (suc n) x = ap (λ (l : List A). x ∷ l) (replicate_end n x)

-- one more push of the same
pub same_goes_on : {A : Type 0} (xs ys : List A) (x : A) (n : ℕ) (y : A) → ys ≡ xs ++ x ∷ [] → x ≡ y → xs ≡ replicate n y → ys ≡ replicate (n + 1) y
same_goes_on {A} xs ys x n y is same before =
    is ∙ ap (λ (l : List A). l ++ x ∷ []) before ∙ ap (λ (z : A). replicate n y ++ z ∷ []) same ∙ replicate_end n y ∙ ap (λ (m : ℕ). replicate m y) (sym (add-one n))
