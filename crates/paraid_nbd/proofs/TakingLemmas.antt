-- How what is taken adds up over calls
use Rattle.std.specs.Prelude.{Err, Ok, Result, replicate}
use Rattle.std.proofs.Common.{◌≡◌, ◌≢◌, ℕ, ◌+◌, ◌-◌, ◌^◌, ◌<◌, ◌≤◌, List, [], ◌++◌, Option, length, take, drop, arith, sym, ◌∙◌, ap, length-append, subst}
use Rattle.std.proofs.Math.Seq.{take-append-add}
use Rattle.std.proofs.lemmas.List.{length-replicate, length-take-le, take-append-le, length-drop}
use borrow.Rule.Slice.PartMut.{put_mid}
use Rattle.paraid_base.proofs.ToldLemmas.{Gives-none, Gives-then, HasRisen-sooner}
use Rattle.paraid_nbd.specs.declared.ending.NbdEnd.{NbdEnd}
use Rattle.paraid_nbd.specs.declared.ending.NbdEnd.TheVariants.{Done, Aborted, Closed, Protocol, TooLong, Source, Sink, NoMemory}
use Rattle.paraid_nbd.specs.Taking.{Takes, Lacks, IsCut}
use Rattle.paraid_base.specs.Told.{stream_most}

pub later_then : (a b c : ℕ) → a ≤ b → b ≤ c → a ≤ c
later_then a b c l k = omega arith

pub later_none : (a : ℕ) → a ≤ a
later_none a = omega arith

-- a count that stands has not fallen
pub stood : {a b : ℕ} → b ≡ a → a ≤ b
stood is = omega (arith, is)

-- an answer that is no error is not this one
pub ok_apart : {A E : Type 0} {x : A} {e : E} → ◌≢◌ {A = Result A E} (Ok x) (Err e)
ok_apart is = cc

-- an error that is passed on is not this one, where the answer is not
pub passed : {A B E P : Type 0} {r : Result A E} {x e s : E} → r ≡ Err x → x ≡ e → (◌≢◌ {A = Result B E} (Err e) (Err s) → P) → r ≢ Err s → P
passed is same still not = still (λ h. not cc)

-- so many of the zeros of a buffer are as many
pub cut_length : (n most : ℕ) → n ≤ most → length {A = ℕ} (take n (replicate most 0)) ≡ n
cut_length n most few = length-take-le {A = ℕ} n (replicate most 0) (subst (λ (m : ℕ). n ≤ m) (sym (length-replicate {A = ℕ} most 0)) few)

pub Takes-none : (o : Option (List ℕ)) (n : ℕ) → Takes o o n n []
Takes-none o n = record { given = Gives-none o; count = omega arith }

pub Takes-then : {a b c : Option (List ℕ)} {i j k : ℕ} {p q : List ℕ} → Takes a b i j p → Takes b c j k q → Takes a c i k (p ++ q)
Takes-then {a} {b} {c} {i} {j} {k} {p} {q} t u = record {
  given = Gives-then a b c p q t.given u.given;
  count = omega (arith, t.count, u.count, length-append p q);
}

-- what may still be taken falls
pub room_falls : {a b : Option (List ℕ)} {i j : ℕ} {p : List ℕ} → Takes a b i j p → 0 < length p → j ≤ stream_most → stream_most - j < stream_most - i
room_falls t some limit = omega (arith, t.count, some, limit)

pub IsCut-sooner : (e : NbdEnd) (after : Option (List ℕ)) (taken f g h : ℕ) → f ≤ g → IsCut e after taken g h → IsCut e after taken f h
IsCut-sooner Closed after taken f g h l x = x
IsCut-sooner (TooLong bytes) after taken f g h l x = x
IsCut-sooner Source after taken f g h l x = (HasRisen-sooner f g h l x.0, x.1)
IsCut-sooner Done after taken f g h l x = x
IsCut-sooner Aborted after taken f g h l x = x
IsCut-sooner (Protocol at) after taken f g h l x = x
IsCut-sooner Sink after taken f g h l x = x
IsCut-sooner NoMemory after taken f g h l x = x

pub Lacks-then : {a b c : Option (List ℕ)} {i j k m most f g h : ℕ} {p : List ℕ} {e : NbdEnd} → Takes a b i j p → Lacks b c j k m g h e → length p + m ≤ most → f ≤ g
    → Lacks a c i k most f h e
Lacks-then {a} {b} {c} {i} {j} {k} {m} {most} {f} {g} {h} {p} {e} t l within later = record {
  got = p ++ l.got;
  takes = Takes-then t l.takes;
  few = omega (arith, length-append p l.got, l.few);
  cause = IsCut-sooner e c k f g h later l.cause;
}

pub filled_more : (a k n : ℕ) (xs ys : List ℕ) → a ≤ length xs → n ≤ length ys → take (a + n) (put_mid a k xs ys) ≡ take a xs ++ take n ys
filled_more a k n xs ys within few =
    let e : length (take a xs) ≡ a = length-take-le a xs within in
    let rest : List ℕ = drop k (drop a xs) in
    subst (λ (m : ℕ). take (m + n) (take a xs ++ (ys ++ rest)) ≡ take a xs ++ take n ys) e (take-append-add (take a xs) (ys ++ rest) n ∙ ap (λ t. take a xs ++ t) (take-append-le n ys rest few))

pub length-filled : (a : ℕ) (xs ys : List ℕ) → length ys ≡ length xs - a → a ≤ length xs → length (put_mid a (length xs - a) xs ys) ≡ length xs
length-filled a xs ys many within =
    let e : length (take a xs) ≡ a = length-take-le a xs within in
    omega (arith, many, e, length-append (take a xs) (ys ++ drop (length xs - a) (drop a xs)), length-append ys (drop (length xs - a) (drop a xs)), length-drop (length xs - a) (drop a xs), length-drop a xs)

pub length-put_mid : (a k : ℕ) (xs ys : List ℕ) → length ys ≡ k → a + k ≤ length xs → length (put_mid a k xs ys) ≡ length xs
length-put_mid a k xs ys many within =
    let e : length (take a xs) ≡ a = length-take-le a xs (omega arith) in
    omega (arith, many, e, length-append (take a xs) (ys ++ drop k (drop a xs)), length-append ys (drop k (drop a xs)), length-drop k (drop a xs), length-drop a xs)

pub Lacks-of : {a b : Option (List ℕ)} {i j f h : ℕ} {e : NbdEnd} (m n : ℕ) → m ≡ n → Lacks a b i j m f h e → Lacks a b i j n f h e
Lacks-of m n is l = record { got = l.got; takes = l.takes; few = omega (arith, is, l.few); cause = l.cause }
