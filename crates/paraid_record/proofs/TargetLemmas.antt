-- Lists of targets and their bytes
use Rattle.std.specs.Prelude.{◌≡◌, ℕ, ◌+◌, ◌-◌, ◌^◌, ◌<◌, List, [], ◌∷◌, ◌++◌, All, Contains, get_or, length, set, take, drop, replicate, refl}
use Rattle.std.proofs.Common.{arith, ap, sym, ◌∙◌, zero, suc, add-one}
use Rattle.std.proofs.lemmas.List.{append_assoc, append-nil, get_or_default, length-take-le, take_more, take_more_set}
use Rattle.paraid_base.specs.declared.geometry.Geometry.{Geometry}
use Rattle.paraid_base.specs.Log.{batch_room}
use Rattle.paraid_base.specs.Regions.{disk_size}
use Rattle.paraid_record.specs.declared.targets.Target.{Target}
use Rattle.paraid_record.specs.Spelling.{big_endian, zero_filled, ReadsNumber}
use Rattle.paraid_record.specs.Targets.{AreTargets, FitsBytes, no_target, places_bytes, targets_bytes}

places_bytes-append : (xs ys : List Target) → places_bytes (xs ++ ys) ≡ places_bytes xs ++ places_bytes ys
places_bytes-append [] ys = refl
places_bytes-append (x ∷ xs) ys =
    let rest = places_bytes-append xs ys in
    ap (λ (s : List ℕ). big_endian 1 x.disk ++ (big_endian 4 x.place ++ s)) rest
    ∙ simp append_assoc

-- one more target is written
pub places_bytes-more : (ts : List Target) (i : ℕ) → i < length ts
    → places_bytes (take (i + 1) ts) ≡ (places_bytes (take i ts) ++ big_endian 1 (get_or ts i no_target).disk) ++ big_endian 4 (get_or ts i no_target).place
places_bytes-more ts i l =
    ap places_bytes (take_more ts i no_target l)
    ∙ places_bytes-append (take i ts) (get_or ts i no_target ∷ [])
    ∙ simp (append_assoc, append-nil)

pub places_bytes-drop : (ts : List Target) (i : ℕ) → i < length ts
    → places_bytes (drop i ts) ≡ big_endian 1 (get_or ts i no_target).disk ++ (big_endian 4 (get_or ts i no_target).place ++ places_bytes (drop (suc i) ts))
places_bytes-drop [] i l = absurd (omega arith)
places_bytes-drop (t ∷ ts) zero l = refl
places_bytes-drop (t ∷ ts) (suc i) l = places_bytes-drop ts i (omega arith)

-- one more target is read into a list
pub places_step : (ts list : List Target) (rest bytes middle left : List ℕ) (i disk place : ℕ) → i < length ts → i < length list → All FitsBytes ts
    → ReadsNumber 1 bytes middle disk → ReadsNumber 4 middle left place
    → bytes ≡ places_bytes (drop i ts) ++ rest → take i list ≡ take i ts
    → (left ≡ places_bytes (drop (i + 1) ts) ++ rest) × (take (i + 1) (set list i (record { disk = disk; place = place })) ≡ take (i + 1) ts)
places_step ts list rest bytes middle left i disk place l r fits read_disk read_place e f =
    let fit = fits i no_target l in
    let next : bytes ≡ big_endian 1 (get_or ts i no_target).disk ++ (big_endian 4 (get_or ts i no_target).place ++ (places_bytes (drop (suc i) ts) ++ rest)) =
    e ∙ ap (λ (s : List ℕ). s ++ rest) (places_bytes-drop ts i l) ∙ simp append_assoc in
    let first = read_disk (get_or ts i no_target).disk _ fit.0 next in
    let second = read_place (get_or ts i no_target).place _ fit.1 first.1 in
    let target : ◌≡◌ {A = Target} (record { disk = disk; place = place }) (get_or ts i no_target) = λ j. record { disk = first.0 j; place = second.0 j } in (
      second.1 ∙ ap (λ (n : ℕ). places_bytes (drop n ts) ++ rest) (sym (add-one i)),
      take_more_set list i (record { disk = disk; place = place }) r
          ∙ ap (λ (s : List Target). s ++ record { disk = disk; place = place } ∷ []) f
          ∙ ap (λ (t : Target). take i ts ++ t ∷ []) target
          ∙ sym (take_more ts i no_target l),
    )

pub drop-set_front : (list : List Target) (i : ℕ) (t : Target) → drop (suc i) (set list i t) ≡ drop (suc i) list
drop-set_front [] i t = refl
drop-set_front (x ∷ list) zero t = refl
drop-set_front (x ∷ list) (suc i) t = drop-set_front list i t

drop-more : (list : List Target) (i : ℕ) → drop (suc i) list ≡ drop 1 (drop i list)
drop-more [] zero = refl
drop-more [] (suc i) = refl
drop-more (x ∷ list) zero = refl
drop-more (x ∷ list) (suc i) = drop-more list i

-- what is past the targets that were read stays as it was
pub rest_step : (list : List Target) (i : ℕ) (t : Target) → i < batch_room → drop i list ≡ replicate (batch_room - i) no_target
    → drop (i + 1) (set list i t) ≡ replicate (batch_room - (i + 1)) no_target
rest_step list i t l e =
    let n : batch_room - i ≡ suc (batch_room - (i + 1)) = omega arith in
    ap (λ (k : ℕ). drop k (set list i t)) (add-one i)
    ∙ drop-set_front list i t
    ∙ drop-more list i
    ∙ ap (drop 1) (e ∙ ap (λ (k : ℕ). replicate k no_target) n)

get_or-take_below : (ts : List Target) (i n : ℕ) (d : Target) → i < n → get_or (take n ts) i d ≡ get_or ts i d
get_or-take_below [] i zero d l = refl
get_or-take_below [] i (suc n) d l = refl
get_or-take_below (t ∷ ts) i zero d l = absurd (omega arith)
get_or-take_below (t ∷ ts) zero (suc n) d l = refl
get_or-take_below (t ∷ ts) (suc i) (suc n) d l = get_or-take_below ts i n d (omega arith)

-- a target that stands before another one is among those before it
pub stands_before : (ts : List Target) (i at : ℕ) (d : Target) → i < at → at < length ts → get_or ts i d ≡ get_or ts at d
    → Contains (take at ts) (get_or ts at no_target)
stands_before ts i at d less l e =
    let few : length (take at ts) ≡ at = length-take-le at ts (omega arith) in
    let inside : i < length (take at ts) = omega arith in
    let here : i < length ts = omega arith in (
      i,
      inside,
      get_or-take_below ts i at (get_or ts at no_target) less ∙ get_or_default ts i (get_or ts at no_target) d here ∙ e ∙ get_or_default ts at d no_target l,
    )

pub All-fits : (g : Geometry) (ts : List Target) → AreTargets g ts → disk_size g < 2 ^ 32 → All FitsBytes ts
All-fits g ts targets small = λ k d l.
    let t = targets.each k d l in
    let n = g.disks_high in
    let disk = t.disk in
    let within = t.within in
    (omega arith, omega arith)

pub targets-parts : (ts : List Target) → targets_bytes ts ≡ big_endian 2 (length ts) ++ (places_bytes ts ++ replicate (512 - length (big_endian 2 (length ts) ++ places_bytes ts)) 0)
unfolding targets_bytes zero_filled
targets-parts ts = append_assoc (big_endian 2 (length ts)) (places_bytes ts) _
