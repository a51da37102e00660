-- The last samples that windows hold.
use Rattle.std.proofs.Common.{◌≡◌, ℕ, ◌+◌, ◌-◌, ◌<◌, ◌≤◌, zero, suc, Bool, true, false, List, [], ◌∷◌, ◌++◌, length, drop, length-drop, Some, None, refl, sym, ap, ◌∙◌, subst, arith, if◌then◌else◌}
use Rattle.std.specs.Prelude.{max, min, nat_lt}
use Rattle.std.proofs.lemmas.Bool.Decides.{nat_tests}
use Rattle.std.proofs.lemmas.List.{drop-drop}
use Rattle.circular_buffer.specs.Buffer.{keep_last}
use Rattle.paraid_base.specs.declared.geometry.Geometry.{Geometry}
use Rattle.paraid_base.specs.Gears.{first_from, is_gear, last_below, next_higher, next_lower}
use Rattle.paraid_gear.specs.declared.three_windows.Windows.{Windows}
use Rattle.paraid_gear.specs.ThreeWindows.{HoldLastSamples, lengths_of}
use Rattle.paraid_record.specs.declared.meta.Setup.{Setup}
use Rattle.paraid_serve.specs.Causes.{longest}
use Rattle.paraid_array.specs.Lasting.{longer, samples_held}

-- all of them, where there are no more
keep_all : (n : ℕ) (xs : List ℕ) → length xs ≤ n → keep_last n xs ≡ xs
keep_all n xs few = ap (λ (k : ℕ). drop k xs) (none (length xs) few)
  where
    none : (l : ℕ) → l ≤ n → l - n ≡ 0
    none l few = omega (arith, few)

length-keep_last : (n : ℕ) (xs : List ℕ) → length (keep_last n xs) ≡ min n (length xs)
length-keep_last n xs = length-drop (length xs - n) xs ∙ by (length xs)
  where
    by : (l : ℕ) → l - (l - n) ≡ min n l
    by l = grind (arith)

-- the last of the last ones
keep_last-keep_last : (a b : ℕ) (xs : List ℕ) → a ≤ b → keep_last a (keep_last b xs) ≡ keep_last a xs
keep_last-keep_last a b xs below =
    drop-drop (length (keep_last b xs) - a) (length xs - b) xs
    ∙ ap (λ (k : ℕ). drop k xs) (ap (λ (l : ℕ). length xs - b + (l - a)) (length-drop (length xs - b) xs) ∙ by (length xs))
  where
    by : (l : ℕ) → l - b + (l - (l - b) - a) ≡ l - a
    by l = grind (arith, below)

longer-keep_last : (a b : ℕ) (xs : List ℕ) → longer (keep_last a xs) (keep_last b xs) ≡ keep_last (max a b) xs
longer-keep_last a b xs = by (nat_lt (length (keep_last a xs)) (length (keep_last b xs))) refl
  where
    right : (l : ℕ) → nat_lt (min a l) (min b l) ≡ true → b ≡ max a b
    right l e = grind (e, arith, nat_tests)

    left : (l : ℕ) → nat_lt (min a l) (min b l) ≡ false → b ≤ a → a ≡ max a b
    left l e below = grind (e, below, arith, nat_tests)

    few : (l : ℕ) → nat_lt (min a l) (min b l) ≡ false → a < b → l ≤ a
    few l e above = grind (e, above, arith, nat_tests)

    most : (l : ℕ) → l ≤ a → l ≤ max a b
    most l e = grind (e, arith)

    lengths : nat_lt (length (keep_last a xs)) (length (keep_last b xs)) ≡ nat_lt (min a (length xs)) (min b (length xs))
    lengths = rw (length-keep_last a xs, length-keep_last b xs) refl

    low : (t : Bool) → nat_lt a b ≡ t → nat_lt (min a (length xs)) (min b (length xs)) ≡ false → keep_last a xs ≡ keep_last (max a b) xs
    low true above e =
        let short = few (length xs) e (grind (above, arith, nat_tests)) in
        keep_all a xs short ∙ sym (keep_all (max a b) xs (most (length xs) short))
    low false below e = ap (λ (n : ℕ). keep_last n xs) (left (length xs) e (grind (below, arith, nat_tests)))

    by : (t : Bool) → nat_lt (length (keep_last a xs)) (length (keep_last b xs)) ≡ t → longer (keep_last a xs) (keep_last b xs) ≡ keep_last (max a b) xs
    by true e = ap (λ (t : Bool). if t then keep_last b xs else keep_last a xs) e ∙ ap (λ (n : ℕ). keep_last n xs) (right (length xs) (sym lengths ∙ e))
    by false e = ap (λ (t : Bool). if t then keep_last b xs else keep_last a xs) e ∙ low (nat_lt a b) refl (sym lengths ∙ e)

-- What the longest window holds are the last of all samples.
pub held_last : (w : Windows) (all : List ℕ) → HoldLastSamples w all → samples_held w ≡ keep_last (longest (lengths_of w)) all
held_last w all it =
    rw (it.first.holds, it.second.holds, it.third.holds)
    (ap (longer (keep_last w.first.span all)) (longer-keep_last w.second.span w.third.span all ∙ ap (λ (n : ℕ). keep_last n all) (third w.second.span w.third.span))
    ∙ longer-keep_last w.first.span (max w.second.span (max w.third.span 0)) all)
  where
    third : (b c : ℕ) → max b c ≡ max b (max c 0)
    third b c = grind (arith)

-- and each window holds the last of them
pub held_own : (w : Windows) (all : List ℕ) → HoldLastSamples w all → HoldLastSamples w (samples_held w)
held_own w all it =
    subst (HoldLastSamples w) (sym (held_last w all it)) (record {
      first = record { holds = it.first.holds ∙ sym (keep_last-keep_last w.first.span (longest (lengths_of w)) all (one w.first.span w.second.span w.third.span)) };
      second = record { holds = it.second.holds ∙ sym (keep_last-keep_last w.second.span (longest (lengths_of w)) all (two w.first.span w.second.span w.third.span)) };
      third = record { holds = it.third.holds ∙ sym (keep_last-keep_last w.third.span (longest (lengths_of w)) all (three w.first.span w.second.span w.third.span)) };
    })
  where
    one : (a b c : ℕ) → a ≤ max a (max b (max c 0))
    one a b c = grind (arith)

    two : (a b c : ℕ) → b ≤ max a (max b (max c 0))
    two a b c = grind (arith)

    three : (a b c : ℕ) → c ≤ max a (max b (max c 0))
    three a b c = grind (arith)

-- as it begins there is none
pub none_held : (w : Windows) → HoldLastSamples w [] → samples_held w ≡ []
none_held w it = held_last w [] it ∙ keep_all (longest (lengths_of w)) [] (omega arith)

-- so they are those that a tick keeps
pub held_ticked : (w before : Windows) (setup : Setup) (sample : ℕ) → lengths_of w ≡ setup.windows → HoldLastSamples w (samples_held before ++ sample ∷ []) → samples_held w ≡ keep_last (longest setup.windows) (samples_held before ++ sample ∷ [])
held_ticked w before setup sample spans it = held_last w (samples_held before ++ sample ∷ []) it ∙ ap (λ (l : List ℕ). keep_last (longest l) (samples_held before ++ sample ∷ [])) spans

-- what is found is in the range
above : (p : ℕ → Bool) (at n to : ℕ) → first_from p at n ≡ Some to → at ≤ to
unfolding first_from
above p at zero to is = absurd (let z : None ≡ Some to = is in cc)
above p at (suc n) to is = by (p at) is (λ e. above p (at + 1) n to e)
  where
    by : (t : Bool) → (if t then Some at else first_from p (at + 1) n) ≡ Some to → (first_from p (at + 1) n ≡ Some to → at + 1 ≤ to) → at ≤ to
    by true e rest = let z : Some at ≡ Some to = e in let same : at ≡ to = cc in omega (arith, same)
    by false e rest = let l = rest e in omega (arith, l)

below : (p : ℕ → Bool) (n to : ℕ) → last_below p n ≡ Some to → to < n
unfolding last_below
below p zero to is = absurd (let z : None ≡ Some to = is in cc)
below p (suc n) to is = by (p n) is (λ e. below p n to e)
  where
    by : (t : Bool) → (if t then Some n else last_below p n) ≡ Some to → (last_below p n ≡ Some to → to < n) → to < suc n
    by true e rest = let z : Some n ≡ Some to = e in let same : n ≡ to = cc in omega (arith, same)
    by false e rest = let l = rest e in omega (arith, l)

-- the next higher gear is not the next lower one
pub next_apart : (g : Geometry) (gear to : ℕ) → next_higher g gear ≡ Some to → next_lower g gear ≡ Some to → ⊥
next_apart g gear to up down =
    let high = above (is_gear g) (gear + 1) 8 to up in
    let low = below (is_gear g) gear to down in
    omega (arith, high, low)
