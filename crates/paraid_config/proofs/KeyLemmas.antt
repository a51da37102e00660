-- Keys that differ and are known are at most as many as the known ones
use Rattle.std.proofs.Common.{◌≡◌, ℕ, ◌<◌, ◌≤◌, suc, List, [], ◌∷◌, Bool, true, false, not, Some, String, Global, Less, length, get_or, take, map, string_bytes, refl, sym, ap, ◌∙◌, inl, inr, arith}
use Rattle.std.proofs.lemmas.Bool.{cases_Bool}
use Rattle.std.proofs.lemmas.Cmp.{nat_list_eq_equiv}
use Rattle.std.proofs.lemmas.List.{get_or-take, length-take-le, length-map}
use Rattle.std.proofs.lemmas.List.Quantifiers.{position-Some}
use Rattle.std.proofs.lemmas.Map.Keys.{apart_from_distinct, IsDistinct-from_apart}
use Rattle.std.proofs.lemmas.Map.Made.{length-le_from_is_member}
use Rattle.std.proofs.lemmas.Map.Text.{is_eq-slice_cmp}
use Rattle.std.proofs.lemmas.Slice.Eq.{bytes_eq-Decides}
use Rattle.std.specs.List.{AllByRecursion, IsDistinct, position, prefix_len}
use Rattle.std.specs.List.Sorted.{IsStrictlySortedBy}
use Rattle.std.specs.Map.{keys_of}
use Rattle.std.specs.Ordering.{is_eq}
use Rattle.std.specs.Set.{is_member}
use Rattle.std.specs.Str.{bytes_eq}
use Rattle.std.specs.String.{string_cmp}
use Rattle.toml.proofs.Views.{Entry}
use Rattle.toml.specs.View.{members_view}
use Rattle.paraid_config.specs.Config.{member_names}
use Rattle.paraid_config.specs.Keys.{is_known, all_keys, key_name}

names_apart : (k : String Global) (ks : List (String Global)) → AllByRecursion (λ y. string_cmp k y ≡ Less) ks
    → AllByRecursion (λ y. bytes_eq (string_bytes k) y ≡ false) (map string_bytes ks)
names_apart k [] h = tt
names_apart k (y ∷ ys) h = (sym (is_eq-slice_cmp (string_bytes k) (string_bytes y)) ∙ ap is_eq h.0, names_apart k ys h.1)

-- keys in order differ in their bytes
pub names_differ : (ks : List (String Global)) → IsStrictlySortedBy string_cmp ks → IsDistinct bytes_eq (map string_bytes ks)
unfolding IsStrictlySortedBy IsDistinct
names_differ [] h = tt
names_differ (k ∷ ks) h = (names_apart k ks h.0, names_differ ks h.1)

pub IsDistinct-take : (names : List (List ℕ)) (n : ℕ) → n ≤ length names → IsDistinct bytes_eq names → IsDistinct bytes_eq (take n names)
IsDistinct-take names n within h = IsDistinct-from_apart bytes_eq (take n names) (λ i j d below inside.
    let j_below : j < n = omega (arith, length-take-le n names within) in
    rw (get_or-take n names i d (omega arith), get_or-take n names j d j_below) (apart_from_distinct bytes_eq names i j d h below (omega arith)))

pub member_names-view : (es : List Entry) → member_names (members_view es) ≡ map string_bytes (keys_of es)
member_names-view [] = refl
member_names-view (e ∷ es) = rw (member_names-view es)

-- what is equal to one of some known names is known
known_among : (known names : List (List ℕ)) (q : List ℕ) → ((k : ℕ) → k < length names → is_member bytes_eq known (get_or names k []) ≡ true)
    → is_member bytes_eq names q ≡ true → is_member bytes_eq known q ≡ true
known_among known [] q h m = cc
known_among known (n ∷ names) q h m = elim (cases_Bool (bytes_eq q n)) [
  | inl same ↦ rw ((bytes_eq-Decides q n).0 same) (h 0 (omega arith))
  | inr other ↦ known_among known names q (λ k below. h (suc k) (omega arith)) (rw other at m)
]

true_from_not : (b : Bool) → not b ≡ false → b ≡ true
true_from_not true h = refl
true_from_not false h = cc

known_is : (name : List ℕ) → is_known name ≡ is_member bytes_eq (map key_name all_keys) name
unfolding is_known
known_is name = refl

-- no more than the known names stand before the first that is not known
pub position-few : (names : List (List ℕ)) (at : ℕ) → IsDistinct bytes_eq names → position (λ name. not (is_known name)) names ≡ Some at → at ≤ 15
position-few names at distinct e =
    let first = position-Some (λ name. not (is_known name)) names at [] e in
    let within : at ≤ length names = omega (arith, first.0) in
    let size = length-take-le at names within in
    let few = length-le_from_is_member nat_list_eq_equiv (take at names) (map key_name all_keys) (IsDistinct-take names at within distinct)
    (λ q m. known_among (map key_name all_keys) (take at names) q (λ k below.
    let k_below : k < at = omega (arith, size) in
    rw (get_or-take at names k [] k_below) (sym (known_is _) ∙ true_from_not _ (first.2 k k_below))) m) in
    omega (arith, size, few)

prefix_len-map : {X Y : Type 0} (q : Y → Bool) (f : X → Y) (xs : List X) → prefix_len (λ x. q (f x)) xs ≡ prefix_len q (map f xs)
prefix_len-map q f [] = refl
prefix_len-map q f (x ∷ xs) = rw (prefix_len-map q f xs)

pub position-map : {X Y : Type 0} (p : Y → Bool) (f : X → Y) (xs : List X) → position (λ x. p (f x)) xs ≡ position p (map f xs)
position-map p f xs = rw (prefix_len-map (λ y. not (p y)) f xs, length-map xs f)

-- the first key that is not known, in the map and in the document that it stands for
pub position-names : (es : List Entry) → position (λ k. not (is_known (string_bytes k))) (keys_of es) ≡ position (λ name. not (is_known name)) (member_names (members_view es))
position-names es = position-map (λ name. not (is_known name)) string_bytes (keys_of es) ∙ rw (member_names-view es)

pub few_unknown : (es : List Entry) (at : ℕ) → IsStrictlySortedBy string_cmp (keys_of es) → position (λ k. not (is_known (string_bytes k))) (keys_of es) ≡ Some at → at ≤ 15
few_unknown es at sorted e =
    position-few (map string_bytes (keys_of es)) at (names_differ (keys_of es) sorted) (sym (position-map (λ name. not (is_known name)) string_bytes (keys_of es)) ∙ e)
