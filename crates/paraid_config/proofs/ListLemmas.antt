-- How far a list of a document was read, and what the rest of it adds
use Rattle.std.proofs.Common.{◌≡◌, ℕ, ◌<◌, ◌≤◌, ◌+◌, ◌-◌, ℤ, pos, List, [], ◌∷◌, ◌++◌, All, length, get_or, take, drop, map, Option, Some, None, option_map, refl, sym, ap, subst, ◌∙◌, append_assoc, arith, replicate, w8, w16, w64, Fits, SFits, to_z, of_z}
use Rattle.std.specs.Prelude.{Result, OnOk, IfErr}
use Rattle.std.proofs.lemmas.Int.{to_z-of_z}
use Rattle.std.proofs.lemmas.List.{append-nil, drop_all, drop_more, take_all, take_more, map-append}
use Rattle.paraid_config.specs.declared.fault.ConfigFault.{ConfigFault}
use Rattle.paraid_config.specs.declared.fault.ConfigFault.TheVariants.{Kind}
use Rattle.std.proofs.lemmas.List.Elements.{All-push}
use Rattle.toml.specs.Data.{Data, string, integer, float, boolean, datetime, array, table, Items, no_items, item, Members, as_integer}
use Rattle.toml.specs.declared.value.Value.{Value}
use Rattle.toml.specs.View.{view, items_view}
use Rattle.toml.proofs.Views.{items_view-drop}
use Rattle.paraid_config.specs.declared.key.Key.{Key}
use Rattle.paraid_config.specs.declared.key.Key.TheVariants.{Windows}
use Rattle.paraid_config.specs.Config.{AreWindowsOf}
use Rattle.paraid_config.specs.Keys.{high_of}
use Rattle.paraid_config.specs.Values.{integers_of, integer_items, range_fault, member_fault, members_fault, list_fault, list_fault_in, value_at, IsListAt, IsFaultOf}

pub fits_byte : (n : ℕ) → n ≤ 255 → Fits w8 n
fits_byte n h = omega arith

pub fits_half : (n high : ℕ) → n ≤ high → high < 65536 → Fits w16 n
fits_half n high h b = omega arith

-- the members before place `i` are these numbers, and none of them is out of range
pub record AreRead (k : Key) (members : List ℤ) (numbers : List ℕ) (i : ℕ) : Type 0 where
  pub fault : member_fault k members ≡ member_fault k (drop i members)
  pub same : map pos numbers ≡ take i members
  pub high : All (λ n. n ≤ high_of k) numbers

-- the items before a place are these integers, and the rest is still to be read
pub record AreIntegers (all rest : Items) (members : List ℤ) : Type 0 where
  pub holds : integers_of all ≡ option_map (λ zs. members ++ zs) (integers_of rest)

pub AreIntegers-none : (all : Items) (members : List ℤ) → members ≡ [] → AreIntegers all all members
AreIntegers-none all members e = rw e (record { holds = same (integers_of all) })
  where
    same : (o : Option (List ℤ)) → o ≡ option_map (λ zs. [] ++ zs) o
    same None = refl
    same (Some zs) = refl

integers_of-one : (d : Data) (ds : Items) (z : ℤ) → as_integer d ≡ Some z → integers_of (item d ds) ≡ option_map (λ zs. z ∷ zs) (integers_of ds)
integers_of-one (integer y) ds z e = let same : y ≡ z = cc in rw same refl
integers_of-one (string s) ds z e = cc
integers_of-one (float x) ds z e = cc
integers_of-one (boolean b) ds z e = cc
integers_of-one (datetime dt) ds z e = cc
integers_of-one (array es) ds z e = cc
integers_of-one (table ms) ds z e = cc

integers_of-other : (d : Data) (ds : Items) → as_integer d ≡ None → integers_of (item d ds) ≡ None
integers_of-other (integer y) ds e = cc
integers_of-other (string s) ds e = refl
integers_of-other (float x) ds e = refl
integers_of-other (boolean b) ds e = refl
integers_of-other (datetime dt) ds e = refl
integers_of-other (array es) ds e = refl
integers_of-other (table ms) ds e = refl

one_more : (members : List ℤ) (z : ℤ) (o : Option (List ℤ)) → option_map (λ zs. members ++ zs) (option_map (λ zs. z ∷ zs) o) ≡ option_map (λ zs. (members ++ z ∷ []) ++ zs) o
one_more members z None = refl
one_more members z (Some zs) = ap (λ (l : List ℤ). Some l) (sym (append_assoc members (z ∷ []) zs))

module _ (all : Items) (vs : List Value) (i : ℕ) (x : Value) (members : List ℤ) (inside : i < length vs) (is : x ≡ get_or vs i x)
    (before : AreIntegers all (items_view (drop i vs)) members) where
  next_item : items_view (drop i vs) ≡ item (view x) (items_view (drop (i + 1) vs))
  next_item = items_view-drop vs i x inside ∙ ap (λ (v : Value). item (view v) (items_view (drop (i + 1) vs))) (sym is)

  pub AreIntegers-more : (z : ℤ) → as_integer (view x) ≡ Some z → AreIntegers all (items_view (drop (i + 1) vs)) (members ++ z ∷ [])
  AreIntegers-more z e = record {
    holds = before.holds
        ∙ ap (option_map (λ zs. members ++ zs)) (ap integers_of next_item ∙ integers_of-one (view x) (items_view (drop (i + 1) vs)) z e)
        ∙ one_more members z (integers_of (items_view (drop (i + 1) vs)));
  }

  -- a member of another kind
  pub members_fault-kind : (k : Key) (few many : ℕ) → as_integer (view x) ≡ None → IsFaultOf (members_fault k few many (integers_of all)) (Kind k)
  members_fault-kind k few many e =
      let none : integers_of all ≡ None = before.holds
      ∙ ap (option_map (λ zs. members ++ zs)) (ap integers_of next_item ∙ integers_of-other (view x) (items_view (drop (i + 1) vs)) e) in
      rw none refl

-- a list that begins with an integer
pub integers_of-integer : (z : ℤ) (ds : Items) (zs : List ℤ) → ((ys : List ℤ) → integers_of ds ≡ Some ys → ds ≡ integer_items ys)
    → (rest : Option (List ℤ)) → integers_of ds ≡ rest → option_map (λ ys. z ∷ ys) rest ≡ Some zs → item (integer z) ds ≡ integer_items zs
integers_of-integer z ds zs ih None e h = cc
integers_of-integer z ds zs ih (Some ys) e h =
    let tail : ds ≡ integer_items ys = ih ys e in
    let all : z ∷ ys ≡ zs = cc in
    rw (← all) (ap (item (integer z)) tail)

pub integer_items-integers_of : (ds : Items) (zs : List ℤ) → integers_of ds ≡ Some zs → ds ≡ integer_items zs
integer_items-integers_of no_items zs h = cc
integer_items-integers_of (item (string s) ds) zs h = cc
integer_items-integers_of (item (float x) ds) zs h = cc
integer_items-integers_of (item (boolean b) ds) zs h = cc
integer_items-integers_of (item (datetime dt) ds) zs h = cc
integer_items-integers_of (item (array es) ds) zs h = cc
integer_items-integers_of (item (table ms) ds) zs h = cc
integer_items-integers_of (item (integer z) ds) zs h = integers_of-integer z ds zs (integer_items-integers_of ds) (integers_of ds) refl h

-- a list of integers has no other members
pub members_before : (k : Key) (members : List ℤ) (numbers : List ℕ) (i : ℕ) (z : ℤ) (f : ConfigFault) → AreRead k members numbers i → i < length members
    → get_or members i (pos 0) ≡ z → range_fault k z ≡ Some f → member_fault k members ≡ Some f
members_before k members numbers i z f r h e g = r.fault ∙ rw (drop_more members i (pos 0) h, e, g)

pub AreRead-more : (k : Key) (members : List ℤ) (numbers : List ℕ) (i n : ℕ) → AreRead k members numbers i → i < length members
    → get_or members i (pos 0) ≡ pos n → n ≤ high_of k → range_fault k (pos n) ≡ None → AreRead k members (numbers ++ n ∷ []) (i + 1)
AreRead-more k members numbers i n r h e high g = record {
  fault = r.fault ∙ rw (drop_more members i (pos 0) h, e, g);
  same = map-append pos numbers (n ∷ []) ∙ rw (take_more members i (pos 0) h, e, r.same);
  high = All-push (λ x. x ≤ high_of k) numbers n r.high high;
}

-- read back as it was written
pub AreRead_wide : (k : Key) (members : List ℤ) (numbers : List ℕ) (i n : ℕ) → AreRead k members numbers i → i < length members → SFits w64 (get_or members i (pos 0))
    → to_z w64 (of_z w64 (get_or members i (pos 0))) ≡ pos n → n ≤ high_of k → range_fault k (to_z w64 (of_z w64 (get_or members i (pos 0)))) ≡ None
    → AreRead k members (numbers ++ n ∷ []) (i + 1)
AreRead_wide k members numbers i n r h fits e high g =
    let same : to_z w64 (of_z w64 (get_or members i (pos 0))) ≡ get_or members i (pos 0) = to_z-of_z w64 (get_or members i (pos 0)) fits in
    let value : get_or members i (pos 0) ≡ pos n = sym same ∙ e in
    AreRead-more k members numbers i n r h value high (ap (range_fault k) (sym e) ∙ g)

-- all of the items are read
pub AreIntegers-end : (vs : List Value) (i : ℕ) (members : List ℤ) → AreIntegers (items_view vs) (items_view (drop i vs)) members → length vs ≤ i
    → integers_of (items_view vs) ≡ Some members
AreIntegers-end vs i members r h = r.holds ∙ rw (drop_all i vs h, append-nil) refl

-- all of the members are read
pub AreRead_all : (k : Key) (members : List ℤ) (numbers : List ℕ) (i : ℕ) → AreRead k members numbers i → length members ≤ i → members ≡ map pos numbers
AreRead_all k members numbers i r h = sym (r.same ∙ take_all i members h)

pub AreRead-accepted : (k : Key) (members : List ℤ) (numbers : List ℕ) (i : ℕ) → AreRead k members numbers i → length members ≤ i → member_fault k members ≡ None
AreRead-accepted k members numbers i r h = r.fault ∙ rw (drop_all i members h) refl

-- the list at a key, read whole
pub IsListAt-read : (document : Members) (k : Key) (ds : Items) (zs : List ℤ) (ns : List ℕ) → value_at document k ≡ Some (array ds) → integers_of ds ≡ Some zs
    → zs ≡ map pos ns → IsListAt document k ns
IsListAt-read document k ds zs ns at read same = rw (at, integer_items-integers_of ds zs read, same)

pub list_fault-members : (document : Members) (k : Key) (few many : ℕ) (ds : Items) (f : ConfigFault) → value_at document k ≡ Some (array ds)
    → IsFaultOf (members_fault k few many (integers_of ds)) f → IsFaultOf (list_fault document k few many) f
list_fault-members document k few many ds f at h = rw at h

-- the windows that are used, and 0 for each of the others
used_windows : (used : List ℕ) → 1 ≤ length used → length used ≤ 3 → get_or used 0 0 ∷ get_or used 1 0 ∷ get_or used 2 0 ∷ [] ≡ used ++ replicate (3 - length used) 0
used_windows [] low high = absurd (omega arith)
used_windows (a ∷ []) low high = refl
used_windows (a ∷ b ∷ []) low high = refl
used_windows (a ∷ b ∷ d ∷ []) low high = refl
used_windows (a ∷ b ∷ d ∷ e ∷ more) low high = absurd (omega arith)

pub AreWindowsOf-used : (document : Members) (used : List ℕ) → IsListAt document Windows used → 1 ≤ length used → length used ≤ 3
    → AreWindowsOf document (get_or used 0 0 ∷ get_or used 1 0 ∷ get_or used 2 0 ∷ [])
AreWindowsOf-used document used at low high = record { used = used; used_at = at; rest = used_windows used low high }

-- the list at the key has these members
module _ {A : Type 0} (document : Members) (k : Key) (few many : ℕ) (ds : Items) (zs : List ℤ) (r : Result A ConfigFault) (at : value_at document k ≡ Some (array ds)) (read : integers_of ds ≡ Some zs) where
  list_fault-read : list_fault document k few many ≡ members_fault k few many (Some zs)
  list_fault-read = ap (list_fault_in k few many) at ∙ ap (members_fault k few many) read

  pub list_accepted : OnOk r (members_fault k few many (Some zs) ≡ None) → OnOk r (list_fault document k few many ≡ None)
  list_accepted h = subst (λ (x : Option ConfigFault). OnOk r (x ≡ None)) (sym list_fault-read) h

  pub list_refused : IfErr r (IsFaultOf (members_fault k few many (Some zs))) → IfErr r (IsFaultOf (list_fault document k few many))
  list_refused h = subst (λ (x : Option ConfigFault). IfErr r (IsFaultOf x)) (sym list_fault-read) h
