-- A fault and the cause that it is
use Rattle.std.proofs.Common.{◌≡◌, ℕ, ℤ, pos, Bool, true, false, ◌&&◌, ◌||◌, nat_le, List, [], ◌∷◌, length, map, Option, Some, None, if◌then◌else◌, option_map, refl, sym, ◌∙◌}
use Rattle.toml.specs.Data.{Data, string, integer, float, boolean, datetime, array, table, Members}
use Rattle.std.proofs.lemmas.Bool.{false≢true}
use Rattle.std.specs.Str.{bytes_eq}
use Rattle.paraid_record.specs.declared.meta.Mode.TheVariants.{Whole, Access}
use Rattle.paraid_config.specs.declared.key.Key.TheVariants as key
use Rattle.paraid_config.specs.declared.key.Key.{Key}
use Rattle.paraid_config.specs.Keys.{low_of, high_of}
use Rattle.paraid_config.specs.Config.{first_unknown, document_fault, IsDocumentFault, IsDocumentOf, IsConfigRefusal}
use Rattle.paraid_config.specs.declared.fault.ConfigFault.{ConfigFault}
use Rattle.paraid_config.specs.declared.fault.ConfigFault.TheVariants.{Long, NotToml, Unknown, Missing, Kind, Range, Geometry, NoMemory}
use Rattle.paraid_config.specs.Values.{IsFaultOf, first_fault, is_between, range_fault, number_fault, number_fault_in, number_in, optional_fault_in, integers_of, member_fault, members_fault, list_fault, list_fault_in, mode_fault_in, mode_name, value_at}

IsFaultOf-itself : (f : ConfigFault) → IsFaultOf (Some f) f
IsFaultOf-itself Long = refl
IsFaultOf-itself NotToml = refl
IsFaultOf-itself (Unknown at) = refl
IsFaultOf-itself (Missing k) = refl
IsFaultOf-itself (Kind k) = refl
IsFaultOf-itself (Range k z) = refl
IsFaultOf-itself (Geometry g) = refl
IsFaultOf-itself NoMemory = tt

pub IsFaultOf-cause : (cause : Option ConfigFault) (f : ConfigFault) → cause ≡ Some f → IsFaultOf cause f
IsFaultOf-cause cause f e = rw e (IsFaultOf-itself f)

pub first_fault-None : (x : Option ConfigFault) (xs : List (Option ConfigFault)) → x ≡ None → first_fault (x ∷ xs) ≡ first_fault xs
first_fault-None x xs e = rw e

pub first_fault-Some : (x : Option ConfigFault) (xs : List (Option ConfigFault)) (f : ConfigFault) → x ≡ Some f → first_fault (x ∷ xs) ≡ Some f
first_fault-Some x xs f e = rw e

-- the fault is one of a key
abbrev pub is_of_a_key : ConfigFault → Bool
is_of_a_key Long = false
is_of_a_key NotToml = false
is_of_a_key (Unknown at) = true
is_of_a_key (Missing k) = true
is_of_a_key (Kind k) = true
is_of_a_key (Range k z) = true
is_of_a_key (Geometry g) = false
is_of_a_key NoMemory = false

abbrev pub IsOfAKey : Option ConfigFault → Type 0
IsOfAKey None = Unit {0}
IsOfAKey (Some f) = is_of_a_key f ≡ true

not_of_a_key : (cause : Option ConfigFault) (f : ConfigFault) → IsOfAKey cause → is_of_a_key f ≡ false → cause ≡ Some f → ⊥
not_of_a_key cause f h other e = false≢true (sym other ∙ rw e at h)

pub IsDocumentFault-found : (document : Members) (f : ConfigFault) (cause : Option ConfigFault) → IsOfAKey cause → IsFaultOf cause f
    → ((e : ConfigFault) → cause ≡ Some e → document_fault document ≡ Some e) → IsDocumentFault document f
IsDocumentFault-found document Long cause keys h step = step Long h
IsDocumentFault-found document NotToml cause keys h step = step NotToml h
IsDocumentFault-found document (Unknown at) cause keys h step = step (Unknown at) h
IsDocumentFault-found document (Missing k) cause keys h step = step (Missing k) h
IsDocumentFault-found document (Kind k) cause keys h step = step (Kind k) h
IsDocumentFault-found document (Range k z) cause keys h step = step (Range k z) h
IsDocumentFault-found document (Geometry g) cause keys h step = absurd (not_of_a_key cause (Geometry g) keys refl h)
IsDocumentFault-found document NoMemory cause keys h step = tt

range_of_a_key : (b : Bool) (k : Key) (z : ℤ) → IsOfAKey (if b then None else Some (Range k z))
range_of_a_key true k z = tt
range_of_a_key false k z = refl

number_of_a_key : (k : Key) (d : Option Data) → IsOfAKey (number_fault_in k d)
number_of_a_key k None = refl
number_of_a_key k (Some (string s)) = refl
number_of_a_key k (Some (integer z)) = range_of_a_key (is_between (low_of k) (high_of k) z) k z
number_of_a_key k (Some (float x)) = refl
number_of_a_key k (Some (boolean b)) = refl
number_of_a_key k (Some (datetime dt)) = refl
number_of_a_key k (Some (array ds)) = refl
number_of_a_key k (Some (table ms)) = refl

pub number_fault-of_a_key : (document : Members) (k : Key) → IsOfAKey (number_fault document k)
number_fault-of_a_key document k = number_of_a_key k (value_at document k)

pub optional_of_a_key : (k : Key) (high : ℕ) (d : Option Data) → IsOfAKey (optional_fault_in k high d)
optional_of_a_key k high None = tt
optional_of_a_key k high (Some (string s)) = refl
optional_of_a_key k high (Some (integer z)) = range_of_a_key (is_between (low_of k) high z) k z
optional_of_a_key k high (Some (float x)) = refl
optional_of_a_key k high (Some (boolean b)) = refl
optional_of_a_key k high (Some (datetime dt)) = refl
optional_of_a_key k high (Some (array ds)) = refl
optional_of_a_key k high (Some (table ms)) = refl

first_of_a_key : (x : Option ConfigFault) (xs : List (Option ConfigFault)) → IsOfAKey x → IsOfAKey (first_fault xs) → IsOfAKey (first_fault (x ∷ xs))
first_of_a_key None xs here rest = rest
first_of_a_key (Some f) xs here rest = here

member_of_a_key : (k : Key) (zs : List ℤ) → IsOfAKey (member_fault k zs)
member_of_a_key k [] = tt
member_of_a_key k (z ∷ zs) =
    first_of_a_key (range_fault k z) (map (range_fault k) zs) (range_of_a_key (is_between (low_of k) (high_of k) z) k z) (member_of_a_key k zs)

counted_of_a_key : (b : Bool) (x : Option ConfigFault) (k : Key) (z : ℤ) → IsOfAKey x → IsOfAKey (if b then x else Some (Range k z))
counted_of_a_key true x k z here = here
counted_of_a_key false x k z here = refl

members_of_a_key : (k : Key) (few many : ℕ) (zs : Option (List ℤ)) → IsOfAKey (members_fault k few many zs)
members_of_a_key k few many None = refl
members_of_a_key k few many (Some zs) =
    counted_of_a_key (nat_le few (length zs) && nat_le (length zs) many) (member_fault k zs) k (pos (length zs)) (member_of_a_key k zs)

list_of_a_key : (k : Key) (few many : ℕ) (d : Option Data) → IsOfAKey (list_fault_in k few many d)
list_of_a_key k few many None = refl
list_of_a_key k few many (Some (string s)) = refl
list_of_a_key k few many (Some (integer z)) = refl
list_of_a_key k few many (Some (float x)) = refl
list_of_a_key k few many (Some (boolean b)) = refl
list_of_a_key k few many (Some (datetime dt)) = refl
list_of_a_key k few many (Some (array ds)) = members_of_a_key k few many (integers_of ds)
list_of_a_key k few many (Some (table ms)) = refl

pub list_fault-of_a_key : (document : Members) (k : Key) (few many : ℕ) → IsOfAKey (list_fault document k few many)
list_fault-of_a_key document k few many = list_of_a_key k few many (value_at document k)

word_of_a_key : (b : Bool) → IsOfAKey (if b then None else Some (Kind key.Mode))
word_of_a_key true = tt
word_of_a_key false = refl

mode_of_a_key : (d : Option Data) → IsOfAKey (mode_fault_in d)
mode_of_a_key None = refl
mode_of_a_key (Some (string s)) = word_of_a_key (bytes_eq s (mode_name Whole) || bytes_eq s (mode_name Access))
mode_of_a_key (Some (integer z)) = refl
mode_of_a_key (Some (float x)) = refl
mode_of_a_key (Some (boolean b)) = refl
mode_of_a_key (Some (datetime dt)) = refl
mode_of_a_key (Some (array ds)) = refl
mode_of_a_key (Some (table ms)) = refl

unknown_of_a_key : (place : Option ℕ) → IsOfAKey (option_map (λ at. Unknown at) place)
unknown_of_a_key None = tt
unknown_of_a_key (Some at) = refl

pub document_fault-of_a_key : (document : Members) → IsOfAKey (document_fault document)
document_fault-of_a_key document =
    first_of_a_key _ _ (unknown_of_a_key (first_unknown document))
    (first_of_a_key _ _ (number_fault-of_a_key document key.Disks)
    (first_of_a_key _ _ (number_fault-of_a_key document key.Rows)
    (first_of_a_key _ _ (list_fault-of_a_key document key.Gears 0 8)
    (first_of_a_key _ _ (mode_of_a_key (value_at document key.Mode))
    (first_of_a_key _ _ (number_fault-of_a_key document key.Rate)
    (first_of_a_key _ _ (number_fault-of_a_key document key.Service)
    (first_of_a_key _ _ (number_fault-of_a_key document key.Up)
    (first_of_a_key _ _ (number_fault-of_a_key document key.Down)
    (first_of_a_key _ _ (list_fault-of_a_key document key.Windows 1 3)
    (first_of_a_key _ _ (number_fault-of_a_key document key.Ration)
    (first_of_a_key _ _ (optional_of_a_key key.Burst (number_in (value_at document key.Ration)) (value_at document key.Burst))
    (first_of_a_key _ _ (optional_of_a_key key.Period (high_of key.Period) (value_at document key.Period))
    (first_of_a_key _ _ (number_fault-of_a_key document key.SpinningMj)
    (first_of_a_key _ _ (number_fault-of_a_key document key.ParkedMj)
    (first_of_a_key _ _ (number_fault-of_a_key document key.SpinupMj) tt)))))))))))))))

-- what refuses a document refuses its text
pub IsConfigRefusal-document : (text : List ℕ) (document : Members) (f : ConfigFault) → IsDocumentOf text document → IsDocumentFault document f → IsConfigRefusal text f
IsConfigRefusal-document text document Long is h = absurd (not_of_a_key _ Long (document_fault-of_a_key document) refl h)
IsConfigRefusal-document text document NotToml is h = absurd (not_of_a_key _ NotToml (document_fault-of_a_key document) refl h)
IsConfigRefusal-document text document (Unknown at) is h = record { document = document; is = is; cause = h }
IsConfigRefusal-document text document (Missing k) is h = record { document = document; is = is; cause = h }
IsConfigRefusal-document text document (Kind k) is h = record { document = document; is = is; cause = h }
IsConfigRefusal-document text document (Range k z) is h = record { document = document; is = is; cause = h }
IsConfigRefusal-document text document (Geometry g) is h = record { document = document; is = is; cause = h }
IsConfigRefusal-document text document NoMemory is h = is.short
