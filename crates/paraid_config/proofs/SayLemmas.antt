-- A text that says a setup is refused for nothing but want of memory.
use Rattle.std.proofs.Common.{◌≡◌, ◌≢◌, ℕ, pos, ◌<◌, ◌≤◌, List, [], ◌∷◌, length, map, Option, Some, None, refl, sym, ◌∙◌, subst, arith, ◌⊎◌, inl, inr}
use Rattle.std.proofs.lemmas.Bool.{false≢true}
use Rattle.toml.specs.Data.{Data, Items, Members, array, integer, item, no_items}
use Rattle.paraid_base.specs.declared.geometry.GeoFault.{GeoFault}
use Rattle.paraid_base.specs.declared.geometry.GeoFault.TheVariants.{Disks, Rows, Gears}
use Rattle.paraid_base.specs.declared.geometry.Geometry.{Geometry as GeometryType}
use Rattle.paraid_base.specs.Gears.{IsGearList, IsGearsFault, IsGeoFault}
use Rattle.paraid_record.specs.declared.meta.Setup.{Setup}
use Rattle.paraid_config.specs.declared.fault.ConfigFault.{ConfigFault}
use Rattle.paraid_config.specs.declared.fault.ConfigFault.TheVariants.{Long, NotToml, Unknown, Missing, Kind, Range, Geometry, NoMemory}
use Rattle.paraid_config.specs.Config.{IsConfigRefusal, IsConfigurationOf, IsDocumentFault, IsGeometryFault, IsGeometryOf, IsTextFault, document_fault}
use Rattle.paraid_config.specs.Values.{integer_items}

some_same : (a b : Members) → Some a ≡ Some b → a ≡ b
some_same a b e = cc

none_some : (o : Option ConfigFault) (f : ConfigFault) → o ≡ None → o ≡ Some f → ⊥
none_some o f e g = let z : None ≡ Some f = sym e ∙ g in cc

same_number : (o : Option Data) (n m : ℕ) → o ≡ Some (integer (pos n)) → o ≡ Some (integer (pos m)) → n ≡ m
same_number o n m e f = let z : Some (integer (pos n)) ≡ Some (integer (pos m)) = sym e ∙ f in cc

same_array : (o : Option Data) (a b : Items) → o ≡ Some (array a) → o ≡ Some (array b) → a ≡ b
same_array o a b e f = let z : Some (array a) ≡ Some (array b) = sym e ∙ f in cc

first_same : (n m : ℕ) (a b : Items) → item (integer (pos n)) a ≡ item (integer (pos m)) b → n ≡ m
first_same n m a b e = cc

rest_same : (x y : Data) (a b : Items) → item x a ≡ item y b → a ≡ b
rest_same x y a b e = cc

same_list : (ns ms : List ℕ) → integer_items (map pos ns) ≡ integer_items (map pos ms) → ns ≡ ms
same_list [] [] e = refl
same_list [] (m ∷ ms) e = let z : no_items ≡ item (integer (pos m)) (integer_items (map pos ms)) = e in cc
same_list (n ∷ ns) [] e = let z : item (integer (pos n)) (integer_items (map pos ns)) ≡ no_items = e in cc
same_list (n ∷ ns) (m ∷ ms) e =
    let first : n ≡ m = first_same n m (integer_items (map pos ns)) (integer_items (map pos ms)) e in
    let rest : ns ≡ ms = same_list ns ms (rest_same (integer (pos n)) (integer (pos m)) (integer_items (map pos ns)) (integer_items (map pos ms)) e) in
    cc

-- a list of gears that is accepted has no fault
no_gear_fault : (n : ℕ) (gears : List ℕ) (at : ℕ) → IsGearList n gears → IsGearsFault n gears at → ⊥
no_gear_fault n gears at listed fault = elim (place at (length gears) fault.within) [
  | inl below ↦ false≢true (sym (listed.members at below) ∙ fault.member below)
  | inr past ↦ fault.whole past listed.some listed.last
]
  where
    place : (a b : ℕ) → a ≤ b → (a < b) ⊎ (a ≡ b)
    place a b le = grind (arith)

no_fault_by : (g : GeometryType) (gears : List ℕ) (fault : GeoFault) → IsGearList g.disks gears → IsGeoFault g.disks g.rows gears fault → ⊥
no_fault_by g gears (Disks value) listed cause = cause.1 g.disks_low g.disks_high
no_fault_by g gears (Rows value) listed cause = cause.3 g.rows_low g.rows_high
no_fault_by g gears (Gears at) listed cause = no_gear_fault g.disks gears at listed cause.4

-- nor has the geometry of a document
no_geometry_fault : (document : Members) (g : GeometryType) (fault : GeoFault) → IsGeometryOf document g → IsGeometryFault document fault → ⊥
no_geometry_fault document g fault is it =
    let disks : it.disks ≡ g.disks = same_number _ it.disks g.disks it.disks_at is.disks_at in
    let rows : it.rows ≡ g.rows = same_number _ it.rows g.rows it.rows_at is.rows_at in
    let gears : it.gears ≡ is.gears = same_list it.gears is.gears (same_array _ _ _ it.gears_at is.gears_at) in
    no_fault_by g is.gears fault is.listed
    (subst (λ (n : ℕ). IsGeoFault n g.rows is.gears fault) disks (subst (λ (r : ℕ). IsGeoFault it.disks r is.gears fault) rows (subst (λ (l : List ℕ). IsGeoFault it.disks it.rows l fault) gears it.cause)))

module _ (text : List ℕ) (setup : Setup) (says : IsConfigurationOf text setup) where
  -- a fault of the text is one of its document
  of_document : (fault : ConfigFault) → IsTextFault text fault → IsDocumentFault says.document fault
  of_document fault it = subst (λ (d : Members). IsDocumentFault d fault) (some_same it.document says.document (sym it.is.parsed ∙ says.is.parsed)) it.cause

  pub not_refused : (fault : ConfigFault) → fault ≢ NoMemory → IsConfigRefusal text fault → ⊥
  not_refused Long other refusal = omega (arith, refusal, says.is.short)
  not_refused NotToml other refusal = let z : None ≡ Some says.document = sym (refusal.1 says.is.utf8) ∙ says.is.parsed in cc
  not_refused NoMemory other refusal = other refl
  not_refused (Unknown at) other refusal = none_some (document_fault says.document) (Unknown at) says.accepted (of_document (Unknown at) refusal)
  not_refused (Missing key) other refusal = none_some (document_fault says.document) (Missing key) says.accepted (of_document (Missing key) refusal)
  not_refused (Kind key) other refusal = none_some (document_fault says.document) (Kind key) says.accepted (of_document (Kind key) refusal)
  not_refused (Range key value) other refusal = none_some (document_fault says.document) (Range key value) says.accepted (of_document (Range key value) refusal)
  not_refused (Geometry fault) other refusal = no_geometry_fault says.document setup.geometry fault says.setup.geometry (of_document (Geometry fault) refusal).1
