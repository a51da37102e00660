-- Which setup a text says, and by which cause it is refused
use Rattle.std.specs.Prelude.{◌≡◌, ℕ, ◌<◌, ◌≤◌, ◌-◌, not, List, [], ◌∷◌, ◌++◌, Option, Some, None, length, option_map, position, replicate, IsUtf8}
use Rattle.toml.specs.Data.{Members, no_members, member, string}
use Rattle.toml.specs.Parse.{parse_document}
use Rattle.paraid_base.specs.declared.geometry.GeoFault.{GeoFault}
use Rattle.paraid_base.specs.declared.geometry.Geometry.{Geometry as GeometryType}
use Rattle.paraid_base.specs.Gears.{IsGeoFault, IsGearList, AreFlagsOf}
use Rattle.paraid_record.specs.declared.meta.Setup.{Setup}
use Rattle.paraid_config.specs.declared.key.Key.TheVariants.{Disks, Rows, Gears, Mode, Rate, Service, Up, Down, Windows, Ration, Burst, Period, SpinningMj, ParkedMj, SpinupMj}
use Rattle.paraid_config.specs.declared.fault.ConfigFault.{ConfigFault}
use Rattle.paraid_config.specs.declared.fault.ConfigFault.TheVariants.{Long, NotToml, Unknown, Geometry, NoMemory}
use Rattle.paraid_config.specs.Keys.{is_known}
use Rattle.paraid_config.specs.Values.{value_at, first_fault, number_fault, list_fault, mode_fault, burst_fault, period_fault, mode_name, IsNumberAt, IsNumberOr, IsListAt, IsFaultOf}

-- the keys of a document, which stand in the order of their bytes
abbrev pub member_names : Members → List (List ℕ)
member_names no_members = []
member_names (member name d ms) = name ∷ member_names ms

-- the place of the first key that is not known
abbrev pub first_unknown : Members → Option ℕ
first_unknown document = position (λ name. not (is_known name)) (member_names document)

-- the first cause in the order of the tests by which a document is refused, but for its geometry
abbrev pub document_fault : Members → Option ConfigFault
document_fault document = first_fault
    (option_map (λ at. Unknown at) (first_unknown document)
    ∷ number_fault document Disks
    ∷ number_fault document Rows
    ∷ list_fault document Gears 0 8
    ∷ mode_fault document
    ∷ number_fault document Rate
    ∷ number_fault document Service
    ∷ number_fault document Up
    ∷ number_fault document Down
    ∷ list_fault document Windows 1 3
    ∷ number_fault document Ration
    ∷ burst_fault document
    ∷ period_fault document
    ∷ number_fault document SpinningMj
    ∷ number_fault document ParkedMj
    ∷ number_fault document SpinupMj
    ∷ [])

-- no array has so many disks and rows with these gears
pub record IsGeometryFault (document : Members) (fault : GeoFault) : Type 0 where
  pub disks : ℕ
  pub rows : ℕ
  pub gears : List ℕ
  pub disks_at : IsNumberAt document Disks disks
  pub rows_at : IsNumberAt document Rows rows
  pub gears_at : IsListAt document Gears gears
  pub cause : IsGeoFault disks rows gears fault

-- why a document is refused; want of memory has no cause in it
abbrev pub IsDocumentFault : Members → ConfigFault → Type 0
IsDocumentFault document (Geometry fault) =
    (document_fault document ≡ None) × IsGeometryFault document fault
IsDocumentFault document fault = IsFaultOf (document_fault document) fault

-- the geometry of a document
pub record IsGeometryOf (document : Members) (g : GeometryType) : Type 0 where
  pub gears : List ℕ
  pub disks_at : IsNumberAt document Disks g.disks
  pub rows_at : IsNumberAt document Rows g.rows
  pub gears_at : IsListAt document Gears gears
  pub listed : IsGearList g.disks gears
  pub marked : AreFlagsOf gears (length gears) g.gears

-- the windows of a document, and 0 for each that is not used
pub record AreWindowsOf (document : Members) (windows : List ℕ) : Type 0 where
  pub used : List ℕ
  pub used_at : IsListAt document Windows used
  pub rest : windows ≡ used ++ replicate (3 - length used) 0

-- each value of the setup is the document's
pub record IsSetupOf (document : Members) (s : Setup) : Type 0 where
  pub geometry : IsGeometryOf document s.geometry
  pub mode : value_at document Mode ≡ Some (string (mode_name s.mode))
  pub rate : IsNumberAt document Rate s.rate
  pub service : IsNumberAt document Service s.service
  pub up : IsNumberAt document Up s.up
  pub down : IsNumberAt document Down s.down
  pub windows : AreWindowsOf document s.windows
  pub ration : IsNumberAt document Ration s.ration
  pub burst : IsNumberOr document Burst s.ration s.burst
  pub period : IsNumberOr document Period 1 s.period
  pub spinning : IsNumberAt document SpinningMj s.spinning_mj
  pub parked : IsNumberAt document ParkedMj s.parked_mj
  pub spinup : IsNumberAt document SpinupMj s.spinup_mj

-- the text is not too long, is TOML and has this document
pub record IsDocumentOf (text : List ℕ) (document : Members) : Type 0 where
  pub short : length text ≤ 65536
  pub utf8 : IsUtf8 text
  pub parsed : parse_document text ≡ Some document

-- the text says this setup, and nothing in it is refused
pub record IsConfigurationOf (text : List ℕ) (s : Setup) : Type 0 where
  pub document : Members
  pub is : IsDocumentOf text document
  pub accepted : document_fault document ≡ None
  pub setup : IsSetupOf document s

-- a text of at most 65,536 bytes has a document that is refused so
pub record IsTextFault (text : List ℕ) (fault : ConfigFault) : Type 0 where
  pub document : Members
  pub is : IsDocumentOf text document
  pub cause : IsDocumentFault document fault

-- why a text is refused; memory is asked for only where the text is not too long
abbrev pub IsConfigRefusal : List ℕ → ConfigFault → Type 0
IsConfigRefusal text Long = 65536 < length text
IsConfigRefusal text NotToml = (length text ≤ 65536) × (IsUtf8 text → parse_document text ≡ None)
IsConfigRefusal text NoMemory = length text ≤ 65536
IsConfigRefusal text fault = IsTextFault text fault
