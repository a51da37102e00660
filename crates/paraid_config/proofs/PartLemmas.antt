-- The first cause among those of some parts
use Rattle.std.proofs.Common.{◌≡◌, ℕ, List, [], ◌∷◌, ◌++◌, length, Option, Some, None, option_map, refl, sym, subst, ◌∙◌, inl, inr}
use Rattle.std.specs.Prelude.{Result, Ok, Err, OnOk, IfOk, IfErr}
use Rattle.toml.specs.Data.{Members}
use Rattle.paraid_record.specs.declared.meta.Setup.{Setup}
use Rattle.paraid_base.specs.declared.geometry.GeoFault.{GeoFault}
use Rattle.paraid_base.specs.declared.geometry.Geometry.{Geometry as GeometryType}
use Rattle.paraid_base.specs.Gears.{IsGeoFault, IsGearList, AreFlagsOf}
use Rattle.paraid_record.specs.Range.{IsSetupInRange}
use Rattle.paraid_config.specs.declared.key.Key.TheVariants.{Disks, Rows, Gears}
use Rattle.paraid_config.specs.declared.setup.Shape.{Shape}
use Rattle.paraid_config.specs.declared.setup.Pace.{Pace}
use Rattle.paraid_config.specs.declared.setup.Wear.{Wear}
use Rattle.paraid_config.specs.declared.setup.Energies.{Energies}
use Rattle.paraid_config.specs.declared.fault.ConfigFault.{ConfigFault}
use Rattle.paraid_config.specs.declared.fault.ConfigFault.TheVariants.{Long, NotToml, Unknown, Missing, Kind, Range, Geometry, NoMemory}
use Rattle.paraid_config.specs.Values.{first_fault, IsFaultOf, IsNumberAt, IsListAt}
use Rattle.paraid_config.specs.Config.{first_unknown, document_fault, IsConfigRefusal, IsConfigurationOf, IsDocumentFault, IsDocumentOf, IsSetupOf}
use Rattle.paraid_config.specs.Parts.{IsFirstFault, shape_faults, pace_faults, wear_faults, energy_faults, IsShapeOf, IsPaceOf, IsWearOf, AreEnergiesOf}
use Rattle.paraid_config.proofs.FaultLemmas.{IsFaultOf-cause, IsDocumentFault-found, IsConfigRefusal-document, document_fault-of_a_key}

pub here : (x : Option ConfigFault) (xs : List (Option ConfigFault)) (f : ConfigFault) → x ≡ Some f → IsFirstFault (x ∷ xs) f
here x xs f e = rw e (record { is = inr refl })

pub here_of : (x : Option ConfigFault) (xs : List (Option ConfigFault)) (f : ConfigFault) → IsFaultOf x f → IsFirstFault (x ∷ xs) f
here_of x xs Long h = here x xs Long h
here_of x xs NotToml h = here x xs NotToml h
here_of x xs (Unknown at) h = here x xs (Unknown at) h
here_of x xs (Missing k) h = here x xs (Missing k) h
here_of x xs (Kind k) h = here x xs (Kind k) h
here_of x xs (Range k z) h = here x xs (Range k z) h
here_of x xs (Geometry g) h = here x xs (Geometry g) h
here_of x xs NoMemory h = record { is = inl refl }

pub later : (x : Option ConfigFault) (xs : List (Option ConfigFault)) (f : ConfigFault) → x ≡ None → IsFirstFault xs f → IsFirstFault (x ∷ xs) f
later x xs f e h = rw e (record { is = h.is })

pub first_none : (xs ys : List (Option ConfigFault)) → first_fault xs ≡ None → first_fault (xs ++ ys) ≡ first_fault ys
first_none [] ys e = refl
first_none (None ∷ xs) ys e = first_none xs ys e
first_none (Some f ∷ xs) ys e = cc

first_some : (xs ys : List (Option ConfigFault)) (f : ConfigFault) → first_fault xs ≡ Some f → first_fault (xs ++ ys) ≡ Some f
first_some [] ys f e = cc
first_some (None ∷ xs) ys f e = first_some xs ys f e
first_some (Some g ∷ xs) ys f e = e

within_first : (xs ys : List (Option ConfigFault)) (f : ConfigFault) → IsFirstFault xs f → IsFirstFault (xs ++ ys) f
within_first xs ys f h = elim h.is [
  | inl e ↦ record { is = inl e }
  | inr e ↦ record { is = inr (first_some xs ys f e) }
]

past_first : (xs ys : List (Option ConfigFault)) (f : ConfigFault) → first_fault xs ≡ None → IsFirstFault ys f → IsFirstFault (xs ++ ys) f
past_first xs ys f e h = elim h.is [
  | inl m ↦ record { is = inl m }
  | inr g ↦ record { is = inr (first_none xs ys e ∙ g) }
]

refused_by : (document : Members) (f : ConfigFault) → document_fault document ≡ Some f → IsDocumentFault document f
refused_by document f e =
    IsDocumentFault-found document f (document_fault document) (document_fault-of_a_key document) (IsFaultOf-cause _ f e) (λ g h. h)

module _ (document : Members) (known : first_unknown document ≡ None) where
  abbrev faults : List (Option ConfigFault)
  faults = shape_faults document ++ (pace_faults document ++ (wear_faults document ++ energy_faults document))

  known_first : option_map (λ at. Unknown at) (first_unknown document) ≡ None
  known_first = rw known refl

  all_faults : document_fault document ≡ first_fault faults
  all_faults = first_none (option_map (λ at. Unknown at) (first_unknown document) ∷ []) faults (rw known_first refl)

  refused : (f : ConfigFault) → IsFirstFault faults f → IsDocumentFault document f
  refused f h = elim h.is [
    | inl m ↦ rw m tt
    | inr e ↦ refused_by document f (all_faults ∙ e)
  ]

  pub by_shape : (f : ConfigFault) → IsFirstFault (shape_faults document) f → IsDocumentFault document f
  by_shape f h = refused f (within_first (shape_faults document) (pace_faults document ++ (wear_faults document ++ energy_faults document)) f h)

  module _ (shape : first_fault (shape_faults document) ≡ None) where
    past_shape : (f : ConfigFault) → IsFirstFault (pace_faults document ++ (wear_faults document ++ energy_faults document)) f → IsDocumentFault document f
    past_shape f h = refused f (past_first (shape_faults document) (pace_faults document ++ (wear_faults document ++ energy_faults document)) f shape h)

    pub by_pace : (f : ConfigFault) → IsFirstFault (pace_faults document) f → IsDocumentFault document f
    by_pace f h = past_shape f (within_first (pace_faults document) (wear_faults document ++ energy_faults document) f h)

    module _ (pace : first_fault (pace_faults document) ≡ None) where
      past_pace : (f : ConfigFault) → IsFirstFault (wear_faults document ++ energy_faults document) f → IsDocumentFault document f
      past_pace f h = past_shape f (past_first (pace_faults document) (wear_faults document ++ energy_faults document) f pace h)

      pub by_wear : (f : ConfigFault) → IsFirstFault (wear_faults document) f → IsDocumentFault document f
      by_wear f h = past_pace f (within_first (wear_faults document) (energy_faults document) f h)

      module _ (wear : first_fault (wear_faults document) ≡ None) where
        pub by_energies : (f : ConfigFault) → IsFirstFault (energy_faults document) f → IsDocumentFault document f
        by_energies f h = past_pace f (past_first (wear_faults document) (energy_faults document) f wear h)

        pub none_refuses : first_fault (energy_faults document) ≡ None → document_fault document ≡ None
        none_refuses energies = all_faults
            ∙ first_none (shape_faults document) (pace_faults document ++ (wear_faults document ++ energy_faults document)) shape
            ∙ first_none (pace_faults document) (wear_faults document ++ energy_faults document) pace
            ∙ first_none (wear_faults document) (energy_faults document) wear
            ∙ energies

-- a key that is not known comes first
pub by_unknown : (document : Members) (at : ℕ) → first_unknown document ≡ Some at → IsDocumentFault document (Unknown at)
by_unknown document at is = refused_by document (Unknown at) (rw is refl)

-- the parts that were read, and the geometry that was made of them
module _ (document : Members) (s : Shape) (p : Pace) (w : Wear) (e : Energies) (shape : IsShapeOf document s) (pace : IsPaceOf document p) (wear : IsWearOf document w) (energies : AreEnergiesOf document e) where
  pub setup_read : (g : GeometryType) (gears : List ℕ) → gears ≡ s.gears.items → (g.disks ≡ s.disks) × (g.rows ≡ s.rows) → IsGearList s.disks gears × AreFlagsOf gears (length gears) g.gears
      → IsSetupOf document (record { geometry = g; mode = p.mode; rate = p.rate; service = p.service; up = p.up; down = p.down; windows = w.windows; ration = w.ration; burst = w.burst; period = w.period; spinning_mj = e.spinning_mj; parked_mj = e.parked_mj; spinup_mj = e.spinup_mj })
  setup_read g gears same numbers listed = record {
    geometry = record {
      gears = gears;
      disks_at = subst (λ (n : ℕ). IsNumberAt document Disks n) (sym numbers.0) shape.disks_at;
      rows_at = subst (λ (n : ℕ). IsNumberAt document Rows n) (sym numbers.1) shape.rows_at;
      gears_at = subst (λ (l : List ℕ). IsListAt document Gears l) (sym same) shape.gears_at;
      listed = subst (λ (n : ℕ). IsGearList n gears) (sym numbers.0) listed.0;
      marked = listed.1;
    };
    mode = pace.mode_at;
    rate = pace.rate_at;
    service = pace.service_at;
    up = pace.up_at;
    down = pace.down_at;
    windows = wear.windows_at;
    ration = wear.ration_at;
    burst = wear.burst_at;
    period = wear.period_at;
    spinning = energies.spinning_at;
    parked = energies.parked_at;
    spinup = energies.spinup_at;
  }

  pub setup_in_range : (g : GeometryType)
      → IsSetupInRange (record { geometry = g; mode = p.mode; rate = p.rate; service = p.service; up = p.up; down = p.down; windows = w.windows; ration = w.ration; burst = w.burst; period = w.period; spinning_mj = e.spinning_mj; parked_mj = e.parked_mj; spinup_mj = e.spinup_mj })
  setup_in_range g = record {
    rate = pace.rate;
    service = pace.service;
    up = pace.up;
    down = pace.down;
    windows = wear.windows;
    ration = wear.ration;
    burst = wear.burst;
    period = wear.period;
    spinning = energies.spinning;
    parked = energies.parked;
    spinup = energies.spinup;
  }

  pub none_refused : first_unknown document ≡ None → document_fault document ≡ None
  none_refused known = none_refuses document known shape.accepted pace.accepted wear.accepted energies.accepted

  pub by_geometry : first_unknown document ≡ None → (gears : List ℕ) → gears ≡ s.gears.items → (f : GeoFault) → IsGeoFault s.disks s.rows gears f → IsDocumentFault document (Geometry f)
  by_geometry known gears same f cause = (
    none_refused known,
    record {
      disks = s.disks;
      rows = s.rows;
      gears = gears;
      disks_at = shape.disks_at;
      rows_at = shape.rows_at;
      gears_at = subst (λ (l : List ℕ). IsListAt document Gears l) (sym same) shape.gears_at;
      cause = cause;
    },
  )

-- what the setup of a document says of its text
pub read_ok : (text : List ℕ) (document : Members) (r : Result Setup ConfigFault) → IsDocumentOf text document → IfOk r (IsSetupOf document) → OnOk r (document_fault document ≡ None)
    → IfOk r (IsConfigurationOf text)
read_ok text document (Ok s) is setup accepted = record { document = document; is = is; accepted = accepted; setup = setup }
read_ok text document (Err f) is setup accepted = tt

pub read_refused : (text : List ℕ) (document : Members) (r : Result Setup ConfigFault) → IsDocumentOf text document → IfErr r (IsDocumentFault document) → IfErr r (IsConfigRefusal text)
read_refused text document (Ok s) is cause = tt
read_refused text document (Err f) is cause = IsConfigRefusal-document text document f is cause
