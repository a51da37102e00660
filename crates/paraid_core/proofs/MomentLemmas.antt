-- Reads leave what is held at each moment.
use Rattle.std.specs.Prelude.{◌≡◌, ◌≢◌, ℕ, ◌<◌, Bool, true, false, List, [], ◌∷◌, Option, Some, None}
use Rattle.std.proofs.Common.{refl, sym, ◌∙◌, ap, subst, inl, inr}
use Rattle.std.proofs.lemmas.Bool.{cases_eq}
use Rattle.paraid_base.specs.History.{History}
use Rattle.paraid_rack.specs.declared.call.Call.{Call}
use Rattle.paraid_rack.specs.declared.call.Call.TheVariants.{Read, Write, Sync, Park, SpinUp, Attach}
use Rattle.paraid_rack.specs.declared.call.Power.{Power}
use Rattle.paraid_rack.specs.declared.call.Power.TheVariants.{Absent}
use Rattle.paraid_rack.specs.Disks.{Disks, is_present, step}
use Rattle.paraid_rack.specs.Told.{Through}
use Rattle.paraid_rack.proofs.AtomsLemmas.{with_at_other, with_at_same}
use Rattle.paraid_record.specs.declared.meta.Meta.{Meta}
use Rattle.paraid_record.specs.Range.{IsInRange}
use Rattle.paraid_image.specs.Calls.{disk_of, is_done}
use Rattle.paraid_image.specs.LostDisk.{IsLoss}
use Rattle.paraid_image.specs.Out.{IsMissing, named_out, out_disk}
use Rattle.paraid_image.proofs.FailedCallLemmas.{failed_is_loss}
use Rattle.paraid_image.specs.Standing.{Contents}
use Rattle.paraid_image.proofs.OutLemmas.{missing_is_out, out_missing}
use Rattle.paraid_image.proofs.CallLemmas.{out_named}
use Rattle.paraid_moves.specs.Copying.{HoldsWithCopies, IsCopyImage, without_disk}
use Rattle.paraid_moves.proofs.RunLemmas.{copies_held, copies_lost, copies_read}
use Rattle.paraid_view.specs.Reads.{AreArrayReads}
use Rattle.paraid_core.specs.CoreInvariant.{IsHeldWithOneMissing}

-- the disks hold what the last commit left, or two of them are missing
pub data Holding (slots : ℕ) (base : Meta) (h : History) (lo : ℕ) (s : Disks) : Type 0 where
  intact : (held : Contents) → HoldsWithCopies slots base held h lo s → Holding slots base h lo s
  twice : (w e : ℕ) → w ≢ e → IsMissing s.power base w → IsMissing s.power base e → Holding slots base h lo s

module _ (slots : ℕ) (base : Meta) (held : Contents) (h : History) (lo : ℕ) (s : Disks) (c : HoldsWithCopies slots base held h lo s) where
  as_it_is : IsCopyImage (record s { loose = λ d p. false }) base held
  as_it_is = c.copying (record s { loose = λ d p. false }) (record { power = λ d. refl; size = λ d. refl; block = λ d p not. refl; loose = λ d p. refl })

  pub base_in_range : IsInRange base
  base_in_range = as_it_is.log.stands.says.log.meta.in_range

  pub single : (d e : ℕ) → IsMissing s.power base d → IsMissing s.power base e → d ≡ e
  single = as_it_is.log.single

  -- a missing disk is the out disk
  pub missing_out : (d : ℕ) → IsMissing s.power base d → out_disk s.power base ≡ Some d
  missing_out d missing = elim missing.is [
    | inl gone ↦ missing_is_out s.power base d base_in_range single missing gone
    | inr named ↦ out_named s.power base d named
  ]

module _ (slots : ℕ) (base : Meta) (h : History) (lo : ℕ) where
  -- what is named or absent is missing
  module _ (s : Disks) (named : Option ℕ) (knows : (d : ℕ) → named_out base.out ≡ Some d → named ≡ Some d) (down : Option ℕ)
      (absent : (d : ℕ) → d < base.setup.geometry.disks → is_present (s.power d) ≡ false → down ≡ Some d) (known : (d : ℕ) → named ≡ Some d → down ≡ Some d) where
    missing_down : (d : ℕ) → IsMissing s.power base d → down ≡ Some d
    missing_down d missing = elim missing.is [ inl gone ↦ absent d missing.disk gone | inr is ↦ known d (knows d is) ]

  pub beside : (named : Option ℕ) → ((d : ℕ) → named_out base.out ≡ Some d → named ≡ Some d) → (s : Disks) → Holding slots base h lo s
      → IsHeldWithOneMissing slots base.setup.geometry.disks named h lo s
  beside named knows s (intact held c) = record {
    held = λ down absent known.
        let was = copies_held slots base held h lo s c in
        record {
          whole = was.whole;
          lost = was.lost;
          weak = λ i w e weak. missing_down s named knows down absent known w (out_missing s.power base w (base_in_range slots base held h lo s c) (was.weak i w e weak));
        };
  }
  beside named knows s (twice w e apart mw me) = record {
    held = λ down absent known.
        let z : Some w ≡ Some e = sym (missing_down s named knows down absent known w mw) ∙ missing_down s named knows down absent known e me in
        let same : w ≡ e = cc in absurd (apart same);
  }

  same_power : (s : Disks) (e q x : ℕ) → (step (Read e q true) s).power x ≡ s.power x
  unfolding step
  same_power s e q x = elim (cases_eq x e) [
    | inl is ↦ with_at_same s.power e (s.power e) x is ∙ ap s.power (sym is)
    | inr apart ↦ with_at_other s.power e (s.power e) x apart
  ]

  missing_stays : (s : Disks) (e q w : ℕ) (done : Bool) → IsMissing s.power base w → IsMissing (step (Read e q done) s).power base w
  unfolding step
  missing_stays s e q w true missing = subst (λ (p : ℕ → Power). IsMissing p base w) (λ t. λ x. sym (same_power s e q x) t) missing
  missing_stays s e q w false missing = record {
    disk = missing.disk;
    is = elim missing.is [
      | inr named ↦ inr named
      | inl gone ↦ elim (cases_eq w e) [
        | inl is ↦ inl (ap is_present (with_at_same s.power e Absent w is))
        | inr apart ↦ inl (ap is_present (with_at_other s.power e Absent w apart) ∙ gone)
      ]
    ];
  }

  -- a failed call leaves no more than one disk missing, or two
  module _ (s : Disks) (c : Call) (failed : is_done c ≡ false) where
    lost : IsLoss s (step c s) (disk_of c)
    lost = failed_is_loss s c failed

    missing_left : (w : ℕ) → IsMissing s.power base w → IsMissing (step c s).power base w
    missing_left w missing = record {
      disk = missing.disk;
      is = elim missing.is [
        | inr named ↦ inr named
        | inl gone ↦ elim (cases_eq w (disk_of c)) [
          | inl is ↦ inl (ap is_present (lost.power w ∙ with_at_same s.power (disk_of c) Absent w is))
          | inr apart ↦ inl (ap is_present (lost.power w ∙ with_at_other s.power (disk_of c) Absent w apart) ∙ gone)
        ]
      ];
    }

    missing_now : disk_of c < base.setup.geometry.disks → IsMissing (step c s).power base (disk_of c)
    missing_now low = record { disk = low; is = inl (ap is_present (lost.power (disk_of c) ∙ with_at_same s.power (disk_of c) Absent (disk_of c) refl)) }

    pub failed_holding : disk_of c < base.setup.geometry.disks → (held : Contents) → HoldsWithCopies slots base held h lo s → Holding slots base h lo (step c s)
    failed_holding low held c_is = by (out_disk s.power base) refl
      where
        range : IsInRange base
        range = base_in_range slots base held h lo s c_is

        by : (o : Option ℕ) → out_disk s.power base ≡ o → Holding slots base h lo (step c s)
        by None none = intact (without_disk held (disk_of c)) (copies_lost slots base held h lo s c failed range (record {
          copies = c_is;
          disk = low;
          others = λ x missing. let z : None ≡ Some x = sym none ∙ missing_out slots base held h lo s c_is x missing in cc;
        }))
        by (Some w) is = elim (cases_eq w (disk_of c)) [
          | inr apart ↦ twice w (disk_of c) apart (missing_left w (out_missing s.power base w range is)) (missing_now low)
          | inl same ↦ intact (without_disk held (disk_of c)) (copies_lost slots base held h lo s c failed range (record {
            copies = c_is;
            disk = low;
            others = λ x missing. single slots base held h lo s c_is x w missing (out_missing s.power base w range is) ∙ same;
          }))
        ]

  after_read : (s : Disks) (e q : ℕ) (done : Bool) → e < base.setup.geometry.disks → Holding slots base h lo s → Holding slots base h lo (step (Read e q done) s)
  after_read s e q done low (twice w x apart mw mx) = twice w x apart (missing_stays s e q w done mw) (missing_stays s e q x done mx)
  after_read s e q true low (intact held c) = intact held (copies_read slots base held h lo s e q c)
  after_read s e q false low (intact held c) = failed_holding s (Read e q false) refl low held c

  -- at each moment of some reads
  pub reads_held : (named : Option ℕ) → ((d : ℕ) → named_out base.out ≡ Some d → named ≡ Some d) → (s : Disks) (cs : List Call)
      → AreArrayReads base.setup.geometry.disks s cs → Holding slots base h lo s → Through (IsHeldWithOneMissing slots base.setup.geometry.disks named h lo) s cs
  reads_held named knows s [] are holding = beside named knows s holding
  reads_held named knows s (Read e q done ∷ cs) are holding =
      (beside named knows s holding, reads_held named knows (step (Read e q done) s) cs are.1 (after_read s e q done are.0.0 holding))
  reads_held named knows s (Write e q b done ∷ cs) are holding = absurd are.0
  reads_held named knows s (Sync e done ∷ cs) are holding = absurd are.0
  reads_held named knows s (Park e done ∷ cs) are holding = absurd are.0
  reads_held named knows s (SpinUp e done ∷ cs) are holding = absurd are.0
  reads_held named knows s (Attach e size done ∷ cs) are holding = absurd are.0
