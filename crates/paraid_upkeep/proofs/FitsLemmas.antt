-- Slots that fit a meta fit it still where a disk is out, is rebuilt, comes back or is replaced.
use Rattle.std.specs.Prelude.{◌≡◌, ◌≢◌, ℕ, ◌<◌, ◌≤◌, ◌||◌, nat_lt, if◌then◌else◌, true, false, Bool, Option, Some}
use Rattle.std.proofs.Common.{refl, sym, ◌∙◌, ap, subst, arith, inl, inr}
use Rattle.std.proofs.lemmas.Bool.{cases_eq}
use Rattle.std.proofs.lemmas.Bool.Decides.{nat_tests}
use Rattle.paraid_base.specs.declared.state.Out.{Out}
use Rattle.paraid_base.specs.declared.state.Out.TheVariants.{Gone, No}
use Rattle.paraid_base.specs.declared.state.Phase.{Phase}
use Rattle.paraid_base.specs.declared.state.Phase.TheVariants.{Down, Steady, Up}
use Rattle.paraid_base.specs.States.{phase_beside, rising_to}
use Rattle.paraid_rack.specs.declared.call.Power.TheVariants.{Parked, Spinning}
use Rattle.paraid_rack.specs.Slots.{Slot}
use Rattle.paraid_record.specs.declared.meta.Meta.{Meta}
use Rattle.paraid_record.specs.declared.meta.Setup.{Setup}
use Rattle.paraid_image.specs.Mark.{meta_after_loss}
use Rattle.paraid_image.specs.Out.{named_out}
use Rattle.paraid_image.specs.Power.{power_by_gear}
use Rattle.paraid_moves.specs.MoveMetas.{meta_with_out}
use Rattle.paraid_txn.specs.Losses.{OnlyLosesSlots}
use Rattle.paraid_session.specs.Powers.{FitsSlots}
use Rattle.paraid_rebuild.specs.Replacing.{IsReplacedFrom, OnlyLosesBut}
use Rattle.paraid_event.specs.CoreServing.{AreAllLarge}
use Rattle.paraid_shift.proofs.FitsLemmas.{IsAbsentOut, fits_kept, here_of, power_same}
use Rattle.paraid_event.proofs.CoreServingLemmas.{none_known}

-- a disk that is lost ends no shift up
pub rises_lost : (p : Phase) → rising_to (phase_beside true p) ≡ rising_to p
rises_lost Steady = refl
rises_lost (Down to) = refl
rises_lost (Up to) = refl

-- the same disk is out, with more units rebuilt
pub fits_out : (a b : ℕ → Slot) (m n : Meta) (disk epoch : ℕ) (out : Out) → OnlyLosesSlots a b → n ≡ record m { epoch = epoch; out = out } → named_out m.out ≡ Some disk → named_out out ≡ Some disk → IsAbsentOut b n → FitsSlots a m → FitsSlots b n
fits_out a b m n disk epoch out spared is was now absent =
    fits_kept a b m n spared (ap (λ (z : Meta). z.setup) is) (ap (λ (z : Meta). z.gear) is) (ap (λ (z : Meta). rising_to z.phase) is)
    (λ d named. ap (λ (z : Meta). named_out z.out) is ∙ now ∙ sym was ∙ named) absent

-- a disk is gone, and no other one was out
pub fits_lost : (a b : ℕ → Slot) (m n : Meta) (disk epoch : ℕ) → OnlyLosesSlots a b → n ≡ record (meta_after_loss m disk) { epoch = epoch } → ((x : ℕ) → named_out m.out ≡ Some x → x ≡ disk) → IsAbsentOut b n → FitsSlots a m → FitsSlots b n
fits_lost a b m n disk epoch spared is alone absent =
    fits_kept a b m n spared (ap (λ (z : Meta). z.setup) is) (ap (λ (z : Meta). z.gear) is) (ap (λ (z : Meta). rising_to z.phase) is ∙ rises_lost m.phase)
    (λ d named. ap (λ (z : Meta). named_out z.out) is ∙ ap Some (sym (alone d named))) absent

-- this disk was out
pub out_alone : (o : Option ℕ) (disk : ℕ) → o ≡ Some disk → (x : ℕ) → o ≡ Some x → x ≡ disk
out_alone o disk was x is = let z : Some x ≡ Some disk = sym is ∙ was in cc

-- a disk has come back, and may be powered otherwise
pub fits_rejoined : (a b : ℕ → Slot) (m n : Meta) (disk epoch : ℕ) → OnlyLosesSlots a b → n ≡ record m { epoch = epoch; out = No } → named_out m.out ≡ Some disk → IsAbsentOut b n → FitsSlots a m → FitsSlots b (meta_with_out n (Gone disk))
fits_rejoined a b m n disk epoch spared is was absent =
    fits_kept a b m (meta_with_out n (Gone disk)) spared (ap (λ (z : Meta). z.setup) is) (ap (λ (z : Meta). z.gear) is) (ap (λ (z : Meta). rising_to z.phase) is)
    (λ d named. sym was ∙ named) (λ d low away. none_known n (ap (λ (z : Meta). z.out) is) d (absent d low away))

-- a disk below the gear spins
pub gear_spins : (gear d : ℕ) (p : Phase) → d < gear → Spinning ≡ power_by_gear gear p d
gear_spins gear d p low = ap (λ (t : Bool). if t then Spinning else Parked) (by (rising_to p))
  where
    by : (r : ℕ) → true ≡ (nat_lt d gear || nat_lt d r)
    by r = grind (arith, nat_tests)

-- and one that neither it nor a shift up needs is parked
pub rests_parked : (gear d : ℕ) (p : Phase) → gear ≤ d → rising_to p ≤ d → Parked ≡ power_by_gear gear p d
rests_parked gear d p past over = ap (λ (t : Bool). if t then Spinning else Parked) (by (rising_to p) over)
  where
    by : (r : ℕ) → r ≤ d → false ≡ (nat_lt d gear || nat_lt d r)
    by r over = grind (arith, nat_tests)

-- with this disk powered by the gear, or out, all are
pub fits_turned : (a b : ℕ → Slot) (m n : Meta) (disk : ℕ) → ((d : ℕ) → d ≢ disk → b d ≡ a d) → n.setup ≡ m.setup → n.gear ≡ m.gear → rising_to n.phase ≡ rising_to m.phase
    → (named_out n.out ≢ Some disk → (b disk).power ≡ power_by_gear n.gear n.phase disk) → AreAllLarge b n → FitsSlots a (meta_with_out m (Gone disk)) → FitsSlots b n
fits_turned a b m n disk others setup gear rises turned large fits = record {
  powers = λ d low not. elim (cases_eq d disk) [
    | inl same ↦ subst (λ (x : ℕ). (b x).power ≡ power_by_gear n.gear n.phase x) (sym same) (turned (λ is. not (is ∙ ap Some (sym same))))
    | inr apart ↦
        ap (λ (s : Slot). s.power) (others d apart)
        ∙ fits.powers d (subst (λ (z : Setup). d < z.geometry.disks) setup low) (λ is. apart (let z : Some disk ≡ Some d = is in cc))
        ∙ power_same m.gear n.gear d m.phase n.phase gear rises
  ];
  large = large;
}

-- more fit where one fewer is asked for
pub fits_but : (a : ℕ → Slot) (m : Meta) (disk : ℕ) → m.out ≡ No → FitsSlots a m → FitsSlots a (meta_with_out m (Gone disk))
fits_but a m disk whole fits = record {
  powers = λ d low not. fits.powers d low (λ is. none_known m whole d is);
  large = λ d low not. fits.large d low (λ is. none_known m whole d is);
}

-- a disk that was out is replaced or gone
pub fits_replaced : (a b : ℕ → Slot) (m n : Meta) (disk commits : ℕ) (out : Out) → OnlyLosesBut a b disk → IsReplacedFrom m n disk commits out → named_out m.out ≡ Some disk → named_out out ≡ Some disk → AreAllLarge b n → IsAbsentOut b n → FitsSlots a m → FitsSlots b n
fits_replaced a b m n disk commits out spared replaced was now large absent fits = record {
  powers = λ d low not.
      let apart : d ≢ disk = (λ same. not (ap (λ (z : Meta). named_out z.out) replaced.is ∙ now ∙ ap Some (sym same))) in
      spared.power d apart (here_of b n absent d low not)
      ∙ fits.powers d (subst (λ (z : Meta). d < z.setup.geometry.disks) replaced.is low) (λ is. apart (out_alone (named_out m.out) disk was d is))
      ∙ power_same m.gear n.gear d m.phase n.phase (ap (λ (z : Meta). z.gear) replaced.is) (ap (λ (z : Meta). rising_to z.phase) replaced.is ∙ rises_lost m.phase);
  large = large;
}
