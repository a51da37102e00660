-- Slots that fit a meta fit it still after calls.
use Rattle.std.specs.Prelude.{◌≡◌, ◌≢◌, ℕ, ◌<◌, ◌≤◌, ◌⊎◌, ◌||◌, nat_lt, if◌then◌else◌, true, false, Bool, List, Option, Some}
use Rattle.std.proofs.Common.{sym, ◌∙◌, ap, subst, arith, inl, inr}
use Rattle.std.proofs.lemmas.Bool.{cases_Bool, cases_lt}
use Rattle.std.proofs.lemmas.Bool.Decides.{nat_tests}
use Rattle.paraid_base.specs.declared.state.Out.TheVariants.{No}
use Rattle.paraid_base.specs.declared.state.Phase.{Phase}
use Rattle.paraid_base.specs.declared.state.Phase.TheVariants.{Down, Steady, Up}
use Rattle.paraid_base.specs.States.{phase_to, rising_to}
use Rattle.paraid_rack.specs.declared.call.Power.TheVariants.{Parked, Spinning}
use Rattle.paraid_rack.specs.Disks.{is_present}
use Rattle.paraid_rack.specs.Slots.{Slot}
use Rattle.paraid_record.specs.declared.meta.Meta.{Meta}
use Rattle.paraid_record.specs.declared.meta.Setup.{Setup}
use Rattle.paraid_record.specs.Range.{IsInRange}
use Rattle.paraid_image.specs.Out.{named_out}
use Rattle.paraid_image.specs.Power.{power_by_gear}
use Rattle.paraid_moves.specs.MoveMetas.{filled_to, meta_after_begin, meta_flipped_to}
use Rattle.paraid_txn.specs.Losses.{OnlyLosesSlots}
use Rattle.paraid_core.specs.CoreInvariant.{CanServe}
use Rattle.paraid_core.specs.Steps.{IsMarkedFrom}
use Rattle.paraid_core.proofs.StepLemmas.{marked_from_setup}
use Rattle.paraid_event.proofs.ShiftMarkLemmas.{down_powers}
use Rattle.paraid_session.specs.Powers.{FitsSlots}
use Rattle.paraid_event.specs.CoreServing.{AreAllLarge}
use Rattle.paraid_shift.proofs.PowersLemmas.{flipped_powers, phase_down, phase_up, rises_same, rising_same, rising_spins}
use Rattle.paraid_event.proofs.CoreServingLemmas.{large_then, marked_gear, marked_named, none_known, turns_lost}

-- a disk that is named out after the calls, where it is absent
abbrev pub IsAbsentOut : (ℕ → Slot) → Meta → Type 0
IsAbsentOut b n = (d : ℕ) → d < n.setup.geometry.disks → is_present (b d).power ≡ false → named_out n.out ≡ Some d

-- a disk that is not out is there
pub here_of : (b : ℕ → Slot) (n : Meta) → IsAbsentOut b n → (d : ℕ) → d < n.setup.geometry.disks → named_out n.out ≢ Some d → is_present (b d).power ≡ true
here_of b n absent d low not = elim (cases_Bool (is_present (b d).power)) [
  | inr away ↦ absurd (not (absent d low away))
  | inl here ↦ here
]

-- the same gear and the same disks that come up
pub power_same : (gear gear_then d : ℕ) (p q : Phase) → gear_then ≡ gear → rising_to q ≡ rising_to p → power_by_gear gear p d ≡ power_by_gear gear_then q d
power_same gear gear_then d p q same rises =
    ap (λ (x : ℕ). if nat_lt d x || nat_lt d (rising_to p) then Spinning else Parked) (sym same)
    ∙ ap (λ (x : ℕ). if nat_lt d gear_then || nat_lt d x then Spinning else Parked) (sym rises)

-- the calls turned no disk, and the gear and the disks that come up are as they were
pub fits_kept : (a b : ℕ → Slot) (m n : Meta) → OnlyLosesSlots a b → n.setup ≡ m.setup → n.gear ≡ m.gear → rising_to n.phase ≡ rising_to m.phase
    → ((d : ℕ) → named_out m.out ≡ Some d → named_out n.out ≡ Some d) → IsAbsentOut b n → FitsSlots a m → FitsSlots b n
fits_kept a b m n spared setup gear rises stays absent fits = record {
  powers = λ d low not.
      spared.power d (here_of b n absent d low not)
      ∙ fits.powers d (subst (λ (z : Setup). d < z.geometry.disks) setup low) (λ is. not (stays d is))
      ∙ power_same m.gear n.gear d m.phase n.phase gear rises;
  large = large_then a b m n fits.large (turns_lost a b spared) setup stays absent;
}

-- a disk may have been lost in them
pub fits_marked : (a b : ℕ → Slot) (m n : Meta) → OnlyLosesSlots a b → IsMarkedFrom m n → IsAbsentOut b n → FitsSlots a m → FitsSlots b n
fits_marked a b m n spared marked absent = fits_kept a b m n spared (marked_from_setup m n marked) (marked_gear m n marked) (rises_same m n marked) (marked_named m n marked) absent

-- after a commit
pub fits_committed : (a b : ℕ → Slot) (m n : Meta) (epoch : ℕ) → OnlyLosesSlots a b → IsMarkedFrom (record m { epoch = epoch }) n → IsAbsentOut b n → FitsSlots a m → FitsSlots b n
fits_committed a b m n epoch spared marked absent fits = fits_marked a b (record m { epoch = epoch }) n spared marked absent record { powers = fits.powers; large = fits.large }

-- stripes were filled
pub fits_filled : (a b : ℕ → Slot) (m n : Meta) (end : ℕ) → OnlyLosesSlots a b → n ≡ filled_to m end → IsAbsentOut b n → FitsSlots a m → FitsSlots b n
fits_filled a b m n end spared is absent =
    fits_kept a b m n spared (ap (λ (z : Meta). z.setup) is) (ap (λ (z : Meta). z.gear) is) (ap (λ (z : Meta). rising_to z.phase) is) (λ d out. ap (λ (z : Meta). named_out z.out) is ∙ out) absent

-- a shift down has begun
pub fits_begun_down : (a b : ℕ → Slot) (m n : Meta) (to epoch : ℕ) (spins : List ℕ) → m.phase ≡ Steady → OnlyLosesSlots a b
    → IsMarkedFrom (record (meta_after_begin m (Down to) spins) { epoch = epoch }) n → IsAbsentOut b n → FitsSlots a m → FitsSlots b n
fits_begun_down a b m n to epoch spins steady spared marked absent fits =
    fits_marked a b (record (meta_after_begin m (Down to) spins) { epoch = epoch }) n spared marked absent
    record { powers = λ d low not. fits.powers d low not ∙ down_powers m to d steady; large = fits.large }

-- a shift up has begun, and the disks that it needs have come up
pub fits_begun_up : (a b c : ℕ → Slot) (m mid n : Meta) (to epoch : ℕ) (spins : List ℕ) (named : Option ℕ) → m.phase ≡ Steady → m.out ≡ No → m.gear < to → OnlyLosesSlots a b
    → IsMarkedFrom (record (meta_after_begin m (Up to) spins) { epoch = epoch }) mid → IsMarkedFrom (record (meta_after_begin m (Up to) spins) { epoch = epoch }) n
    → ((d : ℕ) → (d < mid.gear) ⊎ (rising_to mid.phase ≤ d) → c d ≡ b d) → CanServe c named n → AreAllLarge c n → IsAbsentOut c n → FitsSlots a m → FitsSlots c n
fits_begun_up a b c m mid n to epoch spins named steady whole below spared marked marked_then others serves large absent fits = record {
  powers = powers;
  large = large;
}
  where
    begun : Meta
    begun = record (meta_after_begin m (Up to) spins) { epoch = epoch }

    gear : n.gear ≡ m.gear
    gear = marked_gear begun n marked_then

    rises : rising_to n.phase ≡ to
    rises = rises_same begun n marked_then

    past : (d : ℕ) → d < n.setup.geometry.disks → named_out n.out ≢ Some d → (d < m.gear) ⊎ (to ≤ d) → (c d).power ≡ power_by_gear n.gear n.phase d
    past d low not place =
        let same : c d ≡ b d = others d (elim place [ inl less ↦ inl (let g = marked_gear begun mid marked in omega (arith, g, less)) | inr over ↦ inr (let r = rises_same begun mid marked in omega (arith, r, over)) ]) in
        let here : is_present (b d).power ≡ true = ap (λ (s : Slot). is_present s.power) (sym same) ∙ here_of c n absent d low not in
        ap (λ (s : Slot). s.power) same ∙ spared.power d here
        ∙ fits.powers d (subst (λ (z : Setup). d < z.geometry.disks) (marked_from_setup begun n marked_then) low) (λ is. none_known m whole d is)
        ∙ ap (λ (p : Phase). power_by_gear m.gear p d) steady ∙ ap (λ (x : ℕ). power_by_gear x Steady d) (sym gear)
        ∙ rising_same n.gear d n.phase (omega (arith, gear, rises, below)) (elim place [ inl less ↦ inl (omega (arith, gear, less)) | inr over ↦ inr (omega (arith, rises, over)) ])

    powers : (d : ℕ) → d < n.setup.geometry.disks → named_out n.out ≢ Some d → (c d).power ≡ power_by_gear n.gear n.phase d
    powers d low not = elim (cases_lt d m.gear) [
      | inl less ↦ past d low not (inl less)
      | inr over ↦ elim (cases_lt d to) [
        | inr high ↦ past d low not (inr (omega (arith, high)))
        | inl less ↦ let rising : d < rising_to n.phase = omega (arith, rises, less) in serves.spins d rising not ∙ rising_spins n.gear d n.phase rising
      ]
    ]

-- a shift has ended, and the disks that its gear does not need are parked
pub fits_flipped : (a b c : ℕ → Slot) (m mid n : Meta) (epoch hi : ℕ) → IsInRange m → m.out ≡ No → hi ≡ m.gear → 0 < phase_to m.phase → OnlyLosesSlots a b
    → IsMarkedFrom (record (meta_flipped_to m (phase_to m.phase)) { epoch = epoch }) mid → IsMarkedFrom (record (meta_flipped_to m (phase_to m.phase)) { epoch = epoch }) n
    → ((d : ℕ) → mid.gear ≤ d → d < hi → named_out n.out ≢ Some d → (c d).power ≡ Parked)
    → ((d : ℕ) → (d < mid.gear) ⊎ (hi ≤ d) → c d ≡ b d) → AreAllLarge c n → IsAbsentOut c n → FitsSlots a m → FitsSlots c n
fits_flipped a b c m mid n epoch hi range whole top shifts spared marked marked_then parked others large absent fits = record {
  powers = powers;
  large = large;
}
  where
    ended : Meta
    ended = record (meta_flipped_to m (phase_to m.phase)) { epoch = epoch }

    gear : mid.gear ≡ phase_to m.phase
    gear = marked_gear ended mid marked

    now : (d : ℕ) → power_by_gear (phase_to m.phase) Steady d ≡ power_by_gear n.gear n.phase d
    now d = power_same (phase_to m.phase) n.gear d Steady n.phase (marked_gear ended n marked_then) (rises_same ended n marked_then)

    rest : (to d : ℕ) → to ≤ d → Parked ≡ power_by_gear to Steady d
    rest to d over = ap (λ (t : Bool). if t then Spinning else Parked) (by to over)
      where
        by : (to : ℕ) → to ≤ d → false ≡ (nat_lt d to || nat_lt d 0)
        by to over = grind (arith, nat_tests)

    past : (d : ℕ) → d < n.setup.geometry.disks → named_out n.out ≢ Some d → (d < phase_to m.phase) ⊎ (hi ≤ d) → (c d).power ≡ power_by_gear n.gear n.phase d
    past d low not place =
        let same : c d ≡ b d = others d (elim place [ inl less ↦ inl (omega (arith, gear, less)) | inr over ↦ inr over ]) in
        let here : is_present (b d).power ≡ true = ap (λ (s : Slot). is_present s.power) (sym same) ∙ here_of c n absent d low not in
        ap (λ (s : Slot). s.power) same ∙ spared.power d here
        ∙ fits.powers d (subst (λ (z : Setup). d < z.geometry.disks) (marked_from_setup ended n marked_then) low) (λ is. none_known m whole d is)
        ∙ flipped_powers m hi d top shifts place (phase_down m range) (phase_up m range) ∙ now d

    powers : (d : ℕ) → d < n.setup.geometry.disks → named_out n.out ≢ Some d → (c d).power ≡ power_by_gear n.gear n.phase d
    powers d low not = elim (cases_lt d (phase_to m.phase)) [
      | inl less ↦ past d low not (inl less)
      | inr over ↦ elim (cases_lt d hi) [
        | inr high ↦ past d low not (inr (omega (arith, high)))
        | inl less ↦ parked d (omega (arith, gear, over)) less not ∙ rest (phase_to m.phase) d (omega (arith, over)) ∙ now d
      ]
    ]
