-- Spin-ups and parks of a mount keep to what is recorded.
use Rattle.std.proofs.Common.{◌≡◌, ◌≢◌, ℕ, ◌+◌, ◌-◌, ◌<◌, ◌≤◌, Bool, true, false, List, [], ◌∷◌, Some, refl, sym, ap, ◌∙◌, inl, inr, subst, arith, if◌then◌else◌}
use Rattle.std.specs.Prelude.{◌==◌, ◌&&◌, nat_le, nat_lt, slice_index}
use Rattle.std.proofs.lemmas.Bool.{cases_eq, false≢true}
use Rattle.std.proofs.lemmas.Bool.Decides.{nat_tests}
use Rattle.paraid_rack.specs.declared.call.Call.{Call}
use Rattle.paraid_rack.specs.declared.call.Call.TheVariants.{Read, Write, Sync, Park, SpinUp, Attach}
use Rattle.paraid_rack.specs.declared.call.Power.{Power}
use Rattle.paraid_rack.specs.declared.call.Power.TheVariants.{Absent, Parked, Spinning}
use Rattle.paraid_rack.specs.Disks.{Disks, IsPresent, is_parked, is_present, lose, power_after, step, with_at}
use Rattle.paraid_rack.proofs.AtomsLemmas.{with_at_other, with_at_same}
use Rattle.paraid_record.specs.declared.meta.Meta.{Meta}
use Rattle.paraid_record.specs.declared.meta.Setup.{Setup}
use Rattle.paraid_image.specs.Calls.{is_done}
use Rattle.paraid_image.specs.Looked.{IsLooked}
use Rattle.paraid_image.specs.Looked.IsLooked.{lost, whole}
use Rattle.paraid_image.specs.Spins.{made_spin_ups}
use Rattle.paraid_image.specs.Spot.{rising_to}
use Rattle.paraid_recover.specs.Powers.{IsPowerCall}
use Rattle.paraid_session.specs.Watch.{Bounds, Down, Each, IsServing, IsWithinBounds, Watch, down_after, nobody, only, several, watch, watch_all}
use Rattle.paraid_recover.specs.StartCalls.{IsSpinUpRecorded}
use Rattle.paraid_recover.specs.RecordedSpins.{AreSpinUpsRecorded, HasRecord, OnlyStands, StaysWithin}
use Rattle.paraid_txn.specs.Uses.{EachCall}

lost_power : (i : Disks) (e d : ℕ) → IsPresent (lose e i) d → (lose e i).power d ≡ i.power d
lost_power i e d here = elim (cases_eq d e) [
  | inl is ↦ absurd (false≢true (sym (ap is_present (with_at_same i.power e Absent d is)) ∙ here))
  | inr apart ↦ with_at_other i.power e Absent d apart
]

-- a disk that is there in an image that is looked at has its power
pub looked_power : (s i : Disks) (d : ℕ) → IsLooked s i → IsPresent i d → i.power d ≡ s.power d
looked_power s i d (whole image) here = image.power d
looked_power s i d (lost j e image may is) here =
    let at : IsPresent (lose e j) d = subst (λ (k : Disks). IsPresent k d) (sym is) here in
    sym (ap (λ (k : Disks). k.power d) is) ∙ lost_power j e d at ∙ image.power d

pub same_used : (m : Meta) (f g : ℕ → Power) (d : ℕ) → f d ≡ g d → made_spin_ups m f d ≡ made_spin_ups m g d
same_used m f g d is = rw is refl

-- no spin-up is pending of a disk that spins, or that no shift up needs
spinning_used : (m : Meta) (power : ℕ → Power) (d : ℕ) → power d ≡ Spinning → made_spin_ups m power d ≡ slice_index m.spins d
spinning_used m power d is = by (nat_le m.gear d) (nat_lt d (rising_to m.phase)) (is_parked (power d)) (ap is_parked is)
  where
    by : (a b c : Bool) → c ≡ false → slice_index m.spins d - (if (a && b && c) then 1 else 0) ≡ slice_index m.spins d
    by true true true c = absurd (false≢true (sym c))
    by true true false c = omega arith
    by true false c is = omega arith
    by false b c is = omega arith

settled_used : (m : Meta) (power : ℕ → Power) (d : ℕ) → rising_to m.phase ≤ d → made_spin_ups m power d ≡ slice_index m.spins d
settled_used m power d high = by (nat_le m.gear d) (nat_lt d (rising_to m.phase)) (is_parked (power d)) (not_below d (rising_to m.phase) high)
  where
    not_below : (a b : ℕ) → b ≤ a → nat_lt a b ≡ false
    not_below a b l = grind (arith, nat_tests)

    by : (a b c : Bool) → b ≡ false → slice_index m.spins d - (if (a && b && c) then 1 else 0) ≡ slice_index m.spins d
    by true true c is = absurd (false≢true (sym is))
    by true false c is = omega arith
    by false b c is = omega arith

used_at_most : (m : Meta) (power : ℕ → Power) (d : ℕ) → made_spin_ups m power d ≤ slice_index m.spins d
used_at_most m power d = omega arith

-- where one is pending it is not counted
pending_used : (m : Meta) (power : ℕ → Power) (d : ℕ) → m.gear ≤ d → d < rising_to m.phase → power d ≡ Parked → made_spin_ups m power d ≡ slice_index m.spins d - 1
pending_used m power d low high is = ap (λ (k : ℕ). slice_index m.spins d - k) (by (nat_le m.gear d) (nat_lt d (rising_to m.phase)) (is_parked (power d)) (at_least m.gear d low) (below d (rising_to m.phase) high) (ap is_parked is))
  where
    at_least : (a b : ℕ) → a ≤ b → nat_le a b ≡ true
    at_least a b l = grind (arith, nat_tests)

    below : (a b : ℕ) → a < b → nat_lt a b ≡ true
    below a b l = grind (arith, nat_tests)

    by : (a b c : Bool) → a ≡ true → b ≡ true → c ≡ true → ◌≡◌ {A = ℕ} (if (a && b && c) then 1 else 0) 1
    by a b c p q r = rw (p, q, r) refl

if_other : (d e count : ℕ) → d ≢ e → (if d == e then count + 1 else count) ≡ count
if_other d e count apart = grind (arith, nat_tests)

if_self : (d e count : ℕ) → d ≡ e → (if d == e then count + 1 else count) ≡ count + 1
if_self d e count same = grind (arith, nat_tests)

present_at : (s : Disks) (e d : ℕ) (power : Power) → d ≡ e → s.power e ≡ power → is_present power ≡ true → IsPresent s d
present_at s e d power same is here = ap is_present (ap s.power same ∙ is) ∙ here

power_now : (s : Disks) (e : ℕ) (done : Bool) (power : Power) (d : ℕ) → d ≡ e → is_present (with_at s.power e (power_after done power) d) ≡ true → with_at s.power e (power_after done power) d ≡ power
power_now s e true power d is here = with_at_same s.power e power d is
power_now s e false power d is here = absurd (false≢true (sym (ap is_present (with_at_same s.power e Absent d is)) ∙ here))

-- one disk at most is down only where it was so before
pub serving_by : (down : Down) (c : Call) → IsServing (down_after down c) → IsServing down
serving_by nobody c serving = tt
serving_by (only d) c serving = tt
serving_by several c serving = by (is_done c) serving
  where
    by : (done : Bool) → IsServing (if done then several else several) → ⊥
    by true s = s
    by false s = s

-- the spin-ups of one disk are recorded, while it is there
abbrev pub IsOneRecorded : Meta → ℕ → Watch → Type 0
IsOneRecorded m d w = IsServing w.down → IsPresent w.disks d → w.spun d ≤ made_spin_ups m w.disks.power d

module _ (m : Meta) where
  park_step : (d : ℕ) (w : Watch) (e : ℕ) (done : Bool) → IsPowerCall m (Park e done) → w.disks.power e ≡ Spinning → IsOneRecorded m d w → IsOneRecorded m d (watch (Park e done) w)
  unfolding step
  park_step d w e done is spins was serving here = let now = serving_by w.down (Park e done) serving in elim (cases_eq d e) [
    | inl same ↦
        let high = is.2 in
        let used = settled_used m (with_at w.disks.power e (power_after done Parked)) d (omega (arith, high, same)) in
        let before = was now (present_at w.disks e d Spinning same spins refl) in
        let most = used_at_most m w.disks.power d in
        omega (arith, used, before, most)
    | inr apart ↦
        let same = with_at_other w.disks.power e (power_after done Parked) d apart in
        let before = was now (ap is_present (sym same) ∙ here) in
        let used = same_used m (with_at w.disks.power e (power_after done Parked)) w.disks.power d same in
        omega (arith, used, before)
  ]

  spin_up_step : (d : ℕ) (w : Watch) (e : ℕ) (done : Bool) → IsPowerCall m (SpinUp e done) → w.disks.power e ≡ Parked → (IsServing w.down → 1 ≤ slice_index m.spins e) → IsOneRecorded m d w → IsOneRecorded m d (watch (SpinUp e done) w)
  unfolding step
  spin_up_step d w e done is parked some was serving here = let now = serving_by w.down (SpinUp e done) serving in elim (cases_eq d e) [
    | inl same ↦
        let used = spinning_used m (with_at w.disks.power e (power_after done Spinning)) d (power_now w.disks e done Spinning d same here) in
        let before = was now (present_at w.disks e d Parked same parked refl) in
        let from = is.1 in
        let to = is.2 in
        let pending = pending_used m w.disks.power d (omega (arith, from, same)) (omega (arith, to, same)) (ap w.disks.power same ∙ parked) in
        let count = if_self d e (w.spun d) same in
        let has : 1 ≤ slice_index m.spins d = subst (λ (x : ℕ). 1 ≤ slice_index m.spins x) (sym same) (some now) in
        omega (arith, used, before, pending, count, has)
    | inr apart ↦
        let same = with_at_other w.disks.power e (power_after done Spinning) d apart in
        let before = was now (ap is_present (sym same) ∙ here) in
        let used = same_used m (with_at w.disks.power e (power_after done Spinning)) w.disks.power d same in
        let count = if_other d e (w.spun d) apart in
        omega (arith, used, before, count)
  ]

  one_step : (d : ℕ) (w : Watch) (c : Call) → EachCall (IsPowerCall m) w.disks (c ∷ []) → HasRecord m w c → IsOneRecorded m d w → IsOneRecorded m d (watch c w)
  one_step d w (Read e p done) each has was = absurd each.1
  one_step d w (Write e p b done) each has was = absurd each.1
  one_step d w (Sync e done) each has was = absurd each.1
  one_step d w (Park e done) each has was = park_step d w e done each.1 each.0.0 was
  one_step d w (SpinUp e done) each has was = spin_up_step d w e done each.1 each.0 (λ serving. has serving e done refl) was
  one_step d w (Attach e size done) each has was = absurd each.1

  recorded_step : (w : Watch) (c : Call) → EachCall (IsPowerCall m) w.disks (c ∷ []) → HasRecord m w c → AreSpinUpsRecorded m w → AreSpinUpsRecorded m (watch c w)
  recorded_step w c each has was serving d low here not = one_step d w c each has (λ before there. was before d low there not) serving here

  -- While the disks are powered, the spin-ups of each disk whose spin-ups are recorded are so at the end.
  pub one_recorded : (d : ℕ) (w : Watch) (cs : List Call) → EachCall (IsPowerCall m) w.disks cs → Each (OnlyStands m) (HasRecord m) w cs → IsOneRecorded m d w → IsOneRecorded m d (watch_all cs w)
  one_recorded d w [] each alone was = was
  one_recorded d w (c ∷ cs) each alone was = one_recorded d (watch c w) cs each.2 alone.2 (one_step d w c (each.0, each.1, tt) alone.1 was)

  -- the spin-up of this disk is among those that are recorded
  room : (w : Watch) (c : Call) → EachCall (IsPowerCall m) w.disks (c ∷ []) → HasRecord m w c → AreSpinUpsRecorded m w → OnlyStands m w → IsSpinUpRecorded w c
  room w (Read e p done) each has was alone = absurd each.1
  room w (Write e p b done) each has was alone = absurd each.1
  room w (Sync e done) each has was alone = absurd each.1
  room w (Park e done) each has was alone = record { recorded = λ d made at serving x i said looked stands. absurd (let z : Park e done ≡ SpinUp d made = at in cc) }
  room w (SpinUp e done) each has was alone = record {
    recorded = λ d made at serving x i said looked stands.
        let same : d ≡ e = (let z : SpinUp e done ≡ SpinUp d made = at in cc) in
        let is = each.1 in
        let before = was serving d (omega (arith, is.0, same)) (present_at w.disks e d Parked same each.0 refl) (λ named. is.3 (named ∙ ap (λ (k : ℕ). Some k) same)) in
        let pending = pending_used m w.disks.power d (let f = is.1 in omega (arith, f, same)) (let t = is.2 in omega (arith, t, same)) (ap w.disks.power same ∙ each.0) in
        let has_one : 1 ≤ slice_index m.spins d = subst (λ (k : ℕ). 1 ≤ slice_index m.spins k) (sym same) (has serving e done refl) in
        let stood : slice_index said.meta.spins d ≡ slice_index m.spins d = ap (λ (k : Meta). slice_index k.spins d) (alone serving x i said looked stands) in
        omega (arith, before, pending, has_one, stood);
  }
  room w (Attach e size done) each has was alone = absurd each.1

  module _ (b : Bounds) (setup : m.setup ≡ b.setup) (epoch : m.epoch ≤ b.epoch) (ticks : m.ticks ≤ b.ticks) where
    within_now : (w : Watch) → AreSpinUpsRecorded m w → OnlyStands m w → StaysWithin b w
    within_now w was alone serving x i said looked stands =
        subst (IsWithinBounds b w.spun i) (sym (alone serving x i said looked stands)) (record {
          same_setup = setup;
          in_time = epoch;
          counted_ticks = ticks;
          recorded = λ d low here not.
              let power = looked_power w.disks i d looked here in
              let used = same_used m i.power w.disks.power d power in
              let before = was serving d (subst (λ (z : Setup). d < z.geometry.disks) (sym setup) low) (ap is_present (sym power) ∙ here) not in
              omega (arith, used, before);
        })

    -- While the disks are powered, each spin-up is recorded, and what stands is within the bounds.
    pub each_recorded : (w : Watch) (cs : List Call) → EachCall (IsPowerCall m) w.disks cs → Each (OnlyStands m) (HasRecord m) w cs → AreSpinUpsRecorded m w → Each (StaysWithin b) IsSpinUpRecorded w cs
    each_recorded w [] each alone was = within_now w was alone
    each_recorded w (c ∷ cs) each alone was = (
      within_now w was alone.0,
      room w c (each.0, each.1, tt) alone.1 was alone.0,
      each_recorded (watch c w) cs each.2 alone.2 (recorded_step w c (each.0, each.1, tt) alone.1 was),
    )
