-- The array can be served once its disks are powered.
use Rattle.std.specs.Prelude.{◌≡◌, ◌≢◌, ℕ, ◌<◌, ◌≤◌, ◌⊎◌, ◌||◌, nat_lt, Bool, true, false, Option, Some, None, if◌then◌else◌}
use Rattle.std.proofs.Common.{refl, sym, ◌∙◌, ap, arith, inl, inr}
use Rattle.std.proofs.lemmas.Bool.Decides.{nat_tests}
use Rattle.paraid_base.specs.declared.fault.Two.{Two}
use Rattle.paraid_base.specs.declared.state.Out.{Out}
use Rattle.paraid_base.specs.declared.state.Out.TheVariants.{No, Gone, Fresh}
use Rattle.paraid_base.specs.declared.state.Phase.{Phase}
use Rattle.paraid_base.specs.declared.state.Phase.TheVariants.{Steady, Down, Up}
use Rattle.paraid_base.specs.States.{gone_out}
use Rattle.paraid_base.specs.Told.{HasRisen}
use Rattle.paraid_base.proofs.ToldLemmas.{HasRisen-later, HasRisen-sooner}
use Rattle.paraid_rack.specs.declared.call.Power.{Power}
use Rattle.paraid_rack.specs.declared.call.Power.TheVariants.{Absent, Parked, Spinning}
use Rattle.paraid_rack.specs.Disks.{is_present}
use Rattle.paraid_rack.specs.Slots.{Agrees, Slot}
use Rattle.paraid_rack.specs.Trail.{Trail, now}
use Rattle.paraid_record.specs.declared.meta.Meta.{Meta}
use Rattle.paraid_image.specs.Out.{named_out}
use Rattle.paraid_image.specs.Power.{phase_beside, power_by_gear}
use Rattle.paraid_image.specs.Sides.{LogState}
use Rattle.paraid_image.specs.Spot.{rising_to}
use Rattle.paraid_image.proofs.MarkLemmas.{marked_in_range}
use Rattle.paraid_image.proofs.OutLemmas.{first_absent_finds, first_absent_is}
use Rattle.paraid_image.proofs.CallLemmas.{decide_some}
use Rattle.paraid_txn.specs.Losses.{AreFailedOrWell, IsOneOut, IsOutOfCommit, AreTwoDownBeside}
use Rattle.paraid_txn.specs.Losses.IsOutOfCommit.{is_absent, was_named, is_named}
use Rattle.paraid_txn.proofs.MeansLemmas.{absent_power}
use Rattle.paraid_recover.specs.HeldMoments.{IsOutAtEnd}
use Rattle.paraid_recover.specs.RecoveryMark.{to_mark, to_mark_by, with_mark}
use Rattle.paraid_session.specs.Powers.{AreSlotsSynced}
use Rattle.paraid_recover.specs.Mounted.{IsFit, IsServable, with_loss}
use Rattle.paraid_recover.specs.Powers.{IsPowered, IsPowerChanged}
use Rattle.paraid_recover.proofs.RenewLemmas.{renewed_out, renewed_setup}
use Rattle.paraid_recover.proofs.FitLemmas.{fit_marked, gone_named, marks, spinning_if}

-- the powers of a gear are the same beside a disk that is out
rising_beside : (phase : Phase) → rising_to (phase_beside true phase) ≡ rising_to phase
rising_beside Steady = refl
rising_beside (Down to) = refl
rising_beside (Up to) = refl

pub power_beside : (gear : ℕ) (phase : Phase) (d : ℕ) → power_by_gear gear (phase_beside true phase) d ≡ power_by_gear gear phase d
power_beside gear phase d = ap (λ (r : ℕ). if (nat_lt d gear || nat_lt d r) then Spinning else Parked) (rising_beside phase)

below_gear : (gear : ℕ) (phase : Phase) (d : ℕ) → d < gear → power_by_gear gear phase d ≡ Spinning
below_gear gear phase d low = let below : (nat_lt d gear || nat_lt d (rising_to phase)) ≡ true = grind (arith, nat_tests) in ap (λ (b : Bool). if b then Spinning else Parked) below

not_parked : (p : Power) → p ≡ Spinning → p ≢ Parked
not_parked p is parked = let z : Spinning ≡ Parked = sym is ∙ parked in cc

module _ (count : ℕ) (a b : ℕ → Slot) (m : Meta) (fit : IsFit count a m) (turned : (d : ℕ) → IsPowerChanged m d (a d) (b d))
    (powered : (d : ℕ) → d < m.setup.geometry.disks → IsPowered m b d) (one : IsOneOut m.setup.geometry.disks (named_out m.out) b) where
  abbrev n : ℕ
  n = m.setup.geometry.disks

  abbrev q : ℕ → Power
  q d = (b d).power

  gear_low : m.gear ≤ n
  gear_low = m.setup.geometry.gears_high m.gear fit.in_range.gear

  three : 3 ≤ m.gear
  three = m.setup.geometry.gears_low m.gear fit.in_range.gear

  awake_still : (d : ℕ) → d < m.gear → (a d).power ≢ Parked → (q d) ≢ Parked
  awake_still d low was parked = split (decide_some (named_out m.out) d)
    where
      split : (named_out m.out ≡ Some d) ⊎ (named_out m.out ≢ Some d) → ⊥
      split (inl out) = was (ap (λ (s : Slot). s.power) (sym ((turned d).still out)) ∙ parked)
      split (inr not) =
          let le = gear_low in
          not_parked (q d) (powered d (omega arith) not (ap is_present parked) ∙ below_gear m.gear m.phase d low) parked

  pub fit_turned : IsFit count b m
  fit_turned = record {
    in_range = fit.in_range;
    enough = fit.enough;
    log_disks = λ x low. awake_still x (let t = three in omega arith) (fit.log_disks x low);
    large = λ d low here in_use. (let e = (turned d).size here in let l = fit.large d low ((turned d).there here) in_use in omega arith);
    awake = λ d low in_use. awake_still d low (fit.awake d low in_use);
    fresh = λ d u is parked. fit.fresh d u is (ap (λ (s : Slot). s.power) (sym ((turned d).still (ap named_out is))) ∙ parked);
    one = one;
  }

  abbrev lost : Option ℕ
  lost = to_mark q m

  one_named : (d : ℕ) → d < n → is_present (q d) ≡ false → IsOneOut n (Some d) b
  one_named d low off x y out_x out_y = is x out_x ∙ sym (is y out_y)
    where
      is : (z : ℕ) → IsOutOfCommit q n (Some d) None z → z ≡ d
      is z (is_absent below gone) = one z d (is_absent below gone) (is_absent low (absent_power (q d) off))
      is z (was_named name) = let w : Some d ≡ Some z = name in cc
      is z (is_named name) = absurd (let w : None ≡ Some z = name in cc)

  -- a disk that is named out still is
  stays : (o : Option ℕ) → lost ≡ o → (d : ℕ) → named_out m.out ≡ Some d → named_out (with_loss m o).out ≡ Some d
  stays None is d name = name
  stays (Some e) is d name = ap Some (sym ((marks q m e fit.in_range is).2 d name))

  pub fit_lost : (o : Option ℕ) → lost ≡ o → IsFit count b (with_loss m o)
  fit_lost None is = fit_turned
  fit_lost (Some d) is =
      let it = marks q m d fit.in_range is in
      let range = fit.in_range.counters in
      fit_marked count b m d m.epoch fit_turned it.2 (marked_in_range m d m.epoch fit.in_range it.0 range.first range.epoch_fits) (one_named d it.0 it.1)

  -- a disk that is absent is named out
  absent : (d : ℕ) → d < n → is_present (q d) ≡ false → named_out (with_loss m lost).out ≡ Some d
  absent d low off = split m.out refl
    where
      out_d : IsOutOfCommit q n (named_out m.out) None d
      out_d = is_absent low (absent_power (q d) off)

      split : (o : Out) → m.out ≡ o → named_out (with_loss m (to_mark q m)).out ≡ Some d
      split No is =
          let f = first_absent_finds q n d low off in
          let there = first_absent_is q n f.0 f.1 in
          let found : lost ≡ Some f.0 = ap (λ (o : Out). to_mark_by o q n) is ∙ f.1 in
          ap (λ (o : Option ℕ). named_out (with_loss m o).out) found ∙ ap Some (one f.0 d (is_absent there.0 (absent_power (q f.0) there.1)) out_d)
      split (Gone x) is =
          let found : lost ≡ None = ap (λ (o : Out). to_mark_by o q n) is in
          ap (λ (o : Option ℕ). named_out (with_loss m o).out) found ∙ ap named_out is ∙ ap Some (one x d (was_named (ap named_out is)) out_d)
      split (Fresh x u) is =
          let same : x ≡ d = one x d (was_named (ap named_out is)) out_d in
          let gone : is_present (q x) ≡ false = ap (λ (k : ℕ). is_present (q k)) same ∙ off in
          let found : lost ≡ Some x = ap (λ (o : Out). to_mark_by o q n) is ∙ ap (λ (t : Bool). if t then None else Some x) gone in
          ap (λ (o : Option ℕ). named_out (with_loss m o).out) found ∙ ap Some same

  there_if : (d : ℕ) → d < n → named_out (with_loss m lost).out ≢ Some d → is_present (q d) ≡ true
  there_if d low not = split (is_present (q d)) refl
    where
      split : (x : Bool) → is_present (q d) ≡ x → is_present (q d) ≡ true
      split true here = here
      split false off = absurd (not (absent d low off))

  power_is : (o : Option ℕ) → (d : ℕ) → (q d) ≡ power_by_gear m.gear m.phase d → (q d) ≡ power_by_gear (with_loss m o).gear (with_loss m o).phase d
  power_is None d is = is
  power_is (Some e) d is = is ∙ sym (power_beside m.gear m.phase d)

  fresh_is : (o : Option ℕ) → (d u : ℕ) → (with_loss m o).out ≡ Fresh d u → m.out ≡ Fresh d u
  fresh_is None d u is = is
  fresh_is (Some e) d u is = absurd (let z : Gone e ≡ Fresh d u = is in cc)

  gone_is : (o : Option ℕ) → lost ≡ o → (d : ℕ) → gone_out m.out ≡ Some d → gone_out (with_loss m o).out ≡ Some d
  gone_is None is d gone = gone
  gone_is (Some e) is d gone = ap Some (sym ((marks q m e fit.in_range is).2 d (gone_named m.out d gone)))

  epoch_is : (o : Option ℕ) → (with_loss m o).epoch ≡ m.epoch
  epoch_is None = refl
  epoch_is (Some e) = refl

  version_is : (o : Option ℕ) → (with_loss m o).version ≡ m.version
  version_is None = refl
  version_is (Some e) = refl

  setup_is : (o : Option ℕ) → (with_loss m o).setup ≡ m.setup
  setup_is None = refl
  setup_is (Some e) = refl

  module _ (o : Option ℕ) (o_is : lost ≡ o) where
    absent_o : (d : ℕ) → d < n → is_present (q d) ≡ false → named_out (with_loss m o).out ≡ Some d
    absent_o d low off = ap (λ (x : Option ℕ). named_out (with_loss m x).out) (sym o_is) ∙ absent d low off

    there_o : (d : ℕ) → d < n → named_out (with_loss m o).out ≢ Some d → is_present (q d) ≡ true
    there_o d low not = there_if d low (λ is. not (ap (λ (x : Option ℕ). named_out (with_loss m x).out) (sym o_is) ∙ is))

    size_is : (with_loss m o).setup.geometry.disks ≡ n
    size_is = ap (λ s. s.geometry.disks) (setup_is o)

    pub servable : (last array rows : ℕ) (named : Option ℕ) → n ≡ array → m.version ≡ 2 → m.epoch ≡ last → named ≡ named_out m.out → rows ≡ m.setup.geometry.rows → AreSlotsSynced m a
        → IsServable count b last array named (with_loss m o) rows
    servable last array rows named array_is two last_is named_is rows_are synced = record {
      fit = fit_lost o o_is;
      array_is = size_is ∙ array_is;
      epoch_is = epoch_is o ∙ last_is;
      version_is = version_is o ∙ two;
      rows_are = rows_are ∙ sym (ap (λ s. s.geometry.rows) (setup_is o));
      absent = λ d low off. absent_o d (let e = size_is in omega arith) off;
      stays = λ d is. stays o o_is d (sym named_is ∙ is);
      powers = λ d low not.
          let below : d < n = (let e = size_is in omega arith) in
          power_is o d (powered d below (λ is. not (stays o o_is d is)) (there_o d below not));
      fresh_spins = λ d u is here. spinning_if (q d) here (fit_turned.fresh d u (fresh_is o d u is));
      synced = λ d low not here.
          let below : d < n = (let e = size_is in omega arith) in
          (turned d).unsynced here ∙ synced d below (λ gone. not (gone_is o o_is d gone)) ((turned d).there here);
    }

-- a cause after the mark, seen from before it
module _ (meta : Meta) (lost : Option ℕ) (a b c : ℕ → Slot) (each : AreFailedOrWell a b) (before : (d : ℕ) → (a d).faults ≤ (b d).faults) (after : (d : ℕ) → (b d).faults ≤ (c d).faults)
    (gone : (d : ℕ) → lost ≡ Some d → (is_present (b d).power ≡ false) × (d < meta.setup.geometry.disks)) where
  abbrev k : ℕ
  k = meta.setup.geometry.disks

  absent_was : (d : ℕ) → d < k → (b d).power ≡ Absent → IsOutOfCommit (λ e. (a e).power) k (named_out meta.out) None d ⊎ HasRisen (a d).faults (b d).faults
  absent_was d low off = elim (each d) [ inl risen ↦ inr risen | inr well ↦ inl (is_absent low (sym well.power ∙ off)) ]

  named_was : (o : Option ℕ) → lost ≡ o → (d : ℕ) → named_out (with_mark meta o).out ≡ Some d → IsOutOfCommit (λ e. (a e).power) k (named_out meta.out) None d ⊎ HasRisen (a d).faults (b d).faults
  named_was None is d name = inl (was_named (sym (ap named_out (renewed_out meta)) ∙ name))
  named_was (Some e) is d name =
      let z : Some e ≡ Some d = name in
      let same : e ≡ d = cc in
      let it = gone d (is ∙ ap Some same) in
      absent_was d it.1 (absent_power (b d).power it.0)

  was : (d : ℕ) → IsOutOfCommit (λ e. (b e).power) k (named_out (with_mark meta lost).out) None d → IsOutOfCommit (λ e. (a e).power) k (named_out meta.out) None d ⊎ HasRisen (a d).faults (b d).faults
  was d (is_absent low off) = absent_was d low off
  was d (was_named name) = named_was lost refl d name
  was d (is_named name) = absurd (let z : None ≡ Some d = name in cc)

  pub two_marked : (two : Two) → AreTwoDownBeside (IsOutOfCommit (λ e. (b e).power) k (named_out (with_mark meta lost).out) None) b c two
      → AreTwoDownBeside (IsOutOfCommit (λ e. (a e).power) k (named_out meta.out) None) a c two
  two_marked two it = record {
    first = elim it.first [
      | inl out ↦ elim (was two.first out) [
        | inl first ↦ inl first
        | inr risen ↦ inr (HasRisen-later _ _ _ risen (after two.first))
      ]
      | inr risen ↦ inr (HasRisen-sooner _ _ _ (before two.first) risen)
    ];
    apart = it.apart;
    second = HasRisen-sooner _ _ _ (before two.second) it.second;
  }

  -- who is out by the mark
  out_at_end : (said : LogState) (told : Option Trail) → said.meta ≡ meta → ((t : Trail) → told ≡ Some t → Agrees (now t) b) → (o : Option ℕ) → lost ≡ o → IsOutAtEnd said (with_mark meta o) told
  out_at_end said told is agrees None none t tells d name = inl (ap (λ (x : Meta). named_out x.out) is ∙ sym (ap named_out (renewed_out meta)) ∙ name)
  out_at_end said told is agrees (Some e) some t tells d name =
      let z : Some e ≡ Some d = name in
      let same : e ≡ d = cc in
      let it = gone d (some ∙ ap Some same) in
      let low = ap (λ (x : Meta). x.setup.geometry.disks) is in
      let l = it.1 in
      inr (omega arith, ap is_present ((agrees t tells).power d) ∙ it.0)

  pub who_is_out : (said : LogState) (told : Option Trail) → said.meta ≡ meta → ((t : Trail) → told ≡ Some t → Agrees (now t) b) → IsOutAtEnd said (with_mark meta lost) told
  who_is_out said told is agrees = out_at_end said told is agrees lost refl

pub disks_marked : (m : Meta) (o : Option ℕ) → (with_mark m o).setup ≡ m.setup
disks_marked m None = renewed_setup m
disks_marked m (Some d) = refl

-- a disk that was named out still is, once one is marked beside which no other was named
pub names_stay : (m : Meta) (o : Option ℕ) → ((d : ℕ) → o ≡ Some d → (e : ℕ) → named_out m.out ≡ Some e → e ≡ d) → (d : ℕ) → named_out m.out ≡ Some d → named_out (with_mark m o).out ≡ Some d
names_stay m None only d name = ap named_out (renewed_out m) ∙ name
names_stay m (Some e) only d name = ap Some (sym (only e refl d name))
