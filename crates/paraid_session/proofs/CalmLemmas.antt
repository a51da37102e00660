-- An array that is at rest with all disks in order: what stands in its images, and which points of
-- a session it makes.
use Rattle.std.proofs.Common.{◌≡◌, ◌≢◌, ℕ, ◌<◌, ◌≤◌, Bool, true, false, Option, Some, None, refl, sym, ap, ◌∙◌, inl, inr, subst, arith, if◌then◌else◌}
use Rattle.std.specs.Prelude.{◌&&◌, nat_le, nat_lt, slice_index}
use Rattle.std.proofs.lemmas.Bool.{cases_eq, false≢true}
use Rattle.std.proofs.lemmas.Bool.Decides.{nat_tests}
use Rattle.paraid_base.specs.declared.state.Out.TheVariants.{No}
use Rattle.paraid_base.specs.declared.state.Phase.{Phase}
use Rattle.paraid_base.specs.declared.state.Phase.TheVariants.{Steady}
use Rattle.paraid_base.specs.History.{History}
use Rattle.paraid_rack.specs.declared.call.Power.{Power}
use Rattle.paraid_rack.specs.Disks.{Disks, IsPresent}
use Rattle.paraid_record.specs.declared.meta.Meta.{Meta}
use Rattle.paraid_image.specs.HeldAt.{IsHeld}
use Rattle.paraid_image.specs.Looked.{IsLooked}
use Rattle.paraid_image.specs.Looked.IsLooked.{lost, whole}
use Rattle.paraid_image.specs.Out.{first_absent, named_out, or_else, out_disk}
use Rattle.paraid_image.specs.Rest.{IsAtRest}
use Rattle.paraid_image.specs.Sides.{LogState, Says, closed_over}
use Rattle.paraid_image.specs.Sound.{Pairing}
use Rattle.paraid_image.specs.Sound.Pairing.{alike, first_ahead, first_done, second_ahead, second_done}
use Rattle.paraid_image.specs.Spins.{made_spin_ups, is_parked, pending_spin_ups}
use Rattle.paraid_image.specs.Spot.{rising_to}
use Rattle.paraid_image.specs.Standing.{Stands}
use Rattle.paraid_image.proofs.HeldLemmas.{image_is}
use Rattle.paraid_image.proofs.OutLemmas.{first_absent_is}
use Rattle.paraid_image.proofs.SidesLemmas.{Says-same}
use Rattle.paraid_image.proofs.CallLemmas.{says_of_lost}
use Rattle.paraid_session.specs.Watch.{Bounds, IsWithinBounds}

-- No call has anything on its way, no disk is out and no shift is under way. `beside` is a disk that
-- is lost.
pub record IsCalm (slots : ℕ) (t : Disks) (m : Meta) (h : History) (lo : ℕ) (beside : Option ℕ) : Type 0 where
  pub held : IsHeld slots t h lo beside
  pub rest : IsAtRest t m
  pub synced : (d p : ℕ) → t.loose d p ≡ false
  pub no_out : m.out ≡ No
  pub steady : m.phase ≡ Steady

below_none : (d : ℕ) → nat_lt d 0 ≡ false
below_none d = grind (arith, nat_tests)

no_rise : (a b c : Bool) → b ≡ false → ◌≡◌ {A = ℕ} (if a && b && c then 1 else 0) 0
no_rise true b c is = rw is refl
no_rise false b c is = refl

-- in no shift nothing is pending
pub used_is : (m : Meta) (power : ℕ → Power) (d : ℕ) → m.phase ≡ Steady → made_spin_ups m power d ≡ slice_index m.spins d
used_is m power d steady =
    let none : nat_lt d (rising_to m.phase) ≡ false = ap (λ (p : Phase). nat_lt d (rising_to p)) steady ∙ below_none d in
    let zero_is : pending_spin_ups m power d ≡ 0 = no_rise (nat_le m.gear d) (nat_lt d (rising_to m.phase)) (is_parked (power d)) none in
    omega (arith, zero_is)

module _ (slots : ℕ) (t : Disks) (m : Meta) (h : History) (lo : ℕ) (beside : Option ℕ) (calm : IsCalm slots t m h lo beside) where
  not_named : (d : ℕ) → named_out m.out ≢ Some d
  not_named d e = let k : None ≡ Some d = sym (ap named_out calm.no_out) ∙ e in cc

  -- a disk that is there is not the out disk
  there_not_out : (d : ℕ) → IsPresent t d → out_disk t.power m ≢ Some d
  there_not_out d there e =
      let absent : first_absent t.power m.setup.geometry.disks ≡ Some d
      = sym (ap (λ (o : Option ℕ). or_else o (first_absent t.power m.setup.geometry.disks)) (ap named_out calm.no_out)) ∙ e in
      false≢true (sym (first_absent_is t.power m.setup.geometry.disks d absent).1 ∙ there)

  shut : (x : ℕ) (said : LogState) → x < 2 → Says t x said → said.opened ≡ false
  shut x said low says = sym says.gate ∙ calm.rest.shut x low says.present (not_named x)

  same_of : (a b : LogState) → a.opened ≡ false → b.opened ≡ false → Pairing a b → a ≡ b
  same_of a b first second (alike e) = e
  same_of a b first second (first_ahead e) = absurd (false≢true (sym first ∙ e.opened))
  same_of a b first second (second_ahead e) = absurd (false≢true (sym second ∙ e.opened))
  same_of a b first second (first_done e) = absurd (false≢true (sym first ∙ e.opened))
  same_of a b first second (second_done e) = absurd (false≢true (sym second ∙ e.opened))

  paired : (a b : LogState) → Says t 0 a → Says t 1 b → a ≡ b
  paired a b p q = same_of a b (shut 0 a (omega arith) p) (shut 1 b (omega arith) q)
      (calm.rest.log.paired a b p q (there_not_out 0 p.present) (there_not_out 1 q.present))

  -- a log disk says by a closed gate that this meta stands
  pub says_meta : (x : ℕ) (said : LogState) → x < 2 → Says t x said → said ≡ closed_over m
  says_meta x said low says =
      let at = calm.rest.log.stands in
      let y = calm.rest.disk in
      elim (cases_eq x y) [
        | inl same ↦ Says-same t y said (closed_over m) (subst (λ (z : ℕ). Says t z said) same says) at.says
        | inr apart ↦ elim (cases_eq x 0) [
          | inl first ↦
              let last : y ≡ 1 = let l = at.log_disk in omega (arith, l, apart, first) in
              paired said (closed_over m) (subst (λ (z : ℕ). Says t z said) first says) (subst (λ (z : ℕ). Says t z (closed_over m)) last at.says)
          | inr later ↦
              let here : x ≡ 1 = omega (arith, low, later) in
              let first : y ≡ 0 = let l = at.log_disk in omega (arith, l, apart, here) in
              sym (paired (closed_over m) said (subst (λ (z : ℕ). Says t z (closed_over m)) first at.says) (subst (λ (z : ℕ). Says t z said) here says))
        ]
      ]

  -- so it is in each image that is looked at
  pub looked_meta : (i : Disks) (x : ℕ) (said : LogState) → IsLooked t i → Stands i x said → said ≡ closed_over m
  looked_meta i x said (whole image) stands = says_meta x said stands.log_disk (subst (λ (z : Disks). Says z x said) (image_is t i calm.synced image) stands.says)
  looked_meta i x said (lost j d image may is) stands =
      says_meta x said stands.log_disk (subst (λ (z : Disks). Says z x said) (image_is t j calm.synced image)
      (says_of_lost j d x said (subst (λ (z : Disks). Says z x said) (sym is) stands.says)))

  within_meta : (b : Bounds) (spun : ℕ → ℕ) → m.setup ≡ b.setup → m.epoch ≤ b.epoch → m.ticks ≤ b.ticks → ((d : ℕ) → spun d ≡ slice_index m.spins d) → (i : Disks) → IsWithinBounds b spun i m
  within_meta b spun setup epoch ticks spins i = record {
    same_setup = setup;
    in_time = epoch;
    counted_ticks = ticks;
    recorded = λ d low here not. omega (arith, spins d, used_is m i.power d calm.steady);
  }

  -- What stands in each image is within the bounds.
  pub calm_within : (b : Bounds) (spun : ℕ → ℕ) → m.setup ≡ b.setup → m.epoch ≤ b.epoch → m.ticks ≤ b.ticks → ((d : ℕ) → spun d ≡ slice_index m.spins d)
      → (x : ℕ) (i : Disks) (said : LogState) → IsLooked t i → Stands i x said → IsWithinBounds b spun i said.meta
  calm_within b spun setup epoch ticks spins x i said looked stands =
      subst (λ (z : LogState). IsWithinBounds b spun i z.meta) (sym (looked_meta i x said looked stands)) (within_meta b spun setup epoch ticks spins i)
