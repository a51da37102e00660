-- The base of a mount, and the metas that have recorded it.
use Rattle.std.proofs.Common.{Option, Some, None, Bool, true, false, ◌≡◌, ℕ, ◌+◌, ◌-◌, ◌≤◌, refl, ap, subst, arith, min, max, if◌then◌else◌}
use Rattle.std.specs.Prelude.{◌&&◌, ◌==◌, nat_le, nat_lt, slice_index}
use Rattle.paraid_base.specs.declared.state.Phase.{Phase}
use Rattle.paraid_base.specs.declared.state.Phase.TheVariants.{Steady, Down as PhaseDown, Up}
use Rattle.paraid_rack.specs.declared.call.Power.{Power}
use Rattle.paraid_rack.specs.Disks.{Disks, is_parked, lose}
use Rattle.paraid_record.specs.declared.meta.Meta.{Meta}
use Rattle.paraid_image.specs.HeldAt.{MayLose}
use Rattle.paraid_image.specs.Mark.{marked_gone}
use Rattle.paraid_image.specs.Power.{phase_beside}
use Rattle.paraid_image.specs.Sides.{LogState, Says}
use Rattle.paraid_image.specs.Spins.{made_spin_ups}
use Rattle.paraid_image.specs.Spot.{rising_to}
use Rattle.paraid_image.specs.Standing.{Stands, other_log}
use Rattle.paraid_image.proofs.CallLemmas.{lose_kept, says_not_lost}
use Rattle.paraid_image.proofs.NeutralLemmas.{says_forth}
use Rattle.paraid_image.proofs.StandingLemmas.{Stands-same}
use Rattle.paraid_recover.specs.RecoveryMark.{of_version_two, renewed_by, with_mark}
use Rattle.paraid_session.specs.Mount.{IsBase}
use Rattle.paraid_session.specs.Mount.IsBase.{alone, lesser}

rising_beside : (phase : Phase) → rising_to (phase_beside true phase) ≡ rising_to phase
rising_beside Steady = refl
rising_beside (PhaseDown to) = refl
rising_beside (Up to) = refl

marked_used : (m : Meta) (d e : ℕ) (power : ℕ → Power) (b : ℕ) → made_spin_ups (marked_gone m d e) power b ≡ made_spin_ups m power b
marked_used m d e power b = ap (λ (r : ℕ). slice_index m.spins b - (if (nat_le m.gear b && nat_lt b r && is_parked (power b)) then 1 else 0)) (rising_beside m.phase)

-- the next meta has the setup, the ticks and the spin-ups
pub record IsNextOf (m next : Meta) : Type 0 where
  pub setup : next.setup ≡ m.setup
  pub epoch : next.epoch ≤ m.epoch + 1
  pub ticks : next.ticks ≡ m.ticks
  pub used : (power : ℕ → Power) (b : ℕ) → made_spin_ups next power b ≡ made_spin_ups m power b

next_renewed : (m : Meta) (b : Bool) → IsNextOf m (renewed_by b m)
next_renewed m true = record { setup = refl; epoch = omega arith; ticks = refl; used = λ power b. refl }
next_renewed m false = record { setup = refl; epoch = omega arith; ticks = refl; used = λ power b. refl }

pub next_marked : (m : Meta) (mark : Option ℕ) → IsNextOf m (with_mark m mark)
next_marked m None = next_renewed m (m.version == 1)
next_marked m (Some d) = record { setup = refl; epoch = omega arith; ticks = refl; used = λ power b. marked_used (of_version_two m) d (m.epoch + 1) power b }

below_first : (a b c : ℕ) → c ≡ min a b → c ≤ a
below_first a b c is = grind (arith)

below_second : (a b c : ℕ) → c ≡ min a b → c ≤ b
below_second a b c is = grind (arith)

above_first : (a b c : ℕ) → c ≡ max a b → a ≤ c
above_first a b c is = grind (arith)

above_second : (a b c : ℕ) → c ≡ max a b → b ≤ c
above_second a b c is = grind (arith)

-- the base is at most what the meta that stands has recorded, and the ticks at least its own
pub base_stood : (s : Disks) (x : ℕ) (said : LogState) (base : ℕ → ℕ) (ticks : ℕ) → IsBase s x said base ticks → ((d : ℕ) → base d ≤ made_spin_ups said.meta s.power d) × (said.meta.ticks ≤ ticks)
base_stood s x said base ticks (alone none is t) = ((λ d. let e = is d in omega (arith, e)), omega (arith, t))
base_stood s x said base ticks (lesser y other may there is t) = ((λ d. below_first _ _ _ (is d)), above_first _ _ _ t)

module _ (s : Disks) (x : ℕ) (said : LogState) (stood_there : Stands s x said) where
  pub without_stands : (o : LogState) → Says s (other_log x) o → Stands (lose x s) (other_log x) o
  without_stands o says =
      let l = stood_there.log_disk in
      record {
        log_disk = omega (arith, l);
        says = says_forth s (lose x s) (other_log x) o (lose_kept s x (other_log x) (λ e. omega (arith, e, l))) says;
        first = λ k q. let back : other_log (other_log x) ≡ x = omega (arith, l) in absurd (says_not_lost s x (other_log (other_log x)) k q back);
      }

  pub base_without : (base : ℕ → ℕ) (ticks : ℕ) (o : LogState) → IsBase s x said base ticks → MayLose s x → Says s (other_log x) o → ((d : ℕ) → base d ≤ made_spin_ups o.meta s.power d) × (o.meta.ticks ≤ ticks)
  base_without base ticks o (alone none is t) may says = absurd (none (other_log x) o may (without_stands o says))
  base_without base ticks o (lesser y other may_too there is t) may says =
      let same_log : other ≡ o = (Stands-same (lose x s) y (other_log x) other o there (without_stands o says)).1 in (
        (λ d. subst (λ (k : LogState). base d ≤ made_spin_ups k.meta s.power d) same_log (below_second _ _ _ (is d))),
        subst (λ (k : LogState). k.meta.ticks ≤ ticks) same_log (above_second _ _ _ t),
      )
