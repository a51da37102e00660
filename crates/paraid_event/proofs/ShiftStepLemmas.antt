-- Shifts that begin and end between parts of an event.
use Rattle.std.proofs.Common.{◌≡◌, ℕ, ◌+◌, ◌<◌, ◌≤◌, ◌⊎◌, List, Option, Some, refl, sym, ap, ◌∙◌, arith}
use Rattle.std.specs.Prelude.{slice_index}
use Rattle.paraid_base.specs.declared.state.Out.TheVariants.{No}
use Rattle.paraid_base.specs.declared.state.Phase.TheVariants.{Steady, Down, Up}
use Rattle.paraid_base.specs.History.{History}
use Rattle.paraid_base.specs.States.{rising_to}
use Rattle.paraid_rack.specs.Told.{Ran}
use Rattle.paraid_rack.specs.Trail.{Trail, now}
use Rattle.paraid_record.specs.declared.meta.Meta.{Meta}
use Rattle.paraid_image.specs.Power.{power_by_gear}
use Rattle.paraid_moves.specs.MoveMetas.{meta_after_begin, meta_flipped_to}
use Rattle.paraid_event.specs.Service.{Service}
use Rattle.paraid_event.specs.Stands.{ServiceStandsFor}
use Rattle.paraid_event.specs.Steps.{PowersFrom, ServesMarked, StepsInEvent, StepsToMark}
use Rattle.paraid_event.proofs.ShiftMarkLemmas.{down_mark, down_powers, flipped_mark, up_mark}
use Rattle.paraid_event.proofs.StepLemmas.{ran_both, ran_end, ran_three}
use Rattle.paraid_event.proofs.StepMarkLemmas.{again_steps, commit_steps, mark_steps, powered_steps}

-- a service with a mark, after parts of an event
module _ (told mid : Option Trail) (i k j : Service) (h : History) (lo most : ℕ) (whole : k.meta.out ≡ No) (slots : j.slots ≡ k.slots) (named : j.named ≡ k.named)
    (stands : (t : Trail) → mid ≡ Some t → ServiceStandsFor k h lo (now t) → ServiceStandsFor j h lo (now t)) where
  out_of : (m : Meta) → j.meta ≡ m → m.out ≡ k.meta.out → j.meta.out ≡ No
  out_of m is same = ap (λ (z : Meta). z.out) is ∙ same ∙ whole

  -- a shift that ends is committed, and the disks that it leaves are parked
  pub ends_in_steps : (powers : Meta) (to : ℕ) → j.meta ≡ meta_flipped_to k.meta to → (opened_told told_then : Option Trail) (opened k_then : Service) (lo_then : ℕ) → lo ≤ lo_then → opened.slots ≡ j.slots → k_then.slots ≡ opened.slots → opened.meta.epoch ≡ j.meta.epoch + 1
      → Ran told mid (StepsToMark i k powers h lo most) → Ran mid opened_told (ServesMarked j opened h lo lo_then) → Ran opened_told told_then (PowersFrom powers opened k_then h lo) → Ran told told_then (StepsInEvent i k_then h lo (most + 1))
  ends_in_steps powers to is opened_told told_then opened k_then lo_then le same more_slots more first second third =
      ran_three (StepsToMark i j powers h lo most) (ServesMarked j opened h lo lo_then) (PowersFrom powers opened k_then h lo) (StepsInEvent i k_then h lo (most + 1))
      (λ s cs ds es x y z. powered_steps i j powers h lo most s cs ds x opened lo_then le same more (out_of (meta_flipped_to k.meta to) is refl) none_rises y k_then es more_slots z) told mid opened_told told_then
      (ran_end k j h lo (StepsToMark i k powers h lo most) (StepsToMark i j powers h lo most) (λ s cs there x. again_steps i k j powers (flipped_mark k j slots named to whole is) h lo most s cs there x) told mid stands first) second third
    where
      none_rises : (d : ℕ) → j.meta.gear ≤ d → d < rising_to j.meta.phase → 1 ≤ slice_index j.meta.spins d
      none_rises d from low = let z : rising_to j.meta.phase ≡ 0 = ap (λ (m : Meta). rising_to m.phase) is in absurd (omega (arith, low, z))

  -- a shift down that begins is committed
  pub down_in_steps : (to : ℕ) → k.meta.phase ≡ Steady → j.meta ≡ meta_after_begin k.meta (Down to) k.meta.spins → (told_then : Option Trail) (k_then : Service) (lo_then : ℕ) → lo ≤ lo_then → k_then.slots ≡ j.slots → k_then.meta.epoch ≡ j.meta.epoch + 1
      → Ran told mid (StepsInEvent i k h lo most) → Ran mid told_then (ServesMarked j k_then h lo lo_then) → Ran told told_then (StepsInEvent i k_then h lo (most + 1))
  down_in_steps to steady is told_then k_then lo_then le same more first second =
      ran_both (StepsToMark i j k.meta h lo most) (ServesMarked j k_then h lo lo_then) (StepsInEvent i k_then h lo (most + 1))
      (λ s cs ds x y. commit_steps i j k.meta h lo most s cs ds x k_then lo_then le same more still_powered y) told mid told_then
      (ran_end k j h lo (StepsInEvent i k h lo most) (StepsToMark i j k.meta h lo most) (λ s cs there x. mark_steps i k j (down_mark k j slots named to whole is) h lo most s cs there x) told mid stands first) second
    where
      still_powered : (d : ℕ) → power_by_gear k.meta.gear k.meta.phase d ≡ power_by_gear j.meta.gear j.meta.phase d
      still_powered d = down_powers k.meta to d steady ∙ sym (ap (λ (m : Meta). power_by_gear m.gear m.phase d) is)

  -- and so is a shift up, after which disks are spun up
  pub up_in_steps : (to : ℕ) (spins : List ℕ) → j.meta ≡ meta_after_begin k.meta (Up to) spins → ((d : ℕ) → k.meta.gear ≤ d → d < to → slice_index spins d ≡ slice_index k.meta.spins d + 1)
      → ((d : ℕ) → (d < k.meta.gear) ⊎ (to ≤ d) → slice_index spins d ≡ slice_index k.meta.spins d)
      → (opened_told told_then : Option Trail) (opened k_then : Service) (lo_then : ℕ) → lo ≤ lo_then → opened.slots ≡ j.slots → k_then.slots ≡ opened.slots → opened.meta.epoch ≡ j.meta.epoch + 1
      → Ran told mid (StepsInEvent i k h lo most) → Ran mid opened_told (ServesMarked j opened h lo lo_then) → Ran opened_told told_then (PowersFrom k.meta opened k_then h lo) → Ran told told_then (StepsInEvent i k_then h lo (most + 1))
  up_in_steps to spins is raised others opened_told told_then opened k_then lo_then le same more_slots more first second third =
      ran_three (StepsToMark i j k.meta h lo most) (ServesMarked j opened h lo lo_then) (PowersFrom k.meta opened k_then h lo) (StepsInEvent i k_then h lo (most + 1))
      (λ s cs ds es x y z. powered_steps i j k.meta h lo most s cs ds x opened lo_then le same more (out_of (meta_after_begin k.meta (Up to) spins) is refl) each_recorded y k_then es more_slots z) told mid opened_told told_then
      (ran_end k j h lo (StepsInEvent i k h lo most) (StepsToMark i j k.meta h lo most) (λ s cs there x. mark_steps i k j (up_mark k j slots named to spins whole is raised others) h lo most s cs there x) told mid stands first) second third
    where
      each_recorded : (d : ℕ) → j.meta.gear ≤ d → d < rising_to j.meta.phase → 1 ≤ slice_index j.meta.spins d
      each_recorded d from low =
          let g : j.meta.gear ≡ k.meta.gear = ap (λ (m : Meta). m.gear) is in
          let r : rising_to j.meta.phase ≡ to = ap (λ (m : Meta). rising_to m.phase) is in
          let s : slice_index j.meta.spins d ≡ slice_index spins d = ap (λ (m : Meta). slice_index m.spins d) is in
          let one = raised d (omega (arith, g, from)) (omega (arith, r, low)) in
          omega (arith, s, one)
