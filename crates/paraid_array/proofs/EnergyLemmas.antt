-- The energy of the events of an array.
use Rattle.std.proofs.Common.{◌≡◌, ℕ, ◌+◌, ◌*◌, ◌≤◌, ◌∙◌, Option, Some, None, refl, sym, ap, arith, min, zero, suc}
use Rattle.paraid_base.specs.declared.event.Answer.{Answer}
use Rattle.paraid_base.specs.declared.state.TickEvent.{TickEvent}
use Rattle.paraid_base.specs.declared.state.TickEvent.TheVariants.{Begun}
use Rattle.paraid_base.specs.Sums.{sum_before}
use Rattle.paraid_energy.specs.Account.{Account, HasFigures, after_spin_ups, after_tick}
use Rattle.paraid_image.specs.Power.{PowerState}
use Rattle.paraid_machine.specs.Energy.{begun_energy, energy_after, energy_at, energy_of, tick_energy}
use Rattle.paraid_rack.specs.declared.call.Power.{Power}
use Rattle.paraid_rack.specs.declared.call.Power.TheVariants.{Absent, Parked, Spinning}
use Rattle.paraid_record.specs.declared.meta.Meta.{Meta}
use Rattle.paraid_record.specs.declared.meta.Setup.{Setup}
use Rattle.paraid_upkeep.specs.declared.asked.ShiftOutcome.{ShiftOutcome}
use Rattle.paraid_upkeep.specs.declared.asked.ShiftOutcome.TheVariants.{Begun as AskedBegun, Refused}
use Rattle.paraid_upkeep.specs.Turns.{asked_answer}
use Rattle.paraid_array.specs.Used.{asked_energy, asked_spin_ups, begun_spin_ups, disks_with, one_with, power_by}
use Rattle.paraid_array.proofs.AnswerLemmas.{asked_uses}

adds : (a b x y i j before here : ℕ) → a * x + b * y ≡ before → a * i + b * j ≡ here → a * (x + i) + b * (y + j) ≡ before + here
adds a b x y i j before here was is = omega (arith, was, is)

module _ (setup : Setup) where
  -- what a disk adds to the disks that spin and to those that are parked is what it uses
  one_uses : (p : Option Power) → setup.spinning_mj * one_with Spinning p + setup.parked_mj * one_with Parked p ≡ energy_at setup p
  one_uses (Some Spinning) = omega arith
  one_uses (Some Parked) = omega arith
  one_uses (Some Absent) = omega arith
  one_uses None = omega arith

  -- so it is of all
  all_use : (f : ℕ → Option Power) (n : ℕ)
      → setup.spinning_mj * sum_before (λ d. one_with Spinning (f d)) n + setup.parked_mj * sum_before (λ d. one_with Parked (f d)) n ≡ sum_before (λ d. energy_at setup (f d)) n
  unfolding sum_before
  all_use f zero = omega arith
  all_use f (suc n) = adds setup.spinning_mj setup.parked_mj _ _ _ _ _ _ (all_use f n) (one_uses (f n))

  -- what the disks use that an event spins up
  begun_uses : (gear : ℕ) (event : TickEvent) → setup.spinup_mj * begun_spin_ups gear event ≡ begun_energy setup gear event
  begun_uses gear (Begun to) = refl
  begun_uses gear event = omega arith

  asked_use : (gear : ℕ) (x : ShiftOutcome) → setup.spinup_mj * asked_spin_ups gear x ≡ asked_energy setup gear x
  asked_use gear (AskedBegun to) = refl
  asked_use gear (Refused fault) = omega arith

  -- what a ledger with the figures of the setup has counted then
  spun_up_total : (old new : Account) (disks used : ℕ) → HasFigures setup old → new ≡ after_spin_ups old disks → setup.spinup_mj * disks ≡ used → new.total ≡ min (old.total + used) 18446744073709551615
  spun_up_total old new disks used has is uses =
      ap (λ (a : Account). a.total) is ∙ ap (λ (n : ℕ). min (old.total + n) 18446744073709551615) (ap (λ (n : ℕ). n * disks) has.spinup ∙ uses)

  pub begun_total : (old new : Account) (gear : ℕ) (event : TickEvent) → HasFigures setup old → new ≡ after_spin_ups old (begun_spin_ups gear event)
      → new.total ≡ min (old.total + begun_energy setup gear event) 18446744073709551615
  begun_total old new gear event has is = spun_up_total old new (begun_spin_ups gear event) (begun_energy setup gear event) has is (begun_uses gear event)

  pub asked_total : (old new : Account) (gear : ℕ) (x : ShiftOutcome) → HasFigures setup old → new ≡ after_spin_ups old (asked_spin_ups gear x)
      → new.total ≡ min (old.total + asked_energy setup gear x) 18446744073709551615
  asked_total old new gear x has is = spun_up_total old new (asked_spin_ups gear x) (asked_energy setup gear x) has is (asked_use gear x)

-- in a tick it counts what the machine says
pub ticked_total : (m : Meta) (old new : Account) → HasFigures m.setup old → new ≡ after_tick old (disks_with m Spinning) (disks_with m Parked)
    → (s : PowerState) → s.gear ≡ m.gear → s.phase ≡ m.phase → s.out ≡ m.out → new.total ≡ min (old.total + tick_energy m.setup s) 18446744073709551615
ticked_total m old new has is s gear phase out =
    let counted : old.spinning_mj * disks_with m Spinning + old.parked_mj * disks_with m Parked ≡ sum_before (λ d. energy_at m.setup (power_by m d)) m.setup.geometry.disks = rw (has.spinning, has.parked) (all_use m.setup (power_by m) m.setup.geometry.disks) in
    let told : sum_before (λ d. energy_at m.setup (power_by m d)) m.setup.geometry.disks ≡ tick_energy m.setup s = rw (gear, phase, out) refl in
    ap (λ (a : Account). a.total) is ∙ ap (λ (n : ℕ). min (old.total + n) 18446744073709551615) (counted ∙ told)

-- an event that uses nothing
pub uses_none : (setup : Setup) (used : ℕ) (s : PowerState) (answer : Answer) → energy_of setup s answer ≡ 0 → used ≤ 18446744073709551615 → used ≡ energy_after setup used s answer
uses_none setup used s answer none fits = rw none (by used fits)
  where
    by : (n : ℕ) → n ≤ 18446744073709551615 → n ≡ min (n + 0) 18446744073709551615
    by n l = grind (arith)

-- a shift that is asked for uses its spin-ups
pub asked_used : (setup : Setup) (used : ℕ) (s : PowerState) (gear : ℕ) (x : ShiftOutcome) → min (used + asked_energy setup gear x) 18446744073709551615 ≡ energy_after setup used s (asked_answer gear x)
asked_used setup used s gear x = ap (λ (n : ℕ). min (used + n) 18446744073709551615) (sym (asked_uses setup s gear x))
