-- What the witness on disk 2 says of a log disk that stands while the other one is absent.
use Rattle.std.specs.Prelude.{◌≡◌, ℕ, true, false, Option, Some}
use Rattle.paraid_base.specs.declared.fault.Two.{Two}
use Rattle.paraid_rack.specs.declared.call.Power.TheVariants.{Absent, Spinning}
use Rattle.paraid_rack.specs.declared.rack.Rack.{Ghosts}
use Rattle.paraid_rack.specs.Slots.{Slot}
use Rattle.paraid_rack.specs.Trail.{Trail, now}
use Rattle.paraid_image.specs.Sides.{LogState, is_open, stored_block}
use Rattle.paraid_image.specs.Standing.{Stands, other_log}
use Rattle.paraid_recover.specs.HeardSides.{HasReadLog, IsFailed}

-- no witness is borne against log disk `x`, if it was looked for
pub record IsUnwitnessed {R : Type 0} (g : Ghosts R) (x : ℕ) (old new : R) : Type 0 where
  pub reads : HasReadLog g 2 1 old new true
  pub shut : (g.slot old (other_log x)).power ≡ Absent → (g.slot old 2).power ≡ Spinning
      → (t : Trail) → g.told new ≡ Some t → is_open (stored_block (now t) 2 x) ≡ false

-- witness is borne against it; or disk 2 failed in the read
pub data IsWitnessed {R : Type 0} (g : Ghosts R) (x : ℕ) (old new : R) (two : Two) : Type 0 where
  opened : (g.slot old (other_log x)).power ≡ Absent → HasReadLog g 2 1 old new true
      → ((t : Trail) → g.told new ≡ Some t → is_open (stored_block (now t) 2 x) ≡ true)
      → two ≡ record { first = x; second = other_log x } → IsWitnessed g x old new two
  lost : (g.slot old (other_log x)).power ≡ Absent
      → (g.slot old 2).power ≡ Spinning → HasReadLog g 2 1 old new false
      → two ≡ record { first = other_log x; second = 2 } → IsWitnessed g x old new two

-- Why the witness refuses a mount, by the slots and what is told after its read.
pub data IsWitnessRefusal
    (x : ℕ) (old new : ℕ → Slot) (told : Option Trail) (two : Two) : Type 0 where
  opened : (new (other_log x)).power ≡ Absent
      → (said : LogState) → ((t : Trail) → told ≡ Some t → Stands (now t) x said)
      → ((t : Trail) → told ≡ Some t → is_open (stored_block (now t) 2 x) ≡ true)
      → two ≡ record { first = x; second = other_log x } → IsWitnessRefusal x old new told two
  lost : (new (other_log x)).power ≡ Absent → IsFailed old new 2
      → two ≡ record { first = other_log x; second = 2 } → IsWitnessRefusal x old new told two
