-- The laws of a rack, of the rack above.
use Rattle.std.specs.Prelude.{◌≡◌, ◌||◌, ℕ, Bool, true, false, Option, Some, None}
use Rattle.paraid_rack.specs.Lawful.{AreLawful}
use Rattle.paraid_rack.specs.Slots.{Slot, AreSlots, Agrees}
use Rattle.paraid_rack.specs.Trail.{Trail, initial, now}
use Rattle.paraid_gather.specs.Waiting.{Waiting, waits, AllFit}
use Rattle.paraid_gather.specs.Above.{slots_above, told_above}
use Rattle.paraid_gather.specs.Stands.{StandsWhereTold}

none_of_two : (x y : Bool) → x ≡ false → y ≡ false → (x || y) ≡ false
none_of_two true y x_is y_is = x_is
none_of_two false y x_is y_is = y_is

-- the slots above keep the laws of slots (a fact)
pub slots_above_hold : (count : ℕ) (slot : ℕ → Slot) (w : ℕ → Waiting)
    → AreSlots count slot → AllFit slot w → AreSlots count (slots_above slot w)
slots_above_hold count slot w hold fits = record {
  few = hold.few;
  missing = hold.missing;
  absent = hold.absent;
  parked = λ d is.
      none_of_two (slot d).unsynced (waits (w d)) (hold.parked d is) ((fits d).still is);
}

-- where the rack above tells, the rack below does too, and what is told is what is noted (a fact)
pub both_told : (told noted : Option Trail) (t : Trail)
    → told_above told noted ≡ Some t → (b : Trail) × (told ≡ Some b) × (noted ≡ Some t)
both_told (Some b) noted t is = (b, λ i. Some b, is)
both_told None noted t is = absurd (none_some is)
  where
    none_some : ◌≡◌ {A = Option Trail} None (Some t) → ⊥
    none_some e = cc

module _ (told noted : Option Trail) (slot : ℕ → Slot) (w : ℕ → Waiting) (stands
    : StandsWhereTold told noted slot w) (t : Trail) (is : told_above told noted ≡ Some t) where
  -- the slots above agree with what is told (a fact)
  pub above_agrees : Agrees (now t) (slots_above slot w)
  above_agrees = let both = both_told told noted t is in (stands both.0 t both.1 both.2).agrees

  -- each call that is told was lawful (a fact)
  pub above_lawful : AreLawful (initial t.start) t.calls
  above_lawful = let both = both_told told noted t is in (stands both.0 t both.1 both.2).lawful
