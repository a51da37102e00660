-- Why the images are slots as a rack has them.
use Rattle.std.specs.Prelude.{◌≡◌, ℕ, ◌≤◌, false, List, [], ◌∷◌, length, Option, Some, None, refl}
use Rattle.std.proofs.Common.{arith, zero, suc}
use Rattle.paraid_rack.specs.declared.call.Power.TheVariants.{Parked, Absent}
use Rattle.paraid_rack.specs.Slots.{AreSlots}
use Rattle.paraid_rack.specs.Trail.{Trail}
use Rattle.paraid_imgrack.specs.declared.image.Image.{Image}
use Rattle.paraid_imgrack.specs.Images.{image_slot_at}

missing : (images : List Image) (d : ℕ)
    → length images ≤ d → (image_slot_at images d).power ≡ Absent
missing [] d le = refl
missing (i ∷ images) zero le = absurd (omega arith)
missing (i ∷ images) (suc d) le = missing images d (omega arith)

empty : (images : List Image) (d : ℕ)
    → (image_slot_at images d).power ≡ Absent → (image_slot_at images d).size ≡ 0
empty [] d is = refl
empty (i ∷ images) zero is = i.empty is
empty (i ∷ images) (suc d) is = empty images d is

still : (images : List Image) (d : ℕ)
    → (image_slot_at images d).power ≡ Parked → (image_slot_at images d).unsynced ≡ false
still [] d is = refl
still (i ∷ images) zero is = i.still is
still (i ∷ images) (suc d) is = still images d is

-- what holds of the slots of every rack holds of these
pub are_slots : (images : List Image)
    → length images ≤ 8 → AreSlots (length images) (image_slot_at images)
are_slots images few = record {
  few = few;
  missing = missing images;
  absent = empty images;
  parked = still images;
}

-- of what tells nothing all is true
pub nothing_told : {A : Type 0} (t : Trail) → ◌≡◌ {A = Option Trail} None (Some t) → A
nothing_told t is = absurd (none_some is)
  where
    none_some : ◌≡◌ {A = Option Trail} None (Some t) → ⊥
    none_some e = cc
