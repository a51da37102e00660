-- From what a format leaves of the disks to the empty array.
use Rattle.std.proofs.Common.{ℕ, Option, Some, None, ◌≡◌, ◌≤◌, ◌<◌, ◌∙◌, false, inl, inr, sym, ap, arith}
use Rattle.std.proofs.lemmas.Bool.{cases_Bool, cases_lt, false≢true}
use Rattle.paraid_recover.specs.Attached.{BecomesFormatted, fresh_slot}
use Rattle.paraid_recover.specs.First.{first_meta}
use Rattle.paraid_recover.specs.Between.{RanBetween}
use Rattle.paraid_image.proofs.FormattedLemmas.{IsHeld-formatted}
use Rattle.paraid_image.specs.Formatted.{IsFormatted}
use Rattle.paraid_rack.specs.declared.call.Power.TheVariants.{Spinning, Absent}
use Rattle.paraid_rack.specs.Disks.{Disks}
use Rattle.paraid_rack.specs.Slots.{Slot, AreSlots, Agrees}
use Rattle.paraid_rack.specs.Trail.{Trail, now}
use Rattle.paraid_record.specs.declared.meta.Setup.{Setup}
use Rattle.paraid_commands.specs.Outcome.{BecomesEmpty, IsEmptyArray}

empty_array : (slots : ℕ) (setup : Setup) (s : Disks) → IsFormatted slots s (first_meta setup) → IsEmptyArray slots setup s
empty_array slots setup s f = record {
  formatted = f;
  entry = record {
    synced = λ d p here. f.synced d p;
    held = IsHeld-formatted slots s (first_meta setup) f;
    weak = λ i w image is. let k : None ≡ Some w = is in cc;
  };
}

pub becomes_empty : (slots : ℕ) (setup : Setup) (told told_now : Option Trail) → RanBetween told told_now (BecomesFormatted slots (first_meta setup)) → RanBetween told told_now (BecomesEmpty slots setup)
becomes_empty slots setup told told_now led t tells =
    let l = led t tells in
    (l.0, l.1, record { stops = λ i e. empty_array slots setup i (l.2.stops i e); whole = λ synced. empty_array slots setup (now t) (l.2.whole synced) })

-- the slots of a rack with a fresh disk in each of the first
module _ (slots count size : ℕ) (old new : ℕ → Slot) (fresh : (d : ℕ) → d < count → new d ≡ fresh_slot size (old d)) where
  absent_spins : (d : ℕ) → d < count → (new d).power ≡ Absent → ⊥
  absent_spins d low is = let k : Absent ≡ Spinning = sym is ∙ ap (λ (s : Slot). s.power) (fresh d low) in cc

  pub enough : AreSlots slots new → count ≤ slots
  enough are = elim (cases_lt slots count) [
    | inl few ↦ absurd (absent_spins slots few (are.missing slots (omega arith)))
    | inr all ↦ omega arith
  ]

  pub synced : (s : Disks) → Agrees s new → (d p : ℕ) → d < count → s.loose d p ≡ false
  synced s agrees d p low = elim (cases_Bool (s.loose d p)) [
    | inl loose ↦ absurd (false≢true (sym (ap (λ (s : Slot). s.unsynced) (fresh d low)) ∙ agrees.loose d p loose))
    | inr is ↦ is
  ]
