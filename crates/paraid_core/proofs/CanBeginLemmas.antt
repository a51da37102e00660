-- What the slots have where a core can begin.
use Rattle.std.specs.Prelude.{◌≡◌, ◌≢◌, ℕ, ◌<◌, ◌≤◌, ◌⊎◌, Bool, true, false, Some}
use Rattle.std.proofs.Common.{arith, refl, sym, ◌∙◌, inl, inr, rules}
use Rattle.std.proofs.lemmas.Bool.{false≢true}
use Rattle.std.proofs.lemmas.List.Elements.{All-nil}
use Rattle.paraid_base.specs.Regions.{disk_size}
use Rattle.paraid_image.specs.Out.{named_out}
use Rattle.paraid_image.specs.Spot.{rising_to}
use Rattle.paraid_rack.specs.declared.call.Power.TheVariants.{Spinning}
use Rattle.paraid_rack.specs.Disks.{is_present}
use Rattle.paraid_rack.specs.Slots.{Slot}
use Rattle.paraid_record.specs.declared.meta.Meta.{Meta}
use Rattle.paraid_record.specs.Range.{IsInRange}
use Rattle.paraid_image.proofs.AgreeLemmas.{fresh_below}
use Rattle.paraid_image.proofs.CallLemmas.{decide_some}
use Rattle.paraid_core.specs.Begin.{CanBegin, IsDiskReady}
use Rattle.paraid_core.proofs.AfterLemmas.{gear_high, rise_high}
use Rattle.paraid_core.proofs.ReadyLemmas.{some_is}

module _ (count : ℕ) (slot : ℕ → Slot) (m : Meta) (can : CanBegin count slot m) (d : ℕ) (low : d < m.setup.geometry.disks) (not : named_out m.out ≢ Some d) where
  there_by : (here : Bool) → is_present (slot d).power ≡ here → is_present (slot d).power ≡ true
  there_by true is = is
  there_by false is = absurd (not (can.ready.absent d low is))

  spins_by : (d < m.gear) ⊎ (d < rising_to m.phase) → (slot d).power ≡ Spinning
  spins_by (inl below) = can.ready.spins d below not
  spins_by (inr below) = can.serves.spins d below not

  large_by : (d < m.gear) ⊎ (d < rising_to m.phase) → disk_size m.setup.geometry ≤ (slot d).size
  large_by (inl below) = can.ready.large d below not
  large_by (inr below) = can.serves.large d below not

-- each disk of the array is powered and large as the meta says, or out
pub disk_of_beginning : (count : ℕ) (slot : ℕ → Slot) (m : Meta) → CanBegin count slot m → (d : ℕ) → d < m.setup.geometry.disks → IsDiskReady (slot d) m d
disk_of_beginning count slot m can d low = record {
  there = λ not. there_by count slot m can d low not (is_present (slot d).power) refl;
  spins = λ which not. spins_by count slot m can d low not which;
  large = λ which not. large_by count slot m can d low not which;
  fresh_spins = λ u is here. can.ready.fresh_spins d u is here;
  fresh_large = λ u is here. can.ready.fresh_large d u is here;
}

-- where each disk of the array is so, a core can begin
pub begins_where : (count : ℕ) (slot : ℕ → Slot) (m : Meta) → IsInRange m → m.setup.geometry.disks ≤ count → ((d : ℕ) → d < m.setup.geometry.disks → IsDiskReady (slot d) m d) → CanBegin count slot m
begins_where count slot m range enough are =
    let high = gear_high m range in
    let rise = rise_high m.setup.geometry m.gear m.phase range.phase in
    record {
      ready = record {
        in_range = range;
        array_is = refl;
        epoch_is = refl;
        enough = enough;
        rows_are = refl;
        absent = λ d low away. elim (decide_some (named_out m.out) d) [
          | inl is ↦ is
          | inr not ↦ absurd (false≢true (sym away ∙ (are d low).there not))
        ];
        one = λ d e is was. some_is d e (sym is ∙ was);
        spins = λ d low not. (are d (omega (arith, low, high))).spins (inl low) not;
        large = λ d low not. (are d (omega (arith, low, high))).large (inl low) not;
        fresh_spins = λ d u is here. (are d (fresh_below m.setup.geometry m.gear d u m.out range.out is)).fresh_spins u is here;
        fresh_large = λ d u is here. (are d (fresh_below m.setup.geometry m.gear d u m.out range.out is)).fresh_large u is here;
        each = All-nil _;
        can = search rules;
        apart = search rules;
      };
      serves = record {
        spins = λ d low not. (are d (omega (arith, low, rise))).spins (inr low) not;
        large = λ d low not. (are d (omega (arith, low, rise))).large (inr low) not;
        stays = λ d is. is;
      };
    }
