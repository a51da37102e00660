-- With what disks a core can begin.
use Rattle.std.specs.Prelude.{◌≡◌, ◌≢◌, ℕ, ◌<◌, ◌≤◌, nat_lt, ◌||◌, ◌⊎◌, Bool, true, false, [], Option, Some, None, if◌then◌else◌}
use Rattle.std.proofs.Common.{refl, sym, ◌∙◌, ap, arith, inl, inr}
use Rattle.std.proofs.lemmas.Bool.{cases_eq, false≢true}
use Rattle.std.proofs.lemmas.Bool.Decides.{nat_tests}
use Rattle.std.proofs.lemmas.List.Elements.{All-nil}
use Rattle.paraid_base.specs.declared.state.Out.TheVariants.{Fresh}
use Rattle.paraid_base.specs.declared.state.Phase.{Phase}
use Rattle.paraid_base.specs.Regions.{disk_size}
use Rattle.paraid_base.specs.States.{gone_out}
use Rattle.paraid_base.proofs.StatesLemmas.{rising_to-beside}
use Rattle.paraid_rack.specs.declared.call.Power.TheVariants.{Parked, Spinning}
use Rattle.paraid_rack.specs.Disks.{is_present}
use Rattle.paraid_rack.specs.Slots.{Slot}
use Rattle.paraid_record.specs.declared.meta.Meta.{Meta}
use Rattle.paraid_record.specs.declared.targets.Target.{Target}
use Rattle.paraid_record.specs.Targets.{IsTargetInRange}
use Rattle.paraid_txn.specs.Losses.{CanWrite}
use Rattle.paraid_image.specs.Mark.{meta_after_loss}
use Rattle.paraid_image.specs.Out.{named_out}
use Rattle.paraid_image.specs.Power.{power_by_gear}
use Rattle.paraid_image.specs.Spot.{rising_to}
use Rattle.paraid_image.proofs.OutLemmas.{named_below}
use Rattle.paraid_core.specs.Begin.{IsPoweredBy}
use Rattle.paraid_core.specs.CoreInvariant.{AreSlotsReady, CanServe}
use Rattle.paraid_core.specs.Replaced.{HaveComeUpBut}
use Rattle.paraid_core.proofs.AfterLemmas.{gear_high, rise_high}
use Rattle.paraid_core.proofs.KindLemmas.{gone_named}
use Rattle.paraid_core.proofs.ReadyLemmas.{some_is}

-- a disk below the gear, or below the gear that a shift goes up to, is powered
gear_spins : (gear : ℕ) (phase : Phase) (d : ℕ) → (d < gear) ⊎ (d < rising_to phase) → power_by_gear gear phase d ≡ Spinning
gear_spins gear phase d low = by (nat_lt d gear) (nat_lt d (rising_to phase)) (elim low [ inl l ↦ inl (below d gear l) | inr l ↦ inr (below d (rising_to phase) l) ])
  where
    below : (a b : ℕ) → a < b → nat_lt a b ≡ true
    below a b l = grind (arith, nat_tests)

    by : (a b : Bool) → (a ≡ true) ⊎ (b ≡ true) → (if a || b then Spinning else Parked) ≡ Spinning
    by true b is = refl
    by false true is = refl
    by false false is = elim is [ inl it ↦ absurd (false≢true it) | inr it ↦ absurd (false≢true it) ]

module _ (count : ℕ) (slot : ℕ → Slot) (named : Option ℕ) (m : Meta) (powered : IsPoweredBy count slot named m) where
  -- a disk that is powered is of the array
  low_in : (d : ℕ) → (d < m.gear) ⊎ (d < rising_to m.phase) → d < m.setup.geometry.disks
  low_in d low =
      let gear = gear_high m powered.in_range in
      let rise = rise_high m.setup.geometry m.gear m.phase powered.in_range.phase in
      elim low [ inl l ↦ omega arith | inr l ↦ omega arith ]

  spins : (d : ℕ) → (d < m.gear) ⊎ (d < rising_to m.phase) → named_out m.out ≢ Some d → (slot d).power ≡ Spinning
  spins d low not = powered.powers d (low_in d low) not ∙ gear_spins m.gear m.phase d low

  large : (d : ℕ) → (d < m.gear) ⊎ (d < rising_to m.phase) → named_out m.out ≢ Some d → disk_size m.setup.geometry ≤ (slot d).size
  large d low not = powered.large d (low_in d low) (ap is_present (spins d low not)) (λ away. not (gone_named m.out d away))

  fresh_large : (d u : ℕ) → m.out ≡ Fresh d u → is_present (slot d).power ≡ true → disk_size m.setup.geometry ≤ (slot d).size
  fresh_large d u is here =
      powered.large d (named_below m.setup.geometry m.gear m.out d powered.in_range.out (ap named_out is)) here
      (λ away. let z : None ≡ Some d = ap gone_out (sym is) ∙ away in cc)

  pub powered_ready : (last array rows : ℕ) → m.setup.geometry.disks ≡ array → m.epoch ≡ last → rows ≡ m.setup.geometry.rows → AreSlotsReady count slot last array named m rows []
  powered_ready last array rows shape epoch height = record {
    in_range = powered.in_range;
    array_is = shape;
    epoch_is = epoch;
    enough = powered.enough;
    rows_are = height;
    absent = powered.absent;
    one = λ d e p q. some_is d e (sym (powered.stays d p) ∙ q);
    spins = λ d l. spins d (inl l);
    large = λ d l. large d (inl l);
    fresh_spins = powered.fresh_spins;
    fresh_large = fresh_large;
    each = All-nil (IsTargetInRange m.setup.geometry);
    can = All-nil (λ (t : Target). (t.disk < count) × (gone_out m.out ≢ Some t.disk → CanWrite slot t.disk t.place));
    apart = λ i j d low high. absurd (omega arith);
  }

  pub powered_serves : CanServe slot named m
  powered_serves = record {
    spins = λ d l. spins d (inr l);
    large = λ d l. large d (inr l);
    stays = powered.stays;
  }

-- a disk has come up, and the others had
pub up_serves : (slot later : ℕ → Slot) (named : Option ℕ) (m : Meta) (disk : ℕ) → HaveComeUpBut slot m disk → ((d : ℕ) → d ≢ disk → later d ≡ slot d) → (later disk).power ≡ Spinning → (later disk).size ≡ (slot disk).size
    → ((d : ℕ) → named ≡ Some d → named_out m.out ≡ Some d) → CanServe later named m
up_serves slot later named m disk up others spins size stays = record {
  spins = λ d l not. elim (cases_eq d disk) [
    | inl is ↦ ap (λ (e : ℕ). (later e).power) is ∙ spins
    | inr apart ↦ ap (λ (s : Slot). s.power) (others d apart) ∙ up.spins d l apart not
  ];
  large = λ d l not.
      let was = up.large d l not in
      let same : (later d).size ≡ (slot d).size = elim (cases_eq d disk) [
        | inl is ↦ ap (λ (e : ℕ). (later e).size) is ∙ size ∙ ap (λ (e : ℕ). (slot e).size) (sym is)
        | inr apart ↦ ap (λ (s : Slot). s.size) (others d apart)
      ] in
      omega (arith, was, same);
  stays = stays;
}

-- a disk was lost in coming up, and the others had come up
pub lost_serves : (slot later : ℕ → Slot) (named : Option ℕ) (m : Meta) (disk : ℕ) → HaveComeUpBut slot m disk → ((d : ℕ) → d ≢ disk → later d ≡ slot d)
    → ((x : ℕ) → named_out m.out ≡ Some x → x ≡ disk) → ((d : ℕ) → named ≡ Some d → named_out m.out ≡ Some d) → CanServe later named (meta_after_loss m disk)
lost_serves slot later named m disk up others alone stays = record {
  spins = λ d l not.
      let apart : d ≢ disk = (λ is. not (ap Some (sym is))) in
      let rise = rising_to-beside m.phase in
      ap (λ (s : Slot). s.power) (others d apart) ∙ up.spins d (omega (arith, l, rise)) apart (λ named. apart (alone d named));
  large = λ d l not.
      let apart : d ≢ disk = (λ is. not (ap Some (sym is))) in
      let rise = rising_to-beside m.phase in
      let was = up.large d (omega (arith, l, rise)) (λ named. apart (alone d named)) in
      let same = ap (λ (s : Slot). s.size) (others d apart) in
      omega (arith, was, same);
  stays = λ d is. ap Some (sym (alone d (stays d is)));
}
