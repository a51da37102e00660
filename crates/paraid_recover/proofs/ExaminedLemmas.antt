-- What an examination finds fits the meta that stands.
use Rattle.std.specs.Prelude.{◌≡◌, ◌≢◌, ℕ, ◌<◌, ◌≤◌, ◌==◌, ◌&&◌, ◌||◌, nat_lt, not, Bool, true, false, Option, Some, None}
use Rattle.std.proofs.Common.{refl, sym, ◌∙◌, ap, subst, arith, inl, inr}
use Rattle.std.proofs.lemmas.Bool.{cases_eq, cases_lt, false≢true}
use Rattle.std.proofs.lemmas.Bool.Decides.{nat_tests}
use Rattle.paraid_base.specs.declared.state.Out.{Out}
use Rattle.paraid_base.specs.declared.state.Out.TheVariants.{No, Gone, Fresh}
use Rattle.paraid_base.specs.Regions.{disk_size}
use Rattle.paraid_base.specs.States.{gone_out, is_fresh, is_gone, is_out}
use Rattle.paraid_rack.specs.declared.call.Power.{Power}
use Rattle.paraid_rack.specs.declared.call.Power.TheVariants.{Parked}
use Rattle.paraid_rack.specs.Disks.{is_parked, is_present}
use Rattle.paraid_rack.specs.Slots.{Slot}
use Rattle.paraid_record.specs.declared.meta.Meta.{Meta}
use Rattle.paraid_record.specs.Range.{IsInRange, IsOutInRange}
use Rattle.paraid_image.specs.Out.{IsDouble, IsMissing, named_out}
use Rattle.paraid_image.specs.Sides.{Batch}
use Rattle.paraid_recover.specs.Examined.{AreLogsAwake}
use Rattle.paraid_recover.specs.Order.{IsNotRefused}
use Rattle.paraid_recover.specs.Refusals.{is_asleep, is_small, must_spin}
use Rattle.paraid_txn.specs.Losses.{IsOneOut, IsOutOfCommit, OnlyLosesSlots}
use Rattle.paraid_txn.specs.Losses.IsOutOfCommit.{is_absent, was_named, is_named}
use Rattle.paraid_recover.specs.Mounted.{IsFit}

parked_is : (p : Power) → p ≡ Parked → is_parked p ≡ true
parked_is p is = ap is_parked is

or_left : (x y : Bool) → x ≡ true → (x || y) ≡ true
or_left true y is = refl
or_left false y is = absurd (false≢true is)

or_right : (x y : Bool) → y ≡ true → (x || y) ≡ true
or_right true y is = refl
or_right false y is = is

and_both : (x y : Bool) → x ≡ true → y ≡ true → (x && y) ≡ true
and_both true y a b = b
and_both false y a b = absurd (false≢true a)

not_true : (x : Bool) → x ≡ false → not x ≡ true
not_true true is = absurd (false≢true (sym is))
not_true false is = refl

lt_true : (a b : ℕ) → a < b → nat_lt a b ≡ true
lt_true a b low = grind (arith, nat_tests)

eq_false : (a b : ℕ) → a ≢ b → (a == b) ≡ false
eq_false a b apart = grind (arith, nat_tests)

gone_false : (o : Out) (d : ℕ) → gone_out o ≢ Some d → is_gone o d ≡ false
gone_false No d not = refl
gone_false (Gone e) d not = eq_false d e (λ is. not (ap Some (sym is)))
gone_false (Fresh e u) d not = refl

out_false : (o : Option ℕ) (d : ℕ) → o ≢ Some d → is_out o d ≡ false
out_false None d not = refl
out_false (Some e) d not = eq_false d e (λ is. not (ap Some (sym is)))

fresh_true : (o : Out) (d u : ℕ) → o ≡ Fresh d u → is_fresh o d ≡ true
fresh_true No d u is = absurd (let z : No ≡ Fresh d u = is in cc)
fresh_true (Gone e) d u is = absurd (let z : Gone e ≡ Fresh d u = is in cc)
fresh_true (Fresh e v) d u is = let z : Fresh e v ≡ Fresh d u = is in let same : d ≡ e = cc in grind (arith, nat_tests)

small_not : (count : ℕ) (slot : ℕ → Slot) (m : Meta) (d : ℕ) → is_small count slot m d ≡ false → is_present (slot d).power ≡ true → gone_out m.out ≢ Some d
    → disk_size m.setup.geometry ≤ (slot d).size
unfolding is_small
small_not count slot m d is here in_use = elim (cases_lt (slot d).size (disk_size m.setup.geometry)) [
  | inr large ↦ large
  | inl small ↦ absurd (false≢true (sym is
      ∙ or_right (not (nat_lt d count)) _ (and_both _ _ here (and_both _ _ (not_true _ (gone_false m.out d in_use)) (lt_true _ _ small)))))
]

asleep_not : (slot : ℕ → Slot) (m : Meta) (batch : Batch) (d : ℕ) → is_asleep slot m batch d ≡ false → must_spin m batch d ≡ true → (slot d).power ≢ Parked
unfolding is_asleep
asleep_not slot m batch d is must parked = false≢true (sym is ∙ and_both _ _ (parked_is (slot d).power parked) must)

must_below : (m : Meta) (batch : Batch) (d : ℕ) → d < m.gear → named_out m.out ≢ Some d → must_spin m batch d ≡ true
unfolding must_spin
must_below m batch d low in_use = or_right (is_fresh m.out d) _ (and_both _ _ (not_true _ (out_false (named_out m.out) d in_use)) (or_left _ _ (lt_true d m.gear low)))

must_fresh : (m : Meta) (batch : Batch) (d u : ℕ) → m.out ≡ Fresh d u → must_spin m batch d ≡ true
unfolding must_spin
must_fresh m batch d u is = or_left _ _ (fresh_true m.out d u is)

out_low : (m : Meta) (d : ℕ) → IsInRange m → named_out m.out ≡ Some d → d < m.setup.geometry.disks
out_low m d range name = split m.out range.out name
  where
    split : (o : Out) → IsOutInRange m.setup.geometry m.gear o → named_out o ≡ Some d → d < m.setup.geometry.disks
    split No in_range name = absurd (let z : None ≡ Some d = name in cc)
    split (Gone e) in_range name = (let z : Some e ≡ Some d = name in let same : e ≡ d = cc in subst (λ (k : ℕ). k < m.setup.geometry.disks) same in_range)
    split (Fresh e u) in_range name = (let z : Some e ≡ Some d = name in let same : e ≡ d = cc in subst (λ (k : ℕ). k < m.setup.geometry.disks) same in_range.0)

one_served : (slot : ℕ → Slot) (m : Meta) → IsInRange m → (IsDouble (λ d. (slot d).power) m → ⊥) → IsOneOut m.setup.geometry.disks (named_out m.out) slot
one_served slot m range single d e p q = elim (cases_eq d e) [
  | inl same ↦ same
  | inr apart ↦ absurd (single (record { first = d; second = e; apart = apart; missing_first = missing d p; missing_second = missing e q }))
]
  where
    missing : (x : ℕ) → IsOutOfCommit (λ y. (slot y).power) m.setup.geometry.disks (named_out m.out) None x → IsMissing (λ y. (slot y).power) m x
    missing x (is_absent low gone) = record { disk = low; is = inl (ap is_present gone) }
    missing x (was_named name) = record { disk = out_low m x range name; is = inr name }
    missing x (is_named name) = absurd (let z : None ≡ Some x = name in cc)

pub fit_examined : (count : ℕ) (a b : ℕ → Slot) (m : Meta) (batch : Batch) → OnlyLosesSlots a b → AreLogsAwake a → IsNotRefused count b m batch → IsInRange m → m.setup.geometry.disks ≤ count → IsFit count b m
fit_examined count a b m batch spared awake served range enough = record {
  in_range = range;
  enough = enough;
  log_disks = λ x low parked. false≢true (sym (awake x low) ∙ parked_is (a x).power (sym (spared.power x (ap is_present parked)) ∙ parked));
  large = λ d low here in_use. small_not count b m d (served.0.0.0 d low) here in_use;
  awake = λ d low in_use.
      let le = m.setup.geometry.gears_high m.gear range.gear in
      asleep_not b m batch d (served.0.0.1 d (omega arith)) (must_below m batch d low in_use);
  fresh = λ d u is. asleep_not b m batch d (served.0.0.1 d (out_low m d range (ap named_out is))) (must_fresh m batch d u is);
  one = one_served b m range served.0.1;
}
