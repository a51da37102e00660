-- The first point of a session.
use Rattle.std.proofs.Common.{◌≡◌, ◌≢◌, ℕ, ◌<◌, Bool, true, false, Option, Some, None, refl, sym, ap, ◌∙◌, subst, arith, if◌then◌else◌, take}
use Rattle.std.specs.Prelude.{◌==◌}
use Rattle.std.proofs.lemmas.Bool.Decides.{nat_tests}
use Rattle.paraid_base.specs.declared.state.Out.{Out}
use Rattle.paraid_base.specs.declared.state.Out.TheVariants.{No, Gone, Fresh}
use Rattle.paraid_base.specs.declared.state.Phase.{Phase}
use Rattle.paraid_base.specs.declared.state.Phase.TheVariants.{Steady, Down, Up}
use Rattle.paraid_base.specs.History.{History}
use Rattle.paraid_rack.specs.declared.call.Power.{Power}
use Rattle.paraid_rack.specs.declared.call.Power.TheVariants.{Spinning}
use Rattle.paraid_rack.specs.Disks.{Disks, is_present}
use Rattle.paraid_rack.specs.Slots.{Agrees, Slot}
use Rattle.paraid_record.specs.declared.meta.Meta.{Meta}
use Rattle.paraid_record.specs.declared.meta.Setup.{Setup}
use Rattle.paraid_record.specs.Range.{has_out}
use Rattle.paraid_image.specs.HeldAt.{IsHeld}
use Rattle.paraid_image.specs.Out.{first_absent, named_out, or_else, out_disk}
use Rattle.paraid_image.specs.Power.{gone_of, initial_state, out_after, out_state, phase_beside, power_beside, power_by_gear, state_by}
use Rattle.paraid_image.specs.Rest.{IsAtRest}
use Rattle.paraid_rack.specs.Atoms.{IsSure}
use Rattle.paraid_image.specs.Sides.{closed_over, is_open}
use Rattle.paraid_recover.specs.Bearing.{IsNamedLog}
use Rattle.paraid_recover.specs.RecoveryMark.{to_mark, to_mark_by}
use Rattle.paraid_recover.specs.Mounted.{IsServable, with_loss}
use Rattle.paraid_recover.proofs.ServableLemmas.{power_beside as gear_beside}
use Rattle.paraid_session.specs.Turn.{IsMark}
use Rattle.paraid_recover.specs.FirstPoint.{first_point}

named_gone : (slot : Option ℕ) → named_out (gone_of slot) ≡ slot
named_gone None = refl
named_gone (Some d) = refl

named_fresh : (there : Bool) (d rebuilt : ℕ) → named_out (if there then Fresh d rebuilt else Gone d) ≡ Some d
named_fresh true d rebuilt = refl
named_fresh false d rebuilt = refl

named_after : (o : Out) (power : ℕ → Power) (slot : Option ℕ) → named_out (out_after o power slot) ≡ or_else (named_out o) slot
named_after No power slot = named_gone slot
named_after (Gone d) power slot = refl
named_after (Fresh d rebuilt) power slot = named_fresh (is_present (power d)) d rebuilt

-- the disk that is out in a state that is shown is the out disk
named_shown : (s : Disks) (m : Meta) → named_out (initial_state s (closed_over m)).out ≡ out_disk s.power m
unfolding state_by
named_shown s m = named_after m.out s.power (first_absent s.power m.setup.geometry.disks)

lost_fresh : (m : Meta) (d rebuilt : ℕ) (there : Bool) → m.out ≡ Fresh d rebuilt → (with_loss m (if there then None else Some d)).out ≡ (if there then Fresh d rebuilt else Gone d)
lost_fresh m d rebuilt true is = is
lost_fresh m d rebuilt false is = refl

lost_first : (m : Meta) (o : Option ℕ) → m.out ≡ No → (with_loss m o).out ≡ gone_of o
lost_first m None is = is
lost_first m (Some d) is = refl

-- The meta that marks in memory a disk that is absent names out the disk that is out in the state.
pub loss_shown : (power : ℕ → Power) (m : Meta) → (with_loss m (to_mark power m)).out ≡ out_state power m
loss_shown power m = split m.out refl
  where
    split : (o : Out) → m.out ≡ o → (with_loss m (to_mark_by o power m.setup.geometry.disks)).out ≡ out_after o power (first_absent power m.setup.geometry.disks)
    split No is = lost_first m (first_absent power m.setup.geometry.disks) is
    split (Gone d) is = is
    split (Fresh d rebuilt) is = lost_fresh m d rebuilt (is_present (power d)) is

beside_by : (b : Bool) (gear : ℕ) (phase : Phase) (d : ℕ) → power_by_gear gear (phase_beside b phase) d ≡ power_by_gear gear phase d
beside_by true gear phase d = gear_beside gear phase d
beside_by false gear Steady d = refl
beside_by false gear (Down to) d = refl
beside_by false gear (Up to) d = refl

-- its gear powers the disks as that of the state does
lost_gear : (m : Meta) (o : Option ℕ) (d : ℕ) → power_by_gear (with_loss m o).gear (with_loss m o).phase d ≡ power_by_gear m.gear m.phase d
lost_gear m None d = refl
lost_gear m (Some e) d = gear_beside m.gear m.phase d

state_gear : (s : Disks) (m : Meta) (d : ℕ) → power_by_gear (initial_state s (closed_over m)).gear (initial_state s (closed_over m)).phase d ≡ power_by_gear m.gear m.phase d
unfolding state_by
state_gear s m d = beside_by (has_out (out_state s.power m)) m.gear m.phase d

state_out : (s : Disks) (m : Meta) → (initial_state s (closed_over m)).out ≡ out_state s.power m
unfolding state_by
state_out s m = refl

pub state_ticks : (s : Disks) (m : Meta) → (initial_state s (closed_over m)).ticks ≡ m.ticks
unfolding state_by
state_ticks s m = refl

no_fresh : (slot : Option ℕ) (e rebuilt : ℕ) → gone_of slot ≡ Fresh e rebuilt → ⊥
no_fresh None e rebuilt is = let z : No ≡ Fresh e rebuilt = is in cc
no_fresh (Some d) e rebuilt is = let z : Gone d ≡ Fresh e rebuilt = is in cc

fresh_if : (d u e rebuilt : ℕ) (there : Bool) → (if there then Fresh d u else Gone d) ≡ Fresh e rebuilt → (there ≡ true) × (d ≡ e)
fresh_if d u e rebuilt true is = (refl, (let z : Fresh d u ≡ Fresh e rebuilt = is in cc))
fresh_if d u e rebuilt false is = absurd (let z : Gone d ≡ Fresh e rebuilt = is in cc)

-- a disk that is being rebuilt in the state is there
fresh_there : (o : Out) (power : ℕ → Power) (slot : Option ℕ) (e rebuilt : ℕ) → out_after o power slot ≡ Fresh e rebuilt → is_present (power e) ≡ true
fresh_there No power slot e rebuilt is = absurd (no_fresh slot e rebuilt is)
fresh_there (Gone d) power slot e rebuilt is = absurd (let z : Gone d ≡ Fresh e rebuilt = is in cc)
fresh_there (Fresh d u) power slot e rebuilt is = let it = fresh_if d u e rebuilt (is_present (power d)) is in subst (λ (x : ℕ). is_present (power x) ≡ true) it.1 it.0

some_is : {A : Type 0} (a b : A) → Some a ≡ Some b → a ≡ b
some_is {A} a b e = cc

same_if : (d e : ℕ) → (d == e) ≡ true → d ≡ e
same_if d e is = grind (arith, nat_tests)

other_if : (d e : ℕ) → (d == e) ≡ false → e ≢ d
other_if d e is same = grind (arith, nat_tests)

module _ (slots : ℕ) (s : Disks) (count last array : ℕ) (slot : ℕ → Slot) (named : Option ℕ) (standing : Meta) (rows : ℕ) (agrees : Agrees s slot)
    (servable : IsServable count slot last array named (with_loss standing (to_mark s.power standing)) rows) where
  abbrev m : Meta
  m = with_loss standing (to_mark s.power standing)

  out_is : m.out ≡ out_state s.power standing
  out_is = loss_shown s.power standing

  by_gear : (d : ℕ) → d < m.setup.geometry.disks → named_out m.out ≢ Some d → s.power d ≡ power_by_gear standing.gear standing.phase d
  by_gear d low not = agrees.power d ∙ servable.powers d low not ∙ lost_gear standing (to_mark s.power standing) d

  powers_by : (o : Out) → out_state s.power standing ≡ o → (d : ℕ) (power : Power) → d < m.setup.geometry.disks → power_beside o d (power_by_gear standing.gear standing.phase d) ≡ Some power → s.power d ≡ power
  powers_by No is d power low at = by_gear d low (λ e. let z : None ≡ Some d = sym (ap named_out (out_is ∙ is)) ∙ e in cc) ∙ some_is (power_by_gear standing.gear standing.phase d) power at
  powers_by (Gone e) is d power low at = either (d == e) refl at
    where
      either : (b : Bool) → (d == e) ≡ b → (if b then None else Some (power_by_gear standing.gear standing.phase d)) ≡ Some power → s.power d ≡ power
      either true same k = absurd (let z : None ≡ Some power = k in cc)
      either false apart k = by_gear d low (λ f. other_if d e apart (some_is e d (sym (ap named_out (out_is ∙ is)) ∙ f))) ∙ some_is (power_by_gear standing.gear standing.phase d) power k
  powers_by (Fresh e rebuilt) is d power low at = either (d == e) refl at
    where
      either : (b : Bool) → (d == e) ≡ b → (if b then Some Spinning else Some (power_by_gear standing.gear standing.phase d)) ≡ Some power → s.power d ≡ power
      either true same k =
          let here : e ≡ d = sym (same_if d e same) in
          let there = fresh_there standing.out s.power (first_absent s.power standing.setup.geometry.disks) e rebuilt is in
          let spins = servable.fresh_spins e rebuilt (out_is ∙ is) (ap is_present (sym (agrees.power e)) ∙ there) in
          subst (λ (x : ℕ). s.power x ≡ Spinning) here (agrees.power e ∙ spins) ∙ some_is Spinning power k
      either false apart k = by_gear d low (λ f. other_if d e apart (some_is e d (sym (ap named_out (out_is ∙ is)) ∙ f))) ∙ some_is (power_by_gear standing.gear standing.phase d) power k

  same_disks : (o : Option ℕ) → (with_loss standing o).setup ≡ standing.setup
  same_disks None = refl
  same_disks (Some d) = refl

  -- At the end of a mount the disks are as a session marks them.
  pub mark_at_end : (h : History) (spun : ℕ → ℕ) → IsAtRest s standing → IsHeld slots s (take standing.writes h) standing.writes (out_disk s.power standing)
      → ((x : ℕ) → IsNamedLog (named_out standing.out) x → IsSure s 2 x (λ b. is_open b ≡ true)) → IsMark slots standing.setup (first_point s standing h spun)
  mark_at_end h spun rest held borne = record {
    borne = λ x low names. borne x (names, low);
    held = subst (λ (o : Option ℕ). IsHeld slots s (take standing.writes h) standing.writes o) (sym (named_shown s standing)) held;
    rest = rest;
    same_setup = refl;
    counted_ticks = let e = state_ticks s standing in omega (arith, e);
    shown = record { gear = refl; phase = refl; fill = refl; out = refl; spins = refl };
    powers = λ d power low at. powers_by (out_state s.power standing) refl d power (subst (λ (z : Setup). d < z.geometry.disks) (sym (same_disks (to_mark s.power standing))) low)
        (ap (λ (p : Power). power_beside (out_state s.power standing) d p) (sym (state_gear s standing d)) ∙ ap (λ (o : Out). power_beside o d (power_by_gear (initial_state s (closed_over standing)).gear (initial_state s (closed_over standing)).phase d)) (sym (state_out s standing)) ∙ at);
  }
