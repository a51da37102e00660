-- The marks of a shift and of a rebuild are marks in memory, and which of them leave the powers as they are.
use Rattle.std.proofs.Common.{◌≡◌, ℕ, ◌+◌, ◌-◌, ◌<◌, ◌≤◌, ◌⊎◌, Bool, true, false, List, refl, sym, ap, ◌∙◌, inl, inr, subst, arith, if◌then◌else◌}
use Rattle.std.specs.Prelude.{◌&&◌, nat_le, nat_lt, slice_index}
use Rattle.std.proofs.lemmas.Bool.Decides.{nat_tests}
use Rattle.paraid_base.specs.declared.state.Out.{Out}
use Rattle.paraid_base.specs.declared.state.Out.TheVariants.{No, Fresh}
use Rattle.paraid_base.specs.declared.state.Phase.{Phase}
use Rattle.paraid_base.specs.declared.state.Phase.TheVariants.{Steady, Down, Up}
use Rattle.paraid_base.specs.States.{gone_out, has_out, named_out, phase_beside, rising_to}
use Rattle.paraid_rack.specs.declared.call.Power.{Power}
use Rattle.paraid_record.specs.declared.meta.Meta.{Meta}
use Rattle.paraid_image.specs.Power.{power_by_gear}
use Rattle.paraid_image.specs.Spins.{made_spin_ups, is_parked}
use Rattle.paraid_moves.specs.MoveMetas.{filled_to, meta_after_begin, meta_flipped_to, meta_with_out}
use Rattle.paraid_event.specs.Marks.{ShowsMeta}
use Rattle.paraid_event.specs.Service.{Service}
use Rattle.paraid_event.specs.Steps.{IsSettled, MarksInMemory}
use Rattle.paraid_event.proofs.MarksLemmas.{again, if_again}

beside_none : (phase : Phase) → phase_beside false phase ≡ phase
beside_none Steady = refl
beside_none (Down to) = refl
beside_none (Up to) = refl

-- where no disk is out a meta is settled
whole_settled : (m : Meta) → m.out ≡ No → IsSettled m
whole_settled m whole = record {
  phase = ap (λ (o : Out). phase_beside (has_out o) m.phase) whole ∙ beside_none m.phase;
  fill = ap (λ (o : Out). if has_out o then 0 else m.fill) whole;
}

-- and so is one that disks show
pub shown_settled : (power : ℕ → Power) (base m : Meta) → ShowsMeta power base m → IsSettled m
shown_settled power base m shows = record {
  phase = ap (phase_beside (has_out m.out)) (sym shows.phase) ∙ again (has_out m.out) base.phase ∙ shows.phase;
  fill = ap (λ (f : ℕ). if has_out m.out then 0 else f) (sym shows.fill) ∙ if_again (has_out m.out) base.fill ∙ shows.fill;
}

-- no more spin-ups are pending
least_used : (m : Meta) (p : ℕ → Power) (d spins : ℕ) → spins ≡ slice_index m.spins d → made_spin_ups m p d ≤ spins
least_used m p d spins is = by (nat_le m.gear d && nat_lt d (rising_to m.phase) && is_parked (p d)) is
  where
    by : (t : Bool) → spins ≡ slice_index m.spins d → slice_index m.spins d - (if t then 1 else 0) ≤ spins
    by true same = omega (arith, same)
    by false same = omega (arith, same)

flat_used : (m : Meta) (p : ℕ → Power) (d : ℕ) → rising_to m.phase ≡ 0 → made_spin_ups m p d ≡ slice_index m.spins d
flat_used m p d flat = by (nat_le m.gear d) (nat_lt d (rising_to m.phase)) (is_parked (p d)) refl flat
  where
    not_below : (a b : ℕ) → nat_lt a b ≡ true → b ≡ 0 → ⊥
    not_below a b t z = grind (arith, nat_tests)

    by : (x y z : Bool) → nat_lt d (rising_to m.phase) ≡ y → rising_to m.phase ≡ 0 → slice_index m.spins d - (if (x && y && z) then 1 else 0) ≡ slice_index m.spins d
    by true true z low none = absurd (not_below d (rising_to m.phase) low none)
    by true false z low none = omega arith
    by false y z low none = omega arith

-- a shift up that begins has one more spin-up recorded of each disk of which one is to be made
up_used : (m : Meta) (spins : List ℕ) (to : ℕ) (p : ℕ → Power) (d : ℕ) → (m.gear ≤ d → d < to → slice_index spins d ≡ slice_index m.spins d + 1) → ((d < m.gear) ⊎ (to ≤ d) → slice_index spins d ≡ slice_index m.spins d)
    → made_spin_ups m p d ≤ made_spin_ups (meta_after_begin m (Up to) spins) p d
up_used m spins to p d raised others = by (nat_le m.gear d) (nat_lt d to) (is_parked (p d)) refl refl (least_used m p d (slice_index m.spins d) refl)
  where
    at_least : (a b : ℕ) → nat_le a b ≡ true → a ≤ b
    at_least a b t = grind (arith, nat_tests)

    less : (a b : ℕ) → nat_le a b ≡ false → b < a
    less a b t = grind (arith, nat_tests)

    below : (a b : ℕ) → nat_lt a b ≡ true → a < b
    below a b t = grind (arith, nat_tests)

    past : (a b : ℕ) → nat_lt a b ≡ false → b ≤ a
    past a b t = grind (arith, nat_tests)

    by : (x y z : Bool) → nat_le m.gear d ≡ x → nat_lt d to ≡ y → made_spin_ups m p d ≤ slice_index m.spins d → made_spin_ups m p d ≤ slice_index spins d - (if (x && y && z) then 1 else 0)
    by true true true f g l = let r = raised (at_least m.gear d f) (below d to g) in omega (arith, r, l)
    by true true false f g l = let r = raised (at_least m.gear d f) (below d to g) in omega (arith, r, l)
    by true false z f g l = let r = others (inr (past d to g)) in omega (arith, r, l)
    by false y z f g l = let r = others (inl (less m.gear d f)) in omega (arith, r, l)

module _ (k j : Service) (slots : j.slots ≡ k.slots) (named : j.named ≡ k.named) where
  marked : (m : Meta) → j.meta ≡ m → m.setup ≡ k.meta.setup → m.ticks ≡ k.meta.ticks → named_out m.out ≡ named_out k.meta.out → gone_out m.out ≡ gone_out k.meta.out → IsSettled m
      → ((power : ℕ → Power) (d : ℕ) → made_spin_ups k.meta power d ≤ made_spin_ups m power d) → MarksInMemory k j
  marked m is setup ticks names gone settled used = record {
    slots = slots;
    named = named;
    setup = ap (λ (z : Meta). z.setup) is ∙ setup;
    ticks = ap (λ (z : Meta). z.ticks) is ∙ ticks;
    names = ap (λ (z : Meta). named_out z.out) is ∙ names;
    gone = ap (λ (z : Meta). gone_out z.out) is ∙ gone;
    settled = subst IsSettled (sym is) settled;
    used = λ power d low. subst (λ (z : Meta). made_spin_ups k.meta power d ≤ made_spin_ups z power d) (sym is) (used power d);
  }

  -- stripes are marked as filled
  pub filled_mark : (fill : ℕ) → k.meta.out ≡ No → j.meta ≡ filled_to k.meta fill → MarksInMemory k j
  filled_mark fill whole is = marked (filled_to k.meta fill) is refl refl refl refl (whole_settled (filled_to k.meta fill) whole) (λ power d. omega arith)

  -- a shift has ended
  pub flipped_mark : (to : ℕ) → k.meta.out ≡ No → j.meta ≡ meta_flipped_to k.meta to → MarksInMemory k j
  flipped_mark to whole is = marked (meta_flipped_to k.meta to) is refl refl refl refl (whole_settled (meta_flipped_to k.meta to) whole)
      (λ power d. let l = least_used k.meta power d (slice_index k.meta.spins d) refl in let e = flat_used (meta_flipped_to k.meta to) power d refl in omega (arith, l, e))

  -- a shift begins
  pub down_mark : (to : ℕ) → k.meta.out ≡ No → j.meta ≡ meta_after_begin k.meta (Down to) k.meta.spins → MarksInMemory k j
  down_mark to whole is = marked (meta_after_begin k.meta (Down to) k.meta.spins) is refl refl refl refl (whole_settled (meta_after_begin k.meta (Down to) k.meta.spins) whole)
      (λ power d. let l = least_used k.meta power d (slice_index k.meta.spins d) refl in let e = flat_used (meta_after_begin k.meta (Down to) k.meta.spins) power d refl in omega (arith, l, e))

  pub up_mark : (to : ℕ) (spins : List ℕ) → k.meta.out ≡ No → j.meta ≡ meta_after_begin k.meta (Up to) spins → ((d : ℕ) → k.meta.gear ≤ d → d < to → slice_index spins d ≡ slice_index k.meta.spins d + 1)
      → ((d : ℕ) → (d < k.meta.gear) ⊎ (to ≤ d) → slice_index spins d ≡ slice_index k.meta.spins d) → MarksInMemory k j
  up_mark to spins whole is raised others = marked (meta_after_begin k.meta (Up to) spins) is refl refl refl refl (whole_settled (meta_after_begin k.meta (Up to) spins) whole) (λ power d. up_used k.meta spins to power d (raised d) (others d))

  -- units of a disk are rebuilt
  pub rebuilt_mark : (d was units : ℕ) → k.meta.out ≡ Fresh d was → IsSettled k.meta → j.meta ≡ meta_with_out k.meta (Fresh d units) → MarksInMemory k j
  rebuilt_mark d was units fresh settled is = marked (meta_with_out k.meta (Fresh d units)) is refl refl (sym (ap named_out fresh)) (sym (ap gone_out fresh))
      (record {
        phase = sym (ap (λ (o : Out). phase_beside (has_out o) k.meta.phase) fresh) ∙ settled.phase;
        fill = sym (ap (λ (o : Out). if has_out o then 0 else k.meta.fill) fresh) ∙ settled.fill;
      }) (λ power e. omega arith)

-- a shift down that begins where none is under way leaves the powers
pub down_powers : (m : Meta) (to d : ℕ) → m.phase ≡ Steady → power_by_gear m.gear m.phase d ≡ power_by_gear m.gear (Down to) d
down_powers m to d steady = rw steady refl

-- and so does the end of a shift up
pub up_powers : (m : Meta) (to d : ℕ) → m.phase ≡ Up to → m.gear ≤ to → power_by_gear m.gear m.phase d ≡ power_by_gear to Steady d
up_powers m to d up le = ap (λ (z : Phase). power_by_gear m.gear z d) up ∙ by (nat_lt d m.gear) (nat_lt d to) refl refl
  where
    below : (a b c : ℕ) → nat_lt a b ≡ true → nat_lt a c ≡ false → b ≤ c → ⊥
    below a b c t f l = grind (arith, nat_tests)

    none : (a : ℕ) → nat_lt a 0 ≡ false
    none a = grind (arith, nat_tests)

    by : (x y : Bool) → nat_lt d m.gear ≡ x → nat_lt d to ≡ y → power_by_gear m.gear (Up to) d ≡ power_by_gear to Steady d
    by true true x y = rw (x, y) refl
    by true false x y = absurd (below d m.gear to x y le)
    by false true x y = rw (x, y) refl
    by false false x y = let z = none d in rw (x, y, z) refl
