-- Disks that show the meta in memory: the shift is that of the last commit.
use Rattle.std.proofs.Common.{◌≡◌, ℕ, Bool, true, false, [], Option, Some, None, refl, sym, ap, ◌∙◌, subst, arith, if◌then◌else◌}
use Rattle.std.proofs.lemmas.Bool.{false≢true}
use Rattle.paraid_base.specs.declared.state.Out.{Out}
use Rattle.paraid_base.specs.declared.state.Out.TheVariants.{No, Gone, Fresh}
use Rattle.paraid_base.specs.declared.state.Phase.{Phase}
use Rattle.paraid_base.specs.declared.state.Phase.TheVariants.{Steady, Down, Up}
use Rattle.paraid_base.specs.History.{History}
use Rattle.paraid_base.specs.States.{has_out, named_out, phase_beside, rising_to}
use Rattle.paraid_rack.specs.declared.call.Power.{Power}
use Rattle.paraid_rack.specs.Disks.{Disks, is_present}
use Rattle.paraid_record.specs.declared.meta.Meta.{Meta}
use Rattle.paraid_image.specs.Out.{first_absent}
use Rattle.paraid_image.specs.Power.{out_after}
use Rattle.paraid_image.specs.Sides.{Batch}
use Rattle.paraid_core.specs.CellCopies.{KeepsCellCopies}
use Rattle.paraid_core.specs.CoreInvariant.{HoldsBetweenCalls}
use Rattle.paraid_core.specs.Fills.{IsShiftCommitted}
use Rattle.paraid_event.proofs.ApartLemmas.{gone_not_fresh, none_not_fresh}
use Rattle.paraid_event.specs.Marks.{ShowsMeta}
use Rattle.paraid_event.specs.Powering.{ServiceRests}
use Rattle.paraid_event.specs.Service.{Service}
use Rattle.paraid_event.specs.Stands.{ServiceStandsFor}

rising_beside : (b : Bool) (phase : Phase) → rising_to (phase_beside b phase) ≡ rising_to phase
rising_beside b Steady = refl
rising_beside true (Down to) = refl
rising_beside false (Down to) = refl
rising_beside b (Up to) = refl

beside_none : (phase : Phase) → phase_beside false phase ≡ phase
beside_none Steady = refl
beside_none (Down to) = refl
beside_none (Up to) = refl

named_after : (power : ℕ → Power) (lost : Option ℕ) (o : Out) (d units : ℕ) → o ≡ Fresh d units → named_out (out_after o power lost) ≡ Some d
named_after power lost No d units is = absurd (none_not_fresh is)
named_after power lost (Gone e) d units is = absurd (gone_not_fresh is)
named_after power lost (Fresh e u) d units is = by (is_present (power e)) (let z : Fresh e u ≡ Fresh d units = is in let same : e ≡ d = cc in same)
  where
    by : (t : Bool) → e ≡ d → named_out (if t then Fresh e u else Gone e) ≡ Some d
    by true same = ap (λ (x : ℕ). Some x) same
    by false same = ap (λ (x : ℕ). Some x) same

fresh_before : (power : ℕ → Power) (lost : Option ℕ) (o : Out) (d units : ℕ) → out_after o power lost ≡ Fresh d units → o ≡ Fresh d units
fresh_before power None No d units is = absurd (none_not_fresh is)
fresh_before power (Some e) No d units is = absurd (gone_not_fresh is)
fresh_before power lost (Gone e) d units is = absurd (gone_not_fresh is)
fresh_before power lost (Fresh e u) d units is = by (is_present (power e)) is
  where
    by : (t : Bool) → (if t then Fresh e u else Gone e) ≡ Fresh d units → Fresh e u ≡ Fresh d units
    by true same = same
    by false same = absurd (gone_not_fresh same)

-- The gear is that of the last commit, and while no disk is out the shift is.
pub shown_shift : (power : ℕ → Power) (base m : Meta) → ShowsMeta power base m → IsShiftCommitted base m
shown_shift power base m shows = record {
  gear = shows.gear;
  rises = sym (rising_beside (has_out m.out) base.phase) ∙ ap rising_to shows.phase;
  fresh = λ d units is. ap named_out (sym shows.out) ∙ named_after power (first_absent power base.setup.geometry.disks) base.out d units is;
  phase = λ none. sym (beside_none base.phase) ∙ ap (λ (o : Out). phase_beside (has_out o) base.phase) (sym none) ∙ shows.phase;
  fill = λ none. ap (λ (o : Out). if has_out o then 0 else base.fill) (sym none) ∙ shows.fill;
  rebuilt = λ d units is. fresh_before power (first_absent power base.setup.geometry.disks) base.out d units (shows.out ∙ is);
}

module _ (k : Service) (h : History) (lo : ℕ) (s : Disks) (z : ServiceStandsFor k h lo s) (shows : ShowsMeta s.power z.base k.meta) where
  -- Cells can be copied from there,
  pub shown_stands : KeepsCellCopies k.slots k.named k.meta k.table k.batch k.copied h lo (λ r d. false) s
  shown_stands = record { keeps = z; shift = shown_shift s.power z.base k.meta shows; stored = λ r d low below dirty is. absurd (false≢true is) }

  -- and with nothing staged stripes too.
  pub shown_rests : k.batch ≡ [] → ServiceRests k h lo s
  shown_rests nothing =
      let there = subst (λ (b : Batch). (y : HoldsBetweenCalls k.slots k.named k.meta k.table b k.copied h lo s) × (y.base ≡ z.base)) nothing (z, refl) in
      record {
        keeps = there.0;
        shift = subst (λ (m : Meta). IsShiftCommitted m k.meta) (sym there.1) (shown_shift s.power z.base k.meta shows);
        filled = λ at from below. absurd (omega (arith, from, below));
      }
