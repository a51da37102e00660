use Rattle.paraid_base.specs.declared.event.Event.TheVariants.{Flush}
use Rattle.paraid_base.specs.declared.fault.Halt.{Halt}
use Rattle.paraid_base.specs.declared.event.Answer.TheVariants.{Flushed}
use Rattle.paraid_volume.specs.Values.{device_of}
use Rattle.paraid_volume.proofs.OneCallLemmas.{lived_flush}
use Rattle.paraid_volume.proofs.DeviceLemmas.{DeviceGoesOn-none, KeepsMore-none, KeepsMore-one, holds_same, holds_stands}
use Rattle.std.proofs.Common.{ℕ, ◌≡◌, None, Option, Some, ◌≤◌, ◌<◌, ◌^◌, ◌∙◌, ap, refl, subst, sym}
use Rattle.paraid_volume.specs.TableBlocks.{in_table}
use Rattle.paraid_volume.specs.Tables.{IsVolumeTable, extent_count, extent_size}
use Rattle.paraid_volume.proofs.volumes.Volumes.flush.Goals as goal

-- a halt is no want of one
halts : (h : Halt) → ◌≡◌ {A = Option Halt} (Some h) None → ⊥
halts h e = cc

pub returns-in-Ok-clause-stands : goal.returns-in-Ok-clause-stands
returns-in-Ok-clause-stands g c = λ from h stands tells. (
  (c.in-Ok.ensures.history h (holds_stands g.B.Blocks.stands g.B.Blocks.kept from (device_of c.args.self.now) h stands.0) tells).0,
  (
    holds_same g.B.Blocks.stands g.B.Blocks.kept from (device_of c.args.self.now) c.flush.new.self h Flush (Flushed c.in-Ok.number) (λ s. (c.in-Ok.ensures.history h s tells).1) (λ first events k. c.in-Ok.ensures.events first events k) refl stands.0,
    stands.1,
  ),
)

pub returns-in-Ok-clause-lived : goal.returns-in-Ok-clause-lived
returns-in-Ok-clause-lived g c = λ from start log lived tells. lived_flush _ _ _ start log lived _ (λ h stands. returns-in-Ok-clause-stands g c from h stands tells)

pub returns-in-Ok-clause-grown : goal.returns-in-Ok-clause-grown
returns-in-Ok-clause-grown g c = KeepsMore-one _ _ _ _ _ _ _ c.flush.ensures.events tt

pub returns-in-Err : goal.returns-in-Err
returns-in-Err g c = record {
  fault = refl;
  halt = refl;
  went = record { size = c.flush.ensures.size; later = c.flush.ensures.later; cause = c.flush.ensures.cause; again = c.flush.ensures.again; told = c.flush.ensures.told };
  grown = KeepsMore-one _ _ _ _ _ _ _ c.flush.ensures.events tt;
  table = refl;
  stands = tt;
  event = tt;
  untouched = λ same. absurd (halts _ (same ∙ c.in_default.is));
  lived = tt;
}

pub returns-in-Some : goal.returns-in-Some
returns-in-Some g c = record {
  fault = c.in-Some.is;
  halt = c.in-Some.is;
  went = DeviceGoesOn-none _ _ _ _ _;
  grown = KeepsMore-none _ _ _ _;
  table = refl;
  stands = tt;
  event = tt;
  untouched = λ same. refl;
  lived = tt;
}

pub returns-in-Ok-clause-untouched : goal.returns-in-Ok-clause-untouched
returns-in-Ok-clause-untouched g c = tt

pub returns-in-Ok-clause-fault : goal.returns-in-Ok-clause-fault
returns-in-Ok-clause-fault g c = tt

pub returns-in-Ok-clause-halt : goal.returns-in-Ok-clause-halt
returns-in-Ok-clause-halt g c = c.in_default.is

pub returns-in-Ok-clause-table : goal.returns-in-Ok-clause-table
returns-in-Ok-clause-table g c = refl

pub invariant_of-self : goal.invariant_of-self
invariant_of-self g c =
    let v = c.args.self.now in
    let size = c.flush.ensures.size in
    record {
      large = subst (λ (n : ℕ). 7 ≤ n) (sym size) v.large;
      fits = subst (λ (n : ℕ). n < 2 ^ 32) (sym size) v.fits;
      sized = v.sized ∙ ap extent_size (sym size);
      counted = v.counted ∙ ap extent_count (sym size);
      valid = subst (λ (n : ℕ). IsVolumeTable n (in_table v.table)) (sym size) v.valid;
      halted = c.in-Ok.ensures.halt ∙ sym c.in_default.is;
    }

pub invariant_of-self-in-Err : goal.invariant_of-self-in-Err
invariant_of-self-in-Err g c =
    let v = c.args.self.now in
    let size = c.flush.ensures.size in
    record {
      large = subst (λ (n : ℕ). 7 ≤ n) (sym size) v.large;
      fits = subst (λ (n : ℕ). n < 2 ^ 32) (sym size) v.fits;
      sized = v.sized ∙ ap extent_size (sym size);
      counted = v.counted ∙ ap extent_count (sym size);
      valid = subst (λ (n : ℕ). IsVolumeTable n (in_table v.table)) (sym size) v.valid;
      halted = c.in-Err.ensures.halt;
    }

pub returns-in-Ok-clause-went : goal.returns-in-Ok-clause-went
returns-in-Ok-clause-went g c = record { size = c.flush.ensures.size; later = c.flush.ensures.later; cause = c.flush.ensures.cause; again = c.flush.ensures.again; told = c.flush.ensures.told }

pub returns-in-Ok-clause-event : goal.returns-in-Ok-clause-event
returns-in-Ok-clause-event g c = λ first events kept. c.in-Ok.ensures.events first events kept
