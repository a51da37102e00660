use Rattle.paraid_base.specs.declared.fault.Halt.{Halt}
use Rattle.std.proofs.Common.{arith, ◌≡◌, ◌<◌, ◌≤◌, ◌^◌, None, ap, subst, Option, Some, ◌∙◌, sym, ℕ, refl}
use Rattle.paraid_volume.specs.TableBlocks.{in_table}
use Rattle.paraid_volume.specs.Tables.{IsVolumeTable, extent_count, extent_size}
use Rattle.paraid_base.specs.declared.event.Event.TheVariants.{Read}
use Rattle.paraid_base.specs.declared.event.Answer.TheVariants.{Value}
use Rattle.paraid_base.specs.History.{after_all}
use Rattle.std.specs.Prelude.{IfErr}
use Rattle.std.proofs.lemmas.Result.{IfErr-weaker, err_from_is_err_and}
use Rattle.paraid_volume.specs.Faults.{IsPlaceFault}
use Rattle.paraid_volume.specs.Lives.{read}
use Rattle.paraid_volume.specs.Values.{device_of, halted_of, volume_table}
use Rattle.paraid_volume.proofs.ExtentLemmas.{same_place}
use Rattle.paraid_volume.proofs.DeviceLemmas.{KeepsMore-one, holds_same, holds_stands, DeviceGoesOn-none, KeepsMore-none}
use Rattle.paraid_volume.proofs.OneCallLemmas.{lived_read, lived_refused}
use Rattle.paraid_volume.proofs.RefusalLemmas.{block_of, place_served, read_refused}
use Rattle.paraid_volume.proofs.volumes.Volumes.read.Goals as goal

-- a halt is no want of one
halts : (h : Halt) → ◌≡◌ {A = Option Halt} (Some h) None → ⊥
halts h e = cc

below_not : (n k : ℕ) → n < k → k ≤ n → ⊥
below_not n k below not = omega (arith, below, not)

pub invariant_of-self-in-Err-Halt : goal.invariant_of-self-in-Err-Halt
invariant_of-self-in-Err-Halt g c =
    let v = c.args.self.now in
    let size = c.read.ensures.size in
    record {
      large = subst (λ (n : ℕ). 7 ≤ n) (sym size) v.large;
      fits = subst (λ (n : ℕ). n < 2 ^ 32) (sym size) v.fits;
      sized = v.sized ∙ ap extent_size (sym size);
      counted = v.counted ∙ ap extent_count (sym size);
      valid = subst (λ (n : ℕ). IsVolumeTable n (in_table v.table)) (sym size) v.valid;
      halted = rw c.in-Err-Halt.field-0-is at c.in-Err-Halt.ensures.halt;
    }

pub returns-in-Ok-clause-value : goal.returns-in-Ok-clause-value
returns-in-Ok-clause-value g c = λ h s stands shows tells.
    let v = c.args.self.now in
    c.in-Ok.ensures.value h stands.0 tells
    ∙ sym (shows.block c.args.id c.args.block c.in_ok-place.place (same_place (volume_table v) (after_all h) stands.1 _ c.args.id c.args.block c.in_ok-place.place v.large c.in_ok-place.ensures.ok))

pub returns-in-Ok-clause-served : goal.returns-in-Ok-clause-served
returns-in-Ok-clause-served g c = place_served _ _ _ _ _ c.args.self.now.large c.in_ok-place.ensures.ok

pub returns-in-Ok-clause-grown : goal.returns-in-Ok-clause-grown
returns-in-Ok-clause-grown g c = KeepsMore-one _ _ _ _ _ _ _ c.read.ensures.events tt

pub returns-in-Err-Halt : goal.returns-in-Err-Halt
returns-in-Err-Halt g c = record {
  fault = refl;
  served = tt;
  halt = refl;
  went = record { size = c.read.ensures.size; later = c.read.ensures.later; cause = c.read.ensures.cause; again = c.read.ensures.again; told = c.read.ensures.told };
  grown = KeepsMore-one _ _ _ _ _ _ _ c.read.ensures.events tt;
  table = refl;
  stands = λ none. absurd (halts _ none);
  value = tt;
  event = tt;
  untouched = λ same. absurd (halts _ (same ∙ sym {a = None} c.in_ok-place.ensures.halt));
  lived = tt;
  lived_refused = λ none. absurd (halts _ none);
}

pub returns-in-Ok-clause-stands : goal.returns-in-Ok-clause-stands
returns-in-Ok-clause-stands g c = λ none from h stands tells.
    (holds_same g.B.Blocks.stands g.B.Blocks.kept from (device_of c.args.self.now) c.read.new.self h (Read c.in_ok-place.place) (Value c.in_ok-place.place c.read.new.into) (λ s. c.in-Ok.ensures.history h s tells) (λ first events k. c.in-Ok.ensures.events first events k) refl stands.0, stands.1)

pub returns-in-Ok-clause-lived : goal.returns-in-Ok-clause-lived
returns-in-Ok-clause-lived g c = λ from start log lived tells.
    let v = c.args.self.now in
    let none : v.halt ≡ None = sym {a = None} c.in_ok-place.ensures.halt in
    lived_read _ _ _ start log lived c.args.id c.args.block c.read.new.into
    (λ h s stands shows. block_of _ (volume_table v) (after_all h) s stands.1 shows v.large c.args.id c.args.block (returns-in-Ok-clause-served g c))
    (λ h stands. returns-in-Ok-clause-stands g c none from h stands tells)
    (λ h s stands shows. returns-in-Ok-clause-value g c h s (holds_stands g.B.Blocks.stands g.B.Blocks.kept from (device_of c.args.self.now) h stands.0, stands.1) shows tells)

pub returns-in_err-place : goal.returns-in_err-place
returns-in_err-place g c = record {
  fault = let p = err_from_is_err_and c.from_residual.result c.from_residual.ensures.1 in
      rw (p.1, p.2) c.in_err-place.ensures.fault;
  served = let p = err_from_is_err_and c.from_residual.result c.from_residual.ensures.1 in
      rw p.1 tt;
  halt = let p = err_from_is_err_and c.from_residual.result c.from_residual.ensures.1 in
      rw (p.1, p.2) (sym c.in_err-place.ensures.halt);
  went = DeviceGoesOn-none _ _ _ _ _;
  grown = KeepsMore-none _ _ _ _;
  table = refl;
  stands = λ none from h stands tells. stands;
  value = let p = err_from_is_err_and c.from_residual.result c.from_residual.ensures.1 in
      rw p.1 tt;
  event = let p = err_from_is_err_and c.from_residual.result c.from_residual.ensures.1 in
      rw p.1 tt;
  untouched = let p = err_from_is_err_and c.from_residual.result c.from_residual.ensures.1 in
      rw p.1 (λ same. (refl, refl));
  lived = let p = err_from_is_err_and c.from_residual.result c.from_residual.ensures.1 in
      rw p.1 tt;
  lived_refused = let v = c.args.self.now in
      let count = g.B.Blocks.block_count (device_of v) in
      let p = err_from_is_err_and c.from_residual.result c.from_residual.ensures.1 in
      let due : IfErr c.from_residual.result (IsPlaceFault count (volume_table v) (halted_of v) c.args.id c.args.block) = rw (p.1, p.2) c.in_err-place.ensures.fault in
      IfErr-weaker c.from_residual.result _ _
      (λ fault is none from start log lived tells. lived_refused _ _ _ start log lived (read c.args.id c.args.block) fault (λ h stands. stands)
      (λ h s stands shows. read_refused count (volume_table v) (after_all h) s stands.1 shows v.large (halted_of v) none c.args.id c.args.block fault is)) due;
}

pub returns-in-Ok-clause-fault : goal.returns-in-Ok-clause-fault
returns-in-Ok-clause-fault g c = tt

pub returns-in-Ok-clause-halt : goal.returns-in-Ok-clause-halt
returns-in-Ok-clause-halt g c = sym c.in_ok-place.ensures.halt

pub returns-in-Ok-clause-table : goal.returns-in-Ok-clause-table
returns-in-Ok-clause-table g c = refl

pub returns-in-Ok-clause-untouched : goal.returns-in-Ok-clause-untouched
returns-in-Ok-clause-untouched g c = tt

pub returns-in-Ok-clause-lived_refused : goal.returns-in-Ok-clause-lived_refused
returns-in-Ok-clause-lived_refused g c = tt

pub invariant_of-self : goal.invariant_of-self
invariant_of-self g c =
    let v = c.args.self.now in
    let size = c.read.ensures.size in
    record {
      large = subst (λ (n : ℕ). 7 ≤ n) (sym size) v.large;
      fits = subst (λ (n : ℕ). n < 2 ^ 32) (sym size) v.fits;
      sized = v.sized ∙ ap extent_size (sym size);
      counted = v.counted ∙ ap extent_count (sym size);
      valid = subst (λ (n : ℕ). IsVolumeTable n (in_table v.table)) (sym size) v.valid;
      halted = c.in-Ok.ensures.halt ∙ c.in_ok-place.ensures.halt;
    }

pub returns-in-Ok-clause-went : goal.returns-in-Ok-clause-went
returns-in-Ok-clause-went g c = record { size = c.read.ensures.size; later = c.read.ensures.later; cause = c.read.ensures.cause; again = c.read.ensures.again; told = c.read.ensures.told }

pub returns-in-Ok-clause-event : goal.returns-in-Ok-clause-event
returns-in-Ok-clause-event g c = λ first events kept. record { place = c.in_ok-place.place; is = c.in_ok-place.ensures.ok; kept = c.in-Ok.ensures.events first events kept }

pub unreachable-requires : goal.unreachable-requires
unreachable-requires g c = let m = rw c.in-Err-NoBlock.field-0-is at c.in-Err-NoBlock.ensures.missing in below_not _ _ c.in_ok-place.ensures.below m.1

pub unreachable-unreachable : goal.unreachable-unreachable
unreachable-unreachable g c = let m = rw c.in-Err-NoBlock.field-0-is at c.in-Err-NoBlock.ensures.missing in below_not _ _ c.in_ok-place.ensures.below m.1
