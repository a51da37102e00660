use Rattle.paraid_base.specs.declared.fault.Halt.{Halt}
use Rattle.std.proofs.Common.{arith, ◌<◌, ◌≤◌, ◌^◌, ap, subst, sym, refl, ◌≡◌, Option, Some, None, ◌∙◌, ◌≢◌, ℕ, ◌++◌, ◌∷◌, []}
use Rattle.paraid_volume.specs.TableBlocks.{in_table}
use Rattle.paraid_volume.specs.Tables.{IsVolumeTable, extent_count, extent_size}
use Rattle.paraid_base.specs.Pairs.{single_pair}
use Rattle.paraid_base.specs.History.{after_all}
use Rattle.paraid_base.proofs.HistoryLemmas.{after_all-written, after_all-other}
use Rattle.std.specs.Prelude.{IfErr}
use Rattle.std.proofs.lemmas.Result.{IfErr-weaker, err_from_is_err_and}
use Rattle.paraid_volume.specs.Faults.{IsPlaceFault}
use Rattle.paraid_volume.specs.Lives.{write}
use Rattle.paraid_volume.specs.Values.{device_of, halted_of, volume_table}
use Rattle.paraid_volume.proofs.ExtentLemmas.{same_place}
use Rattle.paraid_volume.proofs.ShowsLemmas.{same, shows_written}
use Rattle.paraid_volume.proofs.DeviceLemmas.{KeepsMore-one, holds_write, DeviceGoesOn-none, KeepsMore-none}
use Rattle.paraid_base.proofs.PairsLemmas.{pairs_of-one}
use Rattle.paraid_volume.proofs.OneCallLemmas.{lived_write, lived_refused}
use Rattle.paraid_volume.proofs.RefusalLemmas.{block_of, place_served, write_refused}
use Rattle.paraid_volume.proofs.volumes.Volumes.write.Goals as goal

-- a halt is no want of one
halts : (h : Halt) → ◌≡◌ {A = Option Halt} (Some h) None → ⊥
halts h e = cc

below_not : (n k : ℕ) → n < k → k ≤ n → ⊥
below_not n k below not = omega (arith, below, not)

pub invariant_of-self-in-Err-Halt : goal.invariant_of-self-in-Err-Halt
invariant_of-self-in-Err-Halt g c =
    let v = c.args.self.now in
    let size = c.write.ensures.size in
    record {
      large = subst (λ (n : ℕ). 7 ≤ n) (sym size) v.large;
      fits = subst (λ (n : ℕ). n < 2 ^ 32) (sym size) v.fits;
      sized = v.sized ∙ ap extent_size (sym size);
      counted = v.counted ∙ ap extent_count (sym size);
      valid = subst (λ (n : ℕ). IsVolumeTable n (in_table v.table)) (sym size) v.valid;
      halted = rw c.in-Err-Halt.field-0-is at c.in-Err-Halt.ensures.halt;
    }

pub returns-in-Ok-clause-adds : goal.returns-in-Ok-clause-adds
returns-in-Ok-clause-adds g c = λ from h s stands shows tells.
    let v = c.args.self.now in
    let id = c.args.id in
    let block = c.args.block in
    let bytes = c.args.bytes.now in
    let place = c.in_ok-place.place in
    let count = g.B.Blocks.block_count v.blocks in
    let at = same_place (volume_table v) (after_all h) stands.1 count id block place v.large c.in_ok-place.ensures.ok in
    let new = h ++ ((place, bytes) ∷ []) ∷ [] in
    let here = after_all-written h place bytes in
    let other = λ (k : ℕ) (not : place ≢ k). after_all-other h place k bytes not in record {
      entry = (place, bytes) ∷ [];
      stands = (
        holds_write g.B.Blocks.stands g.B.Blocks.kept from v.blocks c.write.new.self h (single_pair place bytes) ((place, bytes) ∷ []) c.in-Ok.field-0 (λ x. (c.in-Ok.ensures.history h x tells).1) (λ first events k. c.in-Ok.ensures.events first events k) (pairs_of-one place bytes) stands.0,
        λ k l. stands.1 k l ∙ same count (after_all h) (after_all new) id block place bytes v.large at here other k l,
      );
      shows = shows_written count (after_all h) (after_all new) id block place bytes v.large at here other s shows;
    }

pub returns-in-Ok-clause-served : goal.returns-in-Ok-clause-served
returns-in-Ok-clause-served g c = place_served _ _ _ _ _ c.args.self.now.large c.in_ok-place.ensures.ok

pub returns-in-Ok-clause-grown : goal.returns-in-Ok-clause-grown
returns-in-Ok-clause-grown g c = KeepsMore-one _ _ _ _ _ _ _ c.write.ensures.events tt

pub returns-in-Err-Halt : goal.returns-in-Err-Halt
returns-in-Err-Halt g c = record {
  fault = refl;
  served = tt;
  halt = refl;
  went = record { size = c.write.ensures.size; later = c.write.ensures.later; cause = c.write.ensures.cause; again = c.write.ensures.again; told = c.write.ensures.told };
  grown = KeepsMore-one _ _ _ _ _ _ _ c.write.ensures.events tt;
  table = refl;
  adds = tt;
  stands = λ none. absurd (halts _ none);
  event = tt;
  untouched = λ same. absurd (halts _ (same ∙ sym {a = None} c.in_ok-place.ensures.halt));
  lived = tt;
  lived_refused = λ none. absurd (halts _ none);
}

pub returns-in-Ok-clause-lived : goal.returns-in-Ok-clause-lived
returns-in-Ok-clause-lived g c = λ from start log lived tells.
    let v = c.args.self.now in
    lived_write _ _ _ start log lived c.args.id c.args.block c.args.bytes.now
    (λ h s stands shows. block_of _ (volume_table v) (after_all h) s stands.1 shows v.large c.args.id c.args.block (returns-in-Ok-clause-served g c))
    (λ h s stands shows. returns-in-Ok-clause-adds g c from h s stands shows tells)

pub returns-in_err-place : goal.returns-in_err-place
returns-in_err-place g c = record {
  fault = let p = err_from_is_err_and c.from_residual.result c.from_residual.ensures.1 in
      rw (p.1, p.2) c.in_err-place.ensures.fault;
  served = let p = err_from_is_err_and c.from_residual.result c.from_residual.ensures.1 in
      rw p.1 tt;
  halt = let p = err_from_is_err_and c.from_residual.result c.from_residual.ensures.1 in
      rw (p.1, p.2) (sym c.in_err-place.ensures.halt);
  went = DeviceGoesOn-none _ _ _ _ _;
  grown = KeepsMore-none _ _ _ _;
  table = refl;
  adds = let p = err_from_is_err_and c.from_residual.result c.from_residual.ensures.1 in
      rw p.1 tt;
  stands = let p = err_from_is_err_and c.from_residual.result c.from_residual.ensures.1 in
      rw p.1 (λ none from h stands tells. stands);
  event = let p = err_from_is_err_and c.from_residual.result c.from_residual.ensures.1 in
      rw p.1 tt;
  untouched = let p = err_from_is_err_and c.from_residual.result c.from_residual.ensures.1 in
      rw p.1 (λ same. refl);
  lived = let p = err_from_is_err_and c.from_residual.result c.from_residual.ensures.1 in
      rw p.1 tt;
  lived_refused = let v = c.args.self.now in
      let count = g.B.Blocks.block_count (device_of v) in
      let p = err_from_is_err_and c.from_residual.result c.from_residual.ensures.1 in
      let due : IfErr c.from_residual.result (IsPlaceFault count (volume_table v) (halted_of v) c.args.id c.args.block) = rw (p.1, p.2) c.in_err-place.ensures.fault in
      IfErr-weaker c.from_residual.result _ _
      (λ fault is none from start log lived tells. lived_refused _ _ _ start log lived (write c.args.id c.args.block c.args.bytes.now) fault (λ h stands. stands)
      (λ h s stands shows. write_refused count (volume_table v) (after_all h) s stands.1 shows v.large (halted_of v) none c.args.id c.args.block c.args.bytes.now fault is)) due;
}

pub returns-in-Ok-clause-fault : goal.returns-in-Ok-clause-fault
returns-in-Ok-clause-fault g c = tt

pub returns-in-Ok-clause-halt : goal.returns-in-Ok-clause-halt
returns-in-Ok-clause-halt g c = sym c.in_ok-place.ensures.halt

pub returns-in-Ok-clause-table : goal.returns-in-Ok-clause-table
returns-in-Ok-clause-table g c = refl

pub returns-in-Ok-clause-stands : goal.returns-in-Ok-clause-stands
returns-in-Ok-clause-stands g c = tt

pub returns-in-Ok-clause-untouched : goal.returns-in-Ok-clause-untouched
returns-in-Ok-clause-untouched g c = tt

pub returns-in-Ok-clause-lived_refused : goal.returns-in-Ok-clause-lived_refused
returns-in-Ok-clause-lived_refused g c = tt

pub invariant_of-self : goal.invariant_of-self
invariant_of-self g c =
    let v = c.args.self.now in
    let size = c.write.ensures.size in
    record {
      large = subst (λ (n : ℕ). 7 ≤ n) (sym size) v.large;
      fits = subst (λ (n : ℕ). n < 2 ^ 32) (sym size) v.fits;
      sized = v.sized ∙ ap extent_size (sym size);
      counted = v.counted ∙ ap extent_count (sym size);
      valid = subst (λ (n : ℕ). IsVolumeTable n (in_table v.table)) (sym size) v.valid;
      halted = c.in-Ok.ensures.halt ∙ c.in_ok-place.ensures.halt;
    }

pub returns-in-Ok-clause-went : goal.returns-in-Ok-clause-went
returns-in-Ok-clause-went g c = record { size = c.write.ensures.size; later = c.write.ensures.later; cause = c.write.ensures.cause; again = c.write.ensures.again; told = c.write.ensures.told }

pub returns-in-Ok-clause-event : goal.returns-in-Ok-clause-event
returns-in-Ok-clause-event g c = λ first events kept. record { place = c.in_ok-place.place; is = c.in_ok-place.ensures.ok; number = c.in-Ok.field-0; kept = c.in-Ok.ensures.events first events kept }

pub unreachable-requires : goal.unreachable-requires
unreachable-requires g c = let m = rw c.in-Err-NoBlock.field-0-is at c.in-Err-NoBlock.ensures.missing in below_not _ _ c.in_ok-place.ensures.below m.1

pub unreachable-unreachable : goal.unreachable-unreachable
unreachable-unreachable g c = let m = rw c.in-Err-NoBlock.field-0-is at c.in-Err-NoBlock.ensures.missing in below_not _ _ c.in_ok-place.ensures.below m.1
