use Rattle.paraid_base.specs.declared.fault.Halt.{Halt}
use Rattle.paraid_volume.proofs.DeviceLemmas.{DeviceGoesOn-none, KeepsMore-none}
use Rattle.std.proofs.Common.{ℕ, ◌<◌, ◌≤◌, ◌^◌, ◌∙◌, ◌++◌, ◌∷◌, [], sym, ap, subst, ◌≡◌, Option, Some, refl, None}
use Rattle.paraid_base.specs.History.{after_all}
use Rattle.paraid_base.specs.Pairs.{pairs_of}
use Rattle.paraid_volume.specs.Laid.{IsWithout}
use Rattle.paraid_volume.specs.TableBlocks.{in_table}
use Rattle.paraid_volume.specs.Tables.{IsVolumeTable, extent_count, extent_size}
use Rattle.paraid_volume.specs.Values.{device_of}
use Rattle.paraid_volume.proofs.ChangeLemmas.{shows_without, without_moved, without_table}
use Rattle.paraid_volume.proofs.ExtentLemmas.{same_live, extents_few}
use Rattle.paraid_volume.proofs.LaidLemmas.{laid_rest, laid_table}
use Rattle.std.proofs.lemmas.Bool.{false≢true}
use Rattle.paraid_volume.specs.declared.fault.VolFault.TheVariants.{NoVolume}
use Rattle.paraid_volume.specs.Lives.{delete}
use Rattle.paraid_volume.proofs.OneCallLemmas.{lived_delete, lived_refused}
use Rattle.paraid_volume.proofs.RefusalLemmas.{live_named, delete_refused}
use Rattle.paraid_volume.proofs.CallLemmas.{KeepsThen-weaker}
use Rattle.paraid_volume.proofs.volumes.Volumes.delete.Goals as goal

-- a halt is no want of one
halts : (h : Halt) → ◌≡◌ {A = Option Halt} (Some h) None → ⊥
halts h e = cc

pub invariant_of-self-in-Ok : goal.invariant_of-self-in-Ok
invariant_of-self-in-Ok g c =
    let v = c.args.self.now in
    let count = g.B.Blocks.block_count (device_of v) in
    let size = c.write_table.ensures.went.size in
    let live = c.is_live.ensures.0 c.if-not-is_live.false in
    let without = subst (λ (n : ℕ). IsWithout c.args.id n (in_table v.table) (in_table c.without-next.result)) v.counted c.without-next.ensures in
    record {
      large = subst (λ (n : ℕ). 7 ≤ n) (sym size) v.large;
      fits = subst (λ (n : ℕ). n < 2 ^ 32) (sym size) v.fits;
      sized = v.sized ∙ ap extent_size (sym size);
      counted = v.counted ∙ ap extent_count (sym size);
      valid = subst (λ (n : ℕ). IsVolumeTable n (in_table c.without-next.result)) (sym size) (without_table count c.args.id (in_table v.table) (in_table c.without-next.result) v.large v.valid live without);
      halted = c.in-Ok.ensures.halt ∙ sym c.in_default.is;
    }

pub invariant_of-self-in-Err : goal.invariant_of-self-in-Err
invariant_of-self-in-Err g c =
    let v = c.args.self.now in
    let size = c.write_table.ensures.went.size in
    record {
      large = subst (λ (n : ℕ). 7 ≤ n) (sym size) v.large;
      fits = subst (λ (n : ℕ). n < 2 ^ 32) (sym size) v.fits;
      sized = v.sized ∙ ap extent_size (sym size);
      counted = v.counted ∙ ap extent_count (sym size);
      valid = subst (λ (n : ℕ). IsVolumeTable n (in_table v.table)) (sym size) v.valid;
      halted = c.in-Err.ensures.halt;
    }

pub write_table-requires : goal.write_table-requires
write_table-requires g c = record {
  below = c.changes.ensures.laid.below;
  size = c.args.self.now.large;
}

pub returns-in-Ok-clause-adds : goal.returns-in-Ok-clause-adds
returns-in-Ok-clause-adds g c = λ from h s stands shows tells.
    let v = c.args.self.now in
    let count = g.B.Blocks.block_count (device_of v) in
    let old = in_table v.table in
    let next = in_table c.without-next.result in
    let live = c.is_live.ensures.0 c.if-not-is_live.false in
    let without = subst (λ (n : ℕ). IsWithout c.args.id n old next) v.counted c.without-next.ensures in
    let entry = pairs_of c.changes.result in
    let new = h ++ entry ∷ [] in
    let same = laid_table h entry old next c.changes.ensures.laid stands.1 in
    record {
      entry = entry;
      stands = (c.in-Ok.ensures.adds from h stands.0 tells, same);
      shows = shows_without count c.args.id (after_all h) (after_all new) v.large shows.table (same_live old (after_all h) stands.1 c.args.id live)
          (without_moved c.args.id (extent_count count) old next (after_all h) (after_all new) stands.1 same without)
          (laid_rest h entry old next c.changes.ensures.laid) s shows;
    }

pub returns-in-Ok-clause-lived : goal.returns-in-Ok-clause-lived
returns-in-Ok-clause-lived g c = λ from start log lived tells.
    let live = c.is_live.ensures.0 c.if-not-is_live.false in
    lived_delete _ _ _ start log lived c.args.id
    (λ h s stands shows. live_named _ (in_table c.args.self.now.table) (after_all h) s stands.1 shows c.args.id live)
    (λ h s stands shows. returns-in-Ok-clause-adds g c from h s stands shows tells)

pub returns-then-not-is_live : goal.returns-then-not-is_live
returns-then-not-is_live g c = record {
  fault = (refl, λ live. false≢true (sym c.if-not-is_live.true ∙ c.is_live.ensures.1 live));
  served = tt;
  halt = c.in_default.is;
  went = DeviceGoesOn-none _ _ _ _ _;
  grown = KeepsMore-none _ _ _ _;
  refused = refl;
  adds = tt;
  stands = λ none from h stands tells. stands;
  untouched = λ same. refl;
  lived = tt;
  lived_refused = λ none from start log lived tells.
      lived_refused _ _ _ start log lived (delete c.args.id) (NoVolume c.args.id) (λ h stands. stands)
      (λ h s stands shows. delete_refused _ (in_table c.args.self.now.table) (after_all h) s stands.1 shows None refl c.args.id (NoVolume c.args.id)
      (refl, λ live. false≢true (sym c.if-not-is_live.true ∙ c.is_live.ensures.1 live)));
  next = tt;
  event = tt;
}

pub returns-in-Some : goal.returns-in-Some
returns-in-Some g c = record {
  fault = c.in-Some.is;
  served = tt;
  halt = c.in-Some.is;
  went = DeviceGoesOn-none _ _ _ _ _;
  grown = KeepsMore-none _ _ _ _;
  refused = refl;
  adds = tt;
  stands = λ none from h stands tells. stands;
  untouched = λ same. refl;
  lived = tt;
  lived_refused = λ none. absurd (halts _ (sym c.in-Some.is ∙ none));
  next = tt;
  event = tt;
}

pub returns-in-Err : goal.returns-in-Err
returns-in-Err g c = record {
  fault = refl;
  served = tt;
  halt = refl;
  went = c.write_table.ensures.went;
  grown = c.write_table.ensures.grown;
  refused = refl;
  adds = tt;
  stands = λ none. absurd (halts _ none);
  untouched = λ same. absurd (halts _ (same ∙ c.in_default.is));
  lived = tt;
  lived_refused = λ none. absurd (halts _ none);
  next = tt;
  event = tt;
}

pub returns-in-Ok-clause-next : goal.returns-in-Ok-clause-next
returns-in-Ok-clause-next g c = subst (λ (n : ℕ). IsWithout c.args.id n (in_table c.args.self.now.table) (in_table c.without-next.result)) c.args.self.now.counted c.without-next.ensures

pub returns-in-Ok-clause-event : goal.returns-in-Ok-clause-event
returns-in-Ok-clause-event g c =
    KeepsThen-weaker g.B.Blocks.kept _ _ _ _ (λ x write. record { pairs = c.changes.result; number = write.0; all = c.changes.ensures.exact; is = write.1 }) c.in-Ok.ensures.event

pub returns-in-Ok-clause-halt : goal.returns-in-Ok-clause-halt
returns-in-Ok-clause-halt g c = c.in_default.is

pub returns-in-Ok-clause-fault : goal.returns-in-Ok-clause-fault
returns-in-Ok-clause-fault g c = tt

pub returns-in-Ok-clause-refused : goal.returns-in-Ok-clause-refused
returns-in-Ok-clause-refused g c = tt

pub returns-in-Ok-clause-stands : goal.returns-in-Ok-clause-stands
returns-in-Ok-clause-stands g c = tt

pub returns-in-Ok-clause-untouched : goal.returns-in-Ok-clause-untouched
returns-in-Ok-clause-untouched g c = tt

pub returns-in-Ok-clause-lived_refused : goal.returns-in-Ok-clause-lived_refused
returns-in-Ok-clause-lived_refused g c = tt

pub returns-in-Ok-clause-served : goal.returns-in-Ok-clause-served
returns-in-Ok-clause-served g c = c.is_live.ensures.0 c.if-not-is_live.false

pub returns-in-Ok-clause-went : goal.returns-in-Ok-clause-went
returns-in-Ok-clause-went g c = c.write_table.ensures.went

pub returns-in-Ok-clause-grown : goal.returns-in-Ok-clause-grown
returns-in-Ok-clause-grown g c = c.write_table.ensures.grown

pub without-next-requires : goal.without-next-requires
without-next-requires g c =
    let live = c.is_live.ensures.0 c.if-not-is_live.false in
    record {
      id = (live.low, live.high);
      few = subst (λ (n : ℕ). n ≤ 2048) (sym c.args.self.now.counted) (extents_few _ c.args.self.now.large);
    }
