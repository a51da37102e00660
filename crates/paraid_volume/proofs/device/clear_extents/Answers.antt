use Rattle.std.proofs.lemmas.Result.{err_from_is_err_and}
use Rattle.std.proofs.Common.{◌≡◌, ℕ, ◌-◌, ◌++◌, arith, subst}
use Rattle.std.proofs.lemmas.Nat.{mul-add-lt}
use Rattle.paraid_volume.specs.Device.{DeviceHolds, SinceHistory, Clears, InExtent}
use Rattle.paraid_volume.specs.TableBlocks.{in_table}
use Rattle.paraid_volume.specs.Tables.{owner_in}
use Rattle.paraid_volume.proofs.ClearLemmas.{cleared_more, cleared_none}
use Rattle.paraid_volume.proofs.DeviceLemmas.{DeviceGoesOn-none, DeviceGoesOn-then, KeepsMore-none, KeepsMore-then}
use Rattle.paraid_volume.specs.TableCalls.{AreZerosTo, KeepsThen, owned_blocks}
use Rattle.paraid_volume.proofs.CallLemmas.{KeepsThen-none, KeepsThen-then, zeros_extents}
use Rattle.paraid_volume.proofs.device.clear_extents.Goals as goal

pub loop-extent-init : goal.loop-extent-init
loop-extent-init g c = record {
  went = DeviceGoesOn-none _ _ _ _ _;
  grown = KeepsMore-none _ _ _ _;
  none = c.requires.none;
  clears = λ from h stands tells. cleared_none _ h _ (λ b is. let below = is.below in omega (arith, below)) stands;
  events = KeepsThen-none g.B.Blocks.kept _ _ tt;
}

pub clear_extent-requires-clause-fits : goal.clear_extent-requires-clause-fits
clear_extent-requires-clause-fits g c =
    let same = c.loop-extent.invariant.went.size in
    let size = c.requires.size in
    let fits = c.requires.fits in
    let inside = mul-add-lt c.loop-extent.extent c.args.size (c.args.size - 1) c.args.extents c.loop-extent-test.true (omega (arith, size)) in
    omega (arith, same, size, fits, inside)

pub clear_extent-requires-clause-small : goal.clear_extent-requires-clause-small
clear_extent-requires-clause-small g c = let same = c.loop-extent.invariant.went.size in let small = c.requires.small in omega (arith, same, small)

pub loop-extent-preserved : goal.loop-extent-preserved
loop-extent-preserved g c =
    let inv = c.loop-extent.invariant in
    record {
      went = DeviceGoesOn-then _ _ _ _ _ _ _ inv.went c.clear_extent.ensures.went;
      grown = KeepsMore-then _ _ _ _ _ _ c.clear_extent.ensures.went.told inv.grown c.clear_extent.ensures.grown;
      none = c.in_ok-clear_extent.ensures.halt;
      clears = λ from h stands tells.
          let first = inv.clears from h stands (c.clear_extent.ensures.went.told tells) in
          cleared_more _ _ h (owner_in (in_table c.args.table.now)) c.args.id c.args.size c.loop-extent.extent first (c.in_ok-clear_extent.ensures.clears from (h ++ first.more) first.stands tells);
      events = KeepsThen-then g.B.Blocks.kept _ _ _ _ _ _ (λ x y first second. zeros_extents (owner_in (in_table c.args.table.now)) c.args.id c.args.size c.loop-extent.extent x y first second) inv.events c.in_ok-clear_extent.ensures.events;
    }

pub returns : goal.returns
returns g c = record {
  went = c.loop-extent.invariant.went;
  grown = c.loop-extent.invariant.grown;
  halt = c.loop-extent.invariant.none;
  clears =
      let past = c.loop-extent-test.false in
      let until = c.loop-extent.auto.extent-end in
      let same : c.loop-extent.extent ≡ c.args.extents = omega (arith, past, until) in
      subst (λ (n : ℕ). (from : SinceHistory _) → Clears (DeviceHolds g.B.Blocks.stands g.B.Blocks.kept from) g.B.Blocks.tells c.args.device.now c.loop-extent.device (InExtent (owner_in (in_table c.args.table.now)) c.args.id c.args.size n)) same c.loop-extent.invariant.clears;
  events =
      let past = c.loop-extent-test.false in
      let until = c.loop-extent.auto.extent-end in
      let same : c.loop-extent.extent ≡ c.args.extents = omega (arith, past, until) in
      subst (λ (n : ℕ). KeepsThen g.B.Blocks.kept (AreZerosTo (owned_blocks (owner_in (in_table c.args.table.now)) c.args.id c.args.size n)) c.args.device.now c.loop-extent.device) same c.loop-extent.invariant.events;
}

pub returns-in_err-clear_extent : goal.returns-in_err-clear_extent
returns-in_err-clear_extent g c = record {
  went = DeviceGoesOn-then _ _ _ _ _ _ _ c.loop-extent.invariant.went c.clear_extent.ensures.went;
  grown = KeepsMore-then _ _ _ _ _ _ c.clear_extent.ensures.went.told c.loop-extent.invariant.grown c.clear_extent.ensures.grown;
  halt =
      let p = err_from_is_err_and c.from_residual.result c.from_residual.ensures.1 in
      rw (p.1, p.2) c.in_err-clear_extent.ensures.halt;
  clears =
      let p = err_from_is_err_and c.from_residual.result c.from_residual.ensures.1 in
      rw p.1 tt;
  events =
      let p = err_from_is_err_and c.from_residual.result c.from_residual.ensures.1 in
      rw p.1 tt;
}

pub clear_extent-requires-clause-none : goal.clear_extent-requires-clause-none
clear_extent-requires-clause-none g c = c.loop-extent.invariant.none

pub clear_extent-requires-clause-size : goal.clear_extent-requires-clause-size
clear_extent-requires-clause-size g c = c.requires.size

pub clear_extent-requires-clause-few : goal.clear_extent-requires-clause-few
clear_extent-requires-clause-few g c = let below = c.loop-extent-test.true in let few = c.requires.few in omega (arith, below, few)
