use Rattle.std.proofs.lemmas.Result.{err_from_is_err_and}
use Rattle.std.proofs.Common.{◌≡◌, ℕ, ◌+◌, ◌++◌, arith, inl, inr, subst, ◌-◌}
use Rattle.std.proofs.lemmas.Bool.{cases_lt}
use Rattle.paraid_volume.specs.Device.{DeviceHolds, SinceHistory, Between, Clears}
use Rattle.paraid_volume.proofs.ClearLemmas.{between, cleared_none, cleared_then}
use Rattle.paraid_volume.proofs.DeviceLemmas.{DeviceGoesOn-none, DeviceGoesOn-then, KeepsMore-none, KeepsMore-then}
use Rattle.std.specs.List.{range_with_len}
use Rattle.paraid_volume.specs.TableCalls.{AreZerosTo, KeepsThen}
use Rattle.paraid_volume.proofs.CallLemmas.{KeepsThen-none, KeepsThen-then, zeros_more, zeros_none}
use Rattle.paraid_volume.proofs.device.clear_blocks.Goals as goal

pub loop-at-init : goal.loop-at-init
loop-at-init g c = record {
  went = DeviceGoesOn-none _ _ _ _ _;
  grown = KeepsMore-none _ _ _ _;
  none = λ l. let no : ⊥ = omega (arith, l) in absurd no;
  clears = λ from h stands tells. cleared_none _ h (Between c.args.start c.args.start) (λ b is. let low = is.0 in let high = is.1 in omega (arith, low, high)) stands;
  events = KeepsThen-none g.B.Blocks.kept _ _ (zeros_none c.args.start);
}

pub clear_block-requires : goal.clear_block-requires
clear_block-requires g c =
    let size = c.loop-at.invariant.went.size in let end = c.requires.end in let test = c.loop-at-test.true in omega (arith, size, end, test)

pub loop-at-preserved : goal.loop-at-preserved
loop-at-preserved g c =
    let inv = c.loop-at.invariant in
    let at = c.loop-at.at in
    let start = c.args.start in
    let order = c.loop-at.auto.at in
    record {
      went = DeviceGoesOn-then _ _ _ _ _ _ _ inv.went c.clear_block.ensures.went;
      grown = KeepsMore-then _ _ _ _ _ _ c.clear_block.ensures.went.told inv.grown c.clear_block.ensures.grown;
      none = λ l. c.in_ok-clear_block.ensures.halt;
      clears = λ from h stands tells.
          let first = inv.clears from h stands (c.clear_block.ensures.went.told tells) in
          let second = c.in_ok-clear_block.ensures.clears from (h ++ first.more) first.stands tells in
          cleared_then _ _ h (Between start at) (Between at (at + 1)) (Between start (at + 1)) first second (between at (at + 1))
          (λ b is. let low = is.0 in let high = is.1 in elim (cases_lt b at) [ inl l ↦ inl (low, l) | inr l ↦ inr (l, high) ])
          (λ b is. let high = is.1 in (is.0, omega (arith, high)))
          (λ b is. let low = is.0 in (omega (arith, low, order), is.1));
      events = KeepsThen-then g.B.Blocks.kept _ _ _ _ _ _ (zeros_more start at order) inv.events c.in_ok-clear_block.ensures.event;
    }

pub returns : goal.returns
returns g c = record {
  went = c.loop-at.invariant.went;
  grown = c.loop-at.invariant.grown;
  halt = let past = c.loop-at-test.false in let order = c.requires.order in c.loop-at.invariant.none (omega (arith, past, order));
  clears =
      let past = c.loop-at-test.false in
      let order = c.requires.order in
      let until = c.loop-at.auto.at-end (omega (arith, order)) in
      let same : c.loop-at.at ≡ c.args.end = omega (arith, past, until) in
      subst (λ (n : ℕ). (from : SinceHistory _) → Clears (DeviceHolds g.B.Blocks.stands g.B.Blocks.kept from) g.B.Blocks.tells c.args.device.now c.loop-at.device (Between c.args.start n)) same c.loop-at.invariant.clears;
  events =
      let past = c.loop-at-test.false in
      let order = c.requires.order in
      let until = c.loop-at.auto.at-end (omega (arith, order)) in
      let same : c.loop-at.at ≡ c.args.end = omega (arith, past, until) in
      subst (λ (n : ℕ). KeepsThen g.B.Blocks.kept (AreZerosTo (range_with_len c.args.start (n - c.args.start))) c.args.device.now c.loop-at.device) same c.loop-at.invariant.events;
}

pub returns-in_err-clear_block : goal.returns-in_err-clear_block
returns-in_err-clear_block g c = record {
  went = DeviceGoesOn-then _ _ _ _ _ _ _ c.loop-at.invariant.went c.clear_block.ensures.went;
  grown = KeepsMore-then _ _ _ _ _ _ c.clear_block.ensures.went.told c.loop-at.invariant.grown c.clear_block.ensures.grown;
  halt =
      let p = err_from_is_err_and c.from_residual.result c.from_residual.ensures.1 in
      rw (p.1, p.2) c.in_err-clear_block.ensures.halt;
  clears =
      let p = err_from_is_err_and c.from_residual.result c.from_residual.ensures.1 in
      rw p.1 tt;
  events =
      let p = err_from_is_err_and c.from_residual.result c.from_residual.ensures.1 in
      rw p.1 tt;
}
