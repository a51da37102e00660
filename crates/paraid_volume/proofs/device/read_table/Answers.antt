use Rattle.std.proofs.lemmas.Result.{err_from_is_err_and}
use Rattle.std.proofs.Common.{None, ◌≡◌, ℕ, ◌∙◌, arith, ◌++◌, sym, subst}
use Rattle.paraid_base.specs.History.{after_all}
use Rattle.paraid_volume.specs.TableBlocks.{in_table}
use Rattle.paraid_volume.proofs.DeviceLemmas.{DeviceGoesOn-none, DeviceGoesOn-then, KeepsMore-none, KeepsMore-then}
use Rattle.paraid_volume.proofs.Steps.{below_more}
use Rattle.std.proofs.lemmas.List.{append-nil}
use Rattle.paraid_volume.specs.TableCalls.{table_reads}
use Rattle.paraid_volume.proofs.CallLemmas.{reads_halted, reads_more}
use Rattle.paraid_volume.proofs.device.read_table.Goals as goal

pub loop-at-init : goal.loop-at-init
loop-at-init g c = record {
  went = DeviceGoesOn-none _ _ _ _ _;
  grown = KeepsMore-none _ _ _ _;
  none = λ l. let no : ⊥ = omega (arith, l) in absurd no;
  keeps = λ from h stands tells. stands;
  read = λ h stands tells k l. let no : ⊥ = omega (arith, l) in absurd no;
  reads = λ first events k. subst (g.B.Blocks.kept first c.args.device.now) (sym (append-nil events)) k;
}

pub read_block-requires-clause-size : goal.read_block-requires-clause-size
read_block-requires-clause-size g c = let size = c.loop-at.invariant.went.size in let large = c.requires in omega (arith, size, large)

pub loop-at-preserved : goal.loop-at-preserved
loop-at-preserved g c =
    let before = c.loop-at.invariant in
    let done = c.in_ok-read_block.ensures in record {
      went = DeviceGoesOn-then _ _ _ _ _ _ _ before.went c.read_block.ensures.went;
      grown = KeepsMore-then _ _ _ _ _ _ c.read_block.ensures.went.told before.grown c.read_block.ensures.grown;
      none = λ l. done.halt;
      keeps = λ from h stands tells. done.keeps from h (before.keeps from h stands (c.read_block.ensures.went.told tells)) tells;
      read = λ h stands tells.
          let was = c.read_block.ensures.went.told tells in
          below_more (λ (k : ℕ). in_table c.read_block.new.table k ≡ after_all h k) c.loop-at.at
          (λ k l. c.read_block.ensures.rest k (λ same. let no : ⊥ = omega (arith, l, same) in absurd no) ∙ before.read h stands was k l)
          (done.read h (before.keeps None h stands was) tells);
      reads = reads_more g.B.Blocks.kept (in_table c.loop-at.table) (in_table c.read_block.new.table) c.loop-at.at c.args.device.now c.loop-at.device c.read_block.new.device
          (λ k l. c.read_block.ensures.rest k (λ same. let no : ⊥ = omega (arith, l, same) in absurd no)) before.reads done.event;
    }

pub returns : goal.returns
returns g c = record {
  went = c.loop-at.invariant.went;
  grown = c.loop-at.invariant.grown;
  halt = let past = c.loop-at-test.false in c.loop-at.invariant.none (omega (arith, past));
  keeps = c.loop-at.invariant.keeps;
  read = λ h stands tells k l. let past = c.loop-at-test.false in c.loop-at.invariant.read h stands tells k (omega (arith, past, l));
  reads =
      let past = c.loop-at-test.false in
      let until = c.loop-at.auto.at-end in
      let six : c.loop-at.at ≡ 6 = omega (arith, past, until) in
      λ first events k. subst (λ (n : ℕ). g.B.Blocks.kept first c.loop-at.device (events ++ table_reads (in_table c.loop-at.table) n)) six (c.loop-at.invariant.reads first events k);
  halted = tt;
}

pub returns-in_err-read_block : goal.returns-in_err-read_block
returns-in_err-read_block g c = record {
  went = DeviceGoesOn-then _ _ _ _ _ _ _ c.loop-at.invariant.went c.read_block.ensures.went;
  grown = KeepsMore-then _ _ _ _ _ _ c.read_block.ensures.went.told c.loop-at.invariant.grown c.read_block.ensures.grown;
  halt =
      let p = err_from_is_err_and c.from_residual.result c.from_residual.ensures.1 in
      rw (p.1, p.2) c.in_err-read_block.ensures.halt;
  keeps =
      let p = err_from_is_err_and c.from_residual.result c.from_residual.ensures.1 in
      rw p.1 tt;
  read =
      let p = err_from_is_err_and c.from_residual.result c.from_residual.ensures.1 in
      rw p.1 tt;
  reads =
      let p = err_from_is_err_and c.from_residual.result c.from_residual.ensures.1 in
      rw p.1 tt;
  halted =
      let p = err_from_is_err_and c.from_residual.result c.from_residual.ensures.1 in
      rw (p.1, p.2) (reads_halted g.B.Blocks.kept (in_table c.loop-at.table) c.loop-at.at _ c.args.device.now c.loop-at.device c.read_block.new.device c.loop-at-test.true c.loop-at.invariant.reads c.in_err-read_block.ensures.halted);
}
