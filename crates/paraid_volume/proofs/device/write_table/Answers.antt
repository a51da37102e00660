use Rattle.std.proofs.Common.{◌≡◌, ◌∙◌, ap, subst, Err, Result, ℕ, rules, refl}
use Rattle.paraid_base.specs.declared.fault.BlockFault.{BlockFault}
use Rattle.paraid_base.specs.BlockAnswers.{RefusesMany}
use Rattle.paraid_base.specs.Pairs.{pairs_of}
use Rattle.paraid_volume.proofs.LaidLemmas.{not_missing}
use Rattle.paraid_volume.proofs.DeviceLemmas.{KeepsMore-one, holds_write}
use Rattle.paraid_volume.proofs.CallLemmas.{KeepsThen-one}
use Rattle.paraid_volume.proofs.device.write_table.Goals as goal

pub unreachable-requires : goal.unreachable-requires
unreachable-requires g c =
    let count = g.B.Blocks.block_count c.args.device.now in
    let entry = pairs_of c.args.pairs.now in
    let is : c.write_many.result ≡ Err (BlockFault.NoBlock c.in-Err-NoBlock.field-0-0) = c.in-Err-NoBlock.is ∙ ap Err c.in-Err-NoBlock.field-0-is in
    not_missing count entry c.in-Err-NoBlock.field-0-0 c.requires.size c.requires.below
    (subst (λ (r : Result ℕ BlockFault). RefusesMany count entry r) is c.write_many.ensures.missing)

pub returns-in-Err-Halt : goal.returns-in-Err-Halt
returns-in-Err-Halt g c = record {
  went = record { size = c.write_many.ensures.size; later = c.write_many.ensures.later; cause = c.write_many.ensures.cause; again = c.write_many.ensures.again; told = c.write_many.ensures.told };
  grown = KeepsMore-one _ _ _ _ _ _ _ c.write_many.ensures.events tt;
  halt = search rules;
  adds = tt;
  event = tt;
}

pub returns-in-Ok : goal.returns-in-Ok
returns-in-Ok g c = record {
  went = record { size = c.write_many.ensures.size; later = c.write_many.ensures.later; cause = c.write_many.ensures.cause; again = c.write_many.ensures.again; told = c.write_many.ensures.told };
  grown = KeepsMore-one _ _ _ _ _ _ _ c.write_many.ensures.events tt;
  halt = c.in-Ok.ensures.halt;
  adds = λ from h stands tells.
      holds_write g.B.Blocks.stands g.B.Blocks.kept from c.args.device.now c.write_many.new.self h c.args.pairs.now (pairs_of c.args.pairs.now) c.in-Ok.field-0 (λ s. (c.in-Ok.ensures.history h s tells).1) (λ first events k. c.in-Ok.ensures.events first events k) refl stands;
  event = KeepsThen-one g.B.Blocks.kept _ _ _ _ _ (c.in-Ok.field-0, refl) (λ first events k. c.in-Ok.ensures.events first events k);
}
