use Rattle.std.proofs.Common.{◌∷◌, [], rules, ap, refl}
use Rattle.paraid_base.specs.Pairs.{single_pair}
use Rattle.paraid_volume.proofs.ClearLemmas.{cleared_one}
use Rattle.paraid_volume.proofs.DeviceLemmas.{KeepsMore-one, holds_write}
use Rattle.paraid_base.proofs.PairsLemmas.{pairs_of-one}
use Rattle.paraid_base.specs.declared.block.Block.{Block}
use Rattle.paraid_base.specs.declared.event.Event.TheVariants.{Write}
use Rattle.paraid_volume.proofs.CallLemmas.{KeepsThen-one}
use Rattle.paraid_volume.proofs.device.clear_block.Goals as goal

pub returns-in-Ok : goal.returns-in-Ok
returns-in-Ok g c = record {
  went = record { size = c.write.ensures.size; later = c.write.ensures.later; cause = c.write.ensures.cause; again = c.write.ensures.again; told = c.write.ensures.told };
  grown = KeepsMore-one _ _ _ _ _ _ _ c.write.ensures.events tt;
  halt = c.in-Ok.ensures.halt;
  clears = λ from h stands tells.
      cleared_one _ h c.args.at c.zero.result c.zero.ensures
      (holds_write g.B.Blocks.stands g.B.Blocks.kept from c.args.device.now c.write.new.self h (single_pair c.args.at c.zero.result) ((c.args.at, c.zero.result) ∷ []) c.in-Ok.field-0 (λ s. (c.in-Ok.ensures.history h s tells).1) (λ first events k. c.in-Ok.ensures.events first events k) (pairs_of-one c.args.at c.zero.result) stands);
  event = KeepsThen-one g.B.Blocks.kept _ _ _ _ _ (ap (λ (x : Block). Write (single_pair c.args.at x)) c.zero.ensures, (c.in-Ok.field-0, refl), tt) (λ first events k. c.in-Ok.ensures.events first events k);
}

pub returns-in-Err-Halt : goal.returns-in-Err-Halt
returns-in-Err-Halt g c = record {
  went = record { size = c.write.ensures.size; later = c.write.ensures.later; cause = c.write.ensures.cause; again = c.write.ensures.again; told = c.write.ensures.told };
  grown = KeepsMore-one _ _ _ _ _ _ _ c.write.ensures.events tt;
  halt = search rules;
  clears = tt;
  event = tt;
}
