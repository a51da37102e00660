use Rattle.paraid_base.specs.declared.block.Block.{Block}
use Rattle.paraid_base.specs.declared.event.Event.TheVariants.{Read}
use Rattle.paraid_base.specs.declared.event.Answer.TheVariants.{Value}
use Rattle.paraid_volume.proofs.DeviceLemmas.{KeepsMore-one, holds_same}
use Rattle.std.proofs.Common.{◌++◌, ◌∷◌, [], refl, rules, subst, sym}
use Rattle.paraid_volume.proofs.device.read_block.Goals as goal

pub returns-in-Err-Halt : goal.returns-in-Err-Halt
returns-in-Err-Halt g c = record {
  went = record { size = c.read.ensures.size; later = c.read.ensures.later; cause = c.read.ensures.cause; again = c.read.ensures.again; told = c.read.ensures.told };
  grown = KeepsMore-one _ _ _ _ _ _ _ c.read.ensures.events tt;
  halt = search rules;
  keeps = tt;
  read = tt;
  rest = λ k not. refl;
  event = tt;
  halted = λ first events k. let e = rw c.in-Err-Halt.field-0-is at (c.in-Err-Halt.ensures.events first events k) in rw c.in-Err-Halt.field-0-is e;
}

pub returns-in-Ok : goal.returns-in-Ok
returns-in-Ok g c = record {
  went = record { size = c.read.ensures.size; later = c.read.ensures.later; cause = c.read.ensures.cause; again = c.read.ensures.again; told = c.read.ensures.told };
  grown = KeepsMore-one _ _ _ _ _ _ _ c.read.ensures.events tt;
  halt = c.in-Ok.ensures.halt;
  keeps = λ from h stands tells.
      holds_same g.B.Blocks.stands g.B.Blocks.kept from c.args.device.now c.read.new.self h (Read c.args.at) (Value c.args.at c.read.new.into) (λ s. c.in-Ok.ensures.history h s tells) (λ first events k. c.in-Ok.ensures.events first events k) refl stands;
  read = search rules;
  rest = search rules;
  event = λ first events k. subst (λ (b : Block). g.B.Blocks.kept first c.read.new.self (events ++ (Read c.args.at, Value c.args.at b) ∷ [])) (sym c.put.ensures.here) (c.in-Ok.ensures.events first events k);
  halted = tt;
}
