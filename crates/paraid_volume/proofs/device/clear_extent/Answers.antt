use Rattle.std.proofs.lemmas.Result.{on_ok_weaker}
use Rattle.std.proofs.Common.{◌∙◌, arith, sym, ◌+◌, ◌*◌}
use Rattle.paraid_volume.specs.TableBlocks.{in_table}
use Rattle.paraid_volume.specs.Tables.{owner_in}
use Rattle.paraid_volume.proofs.ClearLemmas.{cleared_none, cleared_owned}
use Rattle.paraid_volume.proofs.DeviceLemmas.{DeviceGoesOn-none, KeepsMore-none}
use Rattle.paraid_volume.proofs.CallLemmas.{KeepsThen-none, KeepsThen-weaker, span_size, zeros_other, zeros_owned}
use Rattle.paraid_volume.proofs.device.clear_extent.Goals as goal

pub returns : goal.returns
returns g c = record {
  went = c.clear_blocks.ensures.went;
  grown = c.clear_blocks.ensures.grown;
  halt = c.clear_blocks.ensures.halt;
  clears = on_ok_weaker c.clear_blocks.result (λ f from h stands tells. cleared_owned _ h (owner_in (in_table c.args.table.now)) c.args.id c.args.size c.args.extent (sym c.owner.ensures ∙ c.if-owner-id.false) (f from h stands tells)) c.clear_blocks.ensures.clears;
  events =
      let owned = sym c.owner.ensures ∙ c.if-owner-id.false in
      on_ok_weaker c.clear_blocks.result (KeepsThen-weaker g.B.Blocks.kept _ _ _ _ (λ x f. zeros_owned (owner_in (in_table c.args.table.now) c.args.extent) c.args.id (6 + c.args.extent * c.args.size) c.args.size _ x owned (span_size (6 + c.args.extent * c.args.size) c.args.size) f)) c.clear_blocks.ensures.events;
}

pub returns-then-owner-id : goal.returns-then-owner-id
returns-then-owner-id g c = record {
  went = DeviceGoesOn-none _ _ _ _ _;
  grown = KeepsMore-none _ _ _ _;
  halt = c.requires.none;
  clears = λ from h stands tells. cleared_none _ h _ (λ b is. c.if-owner-id.true (c.owner.ensures ∙ is.0)) stands;
  events = KeepsThen-none g.B.Blocks.kept _ _ (zeros_other _ _ _ (λ same. c.if-owner-id.true (c.owner.ensures ∙ same)));
}

pub owner-requires : goal.owner-requires
owner-requires g c = c.requires.few

pub overflow_mul-start : goal.overflow_mul-start
overflow_mul-start g c = let fits = c.requires.fits in let small = c.requires.small in omega (arith, fits, small)

pub overflow_add-start : goal.overflow_add-start
overflow_add-start g c = let fits = c.requires.fits in let small = c.requires.small in omega (arith, fits, small)

pub overflow_add-start-2 : goal.overflow_add-start-2
overflow_add-start-2 g c = let fits = c.requires.fits in let small = c.requires.small in omega (arith, fits, small)

pub clear_blocks-requires-clause-order : goal.clear_blocks-requires-clause-order
clear_blocks-requires-clause-order g c = let size = c.requires.size in omega (arith, size)

pub clear_blocks-requires-clause-end : goal.clear_blocks-requires-clause-end
clear_blocks-requires-clause-end g c = c.requires.fits
