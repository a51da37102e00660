use Rattle.std.proofs.Common.{inr, rules}
use Rattle.std.proofs.lemmas.Result.{on_err_weaker, on_ok_weaker}
use Rattle.paraid_nbd.proofs.DeviceLemmas.{rest_read}
use Rattle.paraid_nbd.proofs.ErrorLemmas.{by_weaker, halts_weaker}
use Rattle.paraid_nbd.proofs.export.read_rest.Goals as goal

pub returns : goal.returns
returns g c = record {
  size = search rules;
  told = search rules;
  keeps = c.read_block.ensures.keeps;
  serves = on_ok_weaker c.read_block.result (λ f. by_weaker _ _ _ (λ a one. inr (c.if-part-eq-BLOCK_SIZE.false, one)) f) c.read_block.ensures.serves;
  halts = on_err_weaker c.read_block.result (λ f. halts_weaker _ _ _ (λ a event h. (c.if-part-eq-BLOCK_SIZE.false, h)) f) c.read_block.ensures.halts;
  read = on_ok_weaker c.read_block.result (λ f first tells s events is kept. rest_read c.args.part.length (f first tells s events is kept)) c.read_block.ensures.read;
  stops = search rules;
}
