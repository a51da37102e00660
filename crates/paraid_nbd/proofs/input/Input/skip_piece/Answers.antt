use Rattle.std.proofs.Common.{◌∙◌}
use Rattle.std.proofs.lemmas.Result.{IfErr-weaker, on_ok_weaker}
use Rattle.paraid_nbd.proofs.TakingLemmas.{Lacks-of, cut_length}
use Rattle.paraid_nbd.proofs.input.Input.skip_piece.Goals as goal

pub returns : goal.returns
returns g c = record {
  takes = on_ok_weaker c.fill.result (λ t. (c.fill.new.into, c.fill.auto.into ∙ cut_length c.args.count 4096 c.requires, t)) c.fill.ensures.takes;
  lacks = IfErr-weaker c.fill.result _ _ (λ e l. Lacks-of _ c.args.count (cut_length c.args.count 4096 c.requires) l) c.fill.ensures.lacks;
  later = c.fill.ensures.later;
  still = c.fill.ensures.still;
}
