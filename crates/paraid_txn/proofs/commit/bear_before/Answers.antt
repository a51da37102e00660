use Rattle.std.proofs.lemmas.Result.{IfOk-weaker}
use Rattle.paraid_txn.proofs.BorneLemmas.{borne_before, stays_known}
use Rattle.paraid_txn.proofs.WitnessCallLemmas.{tells_before}
use Rattle.paraid_txn.proofs.commit.bear_before.Goals as goal

pub returns : goal.returns
returns g c = record {
  leaves = c.set_if_any.ensures.leaves;
  told = tells_before c.args.meta.now (g.met.R.Rack.agrees c.args.rack.now) _ _ _ _ c.first_witness-witness.result c.first_witness-witness.ensures
      c.requires.absent c.requires.witness c.named.ensures c.set_if_any.ensures.told;
  known = c.set_if_any.ensures.known;
  borne = IfOk-weaker c.set_if_any.result _ _ (λ borne known. borne_before c.args.meta.now (g.R.Rack.slot c.args.rack.now) (g.met.R.Rack.agrees c.args.rack.now)
      c.args.out.borne borne c.first_witness-witness.result known c.set_if_any.ensures.told) c.set_if_any.ensures.known;
  stays = stays_known _ _ _ _ _ c.set_if_any.result c.named.ensures c.first_witness-witness.result c.first_witness-witness.ensures c.set_if_any.ensures.none;
}
