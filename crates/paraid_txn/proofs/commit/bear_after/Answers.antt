use Rattle.paraid_txn.proofs.BorneLemmas.{bearer_lost, borne_after, knows_after}
use Rattle.paraid_txn.proofs.CrashSpecificationLemmas.{on_ok}
use Rattle.paraid_txn.proofs.WitnessCallLemmas.{tells_after}
use Rattle.paraid_txn.proofs.commit.bear_after.Goals as goal

pub returns : goal.returns
returns g c = record {
  leaves = c.set_if_any.ensures.leaves;
  told = tells_after c.args.meta.now (g.met.R.Rack.agrees c.args.rack.now) _ _ _ c.last_witness-witness.result c.last_witness-witness.ensures
      c.requires.lost c.named-named.ensures c.set_if_any.ensures.told;
  known = c.set_if_any.ensures.known;
  borne = on_ok c.set_if_any.result (borne_after c.args.meta.now (g.R.Rack.slot c.args.rack.now) _ _ _ _ c.named-named.ensures
      c.set_if_any.ensures.leaves.part.lasts.stays (bearer_lost c.args.meta.now c.set_if_any.ensures.leaves.part.on)
      (g.met.R.Rack.agrees c.args.rack.now) c.last_witness-witness.result c.last_witness-witness.ensures c.set_if_any.ensures.told);
  knows = knows_after c.args.meta.now (g.R.Rack.slot c.args.rack.now) _ _ _ _ c.named-named.ensures
      c.set_if_any.ensures.leaves.part.lasts.stays (bearer_lost c.args.meta.now c.set_if_any.ensures.leaves.part.on)
      (g.R.Rack.slot c.set_if_any.new.rack) c.set_if_any.ensures.leaves.part.lasts.power c.set_if_any.ensures.leaves.part.lasts.size
      c.set_if_any.result c.last_witness-witness.result c.last_witness-witness.ensures c.set_if_any.ensures.none c.set_if_any.ensures.opens;
}
