use Rattle.std.proofs.Common.{sym, ◌∙◌, inl}
use Rattle.paraid_txn.proofs.BorneLemmas.{known_set}
use Rattle.paraid_txn.proofs.CommitPartLemmas.{raised_if_ok}
use Rattle.paraid_txn.proofs.SyncedPartLemmas.{SyncedPart_answer, SyncedPart_raised}
use Rattle.paraid_txn.proofs.WitnessCallLemmas.{witness_set}
use Rattle.paraid_txn.proofs.witness.set_witness.Goals as goal

pub returns-in_err-write_witness : goal.returns-in_err-write_witness
returns-in_err-write_witness g c = record {
  leaves = SyncedPart_raised _ c.from_residual.ensures.1 (c.in_err-write_witness.ensures.leaves c.args.meta.now (sym c.gone-skip.ensures));
  told = witness_set c.from-place.ensures c.gate-block.ensures c.write_witness.ensures.told;
  known = raised_if_ok _ _ c.from_residual.result c.from_residual.ensures.1;
  opens = λ opened. raised_if_ok _ _ c.from_residual.result c.from_residual.ensures.1;
}

pub returns : goal.returns
returns g c = record {
  leaves = SyncedPart_answer _ (c.in_ok-write_witness.ensures.leaves c.args.meta.now (sym c.gone-skip.ensures));
  told = witness_set c.from-place.ensures c.gate-block.ensures c.write_witness.ensures.told;
  known = known_set (λ x is. let at = c.borne_by.ensures.is x is in (c.from-place.ensures ∙ at.0, c.gate-block.ensures ∙ at.1)) c.write_witness.ensures.told;
  opens = λ opened. inl (c.borne_by.ensures.opened opened);
}
