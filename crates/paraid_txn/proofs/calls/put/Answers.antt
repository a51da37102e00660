use Rattle.std.specs.Prelude.{◌≡◌, ◌≢◌, Some}
use Rattle.std.proofs.Common.{is_ok, refl, ◌∙◌, inr, rules}
use Rattle.paraid_rack.specs.declared.call.Call.TheVariants.{Write}
use Rattle.paraid_txn.specs.Losses.MayDo.{called}
use Rattle.paraid_txn.proofs.DownLemmas.{StaySyncedBut-none}
use Rattle.paraid_txn.proofs.CommitPartLemmas.{CommitPart_none, called_leaves, one_stays_synced, passed_does}
use Rattle.paraid_txn.proofs.calls.put.Goals as goal

pub returns-then-is_passed : goal.returns-then-is_passed
returns-then-is_passed g c = record {
  slots = search rules;
  does = passed_does c.args.skip c.args.disk (λ done. Write c.args.disk c.args.place c.args.block.now done) (c.is_passed.ensures.passed c.if-is_passed.true);
  part = CommitPart_none _ _ _ _ tt;
  still_synced = StaySyncedBut-none _ (g.R.Rack.slot c.args.rack.now);
}

pub returns : goal.returns
returns g c = record {
  slots = search rules;
  does = called (c.is_passed.ensures.called c.if-is_passed.false) (is_ok c.write-answer.result) c.write-answer.ensures.told;
  part =
      let not = c.is_passed.ensures.called c.if-is_passed.false in
      let here = c.is_passed.ensures.present c.if-is_passed.false in
      called_leaves g.R.Rack (λ done. Write c.args.disk c.args.place c.args.block.now done) not here (λ done. refl) (λ done. refl) (λ t is. (g.met.R.Rack.agrees c.args.rack.now t is).power c.args.disk ∙ (c.requires.can not).spins here)
      (record { faults = refl; power = refl; size = refl }) c.write-answer.ensures.slot c.write-answer.ensures.told _ _ _ c.follow.ensures;
  still_synced = one_stays_synced (λ d. (d ≡ c.args.disk) × (c.args.skip ≢ Some d)) (is_ok c.write-answer.result) c.write-answer.ensures.slot (λ unsynced. inr (refl, c.is_passed.ensures.called c.if-is_passed.false));
}
