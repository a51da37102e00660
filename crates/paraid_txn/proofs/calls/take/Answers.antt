use Rattle.std.proofs.Common.{false, is_ok, refl, ◌∙◌, inl, rules}
use Rattle.paraid_rack.specs.declared.call.Call.TheVariants.{Read}
use Rattle.paraid_txn.specs.Losses.MayDo.{called}
use Rattle.paraid_txn.proofs.DownLemmas.{StaySyncedBut-none}
use Rattle.paraid_txn.proofs.CommitPartLemmas.{CommitPart_answer, CommitPart_none, CommitPart_raised, called_leaves, one_stays_synced, passed_does, raised_not_ok}
use Rattle.paraid_txn.proofs.calls.take.Goals as goal

pub returns-in_err-follow : goal.returns-in_err-follow
returns-in_err-follow g c =
    record {
      slots = c.read-answer.ensures.slots;
      does = called (c.is_passed.ensures.called c.if-is_passed.false) (is_ok c.read-answer.result) c.read-answer.ensures.told;
      part = (let not = c.is_passed.ensures.called c.if-is_passed.false in
          let here = c.is_passed.ensures.present c.if-is_passed.false in
          CommitPart_raised _ c.from_residual.ensures.1
          (called_leaves g.R.Rack (λ done. Read c.args.disk c.args.place done) not here (λ done. refl) (λ done. refl) (λ t is. (g.met.R.Rack.agrees c.args.rack.now t is).power c.args.disk ∙ (c.requires.can not).spins here)
          (record { faults = refl; power = refl; size = refl }) c.read-answer.ensures.slot c.read-answer.ensures.told _ _ _ c.in_err-follow.ensures));
      still_synced = one_stays_synced (λ d. ⊥) (is_ok c.read-answer.result) c.read-answer.ensures.slot (λ unsynced. inl unsynced);
      bytes = λ is. raised_not_ok _ c.from_residual.result c.from_residual.ensures.1 is;
      read = λ is. raised_not_ok _ c.from_residual.result c.from_residual.ensures.1 is;
      present = λ is. raised_not_ok _ c.from_residual.result c.from_residual.ensures.1 is;
      passed = λ is. raised_not_ok _ c.from_residual.result c.from_residual.ensures.1 is;
    }

pub returns-then-is_passed : goal.returns-then-is_passed
returns-then-is_passed g c = record {
  slots = search rules;
  does = passed_does c.args.skip c.args.disk (λ done. Read c.args.disk c.args.place done) (c.is_passed.ensures.passed c.if-is_passed.true);
  part = CommitPart_none _ _ _ _ false;
  still_synced = StaySyncedBut-none _ (g.R.Rack.slot c.args.rack.now);
  bytes = search rules;
  read = search rules;
  present = search rules;
  passed = λ is. c.is_passed.ensures.passed c.if-is_passed.true;
}

pub returns : goal.returns
returns g c = record {
  slots = search rules;
  does = called (c.is_passed.ensures.called c.if-is_passed.false) (is_ok c.read-answer.result) c.read-answer.ensures.told;
  part =
      let not = c.is_passed.ensures.called c.if-is_passed.false in
      let here = c.is_passed.ensures.present c.if-is_passed.false in
      CommitPart_answer c.is_ok-read.result
      (called_leaves g.R.Rack (λ done. Read c.args.disk c.args.place done) not here (λ done. refl) (λ done. refl) (λ t is. (g.met.R.Rack.agrees c.args.rack.now t is).power c.args.disk ∙ (c.requires.can not).spins here)
      (record { faults = refl; power = refl; size = refl }) c.read-answer.ensures.slot c.read-answer.ensures.told _ _ _ c.in_ok-follow.ensures);
  still_synced = one_stays_synced (λ d. ⊥) (is_ok c.read-answer.result) c.read-answer.ensures.slot (λ unsynced. inl unsynced);
  bytes = search rules;
  read = λ is. c.is_passed.ensures.called c.if-is_passed.false;
  present = λ is. c.is_passed.ensures.present c.if-is_passed.false;
  passed = search rules;
}
