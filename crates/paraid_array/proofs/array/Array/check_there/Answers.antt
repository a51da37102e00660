use Rattle.std.proofs.Common.{◌≡◌, ◌≢◌, [], refl}
use Rattle.std.proofs.lemmas.Bool.{false≢true}
use Rattle.std.proofs.lemmas.Result.{IfOk-weaker}
use Rattle.paraid_scrub.specs.Counts.{AreWithinMembers}
use Rattle.paraid_scrub.specs.declared.kind.CheckReport.{CheckReport}
use Rattle.paraid_array.specs.Checked.{CountsCommitted, CountsDisks}
use Rattle.paraid_array.proofs.CheckLemmas.{unstaged}
use Rattle.paraid_array.proofs.array.Array.check_there.Goals as goal

pub check_kept-requires : goal.check_kept-requires
check_kept-requires g c = record { going = c.requires.going; epoch = c.requires.epoch; writes = c.requires.writes; nothing = c.if-is_kept.ensures.nothing refl }

pub commit_and_check-requires : goal.commit_and_check-requires
commit_and_check-requires g c = record { going = c.requires.going; some = λ nothing. false≢true (c.if-is_kept.ensures.kept nothing); epoch = c.requires.epoch; writes = c.requires.writes }

pub returns-then-is_kept : goal.returns-then-is_kept
returns-then-is_kept g c = record {
  answers = c.check_kept.ensures.answers;
  sound = c.check_kept.ensures.sound;
  counts = c.check_kept.ensures.counts;
  most = IfOk-weaker c.check_kept.result _ _ (λ report within nothing. within) c.check_kept.ensures.most;
  reads = λ nothing. c.check_kept.ensures.reads;
  committed =
      let old = c.args.self.now.core in
      unstaged {P = λ (report : CheckReport). old.batch ≢ [] → CountsCommitted g.R.Rack.slot g.R.Rack.told old c.check_kept.new.self.core report} c.check_kept.result
      (λ report staged. absurd (staged (c.if-is_kept.ensures.nothing refl)));
}

pub returns : goal.returns
returns g c = record {
  answers = c.commit_and_check.ensures.answers;
  sound = c.commit_and_check.ensures.sound;
  counts =
      unstaged {P = λ (report : CheckReport). CountsDisks g.R.Rack.slot g.R.Rack.told c.args.self.now.core c.commit_and_check.new.self.core report} c.commit_and_check.result
      (λ report. record {
        by_table = λ nothing. absurd (false≢true (c.if-is_kept.ensures.kept nothing));
        by_map = λ nothing. absurd (false≢true (c.if-is_kept.ensures.kept nothing));
      });
  most =
      unstaged {P = λ (report : CheckReport). c.args.self.now.core.batch ≡ [] → AreWithinMembers c.args.self.now.core.meta report} c.commit_and_check.result
      (λ report nothing. absurd (false≢true (c.if-is_kept.ensures.kept nothing)));
  reads = λ nothing. absurd (false≢true (c.if-is_kept.ensures.kept nothing));
  committed = IfOk-weaker c.commit_and_check.result _ _ (λ report counts staged. counts) c.commit_and_check.ensures.counts;
}
