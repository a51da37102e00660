use Rattle.std.specs.Prelude.{◌≡◌, ◌+◌, ℕ, [], Option, Some, IfOk}
use Rattle.paraid_rack.specs.Told.{Ran}
use Rattle.paraid_image.specs.Out.{named_out}
use Rattle.paraid_txn.specs.Losses.{IsAlone, IsOutOfCommit}
use Rattle.paraid_txn.specs.Steps.{KeepsStore}
use Rattle.paraid_txn.specs.Uses.{EachCall, UsesInCommit}
use Rattle.std.proofs.Common.{arith, ap, subst, sym, ◌∙◌}
use Rattle.paraid_txn.specs.Ready.{CanCommit}
use Rattle.paraid_rack.specs.Disks.{is_present}
use Rattle.paraid_record.specs.declared.meta.Meta.{Meta}
use Rattle.paraid_txn.specs.Commit.{EndsCommitted, IsWholeOrAbsent}
use Rattle.std.proofs.lemmas.Result.{IfOk-weaker, on_ok_weaker}
use Rattle.paraid_image.specs.Mark.{marked_gone}
use Rattle.paraid_image.specs.Sides.{Batch}
use Rattle.paraid_image.proofs.MarkLemmas.{marked_in_range}
use Rattle.paraid_txn.proofs.RanLemmas.{commit_moments}
use Rattle.paraid_recover.proofs.MarkHeldLemmas.{is_next, mark_held}
use Rattle.paraid_recover.specs.RecoveryMark.{of_version_two}
use Rattle.paraid_recover.proofs.RenewLemmas.{in_version_two}
use Rattle.paraid_recover.proofs.OneMarkedLemmas.{one_marked}
use Rattle.paraid_recover.proofs.marking.mark.Given.{Over}
use Rattle.paraid_recover.proofs.marking.mark.Goals as goal
use Rattle.paraid_recover.proofs.marking.mark.Goals.{After-commit}

-- the meta that the commit brings
after_is : (g : Over) (c : After-commit g) → record c.next_marked-next.result { epoch = c.args.store.now.epoch + 1 } ≡ marked_gone (of_version_two c.args.meta.now) c.args.disk (c.args.meta.now.epoch + 1)
after_is g c =
    ap (λ (n : Meta). record n { epoch = c.args.store.now.epoch + 1 }) c.next_marked-next.ensures
    ∙ ap (λ e. marked_gone (of_version_two c.args.meta.now) c.args.disk (e + 1)) c.requires.epoch

each : (g : Over) (c : After-commit g)
    → IsWholeOrAbsent (g.R.Rack.told c.args.store.now.rack) (g.R.Rack.told c.commit.new.self.rack) c.args.meta.now (marked_gone (of_version_two c.args.meta.now) c.args.disk (c.args.meta.now.epoch + 1)) []
each g c =
    subst (λ (b : Batch). IsWholeOrAbsent (g.R.Rack.told c.args.store.now.rack) (g.R.Rack.told c.commit.new.self.rack) c.args.meta.now (marked_gone (of_version_two c.args.meta.now) c.args.disk (c.args.meta.now.epoch + 1)) b) c.requires.empty
    (subst (λ (n : Meta). IsWholeOrAbsent (g.R.Rack.told c.args.store.now.rack) (g.R.Rack.told c.commit.new.self.rack) c.args.meta.now n c.args.batch.now) (after_is g c)
    (c.commit.ensures.any_moment c.args.meta.now c.requires.named))

pub commit-requires : goal.commit-requires
commit-requires g c = record {
  can =
      subst (λ (n : Meta). CanCommit c.args.store.now.epoch c.args.store.now.disks (g.R.Rack.slot_count c.args.store.now.rack) (g.R.Rack.slot c.args.store.now.rack) c.args.batch.now n) (sym c.next_marked-next.ensures)
      c.requires.can;
  witness = λ x low was not.
      absurd (not (ap (λ (n : Meta). named_out n.out) c.next_marked-next.ensures ∙ ap Some (sym (c.requires.only x (sym c.requires.named ∙ was)))));
}

pub returns : goal.returns
returns g c = record {
  kept =
      subst (λ (o : Option ℕ). KeepsStore (IsOutOfCommit (λ e. (g.R.Rack.slot c.args.store.now.rack e).power) c.args.store.now.disks c.args.store.now.named o) c.args.store.now c.commit.new.self c.commit.result)
      (ap (λ (n : Meta). named_out n.out) c.next_marked-next.ensures) c.commit.ensures.keeps;
  marked = record {
    synced = c.commit.ensures.takes.synced;
    epoch = c.commit.ensures.takes.epoch;
    named = on_ok_weaker c.commit.result (λ is. is ∙ ap (λ (n : Meta). named_out n.out) c.next_marked-next.ensures) c.commit.ensures.takes.named;
    one =
        let at = goal.at.returns g c in
        let named = ap (λ (n : Meta). named_out n.out) c.next_marked-next.ensures in
        one_marked c.args.store.now.disks c.args.store.now.named c.args.disk (g.R.Rack.slot c.args.store.now.rack) (g.R.Rack.slot c.commit.new.self.rack)
        (let low = c.requires.low in let same = c.requires.can.array in omega arith) c.requires.absent c.commit.result (IfOk-weaker c.commit.result _ _ (λ lost survives. survives.well) c.commit.ensures.loss)
        (subst (λ (o : Option ℕ). IfOk c.commit.result (λ lost. (d : ℕ) → lost ≡ Some d → IsAlone c.args.store.now.disks (IsOutOfCommit (λ e. (g.R.Rack.slot c.args.store.now.rack e).power) c.args.store.now.disks c.args.store.now.named o) d)) named (IfOk-weaker c.commit.result _ _ (λ lost survives. survives.alone) c.commit.ensures.loss));
  };
  calls =
      subst (λ (b : Batch). Ran (g.R.Rack.told c.args.store.now.rack) (g.R.Rack.told c.commit.new.self.rack) (EachCall (UsesInCommit (marked_gone (of_version_two c.args.meta.now) c.args.disk c.args.meta.now.epoch) b))) c.requires.empty
      (subst (λ (n : Meta). Ran (g.R.Rack.told c.args.store.now.rack) (g.R.Rack.told c.commit.new.self.rack) (EachCall (UsesInCommit n c.args.batch.now))) c.next_marked-next.ensures c.commit.ensures.calls);
  grows = λ t tells.
      let at = goal.at.returns g c in
      let r = each g at.After-commit t tells in
      record { from = r.from; was = r.was; calls = r.calls; is = r.is; holds = tt };
  held = λ slots t tells.
      let at = goal.at.returns g c in
      let m = c.args.meta.now in
      let d = c.args.disk in
      let r = commit_moments _ _ m (marked_gone (of_version_two m) d (m.epoch + 1)) [] (each g at.After-commit) t tells in (
        r.0,
        r.1,
        r.2,
        λ h lo n was down rest held from to downs_start downs.
            let gone = ap is_present ((g.met.R.Rack.agrees _ r.0 r.1).power d ∙ c.requires.absent) in
            let range = rest.log.stands.says.log.meta.in_range in
            let fits = c.requires.can.epoch in
            let same = c.requires.epoch in
            let after = marked_in_range (of_version_two m) d (m.epoch + 1) (in_version_two m m.epoch range range.counters.first range.counters.epoch_fits) c.requires.low (omega arith) (omega arith) in
            let next = is_next slots _ m d (m.epoch + 1) h lo was rest held c.requires.only c.requires.low gone (omega arith) after in
            mark_held slots _ m d (m.epoch + 1) h lo was rest held c.requires.only c.requires.low gone (omega arith) after _ down downs
            (downs_start d c.requires.low gone) (r.3 rest next n from to),
      );
  moments = each g (goal.at.returns g c).After-commit;
  committed =
      let at = goal.at.returns g c in
      on_ok_weaker c.commit.result (λ commits.
      subst (λ (n : Meta). EndsCommitted (g.R.Rack.told c.args.store.now.rack) (g.R.Rack.told c.commit.new.self.rack) c.args.meta.now n c.args.batch.now) (after_is g at.After-commit)
      (commits c.args.meta.now c.requires.named)) c.commit.ensures.committed;
}
