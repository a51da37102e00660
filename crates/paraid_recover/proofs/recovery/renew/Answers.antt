use Rattle.std.specs.Prelude.{◌≡◌, ◌≢◌, ◌+◌, ℕ, [], Option, Some, None}
use Rattle.std.proofs.Common.{ap, arith, inl, refl, subst, sym, ◌∙◌}
use Rattle.std.proofs.lemmas.Bool.Decides.{nat_tests}
use Rattle.paraid_base.specs.States.{gone_out}
use Rattle.paraid_rack.specs.Told.{Ran}
use Rattle.paraid_rack.specs.Trail.{Trail}
use Rattle.paraid_record.specs.declared.meta.Meta.{Meta}
use Rattle.paraid_image.specs.Sides.{Batch, LogState}
use Rattle.paraid_txn.specs.Commit.{EndsCommitted, IsWholeOrAbsent}
use Rattle.paraid_txn.specs.Losses.{AreGoneSince, IsAlone, IsOneOut, IsOutOfCommit, AreTwoDownBeside, TellsSecondLoss}
use Rattle.paraid_txn.specs.Uses.{EachCall, UsesInCommit}
use Rattle.paraid_txn.proofs.CommitPartLemmas.{EachCall-milder, ran_milder}
use Rattle.paraid_txn.proofs.SyncLemmas.{raised}
use Rattle.paraid_recover.specs.HeldMoments.{EndsHeld, Recovers, RecoversHeld}
use Rattle.paraid_recover.specs.Quiet.{IsInLog}
use Rattle.paraid_recover.specs.MountCalls.{OnlyMountCalls}
use Rattle.paraid_recover.specs.RecoveryMark.{of_version_two}
use Rattle.paraid_recover.proofs.SecondLossLemmas.{out_more, tells_same}
use Rattle.paraid_recover.proofs.RaisedLemmas.{none_done_if}
use Rattle.paraid_recover.proofs.SyncedLemmas.{nothing_failed, nothing_lost}
use Rattle.paraid_recover.proofs.RenewLemmas.{renewed_two, after, next_renewed, one_kept, renew_ends, renew_recovers, renewed_one}
use Rattle.paraid_rack.proofs.TrailsLemmas.{Ran-none}
use Rattle.paraid_recover.proofs.FitLemmas.{two_named}
use Rattle.paraid_recover.proofs.GoneLemmas.{gone_beside, out_named_twice}
use Rattle.paraid_recover.proofs.MountCallsLemmas.{no_calls, renew_calls}
use Rattle.paraid_recover.proofs.OneMarkedLemmas.{in_log}
use Rattle.paraid_recover.proofs.OpenLemmas.{open_none}
use Rattle.paraid_recover.proofs.UnwrittenLemmas.{unwritten_never, unwritten_none}
use Rattle.paraid_recover.specs.StandingMetas.{StandsInMoments}
use Rattle.paraid_recover.specs.Still.{IsUpToDate, StaysUnwritten}
use Rattle.paraid_recover.proofs.CommitMetasLemmas.{committed_metas}
use Rattle.paraid_recover.proofs.recovery.renew.Given.{Over}
use Rattle.paraid_recover.proofs.recovery.renew.Goals as goal
use Rattle.paraid_recover.proofs.recovery.renew.Goals.{After-commit}

-- the commit
abbrev told_0 : (g : Over) (c : After-commit g) → Option Trail
told_0 g c = g.R.Rack.told c.args.store.now.rack

abbrev told_1 : (g : Over) (c : After-commit g) → Option Trail
told_1 g c = g.R.Rack.told c.commit.new.self.rack

whole : (g : Over) (c : After-commit g) (m : Meta) → m ≡ c.args.meta.now → IsWholeOrAbsent (told_0 g c) (told_1 g c) m (after m) []
whole g c m is =
    subst (λ (n : Meta). IsWholeOrAbsent (told_0 g c) (told_1 g c) n (after n) []) (sym is)
    (subst (λ (b : Batch). IsWholeOrAbsent (told_0 g c) (told_1 g c) c.args.meta.now (after c.args.meta.now) b) c.requires.empty
    (subst (λ (e : ℕ). IsWholeOrAbsent (told_0 g c) (told_1 g c) c.args.meta.now (record c.args.meta.now { version = 2; epoch = e + 1 }) c.args.nothing.now) c.requires.can.epoch
    (c.commit.ensures.any_moment c.args.meta.now c.requires.can.named)))

holds : (g : Over) (c : After-commit g) (slots x : ℕ) (said : LogState) (old : Option Trail) → said.meta ≡ c.args.meta.now → Recovers slots x said old (told_0 g c) → RecoversHeld slots x said old (told_1 g c)
holds g c slots x said old is recovers = renew_recovers slots x said old (told_0 g c) (told_1 g c) recovers.holds recovers.ends (whole g c said.meta is)

log_calls : (g : Over) (c : After-commit g) → Ran (told_0 g c) (told_1 g c) (EachCall (IsInLog c.args.store.now.disks))
log_calls g c =
    let next = of_version_two c.args.meta.now in
    ran_milder (EachCall (UsesInCommit next [])) (EachCall (IsInLog c.args.store.now.disks))
    (EachCall-milder (UsesInCommit next []) (IsInLog c.args.store.now.disks) (λ call uses. subst (λ (n : ℕ). IsInLog n call) (sym c.requires.can.disks) (in_log next call uses)))
    (subst (λ (b : Batch). Ran (told_0 g c) (told_1 g c) (EachCall (UsesInCommit next b))) c.requires.empty c.commit.ensures.calls)

-- which a mount may make
allowed : (g : Over) (c : After-commit g) → OnlyMountCalls c.args.meta.now (told_0 g c) (told_1 g c)
allowed g c =
    renew_calls c.args.meta.now (told_0 g c) (told_1 g c) (subst (λ (b : Batch). Ran (told_0 g c) (told_1 g c) (EachCall (UsesInCommit (of_version_two c.args.meta.now) b))) c.requires.empty c.commit.ensures.calls)

pub returns-then-meta-ne1 : goal.returns-then-meta-ne1
returns-then-meta-ne1 g c = record {
  kept = record {
    slots = refl;
    disks = refl;
    powers = nothing_lost _;
    each = nothing_failed _;
    two = tt;
    gone = tt;
    order = tt;
  };
  given =
      let test = c.if-meta-ne1.true in
      let not : c.args.meta.now.version ≢ 1 = grind (arith, nat_tests, test) in
      sym (renewed_two c.args.meta.now not);
  epoch = sym c.requires.can.epoch;
  named = sym c.requires.can.named;
  synced = λ d there is. inl is;
  one = λ one. subst (λ (o : Option ℕ). IsOneOut c.args.store.now.disks o (g.R.Rack.slot c.args.store.now.rack)) c.requires.can.named one;
  calls = Ran-none (EachCall (IsInLog c.args.store.now.disks)) (λ s. tt) (g.R.Rack.told c.args.store.now.rack);
  recovers = record {
    allowed = no_calls c.args.meta.now (g.R.Rack.told c.args.store.now.rack);
    holds = λ slots x said old is recovers. recovers.holds;
    metas = λ slots x said old is recovers before. before;
    once = λ two. open_none (gone_out c.args.meta.now.out) (g.R.Rack.told c.args.store.now.rack);
    unwritten = unwritten_none c.args.meta.now (g.R.Rack.told c.args.store.now.rack);
  };
  ends = λ slots x said old is recovers.
      subst (λ (m : Meta). EndsHeld slots x said m old (g.R.Rack.told c.args.store.now.rack)) is recovers.ends;
}

-- which meta stands in the commit
metas : (g : Over) (c : After-commit g) → c.args.meta.now.version ≡ 1 → (slots x : ℕ) (said : LogState) (old : Option Trail) → said.meta ≡ c.args.meta.now → Recovers slots x said old (told_0 g c)
    → StandsInMoments slots x said old (told_0 g c) → StandsInMoments slots x said old (told_1 g c)
metas g c one slots x said old is recovers before =
    committed_metas slots x said old (told_0 g c) (told_1 g c) (after said.meta) None (sym (renewed_one said.meta (ap (λ (m : Meta). m.version) is ∙ one))) refl (λ t tells d name. inl name)
    (next_renewed said.meta) before recovers.ends (whole g c said.meta is)

-- a meta of version 1 is to be brought up to date
unwritten : (g : Over) (c : After-commit g) → c.args.meta.now.version ≡ 1 → StaysUnwritten (IsUpToDate c.args.meta.now) (told_0 g c) (told_1 g c)
unwritten g c one =
    unwritten_never c.args.meta.now (told_0 g c) (told_1 g c) (EachCall (IsInLog c.args.store.now.disks)) (log_calls g c) (λ s tells is. let two = is.version_is in absurd (omega arith))

pub returns-in_err-commit : goal.returns-in_err-commit
returns-in_err-commit g c = record {
  kept = record {
    slots = c.commit.ensures.keeps.slots;
    disks = c.commit.ensures.keeps.disks;
    powers = c.commit.ensures.keeps.powers;
    each = c.commit.ensures.keeps.each;
    two =
        let n = c.args.store.now.disks in
        let named = c.args.store.now.named in
        let a = g.R.Rack.slot c.args.store.now.rack in
        let b = g.R.Rack.slot c.commit.new.self.rack in
        raised _ _ _ c.from_residual.ensures.1
        (two_named n named a b c.in_err-commit.field-0.0
        (subst (λ (o : Option ℕ). AreTwoDownBeside (IsOutOfCommit (λ e. (a e).power) n named o) a b c.in_err-commit.field-0.0) (sym c.requires.can.named) c.in_err-commit.ensures.keeps.two));
    gone =
        let n = c.args.store.now.disks in
        let named = c.args.store.now.named in
        let a = g.R.Rack.slot c.args.store.now.rack in
        let b = g.R.Rack.slot c.commit.new.self.rack in
        let power = (λ (e : ℕ). (a e).power) in
        raised _ _ _ c.from_residual.ensures.1
        (gone_beside (IsOutOfCommit power n named named) (IsOutOfCommit power n named None) a b c.in_err-commit.field-0.0 (out_named_twice power n named)
        (subst (λ (o : Option ℕ). AreGoneSince (IsOutOfCommit power n named o) a b c.in_err-commit.field-0.0) (sym c.requires.can.named) c.in_err-commit.ensures.keeps.gone));
    order =
        let at = (goal.at.returns-in_err-commit g c).After-commit in
        let n = c.args.store.now.disks in
        let named = c.args.store.now.named in
        let power = (λ (e : ℕ). (g.R.Rack.slot c.args.store.now.rack e).power) in
        let two = c.in_err-commit.field-0.0 in
        raised _ _ _ c.from_residual.ensures.1
        (tells_same (IsOutOfCommit power n named named) (IsOutOfCommit power n named None) (told_0 g at) (told_1 g at) two (out_named_twice power n named) (out_more power n named named)
        (subst (λ (o : Option ℕ). TellsSecondLoss (IsOutOfCommit power n named o) (told_0 g at) (told_1 g at) two) (sym c.requires.can.named) c.in_err-commit.ensures.keeps.order));
  };
  given = none_done_if _ c.from_residual.result _ c.from_residual.ensures.1;
  epoch = none_done_if _ c.from_residual.result _ c.from_residual.ensures.1;
  named = none_done_if _ c.from_residual.result _ c.from_residual.ensures.1;
  synced = none_done_if _ c.from_residual.result _ c.from_residual.ensures.1;
  one = none_done_if _ c.from_residual.result _ c.from_residual.ensures.1;
  calls = log_calls g (goal.at.returns-in_err-commit g c).After-commit;
  recovers = record {
    allowed = allowed g (goal.at.returns-in_err-commit g c).After-commit;
    holds = holds g (goal.at.returns-in_err-commit g c).After-commit;
    metas =
        let not = c.if-meta-ne1.false in
        let one : c.args.meta.now.version ≡ 1 = grind (arith, nat_tests, not) in
        metas g (goal.at.returns-in_err-commit g c).After-commit one;
    once = λ two.
        let not = c.if-meta-ne1.false in
        let one : c.args.meta.now.version ≡ 1 = grind (arith, nat_tests, not) in
        absurd (omega arith);
    unwritten =
        let not = c.if-meta-ne1.false in
        let one : c.args.meta.now.version ≡ 1 = grind (arith, nat_tests, not) in
        unwritten g (goal.at.returns-in_err-commit g c).After-commit one;
  };
  ends = none_done_if _ c.from_residual.result _ c.from_residual.ensures.1;
}

pub returns : goal.returns
returns g c = record {
  kept = record {
    slots = c.commit.ensures.keeps.slots;
    disks = c.commit.ensures.keeps.disks;
    powers = c.commit.ensures.keeps.powers;
    each = c.commit.ensures.keeps.each;
    two = tt;
    gone = tt;
    order = tt;
  };
  given =
      let not = c.if-meta-ne1.false in
      let one : c.args.meta.now.version ≡ 1 = grind (arith, nat_tests, not) in
      ap (λ (e : ℕ). record c.args.meta.now { version = 2; epoch = e }) (c.epoch.ensures ∙ c.in_ok-commit.ensures.takes.epoch ∙ ap (λ (k : ℕ). k + 1) c.requires.can.epoch) ∙ sym (renewed_one c.args.meta.now one);
  epoch = c.epoch.ensures;
  named = sym c.in_ok-commit.ensures.takes.named;
  synced = c.in_ok-commit.ensures.takes.synced;
  one = λ one.
      let n = c.args.store.now.disks in
      let named = c.args.store.now.named in
      let a = g.R.Rack.slot c.args.store.now.rack in
      let b = g.R.Rack.slot c.commit.new.self.rack in
      let it = c.in_ok-commit in
      subst (λ (o : Option ℕ). IsOneOut n o b) c.requires.can.named
      (one_kept n named it.field-0 a b it.ensures.loss.well
      (subst (λ (o : Option ℕ). (d : ℕ) → it.field-0 ≡ Some d → IsAlone n (IsOutOfCommit (λ e. (a e).power) n named o) d) (sym c.requires.can.named) it.ensures.loss.alone) one);
  calls = log_calls g (goal.at.returns g c).After-commit;
  recovers = record {
    allowed = allowed g (goal.at.returns g c).After-commit;
    holds = holds g (goal.at.returns g c).After-commit;
    metas =
        let not = c.if-meta-ne1.false in
        let one : c.args.meta.now.version ≡ 1 = grind (arith, nat_tests, not) in
        metas g (goal.at.returns g c).After-commit one;
    once = λ two.
        let not = c.if-meta-ne1.false in
        let one : c.args.meta.now.version ≡ 1 = grind (arith, nat_tests, not) in
        absurd (omega arith);
    unwritten =
        let not = c.if-meta-ne1.false in
        let one : c.args.meta.now.version ≡ 1 = grind (arith, nat_tests, not) in
        unwritten g (goal.at.returns g c).After-commit one;
  };
  ends = λ slots x said old is recovers.
      let at = (goal.at.returns g c).After-commit in
      let m = c.args.meta.now in
      let epoch : c.epoch.result ≡ m.epoch + 1 = c.epoch.ensures ∙ c.in_ok-commit.ensures.takes.epoch ∙ ap (λ (k : ℕ). k + 1) c.requires.can.epoch in
      let commits : EndsCommitted (told_0 g at) (told_1 g at) m (after m) [] =
      subst (λ (b : Batch). EndsCommitted (told_0 g at) (told_1 g at) m (after m) b) c.requires.empty
      (subst (λ (e : ℕ). EndsCommitted (told_0 g at) (told_1 g at) m (record m { version = 2; epoch = e + 1 }) c.args.nothing.now) c.requires.can.epoch
      (c.in_ok-commit.ensures.committed m c.requires.can.named)) in
      subst (λ (e : ℕ). EndsHeld slots x said (record m { version = 2; epoch = e }) old (told_1 g at)) (sym epoch)
      (subst (λ (n : Meta). EndsHeld slots x said (after n) old (told_1 g at)) is
      (renew_ends slots x said old (told_0 g at) (told_1 g at) recovers.holds recovers.ends (whole g at said.meta is)
      (subst (λ (n : Meta). EndsCommitted (told_0 g at) (told_1 g at) n (after n) []) (sym is) commits)));
}
