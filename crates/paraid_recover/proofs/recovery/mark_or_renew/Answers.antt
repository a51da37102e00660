use Rattle.std.specs.Prelude.{◌≡◌, ℕ, ◌+◌, ◌<◌, false, [], None, Some, All, IfErr, IfOk, Option}
use Rattle.std.proofs.Common.{arith, ap, inr, refl, sym, subst, ◌∙◌}
use Rattle.paraid_base.specs.States.{gone_out}
use Rattle.paraid_rack.specs.Disks.{Disks, is_present}
use Rattle.paraid_rack.specs.Trail.{Trail, now}
use Rattle.paraid_record.specs.declared.meta.Meta.{Meta}
use Rattle.paraid_record.specs.Targets.{IsTargetInRange}
use Rattle.paraid_image.specs.Mark.{marked_gone}
use Rattle.paraid_image.specs.Out.{named_out}
use Rattle.paraid_image.specs.Sides.{Batch, LogState, targets}
use Rattle.paraid_image.proofs.MarkLemmas.{marked_in_range}
use Rattle.paraid_image.specs.Rest.{IsAtRest}
use Rattle.paraid_txn.specs.Commit.{EndsCommitted, IsNext, IsWholeOrAbsent}
use Rattle.paraid_txn.specs.Losses.{AreGoneSince, IsOneOut, IsOutOfCommit, AreTwoDownBeside, TellsSecondLoss}
use Rattle.paraid_rack.specs.Told.{Ran}
use Rattle.paraid_txn.specs.Uses.{EachCall, UsesInCommit}
use Rattle.paraid_txn.proofs.CommitPartLemmas.{EachCall-milder, ran_milder}
use Rattle.paraid_txn.proofs.SyncLemmas.{raised}
use Rattle.paraid_recover.specs.Quiet.{IsInLog}
use Rattle.paraid_recover.specs.RecoveryMark.{to_mark, of_version_two, with_mark}
use Rattle.paraid_recover.proofs.RaisedLemmas.{none_done_if}
use Rattle.paraid_recover.proofs.OneMarkedLemmas.{in_log}
use Rattle.paraid_recover.proofs.OpenLemmas.{none_marked, open_never}
use Rattle.paraid_recover.specs.HeldMoments.{EndsHeld, KeepsHeld, Recovers, RecoversHeld}
use Rattle.paraid_recover.specs.MountCalls.{OnlyMountCalls}
use Rattle.paraid_recover.proofs.MountCallsLemmas.{mark_calls}
use Rattle.paraid_recover.specs.StandingMetas.{StandsInMoments}
use Rattle.paraid_recover.specs.Still.{IsUpToDate, StaysUnwritten}
use Rattle.paraid_recover.proofs.UnwrittenLemmas.{marked_never, unwritten_never}
use Rattle.paraid_recover.proofs.CommitMetasLemmas.{committed_metas}
use Rattle.paraid_txn.specs.Stores.{store_rack}
use Rattle.paraid_recover.specs.Bearing.{BearsOnce, EndsBorne, IsNewlyNamed}
use Rattle.paraid_recover.proofs.BearerLemmas.{can_told, none_newly}
use Rattle.paraid_recover.proofs.EndsLemmas.{borne_marked, ends_marked, then_marked}
use Rattle.paraid_recover.proofs.RecoverLemmas.{none_ready}
use Rattle.paraid_recover.proofs.RenewLemmas.{in_version_two}
use Rattle.paraid_recover.proofs.HeldAtRestLemmas.{next_marked}
use Rattle.paraid_recover.proofs.recovery.mark_or_renew.Given.{Over}
use Rattle.paraid_recover.proofs.recovery.mark_or_renew.Goals as goal
use Rattle.paraid_recover.proofs.recovery.mark_or_renew.Goals.{After-mark}

pub unmarked-requires : goal.unmarked-requires
unmarked-requires g c = record { named = c.requires.can.named; in_range = c.requires.can.in_range; exists = c.requires.can.exists; disks = c.requires.can.disks }

pub mark-requires : goal.mark-requires
mark-requires g c =
    let m = c.args.meta.now in
    let d = c.in-Some.disk in
    let only : (e : ℕ) → named_out m.out ≡ Some e → e ≡ d = λ e. c.unmarked.ensures.only d e c.in-Some.is in
    let below = c.unmarked.ensures.low d c.in-Some.is in
    let same = c.requires.can.disks in
    let epoch = c.requires.can.epoch in
    let fresh = c.requires.can.fresh in
    record {
      empty = c.requires.empty;
      only = only;
      low = (omega arith);
      epoch = epoch;
      named = c.requires.can.named;
      absent = c.unmarked.ensures.absent d c.in-Some.is;
      can = record {
        in_range = marked_in_range (of_version_two m) d m.epoch (in_version_two m m.epoch c.requires.can.in_range c.requires.can.in_range.counters.first c.requires.can.in_range.counters.epoch_fits) (omega arith) c.requires.can.in_range.counters.first (omega arith);
        epoch = omega arith;
        array = sym same;
        each = subst (λ (b : Batch). All (IsTargetInRange m.setup.geometry) (targets b)) (sym c.requires.empty) (λ k t lt. absurd (omega arith));
        log = record { can = λ x l not. c.requires.can.log.can x l (λ e. not (ap (λ (y : ℕ). Some y) (sym (only x e)))) };
        ready = none_ready _ c.requires.empty _ _ _;
      };
    }

-- the disk that is marked
low : (g : Over) (c : After-mark g) → c.in-Some.disk < c.args.meta.now.setup.geometry.disks
low g c = let below = c.unmarked.ensures.low c.in-Some.disk c.in-Some.is in let same = c.requires.can.disks in omega arith

gone : (g : Over) (c : After-mark g) (t : Trail) → g.R.Rack.told c.args.store.now.rack ≡ Some t → is_present ((now t).power c.in-Some.disk) ≡ false
gone g c t tells = ap is_present ((g.met.R.Rack.agrees _ t tells).power c.in-Some.disk ∙ c.unmarked.ensures.absent c.in-Some.disk c.in-Some.is)

holds : (g : Over) (c : After-mark g) (slots x : ℕ) (said : LogState) (old : Option Trail) → said.meta ≡ c.args.meta.now → Recovers slots x said old (g.R.Rack.told c.args.store.now.rack)
    → RecoversHeld slots x said old (g.R.Rack.told c.mark.new.store.rack)
holds g c slots x said old is recovers =
    let d = c.in-Some.disk in
    then_marked slots x said old (g.R.Rack.told c.args.store.now.rack) (g.R.Rack.told c.mark.new.store.rack) d
    (subst (λ (m : Meta). d < m.setup.geometry.disks) (sym is) (low g c))
    (λ e names. c.unmarked.ensures.only d e c.in-Some.is (ap (λ (m : Meta). named_out m.out) (sym is) ∙ names)) (gone g c) c.mark.ensures.grows recovers.holds recovers.ends
    (subst (λ (m : Meta). KeepsHeld (λ s. IsAtRest s m) slots m.setup.geometry.disks (g.R.Rack.told c.args.store.now.rack) (g.R.Rack.told c.mark.new.store.rack)) (sym is) (c.mark.ensures.held slots))

-- the meta that is given
epoch : (g : Over) (c : After-mark g) (e : ℕ) → e ≡ c.args.store.now.epoch + 1 → e ≡ c.args.meta.now.epoch + 1
epoch g c e is = is ∙ ap (λ (k : ℕ). k + 1) c.requires.can.epoch

-- the calls of the mark
log_calls : (g : Over) (c : After-mark g) → Ran (g.R.Rack.told c.args.store.now.rack) (g.R.Rack.told c.mark.new.store.rack) (EachCall (IsInLog c.args.store.now.disks))
log_calls g c =
    let next = marked_gone (of_version_two c.args.meta.now) c.in-Some.disk c.args.meta.now.epoch in
    ran_milder (EachCall (UsesInCommit next [])) (EachCall (IsInLog c.args.store.now.disks))
    (EachCall-milder (UsesInCommit next []) (IsInLog c.args.store.now.disks) (λ call uses. subst (λ (n : ℕ). IsInLog n call) (sym c.requires.can.disks) (in_log next call uses))) c.mark.ensures.calls

-- which a mount may make
allowed : (g : Over) (c : After-mark g) → OnlyMountCalls c.args.meta.now (g.R.Rack.told c.args.store.now.rack) (g.R.Rack.told c.mark.new.store.rack)
allowed g c =
    mark_calls c.args.meta.now (g.R.Rack.told c.args.store.now.rack) (g.R.Rack.told c.mark.new.store.rack) c.in-Some.disk c.args.meta.now.epoch
    (λ e. c.unmarked.ensures.only c.in-Some.disk e c.in-Some.is) c.mark.ensures.calls

-- which meta stands in the mark
metas : (g : Over) (c : After-mark g) (slots x : ℕ) (said : LogState) (old : Option Trail) → said.meta ≡ c.args.meta.now → Recovers slots x said old (g.R.Rack.told c.args.store.now.rack)
    → StandsInMoments slots x said old (g.R.Rack.told c.args.store.now.rack) → StandsInMoments slots x said old (g.R.Rack.told c.mark.new.store.rack)
metas g c slots x said old is recovers before =
    let d = c.in-Some.disk in
    let mid = g.R.Rack.told c.args.store.now.rack in
    let new = g.R.Rack.told c.mark.new.store.rack in
    let after : Meta → Meta = λ m. marked_gone (of_version_two m) d (m.epoch + 1) in
    committed_metas slots x said old mid new (after said.meta) (Some d) refl refl
    (λ t tells e name. let same : d ≡ e = (let z : Some d ≡ Some e = name in cc) in
    inr (subst (λ (k : ℕ). (k < said.meta.setup.geometry.disks) × (is_present ((now t).power k) ≡ false)) same
    (subst (λ (m : Meta). d < m.setup.geometry.disks) (sym is) (low g c), gone g c t tells)))
    (next_marked said.meta d (λ e names. c.unmarked.ensures.only d e c.in-Some.is (ap (λ (m : Meta). named_out m.out) (sym is) ∙ names)))
    before recovers.ends (subst (λ (m : Meta). IsWholeOrAbsent mid new m (after m) []) (sym is) c.mark.ensures.moments)

-- where a disk is gone, none is marked
once : (g : Over) (c : After-mark g) → BearsOnce c.args.meta.now (g.R.Rack.told c.args.store.now.rack) (g.R.Rack.told c.mark.new.store.rack)
once g c two =
    let m = c.args.meta.now in
    open_never (gone_out m.out) (g.R.Rack.told c.args.store.now.rack) (g.R.Rack.told c.mark.new.store.rack) (EachCall (IsInLog c.args.store.now.disks)) (log_calls g c)
    (none_marked m (λ e. (g.R.Rack.slot c.args.store.now.rack e).power) c.in-Some.disk (sym c.unmarked.ensures.value ∙ c.in-Some.is))

-- where one is to be marked, there is something to be brought up to date
unwritten : (g : Over) (c : After-mark g) → StaysUnwritten (IsUpToDate c.args.meta.now) (g.R.Rack.told c.args.store.now.rack) (g.R.Rack.told c.mark.new.store.rack)
unwritten g c =
    let m = c.args.meta.now in
    let slot = g.R.Rack.slot c.args.store.now.rack in
    unwritten_never m (g.R.Rack.told c.args.store.now.rack) (g.R.Rack.told c.mark.new.store.rack) (EachCall (IsInLog c.args.store.now.disks)) (log_calls g c)
    (λ s tells is.
    let marks : to_mark (λ d. (slot d).power) m ≡ Some c.in-Some.disk = sym c.unmarked.ensures.value ∙ c.in-Some.is in
    marked_never m (now s) slot c.in-Some.disk (g.met.R.Rack.agrees c.args.store.now.rack s tells) marks is)

pub returns-in_err-mark : goal.returns-in_err-mark
returns-in_err-mark g c = record {
  kept = record {
    slots = c.mark.ensures.kept.slots;
    disks = c.mark.ensures.kept.disks;
    powers = c.mark.ensures.kept.powers;
    each = c.mark.ensures.kept.each;
    two =
        raised _ _ _ c.from_residual.ensures.1
        (subst (λ (o : Option ℕ). AreTwoDownBeside (IsOutOfCommit (λ e. (g.R.Rack.slot c.args.store.now.rack e).power) c.args.store.now.disks c.args.store.now.named o)
        (g.R.Rack.slot c.args.store.now.rack) (g.R.Rack.slot c.mark.new.store.rack) c.in_err-mark.field-0.0) (sym c.in-Some.is ∙ c.unmarked.ensures.value) c.in_err-mark.ensures.kept.two);
    gone =
        raised _ _ _ c.from_residual.ensures.1
        (subst (λ (o : Option ℕ). AreGoneSince (IsOutOfCommit (λ e. (g.R.Rack.slot c.args.store.now.rack e).power) c.args.store.now.disks c.args.store.now.named o)
        (g.R.Rack.slot c.args.store.now.rack) (g.R.Rack.slot c.mark.new.store.rack) c.in_err-mark.field-0.0) (sym c.in-Some.is ∙ c.unmarked.ensures.value) c.in_err-mark.ensures.kept.gone);
    order =
        raised _ _ _ c.from_residual.ensures.1
        (subst (λ (o : Option ℕ). TellsSecondLoss (IsOutOfCommit (λ e. (g.R.Rack.slot c.args.store.now.rack e).power) c.args.store.now.disks c.args.store.now.named o)
        (g.R.Rack.told c.args.store.now.rack) (g.R.Rack.told c.mark.new.store.rack) c.in_err-mark.field-0.0) (sym c.in-Some.is ∙ c.unmarked.ensures.value) c.in_err-mark.ensures.kept.order);
  };
  given = none_done_if _ c.from_residual.result _ c.from_residual.ensures.1;
  epoch = none_done_if _ c.from_residual.result _ c.from_residual.ensures.1;
  named = none_done_if _ c.from_residual.result _ c.from_residual.ensures.1;
  synced = none_done_if _ c.from_residual.result _ c.from_residual.ensures.1;
  one = none_done_if _ c.from_residual.result _ c.from_residual.ensures.1;
  calls = log_calls g (goal.at.returns-in_err-mark g c).After-mark;
  recovers = record {
    allowed = allowed g (goal.at.returns-in_err-mark g c).After-mark;
    holds = holds g (goal.at.returns-in_err-mark g c).After-mark;
    metas = metas g (goal.at.returns-in_err-mark g c).After-mark;
    once = once g (goal.at.returns-in_err-mark g c).After-mark;
    unwritten = unwritten g (goal.at.returns-in_err-mark g c).After-mark;
  };
  ends = none_done_if _ c.from_residual.result _ c.from_residual.ensures.1;
  marked = none_done_if _ c.from_residual.result _ c.from_residual.ensures.1;
}

pub returns : goal.returns
returns g c = record {
  kept = record {
    slots = c.mark.ensures.kept.slots;
    disks = c.mark.ensures.kept.disks;
    powers = c.mark.ensures.kept.powers;
    each = c.mark.ensures.kept.each;
    two = tt;
    gone = tt;
    order = tt;
  };
  given =
      let at = goal.at.returns g c in
      let d = c.in-Some.disk in
      let m = c.args.meta.now in
      let given : record c.next_marked.result { epoch = c.epoch.result } ≡ marked_gone (of_version_two m) d (m.epoch + 1) =
      ap (λ (n : Meta). record n { epoch = c.epoch.result }) c.next_marked.ensures ∙ ap (λ (e : ℕ). marked_gone (of_version_two m) d e) (epoch g at.After-mark c.epoch.result (c.epoch.ensures ∙ c.in_ok-mark.ensures.marked.epoch)) in
      given ∙ sym (ap (with_mark m) (sym c.unmarked.ensures.value ∙ c.in-Some.is));
  epoch = c.epoch.ensures;
  named = ap (λ (n : Meta). named_out n.out) c.next_marked.ensures ∙ sym c.in_ok-mark.ensures.marked.named;
  synced = c.in_ok-mark.ensures.marked.synced;
  one = λ one.
      subst (λ (o : Option ℕ). IsOneOut c.args.store.now.disks o (g.R.Rack.slot c.mark.new.store.rack)) (sym (ap (λ (n : Meta). named_out n.out) c.next_marked.ensures)) (c.in_ok-mark.ensures.marked.one one);
  calls = log_calls g (goal.at.returns g c).After-mark;
  recovers = record {
    allowed = allowed g (goal.at.returns g c).After-mark;
    holds = holds g (goal.at.returns g c).After-mark;
    metas = metas g (goal.at.returns g c).After-mark;
    once = once g (goal.at.returns g c).After-mark;
    unwritten = unwritten g (goal.at.returns g c).After-mark;
  };
  ends = λ slots x said old is recovers.
      let at = goal.at.returns g c in
      let d = c.in-Some.disk in
      let m = c.args.meta.now in
      let given : record c.next_marked.result { epoch = c.epoch.result } ≡ marked_gone (of_version_two m) d (m.epoch + 1) =
      ap (λ (n : Meta). record n { epoch = c.epoch.result }) c.next_marked.ensures ∙ ap (λ (e : ℕ). marked_gone (of_version_two m) d e) (epoch g at.After-mark c.epoch.result (c.epoch.ensures ∙ c.in_ok-mark.ensures.marked.epoch)) in
      let only : (e : ℕ) → named_out m.out ≡ Some e → e ≡ d = λ e. c.unmarked.ensures.only d e c.in-Some.is in
      let new = g.R.Rack.told c.mark.new.store.rack in
      let mid = g.R.Rack.told c.args.store.now.rack in
      subst (λ (n : Meta). EndsHeld slots x said n old new) (sym given)
      (ends_marked slots x said (marked_gone (of_version_two m) d (m.epoch + 1)) c.args.nothing.now old mid new d
      (subst (λ (n : Meta). d < n.setup.geometry.disks) (sym is) (low g at.After-mark))
      (λ e names. only e (ap (λ (n : Meta). named_out n.out) (sym is) ∙ names)) refl (ap (λ (n : Meta). n.setup) (sym is)) (gone g at.After-mark)
      (subst (λ (n : Meta). (s : Disks) → IsAtRest s n → IsNext s n (marked_gone (of_version_two m) d (m.epoch + 1))) (sym is) (next_marked m d only))
      recovers.grows c.mark.ensures.grows (holds g at.After-mark slots x said old is recovers) recovers.ends
      (subst (λ (n : Meta). EndsCommitted mid new n (marked_gone (of_version_two m) d (m.epoch + 1)) c.args.nothing.now) (sym is) c.in_ok-mark.ensures.committed));
  marked = λ slots x said old is recovers.
      let at = goal.at.returns g c in
      let d = c.in-Some.disk in
      let m = c.args.meta.now in
      let after : Meta → Meta = λ n. marked_gone (of_version_two n) d (n.epoch + 1) in
      let only : (e : ℕ) → named_out m.out ≡ Some e → e ≡ d = λ e. c.unmarked.ensures.only d e c.in-Some.is in
      let new = g.R.Rack.told c.mark.new.store.rack in
      let mid = g.R.Rack.told c.args.store.now.rack in
      let named : Some d ≡ c.mark.new.store.named = sym c.in_ok-mark.ensures.marked.named in
      subst (λ (o : Option ℕ). EndsBorne (IsNewlyNamed (named_out m.out) o) slots x said old new) named
      (subst (λ (n : Meta). EndsBorne (IsNewlyNamed (named_out n.out) (Some d)) slots x said old new) is
      (borne_marked slots x said (after said.meta) [] old mid new
      (next_marked said.meta d (λ e names. only e (ap (λ (n : Meta). named_out n.out) (sym is) ∙ names)))
      (λ u tells y newly.
      let is_d : y ≡ d = (let z : Some d ≡ Some y = newly.0.0 in cc) in
      let low = newly.0.1 in
      can_told (now u) (g.R.Rack.slot (store_rack c.args.store.now)) (g.met.R.Rack.agrees (store_rack c.args.store.now) u tells)
      (c.requires.witness (λ second. let at : 2 ≡ d = only 2 second in omega arith)))
      c.mark.ensures.grows recovers.ends
      (subst (λ (b : Batch). EndsCommitted mid new said.meta (after said.meta) b) c.requires.empty
      (subst (λ (n : Meta). EndsCommitted mid new n (after n) c.args.nothing.now) (sym is) c.in_ok-mark.ensures.committed))));
}

-- none is to be marked
pub renew-requires : goal.renew-requires
renew-requires g c = record {
  empty = c.requires.empty;
  can = c.requires.can;
}

pub returns-in_default : goal.returns-in_default
returns-in_default g c =
    let m = c.args.meta.now in
    let a = g.R.Rack.slot c.args.store.now.rack in
    let b = g.R.Rack.slot c.renew.new.store.rack in
    let none : None ≡ to_mark (λ e. (a e).power) m = sym c.in_default.is ∙ c.unmarked.ensures.value in
    let out : Option ℕ → ℕ → Type 0 = λ o. IsOutOfCommit (λ e. (a e).power) c.args.store.now.disks c.args.store.now.named o in
    record {
      kept = record {
        slots = c.renew.ensures.kept.slots;
        disks = c.renew.ensures.kept.disks;
        powers = c.renew.ensures.kept.powers;
        each = c.renew.ensures.kept.each;
        two = subst (λ (o : Option ℕ). IfErr c.renew.result (AreTwoDownBeside (out o) a b)) none c.renew.ensures.kept.two;
        gone = subst (λ (o : Option ℕ). IfErr c.renew.result (AreGoneSince (out o) a b)) none c.renew.ensures.kept.gone;
        order = subst (λ (o : Option ℕ). IfErr c.renew.result (TellsSecondLoss (out o) (g.R.Rack.told c.args.store.now.rack) (g.R.Rack.told c.renew.new.store.rack))) none c.renew.ensures.kept.order;
      };
      given = subst (λ (o : Option ℕ). IfOk c.renew.result (λ n. n ≡ with_mark m o)) none c.renew.ensures.given;
      epoch = c.renew.ensures.epoch;
      named = c.renew.ensures.named;
      synced = c.renew.ensures.synced;
      one = c.renew.ensures.one;
      calls = c.renew.ensures.calls;
      recovers = record {
        allowed = c.renew.ensures.recovers.allowed;
        holds = c.renew.ensures.recovers.holds;
        metas = c.renew.ensures.recovers.metas;
        once = c.renew.ensures.recovers.once;
        unwritten = c.renew.ensures.recovers.unwritten;
      };
      ends = c.renew.ensures.ends;
      marked = none_newly c.renew.result m c.renew.new.store.named (g.R.Rack.told c.args.store.now.rack) (g.R.Rack.told c.renew.new.store.rack) c.renew.ensures.given c.renew.ensures.named c.renew.ensures.ends;
    }
