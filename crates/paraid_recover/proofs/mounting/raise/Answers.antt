use Rattle.std.specs.Prelude.{◌≡◌, ℕ, ◌≤◌, ◌⊎◌, Bool, true, false, length, Option, None}
use Rattle.std.proofs.Common.{ap, arith, inl, inr, refl, subst, sym, ◌∙◌}
use Rattle.paraid_base.specs.States.{gone_out}
use Rattle.paraid_base.specs.Told.{HasRisen}
use Rattle.paraid_base.proofs.ToldLemmas.{HasRisen-later, HasRisen-sooner}
use Rattle.paraid_rack.specs.declared.call.Power.TheVariants.{Absent}
use Rattle.paraid_rack.specs.Disks.{is_present}
use Rattle.paraid_rack.specs.Slots.{Slot}
use Rattle.paraid_txn.proofs.MeansLemmas.{absent_power}
use Rattle.paraid_recover.proofs.FitLemmas.{gone_named}
use Rattle.paraid_rack.specs.Told.{Ran}
use Rattle.paraid_rack.specs.Trail.{Trail, now}
use Rattle.paraid_record.specs.declared.meta.Meta.{Meta}
use Rattle.paraid_record.specs.declared.meta.Setup.{Setup}
use Rattle.paraid_base.specs.declared.fault.Two.{Two}
use Rattle.paraid_image.specs.Lost.{TellsLosses}
use Rattle.paraid_image.specs.Out.{first_absent, named_out, or_else}
use Rattle.paraid_image.specs.Sides.{LogState}
use Rattle.paraid_txn.specs.Losses.{AreGoneSince, IsOneOut, IsOutOfCommit, IsWell, AreTwoDownBeside, TellsSecondLoss}
use Rattle.paraid_txn.specs.Uses.{EachCall}
use Rattle.paraid_txn.specs.Stores.{store_out, store_rack}
use Rattle.paraid_recover.specs.Bearing.{BearsOnce, EndsBorne, IsNamedLog}
use Rattle.paraid_recover.specs.HeldMoments.{EndsHeld, IsOutAtEnd, Recovers, RecoversHeld}
use Rattle.paraid_recover.specs.MountCalls.{OnlyMountCalls}
use Rattle.paraid_recover.specs.RecoveryMark.{to_mark, with_mark}
use Rattle.paraid_recover.specs.Mounted.{IsServable, with_loss}
use Rattle.paraid_dirty.specs.Table.{is_dirty}
use Rattle.paraid_recover.specs.Powers.{IsPowerCall, IsPowerChanged}
use Rattle.paraid_recover.proofs.BearerLemmas.{borne_turned, marked_turned}
use Rattle.paraid_recover.proofs.FarLemmas.{far_ran, far_then, logs_far, map_on, turn_far}
use Rattle.paraid_recover.proofs.OpenLemmas.{once_then, open_turns}
use Rattle.paraid_recover.proofs.StillLemmas.{logs_still}
use Rattle.paraid_recover.specs.Map.{KeepsFar}
use Rattle.paraid_recover.specs.Quiet.{WritesOnlyLogs}
use Rattle.paraid_recover.proofs.MapServedLemmas.{named_or_absent}
use Rattle.paraid_recover.proofs.MarkMomentLemmas.{mark_by_slots, mark_sooner}
use Rattle.paraid_recover.proofs.GoneLemmas.{gone_beside, gone_sooner, none_comes, out_marked, stays_absent}
use Rattle.paraid_recover.proofs.MountCallsLemmas.{mount_then, power_calls}
use Rattle.paraid_recover.proofs.ServableLemmas.{disks_marked, names_stay, servable, two_marked, who_is_out}
use Rattle.paraid_recover.specs.StandingMetas.{StandsInMoments}
use Rattle.paraid_recover.specs.Still.{IsUpToDate, StaysUnwritten}
use Rattle.paraid_recover.proofs.UnwrittenLemmas.{unwritten_turns}
use Rattle.paraid_recover.proofs.SecondLossLemmas.{one_fewer, still_tells, tells_marked}
use Rattle.paraid_recover.specs.StandingMetas.StandsForeseen.{marked}
use Rattle.paraid_recover.proofs.RestMetasLemmas.{turns_metas}
use Rattle.paraid_recover.proofs.TurnsLemmas.{turns_end, turns_hold}
use Rattle.paraid_recover.proofs.mounting.raise.Given.{Over}
use Rattle.paraid_recover.proofs.mounting.raise.Goals as goal
use Rattle.paraid_recover.proofs.mounting.raise.Goals.{After-power_disks}

-- the meta that stands has the setup of the one before
setup_is : (g : Over) (c : After-power_disks g) → c.in-Ok.standing.setup ≡ c.args.meta.now.setup
setup_is g c = let given = c.in-Ok.ensures.given in ap (λ (x : Meta). x.setup) given.1 ∙ disks_marked c.args.meta.now given.0

disks_same : (g : Over) (c : After-power_disks g) → c.in-Ok.standing.setup.geometry.disks ≡ c.args.meta.now.setup.geometry.disks
disks_same g c = ap (λ (s : Setup). s.geometry.disks) (setup_is g c)

-- who is out as the disks are powered
who : (g : Over) (c : After-power_disks g) (said : LogState) → said.meta ≡ c.args.meta.now → IsOutAtEnd said c.in-Ok.standing (g.R.Rack.told (store_rack c.settle.new.store))
who g c said is =
    let given = c.in-Ok.ensures.given in
    let told = g.R.Rack.told (store_rack c.settle.new.store) in
    subst (λ (x : Meta). IsOutAtEnd said x told) (sym given.1)
    (who_is_out c.args.meta.now given.0 (g.R.Rack.slot (store_rack c.args.store.now)) (g.R.Rack.slot (store_rack c.settle.new.store)) (g.R.Rack.slot (store_rack c.power_disks.new.store))
    c.settle.ensures.kept.each c.settle.ensures.kept.powers.no_fall (λ x. (c.power_disks.ensures.turned x).later) given.2 said told is (g.met.R.Rack.agrees (store_rack c.settle.new.store)))

disks_said : (g : Over) (c : After-power_disks g) (said : LogState) → said.meta ≡ c.args.meta.now → c.in-Ok.standing.setup.geometry.disks ≡ said.meta.setup.geometry.disks
disks_said g c said is = disks_same g c ∙ ap (λ (x : Meta). x.setup.geometry.disks) (sym is)

holds : (g : Over) (c : After-power_disks g) (slots x : ℕ) (said : LogState) (old : Option Trail) → said.meta ≡ c.args.meta.now → Recovers slots x said old (g.R.Rack.told (store_rack c.args.store.now))
    → RecoversHeld slots x said old (g.R.Rack.told (store_rack c.power_disks.new.store))
holds g c slots x said old is r =
    turns_hold slots x said c.in-Ok.standing old (g.R.Rack.told (store_rack c.settle.new.store)) (g.R.Rack.told (store_rack c.power_disks.new.store)) (disks_said g c said is) (who g c said is)
    c.power_disks.ensures.calls (c.settle.ensures.recovers.holds slots x said old is r) (c.in-Ok.ensures.ends slots x said old is r)

ends : (g : Over) (c : After-power_disks g) (slots x : ℕ) (said : LogState) (old : Option Trail) → said.meta ≡ c.args.meta.now → Recovers slots x said old (g.R.Rack.told (store_rack c.args.store.now))
    → EndsHeld slots x said c.in-Ok.standing old (g.R.Rack.told (store_rack c.power_disks.new.store))
ends g c slots x said old is r =
    turns_end slots x said c.in-Ok.standing old (g.R.Rack.told (store_rack c.settle.new.store)) (g.R.Rack.told (store_rack c.power_disks.new.store)) (disks_said g c said is) (who g c said is)
    c.power_disks.ensures.calls (c.settle.ensures.recovers.holds slots x said old is r) (c.in-Ok.ensures.ends slots x said old is r)

-- the calls are those of a mount
allowed : (g : Over) (c : After-power_disks g) → OnlyMountCalls c.args.meta.now (g.R.Rack.told (store_rack c.args.store.now)) (g.R.Rack.told (store_rack c.power_disks.new.store))
allowed g c =
    let m = c.args.meta.now in
    let given = c.in-Ok.ensures.given in
    let told_1 = g.R.Rack.told (store_rack c.settle.new.store) in
    let told_2 = g.R.Rack.told (store_rack c.power_disks.new.store) in
    mount_then m (g.R.Rack.told (store_rack c.args.store.now)) told_1 told_2 c.settle.ensures.recovers.allowed
    (power_calls m told_1 told_2 given.0 (λ d e is. given.3 d is e) (subst (λ (x : Meta). Ran told_1 told_2 (EachCall (IsPowerCall x))) given.1 c.power_disks.ensures.calls))

-- which meta stands at each moment
metas : (g : Over) (c : After-power_disks g) (slots x : ℕ) (said : LogState) (old : Option Trail) → said.meta ≡ c.args.meta.now → Recovers slots x said old (g.R.Rack.told (store_rack c.args.store.now))
    → StandsInMoments slots x said old (g.R.Rack.told (store_rack c.args.store.now)) → StandsInMoments slots x said old (g.R.Rack.told (store_rack c.power_disks.new.store))
metas g c slots x said old is r before =
    let given = c.in-Ok.ensures.given in
    turns_metas slots x said c.in-Ok.standing old (g.R.Rack.told (store_rack c.settle.new.store)) (g.R.Rack.told (store_rack c.power_disks.new.store)) (disks_said g c said is) (who g c said is)
    c.power_disks.ensures.calls (c.settle.ensures.recovers.holds slots x said old is r) (c.in-Ok.ensures.ends slots x said old is r)
    (λ s i. marked given.0 (given.1 ∙ ap (λ (m : Meta). with_mark m given.0) (sym is))) (c.settle.ensures.recovers.metas slots x said old is r before)

powers : (g : Over) (c : After-power_disks g) → (mark : Option ℕ)
    × ((slots x : ℕ) (said : LogState) (old : Option Trail) → said.meta ≡ c.args.meta.now → Recovers slots x said old (g.R.Rack.told (store_rack c.args.store.now))
    → EndsHeld slots x said (with_mark c.args.meta.now mark) old (g.R.Rack.told (store_rack c.settle.new.store)))
    × ((said : LogState) → said.meta ≡ c.args.meta.now → IsOutAtEnd said (with_mark c.args.meta.now mark) (g.R.Rack.told (store_rack c.settle.new.store)))
    × Ran (g.R.Rack.told (store_rack c.settle.new.store)) (g.R.Rack.told (store_rack c.power_disks.new.store)) (EachCall (IsPowerCall (with_mark c.args.meta.now mark)))
powers g c =
    let given = c.in-Ok.ensures.given in
    let told_1 = g.R.Rack.told (store_rack c.settle.new.store) in (
      given.0,
      λ slots x said old is r. subst (λ (m : Meta). EndsHeld slots x said m old told_1) given.1 (c.in-Ok.ensures.ends slots x said old is r),
      λ said is. subst (λ (m : Meta). IsOutAtEnd said m told_1) given.1 (who g c said is),
      subst (λ (m : Meta). Ran told_1 (g.R.Rack.told (store_rack c.power_disks.new.store)) (EachCall (IsPowerCall m))) given.1 c.power_disks.ensures.calls,
    )

-- a witness that is borne is not borne again
once : (g : Over) (c : After-power_disks g) → BearsOnce c.args.meta.now (g.R.Rack.told (store_rack c.args.store.now)) (g.R.Rack.told (store_rack c.power_disks.new.store))
once g c =
    let m = c.args.meta.now in
    let told_1 = g.R.Rack.told (store_rack c.settle.new.store) in
    let told_2 = g.R.Rack.told (store_rack c.power_disks.new.store) in
    once_then m (g.R.Rack.told (store_rack c.args.store.now)) told_1 told_2 c.settle.ensures.recovers.once
    (λ two. open_turns c.in-Ok.standing (gone_out m.out) told_1 told_2 c.power_disks.ensures.calls)

-- where nothing is to be brought up to date, nothing is written
unwritten : (g : Over) (c : After-power_disks g) → StaysUnwritten (IsUpToDate c.args.meta.now) (g.R.Rack.told (store_rack c.args.store.now)) (g.R.Rack.told (store_rack c.power_disks.new.store))
unwritten g c =
    unwritten_turns c.args.meta.now c.in-Ok.standing (g.R.Rack.told (store_rack c.args.store.now)) (g.R.Rack.told (store_rack c.settle.new.store)) (g.R.Rack.told (store_rack c.power_disks.new.store))
    c.settle.ensures.recovers.unwritten c.power_disks.ensures.calls

-- the slots once the disks are powered
later : (g : Over) (c : After-power_disks g) (d : ℕ) → (g.R.Rack.slot (store_rack c.args.store.now) d).faults ≤ (g.R.Rack.slot (store_rack c.power_disks.new.store) d).faults
later g c d = let first = c.settle.ensures.kept.powers.no_fall d in let second = (c.power_disks.ensures.turned d).later in omega arith

absent : (g : Over) (c : After-power_disks g) (d : ℕ) → (g.R.Rack.slot (store_rack c.args.store.now) d).power ≡ Absent → (g.R.Rack.slot (store_rack c.power_disks.new.store) d).power ≡ Absent
absent g c d gone =
    let a = g.R.Rack.slot (store_rack c.args.store.now) in
    let b = g.R.Rack.slot (store_rack c.settle.new.store) in
    stays_absent b (g.R.Rack.slot (store_rack c.power_disks.new.store)) d (λ e. (c.power_disks.ensures.turned e).there) (stays_absent a b d (none_comes a b c.settle.ensures.kept.powers) gone)

-- no block past the log changes
kept_far : (g : Over) (c : After-power_disks g) → KeepsFar (g.R.Rack.told (store_rack c.args.store.now)) (g.R.Rack.told (store_rack c.power_disks.new.store))
kept_far g c =
    let told_1 = g.R.Rack.told (store_rack c.settle.new.store) in
    let told_2 = g.R.Rack.told (store_rack c.power_disks.new.store) in
    far_then (g.R.Rack.told (store_rack c.args.store.now)) told_1 told_2 (far_ran WritesOnlyLogs _ told_1 logs_far c.settle.ensures.still)
    (far_ran (IsPowerCall c.in-Ok.standing) told_1 told_2 (turn_far c.in-Ok.standing) c.power_disks.ensures.calls)

pub settle-requires : goal.settle-requires
settle-requires g c = record { empty = c.requires.empty; can = c.requires.can }

pub with_loss-requires : goal.with_loss-requires
with_loss-requires g c =
    let at = c.in_default.ensures in record {
      named = at.same.named ∙ sym c.in-Ok.ensures.stood.named;
      in_range = c.in-Ok.ensures.stood.fit.in_range;
      exists = (let fits = c.in-Ok.ensures.stood.fit.enough in let same = at.slots in omega arith);
      disks = at.same.disks ∙ c.settle.ensures.kept.disks ∙ c.requires.can.disks ∙ sym (ap (λ (x : Meta). x.setup.geometry.disks) c.in-Ok.ensures.given.1 ∙ ap (λ (s : Setup). s.geometry.disks) (disks_marked c.args.meta.now c.in-Ok.ensures.given.0));
    }

pub power_disks-requires : goal.power_disks-requires
power_disks-requires g c =
    let m = c.in-Ok.standing in
    let fit = c.in-Ok.ensures.stood.fit in record {
      exists = fit.enough;
      disks = c.settle.ensures.kept.disks ∙ c.requires.can.disks ∙ sym (ap (λ (x : Meta). x.setup.geometry.disks) c.in-Ok.ensures.given.1 ∙ ap (λ (s : Setup). s.geometry.disks) (disks_marked c.args.meta.now c.in-Ok.ensures.given.0));
      named = sym c.in-Ok.ensures.stood.named;
      awake = fit.awake;
      synced = λ d low not. c.in-Ok.ensures.stood.synced d low (λ gone. not (gone_named m.out d gone));
    }

-- a disk that is absent then was so before, or has failed since
failed : (a b c : Slot) (m : Meta) (d : ℕ) → HasRisen a.faults b.faults ⊎ IsWell a b → a.faults ≤ b.faults → IsPowerChanged m d b c → c.power ≡ Absent → (a.power ≡ Absent) ⊎ HasRisen a.faults c.faults
failed a b c m d each before turned gone = split (is_present b.power) refl
  where
    split : (x : Bool) → is_present b.power ≡ x → (a.power ≡ Absent) ⊎ HasRisen a.faults c.faults
    split true here = inr (HasRisen-sooner a.faults b.faults c.faults before (turned.risen here (ap is_present gone)))
    split false off = elim each [ inl risen ↦ inr (HasRisen-later a.faults b.faults c.faults risen turned.later) | inr well ↦ inl (sym well.power ∙ absent_power b.power off) ]

pub returns-in-Err : goal.returns-in-Err
returns-in-Err g c = record {
  rows = c.settle.ensures.rows;
  narrow = c.settle.ensures.narrow;
  kept = record {
    slots = c.settle.ensures.kept.slots;
    two = c.in-Err.ensures.kept.two;
    gone = c.in-Err.ensures.kept.gone;
    order = c.in-Err.ensures.kept.order;
    later = c.settle.ensures.kept.powers.no_fall;
    failed = λ d gone. elim (c.settle.ensures.kept.each d) [ inl risen ↦ inr risen | inr well ↦ inl (sym well.power ∙ gone) ];
    absent = λ d gone.
        let a = g.R.Rack.slot (store_rack c.args.store.now) in
        let b = g.R.Rack.slot (store_rack c.settle.new.store) in
        stays_absent a b d (none_comes a b c.settle.ensures.kept.powers) gone;
    far = far_ran WritesOnlyLogs _ _ logs_far c.settle.ensures.still;
  };
  servable = tt;
  recovers = record {
    allowed = c.settle.ensures.recovers.allowed;
    holds = c.settle.ensures.recovers.holds;
    metas = c.settle.ensures.recovers.metas;
    once = c.settle.ensures.recovers.once;
    unwritten = c.settle.ensures.recovers.unwritten;
  };
  split = (g.R.Rack.told (store_rack c.settle.new.store), logs_still _ _ c.settle.ensures.still, inl refl);
  ends = tt;
  map = tt;
  out = tt;
  borne = tt;
  marked = tt;
}

-- which of two disks failed first, where the second does so as the disks are powered
tells : (g : Over) (c : After-power_disks g) (two : Two)
    → Ran (g.R.Rack.told (store_rack c.settle.new.store)) (g.R.Rack.told (store_rack c.power_disks.new.store)) (λ s cs. TellsLosses (store_out g.R.Rack.slot c.settle.new.store) two cs)
    → TellsSecondLoss (IsOutOfCommit (λ e. (g.R.Rack.slot (store_rack c.args.store.now) e).power) c.args.meta.now.setup.geometry.disks (named_out c.args.meta.now.out) None)
    (g.R.Rack.told (store_rack c.args.store.now)) (g.R.Rack.told (store_rack c.power_disks.new.store)) two
tells g c two order =
    let m = c.args.meta.now in
    let x = c.in-Ok.standing in
    let given = c.in-Ok.ensures.given in
    let a = g.R.Rack.slot (store_rack c.args.store.now) in
    let b = g.R.Rack.slot (store_rack c.settle.new.store) in
    let told_0 = g.R.Rack.told (store_rack c.args.store.now) in
    let told_1 = g.R.Rack.told (store_rack c.settle.new.store) in
    let told_2 = g.R.Rack.told (store_rack c.power_disks.new.store) in
    let power = (λ (e : ℕ). (b e).power) in
    still_tells m a b told_0 told_1 (g.met.R.Rack.agrees (store_rack c.args.store.now)) (g.met.R.Rack.agrees (store_rack c.settle.new.store)) (logs_still told_0 told_1 c.settle.ensures.still) c.settle.ensures.recovers.allowed
    (λ one.
    one_fewer m.setup.geometry.disks (named_out m.out) (named_out x.out) b (λ e name. ap (λ (y : Meta). named_out y.out) given.1 ∙ names_stay m given.0 (λ d is. given.3 d is) e name)
    (subst (λ (k : ℕ). IsOneOut k (named_out x.out) b) (disks_same g c) c.in-Ok.ensures.stood.fit.one))
    told_2 two
    (tells_marked m x given.0 b (store_out g.R.Rack.slot c.settle.new.store) told_1 told_2 two given.1 given.2 (λ d is. given.3 d is)
    (ap (λ (o : Option ℕ). or_else o (first_absent power c.settle.new.store.disks)) (sym c.in-Ok.ensures.stood.named)
    ∙ ap (λ (k : ℕ). or_else (named_out x.out) (first_absent power k)) (c.settle.ensures.kept.disks ∙ c.requires.can.disks ∙ sym (disks_same g c)))
    order)

pub returns-in-Err-power_disks : goal.returns-in-Err-power_disks
returns-in-Err-power_disks g c = record {
  rows = c.settle.ensures.rows;
  narrow = c.settle.ensures.narrow;
  kept = record {
    slots = c.power_disks.ensures.slots ∙ c.settle.ensures.kept.slots;
    two =
        let at = (goal.at.returns-in-Err-power_disks g c).After-power_disks in
        let meta = c.args.meta.now in
        let given = c.in-Ok.ensures.given in
        let b = g.R.Rack.slot (store_rack c.settle.new.store) in
        let d = g.R.Rack.slot (store_rack c.power_disks.new.store) in
        two_marked meta given.0 (g.R.Rack.slot (store_rack c.args.store.now)) b d c.settle.ensures.kept.each c.settle.ensures.kept.powers.no_fall (λ x. (c.power_disks.ensures.turned x).later) given.2 c.in-Err-power_disks.two
        (subst (λ (k : ℕ). AreTwoDownBeside (IsOutOfCommit (λ e. (b e).power) k (named_out (with_mark meta given.0).out) None) b d c.in-Err-power_disks.two) (ap (λ (s : Setup). s.geometry.disks) (disks_marked meta given.0))
        (subst (λ (x : Meta). AreTwoDownBeside (IsOutOfCommit (λ e. (b e).power) x.setup.geometry.disks (named_out x.out) None) b d c.in-Err-power_disks.two) given.1 c.in-Err-power_disks.ensures.two));
    gone =
        let m = c.args.meta.now in
        let given = c.in-Ok.ensures.given in
        let a = g.R.Rack.slot (store_rack c.args.store.now) in
        let b = g.R.Rack.slot (store_rack c.settle.new.store) in
        let d = g.R.Rack.slot (store_rack c.power_disks.new.store) in
        let k = m.setup.geometry.disks in
        let power = (λ (e : ℕ). (b e).power) in
        let two = c.in-Err-power_disks.two in
        let marked_is = with_mark m given.0 in
        gone_sooner k (named_out m.out) a b d (none_comes a b c.settle.ensures.kept.powers) (λ e. stays_absent b d e (λ x. (c.power_disks.ensures.turned x).there)) two
        (gone_beside (IsOutOfCommit power k (named_out marked_is.out) None) (IsOutOfCommit power k (named_out m.out) None) b d two (out_marked m given.0 power given.2)
        (subst (λ (x : ℕ). AreGoneSince (IsOutOfCommit power x (named_out marked_is.out) None) b d two) (ap (λ (s : Setup). s.geometry.disks) (disks_marked m given.0))
        (subst (λ (x : Meta). AreGoneSince (IsOutOfCommit power x.setup.geometry.disks (named_out x.out) None) b d two) given.1 c.in-Err-power_disks.ensures.gone)));
    order = tells g (goal.at.returns-in-Err-power_disks g c).After-power_disks c.in-Err-power_disks.two c.in-Err-power_disks.ensures.order;
    later = later g (goal.at.returns-in-Err-power_disks g c).After-power_disks;
    failed = λ d gone. failed _ (g.R.Rack.slot (store_rack c.settle.new.store) d) _ c.in-Ok.standing d (c.settle.ensures.kept.each d) (c.settle.ensures.kept.powers.no_fall d) (c.power_disks.ensures.turned d) gone;
    absent = absent g (goal.at.returns-in-Err-power_disks g c).After-power_disks;
    far = kept_far g (goal.at.returns-in-Err-power_disks g c).After-power_disks;
  };
  servable = tt;
  recovers = record {
    allowed = allowed g (goal.at.returns-in-Err-power_disks g c).After-power_disks;
    holds = holds g (goal.at.returns-in-Err-power_disks g c).After-power_disks;
    metas = metas g (goal.at.returns-in-Err-power_disks g c).After-power_disks;
    once = once g (goal.at.returns-in-Err-power_disks g c).After-power_disks;
    unwritten = unwritten g (goal.at.returns-in-Err-power_disks g c).After-power_disks;
  };
  split =
      (g.R.Rack.told (store_rack c.settle.new.store), logs_still _ _ c.settle.ensures.still, inr (powers g (goal.at.returns-in-Err-power_disks g c).After-power_disks));
  ends = tt;
  map = tt;
  out = tt;
  borne = tt;
  marked = tt;
}

pub returns : goal.returns
returns g c = record {
  rows = c.settle.ensures.rows;
  narrow = c.settle.ensures.narrow;
  kept = record {
    slots = c.power_disks.ensures.slots ∙ c.settle.ensures.kept.slots;
    two = tt;
    gone = tt;
    order = tt;
    later = later g (goal.at.returns g c).After-power_disks;
    failed = λ d gone. failed _ (g.R.Rack.slot (store_rack c.settle.new.store) d) _ c.in-Ok.standing d (c.settle.ensures.kept.each d) (c.settle.ensures.kept.powers.no_fall d) (c.power_disks.ensures.turned d) gone;
    absent = absent g (goal.at.returns g c).After-power_disks;
    far = kept_far g (goal.at.returns g c).After-power_disks;
  };
  servable =
      let at = (goal.at.returns g c).After-power_disks in
      let m = c.in-Ok.standing in
      let part = c.in_default.ensures in
      let a = g.R.Rack.slot (store_rack c.settle.new.store) in
      let b = g.R.Rack.slot (store_rack c.power_disks.new.store) in
      let o = to_mark (λ d. (b d).power) m in
      subst (λ (x : Meta). IsServable (g.R.Rack.slot_count (store_rack c.power_disks.new.store)) b c.power_disks.new.store.epoch c.power_disks.new.store.disks c.power_disks.new.store.named x (length c.settle.new.table)) {x = with_loss m o} (sym c.with_loss.ensures)
      (subst (λ (k : ℕ). IsServable k b c.power_disks.new.store.epoch c.power_disks.new.store.disks c.power_disks.new.store.named (with_loss m o) (length c.settle.new.table)) (sym part.slots)
      (servable (g.R.Rack.slot_count (store_rack c.settle.new.store)) a b m c.in-Ok.ensures.stood.fit part.turned part.powered (part.one c.in-Ok.ensures.stood.fit.one) o refl
      c.power_disks.new.store.epoch c.power_disks.new.store.disks (length c.settle.new.table) c.power_disks.new.store.named
      (disks_same g at ∙ sym (part.same.disks ∙ c.settle.ensures.kept.disks ∙ c.requires.can.disks)) c.in-Ok.ensures.stood.version
      (c.in-Ok.ensures.stood.epoch ∙ sym part.same.epoch)
      (part.same.named ∙ sym c.in-Ok.ensures.stood.named)
      (c.settle.ensures.rows ∙ c.requires.can.rows ∙ sym (ap (λ (s : Setup). s.geometry.rows) (setup_is g at)))
      c.in-Ok.ensures.stood.synced));
  recovers = record {
    allowed = allowed g (goal.at.returns g c).After-power_disks;
    holds = holds g (goal.at.returns g c).After-power_disks;
    metas = metas g (goal.at.returns g c).After-power_disks;
    once = once g (goal.at.returns g c).After-power_disks;
    unwritten = unwritten g (goal.at.returns g c).After-power_disks;
  };
  split = (g.R.Rack.told (store_rack c.settle.new.store), logs_still _ _ c.settle.ensures.still, inr (powers g (goal.at.returns g c).After-power_disks));
  ends =
      let at = (goal.at.returns g c).After-power_disks in
      let given = c.in-Ok.ensures.given in (
        c.in-Ok.standing,
        to_mark (λ d. (g.R.Rack.slot (store_rack c.power_disks.new.store) d).power) c.in-Ok.standing,
        c.with_loss.ensures,
        setup_is g at,
        λ d name. ap (λ (x : Meta). named_out x.out) given.1 ∙ names_stay c.args.meta.now given.0 (λ e is. given.3 e is) d name,
        c.in-Ok.ensures.stood.version,
        (
          given.0,
          given.1,
          mark_sooner c.args.meta.now given.0 (g.R.Rack.told (store_rack c.args.store.now)) (g.R.Rack.told (store_rack c.settle.new.store)) (g.R.Rack.told (store_rack c.power_disks.new.store)) given.4
              c.power_disks.ensures.calls,
        ),
        ends g at,
        λ t tells. mark_by_slots (now t) (g.R.Rack.slot (store_rack c.power_disks.new.store)) c.in-Ok.standing (g.met.R.Rack.agrees (store_rack c.power_disks.new.store) t tells),
        record { named_by = c.in_default.ensures.same.named ∙ sym c.in-Ok.ensures.stood.named; is = c.with_loss.ensures },
      );
  map =
      let told_0 = g.R.Rack.told (store_rack c.args.store.now) in
      let told_1 = g.R.Rack.told (store_rack c.settle.new.store) in
      let told_2 = g.R.Rack.told (store_rack c.power_disks.new.store) in
      let b = g.R.Rack.slot (store_rack c.settle.new.store) in
      let d = g.R.Rack.slot (store_rack c.power_disks.new.store) in
      map_on c.args.meta.now.setup.geometry (store_out g.R.Rack.slot c.args.store.now) b d (is_dirty c.settle.new.table) told_0 told_1 told_2
      (stays_absent b d 0 (λ x. (c.power_disks.ensures.turned x).there))
      (far_ran (IsPowerCall c.in-Ok.standing) told_1 told_2 (turn_far c.in-Ok.standing) c.power_disks.ensures.calls) c.in-Ok.ensures.map;
  out = λ d name.
      let given = c.in-Ok.ensures.given in
      let b = g.R.Rack.slot (store_rack c.settle.new.store) in
      let e = g.R.Rack.slot (store_rack c.power_disks.new.store) in
      named_or_absent c.args.meta.now c.in-Ok.standing given.0 b e given.1 c.in-Ok.ensures.stood.fit.in_range (λ x is. (given.2 x is).0) (λ x. (c.power_disks.ensures.turned x).there) d
      (ap (λ (x : Meta). named_out x.out) (sym c.with_loss.ensures) ∙ name);
  borne = borne_turned (named_out c.args.meta.now.out) c.in-Ok.standing (g.R.Rack.told (store_rack c.settle.new.store)) (g.R.Rack.told (store_rack c.power_disks.new.store)) c.power_disks.ensures.calls c.in-Ok.ensures.borne;
  marked = λ slots x said old is r.
      marked_turned (IsNamedLog c.power_disks.new.store.named) slots x said c.in-Ok.standing old (g.R.Rack.told (store_rack c.settle.new.store)) (g.R.Rack.told (store_rack c.power_disks.new.store)) c.power_disks.ensures.calls
      (subst (λ (o : Option ℕ). EndsBorne (IsNamedLog o) slots x said old (g.R.Rack.told (store_rack c.settle.new.store))) (sym c.in_default.ensures.same.named) (c.in-Ok.ensures.marked slots x said old is r));
}
