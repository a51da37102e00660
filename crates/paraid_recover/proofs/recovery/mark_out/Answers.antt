use Rattle.std.specs.Prelude.{◌≡◌, ◌≤◌, ℕ, true, false, Option, Some, None}
use Rattle.std.proofs.Common.{ap, arith, inl, inr, refl, subst, sym, ◌∙◌}
use Rattle.paraid_base.specs.declared.fault.Two.{Two}
use Rattle.paraid_rack.specs.Slots.{Slot}
use Rattle.paraid_rack.specs.Told.{Ran}
use Rattle.paraid_rack.specs.Trail.{Trail, now}
use Rattle.paraid_record.specs.declared.meta.Meta.{Meta}
use Rattle.paraid_record.specs.declared.meta.Setup.{Setup}
use Rattle.paraid_image.specs.Lost.{EndsByLoss}
use Rattle.paraid_image.specs.Out.{named_out}
use Rattle.paraid_rack.specs.Atoms.{IsSure}
use Rattle.paraid_image.specs.Sides.{LogState, is_open}
use Rattle.paraid_txn.specs.Losses.{AreFailedOrWell, IsOneOut, IsOutOfCommit, IsSyncedAt, OnlyLosesSlots, TellsSecondLoss}
use Rattle.paraid_txn.specs.Losses.IsOutOfCommit.{was_named}
use Rattle.paraid_txn.specs.Stores.{store_rack}
use Rattle.paraid_txn.specs.Uses.{EachCall}
use Rattle.paraid_recover.specs.Bearing.{BearsAgainst, BearsOnce, EndsBorne, IsNamedLog}
use Rattle.paraid_txn.specs.Borne.{IsBorneNow}
use Rattle.paraid_recover.specs.HeldMoments.{EndsHeld, Recovers, RecoversHeld}
use Rattle.paraid_recover.specs.MountCalls.{OnlyMountCalls}
use Rattle.paraid_recover.specs.Quiet.{IsInLog}
use Rattle.paraid_recover.specs.RecoveryMark.{to_mark, with_mark}
use Rattle.paraid_recover.specs.StandingMetas.{StandsInMoments}
use Rattle.paraid_recover.specs.Still.{IsUpToDate, StaysUnwritten}
use Rattle.paraid_recover.proofs.UnwrittenLemmas.{unwritten_borne}
use Rattle.paraid_recover.specs.StandingMetas.StandsForeseen.{marked}
use Rattle.paraid_recover.proofs.BearerLemmas.{bearer_calls, bearer_clean, bearer_each, bearer_gone, bearer_log, bearer_one, bearer_synced, bearer_two, borne_sure, can_bear, log_named, not_second, one_named, second_kept}
use Rattle.paraid_recover.proofs.BearingLemmas.{bearing_ends, bearing_holds, bearing_metas}
use Rattle.paraid_recover.proofs.FitLemmas.{each_then, marks, spared_both}
use Rattle.paraid_recover.proofs.MountCallsLemmas.{calls_then, mount_then}
use Rattle.paraid_recover.proofs.GoneLemmas.{out_unmarked}
use Rattle.paraid_recover.proofs.OpenLemmas.{once_then, open_named}
use Rattle.paraid_recover.proofs.SecondLossLemmas.{one_fewer, out_more, still_tells, tells_same, tells_second}
use Rattle.paraid_recover.proofs.StillLemmas.{log_logs, logs_still}
use Rattle.paraid_recover.proofs.ServableLemmas.{disks_marked, names_stay}
use Rattle.paraid_recover.proofs.recovery.mark_out.Given.{Over}
use Rattle.paraid_recover.proofs.recovery.mark_out.Goals as goal
use Rattle.paraid_recover.proofs.recovery.mark_out.Goals.{After-bear_named, In-Ok-bear_named}

pub mark_or_renew-requires : goal.mark_or_renew-requires
mark_or_renew-requires g c = record {
  empty = c.requires.empty;
  can = c.requires.can;
  witness = c.requires.witness;
}

pub bear_named-requires : goal.bear_named-requires
bear_named-requires g c =
    let low = c.args.meta.now.setup.geometry.disks_low in
    let all = c.requires.can.exists in
    let same = c.mark_or_renew.ensures.kept.slots in
    record {
      exists = omega arith;
      ready = λ x named. can_bear (g.R.Rack.slot (store_rack c.args.store.now)) (g.R.Rack.slot (store_rack c.mark_or_renew.new.store)) c.mark_or_renew.ensures.kept.powers c.in-Ok.ensures.synced (c.requires.witness (not_second (named_out c.args.meta.now.out) x named));
    }

pub returns-in-Err : goal.returns-in-Err
returns-in-Err g c = record {
  kept = record {
    slots = c.mark_or_renew.ensures.kept.slots;
    disks = c.mark_or_renew.ensures.kept.disks;
    powers = c.mark_or_renew.ensures.kept.powers;
    each = c.mark_or_renew.ensures.kept.each;
    two = c.in-Err.ensures.kept.two;
    gone = c.in-Err.ensures.kept.gone;
    order = c.in-Err.ensures.kept.order;
  };
  given = tt;
  epoch = tt;
  named = tt;
  synced = tt;
  one = tt;
  calls = c.mark_or_renew.ensures.calls;
  recovers = record {
    allowed = c.mark_or_renew.ensures.recovers.allowed;
    holds = c.mark_or_renew.ensures.recovers.holds;
    metas = c.mark_or_renew.ensures.recovers.metas;
    once = c.mark_or_renew.ensures.recovers.once;
    unwritten = c.mark_or_renew.ensures.recovers.unwritten;
  };
  ends = tt;
  borne = tt;
  marked = tt;
}

abbrev told_0 : (g : Over) (c : After-bear_named g) → Option Trail
told_0 g c = g.R.Rack.told (store_rack c.args.store.now)

abbrev told_1 : (g : Over) (c : After-bear_named g) → Option Trail
told_1 g c = g.R.Rack.told (store_rack c.mark_or_renew.new.store)

abbrev told_2 : (g : Over) (c : After-bear_named g) → Option Trail
told_2 g c = g.R.Rack.told (store_rack c.bear_named.new.store)

abbrev slot_0 : (g : Over) (c : After-bear_named g) → ℕ → Slot
slot_0 g c = g.R.Rack.slot (store_rack c.args.store.now)

abbrev slot_1 : (g : Over) (c : After-bear_named g) → ℕ → Slot
slot_1 g c = g.R.Rack.slot (store_rack c.mark_or_renew.new.store)

abbrev slot_2 : (g : Over) (c : After-bear_named g) → ℕ → Slot
slot_2 g c = g.R.Rack.slot (store_rack c.bear_named.new.store)

abbrev mark : (g : Over) (c : After-bear_named g) → Option ℕ
mark g c = to_mark (λ d. (slot_0 g c d).power) c.args.meta.now

ran : (g : Over) (c : After-bear_named g) → Ran (told_1 g c) (told_2 g c) (EachCall (BearsAgainst (named_out c.args.meta.now.out)))
ran g c = c.bear_named.ensures.borne.part.calls

log_calls : (g : Over) (c : After-bear_named g) → Ran (told_0 g c) (told_2 g c) (EachCall (IsInLog c.args.store.now.disks))
log_calls g c =
    let n = c.args.store.now.disks in
    let enough : 3 ≤ n = (let low = c.args.meta.now.setup.geometry.disks_low in let same = c.requires.can.disks in omega arith) in
    calls_then (IsInLog n) (told_0 g c) (told_1 g c) (told_2 g c) c.mark_or_renew.ensures.calls (bearer_log (named_out c.args.meta.now.out) n (told_1 g c) (told_2 g c) enough (ran g c))

allowed : (g : Over) (c : After-bear_named g) → OnlyMountCalls c.args.meta.now (told_0 g c) (told_2 g c)
allowed g c = mount_then c.args.meta.now (told_0 g c) (told_1 g c) (told_2 g c) c.mark_or_renew.ensures.recovers.allowed (bearer_calls c.args.meta.now (told_1 g c) (told_2 g c) (ran g c))

powers : (g : Over) (c : After-bear_named g) → OnlyLosesSlots (slot_0 g c) (slot_2 g c)
powers g c = spared_both (slot_0 g c) (slot_1 g c) (slot_2 g c) c.mark_or_renew.ensures.kept.powers c.bear_named.ensures.borne.part.powers

each : (g : Over) (c : After-bear_named g) → AreFailedOrWell (slot_1 g c) (slot_2 g c) → AreFailedOrWell (slot_0 g c) (slot_2 g c)
each g c after = each_then (slot_0 g c) (slot_1 g c) (slot_2 g c) c.mark_or_renew.ensures.kept.each after c.mark_or_renew.ensures.kept.powers.no_fall c.bear_named.ensures.borne.part.powers.no_fall

-- the meta that stands
same_disks : (g : Over) (c : After-bear_named g) (said : LogState) → said.meta ≡ c.args.meta.now → c.in-Ok.stands.setup.geometry.disks ≡ said.meta.setup.geometry.disks
same_disks g c said is =
    ap (λ (m : Meta). m.setup.geometry.disks) c.in-Ok.ensures.given ∙ ap (λ (s : Setup). s.geometry.disks) (disks_marked c.args.meta.now (mark g c)) ∙ ap (λ (m : Meta). m.setup.geometry.disks) (sym is)

names : (g : Over) (c : After-bear_named g) (y : ℕ) → named_out c.args.meta.now.out ≡ Some y → named_out c.in-Ok.stands.out ≡ Some y
names g c y name =
    ap (λ (m : Meta). named_out m.out) c.in-Ok.ensures.given
    ∙ names_stay c.args.meta.now (mark g c) (λ d is. (marks (λ e. (slot_0 g c e).power) c.args.meta.now d c.requires.can.in_range is).2) y name

names_said : (g : Over) (c : After-bear_named g) (said : LogState) → said.meta ≡ c.args.meta.now → (y : ℕ) → named_out c.args.meta.now.out ≡ Some y → named_out said.meta.out ≡ Some y
names_said g c said is y name = ap (λ (m : Meta). named_out m.out) is ∙ name

holds : (g : Over) (c : After-bear_named g) (slots x : ℕ) (said : LogState) (old : Option Trail) → said.meta ≡ c.args.meta.now → Recovers slots x said old (told_0 g c) → RecoversHeld slots x said old (told_2 g c)
holds g c slots x said old is r =
    bearing_holds slots x said c.in-Ok.stands (named_out c.args.meta.now.out) old (told_1 g c) (told_2 g c) (same_disks g c said is) (names g c) (names_said g c said is) (ran g c)
    (c.mark_or_renew.ensures.recovers.holds slots x said old is r) (c.in-Ok.ensures.ends slots x said old is r)

metas : (g : Over) (c : After-bear_named g) (slots x : ℕ) (said : LogState) (old : Option Trail) → said.meta ≡ c.args.meta.now → Recovers slots x said old (told_0 g c)
    → StandsInMoments slots x said old (told_0 g c) → StandsInMoments slots x said old (told_2 g c)
metas g c slots x said old is r before =
    bearing_metas slots x said c.in-Ok.stands (named_out c.args.meta.now.out) old (told_1 g c) (told_2 g c) (same_disks g c said is) (names g c) (names_said g c said is) (ran g c)
    (c.mark_or_renew.ensures.recovers.holds slots x said old is r) (c.in-Ok.ensures.ends slots x said old is r)
    (λ s i. marked (mark g c) (c.in-Ok.ensures.given ∙ ap (λ (m : Meta). with_mark m (mark g c)) (sym is))) (c.mark_or_renew.ensures.recovers.metas slots x said old is r before)

-- a witness that is borne is not borne again
once : (g : Over) (c : After-bear_named g) → BearsOnce c.args.meta.now (told_0 g c) (told_2 g c)
once g c =
    let m = c.args.meta.now in
    once_then m (told_0 g c) (told_1 g c) (told_2 g c) c.mark_or_renew.ensures.recovers.once (λ two. open_named m (told_1 g c) (told_2 g c) c.bear_named.ensures.borne.kept)

-- where nothing is to be brought up to date, nothing is written
unwritten : (g : Over) (c : After-bear_named g) → StaysUnwritten (IsUpToDate c.args.meta.now) (told_0 g c) (told_2 g c)
unwritten g c =
    unwritten_borne c.args.store.now.disks c.args.meta.now (told_0 g c) (told_1 g c) (told_2 g c) c.mark_or_renew.ensures.recovers.unwritten c.mark_or_renew.ensures.calls (ran g c)
    c.bear_named.ensures.borne.kept

-- the log disk that the meta named out is down, and disk 2 fails
tells : (g : Over) (c : After-bear_named g) (two : Two) → IsNamedLog (named_out c.args.meta.now.out) two.first × (two.second ≡ 2) → Ran (told_1 g c) (told_2 g c) (λ s cs. EndsByLoss (Some 2) cs)
    → TellsSecondLoss (IsOutOfCommit (λ e. (slot_0 g c e).power) c.args.store.now.disks c.args.store.now.named (mark g c)) (told_0 g c) (told_2 g c) two
tells g c two is fails =
    let m = c.args.meta.now in
    let n = m.setup.geometry.disks in
    let named = named_out m.out in
    let power = (λ (e : ℕ). (slot_0 g c e).power) in
    subst (λ (k : ℕ). TellsSecondLoss (IsOutOfCommit power k c.args.store.now.named (mark g c)) (told_0 g c) (told_2 g c) two) (sym c.requires.can.disks)
    (subst (λ (o : Option ℕ). TellsSecondLoss (IsOutOfCommit power n o (mark g c)) (told_0 g c) (told_2 g c) two) (sym c.requires.can.named)
    (tells_same (IsOutOfCommit power n named None) (IsOutOfCommit power n named (mark g c)) (told_0 g c) (told_2 g c) two
    (out_more power n named (mark g c)) (out_unmarked power n named (mark g c) (λ d to. let it = marks power m d c.requires.can.in_range to in (it.0, it.1)))
    (still_tells m (slot_0 g c) (slot_1 g c) (told_0 g c) (told_1 g c) (g.met.R.Rack.agrees (store_rack c.args.store.now)) (g.met.R.Rack.agrees (store_rack c.mark_or_renew.new.store))
    (logs_still (told_0 g c) (told_1 g c) (log_logs c.args.store.now.disks (told_0 g c) (told_1 g c) c.mark_or_renew.ensures.calls)) c.mark_or_renew.ensures.recovers.allowed
    (λ one.
    one_fewer n named (named_out c.in-Ok.stands.out) (slot_1 g c) (names g c)
    (subst (λ (k : ℕ). IsOneOut k (named_out c.in-Ok.stands.out) (slot_1 g c)) c.requires.can.disks
    (c.in-Ok.ensures.one
    (subst (λ (k : ℕ). IsOneOut k c.args.store.now.named (slot_0 g c)) (sym c.requires.can.disks)
    (subst (λ (o : Option ℕ). IsOneOut n o (slot_0 g c)) (sym c.requires.can.named) one)))))
    (told_2 g c) two
    (tells_second (IsOutOfCommit (λ e. (slot_1 g c e).power) n named None) (told_1 g c) (told_2 g c) two (was_named is.0.0) (let low = is.0.1 in let at = is.1 in omega arith)
    (subst (λ (k : ℕ). Ran (told_1 g c) (told_2 g c) (λ s cs. EndsByLoss (Some k) cs)) (sym is.1) fails)))))

pub returns-in-Err-bear_named : goal.returns-in-Err-bear_named
returns-in-Err-bear_named g c =
    let at = (goal.at.returns-in-Err-bear_named g c).After-bear_named in
    let part = c.in-Err-bear_named.ensures.borne.part in
    let o = named_out c.args.meta.now.out in
    record {
      kept = record {
        slots = part.slots ∙ c.mark_or_renew.ensures.kept.slots;
        disks = part.same.disks ∙ c.mark_or_renew.ensures.kept.disks;
        powers = powers g at;
        each = each g at (bearer_each g.R.Rack o c.mark_or_renew.new.store c.bear_named.new.store false part);
        two = bearer_two g.R.Rack o c.mark_or_renew.new.store c.bear_named.new.store (slot_0 g at) c.args.store.now.disks c.args.store.now.named (mark g at) c.in-Err-bear_named.two c.requires.can.named
            c.in-Err-bear_named.ensures.two part c.mark_or_renew.ensures.kept.powers;
        gone = bearer_gone g.R.Rack o c.mark_or_renew.new.store c.bear_named.new.store (slot_0 g at) c.args.store.now.disks c.args.store.now.named (mark g at) c.in-Err-bear_named.two c.requires.can.named
            c.in-Err-bear_named.ensures.two part c.mark_or_renew.ensures.kept.powers;
        order = tells g at c.in-Err-bear_named.two c.in-Err-bear_named.ensures.two part.ends;
      };
      given = tt;
      epoch = tt;
      named = tt;
      synced = tt;
      one = tt;
      calls = log_calls g at;
      recovers = record {
        allowed = allowed g at;
        holds = holds g at;
        metas = metas g at;
        once = once g at;
        unwritten = unwritten g at;
      };
      ends = tt;
      borne = tt;
      marked = tt;
    }

-- where witness is borne, disk 2 has nothing unsynced
synced : (g : Over) (c : In-Ok-bear_named g) (x : ℕ) → IsNamedLog (named_out c.args.meta.now.out) x → IsSyncedAt (g.R.Rack.slot (store_rack c.bear_named.new.store)) 2
synced g c x named =
    bearer_clean g.R.Rack (named_out c.args.meta.now.out) c.mark_or_renew.new.store c.bear_named.new.store c.in-Ok-bear_named.ensures.borne
    (can_bear (g.R.Rack.slot (store_rack c.args.store.now)) (g.R.Rack.slot (store_rack c.mark_or_renew.new.store)) c.mark_or_renew.ensures.kept.powers c.in-Ok.ensures.synced (c.requires.witness (not_second (named_out c.args.meta.now.out) x named)))

ends : (g : Over) (c : In-Ok-bear_named g) (slots x : ℕ) (said : LogState) (old : Option Trail) → said.meta ≡ c.args.meta.now → Recovers slots x said old (g.R.Rack.told (store_rack c.args.store.now))
    → EndsHeld slots x said c.in-Ok.stands old (g.R.Rack.told (store_rack c.bear_named.new.store))
ends g c slots x said old is r =
    let at = (goal.at.In-Ok-bear_named g c).After-bear_named in
    let before = c.in-Ok.ensures.ends slots x said old is r in
    elim (log_named (named_out c.args.meta.now.out)) [
      | inl it ↦
          bearing_ends slots x said c.in-Ok.stands (named_out c.args.meta.now.out) old (told_1 g at) (told_2 g at) (same_disks g at said is) (names g at) (names_said g at said is) (ran g at)
          (c.mark_or_renew.ensures.recovers.holds slots x said old is r) before
          (second_kept (told_2 g at) (slot_2 g at) (g.met.R.Rack.agrees (store_rack c.bear_named.new.store)) (synced g c it.0 it.1))
      | inr none ↦ subst (λ (t : Option Trail). EndsHeld slots x said c.in-Ok.stands old t) (sym (c.in-Ok-bear_named.ensures.borne.part.still none)) before
    ]

-- witness is borne against the log disk that the meta before named out
borne : (g : Over) (c : In-Ok-bear_named g) → IsBorneNow (named_out c.args.meta.now.out) (g.R.Rack.told (store_rack c.bear_named.new.store))
borne g c t tells x below is =
    let new = c.bear_named.new.store in
    borne_sure (named_out c.args.meta.now.out) (g.R.Rack.told (store_rack new)) (g.R.Rack.slot (store_rack new)) (g.met.R.Rack.agrees (store_rack new)) (synced g c x (is, below)) (c.in-Ok-bear_named.ensures.borne.borne refl)
    t tells x below is

-- and against the one that is named out then
marked_borne : (g : Over) (c : In-Ok-bear_named g) (slots x : ℕ) (said : LogState) (old : Option Trail) → said.meta ≡ c.args.meta.now → Recovers slots x said old (g.R.Rack.told (store_rack c.args.store.now))
    → EndsBorne (IsNamedLog c.bear_named.new.store.named) slots x said old (g.R.Rack.told (store_rack c.bear_named.new.store))
marked_borne g c slots x said old is r =
    let at = (goal.at.In-Ok-bear_named g c).After-bear_named in
    let part = c.in-Ok-bear_named.ensures.borne.part in
    elim (log_named (named_out c.args.meta.now.out)) [
      | inl it ↦ λ t tells.
          let e = ends g c slots x said old is r t tells in (
            e.0,
            e.1,
            λ h lo was down broken held absent weak y named.
                let same = one_named c.bear_named.new.store.named it.0 y (part.same.named ∙ sym c.in-Ok.ensures.named ∙ names g at it.0 it.1.0) named.0 in
                subst (λ (k : ℕ). IsSure (now t) 2 k (λ b. is_open b ≡ true)) same (borne g c t tells it.0 it.1.1 it.1.0),
          )
      | inr none ↦ λ t tells.
          let e = c.in-Ok.ensures.marked slots x said old is r t (sym (part.still none) ∙ tells) in (
            e.0,
            e.1,
            λ h lo was down broken held absent weak y named. e.2 h lo was down broken held absent weak y ((sym part.same.named ∙ named.0, named.1), λ before. none y (before, named.1)),
          )
    ]

pub returns-in-Ok-bear_named : goal.returns-in-Ok-bear_named
returns-in-Ok-bear_named g c =
    let ok = (goal.at.returns-in-Ok-bear_named g c).In-Ok-bear_named in
    let at = (goal.at.returns-in-Ok-bear_named g c).After-bear_named in
    let it = c.in-Ok-bear_named.ensures.borne in
    let part = it.part in
    let o = named_out c.args.meta.now.out in
    let mid = c.mark_or_renew.new.store in
    let new = c.bear_named.new.store in
    record {
      kept = record {
        slots = part.slots ∙ c.mark_or_renew.ensures.kept.slots;
        disks = part.same.disks ∙ c.mark_or_renew.ensures.kept.disks;
        powers = powers g at;
        each = each g at (bearer_each g.R.Rack o mid new true part);
        two = tt;
        gone = tt;
        order = tt;
      };
      given = c.in-Ok.ensures.given;
      epoch = c.in-Ok.ensures.epoch ∙ sym part.same.epoch;
      named = c.in-Ok.ensures.named ∙ sym part.same.named;
      synced = bearer_synced g.R.Rack o mid new (slot_0 g at) it c.in-Ok.ensures.synced;
      one = λ one. bearer_one g.R.Rack o mid new c.args.store.now.disks (named_out c.in-Ok.stands.out) part (c.in-Ok.ensures.one one);
      calls = log_calls g at;
      recovers = record {
        allowed = allowed g at;
        holds = holds g at;
        metas = metas g at;
        once = once g at;
        unwritten = unwritten g at;
      };
      ends = ends g ok;
      borne = borne g ok;
      marked = marked_borne g ok;
    }
