use Rattle.std.specs.Prelude.{◌≡◌, ℕ, ◌≤◌, Option, Some, None}
use Rattle.std.proofs.Common.{ap, arith, inl, inr, refl, subst, sym, ◌∙◌}
use Rattle.paraid_rack.specs.declared.call.Power.{Power}
use Rattle.paraid_rack.specs.Disks.{is_present}
use Rattle.paraid_rack.specs.Told.{Ran}
use Rattle.paraid_rack.specs.Trail.{Trail, now}
use Rattle.paraid_record.specs.declared.meta.Meta.{Meta}
use Rattle.paraid_record.specs.declared.meta.Setup.{Setup}
use Rattle.paraid_base.specs.States.{gone_out}
use Rattle.paraid_base.specs.declared.fault.Two.{Two}
use Rattle.paraid_image.specs.Lost.{EndsBySecond}
use Rattle.paraid_image.specs.Out.{IsMissing, first_absent, named_out, or_else, out_disk}
use Rattle.paraid_txn.proofs.MeansLemmas.{absent_power}
use Rattle.paraid_recover.proofs.ShownLemmas.{shown}
use Rattle.paraid_image.specs.Sides.{LogState, log_state}
use Rattle.paraid_dirty.specs.Table.{is_dirty}
use Rattle.paraid_txn.specs.Losses.{AreGoneSince, AreTwoDownBeside, IsOutOfCommit, TellsSecondLoss}
use Rattle.paraid_txn.specs.Stores.{store_out, store_rack}
use Rattle.paraid_recover.specs.Bearing.{BearsOnce}
use Rattle.paraid_recover.specs.HeldMoments.{Recovers, RecoversHeld}
use Rattle.paraid_recover.specs.MountCalls.{OnlyMountCalls}
use Rattle.paraid_recover.specs.Mounted.{IsFit}
use Rattle.paraid_recover.specs.Map.{ChangesByBatch}
use Rattle.paraid_recover.proofs.BatchFarLemmas.{batch_ran, far_after}
use Rattle.paraid_recover.proofs.EndsLemmas.{ends_resumed}
use Rattle.paraid_recover.proofs.FitLemmas.{fit_stays, two_named, two_sooner}
use Rattle.paraid_recover.proofs.GoneLemmas.{gone_beside, gone_sooner, none_comes, out_named_twice}
use Rattle.paraid_recover.proofs.KeepsDirtyLemmas.{keeps_dirty}
use Rattle.paraid_recover.proofs.MapServedLemmas.{loss_setup, map_served, map_sooner}
use Rattle.paraid_recover.proofs.MarkMomentLemmas.{mark_later}
use Rattle.paraid_recover.proofs.MountCallsLemmas.{mount_then, resume_calls}
use Rattle.paraid_recover.specs.StandingMetas.{StandsThroughMount}
use Rattle.paraid_recover.specs.Still.{IsLeftWhole, StaysUnwritten}
use Rattle.paraid_recover.proofs.UnwrittenLemmas.{unwritten_raised, unwritten_resumed}
use Rattle.paraid_recover.proofs.SecondLossLemmas.{out_more, still_tells, tells_end, tells_same}
use Rattle.paraid_recover.proofs.RecoverLemmas.{grows, resumes_held}
use Rattle.paraid_recover.proofs.OpenLemmas.{once_resumed, open_resumed}
use Rattle.paraid_recover.proofs.ResumeMetasLemmas.{resumed_metas}
use Rattle.paraid_recover.proofs.StillLemmas.{commit_still, still_then}
use Rattle.paraid_recover.proofs.mounting.bring_up.Given.{Over}
use Rattle.paraid_recover.proofs.mounting.bring_up.Goals as goal
use Rattle.paraid_recover.proofs.mounting.bring_up.Goals.{After-raise, After-resume}

abbrev said : (g : Over) (c : After-resume g) → LogState
said g c = log_state c.args.standing.now.gate_open c.args.standing.now.meta c.args.batch

pub resume-requires : goal.resume-requires
resume-requires g c = c.requires.can

pub raise-requires : goal.raise-requires
raise-requires g c =
    let slot = g.R.Rack.slot (store_rack c.in-Ok.store) in
    record {
      empty = c.clear.ensures;
      can = record {
        fit = subst (λ (k : ℕ). IsFit k slot c.args.standing.now.meta) (sym c.in-Ok.ensures.resumes.on.slots)
            (fit_stays (g.R.Rack.slot_count c.args.rack) (g.R.Rack.slot c.args.rack) slot c.args.standing.now.meta c.in-Ok.ensures.resumes.on.powers (c.in-Ok.ensures.resumes.one c.requires.fit.one) c.requires.fit);
        few = c.requires.few;
        disks = c.in-Ok.ensures.resumes.disks;
        named = c.in-Ok.ensures.resumes.named;
        epoch = c.in-Ok.ensures.resumes.epoch;
        rows = c.requires.rows;
        narrow = c.requires.narrow;
      };
    }

-- what is held once the commit was ended
resumed : (g : Over) (c : After-raise g) (slots : ℕ)
    → Recovers slots c.args.standing.now.side (log_state c.args.standing.now.gate_open c.args.standing.now.meta c.args.batch) (g.R.Rack.told c.args.rack) (g.R.Rack.told (store_rack c.in-Ok.store))
resumed g c slots =
    let x = c.args.standing.now.side in
    let s = log_state c.args.standing.now.gate_open c.args.standing.now.meta c.args.batch in
    let old = g.R.Rack.told c.args.rack in
    let new = g.R.Rack.told (store_rack c.in-Ok.store) in
    let holds = resumes_held slots x s old new c.in-Ok.ensures.resumes.on.any_moment in
    record { grows = grows {old = old} {new = new} {x = x} {said = s} c.in-Ok.ensures.resumes.on.any_moment; holds = holds; ends = ends_resumed slots x s old new holds c.in-Ok.ensures.resumes.ended }

-- a disk that is missing once the commit was ended is so at the end
stays : (g : Over) (c : After-raise g) (m : Meta) → ((d : ℕ) → named_out c.args.standing.now.meta.out ≡ Some d → named_out m.out ≡ Some d) → m.setup ≡ c.args.standing.now.meta.setup
    → (u t : Trail) → g.R.Rack.told (store_rack c.in-Ok.store) ≡ Some u → g.R.Rack.told (store_rack c.raise.new.store) ≡ Some t → (d : ℕ) → IsMissing (now u).power c.args.standing.now.meta d
    → IsMissing (now t).power m d
stays g c m names setup u t tells_u tells_t d missing =
    let a = (g.met.R.Rack.agrees (store_rack c.in-Ok.store) u tells_u).power d in
    let b = (g.met.R.Rack.agrees (store_rack c.raise.new.store) t tells_t).power d in
    let low = ap (λ (s : Setup). s.geometry.disks) setup in
    let l = missing.disk in
    record {
      disk = omega arith;
      is = elim missing.is [
        | inl gone ↦ inl (ap is_present (b ∙ c.raise.ensures.kept.absent d (sym a ∙ absent_power ((now u).power d) gone)))
        | inr name ↦ inr (names d name)
      ];
    }

-- the disk that is out once the commit was ended
out_is : (g : Over) (c : After-raise g) (u : Trail) → g.R.Rack.told (store_rack c.in-Ok.store) ≡ Some u → store_out g.R.Rack.slot c.in-Ok.store ≡ out_disk (now u).power c.args.standing.now.meta
out_is g c u tells =
    let m = c.args.standing.now.meta in
    let agrees = g.met.R.Rack.agrees (store_rack c.in-Ok.store) u tells in
    let power : (λ d. (g.R.Rack.slot (store_rack c.in-Ok.store) d).power) ≡ (now u).power = (λ t. λ d. (sym (agrees.power d)) t) in
    ap (λ (o : Option ℕ). or_else o (first_absent (λ d. (g.R.Rack.slot (store_rack c.in-Ok.store) d).power) c.in-Ok.store.disks)) c.in-Ok.ensures.resumes.named
    ∙ ap (λ (n : ℕ). or_else (named_out m.out) (first_absent (λ d. (g.R.Rack.slot (store_rack c.in-Ok.store) d).power) n)) c.in-Ok.ensures.resumes.disks
    ∙ ap (λ (p : ℕ → Power). or_else (named_out m.out) (first_absent p m.setup.geometry.disks)) power

all_allowed : (g : Over) (c : After-raise g) → OnlyMountCalls c.args.standing.now.meta (g.R.Rack.told c.args.rack) (g.R.Rack.told (store_rack c.raise.new.store))
all_allowed g c =
    let m = c.args.standing.now.meta in
    let told_1 = g.R.Rack.told (store_rack c.in-Ok.store) in
    mount_then m (g.R.Rack.told c.args.rack) told_1 (g.R.Rack.told (store_rack c.raise.new.store)) (resume_calls m (g.R.Rack.told c.args.rack) told_1 c.args.batch c.in-Ok.ensures.resumes.on.calls) c.raise.ensures.recovers.allowed

all_metas : (g : Over) (c : After-raise g)
    → StandsThroughMount c.args.standing.now.side (log_state c.args.standing.now.gate_open c.args.standing.now.meta c.args.batch) (g.R.Rack.told c.args.rack) (g.R.Rack.told (store_rack c.raise.new.store))
all_metas g c =
    let x = c.args.standing.now.side in
    let m = c.args.standing.now.meta in
    let s = log_state c.args.standing.now.gate_open m c.args.batch in
    let old = g.R.Rack.told c.args.rack in
    let told_1 = g.R.Rack.told (store_rack c.in-Ok.store) in
    let it = c.raise.ensures.split in
    record {
      foreseen = λ slots. c.raise.ensures.recovers.metas slots x s old refl (resumed g c slots) (resumed_metas slots x s old told_1 c.in-Ok.ensures.resumes.on.any_moment);
      settled = it.0;
      still = still_then old told_1 it.0 (commit_still m c.args.batch old told_1 c.in-Ok.ensures.resumes.on.calls) it.1;
      powers = elim it.2 [
        | inl same ↦ inl same
        | inr powered ↦ inr (record { mark = powered.0; rests = λ slots. powered.1 slots x s old refl (resumed g c slots); out = powered.2 s refl; calls = powered.3 })
      ];
    }

-- past the log there is what was there, or what the batch has
all_far : (g : Over) (c : After-raise g) → ChangesByBatch c.args.batch (g.R.Rack.told c.args.rack) (g.R.Rack.told (store_rack c.raise.new.store))
all_far g c =
    let old = g.R.Rack.told c.args.rack in
    let told_1 = g.R.Rack.told (store_rack c.in-Ok.store) in
    far_after c.args.batch old told_1 (g.R.Rack.told (store_rack c.raise.new.store)) (batch_ran c.args.standing.now.meta c.args.batch old told_1 c.in-Ok.ensures.resumes.on.calls) c.raise.ensures.kept.far

-- a witness that is borne is not borne again
all_once : (g : Over) (c : After-raise g) → BearsOnce c.args.standing.now.meta (g.R.Rack.told c.args.rack) (g.R.Rack.told (store_rack c.raise.new.store))
all_once g c =
    once_resumed c.args.standing.now.meta c.args.batch (g.R.Rack.told c.args.rack) (g.R.Rack.told (store_rack c.in-Ok.store)) (g.R.Rack.told (store_rack c.raise.new.store))
    c.requires.can.each c.in-Ok.ensures.resumes.on.calls c.raise.ensures.recovers.once

-- where the array was left whole, nothing is written
all_unwritten : (g : Over) (c : After-raise g)
    → StaysUnwritten (IsLeftWhole (log_state c.args.standing.now.gate_open c.args.standing.now.meta c.args.batch)) (g.R.Rack.told c.args.rack) (g.R.Rack.told (store_rack c.raise.new.store))
all_unwritten g c =
    unwritten_raised (log_state c.args.standing.now.gate_open c.args.standing.now.meta c.args.batch) (g.R.Rack.told c.args.rack) (g.R.Rack.told (store_rack c.in-Ok.store)) (g.R.Rack.told (store_rack c.raise.new.store))
    c.in-Ok.ensures.resumes.on.quiet c.raise.ensures.recovers.unwritten

pub returns-in-Err : goal.returns-in-Err
returns-in-Err g c = record {
  mounts = tt;
  refused = record {
    slots = c.in-Err.ensures.refused.on.slots;
    later = c.in-Err.ensures.refused.on.powers.no_fall;
    allowed = resume_calls c.args.standing.now.meta (g.R.Rack.told c.args.rack) (g.R.Rack.told c.in-Err.refused.rack) c.args.batch c.in-Err.ensures.refused.on.calls;
    metas =
        let s = said g (goal.at.returns-in-Err g c).After-resume in
        let old = g.R.Rack.told c.args.rack in
        let new = g.R.Rack.told c.in-Err.refused.rack in
        record {
          foreseen = λ slots. resumed_metas slots c.args.standing.now.side s old new c.in-Err.ensures.refused.on.any_moment;
          settled = new;
          still = commit_still c.args.standing.now.meta c.args.batch old new c.in-Err.ensures.refused.on.calls;
          powers = inl refl;
        };
    holds = λ slots.
        let at = (goal.at.returns-in-Err g c).After-resume in
        resumes_held slots c.args.standing.now.side (said g at) (g.R.Rack.told c.args.rack) (g.R.Rack.told c.in-Err.refused.rack) c.in-Err.ensures.refused.on.any_moment;
    far = batch_ran c.args.standing.now.meta c.args.batch (g.R.Rack.told c.args.rack) (g.R.Rack.told c.in-Err.refused.rack) c.in-Err.ensures.refused.on.calls;
    once = λ two.
        let m = c.args.standing.now.meta in
        open_resumed m c.args.batch c.requires.can.each (gone_out m.out) (g.R.Rack.told c.args.rack) (g.R.Rack.told c.in-Err.refused.rack) c.in-Err.ensures.refused.on.calls;
    unwritten =
        unwritten_resumed (said g (goal.at.returns-in-Err g c).After-resume) (g.R.Rack.told c.args.rack) (g.R.Rack.told c.in-Err.refused.rack) c.in-Err.ensures.refused.on.quiet;
  };
  servable = tt;
  nothing = tt;
  two =
      let m = c.args.standing.now.meta in
      let k = m.setup.geometry.disks in
      let a = g.R.Rack.slot c.args.rack in
      let b = g.R.Rack.slot c.in-Err.refused.rack in
      let power = (λ (e : ℕ). (a e).power) in
      let named = named_out m.out in
      let two = c.in-Err.refused.two in
      let old = g.R.Rack.told c.args.rack in
      let new = g.R.Rack.told c.in-Err.refused.rack in
      let out_0 = IsOutOfCommit power k named named in (
        two,
        refl,
        two_named k named a b two c.in-Err.ensures.refused.two,
        gone_beside out_0 (IsOutOfCommit power k named None) a b two (out_named_twice power k named) c.in-Err.ensures.refused.gone,
        tells_end k named a old new two c.requires.fit.one (tells_same out_0 (IsOutOfCommit power k named None) old new two (out_named_twice power k named) (out_more power k named named) c.in-Err.ensures.refused.order),
      );
  ends = tt;
  map = tt;
  borne = tt;
  marked = tt;
}

-- no call follows the one that failed on the second disk
raise_ends : (g : Over) (c : After-raise g) (two : Two)
    → TellsSecondLoss (IsOutOfCommit (λ e. (g.R.Rack.slot (store_rack c.in-Ok.store) e).power) c.args.standing.now.meta.setup.geometry.disks (named_out c.args.standing.now.meta.out) None)
    (g.R.Rack.told (store_rack c.in-Ok.store)) (g.R.Rack.told (store_rack c.raise.new.store)) two
    → Ran (g.R.Rack.told c.args.rack) (g.R.Rack.told (store_rack c.raise.new.store)) (λ s cs. EndsBySecond two cs)
raise_ends g c two order =
    let m = c.args.standing.now.meta in
    let a = g.R.Rack.slot c.args.rack in
    let old = g.R.Rack.told c.args.rack in
    let told_1 = g.R.Rack.told (store_rack c.in-Ok.store) in
    let new = g.R.Rack.told (store_rack c.raise.new.store) in
    tells_end m.setup.geometry.disks (named_out m.out) a old new two c.requires.fit.one
    (still_tells m a (g.R.Rack.slot (store_rack c.in-Ok.store)) old told_1 (g.met.R.Rack.agrees c.args.rack) (g.met.R.Rack.agrees (store_rack c.in-Ok.store)) (commit_still m c.args.batch old told_1 c.in-Ok.ensures.resumes.on.calls)
    (resume_calls m old told_1 c.args.batch c.in-Ok.ensures.resumes.on.calls) c.in-Ok.ensures.resumes.one new two order)

pub returns-in-Err-raise : goal.returns-in-Err-raise
returns-in-Err-raise g c = record {
  mounts = tt;
  refused = record {
    slots = ap g.R.Rack.slot_count c.close.ensures ∙ c.raise.ensures.kept.slots ∙ c.in-Ok.ensures.resumes.on.slots;
    later = λ d.
        let a = c.in-Ok.ensures.resumes.on.powers.no_fall d in
        let b = subst (λ (r : _). (g.R.Rack.slot (store_rack c.in-Ok.store) d).faults ≤ (g.R.Rack.slot r d).faults) (sym c.close.ensures) (c.raise.ensures.kept.later d) in
        omega arith;
    allowed =
        subst (λ (r : _). OnlyMountCalls c.args.standing.now.meta (g.R.Rack.told c.args.rack) (g.R.Rack.told r)) (sym c.close.ensures) (all_allowed g (goal.at.returns-in-Err-raise g c).After-raise);
    metas =
        let s = log_state c.args.standing.now.gate_open c.args.standing.now.meta c.args.batch in
        subst (λ (r : _). StandsThroughMount c.args.standing.now.side s (g.R.Rack.told c.args.rack) (g.R.Rack.told r)) (sym c.close.ensures) (all_metas g (goal.at.returns-in-Err-raise g c).After-raise);
    holds = λ slots.
        let at = (goal.at.returns-in-Err-raise g c).After-raise in
        let s = log_state c.args.standing.now.gate_open c.args.standing.now.meta c.args.batch in
        subst (λ (r : _). RecoversHeld slots c.args.standing.now.side s (g.R.Rack.told c.args.rack) (g.R.Rack.told r)) (sym c.close.ensures)
        (c.raise.ensures.recovers.holds slots c.args.standing.now.side s (g.R.Rack.told c.args.rack) refl (resumed g at slots));
    far =
        subst (λ (r : _). ChangesByBatch c.args.batch (g.R.Rack.told c.args.rack) (g.R.Rack.told r)) (sym c.close.ensures) (all_far g (goal.at.returns-in-Err-raise g c).After-raise);
    once =
        subst (λ (r : _). BearsOnce c.args.standing.now.meta (g.R.Rack.told c.args.rack) (g.R.Rack.told r)) (sym c.close.ensures) (all_once g (goal.at.returns-in-Err-raise g c).After-raise);
    unwritten =
        let s = log_state c.args.standing.now.gate_open c.args.standing.now.meta c.args.batch in
        subst (λ (r : _). StaysUnwritten (IsLeftWhole s) (g.R.Rack.told c.args.rack) (g.R.Rack.told r)) (sym c.close.ensures) (all_unwritten g (goal.at.returns-in-Err-raise g c).After-raise);
  };
  servable = tt;
  nothing = tt;
  two =
      let m = c.args.standing.now.meta in
      let k = m.setup.geometry.disks in
      let a = g.R.Rack.slot c.args.rack in
      let b = g.R.Rack.slot (store_rack c.in-Ok.store) in
      let d = g.R.Rack.slot (store_rack c.raise.new.store) in
      let out = IsOutOfCommit (λ e. (a e).power) k (named_out m.out) None in
      let two = c.in-Err-raise.two in (
        two,
        refl,
        subst (λ (r : _). AreTwoDownBeside out a (g.R.Rack.slot r) two) (sym c.close.ensures) (two_sooner k (named_out m.out) a b d two c.in-Ok.ensures.resumes.on.each c.in-Ok.ensures.resumes.on.powers.no_fall c.raise.ensures.kept.later c.in-Err-raise.ensures.kept.two),
        subst (λ (r : _). AreGoneSince out a (g.R.Rack.slot r) two) (sym c.close.ensures) (gone_sooner k (named_out m.out) a b d (none_comes a b c.in-Ok.ensures.resumes.on.powers) c.raise.ensures.kept.absent two c.in-Err-raise.ensures.kept.gone),
        subst (λ (r : _). Ran (g.R.Rack.told c.args.rack) (g.R.Rack.told r) (λ s cs. EndsBySecond two cs)) (sym c.close.ensures)
            (raise_ends g (goal.at.returns-in-Err-raise g c).After-raise two c.in-Err-raise.ensures.kept.order),
      );
  ends = tt;
  map = tt;
  borne = tt;
  marked = tt;
}

pub returns-in-Ok-raise : goal.returns-in-Ok-raise
returns-in-Ok-raise g c = record {
  mounts = record {
    slots = c.raise.ensures.kept.slots ∙ c.in-Ok.ensures.resumes.on.slots;
    later = λ d. let a = c.in-Ok.ensures.resumes.on.powers.no_fall d in let b = c.raise.ensures.kept.later d in omega arith;
    allowed = all_allowed g (goal.at.returns-in-Ok-raise g c).After-raise;
    metas = all_metas g (goal.at.returns-in-Ok-raise g c).After-raise;
    holds = λ slots.
        let at = (goal.at.returns-in-Ok-raise g c).After-raise in
        c.raise.ensures.recovers.holds slots c.args.standing.now.side (log_state c.args.standing.now.gate_open c.args.standing.now.meta c.args.batch) (g.R.Rack.told c.args.rack) refl (resumed g at slots);
    far = all_far g (goal.at.returns-in-Ok-raise g c).After-raise;
    once = all_once g (goal.at.returns-in-Ok-raise g c).After-raise;
    unwritten = all_unwritten g (goal.at.returns-in-Ok-raise g c).After-raise;
  };
  refused = tt;
  servable = c.in-Ok-raise.ensures.servable;
  nothing = c.clear.ensures;
  two = tt;
  ends =
      let at = (goal.at.returns-in-Ok-raise g c).After-raise in
      let x = c.args.standing.now.side in
      let s = log_state c.args.standing.now.gate_open c.args.standing.now.meta c.args.batch in
      let old = g.R.Rack.told c.args.rack in
      let it = c.in-Ok-raise.ensures.ends in (
        it.0,
        it.1,
        it.2,
        it.5,
        (it.6.0, it.6.1, mark_later c.args.standing.now.meta it.6.0 old (g.R.Rack.told (store_rack c.in-Ok.store)) (g.R.Rack.told (store_rack c.raise.new.store)) c.in-Ok.ensures.resumes.on.calls it.6.2),
        λ slots. it.7 slots x s old refl (resumed g at slots),
        λ slots.
            shown slots x s it.0 c.raise.new.table (store_out g.R.Rack.slot c.in-Ok.store) (g.R.Rack.slot (store_rack c.raise.new.store)) old (g.R.Rack.told (store_rack c.in-Ok.store)) (g.R.Rack.told (store_rack c.raise.new.store)) (resumed g at slots)
            (it.7 slots x s old refl (resumed g at slots)) it.3 (c.raise.ensures.rows ∙ c.requires.rows) c.in-Ok-raise.ensures.map (out_is g at) (stays g at it.0 it.4 it.3),
        it.8,
        λ slots.
            keeps_dirty slots x s it.0 old (g.R.Rack.told (store_rack c.in-Ok.store)) (g.R.Rack.told (store_rack c.raise.new.store)) (resumed g at slots) c.in-Ok.ensures.resumes.laid
            (it.7 slots x s old refl (resumed g at slots)) it.3 c.in-Ok-raise.ensures.map.far (stays g at it.0 it.4 it.3),
        it.9,
      );
  map =
      let meta = c.args.standing.now.meta in
      let it = c.in-Ok-raise.ensures.ends in
      let m = c.in-Ok-raise.meta in
      let table = is_dirty c.raise.new.table in
      let a = g.R.Rack.slot c.args.rack in
      let b = g.R.Rack.slot (store_rack c.in-Ok.store) in
      let e = g.R.Rack.slot (store_rack c.raise.new.store) in
      let told = g.R.Rack.told (store_rack c.raise.new.store) in
      let out_is : store_out g.R.Rack.slot c.in-Ok.store ≡ or_else (named_out meta.out) (first_absent (λ d. (b d).power) meta.setup.geometry.disks) =
      ap (λ (o : Option ℕ). or_else o (first_absent (λ d. (b d).power) c.in-Ok.store.disks)) c.in-Ok.ensures.resumes.named
      ∙ ap (λ (n : ℕ). or_else (named_out meta.out) (first_absent (λ d. (b d).power) n)) c.in-Ok.ensures.resumes.disks in
      map_sooner a b e m table told c.in-Ok.ensures.resumes.on.powers
      (map_served _ _ _ _ _ b e meta m (store_out g.R.Rack.slot c.in-Ok.store) table (g.R.Rack.told (store_rack c.in-Ok.store)) told c.in-Ok-raise.ensures.servable
      (ap (λ (x : Meta). x.setup) it.2 ∙ loss_setup it.0 it.1 ∙ it.3) c.in-Ok-raise.ensures.map (g.met.R.Rack.agrees (store_rack c.raise.new.store)) out_is c.raise.ensures.kept.absent
      (λ d name. c.in-Ok-raise.ensures.servable.stays d (it.9.named_by ∙ it.4 d name)) c.in-Ok-raise.ensures.out c.raise.ensures.kept.failed);
  borne = c.in-Ok-raise.ensures.borne;
  marked = λ slots.
      let at = (goal.at.returns-in-Ok-raise g c).After-raise in
      c.in-Ok-raise.ensures.marked slots c.args.standing.now.side (log_state c.args.standing.now.gate_open c.args.standing.now.meta c.args.batch) (g.R.Rack.told c.args.rack) refl (resumed g at slots);
}
