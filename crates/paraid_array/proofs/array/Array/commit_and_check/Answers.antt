use Rattle.paraid_serve.proofs.QuietLemmas.{used_nothing}
use Rattle.paraid_array.specs.Laws.{all_synced, gear_going}
use Rattle.std.proofs.Common.{◌∙◌, sym, ap, ◌≡◌, refl, Some, true, arith}
use Rattle.paraid_base.specs.declared.event.Event.TheVariants.{Flush}
use Rattle.paraid_base.specs.declared.event.Answer.TheVariants.{Flushed}
use Rattle.paraid_array.specs.Arrays.{shown_of_array}
use Rattle.paraid_upkeep.proofs.ServiceLemmas.{fits_then}
use Rattle.paraid_array.proofs.CauseLemmas.{accepted, commits_staged, done_cause, plus_none, takes, two_cause}
use Rattle.paraid_array.specs.Lasting.{halt_of_end}
use Rattle.paraid_base.specs.declared.fault.Halt.TheVariants.{Two as HaltTwo}
use Rattle.paraid_record.specs.declared.meta.Meta.{Meta}
use Rattle.paraid_dirty.specs.Table.{is_dirty}
use Rattle.paraid_gear.specs.ThreeWindows.{lengths_of}
use Rattle.paraid_scrub.specs.Counts.{no_faults}
use Rattle.paraid_event.proofs.CoreServingLemmas.{copies_kept}
use Rattle.paraid_array.proofs.CheckLemmas.{at_point}
use Rattle.paraid_array.proofs.CoreLemmas.{serving_then}
use Rattle.paraid_array.proofs.FlushLemmas.{flush_lost, flush_on}
use Rattle.paraid_array.proofs.StandLemmas.{end_by, told_before}
use Rattle.paraid_array.proofs.LossLemmas.{going_wear, two_lost, ended_not_none, two_wear}
use Rattle.paraid_image.specs.Out.{named_out}
use Rattle.paraid_image.specs.Sides.{Batch}
use Rattle.std.specs.Prelude.{length}
use Rattle.paraid_txn.specs.Stores.{named_of, store_rack}
use Rattle.paraid_session.proofs.FaultLemmas.{no_fall_counts}
use Rattle.paraid_upkeep.proofs.ToldLemmas.{extends_core}
use Rattle.paraid_array.proofs.array.Array.commit_and_check.Goals as goal

pub commit_and_count-requires : goal.commit_and_count-requires
commit_and_count-requires g c =
    let q = c.args.self.now.serving c.requires.going in
    record {
      can = record {
        ready = q.serving.ready;
        serves = q.serving.serves;
        fresh = q.spins;
        no_draft = q.serving.draft;
        epoch = let e = c.requires.epoch in omega (arith, e);
        copies_synced = q.serving.copies_synced;
      };
    }

pub invariant_of-self : goal.invariant_of-self
invariant_of-self g c =
    let a = c.args.self.now in
    let all = c.commit_and_count.ensures in
    let done = c.in-Ok.ensures in
    record {
      serving = λ e. serving_then g.R.Rack.slot_count g.R.Rack.slot a.core c.commit_and_count.new.core (lengths_of a.windows) a.setup a.slots true (a.serving e) done.leaves.marks done.leaves.setup done.rack.slots done.leaves.ready done.leaves.serves
          done.leaves.draft all.copied done.leaves.unsynced done.leaves.named;
      counted = c.commit_and_count.ensures.rack.slots ∙ c.args.self.now.counted;
      worn = going_wear c.commit_and_count.new.core.meta c.args.self.now.ended c.requires.going;
      priced = c.args.self.now.priced;
      sampled = c.args.self.now.sampled;
    }

pub returns-in-Ok : goal.returns-in-Ok
returns-in-Ok g c = record {
  answers = record {
    turn =
        let a = c.args.self.now in
        let all = c.commit_and_count.ensures in
        let done = c.in-Ok.ensures in
        flush_on g.R.Rack.slot_count g.R.Rack.slot g.R.Rack.told g.met.R.Rack.agrees a _ c.requires.going c.requires.epoch c.requires.writes all.calls all.whole
        a.core.meta.writes refl c.requires.going refl refl refl refl done.stands done.leaves.marks done.leaves.ready done.leaves.setup done.rack.slots done.leaves.table
        (copies_kept a.core c.commit_and_count.new.core done.leaves.setup all.copied (a.serving c.requires.going).serving.copies_synced) done.leaves.nothing;
    grows = extends_core g.R.Rack.told c.args.self.now.core c.commit_and_count.new.core _ c.commit_and_count.ensures.calls;
    slots = refl;
    cause = done_cause (shown_of_array g.R.Rack.slot c.args.self.now) _ Flush (takes (shown_of_array g.R.Rack.slot c.args.self.now) Flush (ap halt_of_end c.requires.going) c.requires.epoch c.requires.writes) refl refl (no_fall_counts (g.R.Rack.slot (store_rack c.args.self.now.core.store)) (g.R.Rack.slot (store_rack c.commit_and_count.new.core.store)) c.commit_and_count.ensures.rack.no_fall) (Flushed c.args.self.now.core.meta.writes) (ap halt_of_end c.requires.going) (gear_going c.args.self.now.ended _) (record { samples = refl; served = refl })
        (refl, accepted (shown_of_array g.R.Rack.slot c.args.self.now) _ 0 c.in-Ok.ensures.leaves.marks (c.in-Ok.ensures.leaves.writes ∙ plus_none c.args.self.now.core.meta.writes) refl, ap is_dirty c.in-Ok.ensures.leaves.table, ap (λ (b : Batch). length b) c.in-Ok.ensures.leaves.nothing)
        (commits_staged (shown_of_array g.R.Rack.slot c.args.self.now) _ c.args.self.now.core.batch refl c.requires.some c.in-Ok.ensures.leaves.epoch)
        (fits_then g.R.Rack.slot_count g.R.Rack.slot c.args.self.now.core c.commit_and_count.new.core c.in-Ok.ensures.leaves.marks c.in-Ok.ensures.leaves.setup (c.args.self.now.serving c.requires.going).fits)
        (let q = (c.args.self.now.serving c.requires.going).serving in
        all_synced g.R.Rack.slot c.commit_and_count.new.core (copies_kept c.args.self.now.core c.commit_and_count.new.core c.in-Ok.ensures.leaves.setup c.commit_and_count.ensures.copied q.copies_synced) (c.in-Ok.ensures.leaves.unsynced q.unsynced));
  };
  sound = λ some p at.
      at_point g.R.Rack.slot_count g.R.Rack.told c.args.self.now c.requires.going (c.in-Ok.report ≡ no_faults) (λ h lo t tells stands. c.in-Ok.ensures.sound h lo t tells stands some)
      (told_before (g.R.Rack.told c.args.self.now.core.store.rack) (g.R.Rack.told c.commit_and_count.new.core.store.rack) _ c.commit_and_count.ensures.calls some) p at;
  counts = c.in-Ok.ensures.counts;
}

pub returns-in-Err : goal.returns-in-Err
returns-in-Err g c = record {
  answers = record {
    turn =
        let a = c.args.self.now in
        let all = c.commit_and_count.ensures in
        flush_lost g.R.Rack.slot_count g.R.Rack.slot g.R.Rack.told g.met.R.Rack.agrees a _ c.requires.going c.requires.epoch c.requires.writes all.calls all.whole
        c.in-Err.two refl (ap (λ (m : Meta). Some (end_by (HaltTwo c.in-Err.two) m.gear)) c.meta.ensures) all.moments c.in-Err.ensures.rack.loses;
    grows = extends_core g.R.Rack.told c.args.self.now.core c.commit_and_count.new.core _ c.commit_and_count.ensures.calls;
    slots = refl;
    cause = two_cause (shown_of_array g.R.Rack.slot c.args.self.now) _ Flush (takes (shown_of_array g.R.Rack.slot c.args.self.now) Flush (ap halt_of_end c.requires.going) c.requires.epoch c.requires.writes) refl refl (no_fall_counts (g.R.Rack.slot (store_rack c.args.self.now.core.store)) (g.R.Rack.slot (store_rack c.commit_and_count.new.core.store)) c.commit_and_count.ensures.rack.no_fall) refl (ap (λ (m : Meta). m.gear) c.meta.ensures ∙ sym (gear_going c.args.self.now.ended _ (ap halt_of_end c.requires.going))) (λ fits. used_nothing c.args.self.now.ledger.total fits) c.in-Err.two refl
        (let a = c.args.self.now in
        two_lost (named_of a.core.store) (named_out a.core.meta.out) (a.serving c.requires.going).serving.serves.stays _ _ _ c.in-Err.two c.in-Err.ensures.rack.two);
  };
  sound = tt;
  counts = tt;
}

pub invariant_of-self-in-Err : goal.invariant_of-self-in-Err
invariant_of-self-in-Err g c = record { serving = λ e. ended_not_none _ e; counted = c.commit_and_count.ensures.rack.slots ∙ c.args.self.now.counted; worn = two_wear c.commit_and_count.new.core.meta c.in-Err.two; priced = c.args.self.now.priced; sampled = c.args.self.now.sampled }
