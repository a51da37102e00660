use Rattle.paraid_serve.proofs.QuietLemmas.{used_nothing}
use Rattle.paraid_array.specs.Laws.{all_synced, gear_going}
use Rattle.paraid_base.specs.declared.event.Event.TheVariants.{Flush}
use Rattle.paraid_base.specs.declared.event.Answer.TheVariants.{Flushed}
use Rattle.paraid_array.specs.Arrays.{shown_of_array}
use Rattle.paraid_upkeep.proofs.ServiceLemmas.{fits_then}
use Rattle.paraid_array.proofs.CauseLemmas.{accepted, commits_none, done_cause, plus_none, takes, two_cause}
use Rattle.paraid_array.specs.Lasting.{halt_of_end}
use Rattle.std.proofs.Common.{◌≡◌, ◌∙◌, refl, ap, Some, false, sym}
use Rattle.paraid_base.specs.declared.fault.Halt.TheVariants.{Two as HaltTwo}
use Rattle.paraid_record.specs.declared.meta.Meta.{Meta}
use Rattle.paraid_dirty.specs.Table.{is_dirty}
use Rattle.paraid_gear.specs.ThreeWindows.{lengths_of}
use Rattle.paraid_scrub.specs.Counts.{no_faults}
use Rattle.paraid_event.proofs.CoreServingLemmas.{copies_kept}
use Rattle.paraid_core.specs.Cores.{core_rack}
use Rattle.paraid_rack.specs.Trail.{now}
use Rattle.paraid_scrub.specs.Cores.{core_view, table_view}
use Rattle.paraid_array.proofs.CheckLemmas.{at_point, count_lost, count_on, counts_by, failed_one, only_reads}
use Rattle.paraid_array.proofs.CoreLemmas.{serving_then}
use Rattle.paraid_array.proofs.StandLemmas.{end_by, told_before}
use Rattle.paraid_array.proofs.LossLemmas.{going_wear, two_lost, ended_not_none, two_wear}
use Rattle.paraid_image.specs.Out.{named_out}
use Rattle.paraid_image.specs.Sides.{Batch}
use Rattle.std.specs.Prelude.{length, min}
use Rattle.paraid_txn.specs.Stores.{named_of, store_rack}
use Rattle.paraid_session.proofs.FaultLemmas.{no_fall_counts}
use Rattle.paraid_upkeep.proofs.ToldLemmas.{extends_core}
use Rattle.paraid_array.proofs.array.Array.check_kept.Goals as goal

pub check-requires : goal.check-requires
check-requires g c =
    let q = c.args.self.now.serving c.requires.going in
    record { can = record { ready = q.serving.ready; serves = q.serving.serves; draft = q.serving.draft; nothing = c.requires.nothing; fresh = q.spins } }

pub invariant_of-self : goal.invariant_of-self
invariant_of-self g c =
    let a = c.args.self.now in
    let all = c.check.ensures in
    let done = c.in-Ok.ensures in
    record {
      serving = λ e. serving_then g.R.Rack.slot_count g.R.Rack.slot a.core c.check.new.core (lengths_of a.windows) a.setup a.slots false (a.serving e) done.serves.marks done.serves.setup done.leaves.slots done.serves.ready done.serves.serves
          (done.serves.draft ∙ (a.serving e).serving.draft) all.leaves.copied done.serves.unsynced done.serves.named;
      counted = c.check.ensures.leaves.slots ∙ c.args.self.now.counted;
      worn = going_wear c.check.new.core.meta c.args.self.now.ended c.requires.going;
      priced = c.args.self.now.priced;
      sampled = c.args.self.now.sampled;
    }

pub returns-in-Ok : goal.returns-in-Ok
returns-in-Ok g c = record {
  answers = record {
    turn =
        let a = c.args.self.now in
        let all = c.check.ensures in
        let done = c.in-Ok.ensures in
        count_on g.R.Rack.slot_count g.R.Rack.slot g.R.Rack.told g.met.R.Rack.agrees a _ c.requires.going c.requires.epoch c.requires.writes all.leaves.calls
        a.core.meta.writes refl c.requires.going refl refl refl refl c.requires.nothing done.serves.stands done.serves.marks done.serves.ready done.serves.setup done.leaves.slots done.serves.table
        (copies_kept a.core c.check.new.core done.serves.setup all.leaves.copied (a.serving c.requires.going).serving.copies_synced) (done.serves.batch ∙ c.requires.nothing);
    grows = extends_core g.R.Rack.told c.args.self.now.core c.check.new.core _ c.check.ensures.leaves.calls;
    slots = refl;
    cause = done_cause (shown_of_array g.R.Rack.slot c.args.self.now) _ Flush (takes (shown_of_array g.R.Rack.slot c.args.self.now) Flush (ap halt_of_end c.requires.going) c.requires.epoch c.requires.writes) refl refl (no_fall_counts (g.R.Rack.slot (store_rack c.args.self.now.core.store)) (g.R.Rack.slot (store_rack c.check.new.core.store)) c.check.ensures.leaves.spared.no_fall) (Flushed c.args.self.now.core.meta.writes) (ap halt_of_end c.requires.going) (gear_going c.args.self.now.ended _) (record { samples = refl; served = refl })
        (refl, accepted (shown_of_array g.R.Rack.slot c.args.self.now) _ 0 c.in-Ok.ensures.serves.marks (c.in-Ok.ensures.serves.writes ∙ plus_none c.args.self.now.core.meta.writes) refl, ap is_dirty c.in-Ok.ensures.serves.table, ap (λ (b : Batch). length b) (c.in-Ok.ensures.serves.batch ∙ c.requires.nothing))
        (commits_none (shown_of_array g.R.Rack.slot c.args.self.now) _ (min (length c.args.self.now.core.batch) 1) c.in-Ok.ensures.serves.epoch)
        (fits_then g.R.Rack.slot_count g.R.Rack.slot c.args.self.now.core c.check.new.core c.in-Ok.ensures.serves.marks c.in-Ok.ensures.serves.setup (c.args.self.now.serving c.requires.going).fits)
        (let q = (c.args.self.now.serving c.requires.going).serving in
        all_synced g.R.Rack.slot c.check.new.core (copies_kept c.args.self.now.core c.check.new.core c.in-Ok.ensures.serves.setup c.check.ensures.leaves.copied q.copies_synced) (c.in-Ok.ensures.serves.unsynced q.unsynced));
  };
  sound = λ some p at.
      at_point g.R.Rack.slot_count g.R.Rack.told c.args.self.now c.requires.going (c.in-Ok.checked.report ≡ no_faults) (λ h lo t tells stands. c.in-Ok.ensures.zeros h lo t tells stands some)
      (told_before (g.R.Rack.told c.args.self.now.core.store.rack) (g.R.Rack.told c.check.new.core.store.rack) _ c.check.ensures.leaves.calls some) p at;
  most = c.in-Ok.ensures.most;
  reads = only_reads c.args.self.now.core.meta.setup.geometry.disks _ _ c.check.ensures.leaves.reads;
  counts =
      let old = c.args.self.now.core in
      let new = c.check.new.core in
      let checked = c.in-Ok.checked in
      record {
        by_table = λ nothing t tells some.
            let it = c.in-Ok.ensures.by_table t tells some in
            counts_by (table_view old (now t)) (g.R.Rack.slot (core_rack old)) (g.R.Rack.slot (core_rack new)) checked.report checked.whole it.0 it.1 it.2 (λ part. failed_one g.R.Rack.slot old new (c.in-Ok.ensures.ended part));
        by_map = λ nothing t tells some bits.
            let it = c.in-Ok.ensures.counts t tells some bits in
            counts_by (core_view old (now t)) (g.R.Rack.slot (core_rack old)) (g.R.Rack.slot (core_rack new)) checked.report checked.whole it.0 it.1 it.2 (λ part. failed_one g.R.Rack.slot old new (c.in-Ok.ensures.ended part));
      };
}

pub returns-in-Err : goal.returns-in-Err
returns-in-Err g c = record {
  answers = record {
    turn =
        let a = c.args.self.now in
        let all = c.check.ensures in
        count_lost g.R.Rack.slot_count g.R.Rack.slot g.R.Rack.told g.met.R.Rack.agrees a _ c.requires.going c.requires.epoch c.requires.writes all.leaves.calls
        c.in-Err.two refl (ap (λ (m : Meta). Some (end_by (HaltTwo c.in-Err.two) m.gear)) c.meta.ensures) all.leaves.moments c.in-Err.ensures.leaves.tells;
    grows = extends_core g.R.Rack.told c.args.self.now.core c.check.new.core _ c.check.ensures.leaves.calls;
    slots = refl;
    cause = two_cause (shown_of_array g.R.Rack.slot c.args.self.now) _ Flush (takes (shown_of_array g.R.Rack.slot c.args.self.now) Flush (ap halt_of_end c.requires.going) c.requires.epoch c.requires.writes) refl refl (no_fall_counts (g.R.Rack.slot (store_rack c.args.self.now.core.store)) (g.R.Rack.slot (store_rack c.check.new.core.store)) c.check.ensures.leaves.spared.no_fall) refl (ap (λ (m : Meta). m.gear) c.meta.ensures ∙ sym (gear_going c.args.self.now.ended _ (ap halt_of_end c.requires.going))) (λ fits. used_nothing c.args.self.now.ledger.total fits) c.in-Err.two refl
        (let a = c.args.self.now in
        two_lost (named_of a.core.store) (named_out a.core.meta.out) (a.serving c.requires.going).serving.serves.stays _ _ _ c.in-Err.two c.in-Err.ensures.leaves.two);
  };
  sound = tt;
  counts = tt;
  most = tt;
  reads = only_reads c.args.self.now.core.meta.setup.geometry.disks _ _ c.check.ensures.leaves.reads;
}

pub invariant_of-self-in-Err : goal.invariant_of-self-in-Err
invariant_of-self-in-Err g c = record { serving = λ e. ended_not_none _ e; counted = c.check.ensures.leaves.slots ∙ c.args.self.now.counted; worn = two_wear c.check.new.core.meta c.in-Err.two; priced = c.args.self.now.priced; sampled = c.args.self.now.sampled }
