use Rattle.paraid_serve.proofs.QuietLemmas.{used_nothing}
use Rattle.paraid_array.specs.Laws.{all_synced, gear_going}
use Rattle.paraid_base.specs.declared.event.Event.TheVariants.{Flush}
use Rattle.paraid_base.specs.declared.event.Answer.TheVariants.{Flushed}
use Rattle.paraid_array.specs.Arrays.{shown_of_array}
use Rattle.paraid_upkeep.proofs.ServiceLemmas.{fits_then}
use Rattle.paraid_array.proofs.CauseLemmas.{accepted, commits_staged, done_cause, plus_none, takes, two_cause}
use Rattle.paraid_array.specs.Lasting.{halt_of_end}
use Rattle.std.proofs.Common.{refl, ap, ◌∙◌, Some, true, arith, sym}
use Rattle.paraid_base.specs.declared.fault.Halt.TheVariants.{Two as HaltTwo}
use Rattle.paraid_record.specs.declared.meta.Meta.{Meta}
use Rattle.paraid_dirty.specs.Table.{is_dirty}
use Rattle.paraid_gear.specs.ThreeWindows.{lengths_of}
use Rattle.paraid_event.proofs.CoreServingLemmas.{copies_kept}
use Rattle.paraid_array.proofs.CoreLemmas.{serving_then, tells_by_down}
use Rattle.paraid_array.proofs.FlushLemmas.{flush_lost, flush_on}
use Rattle.paraid_array.proofs.StandLemmas.{end_by}
use Rattle.paraid_array.proofs.LossLemmas.{going_wear, two_lost, ended_not_none, two_wear}
use Rattle.paraid_image.specs.Out.{named_out}
use Rattle.paraid_image.specs.Sides.{Batch}
use Rattle.std.specs.Prelude.{length}
use Rattle.paraid_txn.specs.Stores.{named_of, store_rack}
use Rattle.paraid_session.proofs.FaultLemmas.{no_fall_counts}
use Rattle.paraid_upkeep.proofs.ToldLemmas.{extends_core}
use Rattle.paraid_array.proofs.array.Array.commit_all.Goals as goal

pub commit-requires : goal.commit-requires
commit-requires g c =
    let q = (c.args.self.now.serving c.requires.going).serving in
    record {
      ready = q.ready;
      committable = record {
        epoch = let e = c.requires.epoch in omega (arith, e);
        copies_synced = q.copies_synced;
      };
    }

pub invariant_of-self : goal.invariant_of-self
invariant_of-self g c =
    let a = c.args.self.now in
    let all = c.commit.ensures in
    let done = c.in-Ok.ensures in
    record {
      serving = λ e. serving_then g.R.Rack.slot_count g.R.Rack.slot a.core c.commit.new.self (lengths_of a.windows) a.setup a.slots true (a.serving e) done.stays.losses.marks done.stays.setup c.commit.ensures.stays.losses.slots done.stays.ready (done.serves (a.serving e).serving.serves)
          (all.cells.draft ∙ (a.serving e).serving.draft) all.stays.copied done.unsynced done.meta.named;
      counted = c.commit.ensures.stays.losses.slots ∙ c.args.self.now.counted;
      worn = going_wear c.commit.new.self.meta c.args.self.now.ended c.requires.going;
      priced = c.args.self.now.priced;
      sampled = c.args.self.now.sampled;
    }

pub returns-in-Ok : goal.returns-in-Ok
returns-in-Ok g c = record {
  answers = record {
    turn =
        let a = c.args.self.now in
        let all = c.commit.ensures in
        let done = c.in-Ok.ensures in
        flush_on g.R.Rack.slot_count g.R.Rack.slot g.R.Rack.told g.met.R.Rack.agrees a _ c.requires.going c.requires.epoch c.requires.writes all.brings.calls all.brings.whole
        c.meta-2.result.now.writes (ap (λ (m : Meta). m.writes) c.meta-2.ensures) c.requires.going refl refl refl refl done.held.stands done.stays.losses.marks done.stays.ready done.stays.setup all.stays.losses.slots all.cells.table
        (copies_kept a.core c.commit.new.self done.stays.setup all.stays.copied (a.serving c.requires.going).serving.copies_synced) done.nothing;
    grows = extends_core g.R.Rack.told c.args.self.now.core c.commit.new.self _ c.commit.ensures.brings.calls;
    slots = refl;
    cause = done_cause (shown_of_array g.R.Rack.slot c.args.self.now) _ Flush (takes (shown_of_array g.R.Rack.slot c.args.self.now) Flush (ap halt_of_end c.requires.going) c.requires.epoch c.requires.writes) refl refl (no_fall_counts (g.R.Rack.slot (store_rack c.args.self.now.core.store)) (g.R.Rack.slot (store_rack c.commit.new.self.store)) c.commit.ensures.stays.losses.spared.no_fall) (Flushed c.meta-2.result.now.writes) (ap halt_of_end c.requires.going) (gear_going c.args.self.now.ended _) (record { samples = refl; served = refl })
        (ap (λ (m : Meta). m.writes) c.meta-2.ensures, accepted (shown_of_array g.R.Rack.slot c.args.self.now) _ 0 c.in-Ok.ensures.stays.losses.marks (c.in-Ok.ensures.cells.writes ∙ plus_none c.args.self.now.core.meta.writes) refl, ap is_dirty c.commit.ensures.cells.table, ap (λ (b : Batch). length b) c.in-Ok.ensures.nothing)
        (commits_staged (shown_of_array g.R.Rack.slot c.args.self.now) _ c.args.self.now.core.batch refl c.requires.some c.in-Ok.ensures.meta.epoch)
        (fits_then g.R.Rack.slot_count g.R.Rack.slot c.args.self.now.core c.commit.new.self c.in-Ok.ensures.stays.losses.marks c.in-Ok.ensures.stays.setup (c.args.self.now.serving c.requires.going).fits)
        (let q = (c.args.self.now.serving c.requires.going).serving in
        all_synced g.R.Rack.slot c.commit.new.self (copies_kept c.args.self.now.core c.commit.new.self c.in-Ok.ensures.stays.setup c.commit.ensures.stays.copied q.copies_synced) (c.in-Ok.ensures.unsynced q.unsynced));
  };
}

pub returns-in-Err : goal.returns-in-Err
returns-in-Err g c = record {
  answers = record {
    turn =
        let a = c.args.self.now in
        let all = c.commit.ensures in
        flush_lost g.R.Rack.slot_count g.R.Rack.slot g.R.Rack.told g.met.R.Rack.agrees a _ c.requires.going c.requires.epoch c.requires.writes all.brings.calls all.brings.whole
        c.in-Err.two refl (ap (λ (m : Meta). Some (end_by (HaltTwo c.in-Err.two) m.gear)) c.meta.ensures) all.held.moments
        (tells_by_down g.R.Rack.slot g.R.Rack.told a.core c.commit.new.self c.in-Err.two (a.serving c.requires.going).serving.serves c.in-Err.ensures.stays.losses.tells);
    grows = extends_core g.R.Rack.told c.args.self.now.core c.commit.new.self _ c.commit.ensures.brings.calls;
    slots = refl;
    cause = two_cause (shown_of_array g.R.Rack.slot c.args.self.now) _ Flush (takes (shown_of_array g.R.Rack.slot c.args.self.now) Flush (ap halt_of_end c.requires.going) c.requires.epoch c.requires.writes) refl refl (no_fall_counts (g.R.Rack.slot (store_rack c.args.self.now.core.store)) (g.R.Rack.slot (store_rack c.commit.new.self.store)) c.commit.ensures.stays.losses.spared.no_fall) refl (ap (λ (m : Meta). m.gear) c.meta.ensures ∙ sym (gear_going c.args.self.now.ended _ (ap halt_of_end c.requires.going))) (λ fits. used_nothing c.args.self.now.ledger.total fits) c.in-Err.two refl
        (let a = c.args.self.now in
        two_lost (named_of a.core.store) (named_out a.core.meta.out) (a.serving c.requires.going).serving.serves.stays _ _ _ c.in-Err.two c.in-Err.ensures.stays.losses.two);
  };
}

pub invariant_of-self-in-Err : goal.invariant_of-self-in-Err
invariant_of-self-in-Err g c = record { serving = λ e. ended_not_none _ e; counted = c.commit.ensures.stays.losses.slots ∙ c.args.self.now.counted; worn = two_wear c.commit.new.self.meta c.in-Err.two; priced = c.args.self.now.priced; sampled = c.args.self.now.sampled }
