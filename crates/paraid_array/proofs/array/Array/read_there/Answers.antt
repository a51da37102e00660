use Rattle.paraid_serve.proofs.QuietLemmas.{used_nothing}
use Rattle.paraid_array.specs.Laws.{all_synced, gear_going}
use Rattle.std.proofs.Common.{◌∙◌, sym, ap, refl, Some, ◌<◌, arith, subst}
use Rattle.paraid_base.specs.declared.event.Event.TheVariants.{Read}
use Rattle.paraid_base.specs.declared.event.Answer.TheVariants.{Value}
use Rattle.paraid_array.specs.Arrays.{shown_of_array}
use Rattle.paraid_upkeep.proofs.ServiceLemmas.{fits_then}
use Rattle.paraid_array.proofs.CauseLemmas.{accepted, commits_to_clean, done_cause, one_there, plus_none, stages_to_clean, takes, two_cause}
use Rattle.paraid_record.specs.declared.meta.Setup.{Setup}
use Rattle.paraid_machine.specs.Machine.{block_count}
use Rattle.paraid_array.specs.Lasting.{halt_of_end}
use Rattle.paraid_base.specs.declared.fault.Halt.TheVariants.{Two as HaltTwo}
use Rattle.paraid_record.specs.declared.meta.Meta.{Meta}
use Rattle.paraid_gear.specs.ThreeWindows.{lengths_of, sample_of}
use Rattle.paraid_core.specs.Cleaning.{read_commits_first}
use Rattle.paraid_event.proofs.CoreServingLemmas.{copies_kept}
use Rattle.paraid_array.proofs.CoreLemmas.{serving_then}
use Rattle.paraid_array.proofs.RequestLemmas.{read_lost, read_on, seen_read}
use Rattle.paraid_array.proofs.StandLemmas.{end_by}
use Rattle.paraid_array.proofs.LossLemmas.{going_wear, two_lost, ended_not_none, two_wear}
use Rattle.paraid_image.specs.Out.{named_out}
use Rattle.paraid_image.specs.Sides.{Batch}
use Rattle.std.specs.Prelude.{length}
use Rattle.paraid_txn.specs.Stores.{named_of, store_rack}
use Rattle.paraid_session.proofs.FaultLemmas.{no_fall_counts}
use Rattle.paraid_upkeep.proofs.ToldLemmas.{extends_core}
use Rattle.paraid_array.proofs.array.Array.read_there.Goals as goal

pub read-requires : goal.read-requires
read-requires g c =
    let q = c.args.self.now.serving c.requires.going in
    record {
      serving = record {
        ready = q.serving.ready;
        serves = q.serving.serves;
      };
      block = subst (λ (z : Setup). c.args.block < block_count z) (sym q.same_setup) c.requires.block;
      no_draft = q.serving.draft;
      committable = record {
        epoch = let e = c.requires.epoch in omega (arith, e);
        copies_synced = q.serving.copies_synced;
      };
    }

pub invariant_of-self : goal.invariant_of-self
invariant_of-self g c =
    let a = c.args.self.now in
    let done = c.in-Ok.ensures in
    record {
      serving = λ e. serving_then g.R.Rack.slot_count g.R.Rack.slot a.core c.read.new.self (lengths_of a.windows) a.setup a.slots (read_commits_first c.args.self.now.core.meta c.args.self.now.core.dirty c.args.self.now.core.batch c.args.block) (a.serving e) done.commits.stays.losses.marks done.commits.stays.setup c.read.ensures.commits.stays.losses.slots done.commits.stays.ready done.commits.serves
          done.draft done.commits.stays.copied done.commits.unsynced done.commits.names;
      counted = c.read.ensures.commits.stays.losses.slots ∙ c.args.self.now.counted;
      worn = going_wear c.read.new.self.meta c.args.self.now.ended c.requires.going;
      priced = c.args.self.now.priced;
      sampled = c.args.self.now.sampled;
    }

pub returns-in-Ok : goal.returns-in-Ok
returns-in-Ok g c = record {
  answers = record {
    turn =
        let a = c.args.self.now in
        let all = c.read.ensures in
        let done = c.in-Ok.ensures in
        read_on g.R.Rack.slot_count g.R.Rack.slot g.R.Rack.told g.met.R.Rack.agrees a _ c.requires.going c.requires.epoch c.requires.writes (read_commits_first c.args.self.now.core.meta c.args.self.now.core.dirty c.args.self.now.core.batch c.args.block) all.commits.calls all.commits.kept all.commits.whole
        c.requires.going refl refl c.one_more-self.ensures.more refl done.commits.stays.losses.marks done.commits.stays.ready done.commits.stays.setup all.commits.stays.losses.slots (copies_kept a.core c.read.new.self done.commits.stays.setup all.commits.stays.copied (a.serving c.requires.going).serving.copies_synced)
        c.args.block c.read.new.into c.requires.block done.stands done.value (a.serving c.requires.going).same_setup done.bits;
    grows = extends_core g.R.Rack.told c.args.self.now.core c.read.new.self _ c.read.ensures.commits.calls;
    slots = refl;
    cause = done_cause (shown_of_array g.R.Rack.slot c.args.self.now) _ (Read c.args.block) (takes (shown_of_array g.R.Rack.slot c.args.self.now) (Read c.args.block) (ap halt_of_end c.requires.going) c.requires.epoch c.requires.writes) (one_there (block_count c.args.self.now.setup) c.args.block c.requires.block) refl (no_fall_counts (g.R.Rack.slot (store_rack c.args.self.now.core.store)) (g.R.Rack.slot (store_rack c.read.new.self.store)) c.read.ensures.commits.stays.losses.spared.no_fall) (Value c.args.block c.read.new.into) (ap halt_of_end c.requires.going) (gear_going c.args.self.now.ended _) (record { samples = refl; served = c.one_more-self.ensures.cut }) (
      refl,
      accepted (shown_of_array g.R.Rack.slot c.args.self.now) _ 0 c.in-Ok.ensures.commits.stays.losses.marks (c.in-Ok.ensures.writes ∙ plus_none c.args.self.now.core.meta.writes) refl,
      seen_read g.R.Rack.slot_count g.R.Rack.slot c.args.self.now c.read.new.self 0 (sample_of c.one_more-self.result) c.in-Ok.ensures.commits.stays.setup (c.args.self.now.serving c.requires.going).same_setup c.args.block c.in-Ok.ensures.bits,
      stages_to_clean g.R.Rack.slot c.args.self.now _ c.args.block (c.args.self.now.serving c.requires.going).same_setup c.read.ensures.few c.in-Ok.ensures.staged (λ kept. ap (λ (b : Batch). length b) (c.in-Ok.ensures.nothing kept).0),
    )
        (commits_to_clean g.R.Rack.slot c.args.self.now _ c.args.block (c.args.self.now.serving c.requires.going).same_setup c.read.ensures.few c.in-Ok.ensures.commits.epoch)
        (fits_then g.R.Rack.slot_count g.R.Rack.slot c.args.self.now.core c.read.new.self c.in-Ok.ensures.commits.stays.losses.marks c.in-Ok.ensures.commits.stays.setup (c.args.self.now.serving c.requires.going).fits)
        (let q = (c.args.self.now.serving c.requires.going).serving in
        all_synced g.R.Rack.slot c.read.new.self (copies_kept c.args.self.now.core c.read.new.self c.in-Ok.ensures.commits.stays.setup c.read.ensures.commits.stays.copied q.copies_synced) (c.in-Ok.ensures.commits.unsynced q.unsynced));
  };
}

pub returns-in-Err : goal.returns-in-Err
returns-in-Err g c = record {
  answers = record {
    turn =
        let a = c.args.self.now in
        let all = c.read.ensures in
        read_lost g.R.Rack.slot_count g.R.Rack.slot g.R.Rack.told g.met.R.Rack.agrees a _ c.requires.going c.requires.epoch c.requires.writes (read_commits_first c.args.self.now.core.meta c.args.self.now.core.dirty c.args.self.now.core.batch c.args.block) all.commits.calls all.commits.kept all.commits.whole
        c.in-Err.two refl (ap (λ (m : Meta). Some (end_by (HaltTwo c.in-Err.two) m.gear)) c.meta.ensures) all.commits.moments c.in-Err.ensures.commits.stays.losses.tells c.args.block c.requires.block;
    grows = extends_core g.R.Rack.told c.args.self.now.core c.read.new.self _ c.read.ensures.commits.calls;
    slots = refl;
    cause = two_cause (shown_of_array g.R.Rack.slot c.args.self.now) _ (Read c.args.block) (takes (shown_of_array g.R.Rack.slot c.args.self.now) (Read c.args.block) (ap halt_of_end c.requires.going) c.requires.epoch c.requires.writes) (one_there (block_count c.args.self.now.setup) c.args.block c.requires.block) refl (no_fall_counts (g.R.Rack.slot (store_rack c.args.self.now.core.store)) (g.R.Rack.slot (store_rack c.read.new.self.store)) c.read.ensures.commits.stays.losses.spared.no_fall) refl (ap (λ (m : Meta). m.gear) c.meta.ensures ∙ sym (gear_going c.args.self.now.ended _ (ap halt_of_end c.requires.going))) (λ fits. used_nothing c.args.self.now.ledger.total fits) c.in-Err.two refl
        (let a = c.args.self.now in
        two_lost (named_of a.core.store) (named_out a.core.meta.out) (a.serving c.requires.going).serving.serves.stays _ _ _ c.in-Err.two c.in-Err.ensures.commits.stays.losses.two);
  };
}

pub invariant_of-self-in-Err : goal.invariant_of-self-in-Err
invariant_of-self-in-Err g c = record { serving = λ e. ended_not_none _ e; counted = c.read.ensures.commits.stays.losses.slots ∙ c.args.self.now.counted; worn = two_wear c.read.new.self.meta c.in-Err.two; priced = c.args.self.now.priced; sampled = c.args.self.now.sampled }
