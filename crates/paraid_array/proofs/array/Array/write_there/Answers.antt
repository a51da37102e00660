use Rattle.paraid_serve.proofs.QuietLemmas.{used_nothing}
use Rattle.paraid_array.specs.Laws.{all_synced, gear_going}
use Rattle.paraid_base.specs.declared.event.Event.TheVariants.{Write}
use Rattle.paraid_base.specs.declared.event.Answer.TheVariants.{Wrote}
use Rattle.paraid_array.specs.Arrays.{shown_of_array}
use Rattle.paraid_upkeep.proofs.ServiceLemmas.{fits_then}
use Rattle.paraid_array.proofs.CauseLemmas.{accepted, all_there, commits_once, done_cause, takes, two_cause}
use Rattle.paraid_record.specs.declared.meta.Setup.{Setup}
use Rattle.paraid_machine.specs.Machine.{block_count}
use Rattle.paraid_base.specs.Log.{worn_at}
use Rattle.paraid_base.specs.Pairs.{pairs_of}
use Rattle.paraid_base.specs.declared.block.Block.{Block}
use Rattle.std.specs.Prelude.{All}
use Rattle.paraid_array.specs.Lasting.{halt_of_end}
use Rattle.std.proofs.Common.{refl, ap, ◌+◌, ◌*◌, Some, ℕ, ◌<◌, arith, subst, sym, ◌∙◌}
use Rattle.paraid_base.specs.declared.fault.Halt.TheVariants.{Two as HaltTwo}
use Rattle.paraid_record.specs.declared.meta.Meta.{Meta}
use Rattle.paraid_gear.specs.ThreeWindows.{lengths_of, sample_of}
use Rattle.paraid_core.specs.Room.{commits_first}
use Rattle.paraid_event.proofs.CoreServingLemmas.{copies_kept}
use Rattle.paraid_array.proofs.CoreLemmas.{serving_then}
use Rattle.paraid_array.proofs.RequestLemmas.{seen_write, write_lost, write_on}
use Rattle.paraid_array.proofs.StandLemmas.{end_by}
use Rattle.paraid_array.proofs.LossLemmas.{going_wear, two_lost, ended_not_none, two_wear}
use Rattle.paraid_image.specs.Out.{named_out}
use Rattle.paraid_txn.specs.Stores.{named_of, store_rack}
use Rattle.paraid_session.proofs.FaultLemmas.{no_fall_counts}
use Rattle.paraid_upkeep.proofs.ToldLemmas.{extends_core}
use Rattle.paraid_array.proofs.array.Array.write_there.Goals as goal

pub write_many-requires : goal.write_many-requires
write_many-requires g c =
    let q = c.args.self.now.serving c.requires.going in
    record {
      serving = record {
        ready = q.serving.ready;
        serves = q.serving.serves;
      };
      blocks = subst (λ (z : Setup). All (λ (pair : ℕ × Block). pair.0 < block_count z) (pairs_of c.args.pairs.now)) (sym q.same_setup) c.requires.blocks;
      committable = record {
        epoch = let e = c.requires.epoch in omega (arith, e);
        copies_synced = q.serving.copies_synced;
      };
      fits = let w = c.requires.writes in omega (arith, w);
    }

pub invariant_of-self : goal.invariant_of-self
invariant_of-self g c =
    let a = c.args.self.now in
    let done = c.in-Ok.ensures in
    record {
      serving = λ e. serving_then g.R.Rack.slot_count g.R.Rack.slot a.core c.write_many.new.self (lengths_of a.windows) a.setup a.slots (commits_first c.args.self.now.core.batch (10 * c.args.pairs.now.count)) (a.serving e) done.commits.stays.losses.marks done.commits.stays.setup c.write_many.ensures.commits.stays.losses.slots done.commits.stays.ready done.commits.serves
          done.draft done.commits.stays.copied done.commits.unsynced done.commits.names;
      counted = c.write_many.ensures.commits.stays.losses.slots ∙ c.args.self.now.counted;
      worn = going_wear c.write_many.new.self.meta c.args.self.now.ended c.requires.going;
      priced = c.args.self.now.priced;
      sampled = c.args.self.now.sampled;
    }

pub returns-in-Ok : goal.returns-in-Ok
returns-in-Ok g c = record {
  answers = record {
    turn =
        let a = c.args.self.now in
        let all = c.write_many.ensures in
        let done = c.in-Ok.ensures in
        write_on g.R.Rack.slot_count g.R.Rack.slot g.R.Rack.told g.met.R.Rack.agrees a _ c.requires.going c.requires.epoch c.requires.writes (commits_first c.args.self.now.core.batch (10 * c.args.pairs.now.count)) all.commits.calls all.commits.kept all.commits.whole
        c.requires.going refl refl c.one_more-self.ensures.more refl done.commits.stays.losses.marks done.commits.stays.ready done.commits.stays.setup all.commits.stays.losses.slots (copies_kept a.core c.write_many.new.self done.commits.stays.setup all.commits.stays.copied (a.serving c.requires.going).serving.copies_synced)
        c.args.pairs.now (c.meta-2.result.now.writes + 1) (ap (λ (m : Meta). m.writes + 1) c.meta-2.ensures) c.requires.blocks done.stands (a.serving c.requires.going).same_setup done.bits;
    grows = extends_core g.R.Rack.told c.args.self.now.core c.write_many.new.self _ c.write_many.ensures.commits.calls;
    slots = refl;
    cause = done_cause (shown_of_array g.R.Rack.slot c.args.self.now) _ (Write c.args.pairs.now) (takes (shown_of_array g.R.Rack.slot c.args.self.now) (Write c.args.pairs.now) (ap halt_of_end c.requires.going) c.requires.epoch c.requires.writes) (all_there (block_count c.args.self.now.setup) (pairs_of c.args.pairs.now) c.requires.blocks) refl (no_fall_counts (g.R.Rack.slot (store_rack c.args.self.now.core.store)) (g.R.Rack.slot (store_rack c.write_many.new.self.store)) c.write_many.ensures.commits.stays.losses.spared.no_fall) (Wrote (c.meta-2.result.now.writes + 1)) (ap halt_of_end c.requires.going) (gear_going c.args.self.now.ended _) (record { samples = refl; served = c.one_more-self.ensures.cut }) (
      ap (λ (m : Meta). m.writes + 1) c.meta-2.ensures,
      accepted (shown_of_array g.R.Rack.slot c.args.self.now) _ 1 c.in-Ok.ensures.commits.stays.losses.marks c.in-Ok.ensures.writes refl,
      seen_write g.R.Rack.slot_count g.R.Rack.slot c.args.self.now c.write_many.new.self 0 (sample_of c.one_more-self.result) c.in-Ok.ensures.commits.stays.setup (c.args.self.now.serving c.requires.going).same_setup c.args.pairs.now c.in-Ok.ensures.bits,
      c.in-Ok.ensures.staged,
    )
        (commits_once (shown_of_array g.R.Rack.slot c.args.self.now) _ (commits_first c.args.self.now.core.batch (10 * c.args.pairs.now.count)) c.in-Ok.ensures.commits.epoch)
        (fits_then g.R.Rack.slot_count g.R.Rack.slot c.args.self.now.core c.write_many.new.self c.in-Ok.ensures.commits.stays.losses.marks c.in-Ok.ensures.commits.stays.setup (c.args.self.now.serving c.requires.going).fits)
        (let q = (c.args.self.now.serving c.requires.going).serving in
        all_synced g.R.Rack.slot c.write_many.new.self (copies_kept c.args.self.now.core c.write_many.new.self c.in-Ok.ensures.commits.stays.setup c.write_many.ensures.commits.stays.copied q.copies_synced) (c.in-Ok.ensures.commits.unsynced q.unsynced));
  };
}

pub returns-in-Err : goal.returns-in-Err
returns-in-Err g c = record {
  answers = record {
    turn =
        let a = c.args.self.now in
        let all = c.write_many.ensures in
        write_lost g.R.Rack.slot_count g.R.Rack.slot g.R.Rack.told g.met.R.Rack.agrees a _ c.requires.going c.requires.epoch c.requires.writes (commits_first c.args.self.now.core.batch (10 * c.args.pairs.now.count)) all.commits.calls all.commits.kept all.commits.whole
        c.in-Err.two refl (ap (λ (m : Meta). Some (end_by (HaltTwo c.in-Err.two) m.gear)) c.meta.ensures) all.commits.moments c.in-Err.ensures.commits.stays.losses.tells c.args.pairs.now c.requires.blocks;
    grows = extends_core g.R.Rack.told c.args.self.now.core c.write_many.new.self _ c.write_many.ensures.commits.calls;
    slots = refl;
    cause = two_cause (shown_of_array g.R.Rack.slot c.args.self.now) _ (Write c.args.pairs.now) (takes (shown_of_array g.R.Rack.slot c.args.self.now) (Write c.args.pairs.now) (ap halt_of_end c.requires.going) c.requires.epoch c.requires.writes) (all_there (block_count c.args.self.now.setup) (pairs_of c.args.pairs.now) c.requires.blocks) refl (no_fall_counts (g.R.Rack.slot (store_rack c.args.self.now.core.store)) (g.R.Rack.slot (store_rack c.write_many.new.self.store)) c.write_many.ensures.commits.stays.losses.spared.no_fall) refl (ap (λ (m : Meta). m.gear) c.meta.ensures ∙ sym (gear_going c.args.self.now.ended _ (ap halt_of_end c.requires.going))) (λ fits. used_nothing c.args.self.now.ledger.total fits) c.in-Err.two refl
        (let a = c.args.self.now in
        two_lost (named_of a.core.store) (named_out a.core.meta.out) (a.serving c.requires.going).serving.serves.stays _ _ _ c.in-Err.two c.in-Err.ensures.commits.stays.losses.two);
  };
}

pub invariant_of-self-in-Err : goal.invariant_of-self-in-Err
invariant_of-self-in-Err g c = record { serving = λ e. ended_not_none _ e; counted = c.write_many.ensures.commits.stays.losses.slots ∙ c.args.self.now.counted; worn = two_wear c.write_many.new.self.meta c.in-Err.two; priced = c.args.self.now.priced; sampled = c.args.self.now.sampled }

pub overflow_add-result : goal.overflow_add-result
overflow_add-result g c = let w = subst (λ (m : Meta). m.writes < worn_at) (sym c.meta-2.ensures) c.requires.writes in omega (arith, w)
