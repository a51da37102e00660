use Rattle.paraid_array.specs.Laws.{gear_going}
use Rattle.paraid_array.specs.Arrays.{shown_of_array}
use Rattle.paraid_array.proofs.CauseLemmas.{worn_cause}
use Rattle.std.proofs.Common.{refl, ap, Some, sym, ◌∙◌}
use Rattle.paraid_base.specs.declared.fault.Halt.TheVariants.{Worn}
use Rattle.paraid_record.specs.declared.meta.Meta.{Meta}
use Rattle.paraid_array.proofs.AnswersLemmas.{may_not_bad}
use Rattle.paraid_array.proofs.LossLemmas.{ended_not_none, worn_wear}
use Rattle.paraid_array.proofs.StandLemmas.{end_by, worn_on}
use Rattle.paraid_txn.specs.Stores.{store_rack}
use Rattle.paraid_session.proofs.FaultLemmas.{same_counts}
use Rattle.paraid_upkeep.proofs.ToldLemmas.{extends_none}
use Rattle.paraid_array.proofs.array.Array.wear_out.Goals as goal

pub returns : goal.returns
returns g c = record {
  core = refl;
  answers = λ event asked. record {
    turn =
        worn_on g.R.Rack.slot_count g.R.Rack.told c.args.self.now _ event c.args.count c.requires.going (may_not_bad event asked) asked c.requires.many c.requires.is refl refl
        (ap (λ (m : Meta). Some (end_by (Worn c.args.count) m.gear)) c.meta.ensures);
    grows = extends_none _;
    slots = refl;
    cause = worn_cause (shown_of_array g.R.Rack.slot c.args.self.now) _ event c.args.count c.requires.going asked c.requires.many c.requires.is (record { meta = refl; dirty = refl; staged = refl; slot = refl; energy = λ fits. refl }) refl refl (ap (λ (m : Meta). m.gear) c.meta.ensures ∙ sym (gear_going c.args.self.now.ended _ c.requires.going)) (same_counts (g.R.Rack.slot (store_rack c.args.self.now.core.store)));
  };
}

pub invariant_of-self : goal.invariant_of-self
invariant_of-self g c = record { serving = λ e. ended_not_none _ e; counted = c.args.self.now.counted; worn = worn_wear c.args.self.now.core.meta c.args.count c.requires.many c.requires.is; priced = c.args.self.now.priced; sampled = c.args.self.now.sampled }
