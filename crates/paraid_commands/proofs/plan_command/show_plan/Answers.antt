use Rattle.std.proofs.Common.{ℕ, inl, inr, length, refl, subst}
use Rattle.paraid_dirty.specs.Table.{is_dirty}
use Rattle.paraid_commands.specs.Planning.PlanOutcome.{refused, served}
use Rattle.paraid_recover.specs.Mounted.{IsServable}
use Rattle.paraid_txn.specs.Stores.{disks_of, epoch_of, named_of, store_rack}
use Rattle.paraid_commands.proofs.PlanLemmas.{plan_ended, plan_source}
use Rattle.paraid_commands.proofs.ShowLemmas.{refused_plan_status}
use Rattle.paraid_commands.proofs.plan_command.show_plan.Goals as goal

pub returns-in-Ok-clause-plans : goal.returns-in-Ok-clause-plans
returns-in-Ok-clause-plans g c =
    let e = c.in-Ok.ensures in
    let it = c.in-Ok.field-0 in
    let slot = g.R.Rack.slot (store_rack it.store) in
    rw c.close.ensures (served it.meta (is_dirty it.dirty) (record {
      epoch = epoch_of it.store;
      disks = disks_of it.store;
      named = named_of it.store;
      rows = length it.dirty;
      servable = subst (λ (n : ℕ). IsServable n slot (epoch_of it.store) (disks_of it.store) (named_of it.store) it.meta (length it.dirty)) e.slots e.servable;
      mounted = e.mounted.0;
      session = λ began at. e.mounted.1 _ began at;
    }) c.tell_plan-status.ensures.told)

pub returns-clause-plans : goal.returns-clause-plans
returns-clause-plans g c = refused c.in-Err.field-0.fault c.in-Err.ensures.cause (λ began at. c.in-Err.ensures.refused began at) c.tell_refusal.ensures.tells (refl, refl)

pub returns-in-Ok-clause-end : goal.returns-in-Ok-clause-end
returns-in-Ok-clause-end g c zero = plan_ended c.in-Ok.field-0.meta c.args.ups _ c.tell_plan-status.result _ c.tell_plan-status.ensures.told zero

pub returns-in-Ok-clause-source : goal.returns-in-Ok-clause-source
returns-in-Ok-clause-source g c three = plan_source c.in-Ok.field-0.meta c.args.ups _ c.tell_plan-status.result _ c.tell_plan-status.ensures.told three

pub returns-clause-status : goal.returns-clause-status
returns-clause-status g c = elim c.tell_refusal.ensures.tells.whole [
  | inl four ↦ inr (inr (inl four))
  | inr all ↦ refused_plan_status c.in-Err.field-0.fault c.tell_refusal.result all.1
]

pub returns-in-Ok-clause-unhurt : goal.returns-in-Ok-clause-unhurt
returns-in-Ok-clause-unhurt g c = c.tell_plan-status.ensures.unhurt

pub returns-clause-unhurt : goal.returns-clause-unhurt
returns-clause-unhurt g c = record { sink = c.tell_refusal.ensures.still; source = λ n m. refl }
