use Rattle.std.proofs.Common.{◌≡◌, ◌∙◌, ap, inl, inr, subst, ℕ, length}
use Rattle.paraid_dirty.specs.Table.{is_dirty}
use Rattle.paraid_commands.specs.MountFaults.{mount_fault_line, mount_fault_status}
use Rattle.paraid_commands.specs.Showing.ShowOutcome.{refused, shown}
use Rattle.paraid_commands.specs.States.{status_lines}
use Rattle.paraid_recover.specs.Mounted.{IsServable}
use Rattle.paraid_txn.specs.Stores.{disks_of, epoch_of, named_of, store_rack}
use Rattle.paraid_commands.proofs.ShowLemmas.{refused_status}
use Rattle.paraid_commands.proofs.status_command.show_state.Goals as goal

pub returns-in-Ok : goal.returns-in-Ok
returns-in-Ok g c = record {
  shows =
      let e = c.in-Ok.ensures in
      let it = c.in-Ok.field-0 in
      let slot = g.R.Rack.slot (store_rack it.store) in
      let rack : c.close.result ≡ store_rack it.store = c.close.ensures in
      rw rack (record {
        code = 0;
        lines = status_lines it.meta (is_dirty it.dirty);
        outcome = shown it.meta (is_dirty it.dirty) (record {
          epoch = epoch_of it.store;
          disks = disks_of it.store;
          named = named_of it.store;
          rows = length it.dirty;
          servable = subst (λ (n : ℕ). IsServable n slot (epoch_of it.store) (disks_of it.store) (named_of it.store) it.meta (length it.dirty)) e.slots e.servable;
          mounted = e.mounted.0;
          session = λ began at. e.mounted.1 _ began at;
        });
        ends = c.tell_state-status.ensures.tells;
      });
  slots = ap g.R.Rack.slot_count c.close.ensures ∙ c.in-Ok.ensures.slots;
  status = elim c.tell_state-status.ensures.tells.whole [ inl failed ↦ inr (inl failed) | inr told ↦ inl told.1 ];
  sink = c.tell_state-status.ensures.sink;
  still = c.tell_state-status.ensures.still;
}

pub returns : goal.returns
returns g c = record {
  shows = record {
    code = mount_fault_status c.in-Err.field-0.fault;
    lines = mount_fault_line c.in-Err.field-0.fault;
    outcome = refused c.in-Err.field-0.fault c.in-Err.ensures.cause (λ began at. c.in-Err.ensures.refused began at);
    ends = c.tell_refusal.ensures.tells;
  };
  slots = c.in-Err.ensures.refused_slots;
  status = elim c.tell_refusal.ensures.tells.whole [ inl failed ↦ inr (inl failed) | inr told ↦ refused_status c.in-Err.field-0.fault _ told.1 ];
  sink = c.tell_refusal.ensures.sink;
  still = c.tell_refusal.ensures.still;
}
