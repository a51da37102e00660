use Rattle.std.proofs.Common.{subst, ℕ, rules}
use Rattle.paraid_rack.specs.Slots.{AreSlots}
use Rattle.paraid_commands.proofs.MadeLemmas.{becomes_empty, enough, synced}
use Rattle.paraid_serve.proofs.StatusLemmas.{ok_not_err}
use Rattle.paraid_commands.proofs.format_command.make_array.Goals as goal

pub returns-in-Ok-format : goal.returns-in-Ok-format
returns-in-Ok-format g c = record {
  slots = search rules;
  configured = search rules;
  made =
      let e = c.in-Ok-format.ensures in
      let slots = g.R.Rack.slot_count c.args.rack.now in
      let old = g.R.Rack.slot c.args.rack.now in
      let new = g.R.Rack.slot c.format.new.rack in
      record {
        enough = enough slots _ _ old new e.fresh (subst (λ (n : ℕ). AreSlots n new) e.slots (g.met.R.Rack.slots_hold c.format.new.rack));
        fresh = e.fresh;
        others = e.others;
        free = e.free;
        calls = e.calls;
        synced = λ t tells d p low. synced slots _ _ old new e.fresh _ (g.met.R.Rack.agrees c.format.new.rack t tells) d p low;
        empty = becomes_empty slots c.in-Ok.setup _ _ e.formatted;
      };
  refused = search rules;
  still = λ n. c.in-Ok.ensures.still (λ is. ok_not_err is);
}
