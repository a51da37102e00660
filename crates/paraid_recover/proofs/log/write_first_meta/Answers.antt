use Rattle.std.proofs.Common.{false, ap, arith, refl, subst, ◌∙◌, ◌+◌, ◌*◌}
use Rattle.paraid_base.specs.Told.{HasRisen}
use Rattle.paraid_rack.specs.Slots.{Slot}
use Rattle.paraid_recover.proofs.LogLemmas.{logged, logging_sync, logging_then, logging_write}
use Rattle.paraid_recover.proofs.RaisedLemmas.{handed, none_done}
use Rattle.paraid_recover.proofs.log.write_first_meta.Goals as goal

pub returns-in_err-write : goal.returns-in_err-write
returns-in_err-write g c = record {
  slots = c.write.ensures.slots;
  here = none_done _ c.from_residual.result _ c.from_residual.ensures.1;
  others = c.write.ensures.slot.others;
  logged = none_done _ c.from_residual.result _ c.from_residual.ensures.1;
  calls = logging_write (2 * c.args.disk + 2) (omega arith) c.requires.log_disk c.in_err-write.ensures.told;
  risen = handed (λ e. HasRisen (g.R.Rack.slot c.args.rack.now c.args.disk).faults (g.R.Rack.slot c.write.new.self c.args.disk).faults) c.from_residual.result _ c.from_residual.ensures.1 (c.in_err-write.ensures.slot.risen refl);
}

pub returns-in_err-sync : goal.returns-in_err-sync
returns-in_err-sync g c = record {
  slots = c.sync.ensures.slots ∙ c.write.ensures.slots;
  here = none_done _ c.from_residual-in_err-sync.result _ c.from_residual-in_err-sync.ensures.1;
  others = λ d not. c.sync.ensures.slot.others d not ∙ c.write.ensures.slot.others d not;
  logged = none_done _ c.from_residual-in_err-sync.result _ c.from_residual-in_err-sync.ensures.1;
  calls = logging_then (2 * c.args.disk) (2 * c.args.disk + 1) (2 * c.args.disk + 2) (logging_write (2 * c.args.disk + 1) (omega arith) c.requires.log_disk c.in_ok-write.ensures.told) (logging_sync c.requires.log_disk c.in_err-sync.ensures.told);
  risen = handed (λ e. HasRisen (g.R.Rack.slot c.args.rack.now c.args.disk).faults (g.R.Rack.slot c.sync.new.self c.args.disk).faults) c.from_residual-in_err-sync.result _ c.from_residual-in_err-sync.ensures.1
      (subst (λ (s : Slot). HasRisen s.faults (g.R.Rack.slot c.sync.new.self c.args.disk).faults) (c.in_ok-write.ensures.slot.done refl) (c.in_err-sync.ensures.slot.risen refl));
}

pub returns : goal.returns
returns g c = record {
  slots = c.sync.ensures.slots ∙ c.write.ensures.slots;
  here = c.in_ok-sync.ensures.slot.done refl ∙ ap (λ (s : Slot). record s { unsynced = false }) (c.in_ok-write.ensures.slot.done refl);
  others = λ d not. c.sync.ensures.slot.others d not ∙ c.write.ensures.slot.others d not;
  logged = logged c.args.disk c.args.meta.now _ _ _ c.in_ok-write.ensures.told c.in_ok-sync.ensures.told;
  calls = logging_then (2 * c.args.disk) (2 * c.args.disk + 1) (2 * c.args.disk + 2) (logging_write (2 * c.args.disk + 1) (omega arith) c.requires.log_disk c.in_ok-write.ensures.told) (logging_sync c.requires.log_disk c.in_ok-sync.ensures.told);
  risen = tt;
}
