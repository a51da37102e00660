use Rattle.std.proofs.Common.{refl, ◌∙◌}
use Rattle.paraid_device.specs.Laws.{array_halt}
use Rattle.paraid_service.specs.Ends.Flushes.{halted, kept}
use Rattle.paraid_service.proofs.client.keep.Goals as goal

pub returns-in-Ok : goal.returns-in-Ok
returns-in-Ok g c = record { flushes = λ first events before. kept c.in-Ok.field-0 refl (array_halt c.flush.new.self ∙ c.in-Ok.ensures.halt) (c.in-Ok.ensures.events first events before) }

pub returns-in-Err : goal.returns-in-Err
returns-in-Err g c = record { flushes = λ first events before. halted c.in-Err.halt c.halt_status.ensures (array_halt c.flush.new.self ∙ c.in-Err.ensures.halt) (c.in-Err.ensures.events first events before) }
