use Rattle.std.proofs.Common.{refl}
use Rattle.paraid_base.specs.declared.event.Event.TheVariants.{Flush}
use Rattle.paraid_base.specs.BlockAnswers.{answer_to_flush}
use Rattle.paraid_serve.proofs.GrowsLemmas.{told_then}
use Rattle.paraid_device.specs.Devices.{array_of}
use Rattle.paraid_device.proofs.KeptLemmas.{answered_more}
use Rattle.paraid_device.proofs.TurnLemmas.{flushed_history}
use Rattle.paraid_device.proofs.device.DeviceBlocks.flush.Goals as goal

pub returns-clause-told : goal.returns-clause-told
returns-clause-told g c = told_then _ _ c.ask_flush.ensures.asks.grows

pub returns-clause-history : goal.returns-clause-history
returns-clause-history g c = λ h stands is. flushed_history g.A.Serves (array_of c.args.self.now) c.ask_flush.new.array c.ask_flush.result h c.ask_flush.ensures.asks c.ask_flush.ensures.going stands is

pub returns-clause-events : goal.returns-clause-events
returns-clause-events g c = λ first events before. answered_more g.A.Serves (array_of first) (array_of c.args.self.now) c.ask_flush.new.array events Flush (answer_to_flush c.ask_flush.result) (answer_to_flush c.ask_flush.result) before c.ask_flush.ensures.asks refl tt
