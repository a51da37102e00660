use Rattle.paraid_event.proofs.SteppedLemmas.{event_underway}
use Rattle.paraid_event.proofs.TickStepLemmas.{tick_state, tick_underway}
use Rattle.paraid_event.proofs.underway.an_event_is_underway.Goals as goal

pub returns : goal.returns
returns c = record {
  event = λ told k setup p at. event_underway told k setup p at;
  tick = λ told k counted setup p at fit counts. tick_underway told k counted setup p at counts fit;
  state = λ told k counted setup p at fit counts. tick_state told k counted setup p at counts fit;
}
