use Rattle.paraid_event.proofs.AskedStepLemmas.{down_asked, down_asked_lost, up_asked, up_asked_lost}
use Rattle.paraid_event.proofs.asked.an_asked_shift_begins_in_steps.Goals as goal

pub returns : goal.returns
returns c = record {
  up = λ told told_then k k2 setup p to most at fit steady no_out some synced goes_to energy few steps.
      up_asked told k setup p at fit steady no_out to some k2 synced goes_to energy most few told_then steps;
  down = λ told told_then k k2 setup p to most at fit steady no_out some lower unworn synced goes_to energy few steps.
      down_asked told k setup p at fit steady no_out to some lower unworn k2 synced goes_to energy most few told_then steps;
  up_loses = λ told told_then k setup p to most energy two at fit steady no_out some which few loses.
      up_asked_lost told k setup p at fit steady no_out to some two energy which most few told_then loses;
  down_loses = λ told told_then k setup p to most two at fit steady no_out some unworn few loses.
      down_asked_lost told k setup p at fit steady no_out to some unworn two most few told_then loses;
}
