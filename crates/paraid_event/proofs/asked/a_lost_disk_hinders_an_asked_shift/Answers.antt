use Rattle.paraid_event.proofs.AskedStepLemmas.{down_hindered, up_hindered}
use Rattle.paraid_event.proofs.asked.a_lost_disk_hinders_an_asked_shift.Goals as goal

pub returns : goal.returns
returns c = record {
  up = λ told told_then k k2 setup p to most e at fit steady no_out some synced goes_to named same_energy few steps.
      up_hindered told k setup p at fit steady no_out to some e k2 synced goes_to named same_energy most few told_then steps;
  down = λ told told_then k k2 setup p to most e at fit steady no_out some unworn synced goes_to named same_energy few steps.
      down_hindered told k setup p at fit steady no_out to some unworn e k2 synced goes_to named same_energy most few told_then steps;
}
