use Rattle.paraid_image.proofs.LookedLemmas.{entry_of_looked, entry_of_start, entry_of_strong, entry_of_weak, looked_is_synced}
use Rattle.paraid_image.proofs.laws.an_image_looked_at_is_a_run_start.Goals as goal

pub returns : goal.returns
returns c = record {
  synced = looked_is_synced;
  entry = entry_of_looked;
  weak = entry_of_weak;
  strong = entry_of_strong;
  start = entry_of_start;
}
