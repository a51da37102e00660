use Rattle.paraid_event.proofs.QuietLemmas.{down_lowest, down_out, down_ration, down_shifting, up_out, up_shifting, up_top}
use Rattle.paraid_event.proofs.quiet.a_shift_is_refused.Goals as goal

pub returns : goal.returns
returns c = record {
  top = λ told k setup p at fit none. up_top told k setup p at fit none;
  lowest = λ told k setup p at fit none. down_lowest told k setup p at fit none;
  up_shifting = λ told k setup p to at fit some not. up_shifting told k setup p at fit to some not;
  down_shifting = λ told k setup p to at fit some not. down_shifting told k setup p at fit to some not;
  up_out = λ told k setup p to d at fit some steady out. up_out told k setup p at fit to d some steady out;
  down_out = λ told k setup p to d at fit some steady out. down_out told k setup p at fit to d some steady out;
  ration = λ told k setup p to d at fit some steady none used. down_ration told k setup p at fit to d some steady none used;
}
