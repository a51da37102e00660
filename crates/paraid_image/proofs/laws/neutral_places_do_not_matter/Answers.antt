use Rattle.paraid_image.proofs.NeutralLemmas.{keeps_neutral, sound_forth, stands_back, stands_forth, weak_back, weak_forth, written}
use Rattle.paraid_image.proofs.laws.neutral_places_do_not_matter.Goals as goal

pub returns : goal.returns
returns c = record {
  stands = λ i d p b x said neutral s. stands_forth i (written i d p b) ((keeps_neutral i d p b neutral).log) x said s;
  stood = λ i d p b x said neutral s. stands_back i (written i d p b) ((keeps_neutral i d p b neutral).log) x said s;
  contents = λ i d p b x said neutral s. (keeps_neutral i d p b neutral).contents x said s;
  weak = λ i d p b w neutral is. weak_forth i (written i d p b) ((keeps_neutral i d p b neutral).log) w is;
  was_weak = λ i d p b w neutral is. weak_back i (written i d p b) ((keeps_neutral i d p b neutral).log) w is;
  sound = λ slots i d p b h k neutral s. sound_forth i (written i d p b) (keeps_neutral i d p b neutral) slots h k s;
}
