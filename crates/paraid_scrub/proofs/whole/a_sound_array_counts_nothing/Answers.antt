use Rattle.paraid_scrub.proofs.SoundLemmas.{sound_zero}
use Rattle.paraid_scrub.proofs.whole.a_sound_array_counts_nothing.Goals as goal

pub returns : goal.returns
returns c slots power size m f h k content there seen report counts = sound_zero slots power size m f content.kept there seen report counts
