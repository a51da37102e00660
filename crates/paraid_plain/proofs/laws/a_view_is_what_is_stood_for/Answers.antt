use Rattle.std.proofs.Common.{sym}
use Rattle.paraid_plain.proofs.SoundLemmas.{view_of-said}
use Rattle.paraid_plain.proofs.laws.a_view_is_what_is_stood_for.Goals as goal

pub returns : goal.returns
returns c = λ image s. sym (view_of-said image s)
