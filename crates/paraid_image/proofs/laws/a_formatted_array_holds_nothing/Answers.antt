use Rattle.paraid_image.proofs.FormattedLemmas.{IsHeld-formatted}
use Rattle.paraid_image.proofs.laws.a_formatted_array_holds_nothing.Goals as goal

pub returns : goal.returns
returns c = IsHeld-formatted
