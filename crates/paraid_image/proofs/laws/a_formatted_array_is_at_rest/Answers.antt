use Rattle.paraid_image.proofs.FormattedLemmas.{IsAtRest-formatted}
use Rattle.paraid_image.proofs.laws.a_formatted_array_is_at_rest.Goals as goal

pub returns : goal.returns
returns c = IsAtRest-formatted
