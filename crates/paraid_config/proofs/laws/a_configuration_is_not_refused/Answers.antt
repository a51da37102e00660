use Rattle.paraid_config.proofs.SayLemmas.{not_refused}
use Rattle.paraid_config.proofs.laws.a_configuration_is_not_refused.Goals as goal

pub returns : goal.returns
returns c text setup fault says other refusal = not_refused text setup says fault other refusal
