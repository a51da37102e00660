use Rattle.paraid_session.proofs.RunStartLemmas.{answered_stop, kept_stop, mount_stop, two_stop}
use Rattle.paraid_session.proofs.laws.a_stop_leaves_a_run_start.Goals as goal

pub returns : goal.returns
returns c = record {
  moment = λ slots h lo b w i kept serving looked. kept_stop slots h lo b w kept serving i looked;
  event = λ slots setup p q event answer done rest i is serving looked. answered_stop slots setup p event answer done rest q is serving i looked;
  two = λ slots setup p q event two done rest i is serving looked. two_stop slots setup p event two done rest q is serving i looked;
  mount = λ slots s i x said h lo down done rest m serving looked. mount_stop slots s x said h lo down done rest m serving i looked;
}
