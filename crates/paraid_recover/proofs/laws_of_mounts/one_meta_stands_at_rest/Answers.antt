use Rattle.paraid_recover.proofs.RestLemmas.{each_resting, rest_only}
use Rattle.paraid_recover.proofs.laws_of_mounts.one_meta_stands_at_rest.Goals as goal

pub returns : goal.returns
returns c = record {
  rest = λ t m z i o rest looked stands. rest_only t m rest z i o looked stands;
  powers = λ slots m h lo w cs named absent through each. each_resting slots m h lo w cs (named, absent) through each;
}
