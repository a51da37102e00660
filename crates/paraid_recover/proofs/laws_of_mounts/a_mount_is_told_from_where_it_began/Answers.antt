use Rattle.paraid_recover.proofs.BeganLemmas.{ran_began}
use Rattle.paraid_recover.proofs.PartsLemmas.{refused}
use Rattle.paraid_recover.proofs.laws_of_mounts.a_mount_is_told_from_where_it_began.Goals as goal

pub returns : goal.returns
returns c = record {
  calls = λ n began skip old new t at ran tells. ran_began _ began old new at ran t tells;
  refused = λ slots began old new why at ran t tells h lo down x said start stands.
      let it = ran_began _ began old new at ran t tells h lo down x said start stands in
      refused slots _ x said h lo down _ start stands it.0 why it.1;
}
