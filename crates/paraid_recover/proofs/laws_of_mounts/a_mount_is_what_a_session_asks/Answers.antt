use Rattle.std.proofs.Common.{refl}
use Rattle.paraid_recover.proofs.PartsLemmas.{mounted, refused}
use Rattle.paraid_recover.proofs.laws_of_mounts.a_mount_is_what_a_session_asks.Goals as goal

pub returns : goal.returns
returns c = record {
  mounted = λ slots s x said h lo down calls standing start stands parts ends. mounted slots s x said h lo down calls start stands parts _ standing ends (λ serving. refl);
  refused = λ slots s x said h lo down calls why start stands parts ends. refused slots s x said h lo down calls start stands parts why ends;
}
