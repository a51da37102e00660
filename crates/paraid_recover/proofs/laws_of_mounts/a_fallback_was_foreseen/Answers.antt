use Rattle.paraid_recover.proofs.MayLoseLemmas.{may_lose_start}
use Rattle.paraid_recover.proofs.laws_of_mounts.a_fallback_was_foreseen.Goals as goal

pub returns : goal.returns
returns c slots n skip h lo x z said o p w cs beside i stands weak each serving held stood looked off at says meta =
    may_lose_start slots n skip h lo x said w stands weak cs each serving beside held stood i z o p looked off at says meta
