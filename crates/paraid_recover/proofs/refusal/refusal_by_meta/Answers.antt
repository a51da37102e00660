use Rattle.std.proofs.Common.{rules, refl}
use Rattle.paraid_recover.proofs.refusal.refusal_by_meta.Goals as goal

pub returns-in-Some-two_missing : goal.returns-in-Some-two_missing
returns-in-Some-two_missing g c =
    ((search rules, search rules), c.in-Some-two_missing.ensures.some _ refl)
