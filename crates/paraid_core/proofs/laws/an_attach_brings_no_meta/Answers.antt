use Rattle.paraid_core.proofs.AttachStoodLemmas.{attach_base, attach_stood}
use Rattle.paraid_core.proofs.laws.an_attach_brings_no_meta.Goals as goal

pub returns : goal.returns
returns c = record { stood = attach_stood; last = attach_base }
