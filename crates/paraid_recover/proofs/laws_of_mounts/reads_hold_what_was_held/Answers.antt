use Rattle.paraid_recover.proofs.StartReadsLemmas.{holds_after}
use Rattle.paraid_recover.proofs.laws_of_mounts.reads_hold_what_was_held.Goals as goal

pub returns : goal.returns
returns c slots n side said from read t rs ls read_is t_is each stands recovers h lo down start k two le same =
    holds_after slots n side said from read t rs ls read_is t_is each stands recovers h lo down start k two le same
