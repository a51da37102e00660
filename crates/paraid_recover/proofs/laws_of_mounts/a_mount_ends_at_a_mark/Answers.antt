use Rattle.paraid_recover.proofs.FirstLemmas.{mark_at_end}
use Rattle.paraid_recover.proofs.laws_of_mounts.a_mount_ends_at_a_mark.Goals as goal

pub returns : goal.returns
returns c slots s count last array rows slot named standing h spun agrees servable rest held borne =
    mark_at_end slots s count last array slot named standing rows agrees servable h spun rest held borne
