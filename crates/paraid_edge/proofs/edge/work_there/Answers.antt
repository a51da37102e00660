use Rattle.paraid_edge.proofs.EdgeEndLemmas.{handed}
use Rattle.paraid_edge.proofs.edge.work_there.Goals as goal

pub returns : goal.returns
returns g c command asked =
    handed _ _ (g.P.Program.free c.args.program) (g.P.Program.ended c.args.program) c.refused.new.rack (g.P.Program.inside c.seal.result) _ _ _ c.seal.ensures (c.requires command asked) c.in_default-refused.ensures (c.hand_over.ensures command asked)
