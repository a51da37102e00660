use Rattle.paraid_edge.proofs.edge.work_nowhere.Goals as goal

pub returns-in_default : goal.returns-in_default
returns-in_default g c = c.end_without_memory.ensures c.args.command.now
