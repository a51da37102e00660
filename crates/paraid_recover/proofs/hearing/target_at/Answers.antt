use Rattle.std.proofs.Common.{sym}
use Rattle.std.proofs.lemmas.List.{get_or-take}
use Rattle.paraid_record.specs.Targets.{no_target}
use Rattle.paraid_recover.proofs.hearing.target_at.Goals as goal

pub returns-clause-value : goal.returns-clause-value
returns-clause-value c = sym (get_or-take c.args.places.now.count c.args.places.now.list c.args.at no_target c.requires.low)
