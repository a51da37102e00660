use Rattle.std.specs.Prelude.{Some, codes}
use Rattle.paraid_volume.specs.Values.{volume_table}
use Rattle.paraid_volume_lines.specs.Grammar.{bad}
use Rattle.paraid_service.specs.VolumeForms.IsReplyToLine.{no_task}
use Rattle.paraid_service.specs.VolumeLines.LineStep.{is_bad}
use Rattle.paraid_service.proofs.HeldLemmas.{serves_none}
use Rattle.paraid_service.proofs.held.serve_bad.Goals as goal

pub returns : goal.returns
returns g c = serves_none g.B.Blocks c.args.volumes.now bad (codes "bad") c.tell_word.new.into c.requires.going c.tell_word.ensures (λ no. cc) (no_task (Some (volume_table c.args.volumes.now))) (λ from start log lived. is_bad)
