use Rattle.std.proofs.Common.{refl}
use Rattle.paraid_volume_lines.specs.Grammar.{init}
use Rattle.paraid_volume_lines.specs.Texts.{fault_text}
use Rattle.paraid_volume.specs.declared.fault.VolFault.TheVariants.{Already}
use Rattle.paraid_volume.specs.Values.{volume_table}
use Rattle.paraid_service.specs.VolumeForms.IsReplyToLine.{is_already as reply_already}
use Rattle.paraid_service.specs.VolumeLines.LineStep.{is_already}
use Rattle.paraid_service.proofs.HeldLemmas.{serves_none}
use Rattle.paraid_service.proofs.held.serve_init.Goals as goal

pub returns : goal.returns
returns g c = serves_none g.B.Blocks c.args.volumes.now init (fault_text Already) c.tell_fault.new.into c.requires.going c.tell_fault.ensures (λ no. cc) (reply_already (volume_table c.args.volumes.now)) (λ from start log lived. is_already lived.state refl)
