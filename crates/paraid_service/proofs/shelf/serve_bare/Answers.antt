use Rattle.std.proofs.Common.{refl}
use Rattle.std.specs.Prelude.{None, codes}
use Rattle.paraid_volume.specs.declared.fault.VolFault.TheVariants.{NotVolumes}
use Rattle.paraid_volume_lines.specs.Asked.{line_with}
use Rattle.paraid_volume_lines.specs.Grammar.{bad}
use Rattle.paraid_volume_lines.specs.Texts.{fault_text}
use Rattle.paraid_service.specs.VolumeForms.IsReplyToLine.{no_table as reply_no_table, no_task}
use Rattle.paraid_service.specs.VolumeLines.LineStep.{is_bad, no_table}
use Rattle.paraid_service.proofs.ShelfLemmas.{on_bare, other_line}
use Rattle.paraid_service.proofs.shelf.serve_bare.Goals as goal

pub returns-in-Bad : goal.returns-in-Bad
returns-in-Bad g c = λ b. rw c.in-Bad.is (on_bare g.B.Blocks c.args.blocks bad (codes "bad") c.tell_word.new.into c.tell_word.ensures (no_task None) is_bad)

pub returns-in_default : goal.returns-in_default
returns-in_default g c = λ b.
    let other = other_line c.args.asked.now b c.in_default.not-Init c.in_default.not-Bad in
    on_bare g.B.Blocks c.args.blocks (line_with c.args.asked.now b) (fault_text NotVolumes) c.tell_fault.new.into c.tell_fault.ensures (reply_no_table _ other.0 other.1) (no_table _ other.0 other.1 refl)
