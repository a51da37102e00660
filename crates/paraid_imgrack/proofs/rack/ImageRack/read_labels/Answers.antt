use Rattle.std.proofs.Common.{◌∙◌}
use Rattle.paraid_imgrack.proofs.CallsLemmas.{KeepsCauses-then, looked_next}
use Rattle.paraid_imgrack.proofs.LooksLemmas.{IsLook-then, labels_next, unread_next}
use Rattle.paraid_imgrack.proofs.rack.ImageRack.read_labels.Goals as goal

pub loop-disk-preserved : goal.loop-disk-preserved
loop-disk-preserved g c = (
  IsLook-then c.args.self.now.images.items c.loop-disk.self.images.items c.read_label.new.self.images.items c.loop-disk.invariant.0 c.read_label.ensures.look,
  (
    c.read_label.ensures.misfits ∙ c.loop-disk.invariant.1.0,
    (
      labels_next c.loop-disk.self.images.items c.read_label.new.self.images.items c.loop-disk.labels c.read_label.new.labels c.loop-disk.disk
          c.read_label.ensures.here c.read_label.ensures.others c.read_label.ensures.kept c.loop-disk.invariant.1.1.0,
      (
        unread_next c.loop-disk.labels c.read_label.new.labels c.loop-disk.disk c.read_label.ensures.others c.loop-disk.invariant.1.1.1.0,
        (
          looked_next c.loop-disk.self.images.items c.read_label.new.self.images.items c.loop-disk.disk c.read_label.ensures.read c.read_label.ensures.left c.loop-disk.invariant.1.1.1.1.0,
          (
            KeepsCauses-then c.args.self.now.images.items c.loop-disk.self.images.items c.read_label.new.self.images.items c.loop-disk.invariant.1.1.1.1.1.0 c.read_label.ensures.causes,
            c.read_label.ensures.known ∙ c.loop-disk.invariant.1.1.1.1.1.1,
          ),
        ),
      ),
    ),
  ),
)
