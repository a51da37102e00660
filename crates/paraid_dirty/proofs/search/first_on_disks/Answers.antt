use Rattle.paraid_dirty.proofs.SearchLemmas.{part_passed, part_unmarked}
use Rattle.paraid_dirty.proofs.search.first_on_disks.Goals as goal
use Rattle.paraid_dirty.proofs.search.first_on_disks.Goals.{then-marks-part-ne0+in_default, else-marks-part-ne0}

pub loop-part-preserved : goal.loop-part-preserved
loop-part-preserved c = elim c.if-marks-part-ne0.branch [
  | then-marks-part-ne0+in_default w ↦
      part_passed c.args.words.now c.loop-part.part c.args.from w.max-start.result w.min-until.result c.args.lo c.args.hi
      w.max-start.ensures w.min-until.ensures w.in_default.ensures.none c.loop-part.invariant
  | else-marks-part-ne0 w ↦
      part_unmarked c.args.words.now c.args.marks.now c.loop-part.part c.args.from c.args.lo c.args.hi w.if-marks-part-ne0.false c.requires.marked c.loop-part.invariant
]
