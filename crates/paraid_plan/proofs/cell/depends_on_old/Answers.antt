use Rattle.std.proofs.Common.{◌∙◌, sym}
use Rattle.paraid_plan.proofs.cell.depends_on_old.Goals as goal
use Rattle.paraid_plan.proofs.DeskLemmas.{parked_of}
use Rattle.paraid_plan.specs.Desk.{sees}

pub has_parity-requires : goal.has_parity-requires
has_parity-requires g c = record {
  in_range = c.requires.in_range;
  row = c.requires.row;
  disk = c.requires.disk;
  parked = parked_of (sees c.args.m.now (g.P.WritePlan.desk c.args.plan.now)) c.args.r c.args.d (sym c.goes_hard.ensures ∙ c.if-goes_hard.false);
}

pub goes_hard-requires : goal.goes_hard-requires
goes_hard-requires g c = record {
  serves = c.requires.serves;
  row = c.requires.row;
  disk = c.requires.disk;
}

pub is_filled-requires : goal.is_filled-requires
is_filled-requires g c = record {
  in_range = c.requires.in_range;
  row = c.requires.row;
  disk = c.requires.disk;
}
