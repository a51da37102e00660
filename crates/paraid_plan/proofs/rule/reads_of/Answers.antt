use Rattle.std.proofs.Common.{◌∙◌, sym}
use Rattle.paraid_plan.specs.Desk.{sees}
use Rattle.paraid_plan.proofs.KeptLemmas.{soft_parked}
use Rattle.paraid_plan.proofs.rule.reads_of.Goals as goal

pub soft_of-s-requires : goal.soft_of-s-requires
soft_of-s-requires g c = record {
  gear = c.requires.in_range.gear;
  parked = soft_parked (sees c.args.m.now (g.P.WritePlan.desk c.args.plan.now)) c.args.r c.args.d (sym c.is_hard.ensures ∙ c.if-is_hard.false);
  disk_in = c.requires.disk;
  row_in = c.requires.row;
}
