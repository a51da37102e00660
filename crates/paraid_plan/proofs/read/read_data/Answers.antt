use Rattle.paraid_plan.proofs.LeavesLemmas.{stays_none}
use Rattle.std.proofs.lemmas.Result.{on_ok_weaker}
use Rattle.std.proofs.Common.{◌∙◌, refl, sym, rules}
use Rattle.paraid_base.specs.Cells.{parity_disk}
use Rattle.paraid_base.specs.Pairs.{pairs_of}
use Rattle.paraid_base.proofs.SumsLemmas.{others_read, others_skip}
use Rattle.paraid_plan.specs.Desk.{sees}
use Rattle.paraid_plan.specs.RowWrites.{parity_part}
use Rattle.paraid_image.specs.Value.{value}
use Rattle.paraid_plan.proofs.read.read_data.Goals as goal

pub read_cell-requires : goal.read_cell-requires
read_cell-requires g c = record {
  serves = c.requires.serves;
  in_range = c.requires.in_range;
  row = c.requires.row;
  disk = c.requires.disk;
  parity = c.requires.parity;
  given = c.requires.given;
  kept = c.requires.kept;
}

pub returns-then-d-p : goal.returns-then-d-p
returns-then-d-p g c = record {
  here = λ tells apart changed old. absurd (apart (c.if-d-p.true ∙ c.requires.parity));
  others = λ x b off kept. kept;
  sum = λ tells needed sum.
      let n = c.args.m.now.setup.geometry.disks in
      sum ∙ others_skip (parity_part n (pairs_of c.args.pairs.now) c.args.r (value (sees c.args.m.now (g.P.WritePlan.desk c.args.plan.now)) c.args.r) c.args.anew) (parity_disk n c.args.r) c.args.d
      (c.if-d-p.true ∙ c.requires.parity);
  kept = search rules;
  reads = record { ok = stays_none g.P.WritePlan c.args.m.now c.args.plan.now c.requires.serves; fails = tt; leads = g.met.P.WritePlan.stays c.args.plan.now };
}

pub returns : goal.returns
returns g c = record {
  here = on_ok_weaker c.read_cell.result (λ f tells apart. f tells) c.read_cell.ensures.here;
  others = c.read_cell.ensures.others;
  sum =
      let n = c.args.m.now.setup.geometry.disks in
      on_ok_weaker c.read_cell.result (λ f tells needed sum.
      others_read (parity_part n (pairs_of c.args.pairs.now) c.args.r (value (sees c.args.m.now (g.P.WritePlan.desk c.args.plan.now)) c.args.r) c.args.anew) (parity_disk n c.args.r) c.args.d _ _ _
      (λ is. c.if-d-p.false (is ∙ sym c.requires.parity)) sum refl (f tells needed)) c.read_cell.ensures.sum;
  kept = search rules;
  reads = c.read_cell.ensures.reads;
}
