use Rattle.std.proofs.lemmas.Result.{on_ok_weaker}
use Rattle.std.proofs.Common.{◌∙◌, rules}
use Rattle.paraid_base.specs.Pairs.{pairs_of}
use Rattle.paraid_plan.specs.Desk.{sees}
use Rattle.paraid_image.specs.Value.{value}
use Rattle.paraid_plan.proofs.AloneLemmas.{alone_made, alone_old}
use Rattle.paraid_plan.proofs.PartLemmas.{parity_made}
use Rattle.paraid_plan.proofs.read.read_row.Goals as goal

pub needs_new-needed-requires : goal.needs_new-needed-requires
needs_new-needed-requires g c = record {
  serves = c.requires.serves;
  in_range = c.requires.in_range;
  row = c.requires.row;
  disk = c.requires.parity_disk;
}

pub is_made_anew-anew-requires : goal.is_made_anew-anew-requires
is_made_anew-anew-requires g c = record {
  serves = c.requires.serves;
  in_range = c.requires.in_range;
  row = c.requires.row;
}

pub read_cells-requires : goal.read_cells-requires
read_cells-requires g c = record {
  serves = c.requires.serves;
  in_range = c.requires.in_range;
  row = c.requires.row;
  parity_disk = c.requires.parity_disk;
  empty = c.requires.empty;
  parity = c.requires.parity;
  given = c.requires.given;
  kept = c.requires.kept;
}

pub returns-in-Some : goal.returns-in-Some
returns-in-Some g c =
    let m = c.args.m.now in
    let ws = pairs_of c.args.pairs.now in
    let row = value (sees m (g.P.WritePlan.desk c.args.plan.now)) c.args.r in
    let one = c.in-Some.one in
    let is = c.in-Some.ensures.alone in
    record {
      old = on_ok_weaker c.read_alone.result (λ f tells.
          alone_old m (g.P.WritePlan.desk c.args.plan.now) ws c.args.r c.args.p one.disk one.at c.args.pairs.now.bytes c.args.given.now c.args.old.now row c.requires.parity c.requires.given is) c.read_alone.ensures.sum;
      fixed = on_ok_weaker c.read_alone.result (λ f tells needed sums.
          alone_made m.setup.geometry.disks ws c.args.r c.args.p one.disk one.at c.args.pairs.now.bytes c.args.given.now c.requires.parity c.requires.given is.disk is.pair is.others row c.read_alone.new.sum c.requires.parity_disk
          (f tells) sums) c.read_alone.ensures.sum;
      kept = search rules;
      reads = c.read_alone.ensures.reads;
    }

pub returns : goal.returns
returns g c = record {
  old = c.read_cells.ensures.old;
  fixed =
      on_ok_weaker c.read_cells.result (λ f tells needed sums.
      f tells (c.needs_new-needed.ensures ∙ needed)
      ∙ parity_made c.args.m.now.setup.geometry.disks (pairs_of c.args.pairs.now) c.args.r (value (sees c.args.m.now (g.P.WritePlan.desk c.args.plan.now)) c.args.r) c.is_made_anew-anew.result sums) c.read_cells.ensures.sum;
  kept = search rules;
  reads = c.read_cells.ensures.reads;
}
