use Rattle.paraid_plan.proofs.LeavesLemmas.{stays_none}
use Rattle.std.proofs.lemmas.Result.{on_ok_weaker}
use Rattle.std.proofs.Common.{◌∙◌, sym}
use Rattle.std.proofs.lemmas.Bool.{false≢true}
use Rattle.paraid_plan.proofs.cell.read_place.Goals as goal

pub read_parity-requires : goal.read_parity-requires
read_parity-requires g c = record {
  serves = c.requires.serves;
  in_range = c.requires.in_range;
  row = c.requires.row;
  disk = c.requires.disk;
  parked = c.requires.parked c.if-hard.false;
}

pub returns-then-hard : goal.returns-then-hard
returns-then-hard g c = record {
  ok = λ tells soft. absurd (false≢true (sym soft ∙ c.if-hard.true));
  reads = record { ok = stays_none g.P.WritePlan c.args.m.now c.args.plan.now c.requires.serves; fails = tt; leads = g.met.P.WritePlan.stays c.args.plan.now };
}

pub returns : goal.returns
returns g c = record {
  ok = on_ok_weaker c.read_parity.result (λ f tells soft. f tells) c.read_parity.ensures.ok;
  reads = c.read_parity.ensures.reads;
}
