use Rattle.paraid_core.proofs.AfterLemmas.{handed}
use Rattle.paraid_core.proofs.ErrLemmas.{none_done}
use Rattle.std.proofs.Common.{◌≡◌}
use Rattle.paraid_base.specs.Sums.{without}
use Rattle.paraid_base.specs.Xor.{xor}
use Rattle.paraid_image.specs.Out.{named_out}
use Rattle.paraid_image.specs.Value.{stored_value}
use Rattle.paraid_scrub.proofs.CellLemmas.{added_none, added_one, not_out}
use Rattle.paraid_scrub.proofs.LookedLemmas.{keeps_none, keeps_so}
use Rattle.paraid_scrub.proofs.value.add_near.Goals as goal

pub returns-then-disk-out : goal.returns-then-disk-out
returns-then-disk-out g c = record {
  shown =
      keeps_none c.args.core.now (g.met.C.Stored.stays c.args.core.now c.requires.usable) c.requires.usable
      (λ v s. added_none (stored_value v c.args.row) c.args.out c.args.disk c.args.sum.now c.if-disk-out.true);
  lost = tt;
}

pub read_near-requires : goal.read_near-requires
read_near-requires g c = record {
  usable = c.requires.usable;
  row = c.requires.row;
  disk = c.requires.disk;
  there = not_out (named_out (g.C.Stored.meta c.args.core.now).out) c.args.out c.args.disk c.requires.out c.if-disk-out.false;
}

pub returns : goal.returns
returns g c = record {
  shown =
      keeps_so (λ v. c.xor_into.new.to ≡ xor c.args.sum.now (without (stored_value v c.args.row) c.args.out c.args.disk)) c.in_ok-read_near.ensures.shown
      (λ v s is. added_one (stored_value v c.args.row) c.args.out c.args.disk c.args.sum.now _ _ c.if-disk-out.false is c.xor_into.ensures);
  lost = tt;
}

pub returns-in_err-read_near : goal.returns-in_err-read_near
returns-in_err-read_near g c = record {
  shown = none_done _ c.from_residual.result _ c.from_residual.ensures.1;
  lost = handed (g.C.Stored.loses c.args.core.now c.read_near.new.core) c.from_residual.result _ c.from_residual.ensures.1 c.in_err-read_near.ensures.lost;
}
