use Rattle.std.proofs.Common.{arith, subst}
use Rattle.paraid_base.specs.Pairs.{pairs_of}
use Rattle.paraid_image.specs.Value.{value}
use Rattle.paraid_plan.specs.Desk.{sees}
use Rattle.paraid_plan.specs.RowWrites.{IsOldOf}
use Rattle.paraid_plan.proofs.LeavesLemmas.{failed, not_ok}
use Rattle.paraid_plan.proofs.PairLemmas.{gives_few}
use Rattle.paraid_plan.proofs.read.read_wanted.Goals as goal

pub returns : goal.returns
returns g c =
    record {
      here = λ tells keeps. subst (IsOldOf c.keep_if.new.kept c.args.d) (c.in_ok-value.ensures.ok tells) (c.keep_if.ensures.here keeps);
      others = c.keep_if.ensures.others;
      sum = λ tells. c.add_part.ensures c.args.m.now.setup.geometry.disks c.args.r (value (sees c.args.m.now (g.P.WritePlan.desk c.args.plan.now)) c.args.r) c.requires.disk c.requires.given
          c.requires.changed (λ is. c.in_ok-value.ensures.ok tells);
      kept = c.keep_if.ensures.length;
      reads = record {
        ok = record { same = c.in_ok-value.ensures.same; bits = c.in_ok-value.ensures.bits; staged = c.in_ok-value.ensures.staged; changes = c.in_ok-value.ensures.changes; goes_on = c.in_ok-value.ensures.goes_on };
        fails = tt;
        leads = c.in_ok-value.ensures.leads;
      };
    }

pub keep_if-requires : goal.keep_if-requires
keep_if-requires g c h = c.requires.kept h

pub add_part-requires : goal.add_part-requires
add_part-requires g c = record {
  disk = let high = c.args.m.now.setup.geometry.disks_high in let low = c.requires.disk in omega (arith, high, low);
  few = λ at is.
      gives_few c.args.pairs.now.bytes c.args.m.now.setup.geometry.disks (pairs_of c.args.pairs.now) c.args.r c.args.d at c.args.given.now c.requires.disk c.requires.given is;
}

pub returns-in_err-value : goal.returns-in_err-value
returns-in_err-value g c =
    record {
      here = not_ok _ _ c.from_residual.result c.from_residual.ensures.1;
      others = λ x b off kept. kept;
      sum = not_ok _ _ c.from_residual.result c.from_residual.ensures.1;
      kept = not_ok _ _ c.from_residual.result c.from_residual.ensures.1;
      reads = failed g.P.WritePlan _ _ _ _ c.from_residual.ensures.1 c.in_err-value.ensures.fails c.value.ensures.leads;
    }

pub value-requires : goal.value-requires
value-requires g c =
    record {
      serves = c.requires.serves;
      in_range = c.requires.in_range;
      row = c.requires.row;
      disk = c.requires.disk;
    }
