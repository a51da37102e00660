use Rattle.paraid_core.proofs.AfterLemmas.{handed}
use Rattle.paraid_core.proofs.ErrLemmas.{none_done_if}
use Rattle.std.proofs.Common.{◌≢◌, IsTrue, not}
use Rattle.std.specs.Prelude.{◌↔◌}
use Rattle.paraid_base.specs.Sums.{xor_upto}
use Rattle.paraid_base.specs.Xor.{zero_block}
use Rattle.paraid_image.specs.Value.{value}
use Rattle.paraid_scrub.proofs.LookedLemmas.{is_not_zero, keeps_so}
use Rattle.paraid_scrub.proofs.member.is_row_off.Goals as goal

pub returns : goal.returns
returns g c = record {
  shown =
      let m = g.C.Stored.meta c.args.core.now in
      keeps_so (λ v. IsTrue (not c.is_zero.result) ↔ (xor_upto (value v c.args.row) m.setup.geometry.disks ≢ zero_block)) c.in_ok-sum_row.ensures.shown
      (λ v s is. is_not_zero c.is_zero.result c.sum_row.new.into _ c.is_zero.ensures is);
  lost = tt;
}

pub returns-in_err-sum_row : goal.returns-in_err-sum_row
returns-in_err-sum_row g c = record {
  shown = none_done_if _ c.from_residual.result _ c.from_residual.ensures.1;
  lost = handed (g.C.Stored.loses c.args.core.now c.sum_row.new.core) c.from_residual.result _ c.from_residual.ensures.1 c.in_err-sum_row.ensures.lost;
}
