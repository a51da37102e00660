use Rattle.paraid_core.proofs.AfterLemmas.{handed}
use Rattle.paraid_core.proofs.ErrLemmas.{none_done_if}
use Rattle.std.proofs.Common.{◌≢◌, ◌∙◌, IsTrue, not}
use Rattle.std.specs.Prelude.{◌↔◌}
use Rattle.paraid_base.specs.Sums.{xor_upto}
use Rattle.paraid_base.specs.Xor.{zero_block}
use Rattle.paraid_image.specs.Value.{stripe}
use Rattle.paraid_scrub.proofs.CellLemmas.{all_added}
use Rattle.paraid_scrub.proofs.LookedLemmas.{is_not_zero, keeps_so}
use Rattle.paraid_scrub.proofs.member.is_stripe_off.Goals as goal

pub sum_stripe-requires : goal.sum_stripe-requires
sum_stripe-requires g c = record {
  usable = c.requires.usable;
  gear = c.requires.gear;
  region = c.requires.region;
  at = c.requires.at;
  readable = λ d l ne. c.requires.readable d l;
}

pub returns : goal.returns
returns g c = record {
  shown =
      let m = g.C.Stored.meta c.args.core.now in
      keeps_so (λ v. IsTrue (not c.is_zero.result) ↔ (xor_upto (stripe m.setup.geometry v.block c.args.gear c.args.at) c.args.gear ≢ zero_block)) c.in_ok-sum_stripe.ensures.shown
      (λ v s is. is_not_zero c.is_zero.result c.sum_stripe.new.into _ c.is_zero.ensures (is ∙ all_added (stripe m.setup.geometry v.block c.args.gear c.args.at) c.args.gear));
  lost = tt;
}

pub returns-in_err-sum_stripe : goal.returns-in_err-sum_stripe
returns-in_err-sum_stripe g c = record {
  shown = none_done_if _ c.from_residual.result _ c.from_residual.ensures.1;
  lost = handed (g.C.Stored.loses c.args.core.now c.sum_stripe.new.core) c.from_residual.result _ c.from_residual.ensures.1 c.in_err-sum_stripe.ensures.lost;
}
