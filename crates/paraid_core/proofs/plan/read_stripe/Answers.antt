use Rattle.std.proofs.Common.{◌∙◌, ◌≤◌, sym, ap, inl, arith, ◌≡◌, ◌≢◌, Some, subst}
use Rattle.std.proofs.lemmas.Bool.{false≢true}
use Rattle.paraid_base.specs.Regions.{disk_size}
use Rattle.paraid_plan.proofs.StoredLemmas.{stripe_gone, stripe_there}
use Rattle.paraid_txn.specs.Stores.{store_rack}
use Rattle.paraid_view.specs.Reads.{seen_by, CanRead}
use Rattle.paraid_view.proofs.ReadLemmas.{off_same}
use Rattle.paraid_view.proofs.ValueLemmas.{ok_map}
use Rattle.std.proofs.lemmas.Result.{IfErr-weaker}
use Rattle.paraid_core.proofs.ReadyLemmas.{some_is}
use Rattle.paraid_core.proofs.plan.read_stripe.Goals as goal

pub read_laid-requires : goal.read_laid-requires
read_laid-requires g c = record {
  exists = let enough = c.requires.ready.enough in let high = c.args.meta.now.setup.geometry.gears_high c.args.meta.now.gear c.requires.in_range.gear in let low = c.requires.disk in omega (arith, enough, high, low);
  below = let array = c.requires.array in let high = c.args.meta.now.setup.geometry.gears_high c.args.meta.now.gear c.requires.in_range.gear in let low = c.requires.disk in omega (arith, array, high, low);
  spinning = c.requires.ready.spins c.args.e (inl c.requires.disk) (λ e. false≢true (sym c.if-is_at.false ∙ c.is_at.ensures.1 e));
  within =
      let large : disk_size c.args.meta.now.setup.geometry ≤ (g.R.Rack.slot (store_rack c.args.store.now) c.args.e).size =
      c.requires.ready.large c.args.e (inl c.requires.disk) (λ e. false≢true (sym c.if-is_at.false ∙ c.is_at.ensures.1 e)) in
      let k = c.soft_place-place.ensures.in_size in omega arith;
  past_log = let after = c.soft_place-place.ensures.after_hard in omega (arith, after);
}

pub returns-then-is_at : goal.returns-then-is_at
returns-then-is_at g c = record {
  read = c.read_rest.ensures.read;
  below = c.read_rest.ensures.below;
  failed = IfErr-weaker c.read_rest.result (λ d. d ≢ c.args.e) (λ d. c.args.out ≢ Some d) (λ d not is. not (some_is d c.args.e (sym is ∙ c.is_at.ensures.0 c.if-is_at.true))) c.read_rest.ensures.failed;
  off = off_same c.args.out _ _ _ (c.is_at.ensures.0 c.if-is_at.true) c.read_rest.ensures.off;
  value =
      ok_map c.read_rest.result (λ value. λ f table shows some.
      value f shows some ∙ sym (stripe_gone (seen_by c.args.meta.now table c.args.out f) c.args.s c.args.e (c.is_at.ensures.0 c.if-is_at.true))) c.read_rest.ensures.value;
}

pub returns : goal.returns
returns g c = record {
  read = c.read_laid.ensures.read;
  below = c.read_laid.ensures.below;
  failed = IfErr-weaker c.read_laid.result (λ d. d ≡ c.args.e) (λ d. c.args.out ≢ Some d) (λ d is at. false≢true (sym c.if-is_at.false ∙ c.is_at.ensures.1 (at ∙ ap Some is))) c.read_laid.ensures.failed;
  off = c.read_laid.ensures.off c.args.out (λ e. false≢true (sym c.if-is_at.false ∙ c.is_at.ensures.1 e));
  value =
      ok_map c.read_laid.result (λ value. λ f table shows some.
      value f shows some ∙ ap (f c.args.e) c.soft_place-place.ensures.value
      ∙ sym (stripe_there (seen_by c.args.meta.now table c.args.out f) c.args.s c.args.e (λ e. false≢true (sym c.if-is_at.false ∙ c.is_at.ensures.1 e)))) c.read_laid.ensures.value;
}

pub read_rest-requires-clause-in_range : goal.read_rest-requires-clause-in_range
read_rest-requires-clause-in_range g c = c.requires.in_range

pub read_rest-requires-clause-stripe : goal.read_rest-requires-clause-stripe
read_rest-requires-clause-stripe g c = c.requires.stripe

pub read_rest-requires-clause-array : goal.read_rest-requires-clause-array
read_rest-requires-clause-array g c = c.requires.array

pub read_rest-requires-clause-ready : goal.read_rest-requires-clause-ready
read_rest-requires-clause-ready g c = subst (CanRead (g.R.Rack.slot_count (store_rack c.args.store.now)) (g.R.Rack.slot (store_rack c.args.store.now)) c.args.meta.now) (c.is_at.ensures.0 c.if-is_at.true) c.requires.ready
