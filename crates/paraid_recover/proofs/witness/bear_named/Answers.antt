use Rattle.std.specs.Prelude.{◌≡◌, ℕ, Option, Some, None, is_ok}
use Rattle.std.proofs.Common.{arith, refl, subst, sym, ◌∙◌}
use Rattle.paraid_image.specs.Out.{named_out}
use Rattle.paraid_recover.specs.Bearing.{HasBorne}
use Rattle.paraid_recover.proofs.BearerLemmas.{borne_none, named_two}
use Rattle.paraid_recover.proofs.witness.bear_named.Goals as goal

pub returns-in_default : goal.returns-in_default
returns-in_default g c = record {
  borne = borne_none g.R.Rack (named_out c.args.meta.now.out) c.args.store.now (λ x named. let z : None ≡ Some x = sym c.in_default.is ∙ c.named.ensures ∙ named.0 in cc);
  two = tt;
  known = λ x named borne. refl;
}

pub returns-then-disk-ge2 : goal.returns-then-disk-ge2
returns-then-disk-ge2 g c = record {
  borne = borne_none g.R.Rack (named_out c.args.meta.now.out) c.args.store.now (λ x named.
      let z : Some c.in-Some.disk ≡ Some x = sym c.in-Some.is ∙ c.named.ensures ∙ named.0 in
      let same : c.in-Some.disk ≡ x = cc in
      let low = named.1 in
      let high = c.if-disk-ge2.true in
      omega arith);
  two = tt;
  known = λ x named borne. refl;
}

pub bear_once-requires : goal.bear_once-requires
bear_once-requires g c =
    let low = c.if-disk-ge2.false in record {
      log_disk = omega arith;
      exists = c.requires.exists;
      ready = c.requires.ready c.in-Some.disk (sym c.named.ensures ∙ c.in-Some.is, omega arith);
    }

pub returns : goal.returns
returns g c =
    let is : Some c.in-Some.disk ≡ named_out c.args.meta.now.out = sym c.in-Some.is ∙ c.named.ensures in
    let low = c.if-disk-ge2.false in
    record {
      borne = subst (λ (o : Option ℕ). HasBorne g.R.Rack o c.args.store.now c.bear_once.new.store (is_ok c.bear_once.result)) is c.bear_once.ensures.borne;
      two = named_two (named_out c.args.meta.now.out) c.in-Some.disk c.bear_once.result (sym is, omega arith) c.bear_once.ensures.two;
      known = λ x named borne. c.bear_once.ensures.known (borne ∙ sym named.0 ∙ sym is);
    }
