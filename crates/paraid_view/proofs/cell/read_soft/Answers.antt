use Rattle.std.proofs.Common.{◌≡◌, ◌≢◌, ℕ, ◌≤◌, ◌∙◌, Some, sym, ap, arith, inl, subst, Option}
use Rattle.std.proofs.lemmas.Bool.{false≢true}
use Rattle.paraid_base.specs.Regions.{disk_size, soft_place_of}
use Rattle.paraid_base.specs.Soft.{soft_disk, soft_stripe}
use Rattle.paraid_txn.specs.Stores.{store_rack}
use Rattle.paraid_image.specs.Value.{stripe_rest}
use Rattle.paraid_view.specs.Reads.{CanRead, seen_by}
use Rattle.paraid_view.proofs.ReadLemmas.{off_same}
use Rattle.paraid_view.proofs.ValueLemmas.{ok_map, soft_out, soft_there, err_map, same_disk}
use Rattle.paraid_view.proofs.cell.read_soft.Goals as goal

pub read_laid-requires-clause-spinning : goal.read_laid-requires-clause-spinning
read_laid-requires-clause-spinning g c =
    c.requires.ready.spins c.soft_of-stripe.result.1 (inl c.soft_of-stripe.ensures.below) (λ e. false≢true (sym c.if-is_at.false ∙ c.is_at.ensures.1 e))

pub read_laid-requires-clause-within : goal.read_laid-requires-clause-within
read_laid-requires-clause-within g c =
    let large : disk_size c.args.meta.now.setup.geometry ≤ (g.R.Rack.slot (store_rack c.args.store.now) c.soft_of-stripe.result.1).size =
    c.requires.ready.large c.soft_of-stripe.result.1 (inl c.soft_of-stripe.ensures.below) (λ e. false≢true (sym c.if-is_at.false ∙ c.is_at.ensures.1 e)) in
    let k = c.soft_place.ensures.in_size in omega arith

pub returns-then-is_at : goal.returns-then-is_at
returns-then-is_at g c = record {
  read = c.read_rest.ensures.read;
  below = c.read_rest.ensures.below;
  failed = err_map {Q = λ e. c.args.out ≢ Some e} c.read_rest.result (λ e not is. not (same_disk (sym is ∙ c.is_at.ensures.0 c.if-is_at.true))) c.read_rest.ensures.failed;
  off = off_same c.args.out _ _ _ (c.is_at.ensures.0 c.if-is_at.true) c.read_rest.ensures.off;
  value =
      ok_map c.read_rest.result (λ value. λ f table shows some.
      let m = c.args.meta.now in
      let cell = c.soft_of-stripe.ensures in
      let out : c.args.out ≡ Some (soft_disk m.setup.geometry.disks m.gear c.args.r c.args.d) = c.is_at.ensures.0 c.if-is_at.true ∙ ap Some cell.disk in
      value f shows some
      ∙ ap (λ (s : ℕ). stripe_rest m.setup.geometry f m.gear s c.soft_of-stripe.result.1) cell.stripe
      ∙ ap (λ (e : ℕ). stripe_rest m.setup.geometry f m.gear (soft_stripe m.setup.geometry.disks m.gear c.args.r c.args.d) e) cell.disk
      ∙ sym (soft_out (seen_by m table c.args.out f) c.args.r c.args.d out)) c.read_rest.ensures.value;
}

pub returns : goal.returns
returns g c = record {
  read = c.read_laid.ensures.read;
  below = c.read_laid.ensures.below;
  failed = err_map {Q = λ e. c.args.out ≢ Some e} c.read_laid.result (λ e is out. false≢true (sym c.if-is_at.false ∙ c.is_at.ensures.1 (out ∙ ap Some is))) c.read_laid.ensures.failed;
  off = c.read_laid.ensures.off c.args.out (λ e. false≢true (sym c.if-is_at.false ∙ c.is_at.ensures.1 e));
  value =
      ok_map c.read_laid.result (λ value. λ f table shows some.
      let m = c.args.meta.now in
      let cell = c.soft_of-stripe.ensures in
      let not : c.args.out ≢ Some (soft_disk m.setup.geometry.disks m.gear c.args.r c.args.d) = (λ e. false≢true (sym c.if-is_at.false ∙ c.is_at.ensures.1 (e ∙ ap Some (sym cell.disk)))) in
      value f shows some
      ∙ ap (f c.soft_of-stripe.result.1) (c.soft_place.ensures.value ∙ ap (soft_place_of m.setup.geometry m.gear) cell.stripe)
      ∙ ap (λ (e : ℕ). f e (soft_place_of m.setup.geometry m.gear (soft_stripe m.setup.geometry.disks m.gear c.args.r c.args.d))) cell.disk
      ∙ sym (soft_there (seen_by m table c.args.out f) c.args.r c.args.d not)) c.read_laid.ensures.value;
}

pub read_rest-requires-clause-ready : goal.read_rest-requires-clause-ready
read_rest-requires-clause-ready g c =
    subst (λ (o : Option ℕ). CanRead (g.R.Rack.slot_count (store_rack c.args.store.now)) (g.R.Rack.slot (store_rack c.args.store.now)) c.args.meta.now o) (c.is_at.ensures.0 c.if-is_at.true) c.requires.ready

pub read_rest-requires-clause-stripe : goal.read_rest-requires-clause-stripe
read_rest-requires-clause-stripe g c = c.soft_of-stripe.ensures.stripe_in

pub read_rest-requires-clause-region : goal.read_rest-requires-clause-region
read_rest-requires-clause-region g c = let parked = c.requires.parked in let low = c.requires.disk in omega (arith, parked, low)

pub read_laid-requires-clause-exists : goal.read_laid-requires-clause-exists
read_laid-requires-clause-exists g c =
    let enough = c.requires.ready.enough in let parked = c.requires.parked in let low = c.requires.disk in let there = c.soft_of-stripe.ensures.below in omega (arith, enough, parked, low, there)

pub read_laid-requires-clause-below : goal.read_laid-requires-clause-below
read_laid-requires-clause-below g c =
    let array = c.requires.array in let parked = c.requires.parked in let low = c.requires.disk in let there = c.soft_of-stripe.ensures.below in omega (arith, array, parked, low, there)

pub read_laid-requires-clause-past_log : goal.read_laid-requires-clause-past_log
read_laid-requires-clause-past_log g c = let after = c.soft_place.ensures.after_hard in omega (arith, after)
