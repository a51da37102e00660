use Rattle.std.specs.Prelude.{◌≡◌, ◌<◌, Some, None}
use Rattle.std.proofs.Common.{ℕ, ◌∙◌, Option, ap, refl, subst, sym}
use Rattle.paraid_dirty.specs.Table.{is_dirty}
use Rattle.paraid_image.specs.Standing.{Contents}
use Rattle.paraid_plan.specs.WriteTargets.{overlaid_blocks, stripe_block_now}
use Rattle.paraid_txn.specs.Stores.{disks_of, store_rack}
use Rattle.paraid_view.specs.Reads.{seen_by, CanRead}
use Rattle.paraid_core.specs.Plans.{base_of}
use Rattle.paraid_core.proofs.PlanLemmas.{base_same, desk_same, shows_desk}
use Rattle.paraid_image.specs.Out.{named_out}
use Rattle.paraid_view.proofs.ReadLemmas.{off_same}
use Rattle.paraid_core.proofs.LeadsLemmas.{leads_read, read_serves}
use Rattle.paraid_core.proofs.plan.CoreWritePlan.stripe.Goals as goal

pub returns : goal.returns
returns g c = record {
  ok = tt;
  same = tt;
  bits = tt;
  staged = tt;
  changes = tt;
  goes_on = tt;
  fails = refl;
  leads =
      let old = c.args.self.now in
      let serves = c.requires.serves in
      let same : named_out old.meta.out ≡ c.named-out.result = sym serves.out ∙ sym c.named-out.ensures in
      leads_read g.R.Rack.slot_count g.R.Rack.slot g.R.Rack.told old serves.whole c.read_stripe.new.store (Some c.in-Err.disk) c.in-Err.ensures.read (off_same (named_out old.meta.out) c.named-out.result _ _ same c.read_stripe.ensures.off)
      (λ e is. let y : c.in-Err.disk ≡ e = cc in (subst (λ (z : ℕ). z < disks_of old.store) y c.in-Err.ensures.below, λ k. c.in-Err.ensures.failed (sym same ∙ k ∙ ap Some (sym y)))) (Some c.in-Err.disk) refl;
}

pub returns-in_default : goal.returns-in_default
returns-in_default g c = record {
  ok = λ some.
      let old = c.args.self.now in
      let f : Contents = overlaid_blocks old.draft (base_of (g.R.Rack.told (store_rack old.store)) old.batch) in
      c.in_default.ensures.value f old.dirty (shows_desk _ old.batch old.draft) some
      ∙ ap (λ (o : Option ℕ). stripe_block_now (seen_by c.args.m.now old.dirty o f) c.args.s c.args.e) c.named-out.ensures;
  same = λ some.
      let old = c.args.self.now in
      let read = c.in_default.ensures.read in
      desk_same (is_dirty old.dirty) old.draft _ _
      (base_same (disks_of old.store) _ _ (g.R.Rack.slot (store_rack old.store)) (g.R.Rack.slot (store_rack c.read_stripe.new.store)) old.batch (g.met.R.Rack.agrees (store_rack old.store)) (g.met.R.Rack.agrees (store_rack c.read_stripe.new.store)) read.left read.calls some);
  bits = refl;
  staged = refl;
  changes = refl;
  goes_on = read_serves g.R.Rack.slot_count g.R.Rack.slot g.R.Rack.told c.args.self.now c.read_stripe.new.store c.args.m.now c.in_default.ensures.read c.requires.serves;
  fails = tt;
  leads =
      let old = c.args.self.now in
      let serves = c.requires.serves in
      leads_read g.R.Rack.slot_count g.R.Rack.slot g.R.Rack.told old serves.whole c.read_stripe.new.store None c.in_default.ensures.read
      (off_same (named_out old.meta.out) c.named-out.result _ _ (sym serves.out ∙ sym c.named-out.ensures) c.read_stripe.ensures.off) (λ e is. cc) old.failed serves.whole;
}

pub read_stripe-requires : goal.read_stripe-requires
read_stripe-requires g c = record {
  in_range = c.requires.in_range;
  stripe = c.requires.stripe;
  disk = c.requires.disk;
  array = c.requires.serves.array;
  ready = subst (λ (o : Option ℕ). CanRead (g.R.Rack.slot_count (store_rack c.args.self.now.store)) (g.R.Rack.slot (store_rack c.args.self.now.store)) c.args.m.now o) (sym c.named-out.ensures) c.requires.serves.ready;
}
