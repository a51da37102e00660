use Rattle.std.specs.Prelude.{◌≡◌, ◌≢◌, ℕ, ◌<◌, Some, None}
use Rattle.std.proofs.Common.{◌∙◌, ap, refl, subst, sym, arith}
use Rattle.paraid_dirty.specs.Table.{is_dirty}
use Rattle.paraid_image.specs.Standing.{Contents}
use Rattle.paraid_plan.specs.WriteTargets.{overlaid_blocks}
use Rattle.paraid_txn.specs.Stores.{disks_of, store_rack}
use Rattle.paraid_core.specs.Plans.{base_of}
use Rattle.paraid_core.proofs.PlanLemmas.{base_same, desk_same, shows_desk}
use Rattle.paraid_image.specs.Out.{named_out}
use Rattle.paraid_core.proofs.LeadsLemmas.{leads_read, read_serves}
use Rattle.paraid_core.proofs.plan.CoreWritePlan.stored.Goals as goal

pub returns : goal.returns
returns g c = record {
  ok = tt;
  same = tt;
  bits = tt;
  staged = tt;
  changes = tt;
  goes_on = tt;
  fails = refl;
  leads =
      let old = c.args.self.now in
      let serves = c.requires.serves in
      let not_out : named_out old.meta.out ≢ Some c.args.disk = (λ is. c.requires.not_out (serves.out ∙ is)) in
      leads_read g.R.Rack.slot_count g.R.Rack.slot g.R.Rack.told old serves.whole c.read_laid.new.store (Some c.in-Err.failed) c.in-Err.ensures.read (c.read_laid.ensures.off (named_out old.meta.out) not_out)
      (λ e is. let y : c.in-Err.failed ≡ e = cc in (subst (λ (z : ℕ). z < disks_of old.store) y c.in-Err.ensures.below, λ k. not_out (k ∙ ap Some (sym y ∙ c.in-Err.ensures.failed)))) (Some c.in-Err.failed) refl;
}

pub returns-in_default : goal.returns-in_default
returns-in_default g c = record {
  ok = λ some.
      let old = c.args.self.now in
      let f : Contents = overlaid_blocks old.draft (base_of (g.R.Rack.told (store_rack old.store)) old.batch) in
      c.in_default.ensures.value f (shows_desk _ old.batch old.draft) some;
  same = λ some.
      let old = c.args.self.now in
      let read = c.in_default.ensures.read in
      desk_same (is_dirty old.dirty) old.draft _ _
      (base_same (disks_of old.store) _ _ (g.R.Rack.slot (store_rack old.store)) (g.R.Rack.slot (store_rack c.read_laid.new.store)) old.batch (g.met.R.Rack.agrees (store_rack old.store)) (g.met.R.Rack.agrees (store_rack c.read_laid.new.store)) read.left read.calls some);
  bits = refl;
  staged = refl;
  changes = refl;
  goes_on = read_serves g.R.Rack.slot_count g.R.Rack.slot g.R.Rack.told c.args.self.now c.read_laid.new.store c.args.m.now c.in_default.ensures.read c.requires.serves;
  fails = tt;
  leads =
      let old = c.args.self.now in
      let serves = c.requires.serves in
      leads_read g.R.Rack.slot_count g.R.Rack.slot g.R.Rack.told old serves.whole c.read_laid.new.store None c.in_default.ensures.read (c.read_laid.ensures.off (named_out old.meta.out) (λ is. c.requires.not_out (serves.out ∙ is))) (λ e is. cc) old.failed
      serves.whole;
}

pub read_laid-requires : goal.read_laid-requires
read_laid-requires g c = record {
  exists = let low = c.requires.disk in let enough = c.requires.serves.ready.enough in omega (arith, low, enough);
  below = let low = c.requires.disk in let array = c.requires.serves.array in omega (arith, low, array);
  spinning = c.requires.serves.ready.spins c.args.disk c.requires.powered c.requires.not_out;
  within = let large = c.requires.serves.ready.large c.args.disk c.requires.powered c.requires.not_out in let low = c.requires.place in omega (arith, large, low);
  past_log = c.requires.past_log;
}
