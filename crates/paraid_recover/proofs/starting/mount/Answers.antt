use Rattle.std.specs.Prelude.{Result, Ok, Err, IfOk}
use Rattle.std.proofs.Common.{refl, arith}
use Rattle.std.proofs.lemmas.Result.{IfErr-weaker, IfOk-weaker}
use Rattle.paraid_recover.specs.declared.mount_fault.MountFault.TheVariants.{NoMemory}
use Rattle.paraid_recover.specs.Mount.IsCauseOfRefusal.{no_memory}
use Rattle.paraid_txn.specs.Stores.{named_of, store_rack}
use Rattle.paraid_recover.proofs.MountedLemmas.{mounted_extends, mounted_from_each, no_calls, ran_extends, refused_extends, refused_from_each, unstarted_here}
use Rattle.paraid_recover.proofs.starting.mount.Goals as goal

-- what is said of a success twice is said of it once
both_ok : {T E : Type 0} (r : Result T E) (P Q S : T → Type 0) → ((x : T) → P x → Q x → S x) → IfOk r P → IfOk r Q → IfOk r S
both_ok (Ok x) P Q S both p q = both x p q
both_ok (Err e) P Q S both p q = tt

pub returns : goal.returns
returns g c =
    let m = c.mount_with.ensures in
    let r = c.mount_with.result in
    record {
      slots = m.slots;
      refused_slots = m.refused_slots;
      servable = m.servable;
      nothing = m.nothing;
      later = IfOk-weaker r _ _ (λ it served. served.later) m.served;
      refused_later = m.refused_later;
      grows = IfOk-weaker r _ _ (λ it served. mounted_extends _ _ _ _ _ _ _ _ served) m.served;
      refused_grows = IfErr-weaker r _ _ (λ refused cause. refused_extends _ _ _ _ _ _ cause) m.refused;
      mounted = both_ok r _ _ _ (λ it served servable. (
        served,
        λ slots began at. mounted_from_each _ (g.R.Rack.slot c.args.rack) (g.R.Rack.slot (store_rack it.store)) (named_of it.store) it.meta _ (g.R.Rack.told c.args.rack) (g.R.Rack.told (store_rack it.store)) served
            (g.met.R.Rack.agrees (store_rack it.store)) _ _ _ _ servable slots began at,
      )) m.served m.servable;
      cause = m.refused;
      refused = IfErr-weaker r _ _ (λ refused cause began at.
          refused_from_each (g.R.Rack.slot_count c.args.rack) (g.R.Rack.slot c.args.rack) (g.R.Rack.slot refused.rack) (g.R.Rack.told c.args.rack) (g.R.Rack.told refused.rack) refused.fault
          (g.met.R.Rack.agrees c.args.rack) (g.met.R.Rack.agrees refused.rack) began at cause) m.refused;
    }

pub returns-in_default : goal.returns-in_default
returns-in_default g c = record {
  slots = tt;
  refused_slots = refl;
  servable = tt;
  nothing = tt;
  later = tt;
  refused_later = λ d. omega arith;
  grows = tt;
  refused_grows = ran_extends _ _ _ (no_calls (g.R.Rack.told c.args.rack)).calls;
  mounted = tt;
  cause = no_memory refl (unstarted_here (g.R.Rack.slot c.args.rack) (g.R.Rack.told c.args.rack));
  refused = λ began at.
      refused_from_each (g.R.Rack.slot_count c.args.rack) (g.R.Rack.slot c.args.rack) (g.R.Rack.slot c.args.rack) (g.R.Rack.told c.args.rack) (g.R.Rack.told c.args.rack) NoMemory
      (g.met.R.Rack.agrees c.args.rack) (g.met.R.Rack.agrees c.args.rack) began at (no_memory refl (unstarted_here (g.R.Rack.slot c.args.rack) (g.R.Rack.told c.args.rack)));
}
