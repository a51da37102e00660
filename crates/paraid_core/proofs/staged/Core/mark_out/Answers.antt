use Rattle.std.proofs.Common.{sym, subst, rules, refl}
use Rattle.paraid_base.specs.declared.state.Out.TheVariants.{Gone}
use Rattle.paraid_base.specs.declared.state.Phase.{Phase}
use Rattle.paraid_txn.specs.Stores.{disks_of, epoch_of, named_of, store_rack}
use Rattle.std.specs.Prelude.{length}
use Rattle.paraid_rack.specs.Told.{CrashTriple, Ran}
use Rattle.paraid_core.specs.CoreInvariant.{AreSlotsReady, CanServe, HoldsBetweenCalls}
use Rattle.paraid_core.specs.Cores.{CoreStandsFor, IsCoreHeldSinceCommit}
use Rattle.paraid_core.proofs.OutLemmas.{marked_ready, marked_serves, out_stands}
use Rattle.paraid_core.proofs.staged.Core.mark_out.Goals as goal

pub returns : goal.returns
returns g c = record {
  meta = search rules;
  marks = record {
    store = refl;
    staged = record {
      table = refl;
      batch = refl;
      copied = refl;
      draft = refl;
    };
    ready =
        let q = c.requires in
        let old = c.args.self.now in
        subst (λ (p : Phase). AreSlotsReady (g.R.Rack.slot_count (store_rack old.store)) (g.R.Rack.slot (store_rack old.store)) (epoch_of old.store) (disks_of old.store) (named_of old.store) (record old.meta { phase = p; fill = 0; out = Gone c.args.disk }) (length old.dirty) old.batch)
        (sym c.beside-self.ensures) (marked_ready old.meta (named_of old.store) c.args.disk q.ready.in_range q.disk q.alone q.still _ _ _ _ _ _ q.ready);
  };
  serves = λ serves.
      let q = c.requires in
      let old = c.args.self.now in
      subst (λ (p : Phase). CanServe (g.R.Rack.slot (store_rack old.store)) (named_of old.store) (record old.meta { phase = p; fill = 0; out = Gone c.args.disk }))
      (sym c.beside-self.ensures) (marked_serves old.meta (named_of old.store) c.args.disk q.ready.in_range q.disk q.alone q.still _ serves);
  stands = λ h lo.
      let q = c.requires in
      let old = c.args.self.now in
      subst (λ (p : Phase). Ran (g.R.Rack.told (store_rack old.store)) (g.R.Rack.told (store_rack old.store)) (CrashTriple (IsCoreHeldSinceCommit g.R.Rack.slot_count old h lo) (CoreStandsFor g.R.Rack.slot_count old h lo)
      (HoldsBetweenCalls (g.R.Rack.slot_count (store_rack old.store)) (named_of old.store) (record old.meta { phase = p; fill = 0; out = Gone c.args.disk }) old.dirty old.batch old.copied h lo)))
      (sym c.beside-self.ensures)
      (out_stands g.R.Rack.slot_count g.R.Rack.slot g.R.Rack.told old q.ready c.args.disk q.disk q.alone q.still (g.met.R.Rack.agrees (store_rack old.store)) h lo);
}
