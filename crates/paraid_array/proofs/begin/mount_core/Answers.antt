use Rattle.std.specs.Prelude.{◌<◌, ◌≤◌, length}
use Rattle.std.proofs.Common.{ap, arith, refl, subst, sym, ◌∙◌}
use Rattle.paraid_record.specs.declared.meta.Meta.{Meta}
use Rattle.paraid_image.specs.Sides.{Batch}
use Rattle.paraid_recover.specs.declared.mount_fault.MountFault.TheVariants.{NoMemory}
use Rattle.paraid_core.specs.CoreInvariant.{AreSlotsReady}
use Rattle.paraid_core.specs.Cores.{CanCoreServe, IsCoreReady}
use Rattle.paraid_rack.specs.Told.{Extends}
use Rattle.paraid_recover.specs.Mount.IsCauseOfRefusal.{no_memory}
use Rattle.paraid_recover.specs.Mounted.{IsServable, IsStandingWithLoss}
use Rattle.paraid_recover.proofs.MountedLemmas.{refused_from_each, unstarted_here}
use Rattle.paraid_txn.specs.Stores.{disks_of, epoch_of, named_of, store_rack}
use Rattle.paraid_upkeep.proofs.ToldLemmas.{extends_none}
use Rattle.paraid_array.proofs.BeginLemmas.{begins_large, begins_synced, begun_mounted, begun_servable, begun_stands, begun_under, fresh_known, out_known, powered_by, stands_from_each}
use Rattle.paraid_array.proofs.begin.mount_core.Given.{Over}
use Rattle.paraid_array.proofs.begin.mount_core.Goals as goal
use Rattle.paraid_array.proofs.begin.mount_core.Goals.{After-begin}

-- the core can be served under its meta
served : (g : Over) (c : After-begin g)
    → IsServable (g.R.Rack.slot_count (store_rack c.begin.result.core.store)) (g.R.Rack.slot (store_rack c.begin.result.core.store)) (epoch_of c.begin.result.core.store) (disks_of c.begin.result.core.store)
    (named_of c.begin.result.core.store) c.begin.result.core.meta (length c.begin.result.core.dirty)
served g c =
    let it = c.in-Ok-mount.mounted in
    begun_servable g.R.Rack.slot_count g.R.Rack.slot g.R.Rack.told c.begin.result.core it.store it.meta it.dirty c.begin.ensures.store c.begin.ensures.meta c.begin.ensures.table c.in-Ok-mount.ensures.servable

under : (g : Over) (c : After-begin g)
    → IsStandingWithLoss (g.R.Rack.slot (store_rack c.begin.result.core.store)) (named_of c.begin.result.core.store) c.in-Ok-mount.ensures.mounted.0.settled.standing c.begin.result.core.meta
under g c =
    let it = c.in-Ok-mount.mounted in
    begun_under g.R.Rack.slot_count g.R.Rack.slot g.R.Rack.told c.begin.result.core it.store it.meta it.dirty c.begin.ensures.store c.begin.ensures.meta c.begin.ensures.table
    c.in-Ok-mount.ensures.mounted.0.settled.standing c.in-Ok-mount.ensures.mounted.0.under

ready : (g : Over) (c : After-begin g) → IsCoreReady g.R.Rack.slot_count g.R.Rack.slot c.begin.result.core
ready g c =
    let core = c.begin.result.core in
    let s = served g c in
    subst (λ (z : Batch). AreSlotsReady (g.R.Rack.slot_count (store_rack core.store)) (g.R.Rack.slot (store_rack core.store)) (epoch_of core.store) (disks_of core.store) (named_of core.store) core.meta (length core.dirty) z)
    (sym (c.begin.ensures.batch ∙ c.in-Ok-mount.ensures.nothing))
    (c.a_powered_array_can_begin.ensures.ready _ _ _ _ _ _ _ (powered_by _ _ _ _ _ _ _ s) s.array_is s.epoch_is s.rows_are)

serves : (g : Over) (c : After-begin g) → CanCoreServe g.R.Rack.slot c.begin.result.core
serves g c = c.a_powered_array_can_begin.ensures.serves _ _ _ _ (powered_by _ _ _ _ _ _ _ (served g c))

pub returns-in_default : goal.returns-in_default
returns-in_default g c = record {
  slots = tt;
  begun = tt;
  lengths = tt;
  none = tt;
  later = tt;
  refused_slots = refl;
  refused_later = λ d. omega arith;
  mounted = tt;
  grows = tt;
  stands = tt;
  refused_grows = extends_none (g.R.Rack.told c.args.rack);
  cause = no_memory refl (unstarted_here (g.R.Rack.slot c.args.rack) (g.R.Rack.told c.args.rack));
  refused = λ began at.
      refused_from_each (g.R.Rack.slot_count c.args.rack) (g.R.Rack.slot c.args.rack) (g.R.Rack.slot c.args.rack) (g.R.Rack.told c.args.rack) (g.R.Rack.told c.args.rack) NoMemory
      (g.met.R.Rack.agrees c.args.rack) (g.met.R.Rack.agrees c.args.rack) began at (no_memory refl (unstarted_here (g.R.Rack.slot c.args.rack) (g.R.Rack.told c.args.rack)));
}

pub returns-in-Ok-mount : goal.returns-in-Ok-mount
returns-in-Ok-mount g c = record {
  slots = ap (λ (z : _). g.R.Rack.slot_count (store_rack z)) c.begin.ensures.store ∙ c.in-Ok-mount.ensures.slots;
  begun =
      let at = (goal.at.returns-in-Ok-mount g c).After-begin in
      let core = c.begin.result.core in
      let s = served g at in
      record {
        serving = record {
          ready = ready g at;
          serves = serves g at;
          draft = c.begin.ensures.draft ∙ c.in-Ok.ensures.draft;
          copies_synced = λ d low. c.begin.ensures.copies_synced d (subst (λ (m : Meta). d < m.setup.geometry.disks) c.begin.ensures.meta low);
          unsynced = λ d low stays here wet. begins_synced _ _ _ _ _ _ _ s core.copied d low stays here wet;
          large = begins_large _ _ _ _ _ _ _ s;
        };
        nothing = c.begin.ensures.batch ∙ c.in-Ok-mount.ensures.nothing;
        synced = s.synced;
        powered = powered_by _ _ _ _ _ _ _ s;
        known = record {
          absent = out_known _ _ _ _ (under g at);
          named = λ d is. (fresh_known _ _ _ _ (under g at) d _ is).0;
          spins = λ d is. s.fresh_spins d _ is (fresh_known _ _ _ _ (under g at) d _ is).1;
        };
      };
  lengths = c.begin.ensures.lengths ∙ ap (λ (m : Meta). m.setup.windows) (sym c.begin.ensures.meta);
  none = c.begin.ensures.none;
  later = λ d.
      subst (λ (z : _). (g.R.Rack.slot c.args.rack d).faults ≤ (g.R.Rack.slot (store_rack z) d).faults) (sym c.begin.ensures.store) (c.in-Ok-mount.ensures.later d);
  refused_slots = tt;
  refused_later = tt;
  mounted =
      let it = c.in-Ok-mount.mounted in
      let done = c.in-Ok-mount.ensures in
      begun_mounted g.R.Rack.slot_count g.R.Rack.slot g.R.Rack.told c.begin.result.core it.store it.meta it.dirty c.begin.ensures.store c.begin.ensures.meta c.begin.ensures.table
      (g.R.Rack.slot_count c.args.rack) (g.R.Rack.slot c.args.rack) (g.R.Rack.told c.args.rack) done.slots done.servable done.mounted.0 (λ began. done.mounted.1 (g.R.Rack.slot_count c.args.rack) began);
  grows = subst (λ (z : _). Extends (g.R.Rack.told c.args.rack) (g.R.Rack.told (store_rack z))) (sym c.begin.ensures.store) c.in-Ok-mount.ensures.grows;
  stands = λ began at.
      let it = c.in-Ok-mount.mounted in
      let told = c.in-Ok-mount.ensures.mounted in
      let slots = g.R.Rack.slot_count (store_rack it.store) in
      let setup_copies = c.begin.ensures.copies_synced in
      begun_stands g.R.Rack.slot_count g.R.Rack.slot g.R.Rack.told c.begin.result.core it.store it.meta it.dirty c.begin.ensures.store c.begin.ensures.meta c.begin.ensures.table
      (g.R.Rack.slot_count c.args.rack) began (c.begin.ensures.batch ∙ c.in-Ok-mount.ensures.nothing)
      (stands_from_each (g.R.Rack.slot_count c.args.rack) slots (g.R.Rack.slot c.args.rack) (g.R.Rack.slot (store_rack it.store)) (named_of it.store) it.meta it.dirty c.begin.result.core.copied
      (g.R.Rack.told c.args.rack) (g.R.Rack.told (store_rack it.store)) told.0 (g.met.R.Rack.agrees (store_rack it.store)) _ _ _ c.in-Ok-mount.ensures.servable setup_copies began c.in-Ok-mount.ensures.slots (told.1 slots began at));
  refused_grows = tt;
  cause = tt;
  refused = tt;
}

pub begin-requires : goal.begin-requires
begin-requires g c = record { in_range = c.in-Ok-mount.ensures.servable.fit.in_range }

pub returns-in-Err : goal.returns-in-Err
returns-in-Err g c = record {
  slots = tt;
  begun = tt;
  lengths = tt;
  none = tt;
  later = tt;
  refused_slots = c.in-Err.ensures.refused_slots;
  refused_later = c.in-Err.ensures.refused_later;
  mounted = tt;
  grows = tt;
  stands = tt;
  refused_grows = c.in-Err.ensures.refused_grows;
  cause = c.in-Err.ensures.cause;
  refused = c.in-Err.ensures.refused;
}
