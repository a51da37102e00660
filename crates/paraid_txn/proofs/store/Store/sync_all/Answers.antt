use Rattle.std.specs.Prelude.{◌≡◌, ℕ, Option, Some, None, Result, Ok, Err, IfErr}
use Rattle.std.proofs.Common.{refl, ◌∙◌, rules}
use Rattle.std.proofs.lemmas.Result.{IfErr-weaker}
use Rattle.paraid_base.specs.declared.fault.Two.{Two}
use Rattle.paraid_rack.specs.Told.{Ran}
use Rattle.paraid_rack.specs.Trail.{Trail}
use Rattle.paraid_image.specs.Lost.{AnswersLosses, TellsLosses}
use Rattle.paraid_image.specs.Out.{first_absent, or_else}
use Rattle.paraid_txn.proofs.AloneLemmas.{gone_beside, tells_beside, two_beside}
use Rattle.paraid_txn.proofs.CrashSpecificationLemmas.{on_ok_then}
use Rattle.paraid_txn.proofs.KnownLemmas.{known_syncs, still_enough}
use Rattle.paraid_txn.proofs.OneLemmas.{one_stays}
use Rattle.paraid_txn.proofs.store.Store.sync_all.Given.{Over}
use Rattle.paraid_txn.proofs.store.Store.sync_all.Goals as goal
use Rattle.paraid_txn.proofs.store.Store.sync_all.Goals.{After-sync_each}

-- the disk that is down as it begins
down_is : (g : Over) (c : After-sync_each g) → c.out_first.result
    ≡ or_else (first_absent (λ e. (g.R.Rack.slot c.args.self.now.rack e).power) c.args.self.now.disks) (or_else c.args.self.now.named None)
down_is g c = c.out_first.ensures ∙ rw c.find_absent-absent.ensures refl

-- what is told of two that are lost
on_err : (from to : Option ℕ) (old new : Option Trail) (P : Two → Type 0) → ((two : Two) → Ran old new (λ s cs. TellsLosses from two cs) → P two) → (result : Result (Unit {0}) Two)
    → Ran old new (λ s cs. AnswersLosses from to result cs) → IfErr result P
on_err from to old new P more (Ok it) ran = tt
on_err from to old new P more (Err two) ran = more two ran

pub returns : goal.returns
returns g c = record {
  slots = search rules;
  same = search rules;
  remembers = λ x low is. is;
  powers =
      let lasts = c.sync_each.ensures.part.lasts in
      record { power = lasts.power; size = lasts.size; no_fall = lasts.no_fall };
  each = c.sync_each.ensures.part.lasts.each;
  still_synced = search rules;
  synced = c.sync_each.ensures.synced;
  one =
      let at = goal.at.returns g c in
      let part = c.sync_each.ensures.part in
      on_ok_then c.sync_each.result (λ well one.
      one_stays c.args.self.now.disks c.args.self.now.named None _ _ _ _ (λ e is. let z : None ≡ Some e = is in cc) (down_is g at.After-sync_each) part.lasts well one) part.well;
  two =
      let at = goal.at.returns g c in
      IfErr-weaker c.sync_each.result _ _ (λ two. two_beside _ _ _ _ _ _ _ two (down_is g at.After-sync_each)) c.sync_each.ensures.part.two;
  gone =
      let at = goal.at.returns g c in
      IfErr-weaker c.sync_each.result _ _ (λ two. gone_beside _ _ _ _ _ _ _ two (down_is g at.After-sync_each)) c.sync_each.ensures.part.gone;
  order =
      let at = goal.at.returns g c in
      on_err _ _ _ _ _ (λ two ran. tells_beside _ _ _ _ _ _ _ two (down_is g at.After-sync_each) ran) c.sync_each.result c.sync_each.ensures.part.order;
  calls = c.sync_each.ensures.part.calls;
}

pub invariant_of-self : goal.invariant_of-self
invariant_of-self g c = record {
  exists = still_enough c.sync_each.ensures.slots c.args.self.now.exists;
  known = known_syncs c.args.self.now.disks c.args.skip c.args.self.now.borne c.sync_each.ensures.part.calls c.args.self.now.known;
}
