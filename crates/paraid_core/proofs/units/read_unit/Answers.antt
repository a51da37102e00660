use Rattle.std.proofs.Common.{◌≡◌, ◌≢◌, ◌-◌, ◌++◌, Some, OnOk, ap, arith, inl, subst, sym}
use Rattle.std.specs.Prelude.{IsSome}
use Rattle.std.proofs.lemmas.Result.{IfErr-weaker}
use Rattle.paraid_image.specs.Standing.{Contents}
use Rattle.paraid_txn.specs.Stores.{store_rack}
use Rattle.paraid_view.specs.Reads.{ShowsContents, seen_by}
use Rattle.paraid_core.specs.declared.units.RebuildUnit.{RebuildUnit}
use Rattle.paraid_core.specs.Units.{IsUnitNumber, rebuilt_block}
use Rattle.paraid_core.proofs.ReadyLemmas.{some_is}
use Rattle.paraid_core.proofs.units.read_unit.Goals as goal

pub read_value-requires : goal.read_value-requires
read_value-requires g c = record {
  in_range = c.requires.in_range;
  row = (subst (IsUnitNumber c.args.meta.now c.args.disk c.args.number) c.in-Row.is c.requires.unit).0;
  disk = c.requires.disk;
  rows = c.requires.rows;
  array = c.requires.array;
  ready = c.requires.ready;
}

pub read_rest-requires-clause-in_range : goal.read_rest-requires-clause-in_range
read_rest-requires-clause-in_range g c = c.requires.in_range

pub read_rest-requires-clause-array : goal.read_rest-requires-clause-array
read_rest-requires-clause-array g c = c.requires.array

pub read_rest-requires-clause-ready : goal.read_rest-requires-clause-ready
read_rest-requires-clause-ready g c = c.requires.ready

pub read_rest-requires-clause-stripe : goal.read_rest-requires-clause-stripe
read_rest-requires-clause-stripe g c = (subst (IsUnitNumber c.args.meta.now c.args.disk c.args.number) c.in-Stripe.is c.requires.unit).1.0

pub overflow_sub-disk : goal.overflow_sub-disk
overflow_sub-disk g c = let low = (subst (IsUnitNumber c.args.meta.now c.args.disk c.args.number) c.in-MapBlock.is c.requires.unit).0 in omega (arith, low)

pub overflow_add-block : goal.overflow_add-block
overflow_add-block g c = let low = (subst (IsUnitNumber c.args.meta.now c.args.disk c.args.number) c.in-MapBlock.is c.requires.unit).1.0 in let high = c.args.meta.now.setup.geometry.rows_high in omega (arith, low, high)

pub read_laid-requires : goal.read_laid-requires
read_laid-requires g c = record {
  exists = let enough = c.requires.ready.enough in let three = c.args.meta.now.setup.geometry.disks_low in omega (arith, enough, three);
  below = let array = c.requires.array in let three = c.args.meta.now.setup.geometry.disks_low in omega (arith, array, three);
  spinning =
      let m = c.args.meta.now in
      let three = m.setup.geometry.gears_low m.gear c.requires.in_range.gear in
      c.requires.ready.spins (1 - c.args.disk) (inl (omega (arith, three))) (λ is. let same = some_is c.args.disk (1 - c.args.disk) is in omega (arith, same));
  within =
      let m = c.args.meta.now in
      let three = m.setup.geometry.gears_low m.gear c.requires.in_range.gear in
      let large = c.requires.ready.large (1 - c.args.disk) (inl (omega (arith, three))) (λ is. let same = some_is c.args.disk (1 - c.args.disk) is in omega (arith, same)) in
      let low = (subst (IsUnitNumber c.args.meta.now c.args.disk c.args.number) c.in-MapBlock.is c.requires.unit).1.0 in
      omega (arith, large, low);
  past_log = omega arith;
}

pub returns-in-Row : goal.returns-in-Row
returns-in-Row g c = record {
  read = c.read_value.ensures.read;
  below = c.read_value.ensures.below;
  failed = IfErr-weaker c.read_value.result (λ e. Some c.args.disk ≢ Some e) (λ e. e ≢ c.args.disk) (λ e not is. not (ap Some (sym is))) c.read_value.ensures.failed;
  value =
      subst (λ (u : RebuildUnit). OnOk c.read_value.result ((f : Contents) → ShowsContents (g.R.Rack.told (store_rack c.args.store.now)) (c.args.batch.now ++ c.args.draft.now) f
      → IsSome (g.R.Rack.told (store_rack c.read_value.new.store)) → c.read_value.new.into ≡ rebuilt_block (seen_by c.args.meta.now c.args.dirty.now (Some c.args.disk) f) c.args.disk u))
      (sym c.in-Row.is) c.read_value.ensures.value;
}

pub returns-in-Stripe : goal.returns-in-Stripe
returns-in-Stripe g c = record {
  read = c.read_rest.ensures.read;
  below = c.read_rest.ensures.below;
  failed = c.read_rest.ensures.failed;
  value =
      subst (λ (u : RebuildUnit). OnOk c.read_rest.result ((f : Contents) → ShowsContents (g.R.Rack.told (store_rack c.args.store.now)) (c.args.batch.now ++ c.args.draft.now) f
      → IsSome (g.R.Rack.told (store_rack c.read_rest.new.store)) → c.read_rest.new.into ≡ rebuilt_block (seen_by c.args.meta.now c.args.dirty.now (Some c.args.disk) f) c.args.disk u))
      (sym c.in-Stripe.is) c.read_rest.ensures.value;
}

pub returns-in-MapBlock : goal.returns-in-MapBlock
returns-in-MapBlock g c = record {
  read = c.read_laid.ensures.read;
  below = c.read_laid.ensures.below;
  failed = IfErr-weaker c.read_laid.result (λ e. e ≡ 1 - c.args.disk) (λ e. e ≢ c.args.disk) (λ e other is. omega (arith, other, is)) c.read_laid.ensures.failed;
  value =
      subst (λ (u : RebuildUnit). OnOk c.read_laid.result ((f : Contents) → ShowsContents (g.R.Rack.told (store_rack c.args.store.now)) (c.args.batch.now ++ c.args.draft.now) f
      → IsSome (g.R.Rack.told (store_rack c.read_laid.new.store)) → c.read_laid.new.into ≡ rebuilt_block (seen_by c.args.meta.now c.args.dirty.now (Some c.args.disk) f) c.args.disk u))
      (sym c.in-MapBlock.is) c.read_laid.ensures.value;
}
