use Rattle.std.proofs.Common.{◌≡◌, ◌∙◌, ℕ, subst, refl, sym, rules, arith}
use Rattle.paraid_image.specs.Mark.{meta_after_loss}
use Rattle.paraid_txn.specs.Losses.{IsLostNow}
use Rattle.paraid_core.proofs.ReadyLemmas.{some_is}
use Rattle.paraid_core.proofs.UnitCopyLemmas.{rebuilding_named}
use Rattle.paraid_core.specs.Units.{IsUnitNumber}
use Rattle.paraid_core.proofs.UnitWriteLemmas.{unit_passes, unit_stays_held}
use Rattle.paraid_core.proofs.KindLemmas.{calls_none}
use Rattle.paraid_txn.specs.Stores.{store_rack}
use Rattle.paraid_core.proofs.LostMarkLemmas.{marks_none}
use Rattle.paraid_core.proofs.ErrLemmas.{done_not_dropped}
use Rattle.paraid_rack.specs.declared.call.Power.TheVariants.{Spinning}
use Rattle.paraid_core.proofs.StepLemmas.{leaves_none}
use Rattle.paraid_core.proofs.staged.Core.rebuild_unit.Goals as goal

pub copy_unit-requires : goal.copy_unit-requires
copy_unit-requires g c = record {
  serving = record {
    ready = c.requires.serving.ready;
    serves = c.requires.serving.serves;
  };
  no_draft = c.requires.no_draft;
  fresh = c.fresh_disk-disk.ensures;
  unit = c.unit_of-unit.ensures;
  from = c.requires.from;
  spins = c.requires.spins c.fresh_disk-disk.result (rebuilding_named c.args.self.now.meta c.fresh_disk-disk.result c.fresh_disk-disk.ensures);
  nothing = c.requires.nothing;
}

pub returns : goal.returns
returns g c = record {
  copies = record {
    leaves = c.copy_unit.ensures.copies.leaves;
    same = c.copy_unit.ensures.copies.same;
    losses = record {
      slots = c.copy_unit.ensures.copies.losses.slots;
      spared = c.copy_unit.ensures.copies.losses.spared;
      two = c.copy_unit.ensures.copies.losses.two;
      tells = c.copy_unit.ensures.copies.losses.tells;
      marks = c.copy_unit.ensures.copies.losses.marks;
    };
    calls = c.copy_unit.ensures.copies.calls;
  };
  spins = λ is d named.
      let same : c.fresh_disk-disk.result ≡ d = some_is c.fresh_disk-disk.result d (sym (rebuilding_named c.args.self.now.meta c.fresh_disk-disk.result c.fresh_disk-disk.ensures) ∙ named) in
      subst (λ (x : ℕ). (g.R.Rack.slot (store_rack c.copy_unit.new.self.store) x).power ≡ Spinning) same (c.copy_unit.ensures.spins is);
  passed = search rules;
  held = record {
    copied = c.copy_unit.ensures.held.copied;
    lost = c.copy_unit.ensures.held.lost;
    moments = c.copy_unit.ensures.held.moments;
  };
  gone = λ is d named.
      let same : c.fresh_disk-disk.result ≡ d = some_is c.fresh_disk-disk.result d (sym (rebuilding_named c.args.self.now.meta c.fresh_disk-disk.result c.fresh_disk-disk.ensures) ∙ named) in
      subst (λ (x : ℕ). c.copy_unit.new.self.meta ≡ meta_after_loss c.args.self.now.meta x) same (c.copy_unit.ensures.loses.gone is);
  failed = λ is d named.
      let same : c.fresh_disk-disk.result ≡ d = some_is c.fresh_disk-disk.result d (sym (rebuilding_named c.args.self.now.meta c.fresh_disk-disk.result c.fresh_disk-disk.ensures) ∙ named) in
      subst (λ (x : ℕ). IsLostNow (g.R.Rack.slot (store_rack c.args.self.now.store)) (g.R.Rack.slot (store_rack c.copy_unit.new.self.store)) x) same (c.copy_unit.ensures.loses.failed is);
}

pub returns-then-is_passed : goal.returns-then-is_passed
returns-then-is_passed g c = record {
  copies = record {
    leaves = leaves_none g.R.Rack.slot_count g.R.Rack.slot g.R.Rack.told c.args.self.now c.requires.serving.ready c.requires.serving.serves.stays;
    same = λ is. refl;
    losses = record {
      slots = refl;
      spared = record { power = λ d here. refl; size = λ d here. refl; no_fall = λ d. omega arith };
      two = tt;
      tells = tt;
      marks = marks_none c.args.self.now.meta c.args.self.now.meta _ _ c.args.self.now.meta.epoch c.args.self.now.meta.writes (λ d. refl) refl;
    };
    calls = calls_none _ (g.R.Rack.told (store_rack c.args.self.now.store));
  };
  spins = λ is. c.requires.spins;
  passed = λ d named past low dirty. refl;
  held = record {
    copied = λ is h lo.
        let passed = c.is_passed.ensures.passed c.if-is_passed.true in
        unit_passes g.R.Rack.slot_count g.R.Rack.slot g.R.Rack.told c.args.self.now c.requires.serving.ready c.args.number c.fresh_disk-disk.result c.fresh_disk-disk.ensures
        (subst (IsUnitNumber c.args.self.now.meta c.fresh_disk-disk.result c.args.number) passed.0 c.unit_of-unit.ensures) passed.1 passed.2 h lo;
    lost = λ is. done_not_dropped _ _ refl is;
    moments = λ h lo. unit_stays_held g.R.Rack.slot_count g.R.Rack.told c.args.self.now c.args.number h lo;
  };
  gone = λ is. done_not_dropped _ _ refl is;
  failed = λ is. done_not_dropped _ _ refl is;
}

pub fresh_disk-disk-requires : goal.fresh_disk-disk-requires
fresh_disk-disk-requires g c = record {
  out = c.requires.out;
  back = c.requires.back;
}

pub unit_of-unit-requires : goal.unit_of-unit-requires
unit_of-unit-requires g c = record {
  in_range = c.requires.serving.ready.in_range;
  number = c.requires.unit c.fresh_disk-disk.result (rebuilding_named c.args.self.now.meta c.fresh_disk-disk.result c.fresh_disk-disk.ensures);
}
