use Rattle.std.proofs.lemmas.Result.{on_ok_weaker}
use Rattle.std.proofs.Common.{◌≢◌, ◌∙◌, refl, sym, inl, rules, arith}
use Rattle.paraid_rack.specs.declared.call.Power.TheVariants.{Spinning}
use Rattle.paraid_txn.specs.Stores.{store_rack}
use Rattle.paraid_core.proofs.SettleCellLemmas.{copied_marked, copied_none}
use Rattle.paraid_core.proofs.SettleUnitLemmas.{units_idle, units_none}
use Rattle.paraid_core.proofs.SettleLemmas.{cleared_at, filled_marked, idle_unmarked}
use Rattle.paraid_core.proofs.StepLemmas.{filled_none, held_none, leaves_none, leaves_unmarked, stands_marked, stands_none}
use Rattle.paraid_core.proofs.UnsyncedLemmas.{marks_idle}
use Rattle.paraid_core.proofs.KindLemmas.{calls_none, one_is_each}
use Rattle.paraid_rack.specs.declared.call.Call.TheVariants.{Sync}
use Rattle.paraid_core.proofs.LostMarkLemmas.{marks_none}
use Rattle.paraid_core.proofs.ErrLemmas.{on_ok_any}
use Rattle.paraid_core.proofs.staged.Core.settle_one.Goals as goal

pub returns : goal.returns
returns g c = record {
  keeps = record {
    stays = record {
      leaves = c.sync_disk.ensures.keeps.stays.leaves;
      losses = record {
        slots = c.sync_disk.ensures.keeps.stays.losses.slots;
        spared = c.sync_disk.ensures.keeps.stays.losses.spared;
        two = c.sync_disk.ensures.keeps.stays.losses.two;
        tells = c.sync_disk.ensures.keeps.stays.losses.tells;
        marks = c.sync_disk.ensures.keeps.stays.losses.marks;
      };
      still_synced = c.sync_disk.ensures.keeps.stays.still_synced;
      moments = c.sync_disk.ensures.keeps.stays.moments;
      stands = c.sync_disk.ensures.keeps.stays.stands;
    };
    filled = c.sync_disk.ensures.keeps.filled;
    cells = c.sync_disk.ensures.keeps.cells;
    rebuilt = c.sync_disk.ensures.keeps.rebuilt;
  };
  synced = on_ok_weaker c.sync_disk.result (λ synced is. synced) c.sync_disk.ensures.synced;
  cleared = on_ok_any c.sync_disk.result c.sync_disk.ensures.cleared;
  calls = one_is_each (λ done. Sync c.args.disk done) _ (λ done. (c.requires.disk, c.if-not-self-disk.false)) _ _ c.sync_disk.ensures.calls;
}

pub returns-then-not-self-disk : goal.returns-then-not-self-disk
returns-then-not-self-disk g c = record {
  keeps = record {
    stays = record {
      leaves = leaves_none g.R.Rack.slot_count g.R.Rack.slot g.R.Rack.told c.args.self.now c.requires.ready c.requires.still;
      losses = record {
        slots = refl;
        spared = (leaves_none g.R.Rack.slot_count g.R.Rack.slot g.R.Rack.told c.args.self.now c.requires.ready c.requires.still).spared;
        two = tt;
        tells = tt;
        marks = marks_none c.args.self.now.meta c.args.self.now.meta _ _ c.args.self.now.meta.epoch c.args.self.now.meta.writes (λ d. refl) refl;
      };
      still_synced = λ d here wet. inl wet;
      moments = held_none g.R.Rack.slot_count g.R.Rack.slot g.R.Rack.told c.args.self.now;
      stands = stands_none g.R.Rack.slot_count g.R.Rack.slot g.R.Rack.told c.args.self.now;
    };
    filled = filled_none g.R.Rack.slot_count g.R.Rack.slot g.R.Rack.told c.args.self.now;
    cells = copied_none g.R.Rack.slot_count g.R.Rack.slot g.R.Rack.told c.args.self.now;
    rebuilt = units_none g.R.Rack.slot_count g.R.Rack.slot g.R.Rack.told c.args.self.now;
  };
  synced = search rules;
  cleared = search rules;
  calls = calls_none _ (g.R.Rack.told (store_rack c.args.self.now.store));
}

pub returns-then-not-is_spinning : goal.returns-then-not-is_spinning
returns-then-not-is_spinning g c = record {
  keeps = record {
    stays = record {
      leaves =
          let idle : (g.R.Rack.slot (store_rack c.args.self.now.store) c.args.disk).power ≢ Spinning = (λ is. c.is_spinning.ensures.rests (c.if-not-is_spinning.true) (sym (sym c.power.ensures) ∙ is)) in
          leaves_unmarked g.R.Rack.slot_count g.R.Rack.slot g.R.Rack.told c.args.self.now _ c.requires.ready c.requires.still
          (marks_idle _ _ c.args.disk _ _ (g.met.R.Rack.slots_hold (store_rack c.args.self.now.store)) idle (cleared_at _ _));
      losses = record {
        slots = refl;
        spared = (leaves_none g.R.Rack.slot_count g.R.Rack.slot g.R.Rack.told c.args.self.now c.requires.ready c.requires.still).spared;
        two = tt;
        tells = tt;
        marks = marks_none c.args.self.now.meta c.args.self.now.meta _ _ c.args.self.now.meta.epoch c.args.self.now.meta.writes (λ d. refl) refl;
      };
      still_synced = λ d here wet. inl wet;
      moments = held_none g.R.Rack.slot_count g.R.Rack.slot g.R.Rack.told c.args.self.now;
      stands =
          let idle : (g.R.Rack.slot (store_rack c.args.self.now.store) c.args.disk).power ≢ Spinning = (λ is. c.is_spinning.ensures.rests (c.if-not-is_spinning.true) (sym (sym c.power.ensures) ∙ is)) in
          stands_marked g.R.Rack.slot_count g.R.Rack.slot g.R.Rack.told c.args.self.now _
          (λ t x p tells here copies_synced h lo k. idle_unmarked _ _ (g.met.R.Rack.slots_hold (store_rack c.args.self.now.store)) _ (g.met.R.Rack.agrees (store_rack c.args.self.now.store) t tells) _ _ _ _ _ _ _ h lo _ (cleared_at _ _) idle k x p here copies_synced);
    };
    filled = λ whole.
        let idle : (g.R.Rack.slot (store_rack c.args.self.now.store) c.args.disk).power ≢ Spinning = (λ is. c.is_spinning.ensures.rests (c.if-not-is_spinning.true) (sym (sym c.power.ensures) ∙ is)) in (
          refl,
          filled_marked g.R.Rack.slot_count g.R.Rack.told c.args.self.now _
              (λ t x p tells here copies_synced h lo k. idle_unmarked _ _ (g.met.R.Rack.slots_hold (store_rack c.args.self.now.store)) _ (g.met.R.Rack.agrees (store_rack c.args.self.now.store) t tells) _ _ _ _ _ _ _ h lo _ (cleared_at _ _) idle k x p here copies_synced),
        );
    cells = λ whole.
        let idle : (g.R.Rack.slot (store_rack c.args.self.now.store) c.args.disk).power ≢ Spinning = (λ is. c.is_spinning.ensures.rests (c.if-not-is_spinning.true) (sym (sym c.power.ensures) ∙ is)) in (
          refl,
          copied_marked g.R.Rack.slot_count g.R.Rack.told c.args.self.now _
              (λ t x p tells here copies_synced h lo k. idle_unmarked _ _ (g.met.R.Rack.slots_hold (store_rack c.args.self.now.store)) _ (g.met.R.Rack.agrees (store_rack c.args.self.now.store) t tells) _ _ _ _ _ _ _ h lo _ (cleared_at _ _) idle k x p here copies_synced),
        );
    rebuilt = λ d units fresh.
        let idle : (g.R.Rack.slot (store_rack c.args.self.now.store) c.args.disk).power ≢ Spinning = (λ is. c.is_spinning.ensures.rests (c.if-not-is_spinning.true) (sym (sym c.power.ensures) ∙ is)) in (
          refl,
          units_idle g.R.Rack.slot_count g.R.Rack.told c.args.self.now _
              (λ t x p tells here copies_synced h lo k. idle_unmarked _ _ (g.met.R.Rack.slots_hold (store_rack c.args.self.now.store)) _ (g.met.R.Rack.agrees (store_rack c.args.self.now.store) t tells) _ _ _ _ _ _ _ h lo _ (cleared_at _ _) idle k x p here copies_synced),
        );
  };
  synced = search rules;
  cleared = cleared_at _ _;
  calls = calls_none _ (g.R.Rack.told (store_rack c.args.self.now.store));
}

pub sync_disk-requires : goal.sync_disk-requires
sync_disk-requires g c = record {
  ready = c.requires.ready;
  still = c.requires.still;
  disk = c.requires.disk;
  spins = sym c.power.ensures ∙ c.is_spinning.ensures.spins c.if-not-is_spinning.false;
}

pub power-requires : goal.power-requires
power-requires g c = let low = c.requires.disk in let enough = c.requires.ready.enough in omega (arith, low, enough)
