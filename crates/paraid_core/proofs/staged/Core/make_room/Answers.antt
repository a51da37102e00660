use Rattle.std.proofs.lemmas.Result.{IfErr-weaker, on_ok_weaker}
use Rattle.std.proofs.Common.{sym, subst, length, arith, ◌+◌, refl, ◌∙◌, ◌≡◌, Option, ℕ, ◌≤◌, inl}
use Rattle.std.specs.Prelude.{Bool, if◌then◌else◌}
use Rattle.paraid_image.specs.Out.{named_out, or_else}
use Rattle.paraid_rack.specs.Told.{Ran, CrashTriple}
use Rattle.paraid_txn.specs.Stores.{named_of, store_rack}
use Rattle.paraid_core.specs.Cores.{IsCoreHeld, CoreStandsFor}
use Rattle.paraid_core.proofs.ChainLemmas.{down_same, ended, first_false, keeps_still}
use Rattle.paraid_core.proofs.ReadsLemmas.{knows_named}
use Rattle.paraid_core.proofs.KindLemmas.{calls_none, gone_marked, first_true}
use Rattle.paraid_core.proofs.LostMarkLemmas.{marks_none}
use Rattle.std.proofs.lemmas.Bool.{false≢true}
use Rattle.paraid_core.proofs.OrderLemmas.{down_is_named}
use Rattle.paraid_image.specs.Lost.{TellsLosses}
use Rattle.paraid_core.proofs.AfterLemmas.{down_named}
use Rattle.paraid_base.specs.Log.{batch_room}
use Rattle.paraid_image.specs.Sides.{Batch}
use Rattle.paraid_core.specs.Room.{commits_first}
use Rattle.paraid_core.proofs.staged.Core.make_room.Goals as goal

pub returns-then-count-targets : goal.returns-then-count-targets
returns-then-count-targets g c = record {
  cells = record {
    draft = refl;
    table = refl;
    cleans_less = λ r d is. is;
    writes = refl;
  };
  commits = record {
    stays = record {
      copied = refl;
      losses = record {
        slots = refl;
        spared = record { power = λ d here. refl; size = λ d here. refl; no_fall = λ d. omega arith };
        two = tt;
        tells = tt;
        marks = marks_none c.args.self.now.meta c.args.self.now.meta _ _ c.args.self.now.meta.epoch c.args.self.now.meta.writes (λ d. refl) refl;
      };
      ready = c.requires.serving.ready;
      setup = refl;
      down = down_same _ _ _ _ refl;
    };
    serves = c.requires.serving.serves;
    epoch =
        let old = c.args.self.now in
        subst (λ (b : Bool). old.meta.epoch ≡ old.meta.epoch + (if b then 1 else 0)) (sym (first_false c.args.self.now.batch c.args.targets (let value = c.count.ensures.value in let low = c.if-count-targets.true in omega (arith, value, low)))) (omega arith);
    still_synced = λ d here wet. inl wet;
    unsynced = λ was. was;
    calls = calls_none _ (g.R.Rack.told (store_rack c.args.self.now.store));
    kept = λ is. calls_none _ (g.R.Rack.told (store_rack c.args.self.now.store));
    rest = λ is.
        let value = c.count.ensures.value in
        let low = c.if-count-targets.true in
        absurd (false≢true (sym (first_false c.args.self.now.batch c.args.targets (omega arith)) ∙ is));
    whole = λ is.
        let value = c.count.ensures.value in
        let low = c.if-count-targets.true in
        absurd (false≢true (sym (first_false c.args.self.now.batch c.args.targets (omega arith)) ∙ is));
    names =
        let old = c.args.self.now in
        let value = c.count.ensures.value in
        let low = c.if-count-targets.true in
        subst (λ (b : Bool). named_of old.store ≡ (if b then named_out old.meta.out else named_of old.store)) (sym (first_false old.batch c.args.targets (omega arith))) refl;
    moments = λ h lo.
        let old = c.args.self.now in
        ended (IsCoreHeld g.R.Rack.slot_count old h lo) (CoreStandsFor g.R.Rack.slot_count old h lo) (CoreStandsFor g.R.Rack.slot_count old h lo) _ _
        (keeps_still (g.R.Rack.slot_count (store_rack old.store)) (named_of old.store) old.meta old.dirty old.batch old.copied h lo (or_else (named_of old.store) (named_out old.meta.out)) (g.R.Rack.told (store_rack old.store)) (knows_named (named_of old.store) (named_out old.meta.out)));
  };
  few = let value = c.count.ensures.value in let few = c.count.ensures.few in omega (arith, value, few);
  room = let value = c.count.ensures.value in let low = c.if-count-targets.true in let few = c.requires.few in omega (arith, value, low, few);
  staged =
      let old = c.args.self.now in
      subst (λ (b : Bool). length old.batch ≤ (if b then 0 else length old.batch)) (sym (first_false c.args.self.now.batch c.args.targets (let value = c.count.ensures.value in let low = c.if-count-targets.true in omega (arith, value, low)))) (omega arith);
  nothing = λ is. (refl, refl);
  idle = λ is. refl;
  named = knows_named _ _;
  gone = λ d is. is;
  stands = λ h lo.
      let old = c.args.self.now in
      let value = c.count.ensures.value in
      let low = c.if-count-targets.true in
      let none = first_false old.batch c.args.targets (omega arith) in
      subst (λ (b : Bool). Ran (g.R.Rack.told (store_rack old.store)) (g.R.Rack.told (store_rack old.store)) (CrashTriple (IsCoreHeld g.R.Rack.slot_count old h lo) (CoreStandsFor g.R.Rack.slot_count old h lo) (CoreStandsFor g.R.Rack.slot_count old h (if b then length h else lo)))) (sym none)
      (keeps_still (g.R.Rack.slot_count (store_rack old.store)) (named_of old.store) old.meta old.dirty old.batch old.copied h lo (or_else (named_of old.store) (named_out old.meta.out)) (g.R.Rack.told (store_rack old.store)) (knows_named (named_of old.store) (named_out old.meta.out)));
}

pub returns : goal.returns
returns g c = record {
  cells = record {
    draft = c.commit.ensures.cells.draft;
    table = c.commit.ensures.cells.table;
    cleans_less = c.commit.ensures.cells.cleans_less;
    writes = c.commit.ensures.cells.writes;
  };
  commits = record {
    stays = record {
      copied = c.commit.ensures.stays.copied;
      losses = record {
        slots = c.commit.ensures.stays.losses.slots;
        spared = c.commit.ensures.stays.losses.spared;
        two = c.commit.ensures.stays.losses.two;
        tells =
            let old = c.args.self.now in
            IfErr-weaker c.commit.result _ _ (λ two down. subst (λ (o : Option ℕ). Ran (g.R.Rack.told (store_rack old.store)) (g.R.Rack.told (store_rack c.commit.new.self.store)) (λ s cs. TellsLosses o two cs)) (down_is_named (named_of old.store) (named_out old.meta.out) c.requires.serving.serves.stays) down) c.commit.ensures.stays.losses.tells;
        marks = c.commit.ensures.stays.losses.marks;
      };
      ready = c.commit.ensures.stays.ready;
      setup = c.commit.ensures.stays.setup;
      down = c.commit.ensures.stays.down;
    };
    serves = on_ok_weaker c.commit.result (λ was_so. was_so c.requires.serving.serves) c.commit.ensures.serves;
    epoch = on_ok_weaker c.commit.result (λ was_so. let old = c.args.self.now in
        subst (λ (b : Bool). c.commit.new.self.meta.epoch ≡ old.meta.epoch + (if b then 1 else 0)) (sym (first_true c.args.self.now.batch c.args.targets (let value = c.count.ensures.value in let high = c.if-count-targets.false in omega (arith, value, high)))) was_so) c.commit.ensures.meta.epoch;
    still_synced = c.commit.ensures.still_synced;
    unsynced = c.commit.ensures.unsynced;
    calls = c.commit.ensures.brings.calls;
    kept = λ is.
        let value = c.count.ensures.value in
        let high = c.if-count-targets.false in
        absurd (false≢true (sym is ∙ first_true c.args.self.now.batch c.args.targets (omega arith)));
    rest = on_ok_weaker c.commit.result (λ was_so is. was_so) c.commit.ensures.brings.rest;
    whole = λ is. c.commit.ensures.brings.whole;
    names = on_ok_weaker c.commit.result (λ was_so. let old = c.args.self.now in
        let value = c.count.ensures.value in
        let high = c.if-count-targets.false in
        subst (λ (b : Bool). named_of c.commit.new.self.store ≡ (if b then named_out old.meta.out else named_of old.store)) (sym (first_true old.batch c.args.targets (omega arith))) was_so) c.commit.ensures.meta.named;
    moments = c.commit.ensures.held.moments;
  };
  few = let value = c.count.ensures.value in let few = c.count.ensures.few in omega (arith, value, few);
  room = on_ok_weaker c.commit.result (λ was_so. subst (λ (b : Batch). length b + c.args.targets ≤ batch_room) (sym was_so) (let few = c.requires.few in omega (arith, few))) c.commit.ensures.nothing;
  staged = on_ok_weaker c.commit.result (λ was_so. let old = c.args.self.now in
      subst (λ (b : Batch). length b ≤ (if commits_first old.batch c.args.targets then 0 else length old.batch)) (sym was_so) (omega arith)) c.commit.ensures.nothing;
  nothing = on_ok_weaker c.commit.result (λ was_so zero. let few = c.count.ensures.few in let high = c.if-count-targets.false in absurd (omega (arith, few, high, zero))) c.commit.ensures.nothing;
  idle = λ is.
      let value = c.count.ensures.value in
      let high = c.if-count-targets.false in
      absurd (false≢true (sym is ∙ first_true c.args.self.now.batch c.args.targets (omega arith)));
  named = on_ok_weaker c.commit.result (λ named d is. down_named (named_of c.args.self.now.store) c.args.self.now.meta c.requires.serving.ready.one d (sym named ∙ is)) c.commit.ensures.meta.named;
  gone = on_ok_weaker c.commit.result (λ was_so. gone_marked (record c.args.self.now.meta { epoch = c.args.self.now.meta.epoch + 1 }) c.commit.new.self.meta was_so) c.commit.ensures.meta.meta;
  stands = on_ok_weaker c.commit.result (λ was_so. λ h lo.
      let old = c.args.self.now in
      let new = c.commit.new.self in
      subst (λ (b : Bool). Ran (g.R.Rack.told (store_rack old.store)) (g.R.Rack.told (store_rack new.store)) (CrashTriple (IsCoreHeld g.R.Rack.slot_count old h lo) (CoreStandsFor g.R.Rack.slot_count old h lo) (CoreStandsFor g.R.Rack.slot_count new h (if b then length h else lo))))
      (sym (first_true c.args.self.now.batch c.args.targets (let value = c.count.ensures.value in let high = c.if-count-targets.false in omega (arith, value, high)))) (was_so h lo)) c.commit.ensures.held.stands;
}
