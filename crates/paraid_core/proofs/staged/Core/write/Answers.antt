use Rattle.std.proofs.lemmas.List.Elements.{All-cons, All-nil}
use Rattle.paraid_base.specs.declared.block.Block.{Block}
use Rattle.std.proofs.lemmas.Result.{on_ok_weaker}
use Rattle.std.proofs.Common.{ℕ, ap, length, ◌+◌, ◌*◌, ◌≤◌, ◌≡◌, ◌∙◌, subst, sym, ◌<◌}
use Rattle.std.specs.Prelude.{◌∷◌, ◌++◌, [], if◌then◌else◌, true, false, All}
use Rattle.paraid_base.specs.History.{Entry}
use Rattle.paraid_dirty.specs.Table.{is_dirty}
use Rattle.paraid_image.specs.Out.{named_out}
use Rattle.paraid_plan.specs.WrittenBits.{bits_after_writes}
use Rattle.paraid_rack.specs.Told.{Ran, CrashTriple}
use Rattle.paraid_txn.specs.Stores.{named_of}
use Rattle.paraid_core.specs.Calls.{MakesDataCalls, CommitsWhole, RestsCommitted}
use Rattle.paraid_core.specs.Cores.{IsCoreHeld, CoreStandsFor, batch_of, core_rack, core_block_count}
use Rattle.paraid_core.specs.Room.{commits_first}
use Rattle.paraid_core.proofs.staged.Core.write.Goals as goal

pub returns : goal.returns
returns g c = record {
  draft = c.write_many.ensures.draft;
  commits = record {
    stays = record {
      copied = c.write_many.ensures.commits.stays.copied;
      losses = record {
        slots = c.write_many.ensures.commits.stays.losses.slots;
        spared = c.write_many.ensures.commits.stays.losses.spared;
        two = c.write_many.ensures.commits.stays.losses.two;
        tells = c.write_many.ensures.commits.stays.losses.tells;
        marks = c.write_many.ensures.commits.stays.losses.marks;
      };
      ready = c.write_many.ensures.commits.stays.ready;
      setup = c.write_many.ensures.commits.stays.setup;
      down = c.write_many.ensures.commits.stays.down;
    };
    serves = c.write_many.ensures.commits.serves;
    epoch = on_ok_weaker c.write_many.result (λ was_so. let old = c.args.self.now in
        was_so ∙ ap (λ (n : ℕ). old.meta.epoch + (if commits_first (batch_of old) n then 1 else 0)) (ap (λ (n : ℕ). 10 * n) c.one-pairs.ensures.count)) c.write_many.ensures.commits.epoch;
    still_synced = c.write_many.ensures.commits.still_synced;
    unsynced = c.write_many.ensures.commits.unsynced;
    calls = c.write_many.ensures.commits.calls;
    kept = subst (λ (n : ℕ). commits_first (batch_of c.args.self.now) n ≡ false → MakesDataCalls g.R.Rack.told c.args.self.now c.write_many.new.self) (ap (λ (n : ℕ). 10 * n) c.one-pairs.ensures.count) c.write_many.ensures.commits.kept;
    whole = subst (λ (n : ℕ). commits_first (batch_of c.args.self.now) n ≡ true → CommitsWhole g.R.Rack.slot_count g.R.Rack.told c.args.self.now c.write_many.new.self) (ap (λ (n : ℕ). 10 * n) c.one-pairs.ensures.count) c.write_many.ensures.commits.whole;
    rest = on_ok_weaker c.write_many.result (λ was_so. subst (λ (n : ℕ). commits_first (batch_of c.args.self.now) n ≡ true → RestsCommitted g.R.Rack.slot_count g.R.Rack.told c.args.self.now c.write_many.new.self) (ap (λ (n : ℕ). 10 * n) c.one-pairs.ensures.count) was_so) c.write_many.ensures.commits.rest;
    names = on_ok_weaker c.write_many.result (λ was_so. let old = c.args.self.now in
        was_so ∙ ap (λ (n : ℕ). if commits_first (batch_of old) n then named_out old.meta.out else named_of old.store) (ap (λ (n : ℕ). 10 * n) c.one-pairs.ensures.count)) c.write_many.ensures.commits.names;
    moments = c.write_many.ensures.commits.moments;
  };
  staged = on_ok_weaker c.write_many.result (λ was_so. let old = c.args.self.now in
      subst (λ (n : ℕ). length c.write_many.new.self.batch ≤ (if commits_first (batch_of old) n then 0 else length old.batch) + n) (ap (λ (n : ℕ). 10 * n) c.one-pairs.ensures.count) was_so) c.write_many.ensures.staged;
  bits = on_ok_weaker c.write_many.result (λ was_so. was_so ∙ ap (λ (e : Entry). bits_after_writes c.write_many.new.self.meta e (is_dirty c.args.self.now.dirty)) c.one-pairs.ensures.pairs) c.write_many.ensures.bits;
  writes = c.write_many.ensures.writes;
  stands = on_ok_weaker c.write_many.result (λ was_so. λ h lo.
      let old = c.args.self.now in
      let new = c.write_many.new.self in
      subst (λ (n : ℕ). Ran (g.R.Rack.told (core_rack old)) (g.R.Rack.told (core_rack new)) (CrashTriple (IsCoreHeld g.R.Rack.slot_count old h lo) (CoreStandsFor g.R.Rack.slot_count old h lo)
      (CoreStandsFor g.R.Rack.slot_count new (h ++ ((c.args.block, c.args.bytes.now) ∷ []) ∷ []) (if commits_first (batch_of old) n then length h else lo)))) (ap (λ (n : ℕ). 10 * n) c.one-pairs.ensures.count)
      (subst (λ (e : Entry). Ran (g.R.Rack.told (core_rack old)) (g.R.Rack.told (core_rack new)) (CrashTriple (IsCoreHeld g.R.Rack.slot_count old h lo) (CoreStandsFor g.R.Rack.slot_count old h lo)
      (CoreStandsFor g.R.Rack.slot_count new (h ++ e ∷ []) (if commits_first (batch_of old) (10 * c.one-pairs.result.count) then length h else lo)))) c.one-pairs.ensures.pairs
      (was_so h lo))) c.write_many.ensures.stands;
}

pub write_many-requires : goal.write_many-requires
write_many-requires g c = record {
  serving = record {
    ready = c.requires.serving.ready;
    serves = c.requires.serving.serves;
  };
  blocks = subst (λ (e : Entry). All (λ (pair : ℕ × Block). pair.0 < core_block_count c.args.self.now) e) (sym c.one-pairs.ensures.pairs) (All-cons (λ (pair : ℕ × Block). pair.0 < core_block_count c.args.self.now) (c.args.block, c.args.bytes.now) [] c.requires.block (All-nil (λ (pair : ℕ × Block). pair.0 < core_block_count c.args.self.now)));
  committable = record {
    epoch = c.requires.committable.epoch;
    copies_synced = c.requires.committable.copies_synced;
  };
  fits = c.requires.fits;
}
