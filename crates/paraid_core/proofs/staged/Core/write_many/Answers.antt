use Rattle.std.proofs.Common.{ℕ, ap, length, ◌+◌, ◌≡◌, ◌∙◌, sym, arith, subst, ◌-◌, ◌<◌, ◌^◌}
use Rattle.std.specs.Prelude.{Bool, true, List, ◌*◌, ◌∷◌, ◌++◌, [], if◌then◌else◌, All}
use Rattle.paraid_base.specs.Pairs.{pairs_of}
use Rattle.paraid_dirty.specs.Table.{is_dirty}
use Rattle.paraid_plan.specs.WrittenBits.{bits_after_writes}
use Rattle.paraid_record.specs.declared.meta.Setup.{Setup}
use Rattle.paraid_txn.specs.Stores.{named_of, store_rack}
use Rattle.paraid_core.specs.Cores.{IsCoreHeld, IsCoreHeldSinceCommit, CoreStandsFor, batch_of, core_down, core_rack}
use Rattle.paraid_core.specs.Room.{commits_first}
use Rattle.paraid_core.proofs.ChainLemmas.{after_raised, down_both, ended, two_after}
use Rattle.paraid_core.proofs.KindLemmas.{calls_then, transfer_after, data_after, idle_calls, idle_then}
use Rattle.paraid_core.proofs.LostMarkLemmas.{marks_then}
use Rattle.paraid_core.proofs.OldNewLemmas.{whole_then_reads}
use Rattle.paraid_core.proofs.AfterLemmas.{handed}
use Rattle.paraid_txn.specs.Losses.{AreTwoDown}
use Rattle.paraid_core.proofs.RestLemmas.{rest_ran}
use Rattle.paraid_image.specs.Out.{named_out}
use Rattle.paraid_core.proofs.OrderLemmas.{core_tells_then, transfer_bears}
use Rattle.paraid_rack.specs.Told.{Ran, CrashTriple}
use Rattle.paraid_image.specs.Lost.{TellsLosses}
use Rattle.paraid_base.specs.declared.block.Block.{Block as BlockType}
use Rattle.paraid_view.proofs.TwoLemmas.{spared_then}
use Rattle.paraid_core.proofs.StepLemmas.{dry_both}
use Rattle.paraid_core.proofs.ErrLemmas.{none_done}
use Rattle.paraid_base.specs.History.{History}
use Rattle.paraid_core.specs.Calls.{CommitsWhole}
use Rattle.paraid_core.proofs.staged.Core.write_many.Given.{Over}
use Rattle.paraid_core.proofs.staged.Core.write_many.Goals as goal
use Rattle.paraid_core.proofs.staged.Core.write_many.Goals.{In_ok-write_whole}

pub returns-in_err-make_room : goal.returns-in_err-make_room
returns-in_err-make_room g c = record {
  draft = none_done _ c.from_residual.result _ c.from_residual.ensures.1;
  commits = record {
    stays = record {
      copied = c.make_room.ensures.commits.stays.copied;
      losses = record {
        slots = c.make_room.ensures.commits.stays.losses.slots;
        spared = c.make_room.ensures.commits.stays.losses.spared;
        two = handed (AreTwoDown (core_down c.args.self.now) (g.R.Rack.slot (core_rack c.args.self.now)) (g.R.Rack.slot (core_rack c.make_room.new.self))) c.from_residual.result _ c.from_residual.ensures.1 c.in_err-make_room.ensures.commits.stays.losses.two;
        tells = handed (λ two. Ran (g.R.Rack.told (store_rack c.args.self.now.store)) (g.R.Rack.told (store_rack c.make_room.new.self.store)) (λ s cs. TellsLosses (named_out c.args.self.now.meta.out) two cs)) c.from_residual.result _ c.from_residual.ensures.1 c.in_err-make_room.ensures.commits.stays.losses.tells;
        marks = none_done _ c.from_residual.result _ c.from_residual.ensures.1;
      };
      ready = none_done _ c.from_residual.result _ c.from_residual.ensures.1;
      setup = none_done _ c.from_residual.result _ c.from_residual.ensures.1;
      down = none_done _ c.from_residual.result _ c.from_residual.ensures.1;
    };
    serves = none_done _ c.from_residual.result _ c.from_residual.ensures.1;
    epoch = none_done _ c.from_residual.result _ c.from_residual.ensures.1;
    still_synced = none_done _ c.from_residual.result _ c.from_residual.ensures.1;
    unsynced = none_done _ c.from_residual.result _ c.from_residual.ensures.1;
    calls = c.make_room.ensures.commits.calls;
    kept = λ is. idle_calls _ _ _ (c.make_room.ensures.idle is);
    whole = λ is. c.make_room.ensures.commits.whole is;
    rest = none_done _ c.from_residual.result _ c.from_residual.ensures.1;
    names = none_done _ c.from_residual.result _ c.from_residual.ensures.1;
    moments = c.make_room.ensures.commits.moments;
  };
  staged = none_done _ c.from_residual.result _ c.from_residual.ensures.1;
  bits = none_done _ c.from_residual.result _ c.from_residual.ensures.1;
  writes = none_done _ c.from_residual.result _ c.from_residual.ensures.1;
  stands = none_done _ c.from_residual.result _ c.from_residual.ensures.1;
}

pub returns-in_err-write_whole : goal.returns-in_err-write_whole
returns-in_err-write_whole g c = record {
  draft = none_done _ c.from_residual-in_err-write_whole.result _ c.from_residual-in_err-write_whole.ensures.1;
  commits = record {
    stays = record {
      copied = c.write_whole.ensures.reads.stays.copied ∙ c.make_room.ensures.commits.stays.copied;
      losses = record {
        slots = c.write_whole.ensures.reads.stays.losses.slots ∙ c.make_room.ensures.commits.stays.losses.slots;
        spared = spared_then _ _ _ c.make_room.ensures.commits.stays.losses.spared c.write_whole.ensures.reads.stays.losses.spared;
        two =
            let old = c.args.self.now in
            handed (AreTwoDown (core_down old) (g.R.Rack.slot (core_rack old)) (g.R.Rack.slot (core_rack c.write_whole.new.self))) c.from_residual-in_err-write_whole.result _ c.from_residual-in_err-write_whole.ensures.1
            (two_after (core_down old) (core_down c.make_room.new.self) _ _ _ _ c.in_ok-make_room.ensures.commits.stays.down c.in_ok-make_room.ensures.commits.stays.losses.spared c.in_err-write_whole.ensures.reads.stays.losses.spared c.in_err-write_whole.ensures.reads.stays.losses.two);
        tells =
            let old = c.args.self.now in
            let mid = c.make_room.new.self in
            let marks = c.in_ok-make_room.ensures.commits.stays.losses.marks in
            handed (λ two. Ran (g.R.Rack.told (store_rack c.args.self.now.store)) (g.R.Rack.told (store_rack c.write_whole.new.self.store)) (λ s cs. TellsLosses (named_out c.args.self.now.meta.out) two cs)) c.from_residual-in_err-write_whole.result _ c.from_residual-in_err-write_whole.ensures.1
            (core_tells_then g.R.Rack.slot g.R.Rack.told g.met.R.Rack.agrees old mid c.requires.serving.ready.absent marks c.write_whole.new.self _
            (transfer_bears g.R.Rack.slot g.R.Rack.told g.met.R.Rack.agrees old mid c.requires.serving.ready.absent marks c.make_room.ensures.commits.calls) c.in_err-write_whole.ensures.reads.stays.losses.tells);
        marks = none_done _ c.from_residual-in_err-write_whole.result _ c.from_residual-in_err-write_whole.ensures.1;
      };
      ready = none_done _ c.from_residual-in_err-write_whole.result _ c.from_residual-in_err-write_whole.ensures.1;
      setup = none_done _ c.from_residual-in_err-write_whole.result _ c.from_residual-in_err-write_whole.ensures.1;
      down = none_done _ c.from_residual-in_err-write_whole.result _ c.from_residual-in_err-write_whole.ensures.1;
    };
    serves = none_done _ c.from_residual-in_err-write_whole.result _ c.from_residual-in_err-write_whole.ensures.1;
    epoch = none_done _ c.from_residual-in_err-write_whole.result _ c.from_residual-in_err-write_whole.ensures.1;
    still_synced = none_done _ c.from_residual-in_err-write_whole.result _ c.from_residual-in_err-write_whole.ensures.1;
    unsynced = none_done _ c.from_residual-in_err-write_whole.result _ c.from_residual-in_err-write_whole.ensures.1;
    calls =
        calls_then _ _ _ _ c.make_room.ensures.commits.calls
        (transfer_after c.args.self.now.meta c.make_room.new.self.meta c.in_ok-make_room.ensures.commits.stays.setup c.in_ok-make_room.ensures.gone _ _ c.write_whole.ensures.reads.calls);
    kept = λ is.
        idle_then _ _ (g.R.Rack.told (core_rack c.make_room.new.self)) _ (c.make_room.ensures.idle is)
        (data_after c.args.self.now.meta c.make_room.new.self.meta c.in_ok-make_room.ensures.commits.stays.setup c.in_ok-make_room.ensures.gone _ _ c.write_whole.ensures.reads.calls);
    whole = λ is h lo.
        let old = c.args.self.now in
        whole_then_reads (CoreStandsFor g.R.Rack.slot_count old h lo) (λ s k. k.base) (record old.meta { epoch = old.meta.epoch + 1 }) old.batch c.make_room.new.self.meta.setup.geometry.disks (λ s k. k.next.setup)
        (ap (λ (z : Setup). z.geometry.disks) c.in_ok-make_room.ensures.commits.stays.setup) _ _ _ (c.make_room.ensures.commits.whole is h lo) c.write_whole.ensures.reads.reads;
    rest = none_done _ c.from_residual-in_err-write_whole.result _ c.from_residual-in_err-write_whole.ensures.1;
    names = none_done _ c.from_residual-in_err-write_whole.result _ c.from_residual-in_err-write_whole.ensures.1;
    moments = λ h lo.
        let old = c.args.self.now in
        let mid = c.make_room.new.self in
        let first : Bool = commits_first (batch_of old) (10 * c.args.pairs.now.count) in
        let low : ℕ = if first then length h else lo in
        ended _ _ (IsCoreHeldSinceCommit g.R.Rack.slot_count mid h low) _ _
        (after_raised (g.R.Rack.slot_count (core_rack old)) _ old.meta.setup.geometry.disks _ (core_down old) (named_of mid.store) (named_of old.store) old.meta old.dirty old.batch old.copied first h lo _
        (IsCoreHeldSinceCommit g.R.Rack.slot_count mid h low) _ _ _
        c.in_ok-make_room.ensures.commits.stays.losses.slots (ap (λ (z : Setup). z.geometry.disks) c.in_ok-make_room.ensures.commits.stays.setup) c.in_ok-make_room.ensures.named
        (c.in_ok-make_room.ensures.stands h lo) (c.in_err-write_whole.ensures.reads.moments_since h low));
  };
  staged = none_done _ c.from_residual-in_err-write_whole.result _ c.from_residual-in_err-write_whole.ensures.1;
  bits = none_done _ c.from_residual-in_err-write_whole.result _ c.from_residual-in_err-write_whole.ensures.1;
  writes = none_done _ c.from_residual-in_err-write_whole.result _ c.from_residual-in_err-write_whole.ensures.1;
  stands = none_done _ c.from_residual-in_err-write_whole.result _ c.from_residual-in_err-write_whole.ensures.1;
}

module _ (g : Over) (c : In_ok-write_whole g) where
  names_then : named_of c.write_whole.new.self.store ≡ (if commits_first (batch_of c.args.self.now) (10 * c.args.pairs.now.count) then named_out c.args.self.now.meta.out else named_of c.args.self.now.store)
  names_then = c.in_ok-write_whole.ensures.reads.named ∙ c.in_ok-make_room.ensures.commits.names

  whole_then : commits_first (batch_of c.args.self.now) (10 * c.args.pairs.now.count) ≡ true → CommitsWhole g.R.Rack.slot_count g.R.Rack.told c.args.self.now c.write_whole.new.self
  whole_then is h lo =
      let old = c.args.self.now in
      whole_then_reads (CoreStandsFor g.R.Rack.slot_count old h lo) (λ s k. k.base) (record old.meta { epoch = old.meta.epoch + 1 }) old.batch c.make_room.new.self.meta.setup.geometry.disks (λ s k. k.next.setup)
      (ap (λ (z : Setup). z.geometry.disks) c.in_ok-make_room.ensures.commits.stays.setup) _ _ _ (c.make_room.ensures.commits.whole is h lo) c.write_whole.ensures.reads.reads

  stands_then : (h : History) (lo : ℕ) → Ran (g.R.Rack.told (core_rack c.args.self.now)) (g.R.Rack.told (core_rack c.write_whole.new.self)) (CrashTriple (IsCoreHeld g.R.Rack.slot_count c.args.self.now h lo) (CoreStandsFor g.R.Rack.slot_count c.args.self.now h lo)
      (CoreStandsFor g.R.Rack.slot_count c.write_whole.new.self (h ++ pairs_of c.args.pairs.now ∷ []) (if commits_first (batch_of c.args.self.now) (10 * c.args.pairs.now.count) then length h else lo)))
  stands_then h lo =
      let old = c.args.self.now in
      let mid = c.make_room.new.self in
      let new = c.write_whole.new.self in
      let first : Bool = commits_first (batch_of old) (10 * c.args.pairs.now.count) in
      let low : ℕ = if first then length h else lo in
      after_raised (g.R.Rack.slot_count (core_rack old)) _ old.meta.setup.geometry.disks _ (core_down old) (named_of mid.store) (named_of old.store) old.meta old.dirty old.batch old.copied first h lo _
      (CoreStandsFor g.R.Rack.slot_count new (h ++ pairs_of c.args.pairs.now ∷ []) low) _ _ _
      c.in_ok-make_room.ensures.commits.stays.losses.slots (ap (λ (z : Setup). z.geometry.disks) c.in_ok-make_room.ensures.commits.stays.setup) c.in_ok-make_room.ensures.named
      (c.in_ok-make_room.ensures.stands h lo) (c.in_ok-write_whole.ensures.stands h low)

pub returns : goal.returns
returns g c = record {
  draft = c.write_whole.ensures.draft;
  commits = record {
    stays = record {
      copied = c.write_whole.ensures.reads.stays.copied ∙ c.make_room.ensures.commits.stays.copied;
      losses = record {
        slots = c.write_whole.ensures.reads.stays.losses.slots ∙ c.make_room.ensures.commits.stays.losses.slots;
        spared = spared_then _ _ _ c.make_room.ensures.commits.stays.losses.spared c.write_whole.ensures.reads.stays.losses.spared;
        two = tt;
        tells = tt;
        marks = marks_then _ _ _ _ _ _ c.in_ok-make_room.ensures.commits.stays.losses.marks c.in_ok-write_whole.ensures.reads.stays.losses.marks c.make_room.ensures.commits.stays.losses.spared c.write_whole.ensures.reads.stays.losses.spared;
      };
      ready = c.in_ok-write_whole.ensures.reads.stays.ready;
      setup = c.in_ok-write_whole.ensures.reads.stays.setup ∙ c.in_ok-make_room.ensures.commits.stays.setup;
      down = down_both _ _ _ _ _ _ c.in_ok-make_room.ensures.commits.stays.down c.make_room.ensures.commits.stays.losses.spared c.in_ok-write_whole.ensures.reads.stays.down c.write_whole.ensures.reads.stays.losses.spared;
    };
    serves = c.in_ok-write_whole.ensures.reads.serves;
    epoch = c.in_ok-write_whole.ensures.reads.epoch ∙ c.in_ok-make_room.ensures.commits.epoch;
    still_synced = dry_both (g.R.Rack.slot (core_rack c.args.self.now)) (g.R.Rack.slot (core_rack c.make_room.new.self)) (g.R.Rack.slot (core_rack c.write_whole.new.self)) c.in_ok-make_room.ensures.commits.still_synced c.write_whole.ensures.reads.still_synced c.write_whole.ensures.reads.stays.losses.spared;
    unsynced = λ was. c.in_ok-write_whole.ensures.unsynced (c.in_ok-make_room.ensures.commits.unsynced was);
    calls =
        calls_then _ _ _ _ c.make_room.ensures.commits.calls
        (transfer_after c.args.self.now.meta c.make_room.new.self.meta c.in_ok-make_room.ensures.commits.stays.setup c.in_ok-make_room.ensures.gone _ _ c.write_whole.ensures.reads.calls);
    kept = λ is.
        idle_then _ _ (g.R.Rack.told (core_rack c.make_room.new.self)) _ (c.make_room.ensures.idle is)
        (data_after c.args.self.now.meta c.make_room.new.self.meta c.in_ok-make_room.ensures.commits.stays.setup c.in_ok-make_room.ensures.gone _ _ c.write_whole.ensures.reads.calls);
    whole = whole_then g c;
    rest = λ is h lo.
        let old = c.args.self.now in
        let new = c.write_whole.new.self in
        let first = c.in_ok-make_room.ensures in
        let then_it = c.in_ok-write_whole.ensures in
        let names : named_of new.store ≡ named_out old.meta.out = names_then g c ∙ ap (λ (b : Bool). if b then named_out old.meta.out else named_of old.store) is in
        let epoch : new.meta.epoch ≡ old.meta.epoch + 1 = then_it.reads.epoch ∙ first.commits.epoch ∙ ap (λ (b : Bool). old.meta.epoch + (if b then 1 else 0)) is in
        rest_ran (CoreStandsFor g.R.Rack.slot_count old h lo) (λ s k. k.base) (record old.meta { epoch = old.meta.epoch + 1 }) old.batch _ _ (named_of new.store) new.meta _ _ new.copied old.copied _ _ (g.R.Rack.slot (core_rack new)) _ _ (g.met.R.Rack.agrees (core_rack new))
        then_it.reads.stays.ready.absent then_it.reads.stays.ready.one names (λ s k d is_out. c.requires.serving.serves.stays d (sym k.named_by ∙ is_out)) (λ s k. k.next.setup) (then_it.reads.stays.setup ∙ first.commits.stays.setup) (λ s k. let was = k.epoch in omega (arith, was, epoch))
        (then_it.reads.stays.copied ∙ first.commits.stays.copied) c.requires.committable.copies_synced (whole_then g c is h lo) (stands_then g c h lo);
    names = names_then g c;
    moments = λ h lo.
        let old = c.args.self.now in
        let mid = c.make_room.new.self in
        let first : Bool = commits_first (batch_of old) (10 * c.args.pairs.now.count) in
        let low : ℕ = if first then length h else lo in
        ended _ _ (IsCoreHeldSinceCommit g.R.Rack.slot_count mid h low) _ _
        (after_raised (g.R.Rack.slot_count (core_rack old)) _ old.meta.setup.geometry.disks _ (core_down old) (named_of mid.store) (named_of old.store) old.meta old.dirty old.batch old.copied first h lo _
        (IsCoreHeldSinceCommit g.R.Rack.slot_count mid h low) _ _ _
        c.in_ok-make_room.ensures.commits.stays.losses.slots (ap (λ (z : Setup). z.geometry.disks) c.in_ok-make_room.ensures.commits.stays.setup) c.in_ok-make_room.ensures.named
        (c.in_ok-make_room.ensures.stands h lo) (c.in_ok-write_whole.ensures.reads.moments_since h low));
  };
  staged = let first = c.in_ok-make_room.ensures.staged in let second = c.in_ok-write_whole.ensures.staged in omega (arith, first, second);
  bits =
      c.in_ok-write_whole.ensures.bits ∙ ap (λ (z : List (List Bool)). bits_after_writes c.write_whole.new.self.meta (pairs_of c.args.pairs.now) (is_dirty z)) c.in_ok-make_room.ensures.cells.table;
  writes = c.in_ok-write_whole.ensures.writes ∙ ap (λ (n : ℕ). n + 1) c.in_ok-make_room.ensures.cells.writes;
  stands = stands_then g c;
}

pub write_whole-requires : goal.write_whole-requires
write_whole-requires g c = record {
  serving = record {
    ready = c.in_ok-make_room.ensures.commits.stays.ready;
    serves = c.in_ok-make_room.ensures.commits.serves;
  };
  blocks = subst (λ (z : Setup). All (λ (pair : ℕ × BlockType). pair.0 < z.geometry.rows * (z.geometry.disks - 1)) (pairs_of c.args.pairs.now)) (sym c.in_ok-make_room.ensures.commits.stays.setup) c.requires.blocks;
  room = c.in_ok-make_room.ensures.room;
  fits = subst (λ (n : ℕ). n + 1 < 2 ^ 64) (sym c.in_ok-make_room.ensures.cells.writes) c.requires.fits;
}

pub make_room-requires : goal.make_room-requires
make_room-requires g c = record {
  few = let few = c.args.pairs.now.few in omega (arith, few);
  serving = record {
    ready = c.requires.serving.ready;
    serves = c.requires.serving.serves;
  };
  committable = record {
    epoch = c.requires.committable.epoch;
    copies_synced = c.requires.committable.copies_synced;
  };
}
