use Rattle.std.proofs.Common.{◌≡◌, ℕ, ◌<◌, ◌*◌, ◌-◌, ◌∙◌, sym, ap, subst, length, arith, ◌+◌, Option}
use Rattle.std.specs.Prelude.{◌≤◌, Bool, IsSome, if◌then◌else◌, true, false}
use Rattle.paraid_base.specs.declared.block.Block.{Block}
use Rattle.paraid_base.specs.Cells.{home_row}
use Rattle.paraid_base.specs.History.{History, after_all}
use Rattle.paraid_base.specs.Log.{batch_room}
use Rattle.paraid_image.specs.Sides.{Batch}
use Rattle.paraid_image.specs.Out.{named_out, or_else}
use Rattle.paraid_rack.specs.Told.{Ran, CrashTriple, Through}
use Rattle.paraid_record.specs.declared.meta.Meta.{Meta}
use Rattle.paraid_record.specs.declared.meta.Setup.{Setup}
use Rattle.paraid_txn.specs.declared.store.Store.{Store}
use Rattle.paraid_txn.specs.Losses.{StaySynced, OnlyLosesSlots, AreTwoDown}
use Rattle.paraid_txn.specs.Stores.{named_of, store_rack}
use Rattle.paraid_view.proofs.TwoLemmas.{spared_then}
use Rattle.paraid_core.specs.Cleaning.{cleaning, read_commits_first, is_cleaned}
use Rattle.paraid_core.specs.Cores.{IsCoreHeld, IsCoreHeldSinceCommit, CoreStandsFor, batch_of, core_down, meta_of, core_rack, core_table}
use Rattle.paraid_core.specs.Down.{IsDownAfter}
use Rattle.paraid_core.specs.Room.{commits_first}
use Rattle.paraid_core.proofs.AfterLemmas.{handed}
use Rattle.paraid_core.proofs.BitsLemmas.{cell_of}
use Rattle.paraid_core.proofs.ChainLemmas.{after_raised, down_both, ended, two_after}
use Rattle.paraid_core.proofs.CleanLemmas.{after_clean, after_first, cell_read, no_room, room_none, first_by}
use Rattle.paraid_core.proofs.StepLemmas.{dry_both}
use Rattle.paraid_core.proofs.KindLemmas.{calls_then, transfer_after, data_after, idle_calls, idle_then}
use Rattle.paraid_txn.specs.Commit.{gone_out, IsOldOrNew}
use Rattle.paraid_txn.specs.Uses.{EachCall}
use Rattle.paraid_core.specs.Calls.{CommitsWhole, IsTransferCall, IsDataCall}
use Rattle.paraid_core.proofs.LostMarkLemmas.{marks_then}
use Rattle.paraid_core.proofs.OldNewLemmas.{whole_then_reads}
use Rattle.paraid_rack.specs.Trail.{Trail}
use Rattle.paraid_core.specs.Lost.{MarksLost}
use Rattle.paraid_core.proofs.RestLemmas.{rest_ran}
use Rattle.paraid_core.proofs.OrderLemmas.{core_tells_then, transfer_bears}
use Rattle.paraid_image.specs.Lost.{TellsLosses}
use Rattle.paraid_core.proofs.staged.Core.read.Given.{Over}
use Rattle.paraid_core.proofs.UnsyncedLemmas.{gone_lost, unsynced_kept, unsynced_same}
use Rattle.paraid_core.proofs.staged.Core.read.Goals as goal
use Rattle.paraid_core.proofs.ErrLemmas.{none_done}
use Rattle.std.proofs.lemmas.Bool.{false≢true}
use Rattle.paraid_core.proofs.staged.Core.read.Goals.{After-clean_in_room}

-- what is staged then: what was, or nothing after a commit, and what the cell takes
staged_by : (a b : Bool) (was mid read now room : ℕ) → a ≡ b → mid ≤ (if a then 0 else was) → read ≡ mid → now ≤ read + room → room ≤ 3 → now ≤ (if b then 0 else was) + 3
staged_by true true was mid read now room is first same taken few = omega (arith, first, same, taken, few)
staged_by false false was mid read now room is first same taken few = omega (arith, first, same, taken, few)
staged_by true false was mid read now room is first same taken few = absurd (false≢true (sym is))
staged_by false true was mid read now room is first same taken few = absurd (false≢true is)

module _ (g : Over) (c : After-clean_in_room g) where
  rack_is : core_rack c.clean_in_room.new.self ≡ core_rack c.read_only.new.self
  rack_is = ap (λ (z : Store g.row.R.Denot g.R.Rack). store_rack z) c.clean_in_room.ensures.stages.store

  setup_is : c.read_only.new.self.meta.setup ≡ c.args.self.now.meta.setup
  setup_is = c.in_ok-read_only.ensures.reads.alone.stays.setup ∙ c.in_ok-make_room.ensures.commits.stays.setup

  disks_are : c.args.self.now.meta.setup.geometry.disks ≡ c.read_only.new.self.meta.setup.geometry.disks
  disks_are = ap (λ (z : Setup). z.geometry.disks) (sym setup_is)

  block_in : c.args.block < c.read_only.new.self.meta.setup.geometry.rows * (c.read_only.new.self.meta.setup.geometry.disks - 1)
  block_in = subst (λ (z : Setup). c.args.block < z.geometry.rows * (z.geometry.disks - 1)) (sym setup_is) c.requires.block

  first_is : commits_first (batch_of c.args.self.now) c.cleaning-room.result ≡ read_commits_first (meta_of c.args.self.now) (core_table c.args.self.now) (batch_of c.args.self.now) c.args.block
  first_is =
      let old = c.args.self.now in
      ap (λ (z : ℕ). commits_first (batch_of old) z)
      (c.cleaning-room.ensures.value ∙ ap (λ (z : ℕ). cleaning old.meta old.dirty z c.home-r.result.1) c.home-r.ensures.row
      ∙ ap (λ (z : ℕ). cleaning old.meta old.dirty (home_row old.meta.setup.geometry.disks c.args.block) z) c.home-r.ensures.disk)

  names_then : named_of c.clean_in_room.new.self.store ≡ (if read_commits_first (meta_of c.args.self.now) (core_table c.args.self.now) (batch_of c.args.self.now) c.args.block then named_out c.args.self.now.meta.out else named_of c.args.self.now.store)
  names_then =
      let old = c.args.self.now in
      let new = c.clean_in_room.new.self in
      ap (λ (z : Store g.row.R.Denot g.R.Rack). named_of z) c.clean_in_room.ensures.stages.store ∙ c.in_ok-read_only.ensures.reads.alone.named ∙ c.in_ok-make_room.ensures.commits.names
      ∙ ap (λ (b : Bool). if b then named_out old.meta.out else named_of old.store) (first_by old.meta old.dirty old.batch c.args.block c.home-r.result.0 c.home-r.result.1 c.cleaning-room.result c.cleaning-room.ensures.value c.home-r.ensures.row c.home-r.ensures.disk)

  whole_then : read_commits_first (meta_of c.args.self.now) (core_table c.args.self.now) (batch_of c.args.self.now) c.args.block ≡ true → CommitsWhole g.R.Rack.slot_count g.R.Rack.told c.args.self.now c.clean_in_room.new.self
  whole_then is h lo =
      let old = c.args.self.now in
      subst (λ (z : g.row.R.Denot). Ran (g.R.Rack.told (core_rack old)) (g.R.Rack.told z) (λ start calls. (k : CoreStandsFor g.R.Rack.slot_count old h lo start) → Through (IsOldOrNew start k.base (record old.meta { epoch = old.meta.epoch + 1 }) old.batch) start calls)) (sym rack_is)
      (whole_then_reads (CoreStandsFor g.R.Rack.slot_count old h lo) (λ s k. k.base) (record old.meta { epoch = old.meta.epoch + 1 }) old.batch c.make_room.new.self.meta.setup.geometry.disks (λ s k. k.next.setup)
      (ap (λ (z : Setup). z.geometry.disks) c.in_ok-make_room.ensures.commits.stays.setup) _ _ _ (c.make_room.ensures.commits.whole (first_by c.args.self.now.meta c.args.self.now.dirty c.args.self.now.batch c.args.block c.home-r.result.0 c.home-r.result.1 c.cleaning-room.result c.cleaning-room.ensures.value c.home-r.ensures.row c.home-r.ensures.disk ∙ is) h lo) c.read_only.ensures.reads.alone.reads)

  stands_then : (h : History) (lo : ℕ) → Ran (g.R.Rack.told (core_rack c.args.self.now)) (g.R.Rack.told (core_rack c.clean_in_room.new.self)) (CrashTriple (IsCoreHeld g.R.Rack.slot_count c.args.self.now h lo) (CoreStandsFor g.R.Rack.slot_count c.args.self.now h lo)
      (CoreStandsFor g.R.Rack.slot_count c.clean_in_room.new.self h (if read_commits_first (meta_of c.args.self.now) (core_table c.args.self.now) (batch_of c.args.self.now) c.args.block then length h else lo)))
  stands_then h lo =
      let old = c.args.self.now in
      let mid = c.make_room.new.self in
      let late = c.read_only.new.self in
      let new = c.clean_in_room.new.self in
      let first : Bool = commits_first (batch_of old) c.cleaning-room.result in
      let low : ℕ = if first then length h else lo in
      subst (λ (z : g.row.R.Denot). Ran (g.R.Rack.told (core_rack old)) (g.R.Rack.told z) (CrashTriple (IsCoreHeld g.R.Rack.slot_count old h lo) (CoreStandsFor g.R.Rack.slot_count old h lo)
      (CoreStandsFor g.R.Rack.slot_count new h (if read_commits_first (meta_of old) (core_table old) (batch_of old) c.args.block then length h else lo)))) (sym rack_is)
      (subst (λ (b : Bool). Ran (g.R.Rack.told (core_rack old)) (g.R.Rack.told (core_rack late)) (CrashTriple (IsCoreHeld g.R.Rack.slot_count old h lo) (CoreStandsFor g.R.Rack.slot_count old h lo)
      (CoreStandsFor g.R.Rack.slot_count new h (if b then length h else lo)))) first_is
      (after_raised (g.R.Rack.slot_count (core_rack old)) _ old.meta.setup.geometry.disks _ (core_down old) (named_of mid.store) (named_of old.store) old.meta old.dirty old.batch old.copied first h lo (CoreStandsFor g.R.Rack.slot_count mid h low)
      (CoreStandsFor g.R.Rack.slot_count new h low) _ _ _
      c.in_ok-make_room.ensures.commits.stays.losses.slots (ap (λ (z : Setup). z.geometry.disks) c.in_ok-make_room.ensures.commits.stays.setup) c.in_ok-make_room.ensures.named
      (c.in_ok-make_room.ensures.stands h lo)
      (after_clean (IsCoreHeldSinceCommit g.R.Rack.slot_count mid h low) (CoreStandsFor g.R.Rack.slot_count new h low) (CoreStandsFor g.R.Rack.slot_count mid h low) (CoreStandsFor g.R.Rack.slot_count late h low) (◌≡◌ {A = Block} c.read_only.new.into (after_all h c.args.block)) _ _
      (c.in_ok-read_only.ensures.reads.since h low) (λ t tells a some. c.in_ok-read_only.ensures.value h low t tells a some)
      (λ t tells v b. c.clean_in_room.ensures.stands h low t tells
      (cell_read (g.R.Rack.slot_count (core_rack late)) (named_of late.store) late.meta late.dirty late.batch late.copied h low _ c.args.block c.home-r.result.0 c.home-r.result.1 old.meta.setup.geometry.disks c.read_only.new.into b
      block_in disks_are c.home-r.ensures.row c.home-r.ensures.disk v) b))))

pub returns-in_err-make_room : goal.returns-in_err-make_room
returns-in_err-make_room g c = record {
  draft = c.make_room.ensures.cells.draft ∙ c.requires.no_draft;
  commits = record {
    stays = record {
      copied = c.make_room.ensures.commits.stays.copied;
      losses = record {
        slots = c.make_room.ensures.commits.stays.losses.slots;
        spared = c.make_room.ensures.commits.stays.losses.spared;
        two = handed _ c.from_residual.result _ c.from_residual.ensures.1 c.in_err-make_room.ensures.commits.stays.losses.two;
        tells = handed _ c.from_residual.result _ c.from_residual.ensures.1 c.in_err-make_room.ensures.commits.stays.losses.tells;
        marks = none_done _ c.from_residual.result _ c.from_residual.ensures.1;
      };
      ready = none_done _ c.from_residual.result _ c.from_residual.ensures.1;
      setup = none_done _ c.from_residual.result _ c.from_residual.ensures.1;
      down = none_done _ c.from_residual.result _ c.from_residual.ensures.1;
    };
    serves = none_done _ c.from_residual.result _ c.from_residual.ensures.1;
    epoch = none_done _ c.from_residual.result _ c.from_residual.ensures.1;
    still_synced = none_done _ c.from_residual.result _ c.from_residual.ensures.1;
    unsynced = none_done _ c.from_residual.result _ c.from_residual.ensures.1;
    calls = c.make_room.ensures.commits.calls;
    kept = λ is. idle_calls _ _ _ (c.make_room.ensures.idle (first_by c.args.self.now.meta c.args.self.now.dirty c.args.self.now.batch c.args.block c.home-r.result.0 c.home-r.result.1 c.cleaning-room.result c.cleaning-room.ensures.value c.home-r.ensures.row c.home-r.ensures.disk ∙ is));
    whole = λ is. c.make_room.ensures.commits.whole (first_by c.args.self.now.meta c.args.self.now.dirty c.args.self.now.batch c.args.block c.home-r.result.0 c.home-r.result.1 c.cleaning-room.result c.cleaning-room.ensures.value c.home-r.ensures.row c.home-r.ensures.disk ∙ is);
    rest = none_done _ c.from_residual.result _ c.from_residual.ensures.1;
    names = none_done _ c.from_residual.result _ c.from_residual.ensures.1;
    moments = c.make_room.ensures.commits.moments;
  };
  writes = none_done _ c.from_residual.result _ c.from_residual.ensures.1;
  cleaned = none_done _ c.from_residual.result _ c.from_residual.ensures.1;
  bits = none_done _ c.from_residual.result _ c.from_residual.ensures.1;
  nothing = none_done _ c.from_residual.result _ c.from_residual.ensures.1;
  few = c.make_room.ensures.few;
  staged = none_done _ c.from_residual.result _ c.from_residual.ensures.1;
  stands = none_done _ c.from_residual.result _ c.from_residual.ensures.1;
  value = none_done _ c.from_residual.result _ c.from_residual.ensures.1;
}

pub returns-in_err-read_only : goal.returns-in_err-read_only
returns-in_err-read_only g c = record {
  draft = c.read_only.ensures.reads.cells.draft ∙ c.make_room.ensures.cells.draft ∙ c.requires.no_draft;
  commits = record {
    stays = record {
      copied = c.read_only.ensures.reads.alone.stays.copied ∙ c.make_room.ensures.commits.stays.copied;
      losses = record {
        slots = c.read_only.ensures.reads.alone.stays.losses.slots ∙ c.make_room.ensures.commits.stays.losses.slots;
        spared = spared_then _ _ _ c.in_ok-make_room.ensures.commits.stays.losses.spared c.in_err-read_only.ensures.reads.alone.stays.losses.spared;
        two =
            let old = c.args.self.now in
            handed (AreTwoDown (core_down old) (g.R.Rack.slot (core_rack old)) (g.R.Rack.slot (core_rack c.read_only.new.self))) c.from_residual-in_err-read_only.result _ c.from_residual-in_err-read_only.ensures.1
            (two_after (core_down old) (core_down c.make_room.new.self) _ _ _ _ c.in_ok-make_room.ensures.commits.stays.down c.in_ok-make_room.ensures.commits.stays.losses.spared c.in_err-read_only.ensures.reads.alone.stays.losses.spared c.in_err-read_only.ensures.reads.alone.stays.losses.two);
        tells =
            let old = c.args.self.now in
            let mid = c.make_room.new.self in
            let marks = c.in_ok-make_room.ensures.commits.stays.losses.marks in
            handed (λ two. Ran (g.R.Rack.told (store_rack c.args.self.now.store)) (g.R.Rack.told (store_rack c.read_only.new.self.store)) (λ s cs. TellsLosses (named_out c.args.self.now.meta.out) two cs)) c.from_residual-in_err-read_only.result _ c.from_residual-in_err-read_only.ensures.1
            (core_tells_then g.R.Rack.slot g.R.Rack.told g.met.R.Rack.agrees old mid c.requires.serving.ready.absent marks c.read_only.new.self _
            (transfer_bears g.R.Rack.slot g.R.Rack.told g.met.R.Rack.agrees old mid c.requires.serving.ready.absent marks c.make_room.ensures.commits.calls) c.in_err-read_only.ensures.reads.alone.stays.losses.tells);
        marks = none_done _ c.from_residual-in_err-read_only.result _ c.from_residual-in_err-read_only.ensures.1;
      };
      ready = none_done _ c.from_residual-in_err-read_only.result _ c.from_residual-in_err-read_only.ensures.1;
      setup = none_done _ c.from_residual-in_err-read_only.result _ c.from_residual-in_err-read_only.ensures.1;
      down = none_done _ c.from_residual-in_err-read_only.result _ c.from_residual-in_err-read_only.ensures.1;
    };
    serves = none_done _ c.from_residual-in_err-read_only.result _ c.from_residual-in_err-read_only.ensures.1;
    epoch = none_done _ c.from_residual-in_err-read_only.result _ c.from_residual-in_err-read_only.ensures.1;
    still_synced = none_done _ c.from_residual-in_err-read_only.result _ c.from_residual-in_err-read_only.ensures.1;
    unsynced = none_done _ c.from_residual-in_err-read_only.result _ c.from_residual-in_err-read_only.ensures.1;
    calls =
        calls_then _ _ (g.R.Rack.told (core_rack c.make_room.new.self)) _ c.make_room.ensures.commits.calls
        (transfer_after c.args.self.now.meta c.make_room.new.self.meta c.in_ok-make_room.ensures.commits.stays.setup c.in_ok-make_room.ensures.gone _ _ c.read_only.ensures.reads.alone.calls);
    kept = λ is.
        idle_then _ _ (g.R.Rack.told (core_rack c.make_room.new.self)) _ (c.make_room.ensures.idle (first_by c.args.self.now.meta c.args.self.now.dirty c.args.self.now.batch c.args.block c.home-r.result.0 c.home-r.result.1 c.cleaning-room.result c.cleaning-room.ensures.value c.home-r.ensures.row c.home-r.ensures.disk ∙ is))
        (data_after c.args.self.now.meta c.make_room.new.self.meta c.in_ok-make_room.ensures.commits.stays.setup c.in_ok-make_room.ensures.gone _ _ c.read_only.ensures.reads.alone.calls);
    whole = λ is h lo.
        let old = c.args.self.now in
        whole_then_reads (CoreStandsFor g.R.Rack.slot_count old h lo) (λ s k. k.base) (record old.meta { epoch = old.meta.epoch + 1 }) old.batch c.make_room.new.self.meta.setup.geometry.disks (λ s k. k.next.setup)
        (ap (λ (z : Setup). z.geometry.disks) c.in_ok-make_room.ensures.commits.stays.setup) _ _ _ (c.make_room.ensures.commits.whole (first_by c.args.self.now.meta c.args.self.now.dirty c.args.self.now.batch c.args.block c.home-r.result.0 c.home-r.result.1 c.cleaning-room.result c.cleaning-room.ensures.value c.home-r.ensures.row c.home-r.ensures.disk ∙ is) h lo) c.read_only.ensures.reads.alone.reads;
    rest = none_done _ c.from_residual-in_err-read_only.result _ c.from_residual-in_err-read_only.ensures.1;
    names = none_done _ c.from_residual-in_err-read_only.result _ c.from_residual-in_err-read_only.ensures.1;
    moments = λ h lo.
        let old = c.args.self.now in
        let mid = c.make_room.new.self in
        let first : Bool = commits_first (batch_of old) c.cleaning-room.result in
        let low : ℕ = if first then length h else lo in
        ended _ _ (IsCoreHeldSinceCommit g.R.Rack.slot_count mid h low) _ _
        (after_raised (g.R.Rack.slot_count (core_rack old)) _ old.meta.setup.geometry.disks _ (core_down old) (named_of mid.store) (named_of old.store) old.meta old.dirty old.batch old.copied first h lo _
        (IsCoreHeldSinceCommit g.R.Rack.slot_count mid h low) _ _ _
        c.in_ok-make_room.ensures.commits.stays.losses.slots (ap (λ (z : Setup). z.geometry.disks) c.in_ok-make_room.ensures.commits.stays.setup) c.in_ok-make_room.ensures.named
        (c.in_ok-make_room.ensures.stands h lo) (c.in_err-read_only.ensures.reads.alone.moments_since h low));
  };
  writes = none_done _ c.from_residual-in_err-read_only.result _ c.from_residual-in_err-read_only.ensures.1;
  cleaned = none_done _ c.from_residual-in_err-read_only.result _ c.from_residual-in_err-read_only.ensures.1;
  bits = none_done _ c.from_residual-in_err-read_only.result _ c.from_residual-in_err-read_only.ensures.1;
  nothing = none_done _ c.from_residual-in_err-read_only.result _ c.from_residual-in_err-read_only.ensures.1;
  few = c.make_room.ensures.few;
  staged = none_done _ c.from_residual-in_err-read_only.result _ c.from_residual-in_err-read_only.ensures.1;
  stands = none_done _ c.from_residual-in_err-read_only.result _ c.from_residual-in_err-read_only.ensures.1;
  value = none_done _ c.from_residual-in_err-read_only.result _ c.from_residual-in_err-read_only.ensures.1;
}

pub returns : goal.returns
returns g c = record {
  draft = c.clean_in_room.ensures.stages.draft;
  commits = record {
    stays = record {
      copied = c.clean_in_room.ensures.stages.copied ∙ c.read_only.ensures.reads.alone.stays.copied ∙ c.make_room.ensures.commits.stays.copied;
      losses = record {
        slots = ap (λ (z : g.row.R.Denot). g.R.Rack.slot_count z) (rack_is g c) ∙ c.read_only.ensures.reads.alone.stays.losses.slots ∙ c.make_room.ensures.commits.stays.losses.slots;
        spared =
            subst (λ (z : g.row.R.Denot). OnlyLosesSlots (g.R.Rack.slot (core_rack c.args.self.now)) (g.R.Rack.slot z)) (sym (rack_is g c))
            (spared_then _ _ _ c.in_ok-make_room.ensures.commits.stays.losses.spared c.in_ok-read_only.ensures.reads.alone.stays.losses.spared);
        two = tt;
        tells = tt;
        marks =
            let old = c.args.self.now in
            let new = c.clean_in_room.new.self in
            subst (λ (z : g.row.R.Denot). MarksLost (g.R.Rack.slot (core_rack old)) (g.R.Rack.slot z) old.meta new.meta) (sym (rack_is g c))
            (subst (MarksLost (g.R.Rack.slot (core_rack old)) (g.R.Rack.slot (core_rack c.read_only.new.self)) old.meta) (sym c.clean_in_room.ensures.stages.meta)
            (marks_then _ _ _ _ _ _ c.in_ok-make_room.ensures.commits.stays.losses.marks c.in_ok-read_only.ensures.reads.alone.stays.losses.marks c.make_room.ensures.commits.stays.losses.spared c.read_only.ensures.reads.alone.stays.losses.spared));
      };
      ready = c.clean_in_room.ensures.stages.ready;
      setup = ap (λ (z : Meta). z.setup) c.clean_in_room.ensures.stages.meta ∙ setup_is g c;
      down =
          let old = c.args.self.now in
          let mid = c.read_only.new.self in
          let new = c.clean_in_room.new.self in
          subst (λ (z : Store g.row.R.Denot g.R.Rack). IsDownAfter (core_down old) (or_else (named_of z) (named_out new.meta.out)) (g.R.Rack.slot (core_rack old)) (g.R.Rack.slot (store_rack z))) (sym c.clean_in_room.ensures.stages.store)
          (subst (λ (z : Meta). IsDownAfter (core_down old) (or_else (named_of mid.store) (named_out z.out)) (g.R.Rack.slot (core_rack old)) (g.R.Rack.slot (core_rack mid))) (sym c.clean_in_room.ensures.stages.meta)
          (down_both (core_down old) (core_down c.make_room.new.self) (core_down mid) _ _ _ c.in_ok-make_room.ensures.commits.stays.down c.in_ok-make_room.ensures.commits.stays.losses.spared c.in_ok-read_only.ensures.reads.alone.stays.down c.in_ok-read_only.ensures.reads.alone.stays.losses.spared));
    };
    serves = c.clean_in_room.ensures.stages.serves;
    epoch =
        let old = c.args.self.now in
        ap (λ (z : Meta). z.epoch) c.clean_in_room.ensures.stages.meta ∙ c.in_ok-read_only.ensures.reads.alone.epoch ∙ c.in_ok-make_room.ensures.commits.epoch
        ∙ ap (λ (b : Bool). old.meta.epoch + (if b then 1 else 0)) (first_is g c);
    still_synced =
        subst (λ (z : g.row.R.Denot). StaySynced (g.R.Rack.slot (core_rack c.args.self.now)) (g.R.Rack.slot z)) (sym (rack_is g c))
        (dry_both (g.R.Rack.slot (core_rack c.args.self.now)) (g.R.Rack.slot (core_rack c.make_room.new.self)) (g.R.Rack.slot (core_rack c.read_only.new.self)) c.in_ok-make_room.ensures.commits.still_synced c.in_ok-read_only.ensures.reads.alone.still_synced c.in_ok-read_only.ensures.reads.alone.stays.losses.spared);
    unsynced = λ was.
        let slot = g.R.Rack.slot in
        let mid = c.make_room.new.self in
        let next = c.read_only.new.self in
        let read = c.in_ok-read_only.ensures in
        unsynced_same slot next c.clean_in_room.new.self c.clean_in_room.ensures.stages.store c.clean_in_room.ensures.stages.meta c.clean_in_room.ensures.stages.copied
        (unsynced_kept slot mid next read.reads.alone.stays.setup (gone_lost _ _ mid.meta next.meta read.reads.alone.stays.losses.marks) c.read_only.ensures.reads.alone.stays.losses.spared c.read_only.ensures.reads.alone.stays.copied c.read_only.ensures.reads.alone.still_synced (c.in_ok-make_room.ensures.commits.unsynced was));
    calls =
        subst (λ (z : g.row.R.Denot). Ran (g.R.Rack.told (core_rack c.args.self.now)) (g.R.Rack.told z) (EachCall (IsTransferCall c.args.self.now.meta.setup.geometry.disks (gone_out c.args.self.now.meta.out)))) (sym (rack_is g c))
        (calls_then _ _ (g.R.Rack.told (core_rack c.make_room.new.self)) _ c.make_room.ensures.commits.calls
        (transfer_after c.args.self.now.meta c.make_room.new.self.meta c.in_ok-make_room.ensures.commits.stays.setup c.in_ok-make_room.ensures.gone _ _ c.read_only.ensures.reads.alone.calls));
    kept = λ is.
        let old = c.args.self.now in
        subst (λ (z : g.row.R.Denot). Ran (g.R.Rack.told (core_rack old)) (g.R.Rack.told z) (EachCall (IsDataCall old.meta.setup.geometry.disks (gone_out old.meta.out)))) (sym (rack_is g c))
        (subst (λ (z : Option Trail). Ran z (g.R.Rack.told (core_rack c.read_only.new.self)) (EachCall (IsDataCall old.meta.setup.geometry.disks (gone_out old.meta.out)))) (c.make_room.ensures.idle (first_by c.args.self.now.meta c.args.self.now.dirty c.args.self.now.batch c.args.block c.home-r.result.0 c.home-r.result.1 c.cleaning-room.result c.cleaning-room.ensures.value c.home-r.ensures.row c.home-r.ensures.disk ∙ is))
        (data_after old.meta c.make_room.new.self.meta c.in_ok-make_room.ensures.commits.stays.setup c.in_ok-make_room.ensures.gone _ _ c.read_only.ensures.reads.alone.calls));
    whole = whole_then g c;
    rest = λ is h lo.
        let old = c.args.self.now in
        let new = c.clean_in_room.new.self in
        let ready = c.clean_in_room.ensures.stages.ready in
        let names : named_of new.store ≡ named_out old.meta.out = names_then g c ∙ ap (λ (b : Bool). if b then named_out old.meta.out else named_of old.store) is in
        let epoch : new.meta.epoch ≡ old.meta.epoch + 1 = (ap (λ (z : Meta). z.epoch) c.clean_in_room.ensures.stages.meta ∙ c.in_ok-read_only.ensures.reads.alone.epoch ∙ c.in_ok-make_room.ensures.commits.epoch ∙ ap (λ (b : Bool). old.meta.epoch + (if b then 1 else 0)) (first_is g c)) ∙ ap (λ (b : Bool). old.meta.epoch + (if b then 1 else 0)) is in
        rest_ran (CoreStandsFor g.R.Rack.slot_count old h lo) (λ s k. k.base) (record old.meta { epoch = old.meta.epoch + 1 }) old.batch _ _ (named_of new.store) new.meta _ _ new.copied old.copied _ _ (g.R.Rack.slot (core_rack new)) _ _ (g.met.R.Rack.agrees (core_rack new))
        ready.absent ready.one names (λ s k d is_out. c.requires.serving.serves.stays d (sym k.named_by ∙ is_out)) (λ s k. k.next.setup)
        (ap (λ (z : Meta). z.setup) c.clean_in_room.ensures.stages.meta ∙ setup_is g c) (λ s k. let was = k.epoch in omega (arith, was, epoch))
        (c.clean_in_room.ensures.stages.copied ∙ c.in_ok-read_only.ensures.reads.alone.stays.copied ∙ c.in_ok-make_room.ensures.commits.stays.copied) c.requires.committable.copies_synced (whole_then g c is h lo) (stands_then g c h lo);
    names = names_then g c;
    moments = λ h lo.
        let old = c.args.self.now in
        let mid = c.make_room.new.self in
        let first : Bool = commits_first (batch_of old) c.cleaning-room.result in
        let low : ℕ = if first then length h else lo in
        subst (λ (z : g.row.R.Denot). Ran (g.R.Rack.told (core_rack old)) (g.R.Rack.told z) (CrashTriple (IsCoreHeld g.R.Rack.slot_count old h lo) (CoreStandsFor g.R.Rack.slot_count old h lo) (IsCoreHeld g.R.Rack.slot_count old h lo))) (sym (rack_is g c))
        (ended _ _ (IsCoreHeldSinceCommit g.R.Rack.slot_count mid h low) _ _
        (after_raised (g.R.Rack.slot_count (core_rack old)) _ old.meta.setup.geometry.disks _ (core_down old) (named_of mid.store) (named_of old.store) old.meta old.dirty old.batch old.copied first h lo _
        (IsCoreHeldSinceCommit g.R.Rack.slot_count mid h low) _ _ _
        c.in_ok-make_room.ensures.commits.stays.losses.slots (ap (λ (z : Setup). z.geometry.disks) c.in_ok-make_room.ensures.commits.stays.setup) c.in_ok-make_room.ensures.named
        (c.in_ok-make_room.ensures.stands h lo) (c.in_ok-read_only.ensures.reads.alone.moments_since h low)));
  };
  writes = ap (λ (z : Meta). z.writes) c.clean_in_room.ensures.stages.meta ∙ c.in_ok-read_only.ensures.reads.cells.writes ∙ c.in_ok-make_room.ensures.cells.writes;
  cleaned =
      let new = c.clean_in_room.new.self in
      subst (λ (z : ℕ). is_cleaned new.meta new.dirty (home_row c.args.self.now.meta.setup.geometry.disks c.args.block) z ≡ false) c.home-r.ensures.disk
      (subst (λ (z : ℕ). is_cleaned new.meta new.dirty z c.home-r.result.1 ≡ false) c.home-r.ensures.row c.clean_in_room.ensures.cleaned);
  bits =
      cell_of c.clean_in_room.new.self.meta c.read_only.new.self.dirty c.args.self.now.dirty c.clean_in_room.new.self.dirty c.home-r.result.0 _ c.home-r.result.1 _
      (c.in_ok-read_only.ensures.reads.cells.table ∙ c.in_ok-make_room.ensures.cells.table) c.home-r.ensures.row c.home-r.ensures.disk c.clean_in_room.ensures.bits;
  nothing = λ is.
      let old = c.args.self.now in
      let here = subst (λ (z : ℕ). is_cleaned old.meta old.dirty z c.home-r.result.1 ≡ false) (sym c.home-r.ensures.row)
      (subst (λ (z : ℕ). is_cleaned old.meta old.dirty (home_row old.meta.setup.geometry.disks c.args.block) z ≡ false) (sym c.home-r.ensures.disk) is) in
      let none = room_none (is_cleaned old.meta old.dirty c.home-r.result.0 c.home-r.result.1) c.cleaning-room.result c.cleaning-room.ensures.value here in
      let first = c.in_ok-make_room.ensures.nothing none in
      let last = c.clean_in_room.ensures.nothing (omega arith) in
      (last.0 ∙ c.in_ok-read_only.ensures.reads.batch ∙ first.0, last.1 ∙ c.in_ok-read_only.ensures.reads.cells.table ∙ first.1);
  few = c.make_room.ensures.few;
  staged =
      staged_by _ _ _ _ _ _ _ (first_is g c) c.in_ok-make_room.ensures.staged (ap length c.in_ok-read_only.ensures.reads.batch) c.clean_in_room.ensures.staged c.cleaning-room.ensures.few;
  stands = stands_then g c;
  value = λ h lo t tells a some.
      let old = c.args.self.now in
      let mid = c.make_room.new.self in
      let first : Bool = commits_first (batch_of old) c.cleaning-room.result in
      let low : ℕ = if first then length h else lo in
      after_first (IsCoreHeld g.R.Rack.slot_count old h lo) (CoreStandsFor g.R.Rack.slot_count old h lo) (CoreStandsFor g.R.Rack.slot_count mid h low) _ (◌≡◌ {A = Block} c.read_only.new.into (after_all h c.args.block)) _ _ _
      (c.in_ok-make_room.ensures.stands h lo) (c.in_ok-read_only.ensures.reads.since h low) (λ u knows b is. c.in_ok-read_only.ensures.value h low u knows b is) t tells a
      (subst (λ (z : g.row.R.Denot). IsSome (g.R.Rack.told z)) (rack_is g c) some);
}

pub make_room-requires : goal.make_room-requires
make_room-requires g c = record {
  few = let few = c.cleaning-room.ensures.few in omega (arith, few);
  serving = record {
    ready = c.requires.serving.ready;
    serves = c.requires.serving.serves;
  };
  committable = record {
    epoch = c.requires.committable.epoch;
    copies_synced = c.requires.committable.copies_synced;
  };
}

pub read_only-requires : goal.read_only-requires
read_only-requires g c = record {
  serving = record {
    ready = c.in_ok-make_room.ensures.commits.stays.ready;
    serves = c.in_ok-make_room.ensures.commits.serves;
  };
  block = subst (λ (z : Setup). c.args.block < z.geometry.rows * (z.geometry.disks - 1)) (sym c.in_ok-make_room.ensures.commits.stays.setup) c.requires.block;
  no_draft = c.make_room.ensures.cells.draft ∙ c.requires.no_draft;
}

pub clean_in_room-requires : goal.clean_in_room-requires
clean_in_room-requires g c = record {
  serving = record {
    ready = c.in_ok-read_only.ensures.reads.alone.stays.ready;
    serves = c.in_ok-read_only.ensures.reads.alone.serves;
  };
  no_draft = c.read_only.ensures.reads.cells.draft ∙ c.make_room.ensures.cells.draft ∙ c.requires.no_draft;
  row = subst (λ (z : Setup). c.home-r.result.0 < z.geometry.rows) (sym (c.in_ok-read_only.ensures.reads.alone.stays.setup ∙ c.in_ok-make_room.ensures.commits.stays.setup)) c.home-r.ensures.row_in;
  disk = subst (λ (z : Setup). c.home-r.result.1 < z.geometry.disks) (sym (c.in_ok-read_only.ensures.reads.alone.stays.setup ∙ c.in_ok-make_room.ensures.commits.stays.setup)) c.home-r.ensures.disk_in;
  room = subst (λ (b : Batch). length b + c.cleaning-room.result ≤ batch_room) (sym c.read_only.ensures.reads.batch) c.in_ok-make_room.ensures.room;
  kept = λ low.
      let old = c.args.self.now in
      c.in_ok-read_only.ensures.reads.cells.cleans_less c.home-r.result.0 c.home-r.result.1 (c.in_ok-make_room.ensures.cells.cleans_less c.home-r.result.0 c.home-r.result.1
      (no_room (is_cleaned old.meta old.dirty c.home-r.result.0 c.home-r.result.1) c.cleaning-room.result c.cleaning-room.ensures.value low));
}

pub cleaning-room-requires : goal.cleaning-room-requires
cleaning-room-requires g c = record {
  row = subst (λ (n : ℕ). c.home-r.result.0 < n) (sym c.requires.serving.ready.rows_are) c.home-r.ensures.row_in;
  disk = let low = c.home-r.ensures.disk_in in let high = c.args.self.now.meta.setup.geometry.disks_high in omega (arith, low, high);
}
