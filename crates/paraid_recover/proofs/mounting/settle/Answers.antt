use Rattle.std.specs.Prelude.{◌≡◌, ℕ, Option, Some, None}
use Rattle.std.proofs.Common.{ap, arith, refl, subst, sym, ◌∙◌}
use Rattle.paraid_base.specs.States.{gone_out}
use Rattle.paraid_base.specs.declared.fault.Two.{Two}
use Rattle.paraid_rack.specs.Slots.{Slot}
use Rattle.paraid_rack.specs.Told.{Ran}
use Rattle.paraid_rack.specs.Trail.{Trail, now}
use Rattle.paraid_record.specs.declared.meta.Meta.{Meta}
use Rattle.paraid_image.specs.Out.{first_absent, named_out, or_else}
use Rattle.paraid_image.specs.Sides.{LogState}
use Rattle.paraid_txn.specs.Losses.{AreFailedOrWell, AreGoneSince, IsOneOut, IsOutOfCommit, OnlyLosesSlots, TellsSecondLoss}
use Rattle.paraid_txn.specs.Stores.{store_out, store_rack}
use Rattle.paraid_txn.specs.Uses.{EachCall}
use Rattle.paraid_view.proofs.TwoLemmas.{left_spared}
use Rattle.paraid_recover.specs.Bearing.{BearsOnce}
use Rattle.paraid_recover.specs.EndOfMount.{IsMarkAtMoment}
use Rattle.paraid_recover.specs.HeldMoments.{Recovers}
use Rattle.paraid_session.specs.Powers.{AreSlotsSynced}
use Rattle.paraid_recover.proofs.BearerLemmas.{bears_fit}
use Rattle.paraid_recover.proofs.SyncedLemmas.{log_kept, marked_synced, sync_kept}
use Rattle.paraid_recover.proofs.MarkMomentLemmas.{mark_before, mark_by_slots, mark_later}
use Rattle.paraid_recover.specs.MountCalls.{OnlyMountCalls}
use Rattle.paraid_recover.specs.RecoveryMark.{to_mark}
use Rattle.paraid_recover.specs.Mounted.{IsFit}
use Rattle.paraid_dirty.specs.Table.{is_dirty}
use Rattle.paraid_recover.specs.Quiet.{IsInLog, IsReadOrSync, WritesOnlyLogs}
use Rattle.paraid_recover.proofs.FarLemmas.{far_ran, log_far, map_on, map_read, quiet_far}
use Rattle.paraid_recover.proofs.FitLemmas.{can_sync, log_ready, each_then, fit_stays, fit_with_mark, map_ready, marked_absent, marks, one_read, quiet_reads, quiet_syncs, spared_both, two_by_out, two_at, two_sooner}
use Rattle.paraid_recover.proofs.GoneLemmas.{gone_beside, gone_sooner, none_comes, out_by_name, out_unmarked, stays_absent}
use Rattle.paraid_recover.proofs.MountCallsLemmas.{map_calls, mount_then, sync_calls}
use Rattle.paraid_recover.proofs.OpenLemmas.{once_then, open_quiet}
use Rattle.paraid_recover.proofs.RenewLemmas.{version_marked}
use Rattle.paraid_recover.specs.StandingMetas.{StandsInMoments}
use Rattle.paraid_recover.specs.Still.{IsUpToDate, StaysUnwritten}
use Rattle.paraid_recover.proofs.UnwrittenLemmas.{unwritten_after, unwritten_quiet}
use Rattle.paraid_recover.proofs.SecondLossLemmas.{out_more, still_tells, tells_out, tells_same}
use Rattle.paraid_recover.proofs.QuietCallsLemmas.{quiet_recovers}
use Rattle.paraid_recover.proofs.RestMetasLemmas.{quiet_metas}
use Rattle.paraid_recover.proofs.StillLemmas.{log_logs, logs_still, logs_then, quiet_logs}
use Rattle.paraid_recover.proofs.mounting.settle.Given.{Over}
use Rattle.paraid_recover.proofs.mounting.settle.Goals as goal
use Rattle.paraid_recover.proofs.mounting.settle.Goals.{After-mark_out, After-read_map, After-sync_all}

-- the disk that is out as it begins
out_by : (g : Over) (c : After-read_map g) → store_out g.R.Rack.slot c.args.store.now
    ≡ or_else (named_out c.args.meta.now.out) (first_absent (λ d. (g.R.Rack.slot (store_rack c.args.store.now) d).power) c.args.meta.now.setup.geometry.disks)
out_by g c =
    ap (λ (o : Option ℕ). or_else o (first_absent (λ d. (g.R.Rack.slot (store_rack c.args.store.now) d).power) c.args.store.now.disks)) c.requires.can.named
    ∙ ap (λ (n : ℕ). or_else (named_out c.args.meta.now.out) (first_absent (λ d. (g.R.Rack.slot (store_rack c.args.store.now) d).power) n)) c.requires.can.disks

pub read_map-requires : goal.read_map-requires
read_map-requires g c =
    let fit = c.requires.can.fit in
    let disks = c.requires.can.disks in
    record {
      logs = (let low = c.args.meta.now.setup.geometry.disks_low in omega arith);
      exists = (let enough = fit.enough in omega arith);
      ready = map_ready (g.R.Rack.slot_count (store_rack c.args.store.now)) (g.R.Rack.slot (store_rack c.args.store.now)) c.args.meta.now fit (store_out g.R.Rack.slot c.args.store.now)
          (ap (λ (o : Option ℕ). or_else o (first_absent (λ d. (g.R.Rack.slot (store_rack c.args.store.now) d).power) c.args.store.now.disks)) c.requires.can.named
          ∙ ap (λ (n : ℕ). or_else (named_out c.args.meta.now.out) (first_absent (λ d. (g.R.Rack.slot (store_rack c.args.store.now) d).power) n)) disks);
      rows = c.requires.can.rows;
      narrow = c.requires.can.narrow;
    }

pub sync_all-requires : goal.sync_all-requires
sync_all-requires g c =
    let m = c.args.meta.now in
    let a = g.R.Rack.slot (store_rack c.args.store.now) in
    let b = g.R.Rack.slot (store_rack c.read_map.new.store) in
    let read = c.in_default.ensures.read in
    sync_kept a b (left_spared c.in_default.field-0 a b read.left) m.setup.geometry.disks c.read_map.new.store.disks (gone_out m.out) c.gone.result (read.same.disks ∙ c.requires.can.disks) c.gone.ensures
    (can_sync (g.R.Rack.slot_count (store_rack c.args.store.now)) a m c.requires.can.fit)

-- reads and syncs after what was recovered
on : (said : LogState) (m : Meta) (n : ℕ) → n ≡ m.setup.geometry.disks → said.meta ≡ m → n ≡ said.meta.setup.geometry.disks
on said m n is same = is ∙ ap (λ (o : Meta). o.setup.geometry.disks) (sym same)

-- once the map was read
abbrev slot_0 : (g : Over) (c : After-sync_all g) → ℕ → Slot
slot_0 g c = g.R.Rack.slot (store_rack c.args.store.now)

abbrev slot_1 : (g : Over) (c : After-sync_all g) → ℕ → Slot
slot_1 g c = g.R.Rack.slot (store_rack c.read_map.new.store)

abbrev slot_2 : (g : Over) (c : After-sync_all g) → ℕ → Slot
slot_2 g c = g.R.Rack.slot (store_rack c.sync_all.new.self)

first_spared : (g : Over) (c : After-sync_all g) → OnlyLosesSlots (slot_0 g c) (slot_1 g c)
first_spared g c = left_spared c.in_default.field-0 (slot_0 g c) (slot_1 g c) c.in_default.ensures.read.left

synced_recovers : (g : Over) (c : After-sync_all g) (slots x : ℕ) (said : LogState) (old : Option Trail) → said.meta ≡ c.args.meta.now → Recovers slots x said old (g.R.Rack.told (store_rack c.args.store.now))
    → Recovers slots x said old (g.R.Rack.told (store_rack c.sync_all.new.self))
synced_recovers g c slots x said old is r =
    let told_0 = g.R.Rack.told (store_rack c.args.store.now) in
    let told_1 = g.R.Rack.told (store_rack c.read_map.new.store) in
    let told_2 = g.R.Rack.told (store_rack c.sync_all.new.self) in
    let n_is = on said c.args.meta.now c.args.store.now.disks c.requires.can.disks is in
    quiet_recovers slots x said old told_1 told_2
    (subst (λ (n : ℕ). Ran told_1 told_2 (EachCall (IsReadOrSync n))) (c.in_default.ensures.read.same.disks ∙ n_is) (quiet_syncs c.read_map.new.store.disks _ _ _ c.sync_all.ensures.calls))
    (quiet_recovers slots x said old told_0 told_1
    (subst (λ (n : ℕ). Ran told_0 told_1 (EachCall (IsReadOrSync n))) n_is (quiet_reads c.args.store.now.disks _ _ c.in_default.ensures.read.calls)) r)

-- once all disks were synced
abbrev slot_3 : (g : Over) (c : After-mark_out g) → ℕ → Slot
slot_3 g c = g.R.Rack.slot (store_rack c.mark_out.new.store)

abbrev n : (g : Over) (c : After-mark_out g) → ℕ
n g c = c.args.meta.now.setup.geometry.disks

disks_is : (g : Over) (c : After-mark_out g) → c.sync_all.new.self.disks ≡ n g c
disks_is g c = c.sync_all.ensures.same.disks ∙ c.in_default.ensures.read.same.disks ∙ c.requires.can.disks

named_is : (g : Over) (c : After-mark_out g) → c.sync_all.new.self.named ≡ named_out c.args.meta.now.out
named_is g c = c.sync_all.ensures.same.named ∙ c.in_default.ensures.read.same.named ∙ c.requires.can.named

both_spared : (g : Over) (c : After-mark_out g) → OnlyLosesSlots (g.R.Rack.slot (store_rack c.args.store.now)) (g.R.Rack.slot (store_rack c.sync_all.new.self))
both_spared g c =
    spared_both _ _ _ (left_spared c.in_default.field-0 (g.R.Rack.slot (store_rack c.args.store.now)) (g.R.Rack.slot (store_rack c.read_map.new.store)) c.in_default.ensures.read.left) c.sync_all.ensures.powers

both_each : (g : Over) (c : After-mark_out g) → AreFailedOrWell (g.R.Rack.slot (store_rack c.args.store.now)) (g.R.Rack.slot (store_rack c.sync_all.new.self))
both_each g c =
    each_then _ _ _ c.read_map.ensures.each c.sync_all.ensures.each
    (left_spared c.in_default.field-0 (g.R.Rack.slot (store_rack c.args.store.now)) (g.R.Rack.slot (store_rack c.read_map.new.store)) c.in_default.ensures.read.left).no_fall c.sync_all.ensures.powers.no_fall

-- one disk at most is out once the map was read
read_one : (g : Over) (c : After-sync_all g) → IsOneOut c.args.meta.now.setup.geometry.disks (named_out c.args.meta.now.out) (slot_1 g c)
read_one g c =
    let m = c.args.meta.now in
    one_read m.setup.geometry.disks (named_out m.out) c.in_default.field-0 (slot_0 g c) (slot_1 g c) c.in_default.ensures.read.left
    (λ e is. sym (out_by g (goal.at.After-sync_all g c).After-read_map) ∙ (c.in_default.ensures.alone e is).1) c.requires.can.fit.one

one_out : (g : Over) (c : After-mark_out g) → IsOneOut (n g c) (named_out c.args.meta.now.out) (g.R.Rack.slot (store_rack c.sync_all.new.self))
one_out g c =
    let same = c.in_default.ensures.read.same in
    let read = read_one g (goal.at.After-mark_out g c).After-sync_all in
    subst (λ (o : Option ℕ). IsOneOut (n g c) o (g.R.Rack.slot (store_rack c.sync_all.new.self))) (same.named ∙ c.requires.can.named)
    (subst (λ (k : ℕ). IsOneOut k c.read_map.new.store.named (g.R.Rack.slot (store_rack c.sync_all.new.self))) (same.disks ∙ c.requires.can.disks)
    (c.in_default-sync_all.ensures.one
    (subst (λ (k : ℕ). IsOneOut k c.read_map.new.store.named (g.R.Rack.slot (store_rack c.read_map.new.store))) (sym (same.disks ∙ c.requires.can.disks))
    (subst (λ (o : Option ℕ). IsOneOut (n g c) o (g.R.Rack.slot (store_rack c.read_map.new.store))) (sym (same.named ∙ c.requires.can.named)) read))))

fits : (g : Over) (c : After-mark_out g) → IsFit (g.R.Rack.slot_count (store_rack c.args.store.now)) (g.R.Rack.slot (store_rack c.sync_all.new.self)) c.args.meta.now
fits g c = fit_stays _ _ _ c.args.meta.now (both_spared g c) (one_out g c) c.requires.can.fit

-- the disk is marked by the powers once all disks were synced
marked_then : (g : Over) (c : After-mark_out g)
    → IsMarkAtMoment c.args.meta.now (to_mark (λ d. (g.R.Rack.slot (store_rack c.sync_all.new.self) d).power) c.args.meta.now) (g.R.Rack.told (store_rack c.args.store.now)) (g.R.Rack.told (store_rack c.mark_out.new.store))
marked_then g c =
    let m = c.args.meta.now in
    let mark = to_mark (λ d. (g.R.Rack.slot (store_rack c.sync_all.new.self) d).power) m in
    let told_0 = g.R.Rack.told (store_rack c.args.store.now) in
    let told_1 = g.R.Rack.told (store_rack c.read_map.new.store) in
    let told_2 = g.R.Rack.told (store_rack c.sync_all.new.self) in
    let told_3 = g.R.Rack.told (store_rack c.mark_out.new.store) in
    mark_later m mark told_0 told_1 told_3 c.in_default.ensures.read.calls
    (mark_later m mark told_1 told_2 told_3 c.sync_all.ensures.calls
    (mark_before m mark told_2 told_3 (λ u tells. mark_by_slots (now u) (g.R.Rack.slot (store_rack c.sync_all.new.self)) m (g.met.R.Rack.agrees (store_rack c.sync_all.new.self) u tells)) c.mark_out.ensures.calls))

-- the reads of the map, and the syncs after them, are calls of a mount
map_allowed : (g : Over) (c : After-read_map g) → OnlyMountCalls c.args.meta.now (g.R.Rack.told (store_rack c.args.store.now)) (g.R.Rack.told (store_rack c.read_map.new.store))
map_allowed g c =
    map_calls c.args.meta.now (g.R.Rack.told (store_rack c.args.store.now)) (g.R.Rack.told (store_rack c.read_map.new.store)) (store_out g.R.Rack.slot c.args.store.now)
    (first_absent (λ d. (g.R.Rack.slot (store_rack c.args.store.now) d).power) c.args.meta.now.setup.geometry.disks) (out_by g c) c.read_map.ensures.calls

sync_allowed : (g : Over) (c : After-sync_all g) → OnlyMountCalls c.args.meta.now (g.R.Rack.told (store_rack c.args.store.now)) (g.R.Rack.told (store_rack c.sync_all.new.self))
sync_allowed g c =
    let m = c.args.meta.now in
    let told_1 = g.R.Rack.told (store_rack c.read_map.new.store) in
    let told_2 = g.R.Rack.told (store_rack c.sync_all.new.self) in
    mount_then m (g.R.Rack.told (store_rack c.args.store.now)) told_1 told_2 (map_allowed g (goal.at.After-sync_all g c).After-read_map)
    (sync_calls m told_1 told_2 c.read_map.new.store.disks _ (c.in_default.ensures.read.same.disks ∙ c.requires.can.disks) c.gone.ensures c.sync_all.ensures.calls)

all_allowed : (g : Over) (c : After-mark_out g) → OnlyMountCalls c.args.meta.now (g.R.Rack.told (store_rack c.args.store.now)) (g.R.Rack.told (store_rack c.mark_out.new.store))
all_allowed g c =
    mount_then c.args.meta.now (g.R.Rack.told (store_rack c.args.store.now)) (g.R.Rack.told (store_rack c.sync_all.new.self)) (g.R.Rack.told (store_rack c.mark_out.new.store))
    (sync_allowed g (goal.at.After-mark_out g c).After-sync_all) c.mark_out.ensures.recovers.allowed

-- which meta stands once the map was read
read_metas : (g : Over) (c : After-read_map g) (slots x : ℕ) (said : LogState) (old : Option Trail) → said.meta ≡ c.args.meta.now
    → Ran (g.R.Rack.told (store_rack c.args.store.now)) (g.R.Rack.told (store_rack c.read_map.new.store)) (EachCall (IsReadOrSync c.args.store.now.disks))
    → Recovers slots x said old (g.R.Rack.told (store_rack c.args.store.now)) → StandsInMoments slots x said old (g.R.Rack.told (store_rack c.args.store.now))
    → StandsInMoments slots x said old (g.R.Rack.told (store_rack c.read_map.new.store))
read_metas g c slots x said old is ran r metas =
    let told_0 = g.R.Rack.told (store_rack c.args.store.now) in
    let told_1 = g.R.Rack.told (store_rack c.read_map.new.store) in
    quiet_metas slots x said old told_0 told_1
    (subst (λ (n : ℕ). Ran told_0 told_1 (EachCall (IsReadOrSync n))) (on said c.args.meta.now c.args.store.now.disks c.requires.can.disks is) ran) r metas

-- and once all disks were synced
synced_metas : (g : Over) (c : After-sync_all g) (slots x : ℕ) (said : LogState) (old : Option Trail) → said.meta ≡ c.args.meta.now → Recovers slots x said old (g.R.Rack.told (store_rack c.args.store.now))
    → StandsInMoments slots x said old (g.R.Rack.told (store_rack c.args.store.now)) → StandsInMoments slots x said old (g.R.Rack.told (store_rack c.sync_all.new.self))
synced_metas g c slots x said old is r metas =
    let told_0 = g.R.Rack.told (store_rack c.args.store.now) in
    let told_1 = g.R.Rack.told (store_rack c.read_map.new.store) in
    let told_2 = g.R.Rack.told (store_rack c.sync_all.new.self) in
    let n_is = on said c.args.meta.now c.args.store.now.disks c.requires.can.disks is in
    let reads = quiet_reads c.args.store.now.disks told_0 told_1 c.in_default.ensures.read.calls in
    quiet_metas slots x said old told_1 told_2
    (subst (λ (n : ℕ). Ran told_1 told_2 (EachCall (IsReadOrSync n))) (c.in_default.ensures.read.same.disks ∙ n_is) (quiet_syncs c.read_map.new.store.disks _ _ _ c.sync_all.ensures.calls))
    (quiet_recovers slots x said old told_0 told_1 (subst (λ (n : ℕ). Ran told_0 told_1 (EachCall (IsReadOrSync n))) n_is reads) r)
    (read_metas g (goal.at.After-sync_all g c).After-read_map slots x said old is reads r metas)

-- no witness is borne in them
read_once : (g : Over) (c : After-read_map g) → Ran (g.R.Rack.told (store_rack c.args.store.now)) (g.R.Rack.told (store_rack c.read_map.new.store)) (EachCall (IsReadOrSync c.args.store.now.disks))
    → BearsOnce c.args.meta.now (g.R.Rack.told (store_rack c.args.store.now)) (g.R.Rack.told (store_rack c.read_map.new.store))
read_once g c reads two = open_quiet c.args.store.now.disks (gone_out c.args.meta.now.out) (g.R.Rack.told (store_rack c.args.store.now)) (g.R.Rack.told (store_rack c.read_map.new.store)) reads

sync_once : (g : Over) (c : After-sync_all g) → BearsOnce c.args.meta.now (g.R.Rack.told (store_rack c.args.store.now)) (g.R.Rack.told (store_rack c.sync_all.new.self))
sync_once g c =
    let m = c.args.meta.now in
    let n = c.read_map.new.store.disks in
    let told_0 = g.R.Rack.told (store_rack c.args.store.now) in
    let told_1 = g.R.Rack.told (store_rack c.read_map.new.store) in
    let told_2 = g.R.Rack.told (store_rack c.sync_all.new.self) in
    once_then m told_0 told_1 told_2 (read_once g (goal.at.After-sync_all g c).After-read_map (quiet_reads c.args.store.now.disks told_0 told_1 c.in_default.ensures.read.calls))
    (λ two. open_quiet n (gone_out m.out) told_1 told_2 (quiet_syncs n _ told_1 told_2 c.sync_all.ensures.calls))

all_once : (g : Over) (c : After-mark_out g) → BearsOnce c.args.meta.now (g.R.Rack.told (store_rack c.args.store.now)) (g.R.Rack.told (store_rack c.mark_out.new.store))
all_once g c =
    once_then c.args.meta.now (g.R.Rack.told (store_rack c.args.store.now)) (g.R.Rack.told (store_rack c.sync_all.new.self)) (g.R.Rack.told (store_rack c.mark_out.new.store))
    (sync_once g (goal.at.After-mark_out g c).After-sync_all) c.mark_out.ensures.recovers.once

-- where nothing is to be brought up to date, nothing is written
sync_unwritten : (g : Over) (c : After-sync_all g) → StaysUnwritten (IsUpToDate c.args.meta.now) (g.R.Rack.told (store_rack c.args.store.now)) (g.R.Rack.told (store_rack c.sync_all.new.self))
sync_unwritten g c =
    let m = c.args.meta.now in
    let told_0 = g.R.Rack.told (store_rack c.args.store.now) in
    let told_1 = g.R.Rack.told (store_rack c.read_map.new.store) in
    let told_2 = g.R.Rack.told (store_rack c.sync_all.new.self) in
    unwritten_after c.args.store.now.disks m told_0 told_1 told_2 (quiet_reads c.args.store.now.disks told_0 told_1 c.in_default.ensures.read.calls)
    (unwritten_quiet c.read_map.new.store.disks m told_1 told_2 (quiet_syncs c.read_map.new.store.disks _ told_1 told_2 c.sync_all.ensures.calls))

all_unwritten : (g : Over) (c : After-mark_out g) → StaysUnwritten (IsUpToDate c.args.meta.now) (g.R.Rack.told (store_rack c.args.store.now)) (g.R.Rack.told (store_rack c.mark_out.new.store))
all_unwritten g c =
    let m = c.args.meta.now in
    let told_0 = g.R.Rack.told (store_rack c.args.store.now) in
    let told_1 = g.R.Rack.told (store_rack c.read_map.new.store) in
    let told_2 = g.R.Rack.told (store_rack c.sync_all.new.self) in
    let told_3 = g.R.Rack.told (store_rack c.mark_out.new.store) in
    unwritten_after c.args.store.now.disks m told_0 told_1 told_3 (quiet_reads c.args.store.now.disks told_0 told_1 c.in_default.ensures.read.calls)
    (unwritten_after c.read_map.new.store.disks m told_1 told_2 told_3 (quiet_syncs c.read_map.new.store.disks _ told_1 told_2 c.sync_all.ensures.calls) c.mark_out.ensures.recovers.unwritten)

-- there are only reads, syncs and writes of logs
map_still : (g : Over) (c : After-read_map g) → Ran (g.R.Rack.told (store_rack c.args.store.now)) (g.R.Rack.told (store_rack c.read_map.new.store)) (EachCall (IsReadOrSync c.args.store.now.disks))
    → Ran (g.R.Rack.told (store_rack c.args.store.now)) (g.R.Rack.told (store_rack c.read_map.new.store)) (EachCall WritesOnlyLogs)
map_still g c reads = quiet_logs c.args.store.now.disks (g.R.Rack.told (store_rack c.args.store.now)) (g.R.Rack.told (store_rack c.read_map.new.store)) reads

sync_still : (g : Over) (c : After-sync_all g) → Ran (g.R.Rack.told (store_rack c.args.store.now)) (g.R.Rack.told (store_rack c.sync_all.new.self)) (EachCall WritesOnlyLogs)
sync_still g c =
    let told_0 = g.R.Rack.told (store_rack c.args.store.now) in
    let told_1 = g.R.Rack.told (store_rack c.read_map.new.store) in
    let told_2 = g.R.Rack.told (store_rack c.sync_all.new.self) in
    logs_then told_0 told_1 told_2 (map_still g (goal.at.After-sync_all g c).After-read_map (quiet_reads c.args.store.now.disks told_0 told_1 c.in_default.ensures.read.calls))
    (quiet_logs c.read_map.new.store.disks told_1 told_2 (quiet_syncs c.read_map.new.store.disks _ told_1 told_2 c.sync_all.ensures.calls))

all_still : (g : Over) (c : After-mark_out g) → Ran (g.R.Rack.told (store_rack c.args.store.now)) (g.R.Rack.told (store_rack c.mark_out.new.store)) (EachCall WritesOnlyLogs)
all_still g c =
    let told_2 = g.R.Rack.told (store_rack c.sync_all.new.self) in
    let told_3 = g.R.Rack.told (store_rack c.mark_out.new.store) in
    logs_then (g.R.Rack.told (store_rack c.args.store.now)) told_2 told_3 (sync_still g (goal.at.After-mark_out g c).After-sync_all) (log_logs c.sync_all.new.self.disks told_2 told_3 c.mark_out.ensures.calls)

-- which disks are absent since, where two are down
abbrev out_at : (g : Over) (c : After-read_map g) → (ℕ → Slot) → Option ℕ → ℕ → Type 0
out_at g c slot mark = IsOutOfCommit (λ e. (slot e).power) c.args.meta.now.setup.geometry.disks (named_out c.args.meta.now.out) mark

-- the slots once a disk was marked
all_each : (g : Over) (c : After-mark_out g) → AreFailedOrWell (g.R.Rack.slot (store_rack c.args.store.now)) (g.R.Rack.slot (store_rack c.mark_out.new.store))
all_each g c = each_then _ _ _ (both_each g c) c.mark_out.ensures.kept.each (both_spared g c).no_fall c.mark_out.ensures.kept.powers.no_fall

-- which of two disks failed first, where the syncs end by the second
abbrev out_0 : (g : Over) (c : After-sync_all g) → ℕ → Type 0
out_0 g c = IsOutOfCommit (λ e. (slot_0 g c e).power) c.args.meta.now.setup.geometry.disks (named_out c.args.meta.now.out) None

sync_tells : (g : Over) (c : After-sync_all g) (two : Two)
    → TellsSecondLoss (IsOutOfCommit (λ e. (slot_1 g c e).power) c.read_map.new.store.disks c.read_map.new.store.named None) (g.R.Rack.told (store_rack c.read_map.new.store)) (g.R.Rack.told (store_rack c.sync_all.new.self)) two
    → TellsSecondLoss (out_0 g c) (g.R.Rack.told (store_rack c.args.store.now)) (g.R.Rack.told (store_rack c.sync_all.new.self)) two
sync_tells g c two order =
    let m = c.args.meta.now in
    let k = m.setup.geometry.disks in
    let same = c.in_default.ensures.read.same in
    let power = (λ (e : ℕ). (slot_1 g c e).power) in
    let told_0 = g.R.Rack.told (store_rack c.args.store.now) in
    let told_1 = g.R.Rack.told (store_rack c.read_map.new.store) in
    let told_2 = g.R.Rack.told (store_rack c.sync_all.new.self) in
    let at = (goal.at.After-sync_all g c).After-read_map in
    still_tells m (slot_0 g c) (slot_1 g c) told_0 told_1 (g.met.R.Rack.agrees (store_rack c.args.store.now)) (g.met.R.Rack.agrees (store_rack c.read_map.new.store))
    (logs_still told_0 told_1 (map_still g at (quiet_reads c.args.store.now.disks told_0 told_1 c.in_default.ensures.read.calls))) (map_allowed g at) (λ one. read_one g c) told_2 two
    (subst (λ (o : Option ℕ). TellsSecondLoss (IsOutOfCommit power k o None) told_1 told_2 two) (same.named ∙ c.requires.can.named)
    (subst (λ (x : ℕ). TellsSecondLoss (IsOutOfCommit power x c.read_map.new.store.named None) told_1 told_2 two) (same.disks ∙ c.requires.can.disks) order))

-- and where the mark of a disk does
mark_tells : (g : Over) (c : After-mark_out g) (two : Two)
    → TellsSecondLoss (IsOutOfCommit (λ e. (g.R.Rack.slot (store_rack c.sync_all.new.self) e).power) c.sync_all.new.self.disks c.sync_all.new.self.named (to_mark (λ d. (g.R.Rack.slot (store_rack c.sync_all.new.self) d).power) c.args.meta.now))
    (g.R.Rack.told (store_rack c.sync_all.new.self)) (g.R.Rack.told (store_rack c.mark_out.new.store)) two
    → TellsSecondLoss (out_0 g (goal.at.After-mark_out g c).After-sync_all) (g.R.Rack.told (store_rack c.args.store.now)) (g.R.Rack.told (store_rack c.mark_out.new.store)) two
mark_tells g c two order =
    let m = c.args.meta.now in
    let k = n g c in
    let named = named_out m.out in
    let b = g.R.Rack.slot (store_rack c.sync_all.new.self) in
    let power = (λ (e : ℕ). (b e).power) in
    let mark = to_mark power m in
    let told_0 = g.R.Rack.told (store_rack c.args.store.now) in
    let told_2 = g.R.Rack.told (store_rack c.sync_all.new.self) in
    let told_3 = g.R.Rack.told (store_rack c.mark_out.new.store) in
    let at = (goal.at.After-mark_out g c).After-sync_all in
    still_tells m (slot_0 g at) b told_0 told_2 (g.met.R.Rack.agrees (store_rack c.args.store.now)) (g.met.R.Rack.agrees (store_rack c.sync_all.new.self))
    (logs_still told_0 told_2 (sync_still g at)) (sync_allowed g at) (λ one. one_out g c) told_3 two
    (tells_same (IsOutOfCommit power k named mark) (IsOutOfCommit power k named None) told_2 told_3 two
    (out_unmarked power k named mark (λ d is. let it = marks power m d c.requires.can.fit.in_range is in (it.0, it.1))) (out_more power k named mark)
    (subst (λ (o : Option ℕ). TellsSecondLoss (IsOutOfCommit power k o mark) told_2 told_3 two) (named_is g c)
    (subst (λ (x : ℕ). TellsSecondLoss (IsOutOfCommit power x c.sync_all.new.self.named mark) told_2 told_3 two) (disks_is g c) order)))

pub returns-in-Ok : goal.returns-in-Ok
returns-in-Ok g c = record {
  rows = c.read_map.ensures.rows;
  narrow = c.read_map.ensures.narrow;
  kept = record {
    slots = c.mark_out.ensures.kept.slots ∙ c.sync_all.ensures.slots ∙ c.in_default.ensures.read.slots;
    disks = c.mark_out.ensures.kept.disks ∙ c.sync_all.ensures.same.disks ∙ c.in_default.ensures.read.same.disks;
    powers = spared_both _ _ _ (both_spared g (goal.at.returns-in-Ok g c).After-mark_out) c.mark_out.ensures.kept.powers;
    each = all_each g (goal.at.returns-in-Ok g c).After-mark_out;
    two = tt;
    gone = tt;
    order = tt;
  };
  stood = record {
    epoch = c.in-Ok.ensures.epoch;
    named = c.in-Ok.ensures.named;
    version =
        ap (λ (x : Meta). x.version) c.in-Ok.ensures.given ∙ version_marked c.args.meta.now (to_mark (λ d. (g.R.Rack.slot (store_rack c.sync_all.new.self) d).power) c.args.meta.now) c.requires.can.fit.in_range;
    fit =
        let at = (goal.at.returns-in-Ok g c).After-mark_out in
        let m = c.args.meta.now in
        let o = to_mark (λ d. (g.R.Rack.slot (store_rack c.sync_all.new.self) d).power) m in
        let count = c.mark_out.ensures.kept.slots ∙ c.sync_all.ensures.slots ∙ c.in_default.ensures.read.slots in
        let one = subst (λ (k : ℕ). IsOneOut k (named_out c.in-Ok.marked.out) (slot_3 g at)) (disks_is g at)
        (c.in-Ok.ensures.one
        (subst (λ (k : ℕ). IsOneOut k c.sync_all.new.self.named (g.R.Rack.slot (store_rack c.sync_all.new.self))) (sym (disks_is g at))
        (subst (λ (x : Option ℕ). IsOneOut (n g at) x (g.R.Rack.slot (store_rack c.sync_all.new.self))) (sym (named_is g at)) (one_out g at)))) in
        subst (λ (k : ℕ). IsFit k (slot_3 g at) c.in-Ok.marked) (sym count)
        (subst (λ (x : Meta). IsFit (g.R.Rack.slot_count (store_rack c.args.store.now)) (slot_3 g at) x) (sym c.in-Ok.ensures.given)
        (fit_with_mark _ _ (slot_3 g at) m o refl (fits g at) c.mark_out.ensures.kept.powers c.requires.can.few
        (subst (λ (x : Meta). IsOneOut (n g at) (named_out x.out) (slot_3 g at)) c.in-Ok.ensures.given one)));
    synced =
        subst (λ (x : Meta). AreSlotsSynced x (g.R.Rack.slot (store_rack c.mark_out.new.store))) (sym c.in-Ok.ensures.given)
        (marked_synced (g.R.Rack.slot (store_rack c.sync_all.new.self)) (g.R.Rack.slot (store_rack c.mark_out.new.store)) c.args.meta.now c.gone.result c.read_map.new.store.disks c.gone.ensures
        (c.in_default.ensures.read.same.disks ∙ c.requires.can.disks) c.in_default-sync_all.ensures.synced c.mark_out.ensures.kept.powers c.in-Ok.ensures.synced);
  };
  given =
      let at = goal.at.returns-in-Ok g c in (
        to_mark (λ d. (g.R.Rack.slot (store_rack c.sync_all.new.self) d).power) c.args.meta.now,
        c.in-Ok.ensures.given,
        λ d is. marked_absent _ (slot_3 g at.After-mark_out) c.args.meta.now d c.requires.can.fit.in_range is c.mark_out.ensures.kept.powers,
        λ d is. (marks _ c.args.meta.now d c.requires.can.fit.in_range is).2,
        marked_then g at.After-mark_out,
      );
  still = all_still g (goal.at.returns-in-Ok g c).After-mark_out;
  recovers = record {
    allowed = all_allowed g (goal.at.returns-in-Ok g c).After-mark_out;
    holds = λ slots x said old is r.
        c.mark_out.ensures.recovers.holds slots x said old is (synced_recovers g (goal.at.returns-in-Ok g c).After-sync_all slots x said old is r);
    metas = λ slots x said old is r metas.
        let at = (goal.at.returns-in-Ok g c).After-sync_all in
        c.mark_out.ensures.recovers.metas slots x said old is (synced_recovers g at slots x said old is r) (synced_metas g at slots x said old is r metas);
    once = all_once g (goal.at.returns-in-Ok g c).After-mark_out;
    unwritten = all_unwritten g (goal.at.returns-in-Ok g c).After-mark_out;
  };
  ends = λ slots x said old is r.
      c.in-Ok.ensures.ends slots x said old is (synced_recovers g (goal.at.returns-in-Ok g c).After-sync_all slots x said old is r);
  map =
      let told_0 = g.R.Rack.told (store_rack c.args.store.now) in
      let told_1 = g.R.Rack.told (store_rack c.read_map.new.store) in
      let told_2 = g.R.Rack.told (store_rack c.sync_all.new.self) in
      let told_3 = g.R.Rack.told (store_rack c.mark_out.new.store) in
      let geometry = c.args.meta.now.setup.geometry in
      let out = store_out g.R.Rack.slot c.args.store.now in
      let dirty = is_dirty c.read_map.new.table in
      let n_0 = c.args.store.now.disks in
      let n_1 = c.read_map.new.store.disks in
      let n_2 = c.sync_all.new.self.disks in
      let slot_1 = g.R.Rack.slot (store_rack c.read_map.new.store) in
      let slot_2 = g.R.Rack.slot (store_rack c.sync_all.new.self) in
      let slot_3 = g.R.Rack.slot (store_rack c.mark_out.new.store) in
      map_on geometry out slot_2 slot_3 dirty told_0 told_2 told_3 (stays_absent slot_2 slot_3 0 (none_comes slot_2 slot_3 c.mark_out.ensures.kept.powers)) (far_ran (IsInLog n_2) told_2 told_3 (log_far n_2) c.mark_out.ensures.calls)
      (map_on geometry out slot_1 slot_2 dirty told_0 told_1 told_2 (stays_absent slot_1 slot_2 0 (none_comes slot_1 slot_2 c.sync_all.ensures.powers)) (far_ran (IsReadOrSync n_1) told_1 told_2 (quiet_far n_1) (quiet_syncs n_1 _ told_1 told_2 c.sync_all.ensures.calls))
      (map_read geometry out c.in_default.field-0 slot_1 dirty told_0 told_1 (far_ran (IsReadOrSync n_0) told_0 told_1 (quiet_far n_0) (quiet_reads n_0 told_0 told_1 c.in_default.ensures.read.calls))
      (λ e is. (c.in_default.ensures.alone e is).1) (λ e is. (c.in_default.ensures.read.left.failed e is).absent) c.in_default.ensures.shows));
  borne = c.in-Ok.ensures.borne;
  marked = λ slots x said old is r. c.in-Ok.ensures.marked slots x said old is (synced_recovers g (goal.at.returns-in-Ok g c).After-sync_all slots x said old is r);
}

pub returns-in-Err-mark_out : goal.returns-in-Err-mark_out
returns-in-Err-mark_out g c = record {
  rows = c.read_map.ensures.rows;
  narrow = c.read_map.ensures.narrow;
  kept = record {
    slots = c.mark_out.ensures.kept.slots ∙ c.sync_all.ensures.slots ∙ c.in_default.ensures.read.slots;
    disks = c.mark_out.ensures.kept.disks ∙ c.sync_all.ensures.same.disks ∙ c.in_default.ensures.read.same.disks;
    powers = spared_both _ _ _ (both_spared g (goal.at.returns-in-Err-mark_out g c).After-mark_out) c.mark_out.ensures.kept.powers;
    each = all_each g (goal.at.returns-in-Err-mark_out g c).After-mark_out;
    two =
        let at = (goal.at.returns-in-Err-mark_out g c).After-mark_out in
        let m = c.args.meta.now in
        two_sooner (n g at) (named_out m.out) _ _ _ _ (both_each g at) (both_spared g at).no_fall c.mark_out.ensures.kept.powers.no_fall
        (two_at (n g at) _ (named_out m.out) _ (to_mark (λ d. (g.R.Rack.slot (store_rack c.sync_all.new.self) d).power) m) (g.R.Rack.slot (store_rack c.sync_all.new.self)) (slot_3 g at) c.in-Err-mark_out.two
        (disks_is g at) (named_is g at) (λ d is. let it = marks _ m d c.requires.can.fit.in_range is in (it.0, it.1)) c.in-Err-mark_out.ensures.kept.two);
    gone =
        let at = (goal.at.returns-in-Err-mark_out g c).After-mark_out in
        let m = c.args.meta.now in
        let a = g.R.Rack.slot (store_rack c.args.store.now) in
        let b = g.R.Rack.slot (store_rack c.sync_all.new.self) in
        let power = (λ (e : ℕ). (b e).power) in
        let mark = to_mark power m in
        let two = c.in-Err-mark_out.two in
        let after = none_comes b (slot_3 g at) c.mark_out.ensures.kept.powers in
        gone_sooner (n g at) (named_out m.out) a b (slot_3 g at) (none_comes a b (both_spared g at)) (λ d. stays_absent b (slot_3 g at) d after) two
        (gone_beside (IsOutOfCommit power (n g at) (named_out m.out) mark) (IsOutOfCommit power (n g at) (named_out m.out) None) b (slot_3 g at) two
        (out_unmarked power (n g at) (named_out m.out) mark (λ d is. let it = marks power m d c.requires.can.fit.in_range is in (it.0, it.1)))
        (subst (λ (o : Option ℕ). AreGoneSince (IsOutOfCommit power (n g at) o mark) b (slot_3 g at) two) (named_is g at)
        (subst (λ (k : ℕ). AreGoneSince (IsOutOfCommit power k c.sync_all.new.self.named mark) b (slot_3 g at) two) (disks_is g at) c.in-Err-mark_out.ensures.kept.gone)));
    order = mark_tells g (goal.at.returns-in-Err-mark_out g c).After-mark_out c.in-Err-mark_out.two c.in-Err-mark_out.ensures.kept.order;
  };
  stood = tt;
  given = tt;
  still = all_still g (goal.at.returns-in-Err-mark_out g c).After-mark_out;
  recovers = record {
    allowed = all_allowed g (goal.at.returns-in-Err-mark_out g c).After-mark_out;
    holds = λ slots x said old is r.
        c.mark_out.ensures.recovers.holds slots x said old is (synced_recovers g (goal.at.returns-in-Err-mark_out g c).After-sync_all slots x said old is r);
    metas = λ slots x said old is r metas.
        let at = (goal.at.returns-in-Err-mark_out g c).After-sync_all in
        c.mark_out.ensures.recovers.metas slots x said old is (synced_recovers g at slots x said old is r) (synced_metas g at slots x said old is r metas);
    once = all_once g (goal.at.returns-in-Err-mark_out g c).After-mark_out;
    unwritten = all_unwritten g (goal.at.returns-in-Err-mark_out g c).After-mark_out;
  };
  ends = tt;
  map = tt;
  borne = tt;
  marked = tt;
}

pub returns-in-Err-sync_all : goal.returns-in-Err-sync_all
returns-in-Err-sync_all g c = record {
  rows = c.read_map.ensures.rows;
  narrow = c.read_map.ensures.narrow;
  kept = record {
    slots = c.sync_all.ensures.slots ∙ c.in_default.ensures.read.slots;
    disks = c.sync_all.ensures.same.disks ∙ c.in_default.ensures.read.same.disks;
    powers = spared_both _ _ _ (first_spared g (goal.at.returns-in-Err-sync_all g c).After-sync_all) c.sync_all.ensures.powers;
    each =
        let at = goal.at.returns-in-Err-sync_all g c in
        each_then _ _ _ c.read_map.ensures.each c.sync_all.ensures.each (first_spared g at.After-sync_all).no_fall c.sync_all.ensures.powers.no_fall;
    two =
        let at = goal.at.returns-in-Err-sync_all g c in
        let same = c.in_default.ensures.read.same in
        two_sooner c.args.meta.now.setup.geometry.disks (named_out c.args.meta.now.out) _ _ _ _ c.read_map.ensures.each (first_spared g at.After-sync_all).no_fall c.sync_all.ensures.powers.no_fall
        (rw (← (same.disks ∙ c.requires.can.disks), ← (same.named ∙ c.requires.can.named)) c.in-Err-sync_all.ensures.two);
    gone =
        let at = (goal.at.returns-in-Err-sync_all g c).After-sync_all in
        let same = c.in_default.ensures.read.same in
        let after = none_comes (slot_1 g at) (slot_2 g at) c.sync_all.ensures.powers in
        let power = (λ (e : ℕ). (slot_1 g at e).power) in
        let k = c.args.meta.now.setup.geometry.disks in
        let two = c.in-Err-sync_all.two in
        gone_sooner k (named_out c.args.meta.now.out) (slot_0 g at) (slot_1 g at) (slot_2 g at)
        (none_comes (slot_0 g at) (slot_1 g at) (first_spared g at)) (λ d. stays_absent (slot_1 g at) (slot_2 g at) d after) two
        (subst (λ (o : Option ℕ). AreGoneSince (IsOutOfCommit power k o None) (slot_1 g at) (slot_2 g at) two) (same.named ∙ c.requires.can.named)
        (subst (λ (x : ℕ). AreGoneSince (IsOutOfCommit power x c.read_map.new.store.named None) (slot_1 g at) (slot_2 g at) two) (same.disks ∙ c.requires.can.disks) c.in-Err-sync_all.ensures.gone));
    order = sync_tells g (goal.at.returns-in-Err-sync_all g c).After-sync_all c.in-Err-sync_all.two c.in-Err-sync_all.ensures.order;
  };
  stood = tt;
  given = tt;
  still = sync_still g (goal.at.returns-in-Err-sync_all g c).After-sync_all;
  recovers = record {
    allowed = sync_allowed g (goal.at.returns-in-Err-sync_all g c).After-sync_all;
    holds = λ slots x said old is r.
        (synced_recovers g (goal.at.returns-in-Err-sync_all g c).After-sync_all slots x said old is r).holds;
    metas = synced_metas g (goal.at.returns-in-Err-sync_all g c).After-sync_all;
    once = sync_once g (goal.at.returns-in-Err-sync_all g c).After-sync_all;
    unwritten = sync_unwritten g (goal.at.returns-in-Err-sync_all g c).After-sync_all;
  };
  ends = tt;
  map = tt;
  borne = tt;
  marked = tt;
}

pub returns-in-Err : goal.returns-in-Err
returns-in-Err g c = record {
  rows = c.read_map.ensures.rows;
  narrow = c.read_map.ensures.narrow;
  kept = record {
    slots = c.in-Err.ensures.two.slots;
    disks = c.in-Err.ensures.two.same.disks;
    powers = c.in-Err.ensures.two.spared;
    each = c.read_map.ensures.each;
    two =
        let at = goal.at.returns-in-Err g c in
        two_by_out c.args.meta.now.setup.geometry.disks (named_out c.args.meta.now.out) _ _ _ _ (out_by g at.After-read_map) c.in-Err.ensures.two.down;
    gone =
        let at = (goal.at.returns-in-Err g c).After-read_map in
        let out = store_out g.R.Rack.slot c.args.store.now in
        let a = g.R.Rack.slot (store_rack c.args.store.now) in
        gone_beside (λ d. out ≡ Some d) (out_at g at a None) a (g.R.Rack.slot (store_rack c.read_map.new.store)) _
        (out_by_name (λ d. (a d).power) c.args.meta.now.setup.geometry.disks (named_out c.args.meta.now.out) out (out_by g at)) c.in-Err.ensures.gone;
    order =
        let at = (goal.at.returns-in-Err g c).After-read_map in
        let m = c.args.meta.now in
        tells_out m.setup.geometry.disks (named_out m.out) (g.R.Rack.slot (store_rack c.args.store.now)) (store_out g.R.Rack.slot c.args.store.now) (g.R.Rack.told (store_rack c.args.store.now)) (g.R.Rack.told (store_rack c.read_map.new.store)) _
        (out_by g at) c.in-Err.ensures.two.tells;
  };
  stood = tt;
  given = tt;
  still = map_still g (goal.at.returns-in-Err g c).After-read_map (quiet_reads c.args.store.now.disks _ _ c.in-Err.ensures.two.calls);
  recovers = record {
    allowed = map_allowed g (goal.at.returns-in-Err g c).After-read_map;
    holds = λ slots x said old is r.
        let n_is = on said c.args.meta.now c.args.store.now.disks c.requires.can.disks is in
        (quiet_recovers slots x said old (g.R.Rack.told (store_rack c.args.store.now)) (g.R.Rack.told (store_rack c.read_map.new.store))
        (subst (λ (n : ℕ). Ran (g.R.Rack.told (store_rack c.args.store.now)) (g.R.Rack.told (store_rack c.read_map.new.store)) (EachCall (IsReadOrSync n))) n_is (quiet_reads c.args.store.now.disks _ _ c.in-Err.ensures.two.calls)) r).holds;
    metas = λ slots x said old is r metas.
        read_metas g (goal.at.returns-in-Err g c).After-read_map slots x said old is (quiet_reads c.args.store.now.disks _ _ c.in-Err.ensures.two.calls) r metas;
    once = read_once g (goal.at.returns-in-Err g c).After-read_map (quiet_reads c.args.store.now.disks _ _ c.in-Err.ensures.two.calls);
    unwritten = unwritten_quiet c.args.store.now.disks c.args.meta.now _ _ (quiet_reads c.args.store.now.disks _ _ c.in-Err.ensures.two.calls);
  };
  ends = tt;
  map = tt;
  borne = tt;
  marked = tt;
}

pub mark_out-requires : goal.mark_out-requires
mark_out-requires g c =
    let m = c.args.meta.now in
    let a = g.R.Rack.slot (store_rack c.args.store.now) in
    let b = g.R.Rack.slot (store_rack c.read_map.new.store) in
    let d = g.R.Rack.slot (store_rack c.sync_all.new.self) in
    let read = c.in_default.ensures.read in
    record {
      empty = c.requires.empty;
      can = record {
        fresh = c.requires.can.few;
        in_range = c.requires.can.fit.in_range;
        exists = (let enough = c.requires.can.fit.enough in let first = read.slots in let second = c.sync_all.ensures.slots in omega arith);
        disks = c.sync_all.ensures.same.disks ∙ read.same.disks ∙ c.requires.can.disks;
        named = c.sync_all.ensures.same.named ∙ read.same.named ∙ c.requires.can.named;
        epoch = c.sync_all.ensures.same.epoch ∙ read.same.epoch ∙ c.requires.can.epoch;
        log = log_kept a d (spared_both a b d (left_spared c.in_default.field-0 a b read.left) c.sync_all.ensures.powers) (named_out m.out)
            (log_ready (g.R.Rack.slot_count (store_rack c.args.store.now)) a m c.requires.can.fit);
      };
      witness = λ apart.
          bears_fit (g.R.Rack.slot_count (store_rack c.args.store.now)) a d m c.read_map.new.store.disks c.gone.result c.requires.can.fit (spared_both a b d (left_spared c.in_default.field-0 a b read.left) c.sync_all.ensures.powers)
          (read.same.disks ∙ c.requires.can.disks) c.gone.ensures c.in_default-sync_all.ensures.synced apart;
    }
