use Rattle.std.proofs.Common.{◌≡◌, ℕ, Some, ◌∙◌, ap}
use Rattle.std.specs.Prelude.{IsSome, IsTrue}
use Rattle.paraid_record.specs.declared.meta.Meta.{Meta}
use Rattle.paraid_txn.specs.Losses.{AreTwoDown}
use Rattle.paraid_txn.specs.Stores.{store_rack}
use Rattle.paraid_core.specs.Cores.{CoreStandsFor, core_down}
use Rattle.paraid_core.specs.Lost.{CoreTellsLosses}
use Rattle.paraid_core.proofs.AfterLemmas.{handed, marked_writes}
use Rattle.paraid_core.proofs.ChainLemmas.{marked_epoch}
use Rattle.paraid_core.proofs.StepLemmas.{marked_from_setup, stands_held}
use Rattle.paraid_image.specs.Out.{named_out}
use Rattle.paraid_rack.specs.Trail.{Trail, now}
use Rattle.paraid_scrub.specs.Counts.{AreCounts, all_members}
use Rattle.paraid_core.proofs.ErrLemmas.{none_done, none_done_if}
use Rattle.paraid_scrub.specs.Cores.{HasLooked, HasMapBits, core_view, table_view}
use Rattle.paraid_scrub.proofs.EndLemmas.{held_beside, leaves_down, map_bits, stands_beside, table_shown, view_shown}
use Rattle.paraid_scrub.proofs.PartLemmas.{told_by}
use Rattle.paraid_scrub.proofs.SoundLemmas.{sound_core_zero}
use Rattle.paraid_scrub.proofs.whole.check.Given.{Over}
use Rattle.paraid_scrub.proofs.whole.check.Goals as goal
use Rattle.paraid_scrub.proofs.whole.check.Goals.{In_ok-checked}

pub count_all-requires : goal.count_all-requires
count_all-requires g c = record { usable = c.requires.can }

-- at most one disk was lost
looked : (g : Over) (c : In_ok-checked g) → HasLooked g.R.Rack.slot_count g.R.Rack.slot g.R.Rack.told c.args.core.now c.count_all.new.core
looked g c = told_by c.in_ok-checked.checked.whole (λ w. (c.in_ok-checked.ensures.kept w).goes.looked) (λ n. (c.in_ok-checked.ensures.ended n).looked)

counts_then : (g : Over) (c : In_ok-checked g) → (t : Trail) → g.R.Rack.told (store_rack c.args.core.now.store) ≡ Some t → IsSome (g.R.Rack.told (store_rack c.count_all.new.core.store)) → HasMapBits c.args.core.now (core_view c.args.core.now (now t))
    → (seen : ℕ) × AreCounts (core_view c.args.core.now (now t)) seen c.in_ok-checked.checked.report × (IsTrue c.in_ok-checked.checked.whole → seen ≡ all_members (core_view c.args.core.now (now t)))
counts_then g c t tells some bits =
    c.in_ok-checked.ensures.counts (core_view c.args.core.now (now t)) (view_shown g.R.Rack.slot_count g.R.Rack.slot g.R.Rack.told c.args.core.now c.count_all.new.core c.requires.can (g.met.R.Rack.agrees (store_rack c.args.core.now.store)) t tells bits) some

table_then : (g : Over) (c : In_ok-checked g) → (t : Trail) → g.R.Rack.told (store_rack c.args.core.now.store) ≡ Some t → IsSome (g.R.Rack.told (store_rack c.count_all.new.core.store))
    → (seen : ℕ) × AreCounts (table_view c.args.core.now (now t)) seen c.in_ok-checked.checked.report × (IsTrue c.in_ok-checked.checked.whole → seen ≡ all_members (table_view c.args.core.now (now t)))
table_then g c t tells some =
    c.in_ok-checked.ensures.counts (table_view c.args.core.now (now t)) (table_shown g.R.Rack.slot_count g.R.Rack.slot g.R.Rack.told c.args.core.now c.count_all.new.core c.requires.can (g.met.R.Rack.agrees (store_rack c.args.core.now.store)) t tells) some

pub returns : goal.returns
returns g c =
    let l = looked g c in
    let old = c.args.core.now in
    let new = c.count_all.new.core in
    record {
      leaves = record {
        slots = l.leaves.slots;
        spared = l.leaves.spared;
        still_synced = l.synced;
        copied = l.copied;
        two = tt;
        tells = tt;
        calls = l.calls;
        reads = l.reads;
        moments = λ h lo.
            held_beside g.R.Rack.slot_count g.R.Rack.slot g.R.Rack.told old new (CoreStandsFor g.R.Rack.slot_count old h lo) h lo
            (stands_held g.R.Rack.slot_count g.R.Rack.slot g.R.Rack.told old new l.leaves l.stands h lo);
        moments_since = stands_held g.R.Rack.slot_count g.R.Rack.slot g.R.Rack.told old new l.leaves l.stands;
      };
      serves = record {
        draft = l.leaves.draft;
        batch = l.leaves.batch;
        table = l.leaves.table;
        named = l.leaves.same.named;
        ready = l.leaves.ready;
        serves = l.leaves.serves c.requires.can.serves;
        setup = marked_from_setup old.meta new.meta l.leaves.meta;
        writes = let m = l.leaves.meta in ap (λ (z : Meta). z.writes) m.is ∙ marked_writes m.lost old.meta;
        epoch = let m = l.leaves.meta in ap (λ (z : Meta). z.epoch) m.is ∙ marked_epoch m.lost old.meta;
        down = leaves_down g.R.Rack.slot_count g.R.Rack.slot g.R.Rack.told old new l.leaves;
        marks = l.marks;
        unsynced = l.leaves.unsynced;
        stands = λ h lo. stands_beside g.R.Rack.slot_count g.R.Rack.slot g.R.Rack.told old new (CoreStandsFor g.R.Rack.slot_count old h lo) (CoreStandsFor g.R.Rack.slot_count new h lo) h lo (l.stands h lo);
        since = l.stands;
      };
      by_table = table_then g c;
      counts = counts_then g c;
      most = c.in_ok-checked.ensures.most;
      zeros = λ h lo t tells stands some.
          let counted = counts_then g c t tells some (map_bits g.R.Rack.slot_count g.R.Rack.slot g.R.Rack.told old new h lo (now t) stands) in
          sound_core_zero g.R.Rack.slot_count g.R.Rack.slot old c.requires.can (now t) (g.met.R.Rack.agrees (store_rack old.store) t tells) h lo stands counted.0 c.in_ok-checked.checked.report counted.1;
      ended = λ not. let till = c.in_ok-checked.ensures.ended not in (till.loses, record { there = till.there; absent = till.loses.failed.absent });
      same = λ whole. (c.in_ok-checked.ensures.kept whole).same;
    }

pub returns-in_err-checked : goal.returns-in_err-checked
returns-in_err-checked g c =
    let old = c.args.core.now in
    let new = c.count_all.new.core in
    let two = c.in_err-checked.ensures.two in
    let from = c.from_residual in
    record {
      leaves = record {
        slots = two.slots;
        spared = two.spared;
        still_synced = two.synced;
        copied = two.copied;
        two = handed (AreTwoDown (core_down old) (g.R.Rack.slot (store_rack old.store)) (g.R.Rack.slot (store_rack new.store))) from.result _ from.ensures.1 two.down;
        tells = handed (CoreTellsLosses g.R.Rack.told (named_out old.meta.out) old new) from.result _ from.ensures.1 two.tells;
        calls = two.calls;
        reads = two.reads;
        moments = λ h lo. held_beside g.R.Rack.slot_count g.R.Rack.slot g.R.Rack.told old new (CoreStandsFor g.R.Rack.slot_count old h lo) h lo (two.held h lo);
        moments_since = two.held;
      };
      serves = none_done _ from.result _ from.ensures.1;
      by_table = none_done_if _ from.result _ from.ensures.1;
      counts = none_done_if _ from.result _ from.ensures.1;
      most = none_done_if _ from.result _ from.ensures.1;
      zeros = none_done_if _ from.result _ from.ensures.1;
      ended = none_done_if _ from.result _ from.ensures.1;
      same = none_done_if _ from.result _ from.ensures.1;
    }
