use Rattle.std.proofs.Common.{◌≡◌, ◌<◌, ◌≤◌, ℕ, ◌∙◌, refl, arith, Ok, ap, inl, inr}
use Rattle.paraid_image.specs.Out.{named_out}
use Rattle.paraid_record.specs.declared.meta.Meta.{Meta}
use Rattle.paraid_txn.specs.Stores.{store_rack}
use Rattle.paraid_view.proofs.TwoLemmas.{spared_then}
use Rattle.paraid_shift.proofs.PartLemmas.{spares_done, spares_failed}
use Rattle.paraid_core.proofs.ErrLemmas.{none_done, none_done_if}
use Rattle.paraid_shift.proofs.AnswerLemmas.{none_at}
use Rattle.paraid_core.proofs.KindLemmas.{calls_none, calls_then, data_same}
use Rattle.paraid_core.proofs.LostMarkLemmas.{marks_none, marks_then}
use Rattle.paraid_core.proofs.StepLemmas.{held_runs_then, leaves_none, leaves_then, runs_then, two_then}
use Rattle.paraid_event.specs.CoreServing.{RestsInShift}
use Rattle.paraid_shift.specs.Units.{are_copied_before}
use Rattle.paraid_shift.proofs.CopiedLemmas.{copied_at, copies_more, copies_none, copies_stand, stands_from_held}
use Rattle.paraid_shift.proofs.MovingLemmas.{clean_from, named_not, one_before}
use Rattle.paraid_shift.proofs.MovedLossLemmas.{copies_tell_then}
use Rattle.paraid_shift.proofs.cells.copy_cells.Goals as goal

pub loop-at-init : goal.loop-at-init
loop-at-init g c =
    let a = c.args.core.now in
    record {
      leaves = leaves_none g.R.Rack.slot_count g.R.Rack.slot g.R.Rack.told a c.requires.can.serving.ready c.requires.can.serving.serves.stays;
      meta = refl;
      units = refl;
      disk = omega arith;
      start = λ none. (refl, refl, refl);
      before = λ some. absurd (omega arith);
      calls = calls_none _ (g.R.Rack.told (store_rack a.store));
      marks = marks_none a.meta a.meta _ _ a.meta.epoch a.meta.writes (λ d. refl) refl;
      copied = copies_none g.R.Rack.slot_count g.R.Rack.slot g.R.Rack.told a c.requires.can.nothing;
    }

pub returns-in_err-done : goal.returns-in_err-done
returns-in_err-done g c =
    let a = c.args.core.now in
    let b = c.loop-at.core in
    let new = c.copy_cell.new.self in
    let was = c.loop-at.invariant in
    let all = c.copy_cell.ensures in
    let from = c.from_residual in
    record {
      copies = record {
        leaves = none_done _ from.result _ from.ensures.1;
        marks = none_done _ from.result _ from.ensures.1;
        stands = none_done _ from.result _ from.ensures.1;
        calls = calls_then _ _ _ _ was.calls (data_same b.meta a.meta was.meta _ _ all.copies.calls);
        moments = λ h lo.
            held_runs_then g.R.Rack.slot_count g.R.Rack.slot g.R.Rack.told a b was.leaves new (RestsInShift g.R.Rack.slot_count a h lo) _ h lo (was.copied h lo)
            ((all.held (are_copied_before a.meta c.loop-at.group.row c.loop-at.group.disk)).moments h lo);
      };
      group = none_done_if _ from.result _ from.ensures.1;
      lost = none_done_if _ from.result _ from.ensures.1;
      rack = spares_failed from.result from.ensures.1 (all.copies.losses.slots ∙ was.leaves.slots)
          (spared_then (g.R.Rack.slot (store_rack a.store)) (g.R.Rack.slot (store_rack b.store)) (g.R.Rack.slot (store_rack new.store)) was.leaves.spared all.copies.losses.spared)
          (two_then g.R.Rack.slot_count g.R.Rack.slot g.R.Rack.told a b was.leaves new all.copies.losses.spared _ c.in_err-done.ensures.copies.losses.two)
          (copies_tell_then g.R.Rack.slot_count g.R.Rack.slot g.R.Rack.told g.met.R.Rack.agrees a b new _ c.requires.can.serving.ready was.marks was.calls c.in_err-done.ensures.copies.losses.tells);
      copied = none_done_if _ from.result _ from.ensures.1;
    }

pub returns-then-not-done : goal.returns-then-not-done
returns-then-not-done g c =
    let a = c.args.core.now in
    let b = c.loop-at.core in
    let new = c.copy_cell.new.self in
    let was = c.loop-at.invariant in
    let all = c.copy_cell.ensures in
    let done = c.in_ok-done.ensures in
    let cells = are_copied_before a.meta c.loop-at.group.row c.loop-at.group.disk in
    record {
      copies = record {
        leaves = leaves_then g.R.Rack.slot_count g.R.Rack.slot g.R.Rack.told a b was.leaves new done.copies.leaves;
        marks = marks_then _ _ _ _ _ _ was.marks done.copies.losses.marks was.leaves.spared all.copies.losses.spared;
        stands = λ h lo.
            runs_then g.R.Rack.slot_count g.R.Rack.slot g.R.Rack.told a b was.leaves new (RestsInShift g.R.Rack.slot_count a h lo) _ _ h lo (was.copied h lo) ((done.held cells).lost (ap Ok c.if-not-done.true) h lo);
        calls = calls_then _ _ _ _ was.calls (data_same b.meta a.meta was.meta _ _ all.copies.calls);
        moments = λ h lo.
            held_runs_then g.R.Rack.slot_count g.R.Rack.slot g.R.Rack.told a b was.leaves new (RestsInShift g.R.Rack.slot_count a h lo) _ h lo (was.copied h lo) ((all.held cells).moments h lo);
      };
      group = tt;
      lost = let lost = done.failed (ap Ok c.if-not-done.true) in named_not new.meta.out lost.disk (ap (λ (m : Meta). named_out m.out) lost.gone);
      rack = record {
        slots = all.copies.losses.slots ∙ was.leaves.slots;
        spared = spared_then (g.R.Rack.slot (store_rack a.store)) (g.R.Rack.slot (store_rack b.store)) (g.R.Rack.slot (store_rack new.store)) was.leaves.spared all.copies.losses.spared;
        two = tt;
        loses = tt;
      };
      copied = tt;
    }

below : (count at most : ℕ) → count ≡ at → at < most → count ≤ most
below count at most is low = omega arith

at_end : (count at most : ℕ) → count ≡ at → at ≤ most → count ≤ most
at_end count at most is low = omega arith

none_asked : (count at most : ℕ) → count ≡ at → most ≤ at → count ≡ 0 → most ≡ 0
none_asked count at most is past none = omega arith

not_both : (count : ℕ) → 0 < count → count ≡ 0 → ⊥
not_both count some none = omega arith

pub returns-in_default : goal.returns-in_default
returns-in_default g c =
    let a = c.args.core.now in
    let b = c.loop-at.core in
    let was = c.loop-at.invariant in
    let stands = copies_stand g.R.Rack.slot_count g.R.Rack.slot g.R.Rack.told a b _ was.copied in
    record {
      copies = record {
        leaves = was.leaves;
        marks = was.marks;
        stands = stands;
        calls = was.calls;
        moments = stands_from_held g.R.Rack.slot_count g.R.Rack.slot g.R.Rack.told a b stands;
      };
      group = record {
        few = below _ _ _ was.units c.loop-at-test.true;
        some = λ none. inr (clean_from a.meta b.meta a.dirty b.dirty _ _ was.meta was.leaves.table (was.start none).0 (was.start none).1 (none_at _ _ c.in_default.is c.next_cell.ensures.none));
        before = was.before;
      };
      lost = tt;
      rack = spares_done was.leaves;
      copied = was.copied;
    }

pub returns-in_default-with_cell : goal.returns-in_default-with_cell
returns-in_default-with_cell g c =
    let a = c.args.core.now in
    let b = c.loop-at.core in
    let was = c.loop-at.invariant in
    let stands = copies_stand g.R.Rack.slot_count g.R.Rack.slot g.R.Rack.told a b _ was.copied in
    record {
      copies = record {
        leaves = was.leaves;
        marks = was.marks;
        stands = stands;
        calls = was.calls;
        moments = stands_from_held g.R.Rack.slot_count g.R.Rack.slot g.R.Rack.told a b stands;
      };
      group = record {
        few = below _ _ _ was.units c.loop-at-test.true;
        some = λ none. absurd (not_both _ (none_at _ _ c.in_default-with_cell.is c.with_cell.ensures.some) none);
        before = was.before;
      };
      lost = tt;
      rack = spares_done was.leaves;
      copied = was.copied;
    }

pub returns : goal.returns
returns g c =
    let a = c.args.core.now in
    let b = c.loop-at.core in
    let was = c.loop-at.invariant in
    let stands = copies_stand g.R.Rack.slot_count g.R.Rack.slot g.R.Rack.told a b _ was.copied in
    record {
      copies = record {
        leaves = was.leaves;
        marks = was.marks;
        stands = stands;
        calls = was.calls;
        moments = stands_from_held g.R.Rack.slot_count g.R.Rack.slot g.R.Rack.told a b stands;
      };
      group = record {
        few = at_end _ _ _ was.units c.loop-at.auto.at-end;
        some = λ none. inl (none_asked _ _ _ was.units c.loop-at-test.false none);
        before = was.before;
      };
      lost = tt;
      rack = spares_done was.leaves;
      copied = was.copied;
    }

pub loop-at-preserved : goal.loop-at-preserved
loop-at-preserved g c =
    let a = c.args.core.now in
    let b = c.loop-at.core in
    let new = c.copy_cell.new.self in
    let was = c.loop-at.invariant in
    let call = c.in_ok-done.ensures in
    let first = c.in-Some.ensures.first in
    let more = c.in-Some-with_cell.ensures in
    record {
      leaves = leaves_then g.R.Rack.slot_count g.R.Rack.slot g.R.Rack.told a b was.leaves new call.copies.leaves;
      meta = call.copies.same (ap Ok c.if-not-done.false) ∙ was.meta;
      units = let n = was.units in let one = more.count in omega (arith, n, one);
      disk = let one = more.disk in let low = c.in-Some.ensures.disk in omega (arith, one, low);
      start = λ none. absurd (let one = more.count in omega (arith, one, none));
      before = λ some. one_before a.meta b.meta a.dirty b.dirty _ _ _ _ _ _ more.row more.disk was.meta was.leaves.table first;
      calls = calls_then _ _ _ _ was.calls (data_same b.meta a.meta was.meta _ _ c.copy_cell.ensures.copies.calls);
      marks = marks_then _ _ _ _ _ _ was.marks call.copies.losses.marks was.leaves.spared c.copy_cell.ensures.copies.losses.spared;
      copied = copied_at g.R.Rack.slot_count g.R.Rack.slot g.R.Rack.told a new _ _ _ _ more.row more.disk
          (copies_more g.R.Rack.slot_count g.R.Rack.slot g.R.Rack.told a b new was.leaves _ _ _ _ was.meta call.copies.leaves.table first was.copied (λ h lo cells. (call.held cells).copied (ap Ok c.if-not-done.false) h lo));
    }

pub copy_cell-requires : goal.copy_cell-requires
copy_cell-requires g c =
    let was = c.loop-at.invariant in
    let q = c.requires in
    let first = c.in-Some.ensures.first in
    record {
      serving = record {
        ready = was.leaves.ready;
        serves = was.leaves.serves q.can.serving.serves;
      };
      no_draft = was.leaves.draft ∙ q.can.serving.draft;
      cell = record {
        whole = ap (λ (m : Meta). m.out) was.meta ∙ q.can.whole;
        row = c.in-Some.ensures.row;
        past_gear = first.low;
        rises = first.high;
        dirty = first.is;
        nothing = was.leaves.batch ∙ q.can.nothing;
      };
    }
