use Rattle.std.specs.Prelude.{◌≤◌, length, ◌+◌}
use Rattle.std.proofs.Common.{◌≡◌, ◌∙◌, sym, ap, subst, arith, inl, inr}
use Rattle.std.proofs.lemmas.Bool.{cases_eq}
use Rattle.paraid_base.specs.declared.state.Out.TheVariants.{No}
use Rattle.paraid_record.specs.declared.meta.Meta.{Meta}
use Rattle.paraid_txn.specs.Stores.{store_rack}
use Rattle.paraid_shift.proofs.PartLemmas.{spares_done, spares_raised}
use Rattle.paraid_core.proofs.ErrLemmas.{none_done_if}
use Rattle.paraid_shift.proofs.AnswerLemmas.{none_at}
use Rattle.paraid_core.proofs.StepLemmas.{unmarked}
use Rattle.paraid_core.specs.Steps.{IsMarkedFrom}
use Rattle.paraid_shift.specs.Rising.{KeepsCopied}
use Rattle.paraid_shift.specs.Units.{AreCellsDone, are_copied_before}
use Rattle.paraid_shift.proofs.CopiedLemmas.{copies_stand, copies_then}
use Rattle.paraid_shift.proofs.MovedLossLemmas.{copies_lose}
use Rattle.paraid_shift.proofs.MovingLemmas.{core_moves_none, core_moves_so, core_moves_then, some_at}
use Rattle.paraid_shift.proofs.OutcomeLemmas.{calls_marked, le_then, leaves_marked, lost_marked, named_marked, spared_marked}
use Rattle.paraid_event.proofs.CoreServingLemmas.{array_left}
use Rattle.paraid_shift.proofs.StepsLemmas.{copies_are_steps}
use Rattle.paraid_shift.proofs.cells.move_group.Goals as goal
use Rattle.paraid_base.specs.Log.{batch_room}

pub copy_group-requires : goal.copy_group-requires
copy_group-requires g c = record { can = c.requires.can }

pub mark_cells-requires : goal.mark_cells-requires
mark_cells-requires g c = record { serving = c.in_ok-copied.ensures.serving; whole = some_at _ _ _ c.in-Some.is c.in_ok-copied.ensures.whole }

pub returns-in_err-copied : goal.returns-in_err-copied
returns-in_err-copied g c =
    let a = c.args.core.now in
    let new = c.copy_group.new.core in
    let call = c.copy_group.ensures in
    record {
      marks = none_done_if _ c.from_residual.result _ c.from_residual.ensures.1;
      rack = spares_raised c.from_residual.result c.from_residual.ensures.1 c.in_err-copied.ensures.rack
          (copies_lose g.R.Rack.slot_count g.R.Rack.told a new _ c.requires.can.nothing call.copies.calls call.copies.moments c.in_err-copied.ensures.rack.loses);
    }

pub returns-in_default : goal.returns-in_default
returns-in_default g c =
    let a = c.args.core.now in
    let b = c.copy_group.new.core in
    let call = c.copy_group.ensures in
    let done = c.in_ok-copied.ensures in
    let array = array_left g.R.Rack.slot_count g.R.Rack.slot a b done.copies.leaves in
    record {
      marks = record {
        serving = done.serving;
        leaves = array;
        absent = done.copies.leaves.absent;
        meta = done.copies.leaves.meta;
        few = omega arith;
        moves = core_moves_none g.R.Rack.slot_count a b a.meta.epoch c.requires.can.whole done.copies.leaves.meta done.copies.leaves.table;
        whole = λ some. absurd (omega arith);
        idle = λ none. done.copies.leaves.batch ∙ c.requires.can.nothing;
        all = λ none whole. absurd (none_at _ _ c.in_default.is done.lost whole);
        steps = copies_are_steps g.R.Rack.slot_count g.R.Rack.slot g.R.Rack.told a b (g.met.R.Rack.agrees (store_rack a.store)) (g.met.R.Rack.agrees (store_rack b.store)) array.slots array.setup done.serving.ready done.copies.marks
            c.requires.can.nothing call.copies.calls done.copies.stands;
      };
      rack = spares_done done.copies.leaves;
    }

pub returns : goal.returns
returns g c =
    let a = c.args.core.now in
    let b = c.copy_group.new.core in
    let new = c.mark_cells.new.core in
    let call = c.copy_group.ensures in
    let done = c.in_ok-copied.ensures in
    let left = done.copies.leaves in
    let marks = c.mark_cells.ensures in
    let whole : b.meta.out ≡ No = some_at _ _ _ c.in-Some.is done.whole in
    let group = some_at _ _ _ c.in-Some.is done.group in
    let cells = are_copied_before a.meta c.in-Some.group.row c.in-Some.group.disk in
    let same = unmarked a.meta b.meta left.meta whole in
    let moved = leaves_marked a b new marks.store marks.meta g.R.Rack.slot_count g.R.Rack.slot (array_left g.R.Rack.slot_count g.R.Rack.slot a b left) in
    record {
      marks = record {
        serving = marks.serving;
        leaves = moved;
        absent = λ was. named_marked a b new marks.store marks.meta g.R.Rack.slot (left.absent was);
        meta = subst (IsMarkedFrom a.meta) (sym marks.meta) left.meta;
        few = le_then _ _ _ marks.few group.few;
        moves = core_moves_so g.R.Rack.slot_count a new _ _ (omega arith)
            (core_moves_then g.R.Rack.slot_count a b new 0 c.mark_cells.result (core_moves_none g.R.Rack.slot_count a b a.meta.epoch c.requires.can.whole left.meta left.table) whole (ap (λ (m : Meta). m.setup) same) marks.moves);
        whole = λ some. ap (λ (m : Meta). m.out) marks.meta ∙ whole;
        idle = λ none. ap (λ (z : _). z.batch) (marks.idle none) ∙ left.batch ∙ c.requires.can.nothing;
        all = λ none still. elim (cases_eq c.in-Some.group.count 0) [
          | inl empty ↦ elim (group.some empty) [
            | inl few ↦ inl few
            | inr clean ↦ inr (subst (λ (z : _). AreCellsDone z.meta z.dirty) (sym (marks.idle none)) clean)
          ]
          | inr some ↦ absurd (let marked = marks.some (subst (λ (l : _). length l + 2 ≤ batch_room) (sym (left.batch ∙ c.requires.can.nothing)) (omega arith)) (omega arith) (group.before (omega arith)) in omega (arith, marked, none))
        ];
        steps = copies_are_steps g.R.Rack.slot_count g.R.Rack.slot g.R.Rack.told a new (g.met.R.Rack.agrees (store_rack a.store)) (g.met.R.Rack.agrees (store_rack new.store))
            moved.slots moved.setup marks.serving.ready (lost_marked a b new marks.store marks.meta g.R.Rack.slot done.copies.marks) c.requires.can.nothing (calls_marked a b new marks.store marks.meta g.R.Rack.told call.copies.calls)
            (copies_stand g.R.Rack.slot_count g.R.Rack.slot g.R.Rack.told a new cells
            (copies_then g.R.Rack.slot_count g.R.Rack.slot g.R.Rack.told a b new left cells (some_at _ _ _ c.in-Some.is done.copied)
            (subst (λ (m : Meta). KeepsCopied g.R.Rack.slot_count g.R.Rack.told b new (are_copied_before m c.in-Some.group.row c.in-Some.group.disk)) same marks.copied)));
      };
      rack = record {
        slots = moved.slots;
        spared = spared_marked a b new marks.store marks.meta g.R.Rack.slot call.rack.spared;
        two = tt;
        loses = tt;
      };
    }
