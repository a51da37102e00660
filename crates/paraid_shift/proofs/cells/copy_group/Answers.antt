use Rattle.paraid_core.proofs.StepLemmas.{unmarked, leaves_then, marked_from_setup, two_then}
use Rattle.paraid_view.proofs.TwoLemmas.{spared_then}
use Rattle.paraid_txn.specs.Stores.{store_rack}
use Rattle.paraid_shift.proofs.MovingLemmas.{group_same, out_stays, some_more}
use Rattle.paraid_shift.specs.Units.{IsGroupOf, are_copied_before}
use Rattle.std.proofs.Common.{◌≡◌, ◌<◌, ◌∙◌, sym, subst}
use Rattle.paraid_base.specs.declared.state.Out.TheVariants.{No}
use Rattle.paraid_record.specs.declared.meta.Setup.{Setup}
use Rattle.paraid_core.specs.declared.staged.Core.{Core}
use Rattle.paraid_core.specs.Calls.{MakesDataCalls}
use Rattle.paraid_core.specs.CoreInvariant.{AreCopiesSynced}
use Rattle.paraid_core.specs.Lost.{CoreMarksLost}
use Rattle.paraid_core.specs.Steps.{LeavesCore}
use Rattle.std.specs.Prelude.{◌≢◌}
use Rattle.paraid_shift.proofs.PartLemmas.{spares_done, spares_failed, spares_raised}
use Rattle.paraid_core.proofs.ErrLemmas.{none_done, none_done_if}
use Rattle.paraid_shift.proofs.AnswerLemmas.{none_more}
use Rattle.paraid_core.proofs.KindLemmas.{calls_then}
use Rattle.paraid_core.proofs.LostMarkLemmas.{marks_then}
use Rattle.paraid_event.specs.CoreServing.{IsCoreServing, IsHeldFromRest, StandsFromRest}
use Rattle.paraid_shift.specs.Rising.{CopiesFromRest}
use Rattle.paraid_shift.specs.declared.cells.Group.{Group}
use Rattle.paraid_shift.proofs.CopiedLemmas.{copies_then, held_from_then, stands_from_held, stands_from_then, syncs_are_data}
use Rattle.paraid_event.proofs.CoreServingLemmas.{serving_left}
use Rattle.paraid_shift.proofs.cells.copy_group.Given.{Over}
use Rattle.paraid_shift.proofs.MovedLossLemmas.{copies_tell_then}
use Rattle.paraid_shift.proofs.cells.copy_group.Goals as goal
use Rattle.paraid_shift.proofs.cells.copy_group.Goals.{After-out}

-- the cells are copied, or a disk was lost, and the disks are synced
module _ (g : Over) (c : After-out g) where
  abbrev a : Core g.row.R.Denot g.R.Rack
  a = c.args.core.now

  abbrev b : Core g.row.R.Denot g.R.Rack
  b = c.copy_cells.new.core

  abbrev d : Core g.row.R.Denot g.R.Rack
  d = c.settle.new.self

  left : LeavesCore g.R.Rack.slot_count g.R.Rack.slot a d
  left = leaves_then g.R.Rack.slot_count g.R.Rack.slot g.R.Rack.told a b c.in_ok-copied.ensures.copies.leaves d c.in_ok-settle.ensures.keeps.stays.leaves

  synced : AreCopiesSynced d.meta.setup.geometry.disks d.copied
  synced e low = c.in_ok-settle.ensures.copies_synced e (subst (λ (z : Setup). e < z.geometry.disks) (marked_from_setup b.meta d.meta c.in_ok-settle.ensures.keeps.stays.leaves.meta) low)

  serving : IsCoreServing g.R.Rack.slot_count g.R.Rack.slot d
  serving = serving_left g.R.Rack.slot_count g.R.Rack.slot a d left c.requires.can.serving synced

  calls : MakesDataCalls g.R.Rack.told a d
  calls =
      calls_then _ _ _ _ c.copy_cells.ensures.copies.calls
      (syncs_are_data a.meta b.meta b.copied (marked_from_setup a.meta b.meta c.in_ok-copied.ensures.copies.leaves.meta) c.requires.can.whole _ _ c.settle.ensures.calls)

  marks : CoreMarksLost g.R.Rack.slot a d
  marks = marks_then _ _ _ _ _ _ c.in_ok-copied.ensures.copies.marks c.in_ok-settle.ensures.keeps.stays.losses.marks c.copy_cells.ensures.rack.spared c.settle.ensures.keeps.stays.losses.spared

  stands : StandsFromRest g.R.Rack.slot_count g.R.Rack.told a d
  stands = stands_from_then g.R.Rack.slot_count g.R.Rack.slot g.R.Rack.told a b d c.in_ok-copied.ensures.copies.leaves c.in_ok-copied.ensures.copies.stands c.in_ok-settle.ensures.keeps.stays.stands

  moments : IsHeldFromRest g.R.Rack.slot_count g.R.Rack.told a d
  moments = stands_from_held g.R.Rack.slot_count g.R.Rack.slot g.R.Rack.told a d stands

pub copy_cells-requires : goal.copy_cells-requires
copy_cells-requires g c = record { can = c.requires.can }

pub returns-in_err-copied : goal.returns-in_err-copied
returns-in_err-copied g c =
    let call = c.copy_cells.ensures in
    let from = c.from_residual in
    record {
      serving = none_done _ from.result _ from.ensures.1;
      copies = record {
        leaves = none_done _ from.result _ from.ensures.1;
        marks = none_done _ from.result _ from.ensures.1;
        stands = none_done _ from.result _ from.ensures.1;
        calls = call.copies.calls;
        moments = call.copies.moments;
      };
      whole = none_done_if _ from.result _ from.ensures.1;
      group = none_done_if _ from.result _ from.ensures.1;
      lost = none_done_if _ from.result _ from.ensures.1;
      rack = spares_raised from.result from.ensures.1 c.in_err-copied.ensures.rack c.in_err-copied.ensures.rack.loses;
      copied = none_done_if _ from.result _ from.ensures.1;
    }

pub returns-in_err-settle : goal.returns-in_err-settle
returns-in_err-settle g c =
    let a = c.args.core.now in
    let b = c.copy_cells.new.core in
    let new = c.settle.new.self in
    let call = c.copy_cells.ensures in
    let done = c.in_ok-copied.ensures in
    let all = c.settle.ensures in
    let from = c.from_residual-in_err-settle in
    record {
      serving = none_done _ from.result _ from.ensures.1;
      copies = record {
        leaves = none_done _ from.result _ from.ensures.1;
        marks = none_done _ from.result _ from.ensures.1;
        stands = none_done _ from.result _ from.ensures.1;
        calls = calls_then _ _ _ _ call.copies.calls (syncs_are_data a.meta b.meta b.copied (marked_from_setup a.meta b.meta done.copies.leaves.meta) c.requires.can.whole _ _ all.calls);
        moments = held_from_then g.R.Rack.slot_count g.R.Rack.slot g.R.Rack.told a b new done.copies.leaves done.copies.stands all.keeps.stays.moments;
      };
      whole = none_done_if _ from.result _ from.ensures.1;
      group = none_done_if _ from.result _ from.ensures.1;
      lost = none_done_if _ from.result _ from.ensures.1;
      rack = spares_failed from.result from.ensures.1 (all.keeps.stays.losses.slots ∙ call.rack.slots)
          (spared_then (g.R.Rack.slot (store_rack a.store)) (g.R.Rack.slot (store_rack b.store)) (g.R.Rack.slot (store_rack new.store)) call.rack.spared all.keeps.stays.losses.spared)
          (two_then g.R.Rack.slot_count g.R.Rack.slot g.R.Rack.told a b done.copies.leaves new all.keeps.stays.losses.spared _ c.in_err-settle.ensures.keeps.stays.losses.two)
          (copies_tell_then g.R.Rack.slot_count g.R.Rack.slot g.R.Rack.told g.met.R.Rack.agrees a b new _ c.requires.can.serving.ready done.copies.marks call.copies.calls c.in_err-settle.ensures.keeps.stays.losses.tells);
      copied = none_done_if _ from.result _ from.ensures.1;
    }

pub returns-in_default : goal.returns-in_default
returns-in_default g c = record {
  serving = serving g c.before;
  copies = record {
    leaves = left g c.before;
    marks = marks g c.before;
    stands = stands g c.before;
    calls = calls g c.before;
    moments = moments g c.before;
  };
  whole = tt;
  group = tt;
  lost = λ none. c.in_default.not-No (c.before.out.ensures ∙ none);
  rack = spares_done (left g c.before);
  copied = tt;
}

pub returns : goal.returns
returns g c =
    let a = c.args.core.now in
    let b = c.copy_cells.new.core in
    let d = c.settle.new.self in
    let done = c.in_ok-copied.ensures in
    let still : d.meta.out ≡ No = sym c.out.ensures ∙ c.in-No.is in
    let kept = left g c.before in
    record {
      serving = serving g c.before;
      copies = record {
        leaves = kept;
        marks = marks g c.before;
        stands = stands g c.before;
        calls = calls g c.before;
        moments = moments g c.before;
      };
      whole = some_more _ _ (λ it. d.meta.out ≡ No) (λ it was. still) done.group;
      group = some_more _ (λ (it : Group). IsGroupOf a.meta a.dirty c.args.most it.count it.row it.disk) (λ (it : Group). IsGroupOf d.meta d.dirty c.args.most it.count it.row it.disk)
          (λ it was. group_same a.meta d.meta a.dirty d.dirty c.args.most it.count it.row it.disk (unmarked a.meta d.meta kept.meta still) kept.table was) done.group;
      lost = none_more _ (b.meta.out ≢ No) (d.meta.out ≢ No) (λ out. out_stays b.meta d.meta c.in_ok-settle.ensures.keeps.stays.leaves.meta out) done.lost;
      rack = spares_done kept;
      copied = some_more _ (λ (it : Group). CopiesFromRest g.R.Rack.slot_count g.R.Rack.told a b (are_copied_before a.meta it.row it.disk)) (λ (it : Group). CopiesFromRest g.R.Rack.slot_count g.R.Rack.told a d (are_copied_before a.meta it.row it.disk))
          (λ it was. copies_then g.R.Rack.slot_count g.R.Rack.slot g.R.Rack.told a b d done.copies.leaves (are_copied_before a.meta it.row it.disk) was (λ h lo. (c.in_ok-settle.ensures.keeps.cells still).1 h lo (are_copied_before a.meta it.row it.disk)))
          done.copied;
    }

pub settle-requires : goal.settle-requires
settle-requires g c = record { ready = c.in_ok-copied.ensures.copies.leaves.ready; still = c.in_ok-copied.ensures.copies.leaves.still }
