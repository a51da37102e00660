use Rattle.paraid_shift.proofs.StepsLemmas.{copies_are_steps, stripes_wait}
use Rattle.std.specs.Prelude.{ℕ, ◌⊎◌, ◌≢◌, true, false, Some}
use Rattle.std.proofs.Common.{◌≡◌, ◌<◌, ◌∙◌, sym, ap, subst, Ok}
use Rattle.paraid_base.specs.History.{History}
use Rattle.paraid_base.specs.States.{has_out}
use Rattle.paraid_rack.specs.Disks.{is_present}
use Rattle.paraid_rack.specs.Told.{CrashTriple, Ran}
use Rattle.paraid_record.specs.declared.meta.Meta.{Meta}
use Rattle.paraid_record.specs.declared.meta.Setup.{Setup}
use Rattle.paraid_image.specs.Out.{named_out}
use Rattle.paraid_txn.specs.Losses.{OnlyLosesSlots}
use Rattle.paraid_txn.specs.Stores.{named_of, store_rack}
use Rattle.paraid_view.proofs.TwoLemmas.{spared_then}
use Rattle.paraid_core.specs.declared.staged.Core.{Core}
use Rattle.paraid_core.specs.Cores.{IsCoreHeldSinceCommit, CoreStandsFor}
use Rattle.paraid_core.specs.CoreInvariant.{AreCopiesSynced}
use Rattle.paraid_core.specs.Fills.{Filled}
use Rattle.paraid_core.specs.Steps.{LeavesCore}
use Rattle.paraid_shift.proofs.PartLemmas.{spares_done, spares_failed, spares_raised}
use Rattle.paraid_core.specs.Calls.{MakesDataCalls}
use Rattle.paraid_core.specs.Lost.{CoreMarksLost}
use Rattle.paraid_core.proofs.KindLemmas.{calls_then}
use Rattle.paraid_core.proofs.LostMarkLemmas.{marks_then}
use Rattle.paraid_core.proofs.StepLemmas.{held_runs_then, leaves_then, marked_from_setup, runs_then, two_then, unmarked}
use Rattle.paraid_event.specs.CoreServing.{IsCoreServing, LeavesArray, RestsInShift}
use Rattle.paraid_shift.proofs.CopiedLemmas.{syncs_are_data}
use Rattle.paraid_event.proofs.CoreServingLemmas.{array_left, array_marked, leaves_array_then, out_none, serving_left, serving_marked}
use Rattle.paraid_base.specs.declared.state.Out.{Out}
use Rattle.paraid_base.specs.declared.state.Out.TheVariants.{Fresh, Gone, No}
use Rattle.paraid_core.proofs.ErrLemmas.{none_done_if}
use Rattle.paraid_moves.specs.MoveMetas.{filled_to}
use Rattle.paraid_shift.proofs.MovingLemmas.{out_stays}
use Rattle.paraid_shift.specs.Outcomes.{MarksStripes}
use Rattle.paraid_shift.proofs.stripes.move_stripes.Given.{Over}
use Rattle.paraid_shift.proofs.MovedLossLemmas.{copies_lose, copies_tell_then}
use Rattle.paraid_shift.proofs.stripes.move_stripes.Goals as goal
use Rattle.paraid_shift.proofs.stripes.move_stripes.Goals.{In_ok-settle}

-- the stripes are copied, or a disk was lost, and the disks are synced
module _ (g : Over) (c : In_ok-settle g) where
  abbrev a : Core g.row.R.Denot g.R.Rack
  a = c.args.core.now

  abbrev b : Core g.row.R.Denot g.R.Rack
  b = c.fill_stripes.new.core

  abbrev d : Core g.row.R.Denot g.R.Rack
  d = c.settle.new.self

  left : LeavesCore g.R.Rack.slot_count g.R.Rack.slot a d
  left = leaves_then g.R.Rack.slot_count g.R.Rack.slot g.R.Rack.told a b c.in_ok-done.ensures.copies.leaves d c.in_ok-settle.ensures.keeps.stays.leaves

  synced : AreCopiesSynced d.meta.setup.geometry.disks d.copied
  synced e low = c.in_ok-settle.ensures.copies_synced e (subst (λ (z : Setup). e < z.geometry.disks) (marked_from_setup b.meta d.meta c.in_ok-settle.ensures.keeps.stays.leaves.meta) low)

  serving : IsCoreServing g.R.Rack.slot_count g.R.Rack.slot d
  serving = serving_left g.R.Rack.slot_count g.R.Rack.slot a d left c.requires.can.serving synced

  array : LeavesArray g.R.Rack.slot_count g.R.Rack.slot a d
  array = array_left g.R.Rack.slot_count g.R.Rack.slot a d left

  stands : (h : History) (lo : ℕ) → Ran (g.R.Rack.told (store_rack a.store)) (g.R.Rack.told (store_rack d.store)) (CrashTriple (IsCoreHeldSinceCommit g.R.Rack.slot_count a h lo) (RestsInShift g.R.Rack.slot_count a h lo) (CoreStandsFor g.R.Rack.slot_count d h lo))
  stands h lo =
      runs_then g.R.Rack.slot_count g.R.Rack.slot g.R.Rack.told a b c.in_ok-done.ensures.copies.leaves d (RestsInShift g.R.Rack.slot_count a h lo) (CoreStandsFor g.R.Rack.slot_count b h lo) (CoreStandsFor g.R.Rack.slot_count d h lo) h lo
      (c.in_ok-done.ensures.copies.stands h lo) (c.in_ok-settle.ensures.keeps.stays.stands h lo)

  calls : MakesDataCalls g.R.Rack.told a d
  calls =
      calls_then _ _ _ _ c.fill_stripes.ensures.copies.calls
      (syncs_are_data a.meta b.meta b.copied (marked_from_setup a.meta b.meta c.in_ok-done.ensures.copies.leaves.meta) c.requires.can.whole _ _ c.settle.ensures.calls)

  marks : CoreMarksLost g.R.Rack.slot a d
  marks = marks_then _ _ _ _ _ _ c.in_ok-done.ensures.copies.marks c.in_ok-settle.ensures.keeps.stays.losses.marks c.fill_stripes.ensures.rack.spared c.settle.ensures.keeps.stays.losses.spared

pub fill_stripes-requires : goal.fill_stripes-requires
fill_stripes-requires g c = record { can = c.requires.can; stripes = c.requires.stripes }

pub returns-in_err-done : goal.returns-in_err-done
returns-in_err-done g c =
    let a = c.args.core.now in
    let new = c.fill_stripes.new.core in
    let call = c.fill_stripes.ensures in
    let from = c.from_residual in
    record {
      marks = none_done_if _ from.result _ from.ensures.1;
      rack = spares_raised from.result from.ensures.1 c.in_err-done.ensures.rack
          (copies_lose g.R.Rack.slot_count g.R.Rack.told a new _ c.requires.can.nothing call.copies.calls call.copies.moments c.in_err-done.ensures.rack.loses);
    }

pub returns-in_err-settle : goal.returns-in_err-settle
returns-in_err-settle g c =
    let a = c.args.core.now in
    let b = c.fill_stripes.new.core in
    let new = c.settle.new.self in
    let call = c.fill_stripes.ensures in
    let done = c.in_ok-done.ensures in
    let from = c.from_residual-in_err-settle in
    record {
      marks = none_done_if _ from.result _ from.ensures.1;
      rack = spares_failed from.result from.ensures.1 (c.settle.ensures.keeps.stays.losses.slots ∙ call.rack.slots)
          (spared_then (g.R.Rack.slot (store_rack a.store)) (g.R.Rack.slot (store_rack b.store)) (g.R.Rack.slot (store_rack new.store)) call.rack.spared c.settle.ensures.keeps.stays.losses.spared)
          (two_then g.R.Rack.slot_count g.R.Rack.slot g.R.Rack.told a b done.copies.leaves new c.settle.ensures.keeps.stays.losses.spared _ c.in_err-settle.ensures.keeps.stays.losses.two)
          (copies_lose g.R.Rack.slot_count g.R.Rack.told a new _ c.requires.can.nothing
          (calls_then _ _ _ _ call.copies.calls (syncs_are_data a.meta b.meta b.copied (marked_from_setup a.meta b.meta done.copies.leaves.meta) c.requires.can.whole _ _ c.settle.ensures.calls))
          (λ h lo.
          held_runs_then g.R.Rack.slot_count g.R.Rack.slot g.R.Rack.told a b done.copies.leaves new (RestsInShift g.R.Rack.slot_count a h lo) (CoreStandsFor g.R.Rack.slot_count b h lo) h lo
          (done.copies.stands h lo) (c.settle.ensures.keeps.stays.moments h lo))
          (copies_tell_then g.R.Rack.slot_count g.R.Rack.slot g.R.Rack.told g.met.R.Rack.agrees a b new _ c.requires.can.serving.ready done.copies.marks call.copies.calls c.in_err-settle.ensures.keeps.stays.losses.tells));
    }

has_some : (o : Out) → has_out o ≡ true → o ≢ No
has_some No is none = let z : false ≡ true = is in absurd cc
has_some (Gone d) is none = let z : Gone d ≡ No = none in cc
has_some (Fresh d u) is none = let z : Fresh d u ≡ No = none in cc

-- a disk was lost
failed : (g : Over) (c : In_ok-settle g) → c.settle.new.self.meta.out ≢ No → MarksStripes g.R.Rack.slot_count g.R.Rack.slot g.R.Rack.told c.args.core.now c.settle.new.self c.args.end false
failed g c out =
    let a = c.args.core.now in
    let d = c.settle.new.self in
    let l = left g c in
    record {
      serving = serving g c;
      leaves = array g c;
      absent = l.absent;
      nothing = l.batch ∙ c.requires.can.nothing;
      table = l.table;
      filled = λ is. let z : false ≡ true = is in absurd cc;
      waits = λ is. let z : false ≡ true = is in absurd cc;
      lost = λ is. l.meta;
      gone = λ is. out;
      steps = λ is.
          copies_are_steps g.R.Rack.slot_count g.R.Rack.slot g.R.Rack.told a d (g.met.R.Rack.agrees (store_rack a.store)) (g.met.R.Rack.agrees (store_rack d.store)) l.slots (marked_from_setup a.meta d.meta l.meta) l.ready (marks g c)
          c.requires.can.nothing (calls g c) (stands g c);
    }

pub returns-then-not-done : goal.returns-then-not-done
returns-then-not-done g c = record {
  marks = failed g c.before (out_stays _ _ c.in_ok-settle.ensures.keeps.stays.leaves.meta (c.in_ok-done.ensures.gone (ap Ok c.if-not-done.true)));
  rack = spares_done (left g c.before);
}

pub returns-then-is_any : goal.returns-then-is_any
returns-then-is_any g c = record {
  marks = failed g c.before.before.before.before (has_some _ (ap has_out (sym c.out.ensures) ∙ sym c.is_any.ensures ∙ c.if-is_any.true));
  rack = spares_done (left g c.before.before.before.before);
}

pub returns : goal.returns
returns g c =
    let a = c.args.core.now in
    let b = c.fill_stripes.new.core in
    let d = c.settle.new.self in
    let new = c.mark_filled.new.self in
    let at = c.before.before.before.before.before.before in
    let l = left g at in
    let marked = c.mark_filled.ensures in
    let still = out_none d.meta.out (ap has_out (sym c.out.ensures) ∙ sym c.is_any.ensures ∙ c.if-is_any.false) in
    let setup : new.meta.setup ≡ d.meta.setup = ap (λ (m : Meta). m.setup) marked.meta in
    let out : new.meta.out ≡ d.meta.out = ap (λ (m : Meta). m.out) marked.meta in
    record {
      marks = record {
        serving = serving_marked g.R.Rack.slot_count g.R.Rack.slot d new marked.marks.store setup out (serving g at) marked.marks.staged.copied marked.marks.staged.draft marked.marks.ready (marked.serves (serving g at).serves);
        leaves = leaves_array_then g.R.Rack.slot_count g.R.Rack.slot a d new (array g at) (array_marked g.R.Rack.slot_count g.R.Rack.slot d new marked.marks.store setup out (ap (λ (m : Meta). m.version) marked.meta) (ap (λ (m : Meta). m.writes) marked.meta));
        absent = λ before e is.
            subst (λ (z : _). (named_of z ≡ Some e) ⊎ (is_present (g.R.Rack.slot (store_rack z) e).power ≡ false)) (sym marked.marks.store) (l.absent before e (sym (ap (λ (m : Meta). named_out m.out) marked.meta) ∙ is));
        nothing = marked.marks.staged.batch ∙ l.batch ∙ c.requires.can.nothing;
        table = marked.marks.staged.table ∙ l.table;
        filled = λ is. marked.meta ∙ ap (λ (m : Meta). filled_to m c.args.end) (unmarked a.meta d.meta l.meta still);
        waits = λ is.
            stripes_wait g.R.Rack.slot_count g.R.Rack.slot g.R.Rack.told a d new (g.met.R.Rack.agrees (store_rack a.store)) (g.met.R.Rack.agrees (store_rack d.store)) l.slots (marked_from_setup a.meta d.meta l.meta) l.ready (marks g at)
            c.args.end marked.marks.store still marked.meta c.requires.can.nothing (calls g at) (stands g at)
            (λ h lo.
            runs_then g.R.Rack.slot_count g.R.Rack.slot g.R.Rack.told a d l new (RestsInShift g.R.Rack.slot_count a h lo) (Filled g.R.Rack.slot_count d h lo c.args.end) (CoreStandsFor g.R.Rack.slot_count new h lo) h lo
            (runs_then g.R.Rack.slot_count g.R.Rack.slot g.R.Rack.told a b c.in_ok-done.ensures.copies.leaves d (RestsInShift g.R.Rack.slot_count a h lo) (Filled g.R.Rack.slot_count b h lo c.args.end) (Filled g.R.Rack.slot_count d h lo c.args.end) h lo
            (c.in_ok-done.ensures.filled (ap Ok c.if-not-done.false) h lo) ((c.in_ok-settle.ensures.keeps.filled still).1 h lo c.args.end))
            (marked.stands h lo));
        lost = λ is. let z : true ≡ false = is in absurd cc;
        gone = λ is. let z : true ≡ false = is in absurd cc;
        steps = λ is. let z : true ≡ false = is in absurd cc;
      };
      rack = record {
        slots = ap (λ (z : _). g.R.Rack.slot_count (store_rack z)) marked.marks.store ∙ l.slots;
        spared = subst (λ (z : _). OnlyLosesSlots (g.R.Rack.slot (store_rack a.store)) (g.R.Rack.slot (store_rack z))) (sym marked.marks.store) l.spared;
        two = tt;
        loses = tt;
      };
    }

pub settle-requires : goal.settle-requires
settle-requires g c = record { ready = c.in_ok-done.ensures.copies.leaves.ready; still = c.in_ok-done.ensures.copies.leaves.still }
