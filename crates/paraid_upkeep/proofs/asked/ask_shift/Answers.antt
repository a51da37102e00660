use Rattle.std.proofs.Common.{◌≡◌, None, Some, Ok, [], ◌+◌, ◌∙◌, sym, ap, subst, refl, arith}
use Rattle.paraid_base.specs.declared.state.Out.TheVariants.{No}
use Rattle.paraid_base.specs.declared.state.Phase.TheVariants.{Steady}
use Rattle.paraid_record.specs.declared.meta.Meta.{Meta}
use Rattle.paraid_record.specs.Range.{IsInRange}
use Rattle.paraid_image.specs.Power.{PowerState}
use Rattle.paraid_upkeep.specs.Directions.{IsNextTo, IsRefusedTo, MayGo}
use Rattle.paraid_upkeep.specs.Refusals.{IsShiftStateOf}
use Rattle.paraid_upkeep.specs.declared.fault.ShiftFault.{ShiftFault}
use Rattle.paraid_upkeep.specs.declared.asked.ShiftOutcome.TheVariants.{Refused}
use Rattle.paraid_upkeep.proofs.AskedLemmas.{asked_begun, asked_halts, asked_lost, asked_marked, asked_same, asked_stays, asked_stopped, begun_epoch, begun_known, core_loses_then, known_marked, marked_lost, may_not, refused_same}
use Rattle.paraid_txn.specs.Stores.{store_rack}
use Rattle.paraid_core.proofs.AfterLemmas.{handed}
use Rattle.paraid_upkeep.proofs.CommitLemmas.{few_none, few_on, few_one, few_then, few_within}
use Rattle.paraid_upkeep.proofs.ResultLemmas.{none_done, none_done_if}
use Rattle.paraid_event.proofs.CoreServingLemmas.{leaves_array_none, leaves_array_then, none_away, two_array}
use Rattle.paraid_upkeep.proofs.ToldLemmas.{calls_none, extends_core, extends_cores, no_fall_then}
use Rattle.paraid_upkeep.proofs.asked.ask_shift.Goals as goal

pub gear_to-requires : goal.gear_to-requires
gear_to-requires g c = record { in_range = subst (λ (z : Meta). IsInRange z) (sym c.meta.ensures) c.requires.serving.ready.in_range }

pub returns-in-Err : goal.returns-in-Err
returns-in-Err g c =
    let a = c.args.core.now in
    record {
      serves = record {
        serving = c.requires.serving;
        leaves = leaves_array_none g.R.Rack.slot_count g.R.Rack.slot a;
        known = λ before. before;
        fits = λ f. f;
      };
      refused = λ fault s of why.
          let is = subst (λ (z : Meta). IsShiftStateOf z s) (sym c.meta.ensures) of in
          let told = subst (λ (z : Meta). IsRefusedTo c.args.direction z.setup s c.in-Err.fault) c.meta.ensures (c.in-Err.ensures.refused s is) in
          (ap (λ (z : ShiftFault). Ok (Refused z)) (refused_same c.args.direction a.meta.setup s c.in-Err.fault fault told why), refl);
      begins = λ to s of may.
          let is = subst (λ (z : Meta). IsShiftStateOf z s) (sym c.meta.ensures) of in
          absurd (may_not c.args.direction a.meta.setup s to c.in-Err.fault may (subst (λ (z : Meta). IsRefusedTo c.args.direction z.setup s c.in-Err.fault) c.meta.ensures (c.in-Err.ensures.refused s is)));
      marks = marked_lost c.args.direction a.meta a.meta c.in-Err.fault a.meta.epoch (record { lost = None; is = refl; alone = λ d x is. let z : None ≡ Some d = is in absurd cc });
      commits = few_none a a 2 refl;
      table = refl;
      turn = asked_stays g.R.Rack.slot_count g.R.Rack.told a c.args.direction c.in-Err.fault (subst (λ (z : Meta). (s : PowerState) → IsShiftStateOf z s → IsRefusedTo c.args.direction z.setup s c.in-Err.fault) c.meta.ensures c.in-Err.ensures.refused);
      halts = tt;
      out = λ not. refl;
      calls = calls_none g.R.Rack.slot_count g.R.Rack.slot g.R.Rack.told a;
      two = tt;
    }

pub commit_staged-requires : goal.commit_staged-requires
commit_staged-requires g c = record { serving = c.requires.serving; epoch = let e = c.requires.epoch in omega (arith, e) }

pub returns-in_err-commit_staged : goal.returns-in_err-commit_staged
returns-in_err-commit_staged g c =
    let a = c.args.core.now in
    let m = c.commit_staged.new.core in
    let steady = subst (λ (z : Meta). z.phase ≡ Steady) c.meta.ensures c.in_default.ensures.steady in
    let whole = subst (λ (z : Meta). z.out ≡ No) c.meta.ensures c.in_default.ensures.whole in
    let loses = c.in_err-commit_staged.ensures.rack.loses (none_away g.R.Rack.slot a whole) in
    record {
      serves = none_done _ c.from_residual.result _ c.from_residual.ensures.1;
      refused = λ fault s of why.
          let is = subst (λ (z : Meta). IsShiftStateOf z s) (sym c.meta.ensures) of in
          absurd (may_not c.args.direction c.meta.result.now.setup s c.in_default.field-0 fault (c.in_default.ensures.may s is) (subst (λ (z : Meta). IsRefusedTo c.args.direction z.setup s fault) (sym c.meta.ensures) why));
      begins = none_done_if _ c.from_residual.result _ c.from_residual.ensures.1;
      marks = none_done_if _ c.from_residual.result _ c.from_residual.ensures.1;
      commits = none_done _ c.from_residual.result _ c.from_residual.ensures.1;
      table = none_done _ c.from_residual.result _ c.from_residual.ensures.1;
      turn = none_done_if _ c.from_residual.result _ c.from_residual.ensures.1;
      halts =
          handed _ c.from_residual.result _ c.from_residual.ensures.1
          (asked_halts g.R.Rack.slot_count g.R.Rack.told a steady whole m c.in_default.field-0 _ 1 (omega arith) loses c.args.direction
          (subst (λ (z : Meta). (s : PowerState) → IsShiftStateOf z s → MayGo c.args.direction z.setup s c.in_default.field-0) c.meta.ensures c.in_default.ensures.may));
      out = λ not. absurd (not whole);
      calls = record {
        slots = c.commit_staged.ensures.rack.slots;
        no_fall = c.commit_staged.ensures.rack.no_fall;
        grows = extends_core g.R.Rack.told a m _ (loses [] 0 [] 0 0);
      };
      two = handed _ c.from_residual.result _ c.from_residual.ensures.1 c.in_err-commit_staged.ensures.rack.two;
    }

pub gear_to-requires-2 : goal.gear_to-requires-2
gear_to-requires-2 g c = record { in_range = subst (λ (z : Meta). IsInRange z) (sym c.meta-2.ensures) c.in_ok-commit_staged.ensures.serves.serving.ready.in_range }

pub begin_shift-requires : goal.begin_shift-requires
begin_shift-requires g c = record {
  can = record {
    serving = c.in_ok-commit_staged.ensures.serves.serving;
    epoch =
        let e = c.requires.epoch in
        let f = c.in_ok-commit_staged.ensures.serves.epoch in
        omega (arith, e, f);
    whole = subst (λ (z : Meta). z.out ≡ No) c.meta-2.ensures c.in-Ok.ensures.whole;
    steady = subst (λ (z : Meta). z.phase ≡ Steady) c.meta-2.ensures c.in-Ok.ensures.steady;
  };
  next = subst (λ (z : Meta). IsNextTo c.args.direction z c.in-Ok.to) c.meta-2.ensures c.in-Ok.ensures.next;
}

pub returns-in_err-begin_shift-in-Ok : goal.returns-in_err-begin_shift-in-Ok
returns-in_err-begin_shift-in-Ok g c =
    let a = c.args.core.now in
    let m = c.commit_staged.new.core in
    let b = c.begin_shift.new.core in
    let steady = subst (λ (z : Meta). z.phase ≡ Steady) c.meta.ensures c.in_default.ensures.steady in
    let whole = subst (λ (z : Meta). z.out ≡ No) c.meta.ensures c.in_default.ensures.whole in
    let steps = c.in_ok-commit_staged.ensures.steps (none_away g.R.Rack.slot a whole) in
    record {
      serves = none_done _ c.from_residual-in_err-begin_shift-in-Ok.result _ c.from_residual-in_err-begin_shift-in-Ok.ensures.1;
      refused = λ fault s of why.
          let is = subst (λ (z : Meta). IsShiftStateOf z s) (sym c.meta.ensures) of in
          absurd (may_not c.args.direction c.meta.result.now.setup s c.in_default.field-0 fault (c.in_default.ensures.may s is) (subst (λ (z : Meta). IsRefusedTo c.args.direction z.setup s fault) (sym c.meta.ensures) why));
      begins = none_done_if _ c.from_residual-in_err-begin_shift-in-Ok.result _ c.from_residual-in_err-begin_shift-in-Ok.ensures.1;
      marks = none_done_if _ c.from_residual-in_err-begin_shift-in-Ok.result _ c.from_residual-in_err-begin_shift-in-Ok.ensures.1;
      commits = none_done _ c.from_residual-in_err-begin_shift-in-Ok.result _ c.from_residual-in_err-begin_shift-in-Ok.ensures.1;
      table = none_done _ c.from_residual-in_err-begin_shift-in-Ok.result _ c.from_residual-in_err-begin_shift-in-Ok.ensures.1;
      turn = none_done_if _ c.from_residual-in_err-begin_shift-in-Ok.result _ c.from_residual-in_err-begin_shift-in-Ok.ensures.1;
      halts =
          handed _ c.from_residual-in_err-begin_shift-in-Ok.result _ c.from_residual-in_err-begin_shift-in-Ok.ensures.1
          (asked_halts g.R.Rack.slot_count g.R.Rack.told a steady whole b c.in_default.field-0 _ (1 + 1) (omega arith)
          (core_loses_then g.R.Rack.slot_count g.R.Rack.told a m b 1 1 _ steps c.in_err-begin_shift-in-Ok.ensures.rack.loses) c.args.direction
          (subst (λ (z : Meta). (s : PowerState) → IsShiftStateOf z s → MayGo c.args.direction z.setup s c.in_default.field-0) c.meta.ensures c.in_default.ensures.may));
      out = λ not. absurd (not whole);
      calls = record {
        slots = c.begin_shift.ensures.rack.slots ∙ c.commit_staged.ensures.rack.slots;
        no_fall = no_fall_then (g.R.Rack.slot (store_rack a.store)) (g.R.Rack.slot (store_rack m.store)) (g.R.Rack.slot (store_rack b.store)) c.commit_staged.ensures.rack.no_fall c.begin_shift.ensures.rack.no_fall;
        grows = extends_cores g.R.Rack.told a m b (extends_core g.R.Rack.told a m _ (steps [] 0 [] 0 0)) (extends_core g.R.Rack.told m b _ (c.begin_shift.ensures.keeps.moments [] 0));
      };
      two = handed _ c.from_residual-in_err-begin_shift-in-Ok.result _ c.from_residual-in_err-begin_shift-in-Ok.ensures.1 (two_array g.R.Rack.slot_count g.R.Rack.slot a m b c.in_ok-commit_staged.ensures.serves.leaves c.begin_shift.ensures.rack.no_fall _ c.in_err-begin_shift-in-Ok.ensures.rack.two);
    }

pub returns-in_ok-begin_shift-in-Ok : goal.returns-in_ok-begin_shift-in-Ok
returns-in_ok-begin_shift-in-Ok g c =
    let a = c.args.core.now in
    let m = c.commit_staged.new.core in
    let b = c.begin_shift.new.core in
    let to = c.in-Ok.to in
    let steady = subst (λ (z : Meta). z.phase ≡ Steady) c.meta.ensures c.in_default.ensures.steady in
    let whole = subst (λ (z : Meta). z.out ≡ No) c.meta.ensures c.in_default.ensures.whole in
    let still = subst (λ (z : Meta). z.out ≡ No) c.meta-2.ensures c.in-Ok.ensures.whole in
    let may = subst (λ (z : Meta). (s : PowerState) → IsShiftStateOf z s → MayGo c.args.direction z.setup s c.in-Ok.to) c.meta-2.ensures c.in-Ok.ensures.may in
    let staged = c.in_ok-commit_staged.ensures in
    let steps = staged.steps (none_away g.R.Rack.slot a whole) in
    let done = c.in_ok-begin_shift-in-Ok.ensures in
    record {
      serves = record {
        serving = done.shifted.serving;
        leaves = leaves_array_then g.R.Rack.slot_count g.R.Rack.slot a m b staged.serves.leaves done.shifted.leaves;
        known = λ before. begun_known g.R.Rack.slot m.meta b to c.args.direction done.meta still done.shifted.absent;
        fits = λ f. done.shifted.fits (staged.serves.fits f);
      };
      refused = λ fault s of why.
          let is = subst (λ (z : Meta). IsShiftStateOf z s) (sym c.meta.ensures) of in
          absurd (may_not c.args.direction c.meta.result.now.setup s c.in_default.field-0 fault (c.in_default.ensures.may s is) (subst (λ (z : Meta). IsRefusedTo c.args.direction z.setup s fault) (sym c.meta.ensures) why));
      begins = λ goal s of could. asked_same a.meta m.meta m.meta.epoch staged.meta steady whole still s of c.args.direction goal to could may;
      marks = asked_marked a.meta m.meta m.meta.epoch staged.meta c.args.direction whole still b.meta to done.meta;
      commits = few_then a m b 1 1 (few_on g.R.Rack.slot_count g.R.Rack.slot a m 1 staged.serves) (few_one m b (begun_epoch g.R.Rack.slot m.meta b to c.args.direction done.meta));
      table = c.begin_shift.ensures.keeps.table ∙ c.commit_staged.ensures.table;
      turn =
          asked_begun g.R.Rack.slot_count g.R.Rack.told a steady whole m m.meta.epoch staged.meta c.commit_staged.ensures.table steps g.R.Rack.slot b to
          still done.steps c.begin_shift.ensures.keeps.table done.shifted.serving.copies_synced
          c.args.direction may (subst (λ (z : Meta). IsNextTo c.args.direction z to) c.meta-2.ensures c.in-Ok.ensures.next) done.meta staged.serves.serving.ready.in_range.eight done.shifted.serving.ready.in_range.eight;
      halts = tt;
      out = λ not. absurd (not whole);
      calls = record {
        slots = c.begin_shift.ensures.rack.slots ∙ c.commit_staged.ensures.rack.slots;
        no_fall = no_fall_then (g.R.Rack.slot (store_rack a.store)) (g.R.Rack.slot (store_rack m.store)) (g.R.Rack.slot (store_rack b.store)) c.commit_staged.ensures.rack.no_fall c.begin_shift.ensures.rack.no_fall;
        grows = extends_cores g.R.Rack.told a m b (extends_core g.R.Rack.told a m _ (steps [] 0 [] 0 0)) (extends_core g.R.Rack.told m b _ (c.begin_shift.ensures.keeps.moments [] 0));
      };
      two = tt;
    }

pub returns-in-Err-gear_to : goal.returns-in-Err-gear_to
returns-in-Err-gear_to g c =
    let a = c.args.core.now in
    let m = c.commit_staged.new.core in
    let steady = subst (λ (z : Meta). z.phase ≡ Steady) c.meta.ensures c.in_default.ensures.steady in
    let whole = subst (λ (z : Meta). z.out ≡ No) c.meta.ensures c.in_default.ensures.whole in
    let staged = c.in_ok-commit_staged.ensures in
    let steps = staged.steps (none_away g.R.Rack.slot a whole) in
    let could = subst (λ (z : Meta). (s : PowerState) → IsShiftStateOf z s → MayGo c.args.direction z.setup s c.in_default.field-0) c.meta.ensures c.in_default.ensures.may in
    let why = subst (λ (z : Meta). (s : PowerState) → IsShiftStateOf z s → IsRefusedTo c.args.direction z.setup s c.in-Err-gear_to.fault) c.meta-2.ensures c.in-Err-gear_to.ensures.refused in
    record {
      serves = record {
        serving = staged.serves.serving;
        leaves = staged.serves.leaves;
        known = λ before. known_marked g.R.Rack.slot m (record a.meta { epoch = m.meta.epoch }) whole staged.meta (staged.serves.absent before.absent);
        fits = staged.serves.fits;
      };
      refused = λ fault s of was.
          let is = subst (λ (z : Meta). IsShiftStateOf z s) (sym c.meta.ensures) of in
          absurd (may_not c.args.direction c.meta.result.now.setup s c.in_default.field-0 fault (c.in_default.ensures.may s is) (subst (λ (z : Meta). IsRefusedTo c.args.direction z.setup s fault) (sym c.meta.ensures) was));
      begins = λ to s of may. asked_lost a.meta m.meta m.meta.epoch staged.meta steady whole c.args.direction c.in_default.field-0 c.in-Err-gear_to.fault could why;
      marks = marked_lost c.args.direction a.meta m.meta c.in-Err-gear_to.fault m.meta.epoch staged.meta;
      commits = few_within a m 1 2 (omega arith) (few_on g.R.Rack.slot_count g.R.Rack.slot a m 1 staged.serves);
      table = c.commit_staged.ensures.table;
      turn = asked_stopped g.R.Rack.slot_count g.R.Rack.told a steady whole m m.meta.epoch staged.meta c.commit_staged.ensures.table steps c.in_default.field-0 c.in-Err-gear_to.fault staged.serves.serving.copies_synced c.args.direction could why;
      halts = tt;
      out = λ not. absurd (not whole);
      calls = record {
        slots = c.commit_staged.ensures.rack.slots;
        no_fall = c.commit_staged.ensures.rack.no_fall;
        grows = extends_core g.R.Rack.told a m _ (steps [] 0 [] 0 0);
      };
      two = tt;
    }
