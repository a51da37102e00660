use Rattle.paraid_base.specs.Regions.{IsGear}
use Rattle.std.proofs.Common.{ℕ, ◌<◌, ◌≤◌, inl, inr, refl, sym, ◌∙◌, ap, arith, subst, []}
use Rattle.std.specs.Prelude.{slice_index}
use Rattle.paraid_base.specs.declared.state.TickEvent.TheVariants.{Begun, Steady as SteadyTick}
use Rattle.paraid_gear.specs.Decision.{decision}
use Rattle.paraid_record.specs.declared.meta.Meta.{Meta}
use Rattle.paraid_record.specs.Range.{AreNextGears, allowed_spins, IsInRange}
use Rattle.paraid_core.proofs.AfterLemmas.{handed}
use Rattle.paraid_upkeep.proofs.ResultLemmas.{none_done, none_done_if}
use Rattle.paraid_machine.specs.Moves.{state_with_tick}
use Rattle.paraid_upkeep.specs.Refusals.{IsDownRefused, IsShiftStateOf, MayGoDown, MayGoUp}
use Rattle.paraid_upkeep.specs.TickAnswers.{TellsDecision}
use Rattle.paraid_image.specs.Power.{PowerState}
use Rattle.paraid_upkeep.specs.declared.fault.ShiftFault.{ShiftFault}
use Rattle.paraid_upkeep.proofs.DecisionLemmas.{goes_down, goes_up, idle_rests, stays, tells_down, up_free}
use Rattle.paraid_upkeep.proofs.RefusalLemmas.{ease_of}
use Rattle.paraid_upkeep.proofs.MoveLemmas.{marks_commits, none_commits}
use Rattle.paraid_upkeep.proofs.OutLemmas.{known_whole}
use Rattle.paraid_upkeep.proofs.ServiceLemmas.{in_service_none}
use Rattle.paraid_upkeep.proofs.TickTurnLemmas.{down_halts, down_told, known_marked, shift_shown, stays_told, up_halts, up_told, worn_told}
use Rattle.paraid_upkeep.proofs.ToldLemmas.{calls_none, calls_told}
use Rattle.paraid_upkeep.proofs.shifts.decide.Goals as goal

pub decide-requires : goal.decide-requires
decide-requires g c = record {
  lengths = c.requires.lengths ∙ ap (λ (z : Meta). z.setup.windows) (sym c.meta.ensures);
  gear = subst (λ (z : Meta). IsGear z.setup.geometry z.gear) (sym c.meta.ensures) c.requires.serving.ready.in_range.gear;
}

pub gear_above-requires : goal.gear_above-requires
gear_above-requires g c = record { in_range = subst (λ (z : Meta). IsInRange z) (sym c.meta.ensures) c.requires.serving.ready.in_range }

pub gear_below-requires : goal.gear_below-requires
gear_below-requires g c = record { in_range = subst (λ (z : Meta). IsInRange z) (sym c.meta.ensures) c.requires.serving.ready.in_range }

pub returns-in-Stay : goal.returns-in-Stay
returns-in-Stay g c =
    let a = c.args.core.now in
    record {
      serves = in_service_none g.R.Rack.slot_count g.R.Rack.slot a c.requires.serving (known_whole g.R.Rack.slot a c.requires.whole);
      tells = λ samples held s of.
          let m = c.meta.result.now in
          let is = subst (λ (z : Meta). IsShiftStateOf z s) (sym c.meta.ensures) of in
          subst (λ (z : Meta). TellsDecision z.setup s (decision z.setup s.gear samples) SteadyTick) c.meta.ensures
          (stays m.setup s (decision m.setup s.gear samples) 0 (ap (λ (z : ℕ). decision m.setup z samples) is.gear ∙ sym (c.in-Stay.ensures samples held)));
      idle = λ is. refl;
      rests = tt;
      table = refl;
      commits = none_commits g.R.Rack.slot_count a;
      turn = λ k setup p samples served energy held at fit counts.
          stays_told g.R.Rack.slot_count g.R.Rack.told a k setup p samples served energy at fit counts c.requires.whole c.requires.steady
          (c.in-Stay.ensures samples held ∙ ap (λ (z : Meta). decision z.setup z.gear samples) c.meta.ensures);
      halts = tt;
      calls = calls_none g.R.Rack.slot_count g.R.Rack.slot g.R.Rack.told a;
      two = tt;
    }

pub begin_up-requires : goal.begin_up-requires
begin_up-requires g c = record {
  can = record {
    serving = c.requires.serving;
    epoch = let e = c.requires.epoch in omega (arith, e);
    whole = c.requires.whole;
    steady = c.requires.steady;
  };
  next = subst (λ (z : Meta). AreNextGears z.setup.geometry z.gear c.in-Ok.to) c.meta.ensures c.in-Ok.ensures.next;
}

pub begin_down-requires : goal.begin_down-requires
begin_down-requires g c = record {
  can = record {
    serving = c.requires.serving;
    epoch = let e = c.requires.epoch in omega (arith, e);
    whole = c.requires.whole;
    steady = c.requires.steady;
  };
  next = subst (λ (z : Meta). AreNextGears z.setup.geometry c.in-Ok-gear_below.to z.gear) c.meta.ensures c.in-Ok-gear_below.ensures.next;
  spared = subst (λ (z : Meta). (d : ℕ) → c.in-Ok-gear_below.to ≤ d → d < z.gear → slice_index z.spins d < allowed_spins z) c.meta.ensures c.in-Ok-gear_below.ensures.spared;
}

pub returns-in_err-begin_up-in-Ok : goal.returns-in_err-begin_up-in-Ok
returns-in_err-begin_up-in-Ok g c =
    let a = c.args.core.now in
    record {
      serves = none_done _ c.from_residual.result _ c.from_residual.ensures.1;
      tells = none_done_if _ c.from_residual.result _ c.from_residual.ensures.1;
      idle = none_done_if _ c.from_residual.result _ c.from_residual.ensures.1;
      rests = none_done_if _ c.from_residual.result _ c.from_residual.ensures.1;
      table = none_done _ c.from_residual.result _ c.from_residual.ensures.1;
      commits = none_done _ c.from_residual.result _ c.from_residual.ensures.1;
      turn = none_done_if _ c.from_residual.result _ c.from_residual.ensures.1;
      halts =
          handed _ c.from_residual.result _ c.from_residual.ensures.1
          (λ k setup p samples served energy held at fit counts.
          let s = state_with_tick p.state in
          let shown = subst (λ (z : Meta). IsShiftStateOf z s) (sym c.meta.ensures) (shift_shown g.R.Rack.slot_count g.R.Rack.told a k setup p samples served energy at fit counts) in
          up_halts g.R.Rack.slot_count g.R.Rack.told a k setup p samples served energy at fit counts c.requires.whole c.requires.steady c.begin_up.new.core c.in-Ok.to c.in-Up.to
          (c.in-Up.ensures samples held ∙ ap (λ (z : Meta). decision z.setup z.gear samples) c.meta.ensures)
          (subst (λ (z : Meta). MayGoUp z.setup s c.in-Ok.to) c.meta.ensures (c.in-Ok.ensures.may s shown)) _ c.in_err-begin_up-in-Ok.ensures.rack.loses);
      calls = calls_told g.R.Rack.slot_count g.R.Rack.slot g.R.Rack.told a c.begin_up.new.core _ c.begin_up.ensures.rack.slots c.begin_up.ensures.rack.no_fall (c.begin_up.ensures.keeps.moments [] 0);
      two = handed _ c.from_residual.result _ c.from_residual.ensures.1 c.in_err-begin_up-in-Ok.ensures.rack.two;
    }

pub returns-in_ok-begin_up-in-Ok : goal.returns-in_ok-begin_up-in-Ok
returns-in_ok-begin_up-in-Ok g c =
    let a = c.args.core.now in
    let begun = c.in_ok-begin_up-in-Ok.ensures in
    record {
      serves = record { serving = begun.shifted.serving; leaves = begun.shifted.leaves; known = known_marked g.R.Rack.slot _ c.begin_up.new.core begun.meta.is c.requires.whole begun.shifted.absent; fits = begun.shifted.fits };
      tells = λ samples held s of.
          let m = c.meta.result.now in
          let is = subst (λ (z : Meta). IsShiftStateOf z s) (sym c.meta.ensures) of in
          subst (λ (z : Meta). TellsDecision z.setup s (decision z.setup s.gear samples) (Begun c.in-Ok.to)) c.meta.ensures
          (goes_up m.setup s (decision m.setup s.gear samples) c.in-Up.to samples c.in-Ok.to refl
          (ap (λ (z : ℕ). decision m.setup z samples) is.gear ∙ sym (c.in-Up.ensures samples held)) (c.in-Ok.ensures.may s is));
      idle = λ is. absurd is;
      rests = inl (record { could = subst (λ (z : Meta). (s : PowerState) → IsShiftStateOf z s → MayGoUp z.setup s c.in-Ok.to) c.meta.ensures c.in-Ok.ensures.may; begun = begun.meta });
      table = c.begin_up.ensures.keeps.table;
      commits = marks_commits g.R.Rack.slot_count a c.begin_up.new.core _ begun.meta.is refl;
      turn = λ k setup p samples served energy held at fit counts.
          let s = state_with_tick p.state in
          let shown = subst (λ (z : Meta). IsShiftStateOf z s) (sym c.meta.ensures) (shift_shown g.R.Rack.slot_count g.R.Rack.told a k setup p samples served energy at fit counts) in
          up_told g.R.Rack.slot_count g.R.Rack.told a k setup p samples served energy at fit counts c.requires.whole c.requires.steady c.begin_up.new.core c.in-Ok.to c.in-Up.to
          (c.in-Up.ensures samples held ∙ ap (λ (z : Meta). decision z.setup z.gear samples) c.meta.ensures)
          (subst (λ (z : Meta). MayGoUp z.setup s c.in-Ok.to) c.meta.ensures (c.in-Ok.ensures.may s shown))
          begun.meta c.requires.serving.ready.in_range begun.shifted.serving.ready.in_range begun.shifted.serving.copies_synced c.begin_up.ensures.keeps.table begun.steps;
      halts = tt;
      calls = calls_told g.R.Rack.slot_count g.R.Rack.slot g.R.Rack.told a c.begin_up.new.core _ c.begin_up.ensures.rack.slots c.begin_up.ensures.rack.no_fall (c.begin_up.ensures.keeps.moments [] 0);
      two = tt;
    }

pub returns-in-Err : goal.returns-in-Err
returns-in-Err g c =
    let a = c.args.core.now in
    let m = c.meta.result.now in
    record {
      serves = in_service_none g.R.Rack.slot_count g.R.Rack.slot a c.requires.serving (known_whole g.R.Rack.slot a c.requires.whole);
      tells = λ samples held s of.
          let is = subst (λ (z : Meta). IsShiftStateOf z s) (sym c.meta.ensures) of in
          absurd (up_free m.setup s (decision m.setup s.gear samples) c.in-Up.to samples c.in-Err.field-0 refl
          (ap (λ (z : ℕ). decision m.setup z samples) is.gear ∙ sym (c.in-Up.ensures samples held)) (ease_of a.meta s of c.requires.steady c.requires.whole) (c.in-Err.ensures.refused s is));
      idle = λ is. refl;
      rests = tt;
      table = refl;
      commits = none_commits g.R.Rack.slot_count a;
      turn = λ k setup p samples served energy held at fit counts.
          let s = state_with_tick p.state in
          let shown = shift_shown g.R.Rack.slot_count g.R.Rack.told a k setup p samples served energy at fit counts in
          let is = subst (λ (z : Meta). IsShiftStateOf z s) (sym c.meta.ensures) shown in
          absurd (up_free m.setup s (decision m.setup s.gear samples) c.in-Up.to samples c.in-Err.field-0 refl
          (ap (λ (z : ℕ). decision m.setup z samples) is.gear ∙ sym (c.in-Up.ensures samples held)) (ease_of a.meta s shown c.requires.steady c.requires.whole) (c.in-Err.ensures.refused s is));
      halts = tt;
      calls = calls_none g.R.Rack.slot_count g.R.Rack.slot g.R.Rack.told a;
      two = tt;
    }

pub returns-in_err-begin_down-in-Ok-gear_below : goal.returns-in_err-begin_down-in-Ok-gear_below
returns-in_err-begin_down-in-Ok-gear_below g c =
    let a = c.args.core.now in
    record {
      serves = none_done _ c.from_residual-in_err-begin_down-in-Ok-gear_below.result _ c.from_residual-in_err-begin_down-in-Ok-gear_below.ensures.1;
      tells = none_done_if _ c.from_residual-in_err-begin_down-in-Ok-gear_below.result _ c.from_residual-in_err-begin_down-in-Ok-gear_below.ensures.1;
      idle = none_done_if _ c.from_residual-in_err-begin_down-in-Ok-gear_below.result _ c.from_residual-in_err-begin_down-in-Ok-gear_below.ensures.1;
      rests = none_done_if _ c.from_residual-in_err-begin_down-in-Ok-gear_below.result _ c.from_residual-in_err-begin_down-in-Ok-gear_below.ensures.1;
      table = none_done _ c.from_residual-in_err-begin_down-in-Ok-gear_below.result _ c.from_residual-in_err-begin_down-in-Ok-gear_below.ensures.1;
      commits = none_done _ c.from_residual-in_err-begin_down-in-Ok-gear_below.result _ c.from_residual-in_err-begin_down-in-Ok-gear_below.ensures.1;
      turn = none_done_if _ c.from_residual-in_err-begin_down-in-Ok-gear_below.result _ c.from_residual-in_err-begin_down-in-Ok-gear_below.ensures.1;
      halts =
          handed _ c.from_residual-in_err-begin_down-in-Ok-gear_below.result _ c.from_residual-in_err-begin_down-in-Ok-gear_below.ensures.1
          (λ k setup p samples served energy held at fit counts.
          let s = state_with_tick p.state in
          let shown = subst (λ (z : Meta). IsShiftStateOf z s) (sym c.meta.ensures) (shift_shown g.R.Rack.slot_count g.R.Rack.told a k setup p samples served energy at fit counts) in
          down_halts g.R.Rack.slot_count g.R.Rack.told a k setup p samples served energy at fit counts c.requires.whole c.requires.steady c.begin_down.new.core c.in-Ok-gear_below.to c.in-Down.to
          (c.in-Down.ensures samples held ∙ ap (λ (z : Meta). decision z.setup z.gear samples) c.meta.ensures)
          (subst (λ (z : Meta). MayGoDown z.setup s c.in-Ok-gear_below.to) c.meta.ensures (c.in-Ok-gear_below.ensures.may s shown)) _ c.in_err-begin_down-in-Ok-gear_below.ensures.rack.loses);
      calls = calls_told g.R.Rack.slot_count g.R.Rack.slot g.R.Rack.told a c.begin_down.new.core _ c.begin_down.ensures.rack.slots c.begin_down.ensures.rack.spared.no_fall (c.begin_down.ensures.keeps.moments [] 0);
      two = handed _ c.from_residual-in_err-begin_down-in-Ok-gear_below.result _ c.from_residual-in_err-begin_down-in-Ok-gear_below.ensures.1 c.in_err-begin_down-in-Ok-gear_below.ensures.rack.two;
    }

pub returns-in_ok-begin_down-in-Ok-gear_below : goal.returns-in_ok-begin_down-in-Ok-gear_below
returns-in_ok-begin_down-in-Ok-gear_below g c =
    let a = c.args.core.now in
    let begun = c.in_ok-begin_down-in-Ok-gear_below.ensures in
    record {
      serves = record { serving = begun.shifted.serving; leaves = begun.shifted.leaves; known = known_marked g.R.Rack.slot _ c.begin_down.new.core begun.meta c.requires.whole begun.shifted.absent; fits = begun.shifted.fits };
      tells = λ samples held s of.
          let m = c.meta.result.now in
          let is = subst (λ (z : Meta). IsShiftStateOf z s) (sym c.meta.ensures) of in
          subst (λ (z : Meta). TellsDecision z.setup s (decision z.setup s.gear samples) (Begun c.in-Ok-gear_below.to)) c.meta.ensures
          (goes_down m.setup s (decision m.setup s.gear samples) c.in-Down.to samples c.in-Ok-gear_below.to refl
          (ap (λ (z : ℕ). decision m.setup z samples) is.gear ∙ sym (c.in-Down.ensures samples held)) (c.in-Ok-gear_below.ensures.may s is));
      idle = λ is. absurd is;
      rests = inr (record { could = subst (λ (z : Meta). (s : PowerState) → IsShiftStateOf z s → MayGoDown z.setup s c.in-Ok-gear_below.to) c.meta.ensures c.in-Ok-gear_below.ensures.may; begun = begun.meta });
      table = c.begin_down.ensures.keeps.table;
      commits = marks_commits g.R.Rack.slot_count a c.begin_down.new.core _ begun.meta refl;
      turn = λ k setup p samples served energy held at fit counts.
          let s = state_with_tick p.state in
          let shown = subst (λ (z : Meta). IsShiftStateOf z s) (sym c.meta.ensures) (shift_shown g.R.Rack.slot_count g.R.Rack.told a k setup p samples served energy at fit counts) in
          down_told g.R.Rack.slot_count g.R.Rack.told a k setup p samples served energy at fit counts c.requires.whole c.requires.steady c.begin_down.new.core c.in-Ok-gear_below.to c.in-Down.to
          (c.in-Down.ensures samples held ∙ ap (λ (z : Meta). decision z.setup z.gear samples) c.meta.ensures)
          (subst (λ (z : Meta). MayGoDown z.setup s c.in-Ok-gear_below.to) c.meta.ensures (c.in-Ok-gear_below.ensures.may s shown))
          (subst (λ (z : Meta). c.in-Ok-gear_below.to < z.gear) c.meta.ensures c.in-Ok-gear_below.ensures.next.below) begun.meta begun.shifted.serving.copies_synced c.begin_down.ensures.keeps.table begun.steps;
      halts = tt;
      calls = calls_told g.R.Rack.slot_count g.R.Rack.slot g.R.Rack.told a c.begin_down.new.core _ c.begin_down.ensures.rack.slots c.begin_down.ensures.rack.spared.no_fall (c.begin_down.ensures.keeps.moments [] 0);
      two = tt;
    }

pub returns-in-Err-gear_below : goal.returns-in-Err-gear_below
returns-in-Err-gear_below g c =
    let a = c.args.core.now in
    record {
      serves = in_service_none g.R.Rack.slot_count g.R.Rack.slot a c.requires.serving (known_whole g.R.Rack.slot a c.requires.whole);
      tells = λ samples held s of.
          let m = c.meta.result.now in
          let is = subst (λ (z : Meta). IsShiftStateOf z s) (sym c.meta.ensures) of in
          subst (λ (z : Meta). TellsDecision z.setup s (decision z.setup s.gear samples) c.event_of.result) c.meta.ensures
          (tells_down m.setup s (decision m.setup s.gear samples) c.in-Down.to samples _ c.event_of.result refl
          (ap (λ (z : ℕ). decision m.setup z samples) is.gear ∙ sym (c.in-Down.ensures samples held)) (ease_of a.meta s of c.requires.steady c.requires.whole) (c.in-Err-gear_below.ensures.refused s is) c.event_of.ensures.worn);
      idle = λ is. refl;
      rests = idle_rests a.meta c.event_of.result c.event_of.ensures.idle
          (λ d is. subst (λ (f : ShiftFault). (s : PowerState) → IsShiftStateOf a.meta s → IsDownRefused a.meta.setup s f) (c.event_of.ensures.by_wear d is)
          (subst (λ (z : Meta). (s : PowerState) → IsShiftStateOf z s → IsDownRefused z.setup s c.in-Err-gear_below.fault) c.meta.ensures c.in-Err-gear_below.ensures.refused));
      table = refl;
      commits = none_commits g.R.Rack.slot_count a;
      turn = λ k setup p samples served energy held at fit counts.
          let s = state_with_tick p.state in
          let shown = subst (λ (z : Meta). IsShiftStateOf z s) (sym c.meta.ensures) (shift_shown g.R.Rack.slot_count g.R.Rack.told a k setup p samples served energy at fit counts) in
          worn_told g.R.Rack.slot_count g.R.Rack.told a k setup p samples served energy at fit counts c.requires.whole c.requires.steady c.in-Down.to c.in-Err-gear_below.fault c.event_of.result
          (c.in-Down.ensures samples held ∙ ap (λ (z : Meta). decision z.setup z.gear samples) c.meta.ensures)
          (subst (λ (z : Meta). IsDownRefused z.setup s c.in-Err-gear_below.fault) c.meta.ensures (c.in-Err-gear_below.ensures.refused s shown)) c.event_of.ensures.worn;
      halts = tt;
      calls = calls_none g.R.Rack.slot_count g.R.Rack.slot g.R.Rack.told a;
      two = tt;
    }
