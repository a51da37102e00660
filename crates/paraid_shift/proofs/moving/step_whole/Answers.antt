use Rattle.std.specs.Prelude.{◌+◌, ◌≢◌}
use Rattle.std.proofs.Common.{◌≡◌, ◌∙◌, arith, inl, refl, sym}
use Rattle.paraid_base.specs.declared.state.Out.TheVariants.{No}
use Rattle.paraid_shift.proofs.AnswerLemmas.{if_map}
use Rattle.paraid_shift.proofs.OutcomeLemmas.{serves_none}
use Rattle.paraid_shift.proofs.PartLemmas.{keeps_done}
use Rattle.paraid_event.proofs.CoreServingLemmas.{leaves_array_none}
use Rattle.paraid_shift.proofs.StepsLemmas.{core_steps_none, core_steps_within}
use Rattle.paraid_shift.specs.Outcomes.{StepsOn}
use Rattle.paraid_shift.specs.Steps.{StepsOrWaits}
use Rattle.paraid_shift.specs.Units.{AreUnitsDone, MovesUpTo}
use Rattle.paraid_shift.proofs.moving.step_whole.Goals as goal

pub step_units-requires : goal.step_units-requires
step_units-requires g c = record { can = record { serving = c.requires.serving; whole = sym c.out.ensures ∙ c.in-No.is; nothing = c.requires.nothing }; epoch = c.requires.epoch }

pub returns-in_default : goal.returns-in_default
returns-in_default g c =
    let a = c.args.core.now in
    record {
      steps = record {
        serves = serves_none g.R.Rack.slot_count g.R.Rack.slot a (c.args.most + 1) c.requires.serving;
        few = omega arith;
        moves = λ whole. absurd (c.in_default.not-No (c.out.ensures ∙ whole));
        steps = inl (core_steps_within g.R.Rack.slot_count g.R.Rack.slot g.R.Rack.told a a 0 (c.args.most + 1) (omega arith) (core_steps_none g.R.Rack.slot_count g.R.Rack.slot g.R.Rack.told a));
      };
      idle = λ out. (refl, refl);
      rack = keeps_done (leaves_array_none g.R.Rack.slot_count g.R.Rack.slot a);
    }

pub returns : goal.returns
returns g c =
    let a = c.args.core.now in
    let b = c.step_units.new.core in
    let whole : c.args.core.now.meta.out ≡ No = sym c.out.ensures ∙ c.in-No.is in
    record {
      steps = if_map {Q = λ count. StepsOn g.R.Rack.slot_count g.R.Rack.slot a b c.args.most (c.args.most + 1) count (a.meta.out ≡ No → MovesUpTo g.R.Rack.slot_count a b (AreUnitsDone b.meta b.dirty) c.args.most count) (StepsOrWaits g.R.Rack.slot_count g.R.Rack.told a b (c.args.most + 1))} _ (λ count k. record { serves = k.serves; few = k.few; moves = λ is. k.moves; steps = k.steps }) c.step_units.ensures.steps;
      idle = if_map {Q = λ count. a.meta.out ≢ No → (count ≡ 0) × (b ≡ a)} _ (λ count k out. absurd (out whole)) c.step_units.ensures.steps;
      rack = c.step_units.ensures.rack;
    }
