use Rattle.std.proofs.Common.{sym, ◌∙◌}
use Rattle.paraid_gear.specs.ThreeWindows.{lengths_of}
use Rattle.paraid_gear.proofs.DecisionLemmas.{decision-not_full, decision-up, decision-down, decision-neither}
use Rattle.paraid_gear.proofs.three_windows.Windows.decide.Goals as goal

pub returns-then-not-are_full : goal.returns-then-not-are_full
returns-then-not-are_full c = λ samples stands.
    decision-not_full c.args.setup.now c.args.gear samples (lengths_of c.args.self.now) c.requires.lengths
    (sym (c.are_full.ensures samples stands) ∙ c.if-not-are_full.true)

pub returns-in-Some : goal.returns-in-Some
returns-in-Some c = λ samples stands.
    decision-up c.args.setup.now c.args.gear samples (lengths_of c.args.self.now) c.in-Some.to c.requires.lengths
    (sym (c.are_full.ensures samples stands) ∙ c.if-not-are_full.false)
    (sym (c.gear_up.ensures samples stands) ∙ c.in-Some.is)

pub returns-in-Some-gear_down : goal.returns-in-Some-gear_down
returns-in-Some-gear_down c = λ samples stands.
    decision-down c.args.setup.now c.args.gear samples (lengths_of c.args.self.now) c.in-Some-gear_down.to c.requires.lengths
    (sym (c.are_full.ensures samples stands) ∙ c.if-not-are_full.false)
    (sym (c.gear_up.ensures samples stands) ∙ c.in_default.is)
    (sym (c.gear_down.ensures samples stands) ∙ c.in-Some-gear_down.is)

pub returns : goal.returns
returns c = λ samples stands.
    decision-neither c.args.setup.now c.args.gear samples (lengths_of c.args.self.now) c.requires.lengths
    (sym (c.gear_up.ensures samples stands) ∙ c.in_default.is)
    (sym (c.gear_down.ensures samples stands) ∙ c.in_default-gear_down.is)
