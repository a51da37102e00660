use Rattle.std.proofs.Common.{◌≡◌, Some, None, true, false, sym, ◌∙◌, ap}
use Rattle.paraid_base.specs.Gears.{next_lower}
use Rattle.paraid_gear.specs.ThreeWindows.{lengths_of}
use Rattle.paraid_gear.specs.Decision.{gear_down_for}
use Rattle.paraid_base.proofs.GearsLemmas.{next_lower-is}
use Rattle.paraid_gear.proofs.DecisionLemmas.{gear_down_for-some}
use Rattle.paraid_gear.proofs.three_windows.Windows.gear_down.Goals as goal

pub returns-in_err-to : goal.returns-in_err-to
returns-in_err-to c = λ samples stands.
    let setup = c.args.setup.now in
    let next : next_lower setup.geometry c.args.gear ≡ None = next_lower-is setup.geometry c.args.gear c.lower.result c.lower.ensures ∙ c.in_err-to.was in
    c.from_residual.ensures ∙ ap (gear_down_for setup samples) (sym next)

pub returns-then-are_quiet : goal.returns-then-are_quiet
returns-then-are_quiet c = λ samples stands.
    let setup = c.args.setup.now in
    let next : next_lower setup.geometry c.args.gear ≡ Some c.in_ok-to.to = next_lower-is setup.geometry c.args.gear c.lower.result c.lower.ensures ∙ c.in_ok-to.was in
    gear_down_for-some setup samples (lengths_of c.args.self.now) (next_lower setup.geometry c.args.gear) c.in_ok-to.to true next c.requires.lengths
    (sym c.if-are_quiet.true ∙ c.are_quiet.ensures samples stands)

pub returns-else-are_quiet : goal.returns-else-are_quiet
returns-else-are_quiet c = λ samples stands.
    let setup = c.args.setup.now in
    let next : next_lower setup.geometry c.args.gear ≡ Some c.in_ok-to.to = next_lower-is setup.geometry c.args.gear c.lower.result c.lower.ensures ∙ c.in_ok-to.was in
    gear_down_for-some setup samples (lengths_of c.args.self.now) (next_lower setup.geometry c.args.gear) c.in_ok-to.to false next c.requires.lengths
    (sym c.if-are_quiet.false ∙ c.are_quiet.ensures samples stands)
