use Rattle.std.proofs.Common.{◌≡◌, Some, None, true, false, sym, ◌∙◌, ap}
use Rattle.paraid_base.specs.Gears.{next_higher}
use Rattle.paraid_gear.specs.ThreeWindows.{lengths_of}
use Rattle.paraid_gear.specs.Decision.{gear_up_for}
use Rattle.paraid_base.proofs.GearsLemmas.{next_higher-is}
use Rattle.paraid_gear.proofs.DecisionLemmas.{gear_up_for-some}
use Rattle.paraid_gear.proofs.three_windows.Windows.gear_up.Goals as goal

pub returns-in_err-to : goal.returns-in_err-to
returns-in_err-to c = λ samples stands.
    let setup = c.args.setup.now in
    let next : next_higher setup.geometry c.args.gear ≡ None = next_higher-is setup.geometry c.args.gear c.higher.result c.higher.ensures ∙ c.in_err-to.was in
    c.from_residual.ensures ∙ ap (gear_up_for setup c.args.gear samples) (sym next)

pub returns-then-are_busy : goal.returns-then-are_busy
returns-then-are_busy c = λ samples stands.
    let setup = c.args.setup.now in
    let next : next_higher setup.geometry c.args.gear ≡ Some c.in_ok-to.to = next_higher-is setup.geometry c.args.gear c.higher.result c.higher.ensures ∙ c.in_ok-to.was in
    gear_up_for-some setup c.args.gear samples (lengths_of c.args.self.now) (next_higher setup.geometry c.args.gear) c.in_ok-to.to true next c.requires.lengths
    (sym c.if-are_busy.true ∙ c.are_busy.ensures samples stands)

pub returns-else-are_busy : goal.returns-else-are_busy
returns-else-are_busy c = λ samples stands.
    let setup = c.args.setup.now in
    let next : next_higher setup.geometry c.args.gear ≡ Some c.in_ok-to.to = next_higher-is setup.geometry c.args.gear c.higher.result c.higher.ensures ∙ c.in_ok-to.was in
    gear_up_for-some setup c.args.gear samples (lengths_of c.args.self.now) (next_higher setup.geometry c.args.gear) c.in_ok-to.to false next c.requires.lengths
    (sym c.if-are_busy.false ∙ c.are_busy.ensures samples stands)
