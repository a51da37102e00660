use Rattle.std.proofs.Common.{sym, subst}
use Rattle.std.specs.Prelude.{IfErr, IfOk}
use Rattle.paraid_image.specs.Power.{PowerState}
use Rattle.paraid_upkeep.specs.Directions.{IsNextTo, IsRefusedTo, MayGo}
use Rattle.paraid_upkeep.specs.Refusals.{IsShiftStateOf}
use Rattle.paraid_upkeep.specs.declared.asked.Direction.{Direction}
use Rattle.paraid_upkeep.specs.declared.asked.Direction.TheVariants.{Down}
use Rattle.paraid_upkeep.proofs.ResultLemmas.{if_both}
use Rattle.paraid_upkeep.proofs.asked.gear_to.Goals as goal

pub gear_above-requires : goal.gear_above-requires
gear_above-requires c = record { in_range = c.requires.in_range }

pub gear_below-requires : goal.gear_below-requires
gear_below-requires c = record { in_range = c.requires.in_range }

pub returns-in-Up : goal.returns-in-Up
returns-in-Up c =
    let m = c.args.meta.now in
    let above = c.gear_above.ensures in
    record {
      next = subst (λ (z : Direction). IfOk c.gear_above.result (IsNextTo z m)) (sym c.in-Up.is) above.next;
      steady = above.steady;
      whole = above.whole;
      may = subst (λ (z : Direction). IfOk c.gear_above.result (λ to. (s : PowerState) → IsShiftStateOf m s → MayGo z m.setup s to)) (sym c.in-Up.is) above.may;
      refused = subst (λ (z : Direction). IfErr c.gear_above.result (λ fault. (s : PowerState) → IsShiftStateOf m s → IsRefusedTo z m.setup s fault)) (sym c.in-Up.is) above.refused;
    }

pub returns-in-Down : goal.returns-in-Down
returns-in-Down c =
    let m = c.args.meta.now in
    let below = c.gear_below.ensures in
    record {
      next = subst (λ (z : Direction). IfOk c.gear_below.result (IsNextTo z m)) (sym c.in-Down.is) (if_both _ _ (IsNextTo Down m) _ (λ to next spared. (next, spared)) below.next below.spared);
      steady = below.steady;
      whole = below.whole;
      may = subst (λ (z : Direction). IfOk c.gear_below.result (λ to. (s : PowerState) → IsShiftStateOf m s → MayGo z m.setup s to)) (sym c.in-Down.is) below.may;
      refused = subst (λ (z : Direction). IfErr c.gear_below.result (λ fault. (s : PowerState) → IsShiftStateOf m s → IsRefusedTo z m.setup s fault)) (sym c.in-Down.is) below.refused;
    }
