use Rattle.std.proofs.Common.{◌≡◌, ◌-◌, length, arith, sym, ◌∙◌, ap}
use Rattle.paraid_energy.proofs.AccountLemmas.{HasFigures-new_account}
use Rattle.paraid_schedule.proofs.EnergyLemmas.{counted_room, counted_room-after, counted_small, counted_more}
use Rattle.paraid_schedule.proofs.CertificateLemmas.{cost_before-none, cost_before-at}
use Rattle.paraid_schedule.proofs.RoomLemmas.{last_low, last_within, lower_low}
use Rattle.paraid_schedule.proofs.check.cost_of.Goals as goal

pub loop-t-init : goal.loop-t-init
loop-t-init c =
    let s = c.args.setup.now in
    let total : c.new-ledger.result.total ≡ 0 = ap (λ a. a.total) c.new-ledger.ensures in
    record {
      figures = HasFigures-new_account s c.new-ledger.result c.new-ledger.ensures;
      counted = total ∙ sym (cost_before-none s c.args.gears.now);
      small = omega (arith, total);
    }

pub count_period-requires : goal.count_period-requires
count_period-requires c =
    let t = c.loop-t.t in
    let n = length c.args.gears.now in
    let now = c.loop-t.invariant in
    record {
      gear = c.requires.gears (t - 1) (last_low t n c.loop-t.auto.t c.loop-t-test.true);
      figures = now.figures;
      room = counted_room c.loop-t.ledger.total t n now.small (lower_low t n c.loop-t-test.true) c.requires.few;
    }

pub count_step-requires : goal.count_step-requires
count_step-requires c =
    let t = c.loop-t.t in
    let n = length c.args.gears.now in
    let counted = c.count_period.ensures in
    record {
      figures = counted.figures;
      room = counted_room-after c.loop-t.ledger.total c.count_period.new.ledger.total t n counted.small c.loop-t.invariant.small (lower_low t n c.loop-t-test.true) c.requires.few;
    }

pub loop-t-preserved : goal.loop-t-preserved
loop-t-preserved c =
    let now = c.loop-t.invariant in
    let period = c.count_period.ensures in
    let step = c.count_step.ensures in
    record {
      figures = step.figures;
      counted = counted_more _ _ _ _ _ _ _ now.counted period.total step.total (cost_before-at c.args.setup.now c.args.gears.now c.loop-t.t c.loop-t.auto.t);
      small = counted_small c.loop-t.ledger.total c.count_period.new.ledger.total c.count_step.new.ledger.total c.loop-t.t now.small period.small step.small;
    }

pub count_period-requires-2 : goal.count_period-requires-2
count_period-requires-2 c =
    let n = length c.args.gears.now in
    let now = c.loop-t.invariant in
    record {
      gear = c.requires.gears (n - 1) (last_within n c.requires.some);
      figures = now.figures;
      room = counted_room c.loop-t.ledger.total c.loop-t.t n now.small (c.loop-t.auto.t-end c.requires.some) c.requires.few;
    }
