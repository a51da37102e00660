use Rattle.std.proofs.Common.{◌≡◌, ◌-◌, [], ◌∷◌, ◌++◌, length, arith, ◌∙◌, ap}
use Rattle.std.proofs.Math.Nat.{le_refl}
use Rattle.std.proofs.lemmas.List.{length-append}
use Rattle.paraid_schedule.specs.Schedule.{rise}
use Rattle.paraid_schedule.proofs.GearStepLemmas.{step_gear}
use Rattle.paraid_schedule.proofs.RoomLemmas.{HasRow-right, last_low, last_next, count_low, count_more, ended, left_after_rise, left_after, left_low, none_low}
use Rattle.paraid_schedule.proofs.WalkLemmas.{IsWalk-start, walk-some, walk-more, walk-schedule, walk-cost, walk-lowest}
use Rattle.paraid_schedule.proofs.planner.follow.Goals.{then-next-gear, else-next-gear}
use Rattle.paraid_schedule.proofs.planner.follow.Goals as goal

pub returns-in_default : goal.returns-in_default
returns-in_default c = record { schedule = tt; cost = tt; lowest = tt }

pub loop-t-init : goal.loop-t-init
loop-t-init c =
    let s = c.args.setup.now in
    let items : c.push.new.self.items ≡ s.geometry.disks ∷ [] = rw c.new-gears.ensures.items at c.in-Ok.ensures.items in
    record {
      walk = rw items (IsWalk-start s c.args.demand.now c.args.ups c.args.bounds.now);
      count = ap length items;
      gear = s.geometry.last;
      left_few = le_refl c.args.ups;
      small = omega arith;
    }

pub next_gear-next-requires : goal.next_gear-next-requires
next_gear-next-requires c =
    let s = c.args.setup.now in
    let t = c.loop-t.t in
    let now = c.loop-t.invariant in
    let low = last_low t (length c.args.demand.now) c.loop-t.auto.t c.loop-t-test.true in
    record {
      row = HasRow-right s c.args.demand.now c.args.ups c.args.bounds.now (t - 1) c.loop-t.gear c.requires.right c.requires.demand.few c.requires.ups low now.gear;
      left = now.left_few;
      solved = c.requires.solved (t - 1) (none_low (t - 1)) low c.loop-t.gear now.gear;
      some =
          walk-some s c.args.demand.now c.args.ups c.args.bounds.now c.requires.right c.loop-t.gears.items c.loop-t.gear c.loop-t.left (t - 1)
          c.requires.demand now.small now.walk (last_next t (length c.loop-t.gears.items) c.loop-t.auto.t now.count);
    }

pub returns-in_default-push : goal.returns-in_default-push
returns-in_default-push c = record { schedule = tt; cost = tt; lowest = tt }

pub loop-t-preserved : goal.loop-t-preserved
loop-t-preserved c =
    let s = c.args.setup.now in
    let t = c.loop-t.t in
    let now = c.loop-t.invariant in
    let gears = c.loop-t.gears.items in
    let next = c.next_gear-next.result in
    let met = c.next_gear-next.ensures in
    let is = step_gear s.geometry c.loop-t.gear next now.gear met.step in
    let items : c.push-in-loop-t.new.self.items ≡ gears ++ next ∷ [] = c.in-Ok-push.ensures.items in
    let left : c.if-next-gear.left ≡ c.loop-t.left - rise c.loop-t.gear next =
    elim c.if-next-gear.branch [
      | then-next-gear w ↦ left_after_rise c.loop-t.gear next c.loop-t.left c.if-next-gear.left w.if-next-gear.true w.left-is
      | else-next-gear w ↦ left_after c.loop-t.gear next c.loop-t.left c.if-next-gear.left w.if-next-gear.false w.left-is
    ] in
    record {
      walk = rw items
          (walk-more s c.args.demand.now c.args.ups c.args.bounds.now c.requires.right gears c.loop-t.gear c.loop-t.left (t - 1) next c.if-next-gear.left
          c.requires.demand now.small now.walk (last_next t (length gears) c.loop-t.auto.t now.count) (count_low t (length c.args.demand.now) (length gears) now.count c.loop-t-test.true)
          is met.step met.permitted left now.left_few met.met met.lowest);
      count = count_more t _ (length gears) now.count (ap length items ∙ length-append gears (next ∷ []));
      gear = is;
      left_few = left_low c.loop-t.left (rise c.loop-t.gear next) c.if-next-gear.left c.args.ups left now.left_few;
      small = now.small;
    }

pub returns : goal.returns
returns c =
    let s = c.args.setup.now in
    let now = c.loop-t.invariant in
    let periods = ended c.loop-t.t (length c.args.demand.now) (length c.loop-t.gears.items) now.count (c.loop-t.auto.t-end c.requires.demand.some) c.loop-t-test.false in
    let costs =
    walk-cost s c.args.demand.now c.args.ups c.args.bounds.now c.requires.right c.requires.demand now.small c.requires.solved c.loop-t.gears.items c.loop-t.gear c.loop-t.left
    now.gear now.walk periods in
    record {
      schedule = walk-schedule s c.args.demand.now c.args.ups c.args.bounds.now c.requires.right c.loop-t.gears.items c.loop-t.gear c.loop-t.left now.walk periods;
      cost = costs;
      lowest = walk-lowest s c.args.demand.now c.args.ups c.args.bounds.now c.requires.right c.loop-t.gears.items c.loop-t.gear c.loop-t.left now.walk costs;
    }
