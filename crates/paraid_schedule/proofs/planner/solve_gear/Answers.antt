use Rattle.std.proofs.Common.{◌∙◌, arith}
use Rattle.paraid_schedule.proofs.RoomLemmas.{gear_low, period_low, ups_fit, row_within, HasRow-after}
use Rattle.paraid_schedule.proofs.SolvedLemmas.{solved_served, solved_unserved, cleared_row}
use Rattle.paraid_schedule.proofs.TestLemmas.{not_so}
use Rattle.paraid_schedule.proofs.planner.solve_gear.Goals as goal

pub place-requires : goal.place-requires
place-requires c =
    let row = c.requires in
    record { ups = row.few; period = period_low c.args.t row.period; gear = gear_low c.args.setup.now.geometry c.args.a row.gear }

pub overflow_add-ups : goal.overflow_add-ups
overflow_add-ups c = ups_fit c.args.ups c.requires.few

pub clear-requires : goal.clear-requires
clear-requires c =
    record { within = row_within c.args.setup.now.geometry c.args.ups c.args.bounds.now c.args.t c.args.a c.requires c.place.result c.place.ensures.value; most = c.requires.most }

pub returns-then-not-serves : goal.returns-then-not-serves
returns-then-not-serves c =
    let s = c.args.setup.now in
    record {
      solved =
          solved_unserved s c.args.demanded c.args.ups c.clear.new.bounds c.args.t c.args.a (not_so c.serves.result c.serves.ensures c.if-not-serves.true)
          (cleared_row s.geometry c.args.ups c.clear.new.bounds c.args.t c.args.a c.place.result c.place.ensures.value c.clear.ensures.cleared);
      same = rw c.place.ensures.value at c.clear.ensures.same;
      most = c.clear.ensures.most;
    }

pub relax_to-requires : goal.relax_to-requires
relax_to-requires c = record {
  row = HasRow-after c.args.setup.now.geometry c.args.ups c.args.bounds.now c.args.t c.args.a c.requires c.clear.new.bounds c.clear.auto.bounds c.clear.ensures.most;
  gear = c.requires.gear;
  low = omega arith;
}

pub relax_by_fall-requires : goal.relax_by_fall-requires
relax_by_fall-requires c =
    HasRow-after c.args.setup.now.geometry c.args.ups c.args.bounds.now c.args.t c.args.a c.requires c.relax_to.new.bounds (c.relax_to.auto.bounds ∙ c.clear.auto.bounds) c.relax_to.ensures.most

pub relax_by_rise-requires : goal.relax_by_rise-requires
relax_by_rise-requires c =
    HasRow-after c.args.setup.now.geometry c.args.ups c.args.bounds.now c.args.t c.args.a c.requires c.relax_by_fall.new.bounds
    (c.relax_by_fall.auto.bounds ∙ c.relax_to.auto.bounds ∙ c.clear.auto.bounds) c.relax_by_fall.ensures.most

pub returns : goal.returns
returns c =
    let s = c.args.setup.now in
    let t = c.args.t in
    let a = c.args.a in
    let stay = c.relax_to.ensures in
    let fall = c.relax_by_fall.ensures in
    let risen = c.relax_by_rise.ensures in
    let cleared = rw c.place.ensures.value at c.clear.ensures.same in
    record {
      solved =
          solved_served s c.args.demanded c.args.ups c.clear.new.bounds c.relax_to.new.bounds c.relax_by_fall.new.bounds c.relax_by_rise.new.bounds t a c.requires.gear
          (c.serves.ensures.0 c.if-not-serves.false) (cleared_row s.geometry c.args.ups c.clear.new.bounds t a c.place.result c.place.ensures.value c.clear.ensures.cleared)
          stay.least fall.least risen.least stay.same fall.same risen.same;
      same = λ k out. risen.same k out ∙ fall.same k out ∙ stay.same k out ∙ cleared k out;
      most = risen.most;
    }
