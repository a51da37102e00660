use Rattle.std.proofs.Common.{◌≡◌, ℕ, ◌+◌, ◌≤◌, arith, inl, inr, sym, subst, ◌∙◌, slice_index_or, true, false}
use Rattle.paraid_base.specs.Regions.{IsGear}
use Rattle.paraid_schedule.specs.Bounds.{bound_count}
use Rattle.std.proofs.lemmas.Bool.{cases_lt}
use Rattle.paraid_schedule.proofs.SolvedLemmas.{later_same, gears_same, IsSolvedAt-same}
use Rattle.paraid_schedule.proofs.planner.solve_period.Goals.{then-is_gear, else-is_gear}
use Rattle.paraid_schedule.proofs.planner.solve_period.Goals as goal

pub loop-a-preserved : goal.loop-a-preserved
loop-a-preserved c =
    let s = c.args.setup.now in
    let g = s.geometry in
    let a = c.loop-a.a in
    let t = c.args.t in
    let old = c.loop-a.bounds in
    elim c.if-is_gear.branch [
      | then-is_gear w ↦
          let new = w.solve_gear.new.bounds in
          let gear : IsGear g a = sym c.is_gear.ensures ∙ w.if-is_gear.true in
          let differ = w.solve_gear.ensures.same in
          let later = later_same s c.args.ups t old new a gear differ in
          rw w.bounds-is
          record {
            solved = λ e low is.
                elim (cases_lt e a) [
                  | inl before ↦ IsSolvedAt-same s c.args.ups t old new c.args.demanded e is (gears_same s c.args.ups t old new a gear differ e before is) (later (t + 1) (omega arith)) (c.loop-a.invariant.solved e before is)
                  | inr after ↦ (let same : e ≡ a = omega arith in rw same w.solve_gear.ensures.solved)
                ];
            same = λ u after b left is few. later u after b left is few ∙ c.loop-a.invariant.same u after b left is few;
            most = w.solve_gear.ensures.most;
          }
      | else-is_gear w ↦
          let no : slice_index_or g.gears a false ≡ false = sym c.is_gear.ensures ∙ w.if-is_gear.false in
          rw w.bounds-is
          record {
            solved = λ e low is.
                elim (cases_lt e a) [
                  | inl before ↦ c.loop-a.invariant.solved e before is
                  | inr after ↦ (let same : e ≡ a = omega arith in
                      let here : IsGear g a = rw same at is in
                      let both : true ≡ false = sym here ∙ no in
                      cc)
                ];
            same = c.loop-a.invariant.same;
            most = c.loop-a.invariant.most;
          }
    ]

pub solve_gear-requires : goal.solve_gear-requires
solve_gear-requires c = record {
  few = c.requires.ups;
  period = c.requires.period;
  gear = sym c.is_gear.ensures ∙ c.if-is_gear.true;
  room = subst (λ (n : ℕ). bound_count c.args.setup.now.geometry c.args.ups (c.args.t + 1) ≤ n) (sym c.loop-a.auto.bounds) c.requires.room;
  most = c.loop-a.invariant.most;
}
