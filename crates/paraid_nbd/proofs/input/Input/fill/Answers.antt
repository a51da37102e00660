use Rattle.std.proofs.Common.{◌≡◌, ◌≤◌, ◌-◌, length, take, arith, length-take, length-drop, ℕ, List, subst, ◌∙◌}
use borrow.Rule.Slice.PartMut.{mid_of}
use Rattle.std.proofs.lemmas.List.{length-take-le, take_all}
use Rattle.std.proofs.lemmas.Result.{err_from_is_err_and}
use Rattle.paraid_nbd.specs.Taking.{Takes}
use Rattle.paraid_nbd.proofs.TakingLemmas.{Takes-then, Lacks-then, later_then, filled_more, length-filled, ok_apart, passed, stood}
use Rattle.paraid_nbd.proofs.input.Input.fill.Goals as goal

pub returns-in_err-n : goal.returns-in_err-n
returns-in_err-n g c =
    let p = err_from_is_err_and c.from_residual.result c.from_residual.ensures.1 in
    let i = c.loop-done.invariant in
    let many : length (take c.loop-done.done c.loop-done.into) ≡ c.loop-done.done = length-take-le _ _ i.within in
    record {
      takes = rw p.1 tt;
      lacks = rw (p.1, p.2) (Lacks-then i.takes c.in_err-n.ensures.lacks (omega (arith, c.loop-done-test.true)) (stood i.still));
      later = later_then _ _ _ (stood i.still) c.in_err-n.ensures.later;
      still = λ n. passed p.1 p.2 c.in_err-n.ensures.still n ∙ i.still;
    }

pub loop-done-preserved : goal.loop-done-preserved
loop-done-preserved g c =
    let i = c.loop-done.invariant in
    let e = c.in_ok-n.ensures in
    let part = c.take_some.new.into in
    let few : c.in_ok-n.n ≤ length c.loop-done.into - c.loop-done.done = omega (arith, simp (mid_of, length-take, length-drop) at e.within) in
    let many : length part ≡ length c.loop-done.into - c.loop-done.done = omega (arith, simp (mid_of, length-take, length-drop) at c.take_some.auto.into) in
    let all = Takes-then i.takes e.takes in
    record {
      within = rw (length-filled c.loop-done.done c.loop-done.into part many i.within) (omega (arith, i.within));
      takes = rw (filled_more c.loop-done.done (length c.loop-done.into - c.loop-done.done) c.in_ok-n.n c.loop-done.into part i.within (omega arith)) all;
      still = e.still ok_apart ∙ i.still;
    }

pub returns : goal.returns
returns g c =
    let i = c.loop-done.invariant in
    record {
      takes = subst (λ (x : List ℕ). Takes (g.S.Source.left c.args.source.now) (g.S.Source.left c.loop-done.source) c.args.self.now.taken c.loop-done.self.taken x) (take_all _ _ c.loop-done-test.false) i.takes;
      lacks = tt;
      later = stood i.still;
      still = λ n. i.still;
    }
