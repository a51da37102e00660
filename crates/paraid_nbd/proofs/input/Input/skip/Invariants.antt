use Rattle.std.proofs.Common.{◌≡◌, ◌≤◌, ◌-◌, List, ℕ, length}
use Rattle.paraid_nbd.specs.Taking.{Takes}
use Rattle.paraid_nbd.proofs.input.Input.skip.Given as goal

abbrev pub invariant-loop-done : goal.invariant-loop-done
invariant-loop-done g l = record {
  within : l.done ≤ l.count;
  takes : (got : List ℕ) × (length got ≡ l.done) × Takes (g.S.Source.left l.initial.source) (g.S.Source.left l.source) l.initial.self.taken l.self.taken got;
  still : g.S.Source.faults l.source ≡ g.S.Source.faults l.initial.source;
}

abbrev pub decreases-loop-done : goal.decreases-loop-done
decreases-loop-done g l = l.count - l.done
