use Rattle.std.proofs.Common.{◌≡◌, ◌≤◌, ◌-◌, length, take}
use Rattle.paraid_nbd.specs.Taking.{Takes}
use Rattle.paraid_nbd.proofs.input.Input.fill.Given as goal

abbrev pub invariant-loop-done : goal.invariant-loop-done
invariant-loop-done g l = record {
  within : l.done ≤ length l.into;
  takes : Takes (g.S.Source.left l.initial.source) (g.S.Source.left l.source) l.initial.self.taken l.self.taken (take l.done l.into);
  still : g.S.Source.faults l.source ≡ g.S.Source.faults l.initial.source;
}

abbrev pub decreases-loop-done : goal.decreases-loop-done
decreases-loop-done g l = length l.into - l.done
