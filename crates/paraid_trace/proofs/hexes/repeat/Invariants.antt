use Rattle.std.proofs.Common.{◌-◌, ◌≡◌, ◌<◌, ◌≤◌, ◌%◌, length, take}
use Rattle.paraid_trace.proofs.RepeatSteps.{Repeated}
use Rattle.paraid_trace.proofs.hexes.repeat.Given as goal

abbrev pub invariant-loop-done : goal.invariant-loop-done
invariant-loop-done l = record {
  whole : length l.bytes ≡ 512;
  some : 0 < l.done;
  within : l.done ≤ 512;
  turns : l.done < 512 → l.done % length (take l.length l.fn.bytes) ≡ 0;
  each : Repeated (take l.length l.fn.bytes) l.bytes l.done;
}

abbrev pub decreases-loop-done : goal.decreases-loop-done
decreases-loop-done l = 512 - l.done
