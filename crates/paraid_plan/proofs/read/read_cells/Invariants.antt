use Rattle.std.specs.Prelude.{◌≡◌, ◌≢◌, ℕ, ◌<◌, true, length}
use Rattle.paraid_base.specs.Cells.{parity_disk}
use Rattle.paraid_base.specs.Pairs.{pairs_of}
use Rattle.paraid_base.specs.Sums.{without, xor_upto}
use Rattle.paraid_plan.specs.Desk.{sees}
use Rattle.paraid_plan.specs.Leaves.{StaysAsWas}
use Rattle.paraid_plan.specs.RowWrites.{IsOldOf, is_changed, parity_part}
use Rattle.paraid_plan.specs.WriteTargets.{needs_old}
use Rattle.paraid_image.specs.Value.{value}
use Rattle.paraid_plan.proofs.read.read_cells.Given as goal

-- the data cells of the disks before this one are read
abbrev pub invariant-loop-d : goal.invariant-loop-d
invariant-loop-d g l = record {
  sum : g.P.WritePlan.tells l.plan → l.fn.needed ≡ true
      → l.sum ≡ xor_upto (without (parity_part l.fn.m.setup.geometry.disks (pairs_of l.fn.pairs) l.fn.r (value (sees l.fn.m (g.P.WritePlan.desk l.fn.plan)) l.fn.r) l.fn.anew) (parity_disk l.fn.m.setup.geometry.disks l.fn.r)) l.d;
  olds : g.P.WritePlan.tells l.plan → (e : ℕ) → e < l.d → e ≢ parity_disk l.fn.m.setup.geometry.disks l.fn.r
      → is_changed l.fn.m.setup.geometry.disks (pairs_of l.fn.pairs) l.fn.r e ≡ true → needs_old (sees l.fn.m (g.P.WritePlan.desk l.fn.plan)) l.fn.r e ≡ true
      → IsOldOf l.old e (value (sees l.fn.m (g.P.WritePlan.desk l.fn.plan)) l.fn.r e);
  kept : length l.old ≡ length l.fn.old;
  stays : StaysAsWas g.P.WritePlan l.fn.m l.fn.plan l.plan;
  leads : g.P.WritePlan.leads l.fn.plan l.plan;
}
