use Rattle.std.proofs.Common.{◌+◌, ◌∙◌, ℕ, sym, ap, arith}
use Rattle.paraid_base.proofs.PlacesLemmas.{sum_before_more, sum_before_none}
use Rattle.paraid_base.specs.Sums.{sum_before}
use Rattle.paraid_array.specs.Used.{one_with, power_by}
use Rattle.paraid_array.proofs.energy.disks_with.Goals as goal

pub loop-disk-init : goal.loop-disk-init
loop-disk-init c = record { is = sym (sum_before_none (λ d. one_with c.args.power (power_by c.args.meta.now d))); small = omega arith }

pub loop-disk-preserved : goal.loop-disk-preserved
loop-disk-preserved c =
    let was = c.loop-disk.invariant in
    let one = c.one_with-count.ensures in
    let each : ℕ → ℕ = λ d. one_with c.args.power (power_by c.args.meta.now d) in
    record {
      is = ap (λ (n : ℕ). n + c.one_with-count.result) was.is ∙ ap (λ (n : ℕ). sum_before each c.loop-disk.disk + n) (one.value ∙ ap (one_with c.args.power) c.disk_power.ensures) ∙ sym (sum_before_more each c.loop-disk.disk);
      small = let low = was.small in let few = one.few in omega (arith, low, few);
    }
