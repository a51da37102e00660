use Rattle.paraid_base.specs.States.{named_out}
use Rattle.paraid_event.proofs.PowerLemmas.{power_each, power_stands}
use Rattle.paraid_event.proofs.ServingLemmas.{spins_only}
use Rattle.paraid_event.proofs.powered.powered_disks_keep_a_session.Goals as goal

pub returns : goal.returns
returns c = record {
  each = λ k h lo base w b asked cs at is_only shows none has setup ticks epoch part. power_each k h lo base w at shows none cs part (λ e raised. has e) b setup ticks epoch (spins_only (named_out k.meta.out) w.down cs is_only part.serving) asked;
  stands = λ k k_then h lo base w cs at shows none has part ends serving. power_stands k h lo base w at shows none cs part (λ e raised. has e) k_then ends serving;
}
