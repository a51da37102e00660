use Rattle.paraid_base.specs.States.{gone_out}
use Rattle.paraid_recover.proofs.CallsLemmas.{each_map}
use Rattle.paraid_event.proofs.ChainLemmas.{commit_within, data_transfer, data_within, transfer_each}
use Rattle.paraid_event.proofs.calls.calls_of_a_core_keep_a_session.Goals as goal

pub returns : goal.returns
returns c = record {
  between = λ k h g lo low base w b asked out cs at setup ticks epoch outs calls through.
      transfer_each k h lo base w at b setup ticks asked cs out g low outs (each_map _ _ (data_transfer k.meta.setup.geometry.disks (gone_out k.meta.out)) w.disks cs calls) through
      (data_within k h lo base w at b setup ticks cs epoch calls);
  commit = λ k h g lo low base w b asked out cs at setup ticks epoch outs calls through either.
      transfer_each k h lo base w at b setup ticks asked cs out g low outs calls through
      (commit_within k h lo base w at b setup ticks cs epoch calls either);
}
