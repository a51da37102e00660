use Rattle.std.proofs.Common.{ap, arith}
use Rattle.paraid_imgrack.specs.Labels.{label_of}
use Rattle.paraid_imgrack.proofs.CallsLemmas.{KeepsCauses-set, looked_at-set_other, looked_at-set_same}
use Rattle.paraid_imgrack.proofs.LooksLemmas.{label_here, tail-set_other}
use Rattle.paraid_imgrack.proofs.rack.ImageRack.read_label.Goals as goal

pub returns-clause-here : goal.returns-clause-here
returns-clause-here g c = label_here _ _ _ _ _ (omega (arith, c.requires, c.told-labels, c.args.self.now.few)) c.requires c.read_label.ensures.kept

pub returns-clause-kept : goal.returns-clause-kept
returns-clause-kept g c e not = ap label_of (tail-set_other _ _ _ e not)

pub returns-clause-read : goal.returns-clause-read
returns-clause-read g c = looked_at-set_same _ _ c.index_mut.result.now _ c.requires c.index_mut.ensures.value c.read_label.ensures.read

pub returns-clause-left : goal.returns-clause-left
returns-clause-left g c e not = looked_at-set_other _ _ c.index_mut.result.now _ c.requires c.index_mut.ensures.value e not

pub returns-clause-causes : goal.returns-clause-causes
returns-clause-causes g c = KeepsCauses-set _ _ c.index_mut.result.now _ c.requires c.index_mut.ensures.value c.read_label.ensures.first
