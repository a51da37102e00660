use Rattle.std.proofs.Common.{◌∙◌, ◌+◌, ap, sym, drop}
use Rattle.std.specs.Prelude.{map}
use Rattle.paraid_base.specs.declared.block.Block.{Block}
use Rattle.paraid_base.specs.declared.pairs.Pairs.{Pairs}
use Rattle.paraid_base.specs.History.{joined_entries, last_of}
use Rattle.paraid_base.specs.Pairs.{pairs_of}
use Rattle.paraid_base.proofs.PairsLemmas.{last_of-drop}
use Rattle.paraid_plain.proofs.history.last_of.Goals as goal

pub loop-write-preserved : goal.loop-write-preserved
loop-write-preserved c =
    let writes = c.args.history.now in
    let i = c.loop-write.write-index in
    let d = c.write-item.result in
    let rest = joined_entries (map pairs_of (drop (i + 1) writes)) in
    let laid = c.lay.ensures ∙ ap (λ (w : Pairs). last_of c.args.block c.loop-write.bytes (pairs_of w)) c.write-item.is in
    c.loop-write.invariant ∙ last_of-drop c.args.block c.loop-write.bytes writes i d c.loop-write-test.true
    ∙ ap (λ (x : Block). last_of c.args.block x rest) (sym laid)
