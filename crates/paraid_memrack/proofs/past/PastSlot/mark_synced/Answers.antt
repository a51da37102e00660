use Rattle.std.proofs.Common.{◌<◌, false, length, set, ◌∙◌, ap, arith}
use Rattle.std.proofs.lemmas.List.Edits.{map_over_more}
use Rattle.paraid_base.specs.declared.block.Block.{Block}
use Rattle.paraid_memrack.specs.declared.versions.Versions.{Versions}
use Rattle.paraid_memrack.specs.Versions.{after_block_sync}
use Rattle.paraid_memrack.proofs.past.PastSlot.mark_synced.Goals as goal

pub loop-at-preserved : goal.loop-at-preserved
loop-at-preserved c =
    let at = c.loop-at.at in
    let before = c.args.self.now.versions in
    let now = c.loop-at.self.versions.items in
    let version = c.index_mut-version.result.now in
    let within : at < length before.items = omega (arith, c.loop-at-test.true, c.len-at-end.ensures, before.ok.0) in
    let with_kept = λ (b : Block). let v : Versions = record { written = version.written; kept = b; loose = false } in set now at v in (
      c.loop-at.invariant.0,
      ap with_kept c.copy_from.ensures ∙ map_over_more after_block_sync before.items now at version within c.loop-at.invariant.1 c.index_mut-version.ensures.value,
    )
