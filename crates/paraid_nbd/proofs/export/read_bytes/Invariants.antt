use Rattle.std.proofs.Common.{◌≡◌, ◌≤◌, ◌-◌, ◌+◌, ◌%◌, ◌⊎◌, length, take, IsTrue}
use Rattle.paraid_nbd.specs.Asked.{AreBytesRead, KeepsBy}
use Rattle.paraid_nbd.specs.Export.{ForEachState, KeepsOn, HasBytes}
use Rattle.paraid_nbd.proofs.export.read_bytes.Given as goal

abbrev pub invariant-loop-done : goal.invariant-loop-done
invariant-loop-done g l =
    let b = g.B.Blocks in
    record {
      within : l.done ≤ length l.into;
      whole : (l.done ≡ 0) ⊎ (((l.offset + l.done) % 512 ≡ 0) ⊎ (l.done ≡ length l.into));
      size : b.block_count l.blocks ≡ b.block_count l.initial.blocks;
      told : IsTrue (b.tells l.blocks) → IsTrue (b.tells l.initial.blocks);
      keeps : KeepsOn b.kept l.initial.blocks l.blocks;
      serves : KeepsBy b.kept l.initial.blocks l.blocks (AreBytesRead l.offset (take l.done l.into));
      read : (first : _) → ForEachState (b.stands l.initial.blocks) (b.halted l.initial.blocks) (b.kept first l.initial.blocks) (b.tells l.blocks)
          (λ s events. HasBytes (b.stands l.blocks) (b.halted l.blocks) (b.kept first l.blocks) s events l.offset (take l.done l.into));
    }

abbrev pub decreases-loop-done : goal.decreases-loop-done
decreases-loop-done g l = length l.into - l.done
