use Rattle.std.proofs.Common.{refl, rules}
use Rattle.paraid_nbd.proofs.DeviceLemmas.{halted_call, keeps_call}
use Rattle.paraid_nbd.proofs.ErrorLemmas.{by_call, halts_on_call}
use Rattle.paraid_nbd.proofs.export.write_block.Goals as goal

pub returns-in-Err-Halt : goal.returns-in-Err-Halt
returns-in-Err-Halt g c = record {
  size = search rules;
  told = search rules;
  keeps = keeps_call _ _ _ _ c.write.ensures.events;
  serves = tt;
  halts = halts_on_call _ _ _ _ c.in-Err-Halt.halt (λ first events kept. rw c.in-Err-Halt.field-0-is at c.in-Err-Halt.ensures.events first events kept);
  written = search rules;
  stops = λ first tells s events is kept.
      let halts = rw c.in-Err-Halt.field-0-is at c.in-Err-Halt.ensures.halt in
      let keeps = rw c.in-Err-Halt.field-0-is at c.in-Err-Halt.ensures.events first events kept in
      halted_call _ _ _ s events _ c.in-Err-Halt.halt halts keeps;
}

pub returns-in-Ok-clause-keeps : goal.returns-in-Ok-clause-keeps
returns-in-Ok-clause-keeps g c = keeps_call _ _ _ _ c.write.ensures.events

pub returns-in-Ok-clause-serves : goal.returns-in-Ok-clause-serves
returns-in-Ok-clause-serves g c = by_call _ _ _ _ c.in-Ok.ensures.events (_, refl)
