use Rattle.std.proofs.Common.{refl}
use Rattle.paraid_nbd.proofs.DeviceLemmas.{halted_call, keeps_call}
use Rattle.paraid_nbd.proofs.ErrorLemmas.{by_call, comes_by_all, comes_by_halt, halts_on_call}
use Rattle.paraid_nbd.specs.declared.request.Command.TheVariants.{Flush}
use Rattle.paraid_nbd.proofs.ServiceLemmas.{flush_performs, halts_performs}
use Rattle.paraid_nbd.proofs.serve.perform_flush.Goals as goal

pub returns-in-Ok : goal.returns-in-Ok
returns-in-Ok g c = record {
  performs = λ first tells s events is kept. flush_performs _ s c.args.request.now c.args.content.now c.args.content.now c.in-Ok._writes c.requires.command c.requires.done is c.in-Ok.ensures.again c.in-Ok.ensures.halt (λ h stands. c.in-Ok.ensures.history h stands tells) (c.in-Ok.ensures.events first events kept);
  comes = comes_by_all _ _ _ _ c.args.request.now c.args.content.now c.args.content.now Flush c.requires.command c.requires.done (by_call _ _ _ _ c.in-Ok.ensures.events (c.in-Ok._writes, refl));
  size = c.in-Ok.ensures.size;
  told = c.in-Ok.ensures.told;
  keeps = keeps_call _ _ _ _ c.in-Ok.ensures.events;
}

pub returns-in-Err : goal.returns-in-Err
returns-in-Err g c = record {
  performs = λ first tells s events is kept. halts_performs _ s c.args.request.now c.args.content.now c.args.content.now c.requires.done (halted_call _ _ _ s events _ c.in-Err._halt c.in-Err.ensures.halt (c.in-Err.ensures.events first events kept));
  comes = comes_by_halt _ _ _ _ c.args.request.now c.args.content.now c.args.content.now Flush c.requires.command c.requires.done (halts_on_call _ _ _ _ c.in-Err._halt c.in-Err.ensures.events);
  size = c.in-Err.ensures.size;
  told = c.in-Err.ensures.told;
  keeps = keeps_call _ _ _ _ c.in-Err.ensures.events;
}
