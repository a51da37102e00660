use Rattle.std.proofs.Common.{◌∙◌}
use Rattle.paraid_nbd.proofs.ErrorLemmas.{comes_by_all, comes_by_halt, read_halts_of}
use Rattle.paraid_nbd.specs.declared.request.Command.TheVariants.{Read}
use Rattle.paraid_nbd.proofs.ServiceLemmas.{read_performs, halts_performs}
use Rattle.paraid_nbd.proofs.serve.perform_read.Goals as goal

pub returns-in-Ok : goal.returns-in-Ok
returns-in-Ok g c = record {
  performs = λ first tells s events is kept. read_performs _ c.args.request.now c.args.content.now c.read_bytes.new.into c.requires.command c.requires.done (c.read_bytes.auto.into ∙ c.requires.room) (c.in-Ok.ensures.read first tells s events is kept);
  comes = comes_by_all _ _ _ _ c.args.request.now c.args.content.now c.read_bytes.new.into Read c.requires.command c.requires.done c.in-Ok.ensures.serves;
  size = c.in-Ok.ensures.size;
  told = c.in-Ok.ensures.told;
  keeps = c.in-Ok.ensures.keeps;
}

pub returns-in-Err : goal.returns-in-Err
returns-in-Err g c = record {
  performs = λ first tells s events is kept. halts_performs _ s c.args.request.now c.args.content.now c.read_bytes.new.into c.requires.done (c.in-Err.ensures.stops first tells s events is kept);
  comes = comes_by_halt _ _ _ _ c.args.request.now c.args.content.now c.read_bytes.new.into Read c.requires.command c.requires.done (read_halts_of _ _ _ c.args.request.now.offset c.requires.room c.in-Err.ensures.halts);
  size = c.in-Err.ensures.size;
  told = c.in-Err.ensures.told;
  keeps = c.in-Err.ensures.keeps;
}
