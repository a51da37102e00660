use Rattle.paraid_volume.specs.Faults.{vol_halt_in}
use Rattle.paraid_volume_lines.specs.Grammar.{flush}
use Rattle.paraid_volume_lines.specs.Texts.{flushed_text}
use Rattle.paraid_service.proofs.HeldLemmas.{flushed_halts, serves}
use Rattle.paraid_service.proofs.held.serve_flush.Goals as goal

pub returns : goal.returns
returns g c =
    let e = c.flush_volumes-flushed.ensures in
    serves g.B.Blocks c.args.volumes.now c.flush_volumes-flushed.new.volumes (flush) (vol_halt_in c.flush_volumes-flushed.result) c.halt_of.result (flushed_text c.flush_volumes-flushed.result) c.tell_flushed.new.into e.halt c.halt_of.ensures e.went e.keeps c.tell_flushed.ensures (λ no. cc) (λ no. cc)
    (flushed_halts c.flush_volumes-flushed.result) e.line (λ none is. e.flushed none) (λ none. e.reply c.requires.going none)
