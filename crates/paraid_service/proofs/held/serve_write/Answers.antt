use Rattle.paraid_volume.specs.Faults.{vol_halt_in}
use Rattle.paraid_volume_lines.specs.Grammar.{write}
use Rattle.paraid_volume_lines.specs.NameWords.{word_of}
use Rattle.paraid_volume_lines.specs.Texts.{written_text}
use Rattle.paraid_volume_lines.proofs.NameWordLemmas.{spells}
use Rattle.paraid_service.proofs.HeldLemmas.{written_halts, serves}
use Rattle.paraid_service.proofs.held.serve_write.Goals as goal

pub returns : goal.returns
returns g c =
    let e = c.write_named-written.ensures in
    serves g.B.Blocks c.args.volumes.now c.write_named-written.new.volumes (write (word_of c.args.name.now) c.args.block c.args.bytes.now) (vol_halt_in c.write_named-written.result) c.halt_of.result (written_text c.write_named-written.result) c.tell_written.new.into (e.halt c.requires.going) c.halt_of.ensures e.went e.keeps c.tell_written.ensures (λ no. cc) (λ no. cc)
    (written_halts c.write_named-written.result) (λ none from start log lived tells. e.line none from start log lived tells (word_of c.args.name.now) (spells c.args.name.now)) (λ none no. cc) (λ none. e.reply c.requires.going none)
