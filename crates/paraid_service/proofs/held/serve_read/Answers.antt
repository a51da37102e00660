use Rattle.paraid_volume.specs.Faults.{vol_halt_in}
use Rattle.paraid_volume_lines.specs.Grammar.{read}
use Rattle.paraid_volume_lines.specs.NameWords.{word_of}
use Rattle.paraid_volume_lines.specs.Texts.{read_text}
use Rattle.paraid_volume_lines.proofs.NameWordLemmas.{spells}
use Rattle.paraid_service.proofs.HeldLemmas.{read_halts, serves}
use Rattle.paraid_service.proofs.held.serve_read.Goals as goal

pub returns : goal.returns
returns g c =
    let e = c.read_named-read.ensures in
    serves g.B.Blocks c.args.volumes.now c.read_named-read.new.volumes (read (word_of c.args.name.now) c.args.block) (vol_halt_in c.read_named-read.result) c.halt_of.result (read_text (word_of c.args.name.now) c.args.block c.read_named-read.result c.read_named-read.new.into) c.tell_read.new.into (e.halt c.requires.going) c.halt_of.ensures e.went e.keeps c.tell_read.ensures (λ no. cc) (λ no. cc)
    (read_halts (word_of c.args.name.now) c.args.block c.read_named-read.result c.read_named-read.new.into) (λ none from start log lived tells. e.line none from start log lived tells (word_of c.args.name.now) (spells c.args.name.now)) (λ none no. cc) (λ none. e.reply c.requires.going none)
