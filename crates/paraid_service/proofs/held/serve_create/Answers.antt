use Rattle.paraid_volume.specs.Faults.{vol_halt_in}
use Rattle.paraid_volume_lines.specs.Grammar.{create}
use Rattle.paraid_volume_lines.specs.NameWords.{word_of}
use Rattle.paraid_volume_lines.specs.Texts.{created_text}
use Rattle.paraid_volume_lines.proofs.NameWordLemmas.{spells}
use Rattle.paraid_service.proofs.HeldLemmas.{created_halts, serves}
use Rattle.paraid_service.proofs.held.serve_create.Goals as goal

pub returns : goal.returns
returns g c =
    let e = c.create_named-made.ensures in
    serves g.B.Blocks c.args.volumes.now c.create_named-made.new.volumes (create (word_of c.args.name.now) c.args.extents) (vol_halt_in c.create_named-made.result) c.halt_of.result (created_text (word_of c.args.name.now) c.create_named-made.result) c.tell_created.new.into e.halt c.halt_of.ensures e.went e.keeps c.tell_created.ensures (λ no. cc) (λ no. cc)
    (created_halts (word_of c.args.name.now) c.create_named-made.result) (λ none from start log lived tells. e.line none from start log lived tells (word_of c.args.name.now) (spells c.args.name.now)) (λ none no. cc) (λ none. e.reply c.requires.going none)
