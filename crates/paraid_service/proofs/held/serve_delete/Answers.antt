use Rattle.std.proofs.Common.{refl}
use Rattle.std.specs.Prelude.{None}
use Rattle.paraid_volume_lines.specs.Grammar.{delete}
use Rattle.paraid_volume_lines.specs.NameWords.{word_of}
use Rattle.paraid_volume_lines.specs.Texts.{deleted_text}
use Rattle.paraid_volume_lines.proofs.NameWordLemmas.{spells}
use Rattle.paraid_service.proofs.HeldLemmas.{serves}
use Rattle.paraid_service.proofs.held.serve_delete.Goals as goal

pub returns-in-Ok : goal.returns-in-Ok
returns-in-Ok g c =
    let e = c.in-Ok.ensures in
    serves g.B.Blocks c.args.volumes.now c.delete_named.new.volumes (delete (word_of c.args.name.now)) None None (deleted_text (word_of c.args.name.now) c.in-Ok.there) c.tell_deleted.new.into (e.halt c.requires.going) refl e.went e.keeps c.tell_deleted.ensures (λ no. cc) (λ no. cc)
    (λ own no. cc) (λ none from start log lived tells. e.line from start log lived tells (word_of c.args.name.now) (spells c.args.name.now)) (λ none no. cc) (λ none. e.reply c.requires.going)
