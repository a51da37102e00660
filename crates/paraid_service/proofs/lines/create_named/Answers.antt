use Rattle.paraid_volume_lines.specs.NameWords.{word_of}
use Rattle.paraid_volume_lines.proofs.NameWordLemmas.{spells as word_spells}
use Rattle.paraid_service.proofs.AnswerLemmas.{create_replies}
use Rattle.paraid_service.proofs.LineLemmas.{create_line, if_err_with, if_ok_with}
use Rattle.paraid_service.proofs.lines.create_named.Goals as goal

pub returns : goal.returns
returns g c = record {
  halt = c.create.ensures.halt;
  went = c.create.ensures.went;
  keeps = c.create.ensures.grown;
  line = λ going from start log lived tells word spells.
      let e = c.create.ensures in
      create_line _ _ _ start log lived c.args.name.now word c.args.extents c.create.result spells (if_ok_with _ _ c.create.result (λ id x. x from start log lived tells) e.lived)
      (if_err_with _ _ c.create.result (λ fault x. x going from start log lived tells) e.lived_refused);
  reply = λ was none.
      let e = c.create.ensures in
      create_replies g.B.Blocks c.args.volumes.now c.create.new.self c.args.name.now (word_of c.args.name.now) c.args.extents c.create.result (word_spells c.args.name.now) was none e.went.size e.fault e.served e.id e.next e.events e.refused e.untouched;
}
