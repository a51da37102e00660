use Rattle.paraid_volume.proofs.DeviceLemmas.{DeviceGoesOn-none, KeepsMore-none}
use Rattle.paraid_volume.specs.Faults.{vol_halt_in}
use Rattle.std.proofs.Common.{ap, ◌∙◌, refl}
use Rattle.paraid_volume_lines.specs.Grammar.{delete as DeleteLine}
use Rattle.paraid_volume.specs.Values.{volume_table}
use Rattle.paraid_volume_lines.specs.NameWords.{word_of}
use Rattle.paraid_volume_lines.proofs.NameWordLemmas.{spells as word_spells}
use Rattle.paraid_service.proofs.AnswerLemmas.{absent_replies, delete_replies, is_id, no_id}
use Rattle.paraid_service.proofs.LineLemmas.{deleted, not_there}
use Rattle.paraid_service.proofs.lines.delete_named.Goals as goal

pub returns-in_default : goal.returns-in_default
returns-in_default g c = record {
  halt = λ none. none;
  went = DeviceGoesOn-none _ _ _ _ _;
  keeps = KeepsMore-none g.B.Blocks.kept _ _ _;
  line = λ from start log lived tells word spells. not_there _ _ _ start log lived (volume_table c.args.volumes.now) lived.stands.1 c.args.name.now word spells (DeleteLine word) refl (λ h stands. stands) c.in_default.ensures.none;
  reply = λ was. absent_replies g.B.Blocks c.args.volumes.now (DeleteLine (word_of c.args.name.now)) (word_of c.args.name.now) refl (no_id (volume_table c.args.volumes.now) c.args.name.now (word_of c.args.name.now) (word_spells c.args.name.now) c.in_default.ensures.none);
}

pub returns-in-Ok : goal.returns-in-Ok
returns-in-Ok g c = record {
  halt = λ none. c.delete.ensures.halt ∙ ap vol_halt_in c.in-Ok.is;
  went = c.delete.ensures.went;
  keeps = c.delete.ensures.grown;
  line = λ from start log lived tells word spells.
      let there = c.in-Some.ensures.some in
      deleted _ _ _ start log lived (volume_table c.args.volumes.now) lived.stands.1 c.args.name.now word spells c.in-Some.id there.0 there.1 (c.in-Ok.ensures.lived from start log lived tells);
  reply = λ was.
      let there = c.in-Some.ensures.some in
      delete_replies g.B.Blocks c.args.volumes.now c.delete.new.self (word_of c.args.name.now) c.in-Some.id (is_id (volume_table c.args.volumes.now) c.args.name.now (word_of c.args.name.now) (word_spells c.args.name.now) c.in-Some.id there.0 there.1) c.delete.ensures.went.size c.in-Ok.ensures.next c.in-Ok.ensures.event;
}
