use Rattle.paraid_volume_lines.specs.NameWords.{word_of}
use Rattle.paraid_volume.proofs.DeviceLemmas.{DeviceGoesOn-none, KeepsMore-none}
use Rattle.std.proofs.Common.{refl}
use Rattle.paraid_volume.specs.Values.{volume_table}
use Rattle.paraid_volume_lines.specs.Grammar.{read as TheLine}
use Rattle.paraid_volume_lines.proofs.NameWordLemmas.{spells as word_spells}
use Rattle.paraid_service.proofs.AnswerLemmas.{absent_replies, is_id, no_id, read_replies}
use Rattle.paraid_service.proofs.LineLemmas.{if_err_with, not_there, on_ok_with, read_line}
use Rattle.paraid_service.proofs.lines.read_named.Goals as goal

pub returns-in_default : goal.returns-in_default
returns-in_default g c = record {
  halt = λ none. none;
  went = DeviceGoesOn-none _ _ _ _ _;
  keeps = KeepsMore-none g.B.Blocks.kept _ _ _;
  line = λ going from start log lived tells word spells. not_there _ _ _ start log lived (volume_table c.args.volumes.now) lived.stands.1 c.args.name.now word spells (TheLine word c.args.block) refl (λ h stands. stands) c.in_default.ensures.none;
  reply = λ was none. absent_replies g.B.Blocks c.args.volumes.now (TheLine (word_of c.args.name.now) c.args.block) (word_of c.args.name.now) refl (no_id (volume_table c.args.volumes.now) c.args.name.now (word_of c.args.name.now) (word_spells c.args.name.now) c.in_default.ensures.none);
}

pub returns : goal.returns
returns g c = record {
  halt = λ none. c.read.ensures.halt;
  went = c.read.ensures.went;
  keeps = c.read.ensures.grown;
  line = λ going from start log lived tells word spells.
      let there = c.in-Some.ensures.some in
      let e = c.read.ensures in
      read_line _ _ _ start log lived (volume_table c.args.volumes.now) lived.stands.1 c.args.name.now word spells c.in-Some.id c.args.block c.read.new.into c.read.result there.0 there.1 (on_ok_with _ _ c.read.result (λ x. x from start log lived tells) e.lived) (if_err_with _ _ c.read.result (λ fault x. x going from start log lived tells) e.lived_refused);
  reply = λ was none.
      let there = c.in-Some.ensures.some in
      let e = c.read.ensures in
      read_replies g.B.Blocks c.args.volumes.now c.read.new.self (word_of c.args.name.now) c.in-Some.id c.args.block c.read.new.into c.read.result _ (is_id (volume_table c.args.volumes.now) c.args.name.now (word_of c.args.name.now) (word_spells c.args.name.now) c.in-Some.id there.0 there.1) was none e.fault e.table e.event e.untouched;
}
