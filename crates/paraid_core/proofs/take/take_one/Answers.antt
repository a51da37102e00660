use Rattle.std.proofs.Common.{◌∙◌, sym}
use Rattle.std.proofs.lemmas.Bool.{true≢false}
use Rattle.paraid_core.proofs.TakeLemmas.{added, added_names, left_out}
use Rattle.paraid_core.proofs.take.take_one.Goals as goal

pub returns-then-not-is_placed : goal.returns-then-not-is_placed
returns-then-not-is_placed c = record {
  taken = left_out c.args.m.now c.args.batch.now c.args.target c.args.block.now c.requires.apart (λ placed. true≢false (sym (c.is_placed.ensures.of placed) ∙ c.if-not-is_placed.true));
  names = λ d p is. is;
}

pub returns : goal.returns
returns c = record {
  taken = added c.args.m.now c.args.batch.now c.add-added.new.self c.args.target c.args.block.now c.add-added.result c.add-added.ensures.ok c.add-added.ensures.full c.requires.room c.requires.apart
      (c.is_placed.ensures.is c.if-not-is_placed.false);
  names = added_names c.args.batch.now c.add-added.new.self c.args.target c.args.block.now c.add-added.result c.add-added.ensures.ok c.add-added.ensures.full;
}
