use Rattle.paraid_plain.proofs.SameLemmas.{meta_by_spelling}
use Rattle.paraid_plain.proofs.same.is_same_meta.Goals as goal

pub returns : goal.returns
returns c =
    meta_by_spelling c.args.a.now c.args.b.now c.write_meta.new.into c.write_meta-2.new.into c.is_same_block.result c.requires.first c.requires.second
    c.write_meta.ensures c.write_meta-2.ensures c.is_same_block.ensures
