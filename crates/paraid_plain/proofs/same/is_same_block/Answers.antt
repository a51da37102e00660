use Rattle.std.proofs.lemmas.Slice.Eq.{slice_eq-Decides}
use Rattle.std.specs.Cmp.{unsigned_Decides}
use Rattle.paraid_plain.proofs.SameLemmas.{block_by_bytes}
use Rattle.paraid_plain.proofs.same.is_same_block.Goals as goal

pub returns : goal.returns
returns c =
    let by = slice_eq-Decides unsigned_Decides c.as_slice.result.now c.as_slice-2.result.now c.eq.result c.eq.ensures in
    block_by_bytes c.args.a.now c.args.b.now c.eq.result (rw (c.as_slice.ensures.value, c.as_slice-2.ensures.value) at by)
