use Rattle.std.proofs.Common.{arith, ap, inl, inr, refl, sym, ◌∙◌}
use Rattle.std.proofs.lemmas.Bool.{cases_eq}
use Rattle.paraid_dirty.specs.Bits.{bit_of}
use Rattle.paraid_dirty.specs.Table.{is_dirty}
use Rattle.paraid_recover.proofs.MapLemmas.{changed_here, changed_other}
use Rattle.paraid_recover.proofs.map.take_row.Goals as goal

pub loop-disk-preserved : goal.loop-disk-preserved
loop-disk-preserved c =
    let before = c.loop-disk.invariant in
    let call = c.put.ensures in
    record {
      rows = call.rows ∙ before.rows;
      here = λ d below. call.cells c.args.row d ∙ elim (cases_eq d c.loop-disk.disk) [
        | inl same ↦ changed_here (is_dirty c.loop-disk.table) c.args.row c.loop-disk.disk c.has_bit.result c.args.row d refl same ∙ c.has_bit.ensures ∙ ap (bit_of c.args.byte) (sym same)
        | inr apart ↦ changed_other (is_dirty c.loop-disk.table) c.args.row c.loop-disk.disk c.has_bit.result c.args.row d (λ row. apart) ∙ before.here d (omega arith)
      ];
      wide = λ q d far. call.cells q d ∙ changed_other (is_dirty c.loop-disk.table) c.args.row c.loop-disk.disk c.has_bit.result q d (λ row same. absurd (omega arith)) ∙ before.wide q d far;
      others = λ q d apart. call.cells q d ∙ changed_other (is_dirty c.loop-disk.table) c.args.row c.loop-disk.disk c.has_bit.result q d (λ row. absurd (apart row)) ∙ before.others q d apart;
    }
