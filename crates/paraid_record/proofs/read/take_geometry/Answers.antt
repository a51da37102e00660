use Rattle.std.specs.Prelude.{◌≡◌, length, take}
use Rattle.std.specs.Result.{result_ok}
use Rattle.std.proofs.Common.{arith, ap, ◌∙◌}
use Rattle.std.proofs.lemmas.List.{take_at}
use Rattle.paraid_record.specs.Codes.{gear_list}
use Rattle.paraid_record.specs.Spelling.{zero_filled}
use Rattle.paraid_record.proofs.GearLemmas.{length-gears_below}
use Rattle.paraid_record.proofs.GeometryLemmas.{made_again}
use Rattle.paraid_record.proofs.PartLemmas.{geometry-parts, length-filled}
use Rattle.paraid_record.proofs.read.take_geometry.Goals as goal

pub returns-then-count-gt8-clause-reads : goal.returns-then-count-gt8-clause-reads
returns-then-count-gt8-clause-reads c = λ g rest e.
    let few = length-gears_below g 9 in
    let top = g.disks_high in
    let disks = c.take_u8-disks.ensures.reads g.disks _ (omega arith) (e ∙ geometry-parts g rest) in
    let count = c.take_u8-count.ensures.reads (length (gear_list g)) _ (omega arith) disks.1 in
    absurd (omega (arith, count.0))

pub returns-clause-reads : goal.returns-clause-reads
unfolding zero_filled
returns-clause-reads c = λ g rest e.
    let few = length-gears_below g 9 in
    let top = g.disks_high in
    let most = g.rows_high in
    let disks = c.take_u8-disks.ensures.reads g.disks _ (omega arith) (e ∙ geometry-parts g rest) in
    let count = c.take_u8-count.ensures.reads (length (gear_list g)) _ (omega arith) disks.1 in
    let gears = c.take_eight-gears.ensures.reads (zero_filled 8 (gear_list g)) _ (length-filled 8 (gear_list g) (omega arith)) count.1 in
    let rows = c.take_u32-rows.ensures.reads g.rows rest (omega arith) gears.1 in
    let list : take c.take_u8-count.result c.take_eight-gears.result ≡ gear_list g =
    rw (count.0, gears.0) (take_at (gear_list g) _ (length (gear_list g)) (λ i. length (gear_list g))) in
    let made = made_again g _ _ _ c.new.result disks.0 rows.0 list c.new.ensures.numbers c.new.ensures.gears c.new.ensures.err in
    (c.ok.ensures.value ∙ ap result_ok made, rows.1)
