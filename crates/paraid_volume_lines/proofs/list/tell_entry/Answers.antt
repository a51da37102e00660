use Rattle.std.proofs.Common.{◌≤◌, arith, ap, ◌∙◌, length, length-append}
use Rattle.std.specs.Prelude.{decimal}
use Rattle.paraid_volume_lines.proofs.ListLemmas.{number_few}
use Rattle.paraid_volume_lines.proofs.list.tell_entry.Goals as goal

pub returns-clause-length : goal.returns-clause-length
returns-clause-length c =
    let few : length (decimal c.from.result) ≤ 10 = number_few c.from.result (let same = c.from.ensures in let fits = c.ranges.size.fits in omega (arith, same, fits)) in
    let all = ap length c.push_number.ensures.value ∙ length-append c.push-2.new.self (decimal c.from.result) in
    let one = c.push.ensures.length in
    let two = c.push_name.ensures.length in
    let three = c.push-2.ensures.length in
    omega (arith, few, all, one, two, three)
