use Rattle.std.proofs.Common.{ℕ, ◌∙◌, ap}
use Rattle.std.specs.Prelude.{◌==◌, ◌&&◌, nat_lt, if◌then◌else◌}
use Rattle.paraid_volume.specs.TableBlocks.{in_table}
use Rattle.paraid_volume.proofs.ChangeLemmas.{end_kept, head_kept, name_kept, names_kept, owner_kept, zeros_at}
use Rattle.paraid_volume.proofs.table.Table.without.Goals as goal

pub returns : goal.returns
returns c =
    let id = c.args.id in
    let old = in_table c.args.self.now in
    let copy = in_table c.copy-next.result in
    let named = in_table c.set_name.new.self in
    let new = in_table c.give.new.self in
    let low = c.requires.id.0 in
    let copied = c.copy-next.ensures in
    let rest = c.set_name.ensures.rest in
    let after = c.give.ensures.rest in
    record {
      head = head_kept id old copy named new low copied rest after;
      name = λ k l. name_kept id old copy named new low copied rest after id k ∙ c.set_name.ensures.here k l ∙ zeros_at 16 k;
      names = names_kept id old copy named new low copied rest after c.set_name.ensures.others;
      rest = end_kept id old copy named new low copied rest after c.set_name.ensures.end;
      owners = λ e l. c.give.ensures.owners e l ∙ ap (λ (x : ℕ). if nat_lt e c.args.extents && x == id then 0 else x) (owner_kept id old copy named new low copied rest after e l);
    }
