use Rattle.std.proofs.Common.{ℕ, ◌∙◌, ap, arith, sym}
use Rattle.std.specs.Prelude.{◌==◌, ◌&&◌, nat_lt, if◌then◌else◌}
use Rattle.paraid_volume.specs.Tables.{extents_owned, owner_in}
use Rattle.paraid_volume.specs.TableBlocks.{in_table}
use Rattle.paraid_volume.proofs.ChangeLemmas.{end_kept, head_kept, name_kept, names_kept, owner_kept}
use Rattle.paraid_volume.proofs.ExtentLemmas.{sum_before-same}
use Rattle.paraid_volume.proofs.table.Table.with.Goals as goal

pub returns : goal.returns
returns c =
    let id = c.args.id in
    let old = in_table c.args.self.now in
    let copy = in_table c.copy-next.result in
    let named = in_table c.set_name.new.self in
    let new = in_table c.take.new.self in
    let low = c.requires.id.0 in
    let copied = c.copy-next.ensures in
    let rest = c.set_name.ensures.rest in
    let after = c.take.ensures.rest in
    let owner = owner_kept id old copy named new low copied rest after in
    record {
      head = head_kept id old copy named new low copied rest after;
      name = λ k l. sym (name_kept id old copy named new low copied rest after id k ∙ c.set_name.ensures.here k l);
      names = names_kept id old copy named new low copied rest after c.set_name.ensures.others;
      rest = end_kept id old copy named new low copied rest after c.set_name.ensures.end;
      owners = λ e l.
          c.take.ensures.owners e l
          ∙ ap (λ (x : ℕ). if nat_lt e c.args.extents && (x == 0 && nat_lt (extents_owned (owner_in named) 0 e) c.args.count) then id else x) (owner e l)
          ∙ ap (λ (x : ℕ). if nat_lt e c.args.extents && (owner_in old e == 0 && nat_lt x c.args.count) then id else owner_in old e)
          (sum_before-same (λ k. if owner_in named k == 0 then 1 else 0) (λ k. if owner_in old k == 0 then 1 else 0) e (λ k m. ap (λ (o : ℕ). if o == 0 then 1 else 0) (owner k (omega (arith, l, m)))));
    }
