use Rattle.std.proofs.Common.{◌≡◌, ◌++◌, ◌∙◌, ℕ, List, ap, arith, refl, sym, subst}
use Rattle.std.specs.Prelude.{codes}
use Rattle.paraid_volume.specs.Values.{device_of, volume_table}
use Rattle.paraid_volume_lines.specs.Lists.{ListsFirst}
use Rattle.paraid_volume_lines.proofs.ListLemmas.{lists_none, told_all}
use Rattle.paraid_volume_lines.proofs.list.tell_list.Goals as goal

pub loop-id-init : goal.loop-id-init
loop-id-init g c = record {
  few = omega arith;
  lists = subst (ListsFirst (g.B.Blocks.block_count (device_of c.args.volumes.now)) (volume_table c.args.volumes.now) 0) (sym (c.push.ensures.value ∙ ap (λ (x : List ℕ). x ++ codes "list") c.clear.ensures.empty)) (lists_none _ _);
}

pub tell_volume-requires : goal.tell_volume-requires
tell_volume-requires g c = record { room = let short = c.loop-id.invariant.lists.short in let below = c.loop-id-test.true in omega (arith, short, below) }

pub loop-id-preserved : goal.loop-id-preserved
loop-id-preserved g c = record {
  few = let below = c.loop-id-test.true in omega (arith, below);
  lists = c.tell_volume.ensures c.loop-id.id refl c.loop-id.invariant.lists;
}

pub push-requires-2 : goal.push-requires-2
push-requires-2 g c = record { room = let short = c.loop-id.invariant.lists.short in let few = c.loop-id.invariant.few in omega (arith, short, few) }

pub returns : goal.returns
returns g c =
    let few = c.loop-id.invariant.few in
    let past = c.loop-id-test.false in
    let all : c.loop-id.id ≡ 31 = omega (arith, few, past) in
    told_all _ _ c.loop-id.into c.push-2.new.self (rw all at c.loop-id.invariant.lists) c.push-2.ensures.value
