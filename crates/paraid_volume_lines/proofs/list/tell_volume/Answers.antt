use Rattle.std.proofs.Common.{ℕ, subst}
use Rattle.paraid_volume.specs.Values.{device_of, volume_table}
use Rattle.paraid_volume.specs.NameValues.{IsNameOf}
use Rattle.paraid_volume.specs.Tables.{IsLiveId}
use Rattle.paraid_volume_lines.proofs.ListLemmas.{lists_skips, lists_tells}
use Rattle.paraid_volume_lines.proofs.list.tell_volume.Goals as goal

pub returns-in-Some : goal.returns-in-Some
returns-in-Some g c = λ n is l.
    let v = c.args.volumes.now in
    let there = c.in-Some.ensures.some in
    let sized = c.size.ensures.live there.0 in
    lists_tells (g.B.Blocks.block_count (device_of v)) (volume_table v) v.large n c.args.into.now c.in-Some.name c.size.result (subst (IsLiveId (volume_table v)) is there.0) (subst (λ (i : ℕ). IsNameOf (volume_table v) i c.in-Some.name) is there.1) (rw is at sized) c.tell_entry.new.into c.tell_entry.ensures.value c.tell_entry.ensures.length l

pub returns-in_default : goal.returns-in_default
returns-in_default g c = λ n is l.
    let v = c.args.volumes.now in
    lists_skips (g.B.Blocks.block_count (device_of v)) (volume_table v) n c.args.into.now (λ live. c.in_default.ensures.none (rw is live)) l
