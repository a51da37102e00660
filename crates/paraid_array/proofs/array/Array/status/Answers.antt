use Rattle.std.proofs.Common.{◌≡◌, ◌∙◌, Bool, List, length, subst, ap, arith}
use Rattle.paraid_record.specs.declared.meta.Setup.{Setup}
use Rattle.paraid_dirty.specs.Table.{dirty_count, is_dirty}
use Rattle.paraid_array.proofs.QuietLemmas.{status_is, status_shown}
use Rattle.paraid_array.proofs.StandLemmas.{none_ended}
use Rattle.paraid_record.specs.declared.meta.Meta.{Meta}
use Rattle.paraid_array.proofs.array.Array.status.Goals as goal

pub count-requires : goal.count-requires
count-requires g c =
    let a = c.args.self.now in
    let q = a.serving (none_ended a.ended c.requires.going) in
    let high = a.core.meta.setup.geometry.gears_high a.core.meta.gear q.serving.ready.in_range.gear in
    let eight = a.setup.geometry.disks_high in
    let gear = ap (λ (m : Meta). m.gear) c.meta-meta.ensures in
    let disks = c.disks.ensures in
    let same = ap (λ (z : Setup). z.geometry.disks) q.same_setup in
    record { order = omega (arith, high, gear, disks, same); high = omega (arith, eight, disks) }

pub returns : goal.returns
returns g c = record {
  point = λ p at.
      let a = c.args.self.now in
      let serving = a.serving (none_ended a.ended c.requires.going) in
      let m = c.meta-meta.result.now in
      status_is g.R.Rack.slot_count g.R.Rack.told a c.requires.going p at m c.meta-meta.ensures c.count.result c.disks.result
      (subst (λ (z : List (List Bool)). c.count.result ≡ dirty_count (is_dirty z) (length z) m.gear c.disks.result) c.dirty.ensures c.count.ensures)
      (serving.serving.ready.rows_are ∙ ap (λ (z : Setup). z.geometry.rows) serving.same_setup) c.disks.ensures;
  shown =
      let a = c.args.self.now in
      let serving = a.serving (none_ended a.ended c.requires.going) in
      let m = c.meta-meta.result.now in
      status_shown g.R.Rack.slot a m c.meta-meta.ensures c.count.result c.disks.result
      (subst (λ (z : List (List Bool)). c.count.result ≡ dirty_count (is_dirty z) (length z) m.gear c.disks.result) c.dirty.ensures c.count.ensures)
      (serving.serving.ready.rows_are ∙ ap (λ (z : Setup). z.geometry.rows) serving.same_setup) c.disks.ensures;
}
