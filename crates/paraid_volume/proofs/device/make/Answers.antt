use Rattle.std.proofs.lemmas.Result.{err_from_is_err_and, on_ok_weaker}
use Rattle.std.proofs.Common.{◌++◌, refl}
use Rattle.paraid_base.specs.Pairs.{pairs_of}
use Rattle.paraid_volume.proofs.DeviceLemmas.{KeepsMore-then, DeviceGoesOn-then}
use Rattle.paraid_volume.proofs.CallLemmas.{KeepsThen-then}
use Rattle.paraid_volume.proofs.device.make.Goals as goal

pub returns-in_err-clear_extents : goal.returns-in_err-clear_extents
returns-in_err-clear_extents g c = record {
  went = c.in_err-clear_extents.ensures.went;
  grown = c.in_err-clear_extents.ensures.grown;
  halt =
      let p = err_from_is_err_and c.from_residual.result c.from_residual.ensures.1 in
      rw (p.1, p.2) c.in_err-clear_extents.ensures.halt;
  makes =
      let p = err_from_is_err_and c.from_residual.result c.from_residual.ensures.1 in
      rw p.1 tt;
  events =
      let p = err_from_is_err_and c.from_residual.result c.from_residual.ensures.1 in
      rw p.1 tt;
}

pub returns : goal.returns
returns g c = record {
  went = DeviceGoesOn-then _ _ _ _ _ _ _ c.clear_extents.ensures.went c.write_table.ensures.went;
  grown = KeepsMore-then _ _ _ _ _ _ c.write_table.ensures.went.told c.clear_extents.ensures.grown c.write_table.ensures.grown;
  halt = c.write_table.ensures.halt;
  makes = on_ok_weaker c.write_table.result (λ f from h stands tells.
      let cleared = c.in_ok-clear_extents.ensures.clears from h stands (c.write_table.ensures.went.told tells) in record {
        more = cleared.more;
        entry = pairs_of c.changes.result;
        stands = f from (h ++ cleared.more) cleared.stands tells;
        rest = cleared.rest;
        zeros = cleared.zeros;
        laid = c.changes.ensures.laid;
      }) c.write_table.ensures.adds;
  events = on_ok_weaker c.write_table.result (KeepsThen-then g.B.Blocks.kept _ _ _ _ _ _
      (λ x y clears write. record { zeros = x; last = y; parts = refl; clears = clears; writes = record { pairs = c.changes.result; number = write.0; all = c.changes.ensures.exact; is = write.1 } })
      c.in_ok-clear_extents.ensures.events) c.write_table.ensures.event;
}
