use Rattle.std.proofs.Common.{arith, length-take}
use Rattle.paraid_memrack.proofs.versions.halves.Goals as goal

pub slice_bounds-copy_from_slice-end : goal.slice_bounds-copy_from_slice-end
slice_bounds-copy_from_slice-end c = omega (arith, length-take 256 c.args.second.now.bytes, c.args.second.now.whole)

pub copy_from_slice-requires : goal.copy_from_slice-requires
copy_from_slice-requires c =
    let first = c.args.first.now in
    let second = c.args.second.now in
    omega (arith, length-take 256 second.bytes, second.whole, length-take 256 first.bytes, first.whole)
