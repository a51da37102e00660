use Rattle.std.proofs.Common.{refl, arith}
use Rattle.std.proofs.lemmas.Option.{slice_get_read}
use Rattle.paraid_memrack.proofs.rack.MemRack.call.Goals as goal

pub index-requires : goal.index-requires
index-requires c = omega (arith, c.requires, c.args.self.now.log.calls.ok.0)

pub returns : goal.returns
returns c = slice_get_read c.args.self.now.log.calls.items _ _ _ refl c.requires c.index.ensures
