use Rattle.std.proofs.Common.{◌≡◌, None}
use Rattle.paraid_image.specs.Out.{first_absent}
use Rattle.paraid_txn.proofs.store.find_absent.Given as goal

abbrev pub invariant-loop-disk : goal.invariant-loop-disk
invariant-loop-disk g l = first_absent (λ d. (g.R.Rack.slot l.rack d).power) l.disk ≡ None
