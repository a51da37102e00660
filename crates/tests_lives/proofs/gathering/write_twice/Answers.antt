use Rattle.std.proofs.Common.{true}
use Rattle.paraid_rack.specs.declared.call.Call.TheVariants.{Attach, Write, Sync}
use Rattle.tests_lives.proofs.GatheredLemmas.{four_calls}
use Rattle.tests_lives.proofs.gathering.write_twice.Goals as goal

pub returns : goal.returns
returns g c =
    four_calls (Attach 0 4 true) (Write 0 2 c.args.first.now true) (Write 0 2 c.args.second.now true) (Sync 0 true)
    c.in_ok-attach.ensures.told c.in_ok-write.ensures.told c.in_ok-write-2.ensures.told c.in_ok-sync.ensures.told
