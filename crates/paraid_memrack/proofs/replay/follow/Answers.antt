use Rattle.std.proofs.Common.{◌<◌, length, arith}
use Rattle.paraid_memrack.proofs.ReplayLemmas.{all_follow}
use Rattle.paraid_memrack.proofs.replay.follow.Goals as goal

pub returns-clause-slots : goal.returns-clause-slots
returns-clause-slots c =
    let slots = c.args.slots.now.items in
    let disk = c.disk-disk.result in
    let within : disk < length slots = omega (arith, c.requires, c.disk-disk.ensures) in
    all_follow c.args.call.now slots disk c.index_mut.result.now c.follow.new.self c.disk-disk.ensures within c.index_mut.ensures.value c.in_ok-follow.ensures
