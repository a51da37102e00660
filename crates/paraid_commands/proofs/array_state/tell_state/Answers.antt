use Rattle.std.proofs.Common.{ap, length, ℕ, List, ◌≤◌, arith, rules}
use Rattle.paraid_serve.specs.Ending.{mount_line}
use Rattle.paraid_commands.proofs.ShowLemmas.{length-mount_line}
use Rattle.paraid_commands.proofs.array_state.tell_state.Goals as goal

pub push-requires : goal.push-requires
push-requires g c =
    let m = c.args.meta.now in
    let first : length (mount_line m.writes m.gear) ≤ 99 = length-mount_line m.writes m.gear c.requires.range.counters.writes_fit (search rules) in
    record { room = omega (arith, ap (λ (bytes : List ℕ). length bytes) c.mount_text.ensures, first, ap (λ (bytes : List ℕ). length bytes) c.as_slice.ensures.value, c.reply_state.ensures.length) }
