use Rattle.paraid_config.proofs.ListLemmas.{AreWindowsOf-used}
use Rattle.paraid_config.proofs.list.windows.Goals as goal

pub returns-in-Ok-clause-value : goal.returns-in-Ok-clause-value
returns-in-Ok-clause-value c =
    let first = rw c.deref.ensures.value at c.window.ensures in
    let second = rw c.deref-in-Ok.ensures.value at c.window-in-Ok.ensures in
    let third = rw c.deref-in-Ok-2.ensures.value at c.window-in-Ok-2.ensures in
    rw (first, second, third) (AreWindowsOf-used _ c.in-Ok.used.items c.in-Ok.ensures.value c.in-Ok.ensures.low_count c.in-Ok.ensures.high_count)

pub returns-in-Err : goal.returns-in-Err
returns-in-Err c = record { value = tt; accepted = tt; err = c.in-Err.ensures.err; range = tt }
