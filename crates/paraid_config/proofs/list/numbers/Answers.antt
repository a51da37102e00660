use Rattle.std.proofs.Common.{◌≡◌, Some, rules}
use Rattle.std.proofs.lemmas.Result.{IfOk-weaker}
use Rattle.toml.specs.View.{array_view, table_view}
use Rattle.paraid_config.specs.Values.{integers_of}
use Rattle.paraid_config.proofs.FaultLemmas.{IsFaultOf-cause}
use Rattle.paraid_config.proofs.ListLemmas.{IsListAt-read, list_accepted, list_fault-members, list_refused}
use Rattle.paraid_config.proofs.list.numbers.Goals as goal

pub returns-in-Err : goal.returns-in-Err
returns-in-Err c = record { value = tt; high = tt; low_count = tt; high_count = tt; accepted = tt; err = IsFaultOf-cause _ c.in-Err.fault (c.in-Err.ensures.err c.args.few c.args.many) }

pub returns-in-Ok-integers : goal.returns-in-Ok-integers
returns-in-Ok-integers c =
    let document = table_view c.args.table.now in
    let read : integers_of (array_view c.in-Ok.items.now) ≡ Some c.deref-in-Ok-integers.result.now = search rules in
    let said = c.checked.ensures in
    record {
      value = IfOk-weaker c.checked.result _ _ (λ numbers same. IsListAt-read _ c.args.key _ _ numbers.items c.in-Ok.ensures.value read same) said.value;
      high = said.high;
      low_count = said.low_count;
      high_count = said.high_count;
      accepted = list_accepted document c.args.key c.args.few c.args.many _ _ c.checked.result c.in-Ok.ensures.value read said.accepted;
      err = list_refused document c.args.key c.args.few c.args.many _ _ c.checked.result c.in-Ok.ensures.value read said.err;
    }

pub returns-in-Err-integers : goal.returns-in-Err-integers
returns-in-Err-integers c =
    let cause = rw c.deref.ensures.value at (c.in-Err-integers.ensures.err c.args.few c.args.many) in
    record {
      value = tt;
      high = tt;
      low_count = tt;
      high_count = tt;
      accepted = tt;
      err = list_fault-members _ c.args.key c.args.few c.args.many _ c.in-Err-integers.fault c.in-Ok.ensures.value cause;
    }
