use Rattle.std.proofs.Common.{rules}
use Rattle.paraid_recover.specs.Examined.IsRefusedAsHeard.{by_logs, by_meta}
use Rattle.paraid_recover.proofs.examining.judge.Goals as goal

pub returns-in-Err : goal.returns-in-Err
returns-in-Err g c = record {
  err = by_logs c.in-Err.ensures.err;
  ok = search rules;
}

pub returns-in-Some : goal.returns-in-Some
returns-in-Some g c = record {
  err = by_meta _ _ c.in-Ok.ensures.ok c.in-Some.ensures;
  ok = search rules;
}
