use Rattle.std.proofs.Common.{ℕ, List, subst, rules}
use Rattle.paraid_config.specs.Config.{IsConfigRefusal}
use Rattle.paraid_commands.proofs.ReadingLemmas.{IsMisread-refused}
use Rattle.paraid_serve.proofs.StatusLemmas.{ok_not_err}
use Rattle.paraid_commands.proofs.read.read_setup.Goals as goal

pub returns-in-Ok : goal.returns-in-Ok
returns-in-Ok g c = record {
  configured = search rules;
  range = search rules;
  unread =
      let e = c.in-Ok.ensures in
      let fault = c.in-Err-read_config.fault in
      record {
        bytes = c.in-Ok.bytes.items;
        given = e.all;
        cause = IsMisread-refused c.in-Ok.bytes.items _ fault e.short e.end (subst (λ (bytes : List ℕ). IsConfigRefusal bytes fault) c.deref.ensures.value c.in-Err-read_config.ensures.err);
      };
  later = search rules;
  still = λ n. c.in-Ok.ensures.still (λ is. ok_not_err is);
}
