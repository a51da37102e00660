use Rattle.std.proofs.Common.{rules}
use Rattle.paraid_commands.proofs.LineLemmas.{gen_headline}
use Rattle.paraid_commands.proofs.generated_lines.serve_generated_mounted.Goals as goal

pub returns : goal.returns
returns g c = record {
  headline = λ began mounted. gen_headline _ _ _ _ _ _ _ mounted c.serve_generated.ensures.run;
  told = search rules;
  slots = c.serve_generated.ensures.slots;
  status = search rules;
  present = search rules;
  two = search rules;
  worn = search rules;
  sink = search rules;
  still = c.serve_generated.ensures.still;
}
