use Rattle.std.proofs.lemmas.Result.{IfOk-weaker}
use Rattle.paraid_array.proofs.ServedLemmas.{counts_served, table_served}
use Rattle.paraid_program.proofs.arrays.ArraysOutsideArray.check.Goals as goal

pub returns-clause-counts : goal.returns-clause-counts
returns-clause-counts g c =
    IfOk-weaker c.check.result _ _ (λ report counts nothing. record {
      agrees = g.met.R.Rack.agrees c.args.array.now.core.store.rack;
      by_table = λ t tells is. table_served g.R.Rack.slot g.R.Rack.told c.args.array.now c.check.new.self report counts nothing t tells is;
      by_map = λ t tells is bits. counts_served g.R.Rack.slot g.R.Rack.told c.args.array.now c.check.new.self report counts nothing t tells is bits;
    }) c.check.ensures.counts
