use Rattle.std.specs.Prelude.{Option}
use Rattle.std.proofs.Common.{sym, subst}
use Rattle.paraid_rack.specs.Told.{Ran}
use Rattle.paraid_txn.specs.Commit.{gone_out as gone_of}
use Rattle.paraid_txn.specs.Witness.{MaySetAny}
use Rattle.paraid_txn.specs.declared.bearing.Witness.{Witness}
use Rattle.paraid_txn.proofs.commit.set_if_any.Goals as goal

pub returns-clause-told : goal.returns-clause-told
returns-clause-told g c = subst (λ (o : Option Witness). Ran (g.R.Rack.told c.args.rack.now) (g.R.Rack.told c.set_witness.new.rack)
    (λ s cs. MaySetAny (g.R.Rack.slot c.args.rack.now) (gone_of c.args.meta.now.out) o cs)) (sym c.in-Some.is) c.set_witness.ensures.told
