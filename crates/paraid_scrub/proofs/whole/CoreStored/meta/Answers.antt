use Rattle.std.proofs.Common.{sym, subst}
use Rattle.paraid_record.specs.Range.{IsInRange}
use Rattle.paraid_scrub.proofs.whole.CoreStored.meta.Goals as goal

pub returns : goal.returns
returns g c = record {
  value = c.meta.ensures;
  in_range = subst IsInRange (sym c.meta.ensures) c.requires.usable.ready.in_range;
}
