use Rattle.std.proofs.Common.{[], ap, refl, sym, subst}
use Rattle.paraid_energy.specs.Account.{Account}
use Rattle.paraid_record.specs.declared.meta.Meta.{Meta}
use Rattle.paraid_core.specs.Cores.{core_rack}
use Rattle.paraid_event.specs.Service.{service_of}
use Rattle.paraid_event.specs.Stands.{StandsAt}
use Rattle.paraid_array.proofs.FirstLemmas.{begins_at}
use Rattle.paraid_array.proofs.SampleLemmas.{none_held}
use Rattle.paraid_array.proofs.array.Array.new.Goals as goal

pub returns : goal.returns
returns g c = record {
  core = refl;
  setup = ap (λ (m : Meta). m.setup) c.meta.ensures;
  slots = refl;
  going = refl;
  energy = ap (λ (a : Account). a.total) c.new.ensures;
  samples = none_held c.args.windows c.requires.none;
  served = refl;
  stands = λ p at.
      begins_at g.R.Rack.slot_count g.R.Rack.told _ refl refl (ap (λ (a : Account). a.total) c.new.ensures) c.requires.none p
      (subst (λ (m : Meta). StandsAt (g.R.Rack.told (core_rack c.args.core)) (service_of g.R.Rack.slot_count c.args.core [] 0 0) m.setup p) (sym c.meta.ensures) at);
}
