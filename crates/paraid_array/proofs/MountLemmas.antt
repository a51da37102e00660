-- An array that is made of what a mount gives.
use Rattle.std.proofs.Common.{◌≡◌, ℕ, [], Option, sym, subst}
use Rattle.paraid_rack.specs.Trail.{Trail}
use Rattle.paraid_record.specs.declared.meta.Setup.{Setup}
use Rattle.paraid_core.specs.declared.staged.Core.{Core}
use Rattle.paraid_core.specs.Cores.{core_rack}
use Rattle.paraid_session.specs.Mount.{IsMountedFromEach}
use Rattle.paraid_session.specs.Turn.{Point}
use Rattle.paraid_session.proofs.MountLemmas.{IsMountedFromEach-follows}
use Rattle.paraid_event.specs.Service.{service_of}
use Rattle.paraid_event.specs.Stands.{StandsAt}
use Rattle.paraid_array.specs.Begun.{StandsBegun}
use Rattle.paraid_array.specs.declared.array.Array.{Array}
use Rattle.paraid_array.specs.Arrays.{ArrayStandsAt, told_of_array}

-- it stands at the first point of each session that the mount begins
module _ {R : Type 0} {g : _} (count : R → ℕ) (told : R → Option Trail) (core : Core R g) (a : Array R g) (slots began : ℕ) (is : a.core ≡ core) (setup : a.setup ≡ core.meta.setup)
    (stands : (p : Point) → StandsAt (told (core_rack core)) (service_of count core [] 0 0) core.meta.setup p → ArrayStandsAt count told a p) where
  pub stands_mounted : IsMountedFromEach slots core.meta.setup began (told (core_rack core)) (StandsBegun count told core) → IsMountedFromEach slots a.setup began (told_of_array told a) (ArrayStandsAt count told a)
  stands_mounted mounted =
      subst (λ (c : Core R g). IsMountedFromEach slots a.setup began (told (core_rack c)) (ArrayStandsAt count told a)) (sym is)
      (subst (λ (z : Setup). IsMountedFromEach slots z began (told (core_rack core)) (ArrayStandsAt count told a)) (sym setup)
      (IsMountedFromEach-follows slots core.meta.setup began (told (core_rack core)) (StandsBegun count told core) (ArrayStandsAt count told a)
      (λ p mark here begun. stands p begun.stands) mounted))
