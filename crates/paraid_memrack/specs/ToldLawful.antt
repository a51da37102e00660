-- What a rack in memory tells of its calls is lawful.
use Rattle.std.specs.Prelude.{◌≡◌, Option, Some}
use Rattle.std.proofs.Props.{props}
use Rattle.paraid_rack.specs.Lawful.{AreLawful, AreLawful-prop}
use Rattle.paraid_rack.specs.Trail.{Trail, initial}

-- each call that is told was lawful by power as it was made
abbrev pub AreToldLawful : Option Trail → Type 0
AreToldLawful told = (t : Trail) → told ≡ Some t → AreLawful (initial t.start) t.calls

-- it has one proof
pub AreToldLawful-prop : (told : Option Trail) → IsProp (AreToldLawful told)
AreToldLawful-prop told = hlevel (props, AreLawful-prop)
