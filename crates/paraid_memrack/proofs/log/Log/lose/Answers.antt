use Rattle.std.proofs.Common.{◌∙◌, ap, map, set, refl}
use Rattle.std.proofs.lemmas.List.{map-set}
use Rattle.paraid_rack.specs.Trail.{Beginning}
use Rattle.paraid_memrack.specs.Tells.{beginning_of}
use Rattle.paraid_memrack.proofs.RackLemmas.{same_beginning}
use Rattle.paraid_memrack.proofs.log.Log.lose.Goals as goal

pub returns-clause-start : goal.returns-clause-start
returns-clause-start c =
    let start = c.args.self.now.start.items in
    map-set beginning_of start c.args.disk _ ∙ ap (λ (b : Beginning). set (map beginning_of start) c.args.disk b) (same_beginning _ _ refl c.new.ensures.items)
