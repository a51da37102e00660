use Rattle.std.proofs.Common.{◌≡◌, ℕ, List, [], ◌∷◌, ◌++◌, replicate, refl, ◌∙◌, ap, arith}
use Rattle.paraid_rack.specs.Trail.{Beginning}
use Rattle.paraid_memrack.specs.Tells.{beginning_of, no_beginning}
use Rattle.paraid_memrack.proofs.PushLemmas.{length_pushed, map_pushed}
use Rattle.paraid_memrack.proofs.ViewLemmas.{one_more}
use Rattle.paraid_memrack.proofs.RackLemmas.{same_beginning}
use Rattle.paraid_memrack.proofs.rack.absent_start.Goals as goal

pub push_reserved-requires : goal.push_reserved-requires
push_reserved-requires c = omega (arith, c.loop-i.invariant.0, c.loop-i.invariant.1, c.loop-i.start.ok.0)

pub loop-i-preserved : goal.loop-i-preserved
loop-i-preserved c = (
  c.push_reserved.ensures.capacity ∙ c.loop-i.invariant.0,
  omega (arith, c.loop-i.invariant.1, length_pushed _ _ _ c.push_reserved.ensures.items),
  map_pushed beginning_of _ _ _ no_beginning c.push_reserved.ensures.items (same_beginning _ _ refl c.new.ensures.items)
      ∙ ap (λ (l : List Beginning). l ++ no_beginning ∷ []) c.loop-i.invariant.2 ∙ one_more c.loop-i._i no_beginning,
)

pub returns : goal.returns
returns c =
    let all : c.loop-i._i ≡ c.args.count = omega arith in
    c.loop-i.invariant.2 ∙ ap (λ (n : ℕ). replicate n no_beginning) all
