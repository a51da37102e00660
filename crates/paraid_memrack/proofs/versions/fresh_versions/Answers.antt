use Rattle.std.proofs.Common.{◌≡◌, ℕ, length, replicate, false, ◌∙◌, ap, arith}
use Rattle.std.proofs.lemmas.List.{length-replicate}
use Rattle.paraid_base.specs.Xor.{zero_block}
use Rattle.paraid_memrack.specs.declared.versions.Versions.{Versions}
use Rattle.paraid_memrack.specs.Versions.{synced_block}
use Rattle.paraid_memrack.proofs.PushLemmas.{same_goes_on}
use Rattle.paraid_memrack.proofs.versions.fresh_versions.Goals as goal

pub push_reserved-requires : goal.push_reserved-requires
push_reserved-requires c = omega (arith, c.loop-i.invariant.0, ap length c.loop-i.invariant.1, length-replicate {A = Versions} c.loop-i._i (synced_block zero_block), c.loop-i.versions.ok.0)

pub loop-i-preserved : goal.loop-i-preserved
loop-i-preserved c = (
  c.push_reserved.ensures.capacity ∙ c.loop-i.invariant.0,
  same_goes_on _ _ _ c.loop-i._i (synced_block zero_block) c.push_reserved.ensures.items
      (λ i. record { written = c.zero.ensures i; kept = c.zero-in-loop-i.ensures i; loose = false }) c.loop-i.invariant.1,
)

pub returns : goal.returns
returns c =
    let all : c.loop-i._i ≡ c.args.size = omega arith in
    c.loop-i.invariant.1 ∙ ap (λ (n : ℕ). replicate n (synced_block zero_block)) all
