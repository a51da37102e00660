use Rattle.std.proofs.Common.{ℕ, ◌<◌, ◌≤◌, ◌*◌, ◌-◌, ◌^◌, ◌∙◌, Fits, w32, ap, arith, subst, sym, rules}
use Rattle.std.proofs.Math.Nat.{mul-div-le}
use Rattle.std.proofs.lemmas.Nat.{mul-le}
use Rattle.paraid_volume.specs.TableBlocks.{in_table}
use Rattle.paraid_volume.specs.Tables.{extent_count, extent_size, extents_owned, owner_in}
use Rattle.paraid_volume.proofs.ExtentLemmas.{extents_few}
use Rattle.paraid_volume.proofs.volumes.Volumes.size.Goals as goal

cut_fits : (count owned : ℕ) → count < 2 ^ 32 → owned ≤ extent_count count → Fits w32 (extent_size count * owned)
cut_fits count owned fits few =
    let product = mul-le (extent_size count) owned (extent_size count) (extent_count count) (omega arith) few in
    let whole = mul-div-le (count - 6) (extent_size count) in
    omega (arith, product, whole, fits)

pub owned-requires : goal.owned-requires
owned-requires g c = let v = c.args.self.now in subst (λ (n : ℕ). n ≤ 2048) (sym v.counted) (extents_few _ v.large)

pub overflow_mul-result : goal.overflow_mul-result
overflow_mul-result g c =
    let v = c.args.self.now in
    subst (λ (x : ℕ). Fits w32 (x * c.owned.result)) (sym v.sized) (cut_fits _ c.owned.result v.fits (subst (λ (n : ℕ). c.owned.result ≤ n) v.counted c.owned.ensures.few))

pub returns : goal.returns
returns g c = record {
  live = λ live.
      let v = c.args.self.now in
      let owned = c.owned.ensures.value ∙ ap (extents_owned (owner_in (in_table v.table)) c.args.id) v.counted in
      ap (λ (x : ℕ). x * c.owned.result) v.sized ∙ ap (λ (n : ℕ). extent_size (g.B.Blocks.block_count v.blocks) * n) owned;
  free = search rules;
}
