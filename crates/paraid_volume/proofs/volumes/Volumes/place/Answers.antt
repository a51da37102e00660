use Rattle.std.proofs.Common.{◌≡◌, ℕ, ◌<◌, ◌≤◌, ◌+◌, ◌*◌, ◌^◌, ◌%◌, ◌/◌, Fits, w32, refl, sym, ap, arith, subst, ◌∙◌}
use Rattle.std.proofs.lemmas.Bool.{false≢true}
use Rattle.std.proofs.Math.Nat.{mul-div-le}
use Rattle.std.proofs.lemmas.Nat.{mul-le}
use Rattle.paraid_base.specs.declared.block.Block.{Block}
use Rattle.paraid_volume.specs.States.{IsPlace}
use Rattle.paraid_volume.specs.TableBlocks.{in_table}
use Rattle.paraid_volume.specs.Tables.{IsExtent, IsLiveId, extent_count, extent_size, extents_owned, owner_in}
use Rattle.paraid_volume.proofs.ExtentLemmas.{extent_some, extents_few, place_fits}
use Rattle.paraid_volume.proofs.volumes.Volumes.place.Goals as goal

module _ (count size extents e v : ℕ) (large : 7 ≤ count) (fits : count < 2 ^ 32) (sized : size ≡ extent_size count) (counted : extents ≡ extent_count count) (below : e < extents) where
  within : 6 + e * size + v % size < count
  within = subst (λ (x : ℕ). 6 + e * x + v % x < count) (sym sized) (place_fits count e v large (subst (λ (n : ℕ). e < n) counted below))

  product_fits : Fits w32 (e * size)
  product_fits = let w = within in omega (arith, w, fits)

  start_fits : Fits w32 (6 + e * size)
  start_fits = let w = within in omega (arith, w, fits)

  place_is_small : Fits w32 (6 + e * size + v % size)
  place_is_small = let w = within in omega (arith, w, fits)

  placed : (table : ℕ → Block) (id : ℕ) → IsLiveId table id → IsExtent (owner_in table) id (v / size) e → IsPlace count table id v (6 + e * size + v % size)
  placed table id live is = record {
    live = live;
    extent = e;
    below = subst (λ (n : ℕ). e < n) counted below;
    number = subst (λ (n : ℕ). IsExtent (owner_in table) id (v / n) e) sized is;
    is = ap (λ (n : ℕ). 6 + e * n + v % n) sized;
  }

past : (size owned v : ℕ) → owned ≤ v / size → size * owned ≤ v
past size owned v few =
    let product = mul-le size owned size (v / size) (omega arith) few in
    let whole = mul-div-le v size in
    omega (arith, product, whole)

past_end : (count size extents v id : ℕ) (owner : ℕ → ℕ) → size ≡ extent_size count → extents ≡ extent_count count → extents_owned owner id extents ≤ v / size
    → extent_size count * extents_owned owner id (extent_count count) ≤ v
past_end count size extents v id owner sized counted few =
    subst (λ (n : ℕ). extent_size count * extents_owned owner id n ≤ v) counted
    (subst (λ (x : ℕ). x * extents_owned owner id extents ≤ v) sized (past size (extents_owned owner id extents) v few))

pub nonzero_div-block : goal.nonzero_div-block
nonzero_div-block g c = let v = c.args.self.now in subst (λ (n : ℕ). 0 < n) (sym v.sized) (extent_some _ v.large)

pub nonzero_rem-result : goal.nonzero_rem-result
nonzero_rem-result g c = let v = c.args.self.now in subst (λ (n : ℕ). 0 < n) (sym v.sized) (extent_some _ v.large)

pub extent-requires : goal.extent-requires
extent-requires g c = let v = c.args.self.now in subst (λ (n : ℕ). n ≤ 2048) (sym v.counted) (extents_few _ v.large)

pub returns-in-Some-extent : goal.returns-in-Some-extent
returns-in-Some-extent g c = record {
  fault = tt;
  halt = sym c.in_default.is;
  ok =
      let v = c.args.self.now in
      let found = c.in-Some-extent.ensures.some in
      placed _ _ _ c.in-Some-extent.extent c.args.block v.large v.fits v.sized v.counted found.0 (in_table v.table) c.args.id (c.is_live.ensures.0 c.if-not-is_live.false) found.1;
  below =
      let v = c.args.self.now in
      within _ _ _ c.in-Some-extent.extent c.args.block v.large v.fits v.sized v.counted c.in-Some-extent.ensures.some.0;
}

pub returns-in-None : goal.returns-in-None
returns-in-None g c = record {
  fault =
      let v = c.args.self.now in
      (refl, c.is_live.ensures.0 c.if-not-is_live.false, past_end _ _ _ c.args.block c.args.id (owner_in (in_table v.table)) v.sized v.counted c.in-None.ensures.none);
  halt = sym c.in_default.is;
  ok = tt;
  below = tt;
}

pub returns-in-Some : goal.returns-in-Some
returns-in-Some g c = record {
  fault = c.in-Some.is;
  halt = sym c.in-Some.is;
  ok = tt;
  below = tt;
}

pub returns-then-not-is_live : goal.returns-then-not-is_live
returns-then-not-is_live g c = record {
  fault = (refl, λ live. false≢true (sym c.if-not-is_live.true ∙ c.is_live.ensures.1 live));
  halt = sym c.in_default.is;
  ok = tt;
  below = tt;
}

pub overflow_mul-result : goal.overflow_mul-result
overflow_mul-result g c =
    let v = c.args.self.now in
    product_fits _ _ _ c.in-Some-extent.extent c.args.block v.large v.fits v.sized v.counted c.in-Some-extent.ensures.some.0

pub overflow_add-result : goal.overflow_add-result
overflow_add-result g c =
    let v = c.args.self.now in
    start_fits _ _ _ c.in-Some-extent.extent c.args.block v.large v.fits v.sized v.counted c.in-Some-extent.ensures.some.0

pub overflow_add-result-in-Some-extent : goal.overflow_add-result-in-Some-extent
overflow_add-result-in-Some-extent g c =
    let v = c.args.self.now in
    place_is_small _ _ _ c.in-Some-extent.extent c.args.block v.large v.fits v.sized v.counted c.in-Some-extent.ensures.some.0
