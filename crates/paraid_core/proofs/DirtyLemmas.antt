-- A value depends on the dirty bits of its row alone.
use Rattle.std.specs.Prelude.{◌≡◌, ℕ, ◌&&◌, ◌||◌, nat_lt, Bool, not, Option, if◌then◌else◌}
use Rattle.std.proofs.Common.{refl, ◌∙◌, ap}
use Rattle.paraid_base.specs.declared.block.Block.{Block}
use Rattle.paraid_base.specs.Regions.{hard_place_of}
use Rattle.paraid_base.proofs.SumsLemmas.{others_same}
use Rattle.paraid_record.specs.declared.meta.Meta.{Meta}
use Rattle.paraid_image.specs.Out.{is_out}
use Rattle.paraid_image.specs.Spot.{View, is_hard, rising_to}
use Rattle.paraid_image.specs.Standing.{Contents}
use Rattle.paraid_image.specs.Value.{reconstructed_value, soft_value, stored_value, value}

module _ (m : Meta) (out : Option ℕ) (f : Contents) (a b : ℕ → ℕ → Bool) (r : ℕ) (same : (e : ℕ) → a r e ≡ b r e) where
  abbrev v : View
  v = record { meta = m; dirty = a; out = out; block = f }

  abbrev w : View
  w = record { meta = m; dirty = b; out = out; block = f }

  hard_dirty : (d : ℕ) → is_hard v r d ≡ is_hard w r d
  unfolding is_hard
  hard_dirty d = ap (λ (x : Bool). nat_lt d m.gear || (nat_lt d (rising_to m.phase) && not x)) (same d)

  soft_dirty : (d : ℕ) → soft_value v r d ≡ soft_value w r d
  unfolding soft_value
  soft_dirty d = refl

  near_dirty : (d : ℕ) → stored_value v r d ≡ stored_value w r d
  unfolding stored_value
  near_dirty d =
      ap (λ (x : Bool). if x then f d (hard_place_of m.setup.geometry r) else soft_value v r d) (hard_dirty d)
      ∙ ap (λ (x : Block). if is_hard w r d then f d (hard_place_of m.setup.geometry r) else x) (soft_dirty d)

  far_dirty : (d : ℕ) → reconstructed_value v r d ≡ reconstructed_value w r d
  unfolding reconstructed_value
  far_dirty d = others_same (stored_value v r) (stored_value w r) d m.setup.geometry.disks (λ e l apart. near_dirty e)

  pub value_dirty : (d : ℕ) → value v r d ≡ value w r d
  unfolding value
  value_dirty d =
      ap (λ (x : Bool). if x && is_out out d then reconstructed_value v r d else stored_value v r d) (hard_dirty d)
      ∙ ap (λ (x : Block). if is_hard w r d && is_out out d then x else stored_value v r d) (far_dirty d)
      ∙ ap (λ (x : Block). if is_hard w r d && is_out out d then reconstructed_value w r d else x) (near_dirty d)
