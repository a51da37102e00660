-- A mount keeps the cells that are dirty.
use Rattle.std.specs.Prelude.{◌≡◌, ◌≢◌, ℕ, ◌*◌, ◌/◌, ◌<◌, ◌≤◌, Bool, true, [], Option, Some, None}
use Rattle.std.proofs.Common.{refl, sym, ◌∙◌, ap, subst, arith, inl, inr}
use Rattle.std.proofs.lemmas.Bool.{cases_eq}
use Rattle.paraid_base.specs.declared.geometry.Geometry.{Geometry}
use Rattle.paraid_base.specs.History.{History}
use Rattle.paraid_base.specs.Log.{log_least}
use Rattle.paraid_base.specs.Regions.{map_count, map_place_of}
use Rattle.paraid_base.specs.States.{gone_out}
use Rattle.paraid_rack.specs.Disks.{Disks, is_present}
use Rattle.paraid_record.specs.declared.meta.Meta.{Meta}
use Rattle.paraid_record.specs.declared.meta.Setup.{Setup}
use Rattle.paraid_record.specs.Range.{IsInRange}
use Rattle.paraid_image.specs.Content.{view_by, view_of}
use Rattle.paraid_image.specs.Out.{IsMissing, out_disk}
use Rattle.paraid_image.specs.Power.{initial_state, state_by}
use Rattle.paraid_image.specs.Sides.{Batch, LogState, closed_over, has_place}
use Rattle.paraid_image.specs.Sound.{ContentOk}
use Rattle.paraid_image.specs.Spot.{map_bit, map_disk}
use Rattle.paraid_image.specs.Standing.{contents}
use Rattle.paraid_image.proofs.OutLemmas.{out_missing}
use Rattle.paraid_recover.proofs.FitLemmas.{gone_named}
use Rattle.paraid_recover.proofs.MapEndLemmas.{bit_same, contents_there, map_disk_in, map_place_low, missing_out, place_there, there_by}

-- the cells that are dirty in a state with which events begin
pub shown_dirty : (i : Disks) (said : LogState) → (initial_state i said).dirty ≡ map_bit said.meta.setup.geometry (contents i said.batch (map_disk (out_disk i.power said.meta)))
unfolding state_by
shown_dirty i said = refl

-- with no disk out both log disks have the same map
module _ (slots : ℕ) (s : Disks) (m : Meta) (batch : Batch) (h : History) (k : ℕ) (content : ContentOk slots s.power s.size (view_by m s.power (contents s batch)) h k) where
  both_maps : (a b r : ℕ) → a < 2 → b < 2 → out_disk s.power m ≡ None → r < 512 * map_count m.setup.geometry → contents s batch a (map_place_of m.setup.geometry r) ≡ contents s batch b (map_place_of m.setup.geometry r)
  both_maps a b r low_a low_b none below = to_first a low_a ∙ sym (to_first b low_b)
    where
      to_first : (c : ℕ) → c < 2 → contents s batch c (map_place_of m.setup.geometry r) ≡ contents s batch 0 (map_place_of m.setup.geometry r)
      to_first c low = elim (cases_eq c 0) [
        | inl is ↦ ap (λ (x : ℕ). contents s batch x (map_place_of m.setup.geometry r)) is
        | inr apart ↦
            let one : c ≡ 1 = omega arith in
            ap (λ (x : ℕ). contents s batch x (map_place_of m.setup.geometry r)) one
            ∙ sym (content.kept.map.mirrored (r / 512) (omega arith) (λ is. let y : None ≡ Some 0 = sym none ∙ is in cc) (λ is. let y : None ≡ Some 1 = sym none ∙ is in cc))
      ]

  -- the map of the lower log disk that is not out, and that of one that is so later
  pub map_by : (out : Option ℕ) (r : ℕ) → ((d : ℕ) → out_disk s.power m ≡ Some d → out ≡ Some d) → r < 512 * map_count m.setup.geometry
      → contents s batch (map_disk out) (map_place_of m.setup.geometry r) ≡ contents s batch (map_disk (out_disk s.power m)) (map_place_of m.setup.geometry r)
  map_by out r stays below = split (out_disk s.power m) refl
    where
      split : (o : Option ℕ) → out_disk s.power m ≡ o → contents s batch (map_disk out) (map_place_of m.setup.geometry r) ≡ contents s batch (map_disk (out_disk s.power m)) (map_place_of m.setup.geometry r)
      split None none = both_maps (map_disk out) (map_disk (out_disk s.power m)) r (map_disk_in out).0 (map_disk_in (out_disk s.power m)).0 none below
      split (Some d) some = ap (λ (o : Option ℕ). contents s batch (map_disk o) (map_place_of m.setup.geometry r)) (stays d some ∙ sym some)

module _ (slots : ℕ) (said : LogState) (m : Meta) (h_s h_u h_e : History) (k_s k_u k_e : ℕ) (s u e : Disks) (setup : m.setup ≡ said.meta.setup) (range_s : IsInRange said.meta) (range : IsInRange m)
    (single_u : (a b : ℕ) → IsMissing u.power said.meta a → IsMissing u.power said.meta b → a ≡ b) (single : (a b : ℕ) → IsMissing e.power m a → IsMissing e.power m b → a ≡ b)
    (content_s : ContentOk slots s.power s.size (view_of s said) h_s k_s)
    (content_u : ContentOk slots u.power u.size (view_by said.meta u.power (contents u [])) h_u k_u)
    (content : ContentOk slots e.power e.size (view_by m e.power (contents e [])) h_e k_e)
    (laid : (d p : ℕ) → gone_out said.meta.out ≢ Some d → has_place u d p ≡ true → log_least ≤ p → contents u [] d p ≡ contents s said.batch d p)
    (far : (d p : ℕ) → log_least ≤ p → e.block d p ≡ u.block d p)
    (first : (d : ℕ) → IsMissing s.power said.meta d → IsMissing u.power said.meta d) (then : (d : ℕ) → IsMissing u.power said.meta d → IsMissing e.power m d) where
  abbrev g : Geometry
  g = said.meta.setup.geometry

  geometry_is : m.setup.geometry ≡ g
  geometry_is = ap (λ (x : Setup). x.geometry) setup

  abbrev z : ℕ
  z = map_disk (out_disk e.power m)

  z_in : (z < 2) × (out_disk e.power m ≢ Some z)
  z_in = map_disk_in (out_disk e.power m)

  there_e : is_present (e.power z) ≡ true
  there_e = there_by e m z range single (let l = z_in.0 in let t = m.setup.geometry.disks_low in omega arith) z_in.1

  not_missing : IsMissing u.power said.meta z → ⊥
  not_missing missing = z_in.1 (missing_out e.power m z range single (then z missing))

  z_low : z < said.meta.setup.geometry.disks
  z_low = let l = z_in.0 in let t = said.meta.setup.geometry.disks_low in omega arith

  not_out : out_disk u.power said.meta ≢ Some z
  not_out is = not_missing (out_missing u.power said.meta z range_s is)

  there_u : is_present (u.power z) ≡ true
  there_u = there_by u said.meta z range_s single_u z_low not_out

  module _ (r : ℕ) (below : r < 512 * map_count g) where
    abbrev p : ℕ
    p = map_place_of g r

    place_u : has_place u z p ≡ true
    place_u =
        let large = content_u.kept.disks.large z z_low there_u not_out in
        let place = map_place_low said.meta r below in
        place_there u z p there_u (omega arith)

    place_e : has_place e z p ≡ true
    place_e =
        let large = content.kept.disks.large z (let l = z_in.0 in let t = m.setup.geometry.disks_low in omega arith) there_e z_in.1 in
        let place = map_place_low m r (subst (λ (x : Geometry). r < 512 * map_count x) (sym geometry_is) below) in
        place_there e z p there_e (omega arith)

    not_gone : gone_out said.meta.out ≢ Some z
    not_gone gone = not_missing (record { disk = z_low; is = inr (gone_named said.meta.out z gone) })

    -- the block of the map stays
    same_block : contents e [] z p ≡ contents s said.batch z p
    same_block = contents_there e z p place_e (omega arith) ∙ far z p (omega arith) ∙ sym (contents_there u z p place_u (omega arith)) ∙ laid z p not_gone place_u (omega arith)

    stays : (d : ℕ) → out_disk s.power said.meta ≡ Some d → out_disk e.power m ≡ Some d
    stays d is = missing_out e.power m d range single (then d (first d (out_missing s.power said.meta d range_s is)))

    block_is : contents e [] z p ≡ contents s said.batch (map_disk (out_disk s.power said.meta)) p
    block_is = same_block ∙ map_by slots s said.meta said.batch h_s k_s content_s (out_disk e.power m) r stays below

  pub dirty_kept : (r d : ℕ) → r < said.meta.setup.geometry.rows → (initial_state e (closed_over m)).dirty r d ≡ (initial_state s said).dirty r d
  dirty_kept r d low =
      let below : r < 512 * map_count g = omega arith in
      ap (λ (f : ℕ → ℕ → Bool). f r d) (shown_dirty e (closed_over m))
      ∙ ap (λ (x : Geometry). map_bit x (contents e [] z) r d) geometry_is
      ∙ bit_same g (contents e [] z) (contents s said.batch (map_disk (out_disk s.power said.meta))) r d (block_is r below)
      ∙ sym (ap (λ (f : ℕ → ℕ → Bool). f r d) (shown_dirty s said))
