-- What is stood for stays so when a disk that is absent is marked.
use Rattle.std.specs.Prelude.{◌≡◌, ℕ, ◌^◌, ◌<◌, ◌≤◌, ◌&&◌, ◌||◌, nat_lt, Bool, true, false, not, Option, Some, None, if◌then◌else◌}
use Rattle.std.proofs.Common.{refl, sym, ◌∙◌, ap, subst, arith, inl}
use Rattle.std.proofs.lemmas.Bool.{false≢true}
use Rattle.paraid_base.specs.declared.block.Block.{Block}
use Rattle.paraid_base.specs.declared.state.Out.TheVariants.{Gone, Fresh}
use Rattle.paraid_base.specs.declared.state.Phase.{Phase}
use Rattle.paraid_base.specs.declared.state.Phase.TheVariants.{Steady, Down, Up}
use Rattle.paraid_base.specs.Cells.{home_disk, home_row}
use Rattle.paraid_base.specs.History.{History}
use Rattle.paraid_base.specs.Regions.{hard_place_of}
use Rattle.paraid_base.specs.Sums.{without, xor_upto}
use Rattle.paraid_rack.specs.declared.call.Power.{Power}
use Rattle.paraid_rack.specs.Disks.{is_present}
use Rattle.paraid_record.specs.declared.meta.Meta.{Meta}
use Rattle.paraid_record.specs.Range.{IsInRange, IsPhaseInRange, first_parked, is_down}
use Rattle.paraid_image.specs.Content.{view_by}
use Rattle.paraid_image.specs.Mark.{marked_gone}
use Rattle.paraid_image.specs.Out.{IsMissing, is_out}
use Rattle.paraid_image.specs.Power.{phase_beside}
use Rattle.paraid_image.specs.Sound.{AreDisks, ContentOk, IsFresh, IsWellKept}
use Rattle.paraid_image.specs.Spot.{View, is_hard, map_bit, map_disk, rising_to}
use Rattle.paraid_image.specs.Standing.{Contents}
use Rattle.paraid_image.specs.Value.{reconstructed_value, soft_value, stored_value, value}
use Rattle.paraid_image.proofs.OutLemmas.{missing_is_out}

-- what the mark leaves of a phase
rising_beside : (phase : Phase) → rising_to (phase_beside true phase) ≡ rising_to phase
rising_beside Steady = refl
rising_beside (Down to) = refl
rising_beside (Up to) = refl

up_beside : (phase : Phase) (to : ℕ) → phase_beside true phase ≡ Up to → phase ≡ Up to
up_beside Steady to is = cc
up_beside (Down t) to is = cc
up_beside (Up t) to is = is

phase_in_range : (m : Meta) (phase : Phase) → IsPhaseInRange m.setup.geometry m.gear phase → IsPhaseInRange m.setup.geometry m.gear (phase_beside true phase)
phase_in_range m Steady range = range
phase_in_range m (Down to) range = tt
phase_in_range m (Up to) range = range

parked_beside : (m : Meta) (phase : Phase) → IsPhaseInRange m.setup.geometry m.gear phase → first_parked m.gear phase ≤ first_parked m.gear (phase_beside true phase)
parked_beside m Steady range = omega arith
parked_beside m (Down to) range = let below = range.below in omega arith
parked_beside m (Up to) range = omega arith

not_down : (phase : Phase) → is_down (phase_beside true phase) ≡ true → ⊥
not_down Steady is = false≢true is
not_down (Down to) is = false≢true is
not_down (Up to) is = false≢true is

-- the meta by which a disk is marked is in range
pub marked_in_range : (m : Meta) (d e : ℕ) → IsInRange m → d < m.setup.geometry.disks → 1 ≤ e → e < 2 ^ 64 → IsInRange (marked_gone m d e)
marked_in_range m d e range low first fits = record {
  setup = range.setup;
  version = range.version;
  counters = record { first = first; epoch_fits = fits; writes_fit = range.counters.writes_fit; ticks_fit = range.counters.ticks_fit };
  gear = range.gear;
  phase = phase_in_range m m.phase range.phase;
  out = low;
  shift = record { fill = omega arith; down = λ is. absurd (not_down m.phase is); still = λ _. refl };
  eight = range.eight;
  spins = λ disk lt.
      let s = range.spins disk lt in
      let later = parked_beside m m.phase range.phase in
      record { within = s.within; parked = λ from to. s.parked (omega arith) to; unused = s.unused };
}

module _ (m : Meta) (d epoch : ℕ) (dirty : ℕ → ℕ → Bool) (block : Contents) where
  abbrev v : View
  v = record { meta = m; dirty = dirty; out = Some d; block = block }

  abbrev w : View
  w = record { meta = marked_gone m d epoch; dirty = dirty; out = Some d; block = block }

  hard_same : (r e : ℕ) → is_hard w r e ≡ is_hard v r e
  unfolding is_hard
  hard_same r e = ap (λ (to : ℕ). nat_lt e m.gear || (nat_lt e to && not (dirty r e))) (rising_beside m.phase)

  soft_same : (r e : ℕ) → soft_value w r e ≡ soft_value v r e
  unfolding soft_value
  soft_same r e = refl

  near_same : (r e : ℕ) → stored_value w r e ≡ stored_value v r e
  unfolding stored_value
  near_same r e =
      ap (λ (t : Bool). if t then block e (hard_place_of m.setup.geometry r) else soft_value w r e) (hard_same r e)
      ∙ ap (λ (b : Block). if is_hard v r e then block e (hard_place_of m.setup.geometry r) else b) (soft_same r e)

  far_same : (r e : ℕ) → reconstructed_value w r e ≡ reconstructed_value v r e
  unfolding reconstructed_value
  far_same r e = ap (λ (f : ℕ → Block). xor_upto (without f e) m.setup.geometry.disks) (λ t x. near_same r x t)

  pub value_same : (r e : ℕ) → value w r e ≡ value v r e
  unfolding value
  value_same r e =
      ap (λ (t : Bool). if t && is_out (Some d) e then reconstructed_value w r e else stored_value w r e) (hard_same r e)
      ∙ ap (λ (b : Block). if is_hard v r e && is_out (Some d) e then b else stored_value w r e) (far_same r e)
      ∙ ap (λ (b : Block). if is_hard v r e && is_out (Some d) e then reconstructed_value v r e else b) (near_same r e)

  row_same : (r : ℕ) → value w r ≡ value v r
  row_same r = λ t e. value_same r e t

  module _ (slots : ℕ) (power : ℕ → Power) (size : ℕ → ℕ) (h : History) (k : ℕ) where
    no_fresh : (e u : ℕ) → IsFresh power (marked_gone m d epoch) e u → ⊥
    no_fresh e u fresh = let z : Gone d ≡ Fresh e u = fresh.is in cc

    disks_marked : AreDisks slots power size m (Some d) → AreDisks slots power size (marked_gone m d epoch) (Some d)
    disks_marked c = record {
      enough = c.enough;
      log_disks = c.log_disks;
      large = c.large;
      fresh_large = λ e u fresh. absurd (no_fresh e u fresh);
      below_gear = c.below_gear;
      fresh_spins = λ e u fresh. absurd (no_fresh e u fresh);
      recorded = λ to e up low high parked not. c.recorded to e (up_beside m.phase to up) low high parked not;
    }

    kept_marked : IsWellKept slots power size v → IsWellKept slots power size w
    kept_marked c = record {
      rows = λ r l. ap (λ (f : ℕ → Block). xor_upto f m.setup.geometry.disks) (row_same r) ∙ c.rows r l;
      stripes = c.stripes;
      filled = λ none. let z : Some d ≡ None = none in cc;
      clean = λ r e lr low le in_array clean. c.clean r e lr low le in_array clean ∙ sym (value_same r e);
      rebuilt = λ e u fresh. absurd (no_fresh e u fresh);
      map = record { mirrored = c.map.mirrored; rows = c.map.rows; parked = c.map.parked; disks = c.map.disks };
      disks = disks_marked c.disks;
    }

    view_marked : ContentOk slots power size v h k → ContentOk slots power size w h k
    view_marked c = record {
      kept = kept_marked c.kept;
      blocks = λ b l. value_same (home_row m.setup.geometry.disks b) (home_disk m.setup.geometry.disks b) ∙ c.blocks b l;
    }

-- Where one disk at most is missing, and it is absent, what is stood for stays so when it is marked.
pub content_marked : (slots : ℕ) (power : ℕ → Power) (size : ℕ → ℕ) (m : Meta) (d epoch : ℕ) (block : Contents) (h : History) (k : ℕ) → IsInRange m
    → ((e f : ℕ) → IsMissing power m e → IsMissing power m f → e ≡ f) → d < m.setup.geometry.disks → is_present (power d) ≡ false
    → ContentOk slots power size (view_by m power block) h k → ContentOk slots power size (view_by (marked_gone m d epoch) power block) h k
content_marked slots power size m d epoch block h k range single low gone c =
    let out = missing_is_out power m d range single (record { disk = low; is = inl gone }) gone in
    view_marked m d epoch (map_bit m.setup.geometry (block (map_disk (Some d)))) block slots power size h k
    (subst (λ (o : Option ℕ). ContentOk slots power size (record { meta = m; dirty = map_bit m.setup.geometry (block (map_disk o)); out = o; block = block }) h k) out c)
