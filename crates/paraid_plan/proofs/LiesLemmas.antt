-- A target that is laid changes the one block that lies at its place.
use Rattle.std.specs.Prelude.{◌≡◌, ◌≢◌, ℕ, ◌+◌, ◌<◌, ◌≤◌, Bool, true, not, Option, Some}
use Rattle.std.proofs.Common.{refl, sym, ◌∙◌, ap, subst, arith, inl, inr}
use Rattle.std.proofs.lemmas.Bool.{cases_eq}
use Rattle.std.proofs.lemmas.Bool.Decides.{nat_tests}
use Rattle.paraid_base.specs.declared.block.Block.{Block}
use Rattle.paraid_base.specs.declared.geometry.Geometry.{Geometry}
use Rattle.paraid_base.specs.declared.state.Out.{Out}
use Rattle.paraid_base.specs.declared.state.Out.TheVariants.{No, Gone, Fresh}
use Rattle.paraid_base.specs.declared.state.Phase.{Phase}
use Rattle.paraid_base.specs.declared.state.Phase.TheVariants.{Steady, Down, Up}
use Rattle.paraid_base.specs.Log.{map_block_place}
use Rattle.paraid_base.specs.Regions.{IsGear, hard_place_of, map_count, soft_place_of}
use Rattle.paraid_base.specs.Soft.{stripe_count}
use Rattle.paraid_base.proofs.RegionsLemmas.{hard_below_soft, hard_places_apart, soft_places_apart}
use Rattle.paraid_plan.specs.WriteTargets.{is_written, overlaid_blocks, map_targets, soft_count, target_if}
use Rattle.paraid_plan.specs.StoredCells.{IsUnitKept, Lies}
use Rattle.paraid_plan.specs.StoredCells.IsUnitKept.{there, rebuilt}
use Rattle.paraid_plan.proofs.LayLemmas.{cases_both, lay_at, lay_off, overlaid_blocks-append, put, put_at, put_off}
use Rattle.paraid_rack.specs.declared.call.Power.{Power}
use Rattle.paraid_rack.specs.Disks.{with_at}
use Rattle.paraid_rack.proofs.AtomsLemmas.{with_at_other, with_at_same}
use Rattle.paraid_record.specs.declared.meta.Meta.{Meta}
use Rattle.paraid_record.specs.Codes.{phase_to}
use Rattle.paraid_record.specs.Range.{IsInRange, IsPhaseInRange, fill_limit}
use Rattle.paraid_image.specs.Out.{named_out}
use Rattle.paraid_image.specs.Standing.{Contents}

-- what is known of the region that is being filled
pub record IsFillGear (g : Geometry) (gear fill to : ℕ) : Type 0 where
  pub is_gear : IsGear g to
  pub other : gear ≢ to
  pub within : fill ≤ stripe_count g.disks g.rows to

fill_gear_by : (g : Geometry) (gear fill s : ℕ) (phase : Phase) → IsPhaseInRange g gear phase → fill ≤ fill_limit g phase → s < fill → IsFillGear g gear fill (phase_to phase)
fill_gear_by g gear fill s Steady range limit l = absurd (omega arith)
fill_gear_by g gear fill s (Down to) range limit l = let below = range.below in record { is_gear = range.lower_gear; other = λ k. absurd (omega arith); within = limit }
fill_gear_by g gear fill s (Up to) range limit l = let below = range.below in record { is_gear = range.higher_gear; other = λ k. absurd (omega arith); within = limit }

pub fill_gear : (m : Meta) (s : ℕ) → IsInRange m → s < m.fill → IsFillGear m.setup.geometry m.gear m.fill (phase_to m.phase)
fill_gear m s in_range l = fill_gear_by m.setup.geometry m.gear m.fill s m.phase in_range.phase in_range.shift.fill l

written_there : (o : Out) (d u : ℕ) → named_out o ≢ Some d → is_written o d u ≡ true
written_there No d u apart = refl
written_there (Gone e) d u apart = let k : d ≢ e = (λ is. apart (ap Some (sym is))) in grind (arith, nat_tests)
written_there (Fresh e count) d u apart = let k : d ≢ e = (λ is. apart (ap Some (sym is))) in grind (arith, nat_tests)

written_rebuilt : (d u count : ℕ) → u < count → is_written (Fresh d count) d u ≡ true
written_rebuilt d u count l = grind (arith, nat_tests)

module _ (power : ℕ → Power) (m : Meta) (out : Option ℕ) (in_range : IsInRange m) (named : out ≡ named_out m.out) where
  abbrev g : Geometry
  g = m.setup.geometry

  pub kept_written : (d u : ℕ) → IsUnitKept power m out d u → is_written m.out d u ≡ true
  kept_written d u (there apart) = written_there m.out d u (λ is. apart (named ∙ is))
  kept_written d u (rebuilt count fresh l) = ap (λ (o : Out). is_written o d u) fresh.is ∙ written_rebuilt d u count l

  -- the target of a kept place is laid
  written_as : (d e u v : ℕ) → IsUnitKept power m out d u → d ≡ e → u ≡ v → is_written m.out e v ≡ true
  written_as d e u v kept i j = ap (λ (z : ℕ). is_written m.out z v) (sym i) ∙ ap (is_written m.out d) (sym j) ∙ kept_written d u kept

  module _ (block : Contents) (hard soft filled : ℕ → ℕ → Block) (map : ℕ → Block) (l : Lies power m out block hard soft filled map) where
    pub lies_hard : (r₀ d₀ : ℕ) (x : Block) → r₀ < g.rows
        → Lies power m out (overlaid_blocks (target_if (is_written m.out d₀ r₀) d₀ (hard_place_of g r₀) x) block) (put hard r₀ d₀ x) soft filled map
    lies_hard r₀ d₀ x l₀ =
        let written : Bool = is_written m.out d₀ r₀ in
        let place : ℕ = hard_place_of g r₀ in
        record {
          hard_blocks = λ r d lr ld kept. elim (cases_both r r₀ d d₀) [
            | inl is ↦ lay_at written d₀ place x block d (hard_place_of g r) (written_as d d₀ r r₀ kept is.1 is.0) is.1 (ap (hard_place_of g) is.0)
                ∙ sym (put_at hard r₀ d₀ x r d is.0 is.1)
            | inr apart ↦ lay_off written d₀ place x block d (hard_place_of g r) (λ i at. apart (hard_places_apart g r r₀ at) i)
                ∙ l.hard_blocks r d lr ld kept ∙ sym (put_off hard r₀ d₀ x r d apart)
          ];
          soft_blocks = λ s e ls le kept.
              lay_off written d₀ place x block e (soft_place_of g m.gear s) (λ i at. let b = hard_below_soft g r₀ m.gear s l₀ in absurd (omega arith))
              ∙ l.soft_blocks s e ls le kept;
          filled_blocks = λ s e ls le.
              lay_off written d₀ place x block e (soft_place_of g (phase_to m.phase) s) (λ i at. let b = hard_below_soft g r₀ (phase_to m.phase) s l₀ in absurd (omega arith))
              ∙ l.filled_blocks s e ls le;
          map_blocks = λ j y lj ly kept. lay_off written d₀ place x block y (map_block_place g j) (λ i at. absurd (omega arith)) ∙ l.map_blocks j y lj ly kept;
        }

    pub lies_soft : (s₀ e₀ : ℕ) (x : Block) → s₀ < soft_count m
        → Lies power m out (overlaid_blocks (target_if (is_written m.out e₀ (g.rows + s₀)) e₀ (soft_place_of g m.gear s₀) x) block) hard (put soft s₀ e₀ x) filled map
    lies_soft s₀ e₀ x l₀ =
        let written : Bool = is_written m.out e₀ (g.rows + s₀) in
        let place : ℕ = soft_place_of g m.gear s₀ in
        record {
          hard_blocks = λ r d lr ld kept.
              lay_off written e₀ place x block d (hard_place_of g r) (λ i at. let b = hard_below_soft g r m.gear s₀ lr in absurd (omega arith))
              ∙ l.hard_blocks r d lr ld kept;
          soft_blocks = λ s e ls le kept. elim (cases_both s s₀ e e₀) [
            | inl is ↦ lay_at written e₀ place x block e (soft_place_of g m.gear s) (written_as e e₀ (g.rows + s) (g.rows + s₀) kept is.1 (ap (λ (z : ℕ). g.rows + z) is.0))
                is.1 (ap (soft_place_of g m.gear) is.0) ∙ sym (put_at soft s₀ e₀ x s e is.0 is.1)
            | inr apart ↦ lay_off written e₀ place x block e (soft_place_of g m.gear s) (λ i at. apart (omega arith) i)
                ∙ l.soft_blocks s e ls le kept ∙ sym (put_off soft s₀ e₀ x s e apart)
          ];
          filled_blocks = λ s e ls le.
              let to = fill_gear m s in_range ls in
              let w = to.within in
              lay_off written e₀ place x block e (soft_place_of g (phase_to m.phase) s)
              (λ i at. to.other (sym (soft_places_apart g (phase_to m.phase) m.gear s s₀ to.is_gear in_range.gear (omega arith) l₀ at).0))
              ∙ l.filled_blocks s e ls le;
          map_blocks = λ j y lj ly kept. lay_off written e₀ place x block y (map_block_place g j) (λ i at. absurd (omega arith)) ∙ l.map_blocks j y lj ly kept;
        }

    pub lies_filled : (written : Bool) (s₀ e₀ : ℕ) (x : Block) → written ≡ true → s₀ < m.fill
        → Lies power m out (overlaid_blocks (target_if written e₀ (soft_place_of g (phase_to m.phase) s₀) x) block) hard soft (put filled s₀ e₀ x) map
    lies_filled written s₀ e₀ x is_true l₀ =
        let place : ℕ = soft_place_of g (phase_to m.phase) s₀ in
        let to = fill_gear m s₀ in_range l₀ in
        let w = to.within in
        record {
          hard_blocks = λ r d lr ld kept.
              lay_off written e₀ place x block d (hard_place_of g r) (λ i at. let b = hard_below_soft g r (phase_to m.phase) s₀ lr in absurd (omega arith))
              ∙ l.hard_blocks r d lr ld kept;
          soft_blocks = λ s e ls le kept.
              lay_off written e₀ place x block e (soft_place_of g m.gear s)
              (λ i at. to.other (soft_places_apart g m.gear (phase_to m.phase) s s₀ in_range.gear to.is_gear ls (omega arith) at).0)
              ∙ l.soft_blocks s e ls le kept;
          filled_blocks = λ s e ls le. elim (cases_both s s₀ e e₀) [
            | inl is ↦ lay_at written e₀ place x block e (soft_place_of g (phase_to m.phase) s) is_true is.1 (ap (soft_place_of g (phase_to m.phase)) is.0)
                ∙ sym (put_at filled s₀ e₀ x s e is.0 is.1)
            | inr apart ↦ lay_off written e₀ place x block e (soft_place_of g (phase_to m.phase) s) (λ i at. apart (omega arith) i)
                ∙ l.filled_blocks s e ls le ∙ sym (put_off filled s₀ e₀ x s e apart)
          ];
          map_blocks = λ j y lj ly kept. lay_off written e₀ place x block y (map_block_place g j) (λ i at. absurd (omega arith)) ∙ l.map_blocks j y lj ly kept;
        }

    -- both mirrors of a block of the map

    map_twice : (j₀ : ℕ) (b : Block) → Contents
    map_twice j₀ b =
        let u = g.rows + soft_count m + j₀ in
        overlaid_blocks (target_if (is_written m.out 1 u) 1 (map_block_place g j₀) b) (overlaid_blocks (target_if (is_written m.out 0 u) 0 (map_block_place g j₀) b) block)

    map_off : (j₀ : ℕ) (b : Block) (d p : ℕ) → p ≢ map_block_place g j₀ → map_twice j₀ b d p ≡ block d p
    unfolding map_twice
    map_off j₀ b d p apart =
        let u = g.rows + soft_count m + j₀ in
        lay_off (is_written m.out 1 u) 1 (map_block_place g j₀) b (overlaid_blocks (target_if (is_written m.out 0 u) 0 (map_block_place g j₀) b) block) d p (λ i at. apart at)
        ∙ lay_off (is_written m.out 0 u) 0 (map_block_place g j₀) b block d p (λ i at. apart at)

    map_at : (j₀ : ℕ) (b : Block) (x p : ℕ) → x < 2 → p ≡ map_block_place g j₀ → IsUnitKept power m out x (g.rows + soft_count m + j₀) → map_twice j₀ b x p ≡ b
    unfolding map_twice
    map_at j₀ b x p lx at kept =
        let u = g.rows + soft_count m + j₀ in
        let first : Contents = overlaid_blocks (target_if (is_written m.out 0 u) 0 (map_block_place g j₀) b) block in
        elim (cases_eq x 0) [
          | inl is ↦ lay_off (is_written m.out 1 u) 1 (map_block_place g j₀) b first x p (λ i _. absurd (omega arith))
              ∙ lay_at (is_written m.out 0 u) 0 (map_block_place g j₀) b block x p (written_as x 0 u u kept is refl) is at
          | inr not ↦ let is : x ≡ 1 = omega arith in lay_at (is_written m.out 1 u) 1 (map_block_place g j₀) b first x p (written_as x 1 u u kept is refl) is at
        ]

    lies_map_twice : (j₀ : ℕ) (b : Block) → j₀ < map_count g → Lies power m out (map_twice j₀ b) hard soft filled (with_at map j₀ b)
    lies_map_twice j₀ b l₀ = record {
      hard_blocks = λ r d lr ld kept. map_off j₀ b d (hard_place_of g r) (λ at. absurd (omega arith)) ∙ l.hard_blocks r d lr ld kept;
      soft_blocks = λ s e ls le kept. map_off j₀ b e (soft_place_of g m.gear s) (λ at. absurd (omega arith)) ∙ l.soft_blocks s e ls le kept;
      filled_blocks = λ s e ls le. map_off j₀ b e (soft_place_of g (phase_to m.phase) s) (λ at. absurd (omega arith)) ∙ l.filled_blocks s e ls le;
      map_blocks = λ j x lj lx kept. elim (cases_eq j j₀) [
        | inl is ↦ map_at j₀ b x (map_block_place g j) lx (omega arith) (subst (λ (z : ℕ). IsUnitKept power m out x (g.rows + soft_count m + z)) is kept) ∙ sym (with_at_same map j₀ b j is)
        | inr not ↦ map_off j₀ b x (map_block_place g j) (λ at. absurd (not (omega arith))) ∙ l.map_blocks j x lj lx kept ∙ sym (with_at_other map j₀ b j not)
      ];
    }

    pub lies_map : (j₀ : ℕ) (b : Block) → j₀ < map_count g → Lies power m out (overlaid_blocks (map_targets m j₀ b) block) hard soft filled (with_at map j₀ b)
    unfolding map_twice
    lies_map j₀ b l₀ =
        let u = g.rows + soft_count m + j₀ in
        subst (λ (f : Contents). Lies power m out f hard soft filled (with_at map j₀ b))
        (sym (overlaid_blocks-append (target_if (is_written m.out 0 u) 0 (map_block_place g j₀) b) (target_if (is_written m.out 1 u) 1 (map_block_place g j₀) b) block))
        (lies_map_twice j₀ b l₀)
