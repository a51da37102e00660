-- The moves of a shift and of a rebuild, over what blocks stand for by a meta and the powers.
use Rattle.std.specs.Prelude.{◌≡◌, ◌≢◌, ℕ, ◌+◌, ◌*◌, ◌<◌, ◌≤◌, ◌⊎◌, ◌==◌, ◌&&◌, Bool, true, false, List, Option, Some, None, slice_index, if◌then◌else◌}
use Rattle.std.proofs.Common.{refl, sym, ◌∙◌, ap, subst, arith, inl, inr}
use Rattle.std.proofs.lemmas.Bool.{cases_eq}
use Rattle.std.proofs.lemmas.Bool.Decides.{nat_tests}
use Rattle.paraid_base.specs.declared.geometry.Geometry.{Geometry}
use Rattle.paraid_base.specs.declared.state.Out.{Out}
use Rattle.paraid_base.specs.declared.state.Out.TheVariants.{No, Gone, Fresh}
use Rattle.paraid_base.specs.declared.state.Phase.TheVariants.{Steady, Down, Up}
use Rattle.paraid_base.specs.History.{History}
use Rattle.paraid_base.specs.Log.{map_block_place, map_start}
use Rattle.paraid_base.specs.Regions.{hard_place_of, map_count, map_place_of}
use Rattle.paraid_base.specs.Soft.{stripe_count}
use Rattle.paraid_rack.specs.declared.call.Power.{Power}
use Rattle.paraid_rack.specs.declared.call.Power.TheVariants.{Spinning, Parked}
use Rattle.paraid_record.specs.declared.meta.Meta.{Meta}
use Rattle.paraid_record.specs.Codes.{phase_to}
use Rattle.paraid_record.specs.Range.{IsInRange}
use Rattle.paraid_image.specs.Content.{view_by}
use Rattle.paraid_image.specs.Free.{IsFree}
use Rattle.paraid_image.specs.Free.IsFree.{dirty_cell}
use Rattle.paraid_image.specs.Out.{first_absent, named_out, or_else, out_disk}
use Rattle.paraid_image.specs.Sound.{ContentOk, IsFresh}
use Rattle.paraid_image.specs.Spot.{View, is_hard, map_bit, map_disk, rising_to}
use Rattle.paraid_image.specs.Standing.{Contents}
use Rattle.paraid_image.specs.Value.{value}
use Rattle.paraid_image.proofs.AgreeLemmas.{AgreeSeen}
use Rattle.paraid_image.proofs.ViewLemmas.{map_bit_same}
use Rattle.paraid_moves.specs.MoveMetas.{AreCellsCopied, AreStripesCopied, IsAs, meta_after_begin, filled_to, meta_flipped_to, view_with_out}
use Rattle.paraid_moves.proofs.FreePlaceLemmas.{content_laid, free_places_agree, value_agrees}
use Rattle.paraid_moves.proofs.ShiftLemmas.{cells_marked, down_begun, shift_ended, stripes_marked, up_begun}
use Rattle.paraid_moves.proofs.ValuesLemmas.{blocks_carried, rows_carried, value_kept}

pub all_in : (power : ℕ → Power) (m : Meta) → out_disk power m ≡ None → m.out ≡ No
all_in power m none = go m.out refl
  where
    go : (o : Out) → m.out ≡ o → m.out ≡ No
    go No is = is
    go (Gone d) is = let k : Some d ≡ None = sym (ap (λ (o : Out). or_else (named_out o) (first_absent power m.setup.geometry.disks)) is) ∙ none in cc
    go (Fresh d u) is = let k : Some d ≡ None = sym (ap (λ (o : Out). or_else (named_out o) (first_absent power m.setup.geometry.disks)) is) ∙ none in cc

-- a meta that is as another but for its version, its epoch and its numbers of writes and of ticks
pub is_later : (m t : Meta) → IsAs m t → record m { version = t.version; epoch = t.epoch; writes = t.writes; ticks = t.ticks } ≡ t
is_later m t is = sym (λ u. record {
  setup = is.setup u;
  version = t.version;
  epoch = t.epoch;
  writes = t.writes;
  ticks = t.ticks;
  gear = is.gear u;
  phase = is.phase u;
  fill = is.fill u;
  out = is.out u;
  spins = is.spins u;
})

module _ (slots : ℕ) (power : ℕ → Power) (size : ℕ → ℕ) (h : History) (k : ℕ) where
  abbrev pub Ok : Meta → Option ℕ → Contents → Type 0
  Ok m o f = ContentOk slots power size (view_with_out m o f) h k

  abbrev pub HoldUnder : Meta → Contents → Type 0
  HoldUnder m f = ContentOk slots power size (view_by m power f) h k

  open_at : (m : Meta) (f : Contents) (o : Option ℕ) → out_disk power m ≡ o → HoldUnder m f → Ok m o f
  open_at m f o is ok = subst (λ (x : Option ℕ). Ok m x f) is ok

  close_at : (m : Meta) (f : Contents) (o : Option ℕ) → out_disk power m ≡ o → Ok m o f → HoldUnder m f
  close_at m f o is ok = subst (λ (x : Option ℕ). Ok m x f) (sym is) ok

  -- Version, epoch, writes and ticks are not looked at.
  module _ (m : Meta) (o : Option ℕ) (f : Contents) (version epoch writes ticks : ℕ) where
    abbrev later : Meta
    later = record m { version = version; epoch = epoch; writes = writes; ticks = ticks }

    later_hard : (r d : ℕ) → r < m.setup.geometry.rows → is_hard (view_with_out later o f) r d ≡ is_hard (view_with_out m o f) r d
    unfolding is_hard
    later_hard r d l = refl

    abbrev bits : ℕ → ℕ → Bool
    bits = map_bit m.setup.geometry (f (map_disk o))

    later_same : (r d : ℕ) → r < m.setup.geometry.rows → d < m.setup.geometry.disks → value (view_with_out later o f) r d ≡ value (view_with_out m o f) r d
    later_same r d lr ld = value_kept m later bits bits o f later_hard r d lr

    fresh_then : (d u : ℕ) → IsFresh power later d u → IsFresh power m d u
    fresh_then d u fresh = record { is = fresh.is; present = fresh.present }

    later_ok : ((d u : ℕ) → IsFresh power m d u → d < m.setup.geometry.disks) → Ok m o f → Ok later o f
    later_ok below ok = record {
      kept = record {
        rows = rows_carried m later bits bits o o f f later_same ok.kept.rows;
        stripes = ok.kept.stripes;
        filled = λ none s l. let was = ok.kept.filled none s l in record {
          cells = λ r d lr low ld is. was.cells r d lr low ld is ∙ sym (later_same r d lr ld);
          pads = was.pads;
          zero = was.zero;
        };
        clean = λ r d lr low ld there clean. ok.kept.clean r d lr low ld there clean ∙ sym (later_same r d lr ld);
        rebuilt = λ d u fresh.
            let was = ok.kept.rebuilt d u (fresh_then d u fresh) in
            let ld = below d u (fresh_then d u fresh) in
            record {
              rows = λ r lr lu clean. was.rows r lr lu clean ∙ sym (later_same r d lr ld);
              stripes = was.stripes;
              map_blocks = was.map_blocks;
            };
        map = record { mirrored = ok.kept.map.mirrored; rows = ok.kept.map.rows; parked = ok.kept.map.parked; disks = ok.kept.map.disks };
        disks = record {
          enough = ok.kept.disks.enough;
          log_disks = ok.kept.disks.log_disks;
          large = ok.kept.disks.large;
          fresh_large = λ d u fresh. ok.kept.disks.fresh_large d u (fresh_then d u fresh);
          below_gear = ok.kept.disks.below_gear;
          fresh_spins = λ d u fresh. ok.kept.disks.fresh_spins d u (fresh_then d u fresh);
          recorded = ok.kept.disks.recorded;
        };
      };
      blocks = blocks_carried m later bits bits o o f f h k later_same ok.blocks;
    }

  pub fits_later : (m t : Meta) (f : Contents) → IsAs m t → ((d u : ℕ) → IsFresh power m d u → d < m.setup.geometry.disks) → HoldUnder m f → HoldUnder t f
  fits_later m t f is below ok = subst (λ (x : Meta). HoldUnder x f) (is_later m t is) (later_ok m (out_disk power m) f t.version t.epoch t.writes t.ticks below ok)

  -- The moves of a shift, with no disk out.
  module _ (m : Meta) (f : Contents) (none : out_disk power m ≡ None) (ok : HoldUnder m f) where
    abbrev v : View
    v = view_by m power f

    here : Ok m None f
    here = open_at m f None none ok

    abbrev zero_bits : ℕ → ℕ → Bool
    zero_bits = map_bit m.setup.geometry (f 0)

    abbrev g : Geometry
    g = m.setup.geometry

    no_out : m.out ≡ No
    no_out = all_in power m none

    bits_are : (r d : ℕ) → v.dirty r d ≡ zero_bits r d
    bits_are r d = ap (λ (o : Option ℕ). map_bit m.setup.geometry (f (map_disk o)) r d) none

    value_is : (r d : ℕ) → value v r d ≡ value (view_with_out m None f) r d
    value_is r d = ap (λ (o : Option ℕ). value (view_with_out m o f) r d) none

    pub begins_down : (to : ℕ) → m.phase ≡ Steady → HoldUnder (meta_after_begin m (Down to) m.spins) f
    begins_down to steady = close_at (meta_after_begin m (Down to) m.spins) f None none (down_begun slots power size m no_out zero_bits f h k here to steady)

    pub begins_up : (to : ℕ) (spins : List ℕ) → m.phase ≡ Steady → ((d : ℕ) → m.gear ≤ d → d < to → power d ≡ Parked → 1 ≤ slice_index spins d)
        → HoldUnder (meta_after_begin m (Up to) spins) f
    begins_up to spins steady recorded =
        close_at (meta_after_begin m (Up to) spins) f None none (up_begun slots power size m no_out zero_bits f h k here to spins steady recorded)

    pub marks_stripes : (end : ℕ) → AreStripesCopied v end → HoldUnder (filled_to m end) f
    marks_stripes end copied =
        let copied_here : AreStripesCopied (view_with_out m None f) end = subst (λ (o : Option ℕ). AreStripesCopied (view_with_out m o f) end) none copied in
        close_at (filled_to m end) f None none (stripes_marked slots power size m no_out zero_bits f h k here end copied_here)

    pub ends_shift : (to : ℕ) → 2 ≤ to → to ≤ m.setup.geometry.disks → phase_to m.phase ≡ to → m.fill ≡ stripe_count m.setup.geometry.disks m.setup.geometry.rows to
        → ((r d : ℕ) → r < m.setup.geometry.rows → m.gear ≤ d → d < to → v.dirty r d ≡ false)
        → (m.gear < to → rising_to m.phase ≡ to) → ((d : ℕ) → d < to → power d ≡ Spinning) → HoldUnder (meta_flipped_to m to) f
    ends_shift to low high is filled clean rising spinning =
        close_at (meta_flipped_to m to) f None none
        (shift_ended slots power size m no_out zero_bits f h k here to low high is filled (λ r d lr ld l. sym (bits_are r d) ∙ clean r d lr ld l) rising spinning)

    -- The map blocks of copied cells are written.
    pub marks_cells : (cells : ℕ → ℕ → Bool) (after : Contents) → AreCellsCopied v cells
        → ((x q : ℕ) → map_start m.setup.geometry + map_count m.setup.geometry ≤ q → after x q ≡ f x q)
        → ((j : ℕ) → j < map_count m.setup.geometry → after 0 (map_block_place m.setup.geometry j) ≡ after 1 (map_block_place m.setup.geometry j))
        → ((r d : ℕ) → r < 512 * map_count m.setup.geometry → map_bit m.setup.geometry (after 0) r d ≡ true → v.dirty r d ≡ true)
        → ((r d : ℕ) → r < m.setup.geometry.rows → d < m.setup.geometry.disks → v.dirty r d ≡ true → map_bit m.setup.geometry (after 0) r d ≡ false → cells r d ≡ true)
        → HoldUnder m after
    marks_cells cells after copied past mirrored fewer cleared =
        close_at m after None none
        (cells_marked slots power size m no_out zero_bits f h k here (map_bit m.setup.geometry (after 0)) after past mirrored
        (λ r d l bit. sym (bits_are r d) ∙ fewer r d l bit)
        (λ r d lr ld bit now. copied r d lr ld (bits_are r d ∙ bit) (cleared r d lr ld (bits_are r d ∙ bit) now) ∙ value_is r d))

    -- One cell is cleaned, its hard place and the map in one.
    module _ (in_range : IsInRange m) (q x : ℕ) (lq : q < m.setup.geometry.rows) (low : m.gear ≤ x) (after : Contents)
        (bit : v.dirty q x ≡ true) (stored : after x (hard_place_of m.setup.geometry q) ≡ value v q x)
        (elsewhere : (y z : ℕ) → map_start m.setup.geometry + map_count m.setup.geometry ≤ z → (y ≡ x → z ≢ hard_place_of m.setup.geometry q) → after y z ≡ f y z)
        (mirrored : (j : ℕ) → j < map_count m.setup.geometry → after 0 (map_block_place m.setup.geometry j) ≡ after 1 (map_block_place m.setup.geometry j))
        (fewer : (r d : ℕ) → r < 512 * map_count m.setup.geometry → map_bit m.setup.geometry (after 0) r d ≡ true → v.dirty r d ≡ true)
        (one : (r d : ℕ) → r < m.setup.geometry.rows → d < m.setup.geometry.disks → v.dirty r d ≡ true → map_bit m.setup.geometry (after 0) r d ≡ false → (r ≡ q) × (d ≡ x)) where
      place : ℕ
      place = hard_place_of m.setup.geometry q

      -- with the value in its hard place alone
      abbrev middle : Contents
      middle = λ y z. if y == x && z == hard_place_of m.setup.geometry q then after x (hard_place_of m.setup.geometry q) else f y z

      middle_is : middle x (hard_place_of m.setup.geometry q) ≡ after x (hard_place_of m.setup.geometry q)
      middle_is = let p = hard_place_of m.setup.geometry q in let t : (x == x && p == p) ≡ true = grind (arith, nat_tests) in rw t refl

      middle_else : (y z : ℕ) → (y ≡ x → z ≢ hard_place_of m.setup.geometry q) → middle y z ≡ f y z
      middle_else y z apart = let p = hard_place_of m.setup.geometry q in elim (cases_eq y x) [
        | inl is ↦ let away = apart is in let t : (y == x && z == p) ≡ false = grind (arith, nat_tests) in rw t refl
        | inr not ↦ let t : (y == x && z == p) ≡ false = grind (arith, nat_tests) in rw t refl
      ]

      only : (y z : ℕ) → IsFree (view_with_out m None f) y z ⊎ (middle y z ≡ f y z)
      only y z = elim (cases_eq y x) [
        | inr not ↦ inr (middle_else y z (λ is. absurd (not is)))
        | inl is ↦ elim (cases_eq z (hard_place_of m.setup.geometry q)) [
          | inr not ↦ inr (middle_else y z (λ same. not))
          | inl at ↦ inl (dirty_cell q lq (rw is low) (ap (zero_bits q) is ∙ sym (bits_are q x) ∙ bit) at)
        ]
      ]

      named : (e : ℕ) → named_out m.out ≡ Some e → None ≡ Some e
      named e is = let z : None ≡ Some e = sym (ap named_out no_out) ∙ is in z

      agree : AgreeSeen (view_with_out m None f) power middle
      agree = free_places_agree (view_with_out m None f) power middle in_range named only

      pub cleans_cell : HoldUnder m after
      cleans_cell = close_at m after None none
          (cells_marked slots power size m no_out (map_bit m.setup.geometry (middle 0)) middle h k
          (content_laid m power f middle in_range no_out agree slots size h k here)
          (map_bit m.setup.geometry (after 0)) after past mirrored
          (λ r d l now. let was = fewer r d l now in middle_bit r d l ∙ sym (bits_are r d) ∙ was)
          (λ r d lr ld was now.
          let at = one r d lr ld (bits_are r d ∙ sym (middle_bit r d (omega arith)) ∙ was) now in
          ap (λ (e : ℕ). middle d (hard_place_of m.setup.geometry e)) at.0 ∙ ap (λ (e : ℕ). middle e (hard_place_of m.setup.geometry q)) at.1
          ∙ middle_is ∙ stored ∙ value_is q x ∙ ap (λ (e : ℕ). value (view_with_out m None f) e x) (sym at.0) ∙ ap (value (view_with_out m None f) r) (sym at.1)
          ∙ sym (value_agrees m power f middle in_range no_out agree r d lr ld)))
        where
          past : (y z : ℕ) → map_start m.setup.geometry + map_count m.setup.geometry ≤ z → after y z ≡ middle y z
          past y z l = elim (cases_eq y x) [
            | inr not ↦ let apart : y ≡ x → z ≢ hard_place_of m.setup.geometry q = (λ is. absurd (not is)) in elsewhere y z l apart ∙ sym (middle_else y z apart)
            | inl is ↦ elim (cases_eq z (hard_place_of m.setup.geometry q)) [
              | inr not ↦ let apart : y ≡ x → z ≢ hard_place_of m.setup.geometry q = (λ same. not) in elsewhere y z l apart ∙ sym (middle_else y z apart)
              | inl at ↦ ap (after y) at ∙ ap (λ (e : ℕ). after e (hard_place_of m.setup.geometry q)) is ∙ sym middle_is
                  ∙ ap (λ (e : ℕ). middle e (hard_place_of m.setup.geometry q)) (sym is) ∙ ap (middle y) (sym at)
            ]
          ]

          middle_bit : (r d : ℕ) → r < 512 * map_count m.setup.geometry → map_bit m.setup.geometry (middle 0) r d ≡ zero_bits r d
          middle_bit r d l = map_bit_same m.setup.geometry (middle 0) (f 0) r d (middle_else 0 (map_place_of m.setup.geometry r) (λ is. λ at. absurd (omega arith)))
