-- What the marks of a shift leave.
use Rattle.std.specs.Prelude.{◌≡◌, ℕ, ◌+◌, ◌*◌, ◌<◌, ◌≤◌, Bool, true, false, List, None, slice_index}
use Rattle.std.proofs.Common.{refl, sym, ◌∙◌, ap, subst, arith, inl, inr}
use Rattle.std.proofs.lemmas.Bool.{cases_Bool, cases_lt, false≢true}
use Rattle.paraid_base.specs.declared.geometry.Geometry.{Geometry}
use Rattle.paraid_base.specs.declared.state.Out.TheVariants.{No, Fresh}
use Rattle.paraid_base.specs.declared.state.Phase.TheVariants.{Steady, Down, Up}
use Rattle.paraid_base.specs.History.{History}
use Rattle.paraid_base.specs.Log.{map_block_place, map_start}
use Rattle.paraid_base.specs.Regions.{hard_place_of, map_count, soft_place_of}
use Rattle.paraid_base.specs.Skips.{skip}
use Rattle.paraid_base.specs.Soft.{soft_disk, soft_parity_disk, soft_stripe, stripe_count}
use Rattle.paraid_base.proofs.SoftLemmas.{soft_stripe_below}
use Rattle.paraid_base.proofs.SumsLemmas.{xor_upto_same}
use Rattle.paraid_rack.specs.declared.call.Power.{Power}
use Rattle.paraid_rack.specs.declared.call.Power.TheVariants.{Spinning, Parked}
use Rattle.paraid_record.specs.declared.meta.Meta.{Meta}
use Rattle.paraid_record.specs.Codes.{phase_to}
use Rattle.paraid_image.specs.Sound.{ContentOk, IsFilled, IsFresh, IsStripeZero}
use Rattle.paraid_image.specs.Spot.{View, is_hard, rising_to}
use Rattle.paraid_image.specs.Standing.{Contents}
use Rattle.paraid_image.specs.Value.{stripe, value}
use Rattle.paraid_moves.specs.MoveMetas.{AreStripesCopied, meta_after_begin, filled_to, meta_flipped_to}
use Rattle.paraid_moves.proofs.ValuesLemmas.{above_soft, blocks_carried, clean_hard, dirty_soft, hard_below, hard_clean, rows_carried, soft_above, soft_dirty, value_hard, value_kept, value_soft}

pub not_fresh : (power : ℕ → Power) (m : Meta) (d rebuilt : ℕ) → m.out ≡ No → IsFresh power m d rebuilt → ⊥
not_fresh power m d rebuilt none fresh = let k : No ≡ Fresh d rebuilt = sym none ∙ fresh.is in cc

-- In a view with no disk out
module _ (slots : ℕ) (power : ℕ → Power) (size : ℕ → ℕ) (m : Meta) (all_in : m.out ≡ No) (dirty : ℕ → ℕ → Bool) (block : Contents) (h : History) (k : ℕ) where
  abbrev pub v : View
  v = record { meta = m; dirty = dirty; out = None; block = block }

  abbrev g : Geometry
  g = m.setup.geometry

  module _ (ok : ContentOk slots power size v h k) where
    -- A shift down begins.
    module _ (to : ℕ) (steady : m.phase ≡ Steady) where
      abbrev down : Meta
      down = meta_after_begin m (Down to) m.spins

      abbrev w : View
      w = record v { meta = down }

      down_hard : (r d : ℕ) → r < g.rows → is_hard w r d ≡ is_hard v r d
      unfolding is_hard
      down_hard r d l = rw steady refl

      down_same : (r d : ℕ) → r < g.rows → d < g.disks → value w r d ≡ value v r d
      down_same r d lr ld = value_kept m down dirty dirty None block down_hard r d lr

      pub down_begun : ContentOk slots power size w h k
      down_begun = record {
        kept = record {
          rows = rows_carried m down dirty dirty None None block block down_same ok.kept.rows;
          stripes = ok.kept.stripes;
          filled = λ none s l. absurd (omega arith);
          clean = λ r d lr low ld there clean. ok.kept.clean r d lr low ld there clean ∙ sym (down_same r d lr ld);
          rebuilt = λ d u fresh. absurd (not_fresh power down d u all_in fresh);
          map = record { mirrored = ok.kept.map.mirrored; rows = ok.kept.map.rows; parked = ok.kept.map.parked; disks = ok.kept.map.disks };
          disks = record {
            enough = ok.kept.disks.enough;
            log_disks = ok.kept.disks.log_disks;
            large = ok.kept.disks.large;
            fresh_large = λ d u fresh. absurd (not_fresh power down d u all_in fresh);
            below_gear = ok.kept.disks.below_gear;
            fresh_spins = λ d u fresh. absurd (not_fresh power down d u all_in fresh);
            recorded = λ up d is. let z : Down to ≡ Up up = is in cc;
          };
        };
        blocks = blocks_carried m down dirty dirty None None block block h k down_same ok.blocks;
      }

    -- A shift up begins, with a spin-up recorded for each disk that is to be spun up.
    module _ (to : ℕ) (spins : List ℕ) (steady : m.phase ≡ Steady)
        (recorded : (d : ℕ) → m.gear ≤ d → d < to → power d ≡ Parked → 1 ≤ slice_index spins d) where
      abbrev up : Meta
      up = meta_after_begin m (Up to) spins

      abbrev u : View
      u = record v { meta = up }

      old_rising : rising_to m.phase ≡ 0
      old_rising = ap rising_to steady

      up_same : (r d : ℕ) → r < g.rows → d < g.disks → value u r d ≡ value v r d
      up_same r d lr ld = elim (cases_Bool (is_hard u r d)) [
        | inl hard ↦ value_hard u r d refl hard ∙ elim (cases_lt d m.gear) [
          | inl below ↦ sym (value_hard v r d refl (hard_below v r d below))
          | inr low ↦ elim (clean_hard u r d hard) [
            | inl below ↦ absurd (omega arith)
            | inr clean ↦ ok.kept.clean r d lr low ld (λ e. cc) clean.1
          ]
        ]
        | inr soft ↦
            let low = above_soft u r d soft in
            value_soft u r d refl soft ∙ sym (value_soft v r d refl (soft_above v r d low (rw old_rising (omega arith))))
      ]

      pub up_begun : ContentOk slots power size u h k
      up_begun = record {
        kept = record {
          rows = rows_carried m up dirty dirty None None block block up_same ok.kept.rows;
          stripes = ok.kept.stripes;
          filled = λ none s l. absurd (omega arith);
          clean = λ r d lr low ld there clean. ok.kept.clean r d lr low ld there clean ∙ sym (up_same r d lr ld);
          rebuilt = λ d x fresh. absurd (not_fresh power up d x all_in fresh);
          map = record { mirrored = ok.kept.map.mirrored; rows = ok.kept.map.rows; parked = ok.kept.map.parked; disks = ok.kept.map.disks };
          disks = record {
            enough = ok.kept.disks.enough;
            log_disks = ok.kept.disks.log_disks;
            large = ok.kept.disks.large;
            fresh_large = λ d x fresh. absurd (not_fresh power up d x all_in fresh);
            below_gear = ok.kept.disks.below_gear;
            fresh_spins = λ d x fresh. absurd (not_fresh power up d x all_in fresh);
            recorded = λ high d is low l parked there.
                let z : Up to ≡ Up high = is in
                let same : to ≡ high = cc in
                recorded d low (omega arith) parked;
          };
        };
        blocks = blocks_carried m up dirty dirty None None block block h k up_same ok.blocks;
      }

    -- More stripes of the new gear are filled.
    module _ (end : ℕ) (copied : AreStripesCopied v end) where
      abbrev more : Meta
      more = filled_to m end

      abbrev f : View
      f = record v { meta = more }

      fill_hard : (r d : ℕ) → r < g.rows → is_hard f r d ≡ is_hard v r d
      unfolding is_hard
      fill_hard r d l = refl

      fill_same : (r d : ℕ) → r < g.rows → d < g.disks → value f r d ≡ value v r d
      fill_same r d lr ld = value_kept m more dirty dirty None block fill_hard r d lr

      is_filled : (s : ℕ) → IsFilled v (phase_to m.phase) s → IsFilled f (phase_to m.phase) s
      is_filled s was = record {
        cells = λ r d lr low ld is. was.cells r d lr low ld is ∙ sym (fill_same r d lr ld);
        pads = was.pads;
        zero = was.zero;
      }

      pub stripes_marked : ContentOk slots power size f h k
      stripes_marked = record {
        kept = record {
          rows = rows_carried m more dirty dirty None None block block fill_same ok.kept.rows;
          stripes = ok.kept.stripes;
          filled = λ none s l. elim (cases_lt s m.fill) [
            | inl low ↦ is_filled s (ok.kept.filled none s low)
            | inr high ↦ is_filled s (copied s high l)
          ];
          clean = λ r d lr low ld there clean. ok.kept.clean r d lr low ld there clean ∙ sym (fill_same r d lr ld);
          rebuilt = λ d x fresh. absurd (not_fresh power more d x all_in fresh);
          map = record { mirrored = ok.kept.map.mirrored; rows = ok.kept.map.rows; parked = ok.kept.map.parked; disks = ok.kept.map.disks };
          disks = record {
            enough = ok.kept.disks.enough;
            log_disks = ok.kept.disks.log_disks;
            large = ok.kept.disks.large;
            fresh_large = λ d x fresh. absurd (not_fresh power more d x all_in fresh);
            below_gear = ok.kept.disks.below_gear;
            fresh_spins = λ d x fresh. absurd (not_fresh power more d x all_in fresh);
            recorded = ok.kept.disks.recorded;
          };
        };
        blocks = blocks_carried m more dirty dirty None None block block h k fill_same ok.blocks;
      }

    -- The shift to gear `to` ends: all its stripes are filled, and no cell is left that is dirty on
    -- a disk below the new gear.
    module _ (to : ℕ) (low_gear : 2 ≤ to) (high_gear : to ≤ g.disks) (is_to : phase_to m.phase ≡ to)
        (all_filled : m.fill ≡ stripe_count g.disks g.rows to)
        (none_dirty : (r d : ℕ) → r < g.rows → m.gear ≤ d → d < to → dirty r d ≡ false)
        (rising : m.gear < to → rising_to m.phase ≡ to)
        (spinning : (d : ℕ) → d < to → power d ≡ Spinning) where
      abbrev ended : Meta
      ended = meta_flipped_to m to

      abbrev e : View
      e = record v { meta = ended }

      stripe_filled : (s : ℕ) → s < stripe_count g.disks g.rows to → IsFilled v to s
      stripe_filled s l = subst (λ (a : ℕ). IsFilled v a s) is_to (ok.kept.filled refl s (omega arith))

      was_hard : (r d : ℕ) → r < g.rows → d < to → is_hard v r d ≡ true
      was_hard r d lr l = elim (cases_lt d m.gear) [
        | inl below ↦ hard_below v r d below
        | inr low ↦
            let clean = none_dirty r d lr low l in
            let rises = rising (omega arith) in
            hard_clean v r d (rw rises l) clean
      ]

      flip_same : (r d : ℕ) → r < g.rows → d < g.disks → value e r d ≡ value v r d
      flip_same r d lr ld = elim (cases_lt d to) [
        | inl l ↦ value_hard e r d refl (hard_below e r d l) ∙ sym (value_hard v r d refl (was_hard r d lr l))
        | inr low ↦
            let here = soft_stripe_below g.disks to r d g.rows low_gear low ld lr in
            value_soft e r d refl (soft_above e r d low (omega arith))
            ∙ (stripe_filled (soft_stripe g.disks to r d) here).cells r d lr low ld refl
      ]

      -- a cell of a disk from the new gear on that is clean
      clean_now : (r d : ℕ) → r < g.rows → d < g.disks → to ≤ d → dirty r d ≡ false → block d (hard_place_of g r) ≡ value v r d
      clean_now r d lr ld low clean = elim (cases_lt d m.gear) [
        | inl below ↦ sym (value_hard v r d refl (hard_below v r d below))
        | inr above ↦ ok.kept.clean r d lr above ld (λ x. cc) clean
      ]

      parked_now : (r d : ℕ) → r < 512 * map_count g → dirty r d ≡ true → to ≤ d
      parked_now r d l bit = elim (cases_lt d to) [
        | inl below ↦ absurd (false≢true (sym (none_dirty r d (ok.kept.map.rows r d l bit) (ok.kept.map.parked r d l bit) below) ∙ bit))
        | inr above ↦ above
      ]

      pub shift_ended : ContentOk slots power size e h k
      shift_ended = record {
        kept = record {
          rows = rows_carried m ended dirty dirty None None block block flip_same ok.kept.rows;
          stripes = λ off s l. (stripe_filled s l).zero;
          filled = λ none s l. absurd (omega arith);
          clean = λ r d lr low ld there clean. clean_now r d lr ld low clean ∙ sym (flip_same r d lr ld);
          rebuilt = λ d x fresh. absurd (not_fresh power ended d x all_in fresh);
          map = record { mirrored = ok.kept.map.mirrored; rows = ok.kept.map.rows; parked = parked_now; disks = ok.kept.map.disks };
          disks = record {
            enough = ok.kept.disks.enough;
            log_disks = ok.kept.disks.log_disks;
            large = ok.kept.disks.large;
            fresh_large = λ d x fresh. absurd (not_fresh power ended d x all_in fresh);
            below_gear = λ d l there. spinning d l;
            fresh_spins = λ d x fresh. absurd (not_fresh power ended d x all_in fresh);
            recorded = λ up d is. let z : Steady ≡ Up up = is in cc;
          };
        };
        blocks = blocks_carried m ended dirty dirty None None block block h k flip_same ok.blocks;
      }

    -- Cells are marked clean, whose hard places store their values.
    module _ (dirty_after : ℕ → ℕ → Bool) (block_after : Contents)
        (past_map : (x q : ℕ) → map_start g + map_count g ≤ q → block_after x q ≡ block x q)
        (mirrored : (j : ℕ) → j < map_count g → block_after 0 (map_block_place g j) ≡ block_after 1 (map_block_place g j))
        (fewer : (r d : ℕ) → r < 512 * map_count g → dirty_after r d ≡ true → dirty r d ≡ true)
        (stored : (r d : ℕ) → r < g.rows → d < g.disks → dirty r d ≡ true → dirty_after r d ≡ false
        → block d (hard_place_of g r) ≡ value v r d) where
      abbrev c : View
      c = record v { dirty = dirty_after; block = block_after }

      hard_kept : (x r : ℕ) → block_after x (hard_place_of g r) ≡ block x (hard_place_of g r)
      hard_kept x r = past_map x (hard_place_of g r) (omega arith)

      soft_kept : (x a s : ℕ) → block_after x (soft_place_of g a s) ≡ block x (soft_place_of g a s)
      soft_kept x a s = past_map x (soft_place_of g a s) (omega arith)

      clean_stored : (r d : ℕ) → r < g.rows → m.gear ≤ d → d < g.disks → dirty_after r d ≡ false → block d (hard_place_of g r) ≡ value v r d
      clean_stored r d lr low ld clean = elim (cases_Bool (dirty r d)) [
        | inl was ↦ stored r d lr ld was clean
        | inr was ↦ ok.kept.clean r d lr low ld (λ x. cc) was
      ]

      row_fewer : (r d : ℕ) → r < g.rows → dirty_after r d ≡ true → dirty r d ≡ true
      row_fewer r d lr = fewer r d (omega arith)

      cells_same : (r d : ℕ) → r < g.rows → d < g.disks → value c r d ≡ value v r d
      cells_same r d lr ld = elim (cases_Bool (is_hard c r d)) [
        | inl hard ↦ value_hard c r d refl hard ∙ hard_kept d r ∙ elim (cases_lt d m.gear) [
          | inl below ↦ sym (value_hard v r d refl (hard_below v r d below))
          | inr low ↦ elim (clean_hard c r d hard) [
            | inl below ↦ absurd (omega arith)
            | inr clean ↦ clean_stored r d lr low ld clean.1
          ]
        ]
        | inr soft ↦
            let low = above_soft c r d soft in
            let was : is_hard v r d ≡ false = elim (dirty_soft c r d soft) [
              | inl high ↦ soft_above v r d low high
              | inr bit ↦ soft_dirty v r d low (row_fewer r d lr bit)
            ] in
            value_soft c r d refl soft ∙ soft_kept (soft_disk g.disks m.gear r d) m.gear (soft_stripe g.disks m.gear r d) ∙ sym (value_soft v r d refl was)
      ]

      stripe_kept : (a s : ℕ) → IsStripeZero v a s → IsStripeZero c a s
      stripe_kept a s zero = xor_upto_same (stripe g block_after a s) (stripe g block a s) a (λ x l. soft_kept x a s) ∙ zero

      pub cells_marked : ContentOk slots power size c h k
      cells_marked = record {
        kept = record {
          rows = rows_carried m m dirty dirty_after None None block block_after cells_same ok.kept.rows;
          stripes = λ off s l. stripe_kept m.gear s (ok.kept.stripes off s l);
          filled = λ none s l.
              let was = ok.kept.filled none s l in
              let a = phase_to m.phase in
              record {
                cells = λ r d lr low ld is. soft_kept (soft_disk g.disks a r d) a s ∙ was.cells r d lr low ld is ∙ sym (cells_same r d lr ld);
                pads = λ at la pad. soft_kept (skip (soft_parity_disk a s) at) a s ∙ was.pads at la pad;
                zero = stripe_kept a s was.zero;
              };
          clean = λ r d lr low ld there clean. hard_kept d r ∙ clean_stored r d lr low ld clean ∙ sym (cells_same r d lr ld);
          rebuilt = λ d x fresh. absurd (not_fresh power m d x all_in fresh);
          map = record {
            mirrored = λ j l first second. mirrored j l;
            rows = λ r d l bit. ok.kept.map.rows r d l (fewer r d l bit);
            parked = λ r d l bit. ok.kept.map.parked r d l (fewer r d l bit);
            disks = λ r d l bit. ok.kept.map.disks r d l (fewer r d l bit);
          };
          disks = ok.kept.disks;
        };
        blocks = blocks_carried m m dirty dirty_after None None block block_after h k cells_same ok.blocks;
      }
