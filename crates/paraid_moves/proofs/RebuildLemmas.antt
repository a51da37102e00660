-- What the marks of a rebuild leave.
use Rattle.paraid_image.specs.Mark.{meta_after_loss}
use Rattle.std.specs.Prelude.{◌≡◌, ◌≢◌, ℕ, ◌*◌, ◌<◌, ◌≤◌, ◌==◌, nat_lt, Bool, true, false, List, Some, None, slice_index, if◌then◌else◌}
use Rattle.std.proofs.Common.{refl, sym, ◌∙◌, ap, subst, arith, inl, inr}
use Rattle.std.proofs.lemmas.Bool.{cases_Bool, cases_eq, cases_lt}
use Rattle.std.proofs.lemmas.Bool.Decides.{nat_tests}
use Rattle.paraid_base.specs.declared.block.Block.{Block}
use Rattle.paraid_base.specs.declared.geometry.Geometry.{Geometry}
use Rattle.paraid_base.specs.declared.state.Out.TheVariants.{No, Gone, Fresh}
use Rattle.paraid_base.specs.History.{History}
use Rattle.paraid_base.specs.Log.{map_block_place}
use Rattle.paraid_base.specs.Regions.{disk_size, hard_place_of, map_count}
use Rattle.paraid_base.specs.Soft.{soft_disk, soft_stripe, stripe_count}
use Rattle.paraid_base.specs.Sums.{without, xor_upto}
use Rattle.paraid_base.specs.Xor.{xor, zero_block}
use Rattle.paraid_base.proofs.SoftLemmas.{soft_disk_below, soft_stripe_below}
use Rattle.paraid_base.proofs.SumsLemmas.{whole_from_others}
use Rattle.paraid_base.proofs.XorLemmas.{xor_self}
use Rattle.paraid_rack.specs.declared.call.Power.{Power}
use Rattle.paraid_rack.specs.declared.call.Power.TheVariants.{Spinning, Parked}
use Rattle.paraid_rack.specs.Disks.{is_present}
use Rattle.paraid_record.specs.declared.meta.Meta.{Meta}
use Rattle.paraid_record.specs.Range.{IsInRange, rebuild_units}
use Rattle.paraid_image.specs.Out.{is_out}
use Rattle.paraid_image.specs.Sound.{AreRebuilt, ContentOk, IsFresh, IsStripeZero}
use Rattle.paraid_image.specs.Spot.{View, is_hard}
use Rattle.paraid_image.specs.Standing.{Contents, other_log}
use Rattle.paraid_image.specs.Value.{soft_value, stored_value, stripe, stripe_rest, value}
use Rattle.paraid_moves.specs.MoveMetas.{meta_with_out}
use Rattle.paraid_base.proofs.StatesLemmas.{rising_to-beside, up_before}
use Rattle.paraid_moves.proofs.ValuesLemmas.{above_soft, blocks_carried, clean_hard, hard_spot_at, rows_carried, soft_spot_at, value_hard, value_kept, value_soft}

out_here : (d e : ℕ) → e ≡ d → (e == d) ≡ true
out_here d e is = grind (arith, nat_tests)

out_away : (d e : ℕ) → e ≢ d → (e == d) ≡ false
out_away d e apart = grind (arith, nat_tests)

other_some : (d e : ℕ) → e ≢ d → Some d ≢ Some e
other_some d e apart is = let same : d ≡ e = cc in apart (sym same)

-- a stripe of which one member is the XOR of the others sums to zero
rest_zero : (f : ℕ → Block) (i n : ℕ) → i < n → f i ≡ xor_upto (without f i) n → xor_upto f n ≡ zero_block
rest_zero f i n l is = whole_from_others f i n l ∙ ap (λ (b : Block). xor b (f i)) (sym is) ∙ xor_self (f i)

count_below : (d a count : ℕ) → d < a → (if nat_lt d a then count else 0) ≡ count
count_below d a count l = let t : nat_lt d a ≡ true = grind (arith, nat_tests) in rw t refl

-- In a view with disk `d` out
module _ (slots : ℕ) (power : ℕ → Power) (size : ℕ → ℕ) (m : Meta) (d : ℕ) (dirty : ℕ → ℕ → Bool) (block : Contents) (h : History) (k : ℕ) where
  abbrev pub v : View
  v = record { meta = m; dirty = dirty; out = Some d; block = block }

  abbrev g : Geometry
  g = m.setup.geometry

  module _ (ok : ContentOk slots power size v h k) where
    -- It is marked as gone, whatever it was marked before.
    module _ (spins : List ℕ) (others : (e : ℕ) → e ≢ d → slice_index spins e ≡ slice_index m.spins e) where
      abbrev gone : Meta
      gone = record (meta_after_loss m d) { spins = spins }

      abbrev w : View
      w = record v { meta = gone }

      gone_fresh : (e u : ℕ) → IsFresh power gone e u → ⊥
      gone_fresh e u fresh = let z : Gone d ≡ Fresh e u = fresh.is in cc

      gone_hard : (r e : ℕ) → r < g.rows → is_hard w r e ≡ is_hard v r e
      unfolding is_hard
      gone_hard r e l = rw (rising_to-beside m.phase) refl

      gone_same : (r e : ℕ) → r < g.rows → e < g.disks → value w r e ≡ value v r e
      gone_same r e lr le = value_kept m gone dirty dirty (Some d) block gone_hard r e lr

      pub disk_marked_out : ContentOk slots power size w h k
      disk_marked_out = record {
        kept = record {
          rows = rows_carried m gone dirty dirty (Some d) (Some d) block block gone_same ok.kept.rows;
          stripes = ok.kept.stripes;
          filled = λ none s l. let z : Some d ≡ None = none in cc;
          clean = λ r e lr low le there clean. ok.kept.clean r e lr low le there clean ∙ sym (gone_same r e lr le);
          rebuilt = λ e u fresh. absurd (gone_fresh e u fresh);
          map = record { mirrored = ok.kept.map.mirrored; rows = ok.kept.map.rows; parked = ok.kept.map.parked; disks = ok.kept.map.disks };
          disks = record {
            enough = ok.kept.disks.enough;
            log_disks = ok.kept.disks.log_disks;
            large = ok.kept.disks.large;
            fresh_large = λ e u fresh. absurd (gone_fresh e u fresh);
            below_gear = ok.kept.disks.below_gear;
            fresh_spins = λ e u fresh. absurd (gone_fresh e u fresh);
            recorded = λ to e is low high parked there.
                let away : e ≢ d = (λ same. there (ap Some (sym same))) in
                let was = ok.kept.disks.recorded to e (up_before m.phase to is) low high parked there in
                rw (others e away) was;
          };
        };
        blocks = blocks_carried m gone dirty dirty (Some d) (Some d) block block h k gone_same ok.blocks;
      }

    -- So many of its units are marked as rebuilt.
    module _ (units : ℕ) (rebuilt : is_present (power d) ≡ true → AreRebuilt v d units)
        (large : is_present (power d) ≡ true → disk_size g ≤ size d) (spins : is_present (power d) ≡ true → power d ≡ Spinning) where
      abbrev fresh : Meta
      fresh = meta_with_out m (Fresh d units)

      abbrev f : View
      f = record v { meta = fresh }

      fresh_is : (e u : ℕ) → IsFresh power fresh e u → (d ≡ e) × (units ≡ u)
      fresh_is e u is = let z : Fresh d units ≡ Fresh e u = is.is in (cc, cc)

      fresh_there : (e u : ℕ) → IsFresh power fresh e u → is_present (power d) ≡ true
      fresh_there e u is = ap (λ (x : ℕ). is_present (power x)) (fresh_is e u is).0 ∙ is.present

      fresh_hard : (r e : ℕ) → r < g.rows → is_hard f r e ≡ is_hard v r e
      unfolding is_hard
      fresh_hard r e l = refl

      fresh_same : (r e : ℕ) → r < g.rows → e < g.disks → value f r e ≡ value v r e
      fresh_same r e lr le = value_kept m fresh dirty dirty (Some d) block fresh_hard r e lr

      rebuilt_same : d < g.disks → AreRebuilt v d units → AreRebuilt f d units
      rebuilt_same ld was = record {
        rows = λ r lr lu clean. was.rows r lr lu clean ∙ sym (fresh_same r d lr ld);
        stripes = was.stripes;
        map_blocks = was.map_blocks;
      }

      pub units_marked : d < g.disks → ContentOk slots power size f h k
      units_marked ld = record {
        kept = record {
          rows = rows_carried m fresh dirty dirty (Some d) (Some d) block block fresh_same ok.kept.rows;
          stripes = ok.kept.stripes;
          filled = λ none s l. let z : Some d ≡ None = none in cc;
          clean = λ r e lr low le there clean. ok.kept.clean r e lr low le there clean ∙ sym (fresh_same r e lr le);
          rebuilt = λ e u is.
              let same = fresh_is e u is in
              subst (λ (x : ℕ). AreRebuilt f x u) same.0
              (subst (λ (x : ℕ). AreRebuilt f d x) same.1 (rebuilt_same ld (rebuilt (fresh_there e u is))));
          map = record { mirrored = ok.kept.map.mirrored; rows = ok.kept.map.rows; parked = ok.kept.map.parked; disks = ok.kept.map.disks };
          disks = record {
            enough = ok.kept.disks.enough;
            log_disks = ok.kept.disks.log_disks;
            large = ok.kept.disks.large;
            fresh_large = λ e u is. let was = large (fresh_there e u is) in rw (sym (fresh_is e u is).0) was;
            below_gear = ok.kept.disks.below_gear;
            fresh_spins = λ e u is. rw (sym (fresh_is e u is).0) (spins (fresh_there e u is));
            recorded = ok.kept.disks.recorded;
          };
        };
        blocks = blocks_carried m fresh dirty dirty (Some d) (Some d) block block h k fresh_same ok.blocks;
      }

    -- It is in the array again.
    module _ (in_range : IsInRange m) (ld : d < g.disks) (empty : m.fill ≡ 0) (rebuilt : AreRebuilt v d (rebuild_units g m.gear d))
        (large : disk_size g ≤ size d) (spins : power d ≡ Spinning) (dirty_after : ℕ → ℕ → Bool)
        (same_dirty : (r e : ℕ) → r < 512 * map_count g → dirty_after r e ≡ dirty r e) where
      abbrev joined : Meta
      joined = meta_with_out m No

      abbrev j : View
      j = record { meta = joined; dirty = dirty_after; out = None; block = block }

      row_dirty : (r e : ℕ) → r < g.rows → dirty_after r e ≡ dirty r e
      row_dirty r e l = same_dirty r e (omega arith)

      join_hard : (r e : ℕ) → r < g.rows → is_hard j r e ≡ is_hard v r e
      unfolding is_hard
      join_hard r e l = rw (row_dirty r e l) refl

      -- what a row of the disk stores
      row_stored : (r : ℕ) → r < g.rows → (m.gear ≤ d → dirty r d ≡ false) → block d (hard_place_of g r) ≡ value v r d
      row_stored r l clean = rebuilt.rows r l (omega arith) clean

      stripe_stored : (s : ℕ) → d < m.gear → s < stripe_count g.disks g.rows m.gear
          → stripe g block m.gear s d ≡ stripe_rest g block m.gear s d
      stripe_stored s l ls =
          let count = count_below d m.gear (stripe_count g.disks g.rows m.gear) l in
          rebuilt.stripes s (rw count ls) (rw count (omega arith))

      hard_value : (r e : ℕ) → r < g.rows → is_hard v r e ≡ true → block e (hard_place_of g r) ≡ value v r e
      hard_value r e lr hard = elim (cases_eq e d) [
        | inl is ↦
            let clean : m.gear ≤ d → dirty r d ≡ false = (λ low. elim (clean_hard v r d (ap (is_hard v r) (sym is) ∙ hard)) [
              | inl below ↦ absurd (omega arith)
              | inr bit ↦ bit.1
            ]) in
            ap (λ (x : ℕ). block x (hard_place_of g r)) is ∙ row_stored r lr clean ∙ ap (value v r) (sym is)
        | inr apart ↦ sym (hard_spot_at v r e hard (out_away d e apart))
      ]

      rest_value : (r e : ℕ) → is_hard v r e ≡ false → is_out (Some d) (soft_disk g.disks m.gear r e) ≡ true
          → value v r e ≡ stripe_rest g block m.gear (soft_stripe g.disks m.gear r e) (soft_disk g.disks m.gear r e)
      unfolding value stored_value soft_value
      rest_value r e soft here = rw (soft, here) refl

      copy_value : (r e : ℕ) → r < g.rows → e < g.disks → is_hard v r e ≡ false
          → stripe g block m.gear (soft_stripe g.disks m.gear r e) (soft_disk g.disks m.gear r e) ≡ value v r e
      copy_value r e lr le soft =
          let s = soft_stripe g.disks m.gear r e in
          let x = soft_disk g.disks m.gear r e in
          let low = g.gears_low m.gear in_range.gear in
          let above = above_soft v r e soft in
          let ls = soft_stripe_below g.disks m.gear r e g.rows (omega arith) above le lr in
          let lx = soft_disk_below g.disks m.gear r e low in
          elim (cases_eq x d) [
            | inl is ↦
                ap (stripe g block m.gear s) is ∙ stripe_stored s (omega arith) ls ∙ ap (stripe_rest g block m.gear s) (sym is)
                ∙ sym (rest_value r e soft (out_here d x is))
            | inr apart ↦ sym (soft_spot_at v r e soft (out_away d x apart))
          ]

      join_same : (r e : ℕ) → r < g.rows → e < g.disks → value j r e ≡ value v r e
      join_same r e lr le = elim (cases_Bool (is_hard j r e)) [
        | inl hard ↦ value_hard j r e refl hard ∙ hard_value r e lr (sym (join_hard r e lr) ∙ hard)
        | inr soft ↦ value_soft j r e refl soft ∙ copy_value r e lr le (sym (join_hard r e lr) ∙ soft)
      ]

      join_stripe : (s : ℕ) → s < stripe_count g.disks g.rows m.gear → IsStripeZero v m.gear s
      join_stripe s l = elim (cases_lt d m.gear) [
        | inl below ↦ rest_zero (stripe g block m.gear s) d m.gear below (stripe_stored s below l)
        | inr above ↦ ok.kept.stripes (λ e is. let same : d ≡ e = cc in omega arith) s l
      ]

      map_stored : (x : ℕ) → d < 2 → x < map_count g → block d (map_block_place g x) ≡ block (other_log d) (map_block_place g x)
      map_stored x low l = rebuilt.map_blocks x low l (rw (count_below d 2 (map_count g) low) (omega arith))

      join_mirrored : (x : ℕ) → x < map_count g → block 0 (map_block_place g x) ≡ block 1 (map_block_place g x)
      join_mirrored x l = elim (cases_eq d 0) [
        | inl first ↦
            ap (λ (y : ℕ). block y (map_block_place g x)) (sym first) ∙ map_stored x (omega arith) l ∙ ap (λ (y : ℕ). block (other_log y) (map_block_place g x)) first
        | inr not_first ↦ elim (cases_eq d 1) [
          | inl second ↦ sym (ap (λ (y : ℕ). block y (map_block_place g x)) (sym second) ∙ map_stored x (omega arith) l ∙ ap (λ (y : ℕ). block (other_log y) (map_block_place g x)) second)
          | inr not_second ↦ ok.kept.map.mirrored x l (other_some d 0 (λ e. not_first (sym e))) (other_some d 1 (λ e. not_second (sym e)))
        ]
      ]

      join_fresh : (e u : ℕ) → IsFresh power joined e u → ⊥
      join_fresh e u fresh = let z : No ≡ Fresh e u = fresh.is in cc

      pub disk_joined : ContentOk slots power size j h k
      disk_joined = record {
        kept = record {
          rows = rows_carried m joined dirty dirty_after (Some d) None block block join_same ok.kept.rows;
          stripes = λ off s l. join_stripe s l;
          filled = λ none s l. absurd (omega arith);
          clean = λ r e lr low le there clean.
              let bit = sym (row_dirty r e lr) ∙ clean in
              elim (cases_eq e d) [
                | inl is ↦ ap (λ (x : ℕ). block x (hard_place_of g r)) is ∙ row_stored r lr (λ l. ap (dirty r) (sym is) ∙ bit) ∙ ap (value v r) (sym is)
                | inr apart ↦ ok.kept.clean r e lr low le (other_some d e apart) bit
              ] ∙ sym (join_same r e lr le);
          rebuilt = λ e u fresh. absurd (join_fresh e u fresh);
          map = record {
            mirrored = λ x l first second. join_mirrored x l;
            rows = λ r e l bit. ok.kept.map.rows r e l (sym (same_dirty r e l) ∙ bit);
            parked = λ r e l bit. ok.kept.map.parked r e l (sym (same_dirty r e l) ∙ bit);
            disks = λ r e l bit. ok.kept.map.disks r e l (sym (same_dirty r e l) ∙ bit);
          };
          disks = record {
            enough = ok.kept.disks.enough;
            log_disks = ok.kept.disks.log_disks;
            large = λ e l present there. elim (cases_eq e d) [
              | inl is ↦ rw is large
              | inr apart ↦ ok.kept.disks.large e l present (other_some d e apart)
            ];
            fresh_large = λ e u fresh. absurd (join_fresh e u fresh);
            below_gear = λ e l there. elim (cases_eq e d) [
              | inl is ↦ ap power is ∙ spins
              | inr apart ↦ ok.kept.disks.below_gear e l (other_some d e apart)
            ];
            fresh_spins = λ e u fresh. absurd (join_fresh e u fresh);
            recorded = λ to e is low high parked there. elim (cases_eq e d) [
              | inl same ↦ let z : Parked ≡ Spinning = sym parked ∙ ap power same ∙ spins in cc
              | inr apart ↦ ok.kept.disks.recorded to e is low high parked (other_some d e apart)
            ];
          };
        };
        blocks = blocks_carried m joined dirty dirty_after (Some d) None block block h k join_same ok.blocks;
      }
