-- Disks that store values are kept well, and these are the values that are read from them.
use Rattle.std.specs.Prelude.{◌≡◌, ◌≢◌, ℕ, ◌-◌, ◌<◌, ◌≤◌, ◌&&◌, ◌||◌, nat_lt, Bool, true, false, not, Some, None}
use Rattle.std.proofs.Common.{refl, sym, ◌∙◌, ap, arith, inl, inr}
use Rattle.std.proofs.lemmas.Bool.{cases_Bool, cases_lt, false≢true}
use Rattle.std.proofs.lemmas.Bool.Decides.{nat_tests}
use Rattle.paraid_base.specs.declared.block.Block.{Block}
use Rattle.paraid_base.specs.declared.geometry.Geometry.{Geometry}
use Rattle.paraid_base.specs.Regions.{hard_place_of}
use Rattle.paraid_base.specs.Skips.{skip}
use Rattle.paraid_base.specs.Soft.{soft_disk, soft_parity_disk, soft_stripe, stripe_count}
use Rattle.paraid_base.specs.Sums.{without, xor_upto}
use Rattle.paraid_base.specs.Xor.{zero_block}
use Rattle.paraid_base.proofs.SkipsLemmas.{skip_below}
use Rattle.paraid_base.proofs.SoftLemmas.{soft_disk_below, soft_stripe_below}
use Rattle.paraid_base.proofs.SumsLemmas.{lost_member, others_same, xor_upto_same}
use Rattle.paraid_image.specs.Sound.{IsWellKept, AreDisks, AreRebuilt, IsFilled, IsFresh}
use Rattle.paraid_plan.specs.WriteTargets.{soft_count, stripe_block_now}
use Rattle.paraid_plan.specs.StoredCells.{AreBits, StoresCells, hard_at}
use Rattle.paraid_plan.specs.StoredCells.IsUnitKept.{there, rebuilt}
use Rattle.paraid_plan.proofs.LiesLemmas.{fill_gear}
use Rattle.paraid_plan.proofs.OutsLemmas.{alone_by, only_out, out_not, out_some}
use Rattle.paraid_plan.proofs.StoredLemmas.{hard_is, stripe_gone, stripe_there, stripes_below}
use Rattle.paraid_rack.specs.declared.call.Power.{Power}
use Rattle.paraid_record.specs.Codes.{phase_to}
use Rattle.paraid_record.specs.Range.{IsInRange}
use Rattle.paraid_image.specs.Out.{is_out, named_out}
use Rattle.paraid_image.specs.Spot.{View, is_hard, rising_to}
use Rattle.paraid_image.specs.Standing.{other_log}
use Rattle.paraid_image.specs.Value.{reconstructed_value, soft_value, stored_value, stripe, value}
use Rattle.paraid_image.proofs.AgreeLemmas.{stripes_gear}
use Rattle.paraid_image.proofs.OutLemmas.{named_below}
use Rattle.paraid_image.proofs.ViewLemmas.{not_below}

-- a cell on its hard place is clean, but for those below the gear
hard_clean_by : (d a to : ℕ) (bit : Bool) → (nat_lt d a || (nat_lt d to && not bit)) ≡ true → a ≤ d → bit ≡ false
hard_clean_by d a to true h l = grind (arith, nat_tests)
hard_clean_by d a to false h l = refl

hard_clean : (v : View) (r d : ℕ) → is_hard v r d ≡ true → v.meta.gear ≤ d → v.dirty r d ≡ false
unfolding is_hard
hard_clean v r d h l = hard_clean_by d v.meta.gear (rising_to v.meta.phase) (v.dirty r d) h l

pub soft_parked : (v : View) (r d : ℕ) → is_hard v r d ≡ false → v.meta.gear ≤ d
unfolding is_hard
soft_parked v r d h = not_below d v.meta.gear _ h

near_hard : (v : View) (r d : ℕ) → is_hard v r d ≡ true → stored_value v r d ≡ v.block d (hard_place_of v.meta.setup.geometry r)
unfolding stored_value
near_hard v r d h = rw h refl

near_soft : (v : View) (r d : ℕ) → is_hard v r d ≡ false
    → stored_value v r d ≡ stripe_block_now v (soft_stripe v.meta.setup.geometry.disks v.meta.gear r d) (soft_disk v.meta.setup.geometry.disks v.meta.gear r d)
unfolding stored_value soft_value stripe_block_now
near_soft v r d h = rw h refl

value_near : (v : View) (r d : ℕ) → (is_hard v r d && is_out v.out d) ≡ false → value v r d ≡ stored_value v r d
unfolding value
value_near v r d h = rw h refl

value_far : (v : View) (r d : ℕ) → is_hard v r d ≡ true → is_out v.out d ≡ true → value v r d ≡ xor_upto (without (stored_value v r) d) v.meta.setup.geometry.disks
unfolding value reconstructed_value
value_far v r d h o = rw (h, o) refl

module _ (power : ℕ → Power) (v : View) (val : ℕ → ℕ → Block) (map : ℕ → Block) (in_range : IsInRange v.meta)
    (st : StoresCells power v.meta v.out v.block v.dirty val map) where
  abbrev g : Geometry
  g = v.meta.setup.geometry

  -- a block of a stripe, from the others where its disk is out
  pub stripe_block_is : (s e : ℕ) → s < soft_count v.meta → e < v.meta.gear → stripe_block_now v s e ≡ st.soft s e
  stripe_block_is s e ls le = elim (cases_Bool (is_out v.out e)) [
    | inl is ↦
        let o = out_some v.out e is in
        stripe_gone v s e o
        ∙ others_same (stripe g v.block v.meta.gear s) (st.soft s) e v.meta.gear (λ y ly apart. st.lies.soft_blocks s y ls ly (there (only_out v.out e y o apart)))
        ∙ sym (lost_member (st.soft s) e v.meta.gear le (st.copies.sums s ls))
    | inr not_it ↦ let apart = out_not v.out e not_it in stripe_there v s e apart ∙ st.lies.soft_blocks s e ls le (there apart)
  ]

  soft_is : (r d : ℕ) → r < g.rows → d < g.disks → is_hard v r d ≡ false
      → stripe_block_now v (soft_stripe g.disks v.meta.gear r d) (soft_disk g.disks v.meta.gear r d) ≡ val r d
  soft_is r d lr ld h =
      let low = g.gears_low v.meta.gear in_range.gear in
      let parked = soft_parked v r d h in
      let ls = soft_stripe_below g.disks v.meta.gear r d g.rows (omega arith) parked ld lr in
      let here : not (hard_at v.meta (v.dirty r d) d) ≡ true = ap not (sym (hard_is v r d) ∙ h) in
      stripe_block_is (soft_stripe g.disks v.meta.gear r d) (soft_disk g.disks v.meta.gear r d) ls (soft_disk_below g.disks v.meta.gear r d low)
      ∙ st.copies.cells r d lr parked ld ls here

  module _ (zero_rows : (r : ℕ) → r < g.rows → xor_upto (val r) g.disks ≡ zero_block) (bits : AreBits v.meta v.dirty) where
    low_clean : (r d : ℕ) → r < g.rows → d < v.meta.gear → v.dirty r d ≡ false
    low_clean r d lr ld = elim (cases_Bool (v.dirty r d)) [
      | inl is ↦ let parked = bits.parked r d (omega arith) is in absurd (omega arith)
      | inr clean ↦ clean
    ]

    clean_of_hard : (r d : ℕ) → r < g.rows → is_hard v r d ≡ true → v.dirty r d ≡ false
    clean_of_hard r d lr h = elim (cases_lt d v.meta.gear) [
      | inl below ↦ low_clean r d lr below
      | inr above ↦ hard_clean v r d h above
    ]

    near_is : (r d : ℕ) → r < g.rows → d < g.disks → (is_hard v r d ≡ true → v.out ≢ Some d) → stored_value v r d ≡ val r d
    near_is r d lr ld apart = elim (cases_Bool (is_hard v r d)) [
      | inl h ↦ near_hard v r d h ∙ st.lies.hard_blocks r d lr ld (there (apart h)) ∙ st.clean r d lr ld (clean_of_hard r d lr h)
      | inr h ↦ near_soft v r d h ∙ soft_is r d lr ld h
    ]

    pub value_is : (r d : ℕ) → r < g.rows → d < g.disks → value v r d ≡ val r d
    value_is r d lr ld = elim (cases_Bool (is_hard v r d)) [
      | inl h ↦ elim (cases_Bool (is_out v.out d)) [
        | inl is ↦
            value_far v r d h is
            ∙ others_same (stored_value v r) (val r) d g.disks (λ e le apart. near_is r e lr le (λ _. only_out v.out d e (out_some v.out d is) apart))
            ∙ sym (lost_member (val r) d g.disks ld (zero_rows r lr))
        | inr not_it ↦ value_near v r d (rw (h, not_it) refl) ∙ near_is r d lr ld (λ _. out_not v.out d not_it)
      ]
      | inr h ↦ value_near v r d (rw h refl) ∙ near_is r d lr ld (λ is. absurd (false≢true (sym h ∙ is)))
    ]

    module _ (slots : ℕ) (size : ℕ → ℕ) (named : v.out ≡ named_out v.meta.out) (disks : AreDisks slots power size v.meta v.out) where
      alone : (s : ℕ) → s < v.meta.fill → v.out ≡ None
      alone s l = named ∙ alone_by v.meta.out v.meta.fill s in_range.shift.still l

      filled_is : (s : ℕ) → s < v.meta.fill → IsFilled v (phase_to v.meta.phase) s
      filled_is s ls = let gear = fill_gear v.meta s in_range ls in let three = g.gears_low (phase_to v.meta.phase) gear.is_gear in record {
        cells = λ r d lr low ld is.
            st.lies.filled_blocks s (soft_disk g.disks (phase_to v.meta.phase) r d) ls (soft_disk_below g.disks (phase_to v.meta.phase) r d three)
            ∙ ap (λ (t : ℕ). st.filled t (soft_disk g.disks (phase_to v.meta.phase) r d)) (sym is)
            ∙ st.fills.cells r d lr low ld (omega arith) refl ∙ sym (value_is r d lr ld);
        pads = λ at la pad. st.lies.filled_blocks s (skip (soft_parity_disk (phase_to v.meta.phase) s) at) ls
            (let k = skip_below (soft_parity_disk (phase_to v.meta.phase) s) at (phase_to v.meta.phase - 1) la in omega arith) ∙ st.pads.zeros s at ls la pad;
        zero = xor_upto_same (stripe g v.block (phase_to v.meta.phase) s) (st.filled s) (phase_to v.meta.phase) (λ e le. st.lies.filled_blocks s e ls le)
            ∙ st.fills.sums s ls;
      }

      all_clean : (r d : ℕ) → r < g.rows → (v.meta.gear ≤ d → v.dirty r d ≡ false) → v.dirty r d ≡ false
      all_clean r d lr clean = elim (cases_lt d v.meta.gear) [
        | inl below ↦ low_clean r d lr below
        | inr above ↦ clean above
      ]

      rebuilt_is : (d count : ℕ) → IsFresh power v.meta d count → AreRebuilt v d count
      rebuilt_is d count fresh =
          let is_named : named_out v.meta.out ≡ Some d = ap named_out fresh.is in
          let ld = named_below g v.meta.gear v.meta.out d in_range.out is_named in
          let o : v.out ≡ Some d = named ∙ is_named in
          let gear_low = g.gears_low v.meta.gear in_range.gear in
          record {
            rows = λ r lr lu clean.
                st.lies.hard_blocks r d lr ld (rebuilt count fresh lu) ∙ st.clean r d lr ld (all_clean r d lr clean) ∙ sym (value_is r d lr ld);
            stripes = λ s ls lu.
                let below = stripes_gear d v.meta.gear (stripe_count g.disks g.rows v.meta.gear) s ls in
                st.lies.soft_blocks s d below.1 below.0 (rebuilt count fresh lu)
                ∙ sym (stripe_block_is s d below.1 below.0) ∙ stripe_gone v s d o;
            map_blocks = λ j low lj lu.
                let units = stripes_below v d (omega arith) in
                let apart : v.out ≢ Some (other_log d) = only_out v.out d (other_log d) o (λ z. absurd (omega arith)) in
                st.lies.map_blocks j d lj low (rebuilt count fresh (omega arith)) ∙ sym (st.lies.map_blocks j (other_log d) lj (omega arith) (there apart));
          }

      pub well_kept : IsWellKept slots power size v
      well_kept = record {
        rows = λ r lr. xor_upto_same (value v r) (val r) g.disks (λ d ld. value_is r d lr ld) ∙ zero_rows r lr;
        stripes = λ off s ls.
            xor_upto_same (stripe g v.block v.meta.gear s) (st.soft s) v.meta.gear
            (λ e le. st.lies.soft_blocks s e ls le (there (λ is. let k = off e is in absurd (omega arith))))
            ∙ st.copies.sums s ls;
        filled = λ none s ls. filled_is s ls;
        clean = λ r d lr low ld apart clean. st.lies.hard_blocks r d lr ld (there apart) ∙ st.clean r d lr ld clean ∙ sym (value_is r d lr ld);
        rebuilt = rebuilt_is;
        map = record {
          mirrored = λ j lj first second. st.lies.map_blocks j 0 lj (omega arith) (there first) ∙ sym (st.lies.map_blocks j 1 lj (omega arith) (there second));
          rows = bits.rows;
          parked = bits.parked;
          disks = bits.disks;
        };
        disks = disks;
      }
