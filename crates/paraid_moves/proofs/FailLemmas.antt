-- A disk that fails, is attached anew, is rebuilt and joins again.
use Rattle.paraid_image.specs.Mark.{meta_after_loss}
use Rattle.std.specs.Prelude.{◌≡◌, ◌≢◌, ℕ, ◌+◌, ◌*◌, ◌/◌, ◌<◌, ◌≤◌, Bool, true, List, Option, Some, None, slice_index}
use Rattle.std.proofs.Common.{refl, sym, ◌∙◌, ap, subst, arith, inl, inr, zero, suc}
use Rattle.std.proofs.lemmas.Bool.{cases_eq}
use Rattle.std.proofs.lemmas.Bool.Decides.{nat_tests}
use Rattle.paraid_base.specs.declared.geometry.Geometry.{Geometry}
use Rattle.paraid_base.specs.declared.state.Out.{Out}
use Rattle.paraid_base.specs.declared.state.Out.TheVariants.{No, Gone, Fresh}
use Rattle.paraid_base.specs.History.{History}
use Rattle.paraid_base.specs.Regions.{disk_size, map_count, map_place_of}
use Rattle.paraid_rack.specs.declared.call.Power.{Power}
use Rattle.paraid_rack.specs.declared.call.Power.TheVariants.{Spinning, Parked}
use Rattle.paraid_rack.specs.Disks.{is_present}
use Rattle.paraid_record.specs.declared.meta.Meta.{Meta}
use Rattle.paraid_record.specs.Range.{IsInRange, rebuild_units}
use Rattle.paraid_image.specs.Content.{view_by}
use Rattle.paraid_image.specs.Out.{first_absent, named_out, or_else, out_disk}
use Rattle.paraid_image.specs.Sound.{AreDisks, AreRebuilt, IsFresh, stripes_on}
use Rattle.paraid_image.specs.Spot.{map_bit, map_disk}
use Rattle.paraid_image.specs.Standing.{Contents, other_log}
use Rattle.paraid_image.proofs.ViewLemmas.{content_without, dirty_without, map_bit_same, map_disk_other}
use Rattle.paraid_moves.specs.MoveMetas.{meta_with_out, view_with_out}
use Rattle.paraid_moves.proofs.MoveLemmas.{HoldUnder, Ok, all_in}
use Rattle.paraid_moves.proofs.RebuildLemmas.{disk_joined, disk_marked_out, units_marked}

named_is_out : (power : ℕ → Power) (m : Meta) (o : Out) (d : ℕ) → m.out ≡ o → named_out o ≡ Some d → out_disk power m ≡ Some d
named_is_out power m o d is named =
    ap (λ (x : Out). or_else (named_out x) (first_absent power m.setup.geometry.disks)) is
    ∙ ap (λ (x : Option ℕ). or_else x (first_absent power m.setup.geometry.disks)) named

first_absent_none : (power : ℕ → Power) (n : ℕ) → ((e : ℕ) → e < n → is_present (power e) ≡ true) → first_absent power n ≡ None
unfolding first_absent
first_absent_none power zero there = refl
first_absent_none power (suc n) there =
    rw (first_absent_none power n (λ e l. there e (omega arith)), there n (omega arith)) refl

-- no disk is out where all are there and none is named
pub no_disk_is_out : (power : ℕ → Power) (m : Meta) → m.out ≡ No → ((e : ℕ) → e < m.setup.geometry.disks → is_present (power e) ≡ true) → out_disk power m ≡ None
no_disk_is_out power m none there =
    ap (λ (x : Out). or_else (named_out x) (first_absent power m.setup.geometry.disks)) none ∙ first_absent_none power m.setup.geometry.disks there

module _ (slots : ℕ) (power : ℕ → Power) (size : ℕ → ℕ) (h : History) (k : ℕ) (m : Meta) (f : Contents) (d : ℕ) where
  abbrev g : Geometry
  g = m.setup.geometry

  abbrev bits : Option ℕ → Contents → ℕ → ℕ → Bool
  bits o x = map_bit m.setup.geometry (x (map_disk o))

  -- The out disk is marked as gone.
  pub marks_gone : (spins : List ℕ) → out_disk power m ≡ Some d → ((e : ℕ) → e ≢ d → slice_index spins e ≡ slice_index m.spins e)
      → HoldUnder slots power size h k m f → HoldUnder slots power size h k (record (meta_after_loss m d) { spins = spins }) f
  marks_gone spins out others ok =
      disk_marked_out slots power size m d (bits (Some d) f) f h k
      (subst (λ (o : Option ℕ). Ok slots power size h k m o f) out ok) spins others

  -- A disk is failed by command: it is marked as gone where none was out.
  pub fails : (spins : List ℕ) → IsInRange m → out_disk power m ≡ None → ((e : ℕ) → e ≢ d → slice_index spins e ≡ slice_index m.spins e)
      → HoldUnder slots power size h k m f → HoldUnder slots power size h k (record (meta_after_loss m d) { spins = spins }) f
  fails spins in_range none others ok =
      let here : Ok slots power size h k m None f = subst (λ (o : Option ℕ). Ok slots power size h k m o f) none ok in
      let no_fresh : (e u : ℕ) → IsFresh power m e u → ⊥ = (λ e u fresh. let z : No ≡ Fresh e u = sym (all_in power m none) ∙ fresh.is in cc) in
      let same : (x q : ℕ) → x ≢ d → f x q ≡ f x q = (λ x q apart. refl) in
      let ready : AreDisks slots power size m (Some d) = record {
        enough = here.kept.disks.enough;
        log_disks = here.kept.disks.log_disks;
        large = λ e l there not. here.kept.disks.large e l there (λ z. cc);
        fresh_large = here.kept.disks.fresh_large;
        below_gear = λ e l not. here.kept.disks.below_gear e l (λ z. cc);
        fresh_spins = here.kept.disks.fresh_spins;
        recorded = λ to e up low high parked not. here.kept.disks.recorded to e up low high parked (λ z. cc);
      } in
      disk_marked_out slots power size m d (bits (Some d) f) f h k
      (content_without m (bits None f) (bits (Some d) f) None f f d (inl refl) same
      (dirty_without m.setup.geometry None f f d (inl refl) same (λ j l z. here.kept.map.mirrored j l (λ y. cc) (λ y. cc))) in_range
      slots power power size size h k no_fresh ready here) spins others

  -- A disk of zeros, or of any blocks, is attached in the place of the gone one; none of its units is rebuilt.
  module _ (in_range : IsInRange m) (power_after : ℕ → Power) (size_after : ℕ → ℕ) (after : Contents) (ld : d < m.setup.geometry.disks) (gone : m.out ≡ Gone d)
      (powers : (e : ℕ) → e ≢ d → power_after e ≡ power e) (sizes : (e : ℕ) → e ≢ d → size_after e ≡ size e)
      (spins : power_after d ≡ Spinning) (large : disk_size m.setup.geometry ≤ size_after d)
      (same : (x q : ℕ) → x ≢ d → after x q ≡ f x q) (ok : HoldUnder slots power size h k m f) where
    was_out : out_disk power m ≡ Some d
    was_out = named_is_out power m (Gone d) d gone refl

    was_ok : Ok slots power size h k m (Some d) f
    was_ok = subst (λ (o : Option ℕ). Ok slots power size h k m o f) was_out ok

    gone_fresh : (e u : ℕ) → IsFresh power_after m e u → ⊥
    gone_fresh e u fresh = let z : Gone d ≡ Fresh e u = sym gone ∙ fresh.is in cc

    off : (e : ℕ) → Some d ≢ Some e → e ≢ d
    off e not is = not (ap Some (sym is))

    not_parked : (e : ℕ) → power_after e ≡ Parked → e ≢ d
    not_parked e parked is = let z : Parked ≡ Spinning = sym parked ∙ ap power_after is ∙ spins in cc

    ready : AreDisks slots power_after size_after m (Some d)
    ready =
        let was = was_ok.kept.disks in
        record {
          enough = was.enough;
          log_disks = λ e l parked. let apart = not_parked e parked in was.log_disks e l (sym (powers e apart) ∙ parked);
          large = λ e l there not.
              let old = was.large e l (ap is_present (sym (powers e (off e not))) ∙ there) not in
              rw (sizes e (off e not)) old;
          fresh_large = λ e u fresh. absurd (gone_fresh e u fresh);
          below_gear = λ e l not. powers e (off e not) ∙ was.below_gear e l not;
          fresh_spins = λ e u fresh. absurd (gone_fresh e u fresh);
          recorded = λ to e up low high parked not. was.recorded to e up low high (sym (powers e (off e not)) ∙ parked) not;
        }

    -- while it is still named gone
    pub attaches : HoldUnder slots power_after size_after h k m after
    attaches =
        subst (λ (o : Option ℕ). Ok slots power_after size_after h k m o after) (sym (named_is_out power_after m (Gone d) d gone refl))
        (content_without m (bits (Some d) f) (bits (Some d) after) (Some d) f after d (inr refl) same
        (λ r e l. map_bit_same m.setup.geometry (after (map_disk (Some d))) (f (map_disk (Some d))) r e (same (map_disk (Some d)) (map_place_of m.setup.geometry r) (map_disk_other d)))
        in_range slots power power_after size size_after h k gone_fresh ready was_ok)

  -- So many units are marked as rebuilt.
  pub marks_units : (units : ℕ) → d < m.setup.geometry.disks → out_disk power m ≡ Some d
      → (is_present (power d) ≡ true → AreRebuilt (view_by m power f) d units)
      → (is_present (power d) ≡ true → disk_size m.setup.geometry ≤ size d) → (is_present (power d) ≡ true → power d ≡ Spinning)
      → HoldUnder slots power size h k m f → HoldUnder slots power size h k (meta_with_out m (Fresh d units)) f
  marks_units units ld out rebuilt large spins ok =
      units_marked slots power size m d (bits (Some d) f) f h k
      (subst (λ (o : Option ℕ). Ok slots power size h k m o f) out ok) units
      (λ there. subst (λ (o : Option ℕ). AreRebuilt (view_with_out m o f) d units) out (rebuilt there)) large spins ld

  no_units : AreRebuilt (view_by m power f) d 0
  no_units = record {
    rows = λ r lr l clean. absurd (omega arith);
    stripes = λ s ls l. absurd (omega arith);
    map_blocks = λ j low lj l. absurd (omega arith);
  }

  -- A disk that was attached is marked as fresh, with no unit rebuilt.
  pub marks_fresh : d < m.setup.geometry.disks → m.out ≡ Gone d → power d ≡ Spinning → disk_size m.setup.geometry ≤ size d
      → HoldUnder slots power size h k m f → HoldUnder slots power size h k (meta_with_out m (Fresh d 0)) f
  marks_fresh ld gone spins large ok =
      marks_units 0 ld (named_is_out power m (Gone d) d gone refl) (λ there. no_units) (λ there. large) (λ there. spins) ok

  other_first : d ≢ 0 → map_disk (Some d) ≡ 0
  other_first not = grind (arith, nat_tests)

  units_first : d ≡ 0 → (j : ℕ) → j < map_count m.setup.geometry
      → m.setup.geometry.rows + stripes_on (view_by m power f) d + j < rebuild_units m.setup.geometry m.gear d
  units_first is j l = rw is (omega arith)

  -- the map of disk 0 is again that of disk 1
  map_first : d ≡ 0 → AreRebuilt (view_with_out m (Some d) f) d (rebuild_units m.setup.geometry m.gear d) → (r : ℕ) → r < 512 * map_count m.setup.geometry
      → f 0 (map_place_of m.setup.geometry r) ≡ f (map_disk (Some d)) (map_place_of m.setup.geometry r)
  map_first is rebuilt r l =
      ap (λ (x : ℕ). f x (map_place_of m.setup.geometry r)) (sym is)
      ∙ rebuilt.map_blocks (r / 512) (omega arith) (omega arith) (units_first is (r / 512) (omega arith))
      ∙ ap (λ (x : ℕ). f (other_log x) (map_place_of m.setup.geometry r)) is
      ∙ ap (λ (x : ℕ). f (map_disk (Some x)) (map_place_of m.setup.geometry r)) (sym is)

  -- All its units are rebuilt: it joins again.
  pub joins : (units : ℕ) → IsInRange m → d < m.setup.geometry.disks → m.out ≡ Fresh d units → units ≡ rebuild_units m.setup.geometry m.gear d → m.fill ≡ 0
      → ((e : ℕ) → e < m.setup.geometry.disks → is_present (power e) ≡ true)
      → HoldUnder slots power size h k m f → HoldUnder slots power size h k (meta_with_out m No) f
  joins units in_range ld fresh all empty there ok =
      let out : out_disk power m ≡ Some d = named_is_out power m (Fresh d units) d fresh refl in
      let here : Ok slots power size h k m (Some d) f = subst (λ (o : Option ℕ). Ok slots power size h k m o f) out ok in
      let is_fresh : IsFresh power m d units = record { is = fresh; present = there d ld } in
      let rebuilt : AreRebuilt (view_with_out m (Some d) f) d (rebuild_units m.setup.geometry m.gear d) =
      subst (λ (u : ℕ). AreRebuilt (view_with_out m (Some d) f) d u) all (here.kept.rebuilt d units is_fresh) in
      subst (λ (o : Option ℕ). Ok slots power size h k (meta_with_out m No) o f) (sym (no_disk_is_out power (meta_with_out m No) refl there))
      (disk_joined slots power size m d (bits (Some d) f) f h k here in_range ld empty rebuilt
      (here.kept.disks.fresh_large d units is_fresh) (here.kept.disks.fresh_spins d units is_fresh) (bits None f)
      (λ r e l. map_bit_same m.setup.geometry (f (map_disk None)) (f (map_disk (Some d))) r e (joined_map rebuilt r l)))
    where
      joined_map : AreRebuilt (view_with_out m (Some d) f) d (rebuild_units m.setup.geometry m.gear d) → (r : ℕ) → r < 512 * map_count m.setup.geometry
          → f (map_disk None) (map_place_of m.setup.geometry r) ≡ f (map_disk (Some d)) (map_place_of m.setup.geometry r)
      joined_map rebuilt r l = elim (cases_eq d 0) [
        | inl is ↦ map_first is rebuilt r l
        | inr not ↦ ap (λ (x : ℕ). f x (map_place_of m.setup.geometry r)) (sym (other_first not))
      ]
